-- The list that a `Means` stands for.
use Rattle.std.specs.Prelude.{ℕ, List, take}
use Rattle.sizing.specs.declared.means.Means.{Means}

abbrev pub means_of : Means → List ℕ
means_of m = take m.count m.list
