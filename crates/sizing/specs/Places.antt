-- The first largest of a list of numbers, and the first largest among the rest.
use Rattle.std.specs.Prelude.{ℕ, ◌+◌, Bool, cond, not, ◌&&◌, ◌||◌, List, [], ◌∷◌, length, ◌==◌, nat_lt, slice_index}

-- xs stands from place i on; b is the best place so far, and v what stands there; the place `skip` is left out
abbrev pub pick : ℕ → ℕ → ℕ → ℕ → List ℕ → ℕ
pick skip b v i [] = b
pick skip b v i (x ∷ xs) = cond (not (i == skip) && nat_lt v x) (pick skip i x (i + 1) xs) (pick skip b v (i + 1) xs)

-- the first largest among the place `start` and those that are not `skip`
abbrev pub pick_from : ℕ → ℕ → List ℕ → ℕ
pick_from skip start means = pick skip start (slice_index means start) 0 means

abbrev pub first : List ℕ → ℕ
first means = pick_from (length means) 0 means

abbrev pub second : List ℕ → ℕ
second means = pick_from (first means) (cond (first means == 0) 1 0) means

abbrev pub is_in_list : List ℕ → ℕ → Bool
is_in_list means k = nat_lt k (length means)

abbrev pub cover_one : List ℕ → ℕ → Bool
cover_one means k = is_in_list means k && k == first means

abbrev pub cover_two : List ℕ → ℕ → Bool
cover_two means k = is_in_list means k && (k == first means || k == second means)
