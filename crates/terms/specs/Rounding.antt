-- Division and amounts, rounded up.
use Rattle.std.specs.Prelude.{ℕ, ◌+◌, ◌-◌, ◌*◌, ◌/◌}

-- a / b rounded up, and 0 where b is 0
abbrev pub up : ℕ → ℕ → ℕ
up a b = (a + (b - 1)) / b

-- an amount rounded up to a multiple of the step
abbrev pub rounded_to : ℕ → ℕ → ℕ
rounded_to step a = up a step * step
