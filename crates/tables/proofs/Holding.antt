-- What the seats of the first members hold in a segment, one member more. Assumes nothing.
use Rattle.std.proofs.Common.{◌≡◌, ℕ, ◌+◌, ◌-◌, ◌≤◌, List, ap, ◌∙◌, arith}
use Rattle.terms.specs.Limits.{last_member}
use Rattle.terms.specs.Sums.{sum_to}
use Rattle.terms.proofs.Adding.{at_le_sum_to, sum_to_mono, sum_to_more}
use Rattle.tables.specs.Book.{IsMember, held_in, seat_at}
use Rattle.tables.specs.declared.records.Seat.{Seat}

module _ (t : List Seat) (s : ℕ) where
  abbrev pub held_by : ℕ → ℕ
  held_by n = sum_to n (λ k. (seat_at t (k + 1) s).held)

  -- x is the seat of the next member
  pub held_next : (n m : ℕ) (x : Seat) → x ≡ seat_at t m s → m ≡ n + 1 → held_by (n + 1) ≡ held_by n + x.held
  held_next n m x e q =
      let here = ap (λ (y : Seat). y.held) e ∙ ap (λ (i : ℕ). (seat_at t i s).held) q in
      omega (arith, sum_to_more n (λ k. (seat_at t (k + 1) s).held))

  pub held_part : (n : ℕ) → n ≤ last_member → held_by n ≤ held_in t s
  held_part n l = sum_to_mono n last_member (λ k. (seat_at t (k + 1) s).held) l

  -- what one seat holds is part of what its segment holds
  pub seat_within : (m : ℕ) → IsMember m → (seat_at t m s).held ≤ held_in t s
  seat_within m is =
      let f : ℕ → ℕ = λ k. (seat_at t (k + 1) s).held in
      let here : m - 1 + 1 ≡ m = omega (arith, is.0) in
      let same : f (m - 1) ≡ (seat_at t m s).held = ap (λ k. (seat_at t k s).held) here in
      omega (arith, at_le_sum_to last_member f (m - 1) (omega (arith, is.0, is.1)), same)
