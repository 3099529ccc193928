-- A loss leaves a book that holds so much less. Assumes nothing.
use Rattle.std.proofs.Common.{◌≡◌, ℕ, ◌+◌, ◌-◌, true, false, List, refl, ap, ◌∙◌, ⊎_elim, arith}
use Rattle.std.proofs.lemmas.Bool.{cases_Bool, cases_eq}
use Rattle.terms.specs.Limits.{last_member}
use Rattle.terms.specs.Sums.{sum_to}
use Rattle.terms.proofs.Adding.{sum_to_minus}
use Rattle.tables.specs.Book.{Book, IsMember, IsSegment, Kind, Sound, held_in, place, seat_at, shares}
use Rattle.tables.specs.declared.records.Pledges.{Pledges}
use Rattle.tables.specs.declared.records.Seat.{Seat}
use Rattle.tables.proofs.SeatKinds.{empty_back, exempt_back, kind_empty, kind_exempt, kind_sharing, known_back, sharing_back}
use Rattle.tables.proofs.Segments.{held_here, written_book}
use Rattle.house.specs.Loss.{charged_all, charged_by, holders_in}
use Rattle.house.specs.Promises.{ChargesFair}
use Rattle.house.specs.Rows.{amount_in}

-- who does not share holds nothing
unshared_held : (x : Seat) → Kind x → shares x.class ≡ false → x.held ≡ 0
unshared_held x k h = ⊎_elim
    (λ (e : x.class ≡ 0). (empty_back x e k).held)
    (λ (ne : x.class ≡ 0 → ⊥). (exempt_back x k (omega arith) h).held)
    (cases_eq x.class 0)

-- a seat that is charged
charged_sound : (x : Seat) (c : ℕ) → Sound x → Sound (charged_by c x)
charged_sound x c so = record {
  kind = ⊎_elim
      (λ (yes : shares x.class ≡ true).
      let z = sharing_back x so.kind yes in
      kind_sharing (charged_by c x) yes (record { minimum = z.minimum; asked = z.asked }))
      (λ (no' : shares x.class ≡ false).
      let none : x.held - c ≡ 0 = omega (arith, unshared_held x so.kind no') in
      ⊎_elim
      (λ (e : x.class ≡ 0).
      let z = empty_back x e so.kind in
      kind_empty (charged_by c x) e (record { class = e; minimum = z.minimum; held = none; asked = z.asked; sum = z.sum; days = z.days; day = z.day; figure = z.figure }))
      (λ (some : x.class ≡ 0 → ⊥).
      let z = exempt_back x so.kind (omega arith) no' in
      kind_exempt (charged_by c x) (known_back x so.kind (omega arith)) no' (record { minimum = z.minimum; asked = z.asked; held = none }))
      (cases_eq x.class 0))
      (cases_Bool (shares x.class));
  ranged = record { days = so.ranged.days; sum = so.ranged.sum; figure = so.ranged.figure; day = so.ranged.day };
}

module _ (t : List Seat) (p : List Pledges) (s : ℕ) (book : Book t p) (is : IsSegment s) where
  sound : (m : ℕ) → IsMember m → Sound (seat_at t m s)
  sound m im = book.sound (place m s) (omega (arith, book.seats, im.0, im.1, is.0, is.1))

  pub quiet : (m : ℕ) → IsMember m → (holders_in t s).shares m ≡ false → (holders_in t s).held m ≡ 0
  quiet m im h = unshared_held (seat_at t m s) (sound m im).kind h

  module _ (d a : ℕ) (charges : List ℕ) (fair : ChargesFair (holders_in t s) d a charges) where
    -- what is left of every seat
    left_is : sum_to last_member (λ k. (charged_by (amount_in charges (k + 1)) (seat_at t (k + 1) s)).held) + a ≡ held_in t s
    left_is =
        omega (arith, sum_to_minus last_member (λ k. (seat_at t (k + 1) s).held) (λ k. amount_in charges (k + 1)) (λ k l. fair.within (k + 1) (omega arith, omega arith)), fair.all)

    pub held_falls : held_in (charged_all t s charges) s + a ≡ held_in t s
    held_falls = ap (λ (v : ℕ). v + a) (held_here t s (λ m. charged_by (amount_in charges m) (seat_at t m s)) is book.seats) ∙ left_is

    pub loss_book : Book (charged_all t s charges) p
    loss_book = written_book t s (λ m. charged_by (amount_in charges m) (seat_at t m s)) is book.seats p book
        (λ m im. charged_sound (seat_at t m s) (amount_in charges m) (sound m im))
        (λ m im. refl)
        (omega (arith, book.ceiling s is, left_is))
