-- Settling the seats of a segment, one member after the other, and that it leaves a book. Assumes nothing.
use Rattle.std.proofs.Common.{◌≡◌, ℕ, ◌+◌, ◌-◌, ◌≤◌, max, true, false, List, get_or, set, sym, refl, ap, ◌∙◌, ⊎_elim, arith}
use Rattle.std.proofs.lemmas.Bool.{cases_Bool, cases_eq, cond-true, cond-false}
use Rattle.terms.specs.Limits.{amount_limit, figure_limit, minimum_limit, rounding_step}
use Rattle.terms.proofs.Dividing.{rounded_mono, up_mean}
use Rattle.tables.specs.Book.{Book, IsMember, IsSegment, Sound, no_seat, place, seat_at, shares}
use Rattle.tables.specs.Writing.{mean_of, written_to}
use Rattle.tables.specs.declared.records.Pledges.{Pledges}
use Rattle.tables.specs.declared.records.Seat.{Seat}
use Rattle.tables.proofs.SeatKinds.{empty_back, exempt_back, kind_empty, kind_exempt, kind_sharing, known_back, sharing_back}
use Rattle.tables.proofs.Segments.{unwritten, write_step, written_book}
use Rattle.strike.specs.declared.rows.Row.{Row}
use Rattle.strike.specs.Promises.{AsksBounded}
use Rattle.strike.specs.Rows.{ask_in, unasked}
use Rattle.strike.specs.Strike.{members_in, settled, settled_by}

module _ (t : List Seat) (s : ℕ) (rows : List Row) where
  -- what becomes of a member's seat
  abbrev pub becomes : ℕ → Seat
  becomes m = settled (ask_in rows m) (seat_at t m s)

  pub settle_step : (m i : ℕ) (seats : List Seat) (new : Seat) → IsSegment s → seats ≡ written_to m t s becomes → i ≡ place (m + 1) s → new ≡ settled (get_or rows m unasked).ask (get_or seats i no_seat) → set seats i new ≡ written_to (m + 1) t s becomes
  settle_step m i seats new is e at en =
      let back : m + 1 - 1 ≡ m = omega arith in
      write_step t s becomes m i seats new e at
      (en ∙ ap (λ (x : Seat). settled (get_or rows m unasked).ask x) (unwritten t s becomes m i seats is e at) ∙ ap (λ (k : ℕ). settled (get_or rows k unasked).ask (seat_at t (m + 1) s)) (sym back))

-- a seat that is settled by an ask that a book can have is sound
settled_sound : (x : Seat) (ask : ℕ) → Sound x → (shares x.class ≡ true → (x.minimum ≤ ask) × (ask ≤ amount_limit)) → Sound (settled ask x)
settled_sound x ask so h = record {
  kind = ⊎_elim
      (λ (yes : shares x.class ≡ true).
      let z = sharing_back x so.kind yes in
      let is : (settled ask x).asked ≡ ask = cond-true (shares x.class) ask x.asked yes in
      kind_sharing (settled ask x) yes (record { minimum = z.minimum; asked = (omega (arith, is, (h yes).0), omega (arith, is, (h yes).1)) }))
      (λ (no' : shares x.class ≡ false).
      let is : (settled ask x).asked ≡ x.asked = cond-false (shares x.class) ask x.asked no' in
      ⊎_elim
      (λ (none : x.class ≡ 0).
      let e = empty_back x none so.kind in
      kind_empty (settled ask x) none (record { class = none; minimum = e.minimum; held = e.held; asked = is ∙ e.asked; sum = refl; days = refl; day = e.day; figure = e.figure }))
      (λ (some : x.class ≡ 0 → ⊥).
      let z = exempt_back x so.kind (omega arith) no' in
      kind_exempt (settled ask x) (known_back x so.kind (omega arith)) no' (record { minimum = z.minimum; asked = is ∙ z.asked; held = z.held }))
      (cases_eq x.class 0))
      (cases_Bool (shares x.class));
  ranged = record { days = omega arith; sum = omega arith; figure = so.ranged.figure; day = so.ranged.day };
}

-- a strike whose asks keep their bounds leaves a book
pub struck_book : (t : List Seat) (p : List Pledges) (s size : ℕ) (rows : List Row) → Book t p → IsSegment s → AsksBounded (members_in t s) size rows → Book (settled_by t s rows) p
struck_book t p s size rows book is bounds =
    let sound : (m : ℕ) → IsMember m → Sound (seat_at t m s) = λ m im. book.sound (place m s) (omega (arith, book.seats, im.0, im.1, is.0, is.1)) in
    written_book t s (becomes t s rows) is book.seats p book
    (λ m im. settled_sound (seat_at t m s) (ask_in rows m) (sound m im)
    (λ yes.
    let x = seat_at t m s in
    let mean : mean_of x ≤ figure_limit = up_mean x.sum x.days figure_limit (sound m im).ranged.sum in
    let least : x.minimum ≤ minimum_limit = (sharing_back x (sound m im).kind yes).minimum.1 in
    let top = rounded_mono rounding_step (max x.minimum (mean_of x)) amount_limit (omega arith) (omega arith) in
    (bounds.least m im yes, omega (arith, bounds.most m im yes, top))))
    (λ m im. refl)
    (book.ceiling s is)
