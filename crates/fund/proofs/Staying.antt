-- A book in which one seat is written is a book still. Assumes nothing.
use Rattle.std.proofs.Common.{◌≡◌, ℕ, ◌+◌, ◌-◌, ◌<◌, ◌≤◌, List, length, get_or, sym, ap, ◌∙◌, subst, ⊎_elim, arith, length-set, get_or-set_other, get_or-set_same}
use Rattle.std.proofs.lemmas.Bool.{cases_eq}
use Rattle.terms.specs.Limits.{all_seats, held_limit, last_member}
use Rattle.terms.proofs.Adding.{sum_to_changed, sum_to_same}
use Rattle.tables.specs.Book.{Book, IsMember, IsSegment, OneClass, Sound, held_in, no_seat, place, seat_at}
use Rattle.tables.specs.declared.records.Pledges.{Pledges}
use Rattle.tables.specs.declared.records.Seat.{Seat}
use Rattle.fund.specs.Calls.{put}

module _ (t : List Seat) (m s : ℕ) (x : Seat) (im : IsMember m) (is : IsSegment s) (long : length t ≡ all_seats) where
  inside : place m s < length t
  inside = omega (arith, im.0, im.1, is.0, is.1)

  here : seat_at (put t m s x) m s ≡ x
  here = get_or-set_same t (place m s) x no_seat inside

  there : (k : ℕ) → (k ≡ place m s → ⊥) → get_or (put t m s x) k no_seat ≡ get_or t k no_seat
  there k ne = get_or-set_other t (place m s) k x no_seat ne

  other_member : (j g : ℕ) → IsMember j → IsSegment g → (j ≡ m → ⊥) → seat_at (put t m s x) j g ≡ seat_at t j g
  other_member j g ij ig ne = there (place j g) (λ e. ne (omega (arith, im.0, is.0, is.1, ij.0, ig.0, ig.1)))

  other_segment : (g : ℕ) → IsSegment g → (g ≡ s → ⊥) → seat_at (put t m s x) m g ≡ seat_at t m g
  other_segment g ig ne = there (place m g) (λ e. ne (omega (arith, im.0, is.0, is.1, ig.0, ig.1)))

  -- what the segment holds changes by what the seat does
  held_here : held_in (put t m s x) s + (seat_at t m s).held ≡ held_in t s + x.held
  held_here =
      let old : ℕ → ℕ = λ k. (seat_at t (k + 1) s).held in
      let new : ℕ → ℕ = λ k. (seat_at (put t m s x) (k + 1) s).held in
      let at : m - 1 + 1 ≡ m = omega (arith, im.0) in
      let was : old (m - 1) ≡ (seat_at t m s).held = ap (λ k. (seat_at t k s).held) at in
      let is' : new (m - 1) ≡ x.held = ap (λ k. (seat_at (put t m s x) k s).held) at ∙ ap (λ (y : Seat). y.held) here in
      omega (arith, was, is', sum_to_changed last_member old new (m - 1) (omega (arith, im.0, im.1)) (λ k l ne. ap (λ (y : Seat). y.held) (sym (other_member (k + 1) s (omega arith, omega arith) is (λ e. ne (omega arith))))))

  held_there : (g : ℕ) → IsSegment g → (g ≡ s → ⊥) → held_in (put t m s x) g ≡ held_in t g
  held_there g ig ne = sum_to_same last_member (λ k. (seat_at (put t m s x) (k + 1) g).held) (λ k. (seat_at t (k + 1) g).held) (λ k l. ap (λ (y : Seat). y.held) (there (place (k + 1) g) (λ e. ne (omega (arith, im.0, is.0, is.1, ig.0, ig.1)))))

  module _ (p : List Pledges) (book : Book t p) (sound : Sound x)
      (alike : (g : ℕ) → IsSegment g → 1 ≤ x.class → 1 ≤ (seat_at t m g).class → (g ≡ s → ⊥) → (seat_at t m g).class ≡ x.class)
      (room : held_in t s + x.held ≤ held_limit + (seat_at t m s).held) where
    all_sound : (k : ℕ) → k < length (put t m s x) → Sound (get_or (put t m s x) k no_seat)
    all_sound k l = ⊎_elim
        (λ (e : k ≡ place m s). subst (λ i. Sound (get_or (put t m s x) i no_seat)) (sym e) (subst Sound (sym here) sound))
        (λ (ne : k ≡ place m s → ⊥). subst Sound (sym (there k ne)) (book.sound k (omega (arith, length-set t (place m s) x))))
        (cases_eq k (place m s))

    class_here : (seat_at (put t m s x) m s).class ≡ x.class
    class_here = ap (λ (y : Seat). y.class) here

    -- a seat of the member in another segment, against the one that is written
    like_new : (g : ℕ) → IsSegment g → (g ≡ s → ⊥) → 1 ≤ (seat_at (put t m s x) m s).class → 1 ≤ (seat_at (put t m s x) m g).class → (seat_at (put t m s x) m g).class ≡ (seat_at (put t m s x) m s).class
    like_new g ig ne a b =
        let same = ap (λ (y : Seat). y.class) (other_segment g ig ne) in
        same ∙ alike g ig (omega (arith, class_here)) (omega (arith, same)) ne ∙ sym class_here

    mine : OneClass (put t m s x) m
    mine g ig a h ih b = ⊎_elim
        (λ (eg : g ≡ s). ⊎_elim
        (λ (eh : h ≡ s). ap (λ k. (seat_at (put t m s x) m k).class) (eh ∙ sym eg))
        (λ (nh : h ≡ s → ⊥). like_new h ih nh (subst (λ k. 1 ≤ (seat_at (put t m s x) m k).class) eg a) b ∙ ap (λ k. (seat_at (put t m s x) m k).class) (sym eg))
        (cases_eq h s))
        (λ (ng : g ≡ s → ⊥). ⊎_elim
        (λ (eh : h ≡ s). ap (λ k. (seat_at (put t m s x) m k).class) eh ∙ sym (like_new g ig ng (subst (λ k. 1 ≤ (seat_at (put t m s x) m k).class) eh b) a))
        (λ (nh : h ≡ s → ⊥).
        let sg = ap (λ (y : Seat). y.class) (other_segment g ig ng) in
        let sh = ap (λ (y : Seat). y.class) (other_segment h ih nh) in
        sh ∙ book.alike m im g ig (omega (arith, sg)) h ih (omega (arith, sh)) ∙ sym sg)
        (cases_eq h s))
        (cases_eq g s)

    others : (j : ℕ) → IsMember j → (j ≡ m → ⊥) → OneClass (put t m s x) j
    others j ij ne g ig a h ih b =
        let sg = ap (λ (y : Seat). y.class) (other_member j g ij ig ne) in
        let sh = ap (λ (y : Seat). y.class) (other_member j h ij ih ne) in
        sh ∙ book.alike j ij g ig (omega (arith, sg)) h ih (omega (arith, sh)) ∙ sym sg

    pub put_book : Book (put t m s x) p
    put_book = record {
      seats = length-set t (place m s) x ∙ long;
      pledges = book.pledges;
      sound = all_sound;
      pledged = book.pledged;
      alike = λ j ij. ⊎_elim (λ (e : j ≡ m). subst (OneClass (put t m s x)) (sym e) mine) (λ (ne : j ≡ m → ⊥). others j ij ne) (cases_eq j m);
      ceiling = λ g ig. ⊎_elim
          (λ (e : g ≡ s). subst (λ k. held_in (put t m s x) k ≤ held_limit) (sym e) (omega (arith, held_here, room)))
          (λ (ne : g ≡ s → ⊥). omega (arith, held_there g ig ne, book.ceiling g ig))
          (cases_eq g s);
    }
