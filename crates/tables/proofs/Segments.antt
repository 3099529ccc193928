-- A segment whose seats are written anew: what then stands where, and that it leaves a book. Assumes nothing.
use Rattle.std.proofs.Common.{◌≡◌, ℕ, zero, suc, ◌+◌, ◌/◌, ◌%◌, ◌<◌, ◌≤◌, List, length, get_or, set, sym, refl, ap, ◌∙◌, subst, ⊎_elim, add-one, arith, length-set, get_or-set_other, get_or-set_same}
use Rattle.std.proofs.lemmas.Bool.{cases_eq}
use Rattle.terms.specs.Limits.{all_seats, held_limit, last_member}
use Rattle.terms.specs.Sums.{sum_to}
use Rattle.terms.proofs.Adding.{sum_to_same}
use Rattle.tables.specs.Book.{Book, IsMember, IsSegment, Sound, held_in, no_seat, place, seat_at}
use Rattle.tables.specs.Writing.{written, written_to}
use Rattle.tables.specs.declared.records.Pledges.{Pledges}
use Rattle.tables.specs.declared.records.Seat.{Seat}

-- each place is some member's in some segment
member_at : ℕ → ℕ
member_at k = k / 5 + 1

segment_at : ℕ → ℕ
segment_at k = k % 5 + 1

place_back : (k : ℕ) → k < all_seats → IsMember (member_at k) × IsSegment (segment_at k) × (place (member_at k) (segment_at k) ≡ k)
unfolding member_at segment_at
place_back k l = ((omega arith, omega arith), (omega arith, omega arith), omega arith)

-- what holds of every seat by member and segment holds at every place
pub everywhere : (P : Seat → Type 0) (t : List Seat) → ((m g : ℕ) → IsMember m → IsSegment g → P (seat_at t m g)) → (k : ℕ) → k < all_seats → P (get_or t k no_seat)
everywhere P t h k l =
    let b = place_back k l in
    subst (λ (i : ℕ). P (get_or t i no_seat)) b.2 (h (member_at k) (segment_at k) b.0 b.1)

-- two places are one only for one member and one segment
apart : (m g n s : ℕ) → 1 ≤ m → 1 ≤ n → IsSegment g → IsSegment s → place m g ≡ place n s → (m ≡ n) × (g ≡ s)
apart m g n s lm ln ig is e = (omega (arith, ig.0, ig.1, is.0, is.1), omega (arith, ig.0, ig.1, is.0, is.1))

module _ (t : List Seat) (s : ℕ) (seat : ℕ → Seat) where
  pub none_written : written_to 0 t s seat ≡ t
  unfolding written_to
  none_written = refl

  pub one_written : (n : ℕ) → written_to (suc n) t s seat ≡ set (written_to n t s seat) (place (suc n) s) (seat (suc n))
  unfolding written_to
  one_written n = refl

  pub written_long : (n : ℕ) → length (written_to n t s seat) ≡ length t
  written_long zero = ap length none_written
  written_long (suc n) = ap length (one_written n) ∙ length-set (written_to n t s seat) (place (suc n) s) (seat (suc n)) ∙ written_long n

  module _ (is : IsSegment s) where
    -- a seat of another segment, or of a member after those written
    pub written_not : (n m g : ℕ) → 1 ≤ m → IsSegment g → ((g ≡ s) → n < m) → seat_at (written_to n t s seat) m g ≡ seat_at t m g
    written_not zero m g lm ig out = ap (λ (x : List Seat). seat_at x m g) none_written
    written_not (suc n) m g lm ig out =
        ap (λ (x : List Seat). seat_at x m g) (one_written n)
        ∙ get_or-set_other (written_to n t s seat) (place (suc n) s) (place m g) (seat (suc n)) no_seat (λ e. let b = apart m g (suc n) s lm (omega arith) ig is e in omega (arith, b.0, out b.1))
        ∙ written_not n m g lm ig (λ e. omega (arith, out e))

    -- a seat of a member that is written
    pub written_here : (n m : ℕ) → length t ≡ all_seats → n ≤ last_member → 1 ≤ m → m ≤ n → seat_at (written_to n t s seat) m s ≡ seat m
    written_here zero m long few lm le = absurd (omega arith)
    written_here (suc n) m long few lm le =
        ap (λ (x : List Seat). seat_at x m s) (one_written n)
        ∙ ⊎_elim
        (λ (e : m ≡ suc n).
        subst (λ (j : ℕ). seat_at (set (written_to n t s seat) (place (suc n) s) (seat (suc n))) j s ≡ seat j) (sym e)
        (get_or-set_same (written_to n t s seat) (place (suc n) s) (seat (suc n)) no_seat (omega (arith, written_long n, is.0, is.1))))
        (λ (ne : m ≡ suc n → ⊥).
        get_or-set_other (written_to n t s seat) (place (suc n) s) (place m s) (seat (suc n)) no_seat (λ e. ne (apart m s (suc n) s lm (omega arith) is is e).0)
        ∙ written_here n m long (omega arith) lm (omega arith))
        (cases_eq m (suc n))

-- the seat of the next member is written
pub write_step : (t : List Seat) (s : ℕ) (seat : ℕ → Seat) (m i : ℕ) (seats : List Seat) (new : Seat) → seats ≡ written_to m t s seat → i ≡ place (m + 1) s → new ≡ seat (m + 1) → set seats i new ≡ written_to (m + 1) t s seat
write_step t s seat m i seats new e at en =
    ap (λ (l : List Seat). set l i new) e
    ∙ ap (λ (k : ℕ). set (written_to m t s seat) k new) at
    ∙ ap (λ (x : Seat). set (written_to m t s seat) (place (m + 1) s) x) en
    ∙ rw add-one (sym (one_written t s seat m))

-- until then it is as it was
pub unwritten : (t : List Seat) (s : ℕ) (seat : ℕ → Seat) (m i : ℕ) (seats : List Seat) → IsSegment s → seats ≡ written_to m t s seat → i ≡ place (m + 1) s → get_or seats i no_seat ≡ seat_at t (m + 1) s
unwritten t s seat m i seats is e at =
    ap (λ (k : ℕ). get_or seats k no_seat) at ∙ ap (λ (l : List Seat). seat_at l (m + 1) s) e ∙ written_not t s seat is m (m + 1) s (omega arith) is (λ _. omega arith)

-- the whole segment
module _ (t : List Seat) (s : ℕ) (seat : ℕ → Seat) (is : IsSegment s) (long : length t ≡ all_seats) where
  pub here : (m : ℕ) → IsMember m → seat_at (written t s seat) m s ≡ seat m
  here m im = written_here t s seat is last_member m long (omega arith) im.0 im.1

  pub others : (m g : ℕ) → IsMember m → IsSegment g → (g ≡ s → ⊥) → seat_at (written t s seat) m g ≡ seat_at t m g
  others m g im ig ne = written_not t s seat is last_member m g im.0 ig (λ e. absurd (ne e))

  pub held_here : held_in (written t s seat) s ≡ sum_to last_member (λ k. (seat (k + 1)).held)
  held_here = sum_to_same last_member (λ k. (seat_at (written t s seat) (k + 1) s).held) (λ k. (seat (k + 1)).held) (λ k l. ap (λ (x : Seat). x.held) (here (k + 1) (omega arith, omega arith)))

  held_others : (g : ℕ) → IsSegment g → (g ≡ s → ⊥) → held_in (written t s seat) g ≡ held_in t g
  held_others g ig ne = sum_to_same last_member (λ k. (seat_at (written t s seat) (k + 1) g).held) (λ k. (seat_at t (k + 1) g).held) (λ k l. ap (λ (x : Seat). x.held) (others (k + 1) g (omega arith, omega arith) ig ne))

  module _ (p : List Pledges) (book : Book t p) (sound : (m : ℕ) → IsMember m → Sound (seat m)) (class : (m : ℕ) → IsMember m → (seat m).class ≡ (seat_at t m s).class) (held : sum_to last_member (λ k. (seat (k + 1)).held) ≤ held_limit) where
    classes : (m g : ℕ) → IsMember m → IsSegment g → (seat_at (written t s seat) m g).class ≡ (seat_at t m g).class
    classes m g im ig = ⊎_elim
        (λ (e : g ≡ s). subst (λ (i : ℕ). (seat_at (written t s seat) m i).class ≡ (seat_at t m i).class) (sym e) (ap (λ (x : Seat). x.class) (here m im) ∙ class m im))
        (λ (ne : g ≡ s → ⊥). ap (λ (x : Seat). x.class) (others m g im ig ne))
        (cases_eq g s)

    sounds : (m g : ℕ) → IsMember m → IsSegment g → Sound (seat_at (written t s seat) m g)
    sounds m g im ig = ⊎_elim
        (λ (e : g ≡ s). subst (λ (i : ℕ). Sound (seat_at (written t s seat) m i)) (sym e) (subst Sound (sym (here m im)) (sound m im)))
        (λ (ne : g ≡ s → ⊥). subst Sound (sym (others m g im ig ne)) (book.sound (place m g) (omega (arith, long, im.0, im.1, ig.0, ig.1))))
        (cases_eq g s)

    pub written_book : Book (written t s seat) p
    written_book = record {
      seats = written_long t s seat last_member ∙ long;
      pledges = book.pledges;
      sound = λ k l. everywhere Sound (written t s seat) sounds k (omega (arith, written_long t s seat last_member, long));
      pledged = book.pledged;
      alike = λ m im g ig some h ih other.
          classes m h im ih
          ∙ book.alike m im g ig (omega (arith, some, classes m g im ig)) h ih (omega (arith, other, classes m h im ih))
          ∙ sym (classes m g im ig);
      ceiling = λ g ig. ⊎_elim
          (λ (e : g ≡ s). subst (λ (i : ℕ). held_in (written t s seat) i ≤ held_limit) (sym e) (omega (arith, held, held_here)))
          (λ (ne : g ≡ s → ⊥). omega (arith, book.ceiling g ig, held_others g ig ne))
          (cases_eq g s);
    }
