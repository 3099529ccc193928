-- Each call leaves a book. Assumes nothing.
use Rattle.std.proofs.Common.{◌≡◌, ℕ, zero, suc, ◌+◌, ◌-◌, ◌<◌, ◌≤◌, true, false, List, length, get_or, replicate, is_some, Ok, Err, MatchBool, Result, sym, refl, ap, ◌∙◌, subst, ⊎_elim, arith}
use Rattle.std.proofs.lemmas.List.{length-replicate}
use Rattle.std.proofs.lemmas.Bool.{cases_Bool}
use Rattle.terms.specs.Classes.{class_of}
use Rattle.terms.specs.Limits.{all_pledges, all_seats, amount_limit, last_member, minimum_limit, most_days}
use Rattle.terms.specs.declared.refusals.Refusal.{Refusal}
use Rattle.terms.proofs.Adding.{sum_to_zero}
use Rattle.figures.specs.declared.kinds.Numbers.{Numbers}
use Rattle.tables.specs.Book.{Book, IsMember, IsSegment, Kind, Pledged, Sound, no_pledges, no_seat, place, seat_at, shares}
use Rattle.tables.specs.declared.records.Pledges.{Pledges}
use Rattle.tables.specs.declared.records.Seat.{Seat}
use Rattle.fund.specs.Calls.{Admit, BookFigure, Depart, Make, MinimumFits, PaidFits, Pay, Withdraw, admitted, booked, holding}
use Rattle.fund.specs.Laws.{BooksStay, InRange}
use Rattle.tables.proofs.SeatKinds.{exempt_back, kind_exempt, kind_sharing, known_back, sharing_back}
use Rattle.fund.proofs.Staying.{put_book}

sound_at : (t : List Seat) (p : List Pledges) (m s : ℕ) → Book t p → IsMember m → IsSegment s → Sound (seat_at t m s)
sound_at t p m s b im is = b.sound (place m s) (omega (arith, b.seats, im.0, im.1, is.0, is.1))

-- tables that stayed
kept : (t t' : List Seat) (p : List Pledges) → Book t p → t' ≡ t → Book t' p
kept t t' p b e = subst (λ x. Book x p) (sym e) b

-- a seat of the same class has no other seat unlike it
same_class : (t : List Seat) (p : List Pledges) (m s : ℕ) → Book t p → IsMember m → IsSegment s → 1 ≤ (seat_at t m s).class → (g : ℕ) → IsSegment g → 1 ≤ (seat_at t m g).class → (seat_at t m g).class ≡ (seat_at t m s).class
same_class t p m s b im is some g ig other = b.alike m im s is some g ig other

admitted_sound : (c minimum paid : ℕ) → is_some (class_of c) ≡ true → MinimumFits c minimum → PaidFits c minimum paid → Sound (admitted c minimum paid)
admitted_sound c minimum paid some low fits = record {
  kind = ⊎_elim
      (λ (e : shares c ≡ true).
      let a = subst (λ b. MatchBool b ((1 ≤ minimum) × (minimum ≤ minimum_limit)) (minimum ≡ 0)) e low in
      kind_sharing (admitted c minimum paid) e (record { minimum = a; asked = (omega arith, omega (arith, a.1)) }))
      (λ (e : shares c ≡ false).
      let a = subst (λ b. MatchBool b ((1 ≤ minimum) × (minimum ≤ minimum_limit)) (minimum ≡ 0)) e low in
      let d = subst (λ b. MatchBool b ((minimum ≤ paid) × (paid ≤ amount_limit)) (paid ≡ 0)) e fits in
      kind_exempt (admitted c minimum paid) some e (record { minimum = a; asked = a; held = d }))
      (cases_Bool (shares c));
  ranged = record { days = omega arith; sum = omega arith; figure = omega arith; day = omega arith };
}

pub admit_stays : (t : List Seat) (p : List Pledges) (m s c minimum paid : ℕ) (r : Result (Unit {0}) Refusal) (t' : List Seat) → Book t p → Admit t p m s c minimum paid r t' → Book t' p
admit_stays t p m s c minimum paid (Err e) t' b h = kept t t' p b h.1
admit_stays t p m s c minimum paid (Ok u) t' b ((_, (im, (is, (free, ((some, alike), (low, (fits, (room, _)))))))), e) =
    subst (λ x. Book x p) (sym e)
    (put_book t m s (admitted c minimum paid) im is b.seats p b (admitted_sound c minimum paid some low fits)
    (λ g ig _ other _. alike g ig other)
    (omega (arith, room)))

-- a taken seat keeps its kind while class, minimum, asked and held stay
kind_kept : (x y : Seat) → 1 ≤ x.class → y.class ≡ x.class → y.minimum ≡ x.minimum → y.asked ≡ x.asked → y.held ≡ x.held → Kind x → Kind y
kind_kept x y some c m a h k = ⊎_elim
    (λ (e : shares x.class ≡ true).
    let z = sharing_back x k e in
    kind_sharing y (ap shares c ∙ e) (record { minimum = (omega (arith, z.minimum.0), omega (arith, z.minimum.1)); asked = (omega (arith, z.asked.0), omega (arith, z.asked.1)) }))
    (λ (e : shares x.class ≡ false).
    let z = exempt_back x k some e in
    kind_exempt y (ap (λ n. is_some (class_of n)) c ∙ known_back x k some) (ap shares c ∙ e) (record { minimum = m ∙ z.minimum; asked = a ∙ z.asked; held = h ∙ z.held }))
    (cases_Bool (shares x.class))

booked_sound : (f : Numbers) (x : Seat) → InRange f → Sound x → 1 ≤ x.class → x.days < most_days → Sound (booked f x)
booked_sound f x fits so some few = record {
  kind = kind_kept x (booked f x) some refl refl refl refl so.kind;
  ranged = record { days = omega (arith, few); sum = omega (arith, so.ranged.sum, fits.amount); figure = fits.amount; day = fits.day };
}

pub book_stays : (t : List Seat) (p : List Pledges) (f : Numbers) (r : Result (Unit {0}) Refusal) (t' : List Seat) → InRange f → Book t p → BookFigure t p f r t' → Book t' p
book_stays t p f (Err e) t' fits b h = kept t t' p b h.1
book_stays t p f (Ok u) t' fits b ((_, (some, (later, (few, _)))), e) =
    let x : Seat = seat_at t f.member f.segment in
    let im = fits.member in
    let is = fits.segment in
    subst (λ y. Book y p) (sym e)
    (put_book t f.member f.segment (booked f x) im is b.seats p b (booked_sound f x fits (sound_at t p f.member f.segment b im is) some few)
    (λ g ig _ other _. same_class t p f.member f.segment b im is some g ig other)
    (omega (arith, b.ceiling f.segment is)))

holding_sound : (x : Seat) (held : ℕ) → Sound x → shares x.class ≡ true → Sound (holding held x)
holding_sound x held so e =
    let z = sharing_back x so.kind e in
    record { kind = kind_sharing (holding held x) e (record { minimum = z.minimum; asked = z.asked }); ranged = record { days = so.ranged.days; sum = so.ranged.sum; figure = so.ranged.figure; day = so.ranged.day } }

pub pay_stays : (t : List Seat) (p : List Pledges) (m s amount : ℕ) (r : Result (Unit {0}) Refusal) (t' : List Seat) → Book t p → Pay t p m s amount r t' → Book t' p
pay_stays t p m s amount (Err e) t' b h = kept t t' p b h.1
pay_stays t p m s amount (Ok u) t' b ((_, (im, (is, (some, (share, (a, (room, _))))))), e) =
    subst (λ y. Book y p) (sym e)
    (put_book t m s (holding ((seat_at t m s).held + amount) (seat_at t m s)) im is b.seats p b (holding_sound (seat_at t m s) ((seat_at t m s).held + amount) (sound_at t p m s b im is) share)
    (λ g ig _ other _. same_class t p m s b im is some g ig other)
    (omega (arith, room)))

-- a seat from which something can be taken shares
holds_shares : (x : Seat) → Kind x → 1 ≤ x.class → 1 ≤ x.held → shares x.class ≡ true
holds_shares x k some held = ⊎_elim
    (λ (e : shares x.class ≡ true). e)
    (λ (e : shares x.class ≡ false). let z = exempt_back x k some e in absurd (omega (arith, z.held)))
    (cases_Bool (shares x.class))

pub withdraw_stays : (t : List Seat) (p : List Pledges) (m s amount : ℕ) (r : Result (Unit {0}) Refusal) (t' : List Seat) → Book t p → Withdraw t p m s amount r t' → Book t' p
withdraw_stays t p m s amount (Err e) t' b h = kept t t' p b h.1
withdraw_stays t p m s amount (Ok u) t' b ((_, (im, (is, (some, (a, (left, _)))))), e) =
    let so = sound_at t p m s b im is in
    let share = holds_shares (seat_at t m s) so.kind some (omega (arith, a.0, left)) in
    subst (λ y. Book y p) (sym e)
    (put_book t m s (holding ((seat_at t m s).held - amount) (seat_at t m s)) im is b.seats p b (holding_sound (seat_at t m s) ((seat_at t m s).held - amount) so share)
    (λ g ig _ other _. same_class t p m s b im is some g ig other)
    (omega (arith, b.ceiling s is)))

empty_sound : Sound no_seat
empty_sound = record {
  kind = record { class = refl; minimum = refl; held = refl; asked = refl; sum = refl; days = refl; day = refl; figure = refl };
  ranged = record { days = omega arith; sum = omega arith; figure = omega arith; day = omega arith };
}

pub depart_stays : (t : List Seat) (p : List Pledges) (m s : ℕ) (r : Result ℕ Refusal) (t' : List Seat) → Book t p → Depart t p m s r t' → Book t' p
depart_stays t p m s (Err e) t' b h = kept t t' p b h.1
depart_stays t p m s (Ok held) t' b ((_, (im, (is, _))), (_, e)) =
    subst (λ y. Book y p) (sym e)
    (put_book t m s no_seat im is b.seats p b empty_sound
    (λ g ig some _ _. absurd (omega (arith, some)))
    (omega (arith, b.ceiling s is)))

-- tables of zeros
blank_at : (n k : ℕ) → get_or (replicate n no_seat) k no_seat ≡ no_seat
blank_at zero k = refl
blank_at (suc n) zero = refl
blank_at (suc n) (suc k) = blank_at n k

unpledged_at : (n k : ℕ) → get_or (replicate n no_pledges) k no_pledges ≡ no_pledges
unpledged_at zero k = refl
unpledged_at (suc n) zero = refl
unpledged_at (suc n) (suc k) = unpledged_at n k

blank_book : (n q : ℕ) → n ≡ all_seats → q ≡ all_pledges → Book (replicate n no_seat) (replicate q no_pledges)
blank_book n q a b = record {
  seats = length-replicate n no_seat ∙ a;
  pledges = length-replicate q no_pledges ∙ b;
  sound = λ k l. subst Sound (sym (blank_at n k)) empty_sound;
  pledged = λ k l. subst Pledged (sym (unpledged_at q k)) (record { individual = omega arith; extraordinary = omega arith });
  alike = λ m im g ig some. absurd (omega (arith, some, ap (λ (x : Seat). x.class) (blank_at n (place m g))));
  ceiling = λ s is. omega (arith, sum_to_zero last_member (λ k. (seat_at (replicate n no_seat) (k + 1) s).held) (λ k l. ap (λ (x : Seat). x.held) (blank_at n (place (k + 1) s))));
}

pub make_stays : (t : List Seat) (p : List Pledges) (t' : List Seat) (p' : List Pledges) → Make t p (Ok tt) t' p' → Book t' p'
make_stays t p t' p' (((a, b), _), (e, f)) = subst (λ x. Book x p') (sym e) (subst (λ y. Book (replicate (length t) no_seat) y) (sym f) (blank_book (length t) (length p) a b))

pub stay : BooksStay
stay = record { make = make_stays; admit = admit_stays; book = book_stays; pay = pay_stays; withdraw = withdraw_stays; depart = depart_stays }
