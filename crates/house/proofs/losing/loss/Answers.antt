use Rattle.std.proofs.Common.{◌≡◌, ◌≤◌, min, set, sym, refl, ap, ◌∙◌, subst, arith, rules}
use Rattle.tables.specs.Book.{Book, held_in, seat_at, shares}
use Rattle.tables.specs.declared.records.Seat.{Seat}
use Rattle.house.specs.Holders.{own_of, stake_of}
use Rattle.house.specs.Loss.{holders_in}
use Rattle.house.proofs.Bearing.{Bearable, Borne, are_fair, is_borne, stakes_small}
use Rattle.house.proofs.losing.loss.Goals as goal
use Rattle.house.proofs.losing.loss.Goals.{After-stakes_against-stakes, After-min-own, In_ok-seat}

bearable : (c : After-stakes_against-stakes) → Bearable c.args.seats.now c.args.pledges.now c.in_ok-segment.segment.number c.in_ok-member.member.number c.number-amount.result c.stakes_against-stakes.result
bearable c =
    let t = c.args.seats.now in
    let s = c.in_ok-segment.segment.number in
    let d = c.in_ok-member.member.number in
    let book : (c.in_ok-tables.tables.seats.all.now ≡ t) × Book t c.args.pledges.now = search rules in
    record {
      book = book.1;
      member = c.in_ok-member.member.known;
      segment = c.in_ok-segment.segment.known;
      within = omega (arith, c.if-amount-held_in.false, c.held_in.ensures, ap (λ t. held_in t s) book.0);
      long = omega arith;
      are = λ m im. c.stakes_against-stakes.ensures m im ∙ ap (λ t. stake_of (holders_in t s) d m) book.0;
    }

seat : (c : In_ok-seat) → (c.in_ok-seat.seat ≡ seat_at c.args.seats.now c.in_ok-member.member.number c.in_ok-segment.segment.number) × (1 ≤ c.in_ok-seat.seat.class)
seat c =
    let book : (c.in_ok-tables.tables.seats.all.now ≡ c.args.seats.now) × Book c.args.seats.now c.args.pledges.now = search rules in
    let here : c.in_ok-seat.seat ≡ seat_at c.in_ok-tables.tables.seats.all.now c.in_ok-member.member.number c.in_ok-segment.segment.number = search rules in
    let taken : 1 ≤ c.in_ok-seat.seat.class = search rules in
    (here ∙ ap (λ t. seat_at t c.in_ok-member.member.number c.in_ok-segment.segment.number) book.0, taken)

own : (c : After-min-own) → c.min-own.result ≡ own_of (holders_in c.args.seats.now c.in_ok-segment.segment.number) c.in_ok-member.member.number c.number-amount.result
own c = c.min-own.ensures ∙ ap (λ (x : Seat). min x.held c.number-amount.result) ((seat (goal.at.After-min-own c).In_ok-seat).0)

pub split-requires-clause-whole : goal.split-requires-clause-whole
split-requires-clause-whole c = stakes_small _ _ _ _ _ _ (bearable (goal.at.split-requires-clause-whole c).After-stakes_against-stakes)

pub charge_all-requires-clause-enough : goal.charge_all-requires-clause-enough
charge_all-requires-clause-enough c =
    let at = goal.at.charge_all-requires-clause-enough c in
    (are_fair _ _ _ _ _ _ (bearable at.After-stakes_against-stakes) c.min-own.result c.index.result c.split.new.parts (omega (arith, c.split.auto.parts)) (own at.After-min-own) c.index.ensures.is c.split.ensures).within

pub returns : goal.returns
returns c =
    let t = c.args.seats.now in
    let p = c.args.pledges.now in
    let s = c.in_ok-segment.segment.number in
    let d = c.in_ok-member.member.number in
    let a = c.number-amount.result in
    let at = goal.at.returns c in
    let here = seat at.In_ok-seat in
    let typed = is_borne _ _ _ _ _ _ (bearable at.After-stakes_against-stakes) c.min-own.result c.index.result c.split.new.parts (omega (arith, c.split.auto.parts)) (own at.After-min-own) c.index.ensures.is c.split.ensures c.args.charges.now c.charge_all.new.seats
    (omega arith) (subst (λ (x : Seat). 1 ≤ x.class) here.0 here.1) (sym (c.if-not-shares.ensures ∙ ap (λ (x : Seat). shares x.class) here.0)) c.number-amount.ensures.known c.charge_all.ensures in
    let charges = set c.split.new.parts c.index.result c.min-own.result in
    let given : Borne t p c.args.segment c.args.member c.args.amount c.args.charges.now c.charge_all.new.seats charges =
    subst (λ a. Borne t p c.args.segment c.args.member a c.args.charges.now c.charge_all.new.seats charges) (search rules)
    (subst (λ d. Borne t p c.args.segment d a c.args.charges.now c.charge_all.new.seats charges) (search rules)
    (subst (λ s. Borne t p s d a c.args.charges.now c.charge_all.new.seats charges) (search rules) typed)) in
    record { is = given.is; fair = given.fair; held = given.held; book = given.book }
