use Rattle.std.proofs.Common.{◌≡◌, ℕ, ◌+◌, ◌<◌, ◌≤◌, Bool, true, false, length, set, sym, ap, ◌∙◌, arith}
use Rattle.asks.specs.Steps.{ask_at}
use Rattle.sizing.specs.Meant.{means_of}
use Rattle.tables.specs.Book.{shares}
use Rattle.tables.specs.declared.records.Seat.{Seat}
use Rattle.tables.proofs.MemberRows.{rows_more}
use Rattle.strike.specs.Rows.{row_at, unasked}
use Rattle.strike.specs.Strike.{members_in}
use Rattle.strike.proofs.Listing.{count, count_few, count_no, count_none, count_yes}
use Rattle.strike.proofs.Telling.{row_by, row_no, row_yes}
use Rattle.strike.proofs.sharing.StruckSegment.tell.Goals as goal
use Rattle.strike.proofs.sharing.StruckSegment.tell.Goals.{then-shares, else-shares}

pub loop-member-init : goal.loop-member-init
loop-member-init g c =
    let x = members_in c.args.self.now.tables.seats.all.now c.args.self.now.segment.number in
    let e : c.into_iter-member-iterator.result.passed ≡ 0 = (cc) in
    (sym (ap (count x.shares) e ∙ count_none x.shares), λ j low le. absurd (omega arith))

pub overflow_add-place : goal.overflow_add-place
overflow_add-place g c =
    let x = members_in c.args.self.now.tables.seats.all.now c.args.self.now.segment.number in
    omega (arith, c.loop-member.invariant.0, count_few x.shares c.loop-member.member-iterator.passed, c.in-Some.ensures.steps.0)

pub loop-member-preserved : goal.loop-member-preserved
loop-member-preserved g c =
    let x = members_in c.args.self.now.tables.seats.all.now c.args.self.now.segment.number in
    let k = c.loop-member.member-iterator.passed in
    let m = c.in-Some.member.number in
    let steps = c.in-Some.ensures.steps in
    let inv = c.loop-member.invariant in
    let ask : ℕ → ℕ = ask_at c.args.fund.now.quotas.size c.args.fund.now.sharers.minimums.now (means_of c.args.fund.now.sharers.means.now) in
    let mark : ℕ → Bool = g.R.SizingRule.marking c.args.rule.now (means_of c.args.means.now) in
    let row : c.index.result ≡ k = omega (arith, c.index.ensures.is, steps.1) in
    let lt : k < length c.loop-member.rows = omega (arith, c.requires, steps.0) in
    let same : shares c.seat.result.class ≡ x.shares m = ap (λ (y : Seat). shares y.class) c.seat.ensures.is in
    let none : c.default-row.result ≡ unasked = ap (λ (a : ℕ). record { ask = a; marked = c.default-row.result.marked }) c.default-row.ensures.0 ∙ ap (λ (b : Bool). record { ask = 0; marked = b }) c.default-row.ensures.1 in
    -- the rows up to the next member, where its own is right
    let more : c.if-shares.row ≡ row_by x ask mark (k + 1) → (j : ℕ) → 1 ≤ j → j ≤ c.next.new.self.passed → row_at (set c.loop-member.rows c.index.result c.if-shares.row) j ≡ row_by x ask mark j = λ e j low le.
    ap (λ (i : ℕ). row_at (set c.loop-member.rows i c.if-shares.row) j) row ∙ rows_more unasked (row_by x ask mark) c.loop-member.rows k c.if-shares.row lt inv.1 e j low (omega (arith, le, steps.2)) in
    elim c.if-shares.branch [
      | then-shares w ↦
          let yes : x.shares m ≡ true = sym same ∙ sym w.if-shares.ensures in (
            w.place-is ∙ ap (λ (i : ℕ). i + 1) inv.0 ∙ sym (count_yes x.shares k (sym (ap x.shares steps.1) ∙ yes)) ∙ ap (count x.shares) (sym steps.2),
            more (w.row-is ∙ row_yes x ask mark k m c.loop-member.place w.ask.result w.marked.result steps.1 yes inv.0 w.ask.ensures w.marked.ensures),
          )
      | else-shares w ↦
          let no' : x.shares m ≡ false = sym same ∙ sym w.if-shares.ensures in (
            w.place-is ∙ inv.0 ∙ sym (count_no x.shares k (sym (ap x.shares steps.1) ∙ no')) ∙ ap (count x.shares) (sym steps.2),
            more (w.row-is ∙ none ∙ row_no x ask mark k m steps.1 no'),
          )
    ]
