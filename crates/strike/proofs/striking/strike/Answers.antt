use Rattle.std.proofs.Common.{rules, ◌≡◌, ℕ, List, sym, refl, ap, ◌∙◌, subst, Err, Result, arith}
use Rattle.std.proofs.lemmas.Bool.{true≢false}
use Rattle.terms.specs.declared.refusals.Refusal.{Refusal}
use Rattle.terms.specs.declared.refusals.Refusal.TheVariants as refusals
use Rattle.asks.specs.Steps.{ask_at}
use Rattle.sizing.specs.Lists.{AreMeans, sum_of}
use Rattle.sizing.specs.Marks.{size_of}
use Rattle.sizing.specs.Meant.{means_of as means_list}
use Rattle.sizing.specs.Picks.{are_means}
use Rattle.sizing.specs.Sizes.{size_at_most_sum}
use Rattle.tables.specs.Book.{Book, IsMember, IsSegment}
use Rattle.strike.specs.Members.{means_of, minimums_of}
use Rattle.strike.specs.Promises.{AsksBounded}
use Rattle.strike.specs.Rows.{Told, row_at}
use Rattle.strike.specs.Strike.{EachSharing, Figured, Paid, Strike, members_in, settled_by}
use Rattle.strike.proofs.Judging.{bounded, carried, leaves_book, none_shares, one_has_none, one_is_short, struck, too_large}
use Rattle.strike.proofs.Telling.{row_by, told}
use Rattle.strike.proofs.striking.strike.Goals as goal

pub returns-in_err-means-clause-is : goal.returns-in_err-means-clause-is
returns-in_err-means-clause-is g c =
    let t = c.args.seats.now in
    let p = c.args.pledges.now in
    let s = c.args.segment in
    let rows = c.args.rows.now in
    let marking = g.R.SizingRule.marking c.args.rule.now in
    let T = c.in_ok-tables.tables.seats.all.now in
    let S = c.in_ok-segment.segment in
    let eT : T ≡ t = search rules in
    let eS : S.number ≡ s = search rules in
    let book : Book t p = search rules in
    let seg : IsSegment s = subst IsSegment eS S.known in
    let list = c.gather-means.result.means.items in
    let means = carried (λ u k. list ≡ means_of (members_in u k)) T t S.number s eT eS c.gather-means.ensures.means in
    let long = c.if-rows-ne-ALL_MEMBERS.false in
    let is : c.from_residual-in_err-means.result ≡ Err refusals.NoneShares = search rules in
    let none : AreMeans list → ⊥ = search rules in
    subst (λ (r : Result ℕ Refusal). Strike t p s marking rows r t rows) (sym is) (none_shares t p s marking rows book seg long list means c.gather-means.ensures.small none)

pub returns-then-not-all_paid-clause-is : goal.returns-then-not-all_paid-clause-is
returns-then-not-all_paid-clause-is g c =
    let t = c.args.seats.now in
    let p = c.args.pledges.now in
    let s = c.args.segment in
    let rows = c.args.rows.now in
    let marking = g.R.SizingRule.marking c.args.rule.now in
    let T = c.in_ok-tables.tables.seats.all.now in
    let S = c.in_ok-segment.segment in
    let eT : T ≡ t = search rules in
    let eS : S.number ≡ s = search rules in
    let book : Book t p = search rules in
    let seg : IsSegment s = subst IsSegment eS S.known in
    let list = c.gather-means.result.means.items in
    let means = carried (λ u k. list ≡ means_of (members_in u k)) T t S.number s eT eS c.gather-means.ensures.means in
    let long = c.if-rows-ne-ALL_MEMBERS.false in
    let M = c.in_ok-means.means in
    let eM : means_list M ≡ list = search rules in
    let are : AreMeans list = subst AreMeans eM (are_means M) in
    let no' : EachSharing t s Paid → ⊥ = carried (λ u k. EachSharing u k Paid → ⊥) T t S.number s eT eS (λ h. true≢false (sym (c.if-not-all_paid.ensures.1 h))) in
    one_is_short t p s marking rows book seg long list means are no'

pub returns-then-not-all_figured-clause-is : goal.returns-then-not-all_figured-clause-is
returns-then-not-all_figured-clause-is g c =
    let t = c.args.seats.now in
    let p = c.args.pledges.now in
    let s = c.args.segment in
    let rows = c.args.rows.now in
    let marking = g.R.SizingRule.marking c.args.rule.now in
    let T = c.in_ok-tables.tables.seats.all.now in
    let S = c.in_ok-segment.segment in
    let eT : T ≡ t = search rules in
    let eS : S.number ≡ s = search rules in
    let book : Book t p = search rules in
    let seg : IsSegment s = subst IsSegment eS S.known in
    let list = c.gather-means.result.means.items in
    let means = carried (λ u k. list ≡ means_of (members_in u k)) T t S.number s eT eS c.gather-means.ensures.means in
    let long = c.if-rows-ne-ALL_MEMBERS.false in
    let M = c.in_ok-means.means in
    let eM : means_list M ≡ list = search rules in
    let are : AreMeans list = subst AreMeans eM (are_means M) in
    let paid : EachSharing t s Paid = carried (λ u k. EachSharing u k Paid) T t S.number s eT eS (c.if-not-all_paid.ensures.0 refl) in
    let no' : EachSharing t s Figured → ⊥ = carried (λ u k. EachSharing u k Figured → ⊥) T t S.number s eT eS (λ h. true≢false (sym (c.if-not-all_figured.ensures.1 h))) in
    one_has_none t p s marking rows book seg long list means are paid no'

pub returns-then-size-gt-FUND_LIMIT-clause-is : goal.returns-then-size-gt-FUND_LIMIT-clause-is
returns-then-size-gt-FUND_LIMIT-clause-is g c =
    let t = c.args.seats.now in
    let p = c.args.pledges.now in
    let s = c.args.segment in
    let rows = c.args.rows.now in
    let marking = g.R.SizingRule.marking c.args.rule.now in
    let T = c.in_ok-tables.tables.seats.all.now in
    let S = c.in_ok-segment.segment in
    let eT : T ≡ t = search rules in
    let eS : S.number ≡ s = search rules in
    let book : Book t p = search rules in
    let seg : IsSegment s = subst IsSegment eS S.known in
    let list = c.gather-means.result.means.items in
    let means = carried (λ u k. list ≡ means_of (members_in u k)) T t S.number s eT eS c.gather-means.ensures.means in
    let long = c.if-rows-ne-ALL_MEMBERS.false in
    let M = c.in_ok-means.means in
    let eM : means_list M ≡ list = search rules in
    let are : AreMeans list = subst AreMeans eM (are_means M) in
    let paid : EachSharing t s Paid = carried (λ u k. EachSharing u k Paid) T t S.number s eT eS (c.if-not-all_paid.ensures.0 refl) in
    let figured : EachSharing t s Figured = carried (λ u k. EachSharing u k Figured) T t S.number s eT eS (c.if-not-all_figured.ensures.0 refl) in
    let size = c.size-size.result in
    let sz : size ≡ size_of (marking list) list = c.size-size.ensures ∙ ap (λ (l : List ℕ). size_of (marking l) l) eM in
    too_large t p s marking rows book seg long list means are paid figured size sz c.if-size-gt-FUND_LIMIT.true

pub fund-fund-requires-clause-covered : goal.fund-fund-requires-clause-covered
fund-fund-requires-clause-covered g c =
    let ms = means_list c.in_ok-means.means in
    let same : means_list c.of.result.means.now ≡ ms = search rules in
    omega (arith, c.size-size.ensures, size_at_most_sum (g.R.SizingRule.marking c.args.rule.now ms) ms, ap sum_of same)

pub returns : goal.returns
returns g c =
    let t = c.args.seats.now in
    let p = c.args.pledges.now in
    let s = c.args.segment in
    let rows = c.args.rows.now in
    let marking = g.R.SizingRule.marking c.args.rule.now in
    let T = c.in_ok-tables.tables.seats.all.now in
    let S = c.in_ok-segment.segment in
    let eT : T ≡ t = search rules in
    let eS : S.number ≡ s = search rules in
    let book : Book t p = search rules in
    let seg : IsSegment s = subst IsSegment eS S.known in
    let list = c.gather-means.result.means.items in
    let means = carried (λ u k. list ≡ means_of (members_in u k)) T t S.number s eT eS c.gather-means.ensures.means in
    let long = c.if-rows-ne-ALL_MEMBERS.false in
    let M = c.in_ok-means.means in
    let eM : means_list M ≡ list = search rules in
    let are : AreMeans list = subst AreMeans eM (are_means M) in
    let paid : EachSharing t s Paid = carried (λ u k. EachSharing u k Paid) T t S.number s eT eS (c.if-not-all_paid.ensures.0 refl) in
    let figured : EachSharing t s Figured = carried (λ u k. EachSharing u k Figured) T t S.number s eT eS (c.if-not-all_figured.ensures.0 refl) in
    let size = c.size-size.result in
    let sz : size ≡ size_of (marking list) list = c.size-size.ensures ∙ ap (λ (l : List ℕ). size_of (marking l) l) eM in
    let new = c.tell.new.rows in
    let F = c.fund-fund.result in
    let mins = c.gather-means.result.minimums.items in
    let minimums = carried (λ u k. mins ≡ minimums_of (members_in u k)) T t S.number s eT eS c.gather-means.ensures.minimums in
    let eF : F.quotas.size ≡ size = search rules in
    let eL : F.sharers.minimums.now ≡ mins = search rules in
    let eS' : means_list F.sharers.means.now ≡ list = search rules in
    let x = members_in t s in
    let by : (m : ℕ) → IsMember m → row_at new m ≡ row_by x (ask_at size mins list) (marking list) m = λ m im.
    carried (λ u k. row_at new m ≡ row_by (members_in u k) (ask_at F.quotas.size F.sharers.minimums.now (means_list F.sharers.means.now)) (marking (means_list M)) m) T t S.number s eT eS (c.tell.ensures m im)
    ∙ ap (λ (a : ℕ). row_by x (ask_at a F.sharers.minimums.now (means_list F.sharers.means.now)) (marking (means_list M)) m) eF
    ∙ ap (λ (l : List ℕ). row_by x (ask_at size l (means_list F.sharers.means.now)) (marking (means_list M)) m) eL
    ∙ ap (λ (l : List ℕ). row_by x (ask_at size mins l) (marking (means_list M)) m) eS'
    ∙ ap (λ (l : List ℕ). row_by x (ask_at size mins list) (marking l) m) eM in
    let done : Told x marking size new = told x marking size list mins new means minimums sz (omega arith) by in
    let settled : c.settle_all.new.seats ≡ settled_by t s new = c.settle_all.ensures ∙ ap (λ (k : ℕ). settled_by t k new) eS in
    let bounds : AsksBounded x size new = bounded t p s marking rows book seg long list means are (g.met.R.SizingRule.lawful c.args.rule.now) size new done in
    record {
      is = struck t p s marking rows book seg long list means are paid figured size sz c.if-size-gt-FUND_LIMIT.false c.settle_all.new.seats new settled done;
      bounded = bounds;
      book = leaves_book t p s size c.settle_all.new.seats new book seg bounds settled;
    }
