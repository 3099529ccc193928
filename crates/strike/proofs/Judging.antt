-- How a strike is judged, from what its tests and its rule answer. Assumes nothing.
use Rattle.std.proofs.Common.{◌≡◌, ℕ, ◌<◌, ◌≤◌, List, length, get_or, sym, refl, ap, ◌∙◌, subst, inl, inr, Ok, Err, arith}
use Rattle.terms.specs.Limits.{all_members, figure_limit, fund_limit}
use Rattle.terms.specs.declared.refusals.Refusal.TheVariants as refusals
use Rattle.sizing.specs.Lists.{AreMeans}
use Rattle.sizing.specs.Marks.{Lawful, Marking, size_of}
use Rattle.tables.specs.Book.{Book, IsSegment}
use Rattle.tables.specs.declared.records.Pledges.{Pledges}
use Rattle.tables.specs.declared.records.Seat.{Seat}
use Rattle.strike.specs.declared.rows.Row.{Row}
use Rattle.strike.specs.Members.{fund_of, means_of}
use Rattle.strike.specs.Promises.{AsksBounded}
use Rattle.strike.specs.Rows.{Told}
use Rattle.strike.specs.Strike.{EachSharing, Figured, Paid, Strike, members_in, settled_by}
use Rattle.strike.proofs.Bounding.{asks_bounded}
use Rattle.strike.proofs.Settling.{struck_book}
use Rattle.strike.proofs.Someone.{as_many, nobody_shares, someone_shares}

-- what holds of some tables and a segment holds of the same tables and segment
pub carried : (P : List Seat → ℕ → Type 0) (T t : List Seat) (S s : ℕ) → T ≡ t → S ≡ s → P T S → P t s
carried P T t S s eT eS h = subst (P t) eS (subst (λ (u : List Seat). P u S) eT h)

module _ (t : List Seat) (p : List Pledges) (s : ℕ) (marking : Marking) (rows : List Row) (book : Book t p) (seg : IsSegment s) (long : length rows ≡ all_members) (list : List ℕ) (means : list ≡ means_of (members_in t s)) where
  pub none_shares : ((k : ℕ) → k < length list → get_or list k 0 ≤ figure_limit) → (AreMeans list → ⊥) → Strike t p s marking rows (Err refusals.NoneShares) t rows
  none_shares small none = (inr (book, inr (seg, inr (long, inl (nobody_shares t s list means small none, refl)))), (refl, refl))

  module _ (are : AreMeans list) where
    pub one_is_short : (EachSharing t s Paid → ⊥) → Strike t p s marking rows (Err refusals.Short) t rows
    one_is_short no' = (inr (book, inr (seg, inr (long, inr (someone_shares t s list means are.0, inl (no', refl))))), (refl, refl))

    module _ (paid : EachSharing t s Paid) where
      pub one_has_none : (EachSharing t s Figured → ⊥) → Strike t p s marking rows (Err refusals.NoFigure) t rows
      one_has_none no' = (inr (book, inr (seg, inr (long, inr (someone_shares t s list means are.0, inr (paid, inl (no', refl)))))), (refl, refl))

      module _ (figured : EachSharing t s Figured) (size : ℕ) (is : size ≡ size_of (marking list) list) where
        fund_is : size ≡ fund_of (members_in t s) marking
        fund_is = is ∙ ap (λ (l : List ℕ). size_of (marking l) l) means

        pub too_large : fund_limit < size → Strike t p s marking rows (Err refusals.FundSize) t rows
        too_large above = (inr (book, inr (seg, inr (long, inr (someone_shares t s list means are.0, inr (paid, inr (figured, inl ((λ h. omega (arith, fund_is)), refl))))))), (refl, refl))

        pub struck : size ≤ fund_limit → (t' : List Seat) (rows' : List Row) → t' ≡ settled_by t s rows' → Told (members_in t s) marking size rows' → Strike t p s marking rows (Ok size) t' rows'
        struck low t' rows' settled told = ((book, (seg, (long, (someone_shares t s list means are.0, (paid, (figured, (omega (arith, fund_is), tt))))))), (told, settled))

    pub bounded : Lawful marking → (size : ℕ) (rows' : List Row) → Told (members_in t s) marking size rows' → AsksBounded (members_in t s) size rows'
    bounded lawful size rows' told =
        let x = members_in t s in
        asks_bounded x marking size rows' told (omega (arith, as_many t s list means, are.0)) (λ k l. lawful.largest (means_of x) (subst AreMeans means are) k l)

pub leaves_book : (t : List Seat) (p : List Pledges) (s size : ℕ) (t' : List Seat) (rows' : List Row) → Book t p → IsSegment s → AsksBounded (members_in t s) size rows' → t' ≡ settled_by t s rows' → Book t' p
leaves_book t p s size t' rows' book seg bounds e = subst (λ (l : List Seat). Book l p) (sym e) (struck_book t p s size rows' book seg bounds)
