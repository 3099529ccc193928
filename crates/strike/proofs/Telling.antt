-- The rows of a strike, one member after the other. Assumes nothing.
use Rattle.std.proofs.Common.{◌≡◌, ℕ, ◌+◌, ◌-◌, Bool, true, false, cond, List, length, sym, ap, ◌∙◌, subst, arith}
use Rattle.std.proofs.lemmas.Bool.{cond-true, cond-false}
use Rattle.sizing.specs.Marks.{Marking, size_of}
use Rattle.asks.specs.Steps.{ask_at}
use Rattle.terms.specs.Limits.{all_members}
use Rattle.tables.specs.Book.{IsMember}
use Rattle.strike.specs.declared.rows.Row.{Row}
use Rattle.strike.specs.Members.{Members, fund_of, means_of, minimums_of, place_of}
use Rattle.strike.specs.Rows.{Told, row_at, unasked}
use Rattle.strike.proofs.Listing.{count}

module _ (x : Members) (ask : ℕ → ℕ) (mark : ℕ → Bool) where
  -- the row of a member, where ask and mark are given by place
  abbrev pub row_by : ℕ → Row
  row_by m = cond (x.shares m) (record { ask = ask (place_of x m); marked = mark (place_of x m) }) unasked

  -- member m comes after the first k, of whom n share
  pub row_yes : (k m n a : ℕ) (b : Bool) → m ≡ k + 1 → x.shares m ≡ true → n ≡ count x.shares k → a ≡ ask n → b ≡ mark n → record { ask = a; marked = b } ≡ row_by (k + 1)
  row_yes k m n a b em h e ea eb =
      let back : k ≡ k + 1 - 1 = omega arith in
      let at : n ≡ place_of x (k + 1) = e ∙ ap (count x.shares) back in
      ap (λ (z : ℕ). record { ask = z; marked = b }) ea
      ∙ ap (λ (z : Bool). record { ask = ask n; marked = z }) eb
      ∙ ap (λ (i : ℕ). record { ask = ask i; marked = mark i }) at
      ∙ sym (cond-true (x.shares (k + 1)) _ unasked (subst (λ (j : ℕ). x.shares j ≡ true) em h))

  pub row_no : (k m : ℕ) → m ≡ k + 1 → x.shares m ≡ false → unasked ≡ row_by (k + 1)
  row_no k m em h = sym (cond-false (x.shares (k + 1)) _ unasked (subst (λ (j : ℕ). x.shares j ≡ false) em h))

-- what the functions of a strike answer, put together
pub told : (x : Members) (marking : Marking) (size : ℕ) (means mins : List ℕ) (rows : List Row) → means ≡ means_of x → mins ≡ minimums_of x → size ≡ size_of (marking means) means → length rows ≡ all_members → ((m : ℕ) → IsMember m → row_at rows m ≡ row_by x (ask_at size mins means) (marking means) m) → Told x marking size rows
told x marking size means mins rows em es sz long by =
    let fund : size ≡ fund_of x marking = sz ∙ ap (λ (l : List ℕ). size_of (marking l) l) em in
    record {
      fund = fund;
      long = long;
      each = λ m im.
          by m im
          ∙ ap (λ (F : ℕ). row_by x (ask_at F mins means) (marking means) m) fund
          ∙ ap (λ (l : List ℕ). row_by x (ask_at (fund_of x marking) l means) (marking means) m) es
          ∙ ap (λ (l : List ℕ). row_by x (ask_at (fund_of x marking) (minimums_of x) l) (marking l) m) em;
    }
