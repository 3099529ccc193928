-- The answer of adding once all but the columns have passed. Assumes nothing.
use Rattle.std.proofs.Common.{◌≡◌, ℕ, suc, ◌<◌, ◌≤◌, Bool, true, cond, List, [], ◌∷◌, length, get_or, ℤ, Some, None, sym, refl, ◌∙◌, ⊎_elim, arith}
use Rattle.std.specs.List.{list_all}
use Rattle.std.proofs.lemmas.Bool.{and_from, leb-true, le-leb, le-ltb, cases_lt}
use Rattle.std.proofs.lemmas.List.{get_or_past}
use Rattle.std.proofs.lemmas.List.Elements.{All-get_or}
use Rattle.std.proofs.lemmas.List.FromFn.{length-map-range_with_len, get_or-map-range_with_len}
use Rattle.std.proofs.lemmas.List.Sums.{AllPass-from_list_all}
use Rattle.terms.specs.Limits.{column_limit}
use Rattle.terms.specs.Refusing.{first_refusal}
use Rattle.terms.specs.declared.refusals.Refusal.TheVariants.{Column}
use Rattle.figures.specs.declared.kinds.Account.{Account}
use Rattle.figures.specs.declared.kinds.Position.{Position}
use Rattle.figures.specs.Accounts.{Limited, add_tests, assets_of, column_ok, margins_ok, offset_of, positions_ok, raised, raised_at, sheet_ok}

module _ (n : ℕ) (old : List ℕ) (sheet : List ℤ) (a : Account) (ps : List Position) where
  -- the columns decide
  pub columns_decide : (b : Bool) → sheet_ok n sheet ≡ true → positions_ok (assets_of n sheet) ps ≡ true → margins_ok a ≡ true → b ≡ list_all column_ok (raised n sheet (offset_of a) ps old) → cond b None (Some Column) ≡ first_refusal (add_tests n old sheet a ps)
  columns_decide b s p m e = rw (s, p, m, sym e)

-- columns that pass their test are within the limit
pub limited : (columns : List ℕ) → true ≡ list_all column_ok columns → Limited columns
limited columns e k =
    ⊎_elim
    (λ (h : k < length columns). leb-true _ _ (All-get_or (λ c. column_ok c ≡ true) columns k 0 h (AllPass-from_list_all column_ok columns (sym e))))
    (λ (h : length columns ≤ k). omega (arith, get_or_past columns k 0 h))
    (cases_lt k (length columns))

-- a column past the scenarios stays
pub raised_past : (n : ℕ) (sheet : List ℤ) (o : ℕ) (ps : List Position) (old : List ℕ) (k : ℕ) → n ≤ k → get_or (raised n sheet o ps old) k 0 ≡ get_or old k 0
raised_past n sheet o ps old k le =
    ⊎_elim
    (λ (h : k < length old). get_or-map-range_with_len (raised_at n sheet o ps old) 0 (length old) k k 0 h (omega arith) ∙ rw (le-ltb k n le) (omega arith))
    (λ (h : length old ≤ k). omega (arith, get_or_past old k 0 h, get_or_past (raised n sheet o ps old) k 0 (rw (length-map-range_with_len (raised_at n sheet o ps old)) h)))
    (cases_lt k (length old))

-- and columns within the limit pass it
pub small_pass : (columns : List ℕ) → ((k : ℕ) → get_or columns k 0 ≤ column_limit) → list_all column_ok columns ≡ true
small_pass [] h = refl
small_pass (c ∷ cs) h = and_from (column_ok c) (list_all column_ok cs) (le-leb c column_limit (h 0)) (small_pass cs (λ k. h (suc k)))
