-- One more position in a gain, and the columns that are raised one by one. Assumes nothing.
use Rattle.std.proofs.Common.{◌≡◌, ℕ, ◌+◌, ◌<◌, ◌≤◌, false, cond, List, length, get_or, set, take, ℤ, ◌+ℤ◌, ◌*ℤ◌, pos, sym, ap, ◌∙◌, ⊎_elim, add-zero, length-set, arith}
use Rattle.std.proofs.lemmas.Bool.{cases_eq, cases_lt, le-ltb, lt-leb}
use Rattle.std.proofs.lemmas.Grind.{get_or-set_at}
use Rattle.std.proofs.lemmas.List.{get_or-set_other}
use Rattle.std.proofs.lemmas.List.Folds.{list_all_at}
use Rattle.std.proofs.lemmas.List.FromFn.{fill_by_all, get_or-map-range_with_len, length-map-range_with_len}
use Rattle.std.proofs.lemmas.List.Sums.{fold_more}
use Rattle.std.specs.List.{list_all}
use Rattle.terms.specs.Limits.{column_limit}
use Rattle.figures.specs.declared.kinds.Position.{Position}
use Rattle.figures.specs.Accounts.{Limited, change_in, column_ok, excess_of, gain_in, loss_in, raised, raised_at}

-- one position more in the sum
pub gain_more : (sheet : List ℤ) (n j : ℕ) (ps : List Position) (i : ℕ) (d : Position) (sum change worth : ℤ) → i < length ps → sum ≡ gain_in sheet n j (take i ps) → change ≡ change_in sheet n j (get_or ps i d).asset → worth ≡ (get_or ps i d).quantity *ℤ change → sum +ℤ worth ≡ gain_in sheet n j (take (i + 1) ps)
gain_more sheet n j ps i d sum change worth h e w v =
    ap (λ z. z +ℤ worth) e
    ∙ ap (λ z. gain_in sheet n j (take i ps) +ℤ z) (v ∙ ap (λ z. (get_or ps i d).quantity *ℤ z) w)
    ∙ sym (fold_more (λ a p. a +ℤ (p.quantity *ℤ change_in sheet n j p.asset)) (pos 0) ps i d h)

module _ (n : ℕ) (sheet : List ℤ) (o : ℕ) (ps : List Position) (old : List ℕ) where
  -- a column past the scenarios stays
  pub raised_at_past : (k : ℕ) → n ≤ k → raised_at n sheet o ps old k ≡ get_or old k 0
  raised_at_past k le = ap (λ b. get_or old k 0 + cond b (excess_of (loss_in sheet n k ps) o) 0) (le-ltb k n le) ∙ add-zero _

  -- all scenarios' columns are raised, and the others are as they were
  pub raised_all : (new : List ℕ) → length new ≡ length old → ((k : ℕ) → k < n → get_or new k 0 ≡ raised_at n sheet o ps old k) → ((k : ℕ) → n ≤ k → get_or new k 0 ≡ get_or old k 0) → new ≡ raised n sheet o ps old
  raised_all new long low high = fill_by_all (raised_at n sheet o ps old) new (length old) 0 long (λ k h. ⊎_elim (λ lt. low k lt) (λ le. high k le ∙ sym (raised_at_past k le)) (cases_lt k n))

  -- the columns of the first j scenarios are raised, and the others are as they were
  abbrev pub Upto : ℕ → List ℕ → Type 0
  Upto j new = ((k : ℕ) → k < j → get_or new k 0 ≡ raised_at n sheet o ps old k) × ((k : ℕ) → j ≤ k → get_or new k 0 ≡ get_or old k 0) × Limited new × (length new ≡ length old)

  pub raised_more : (j : ℕ) (new : List ℕ) (v : ℕ) → j < length new → v ≡ raised_at n sheet o ps old j → v ≤ column_limit → Upto j new → Upto (j + 1) (set new j v)
  raised_more j new v l is small t = (
    (λ k lt. ⊎_elim (λ (e : k ≡ j). get_or-set_at new j k v 0 e l ∙ is ∙ ap (raised_at n sheet o ps old) (sym e)) (λ ne. get_or-set_other new j k v 0 ne ∙ t.0 k (omega arith)) (cases_eq k j)),
    (λ k le. get_or-set_other new j k v 0 (λ e. omega arith) ∙ t.1 k (omega arith)),
    (λ k. ⊎_elim (λ (e : k ≡ j). omega (arith, get_or-set_at new j k v 0 e l)) (λ ne. omega (arith, get_or-set_other new j k v 0 ne, t.2 k)) (cases_eq k j)),
    simp length-set t.3,
  )

  -- a column past its limit refuses the account
  pub raised_stop : (j : ℕ) → j < length old → column_limit < raised_at n sheet o ps old j → list_all column_ok (raised n sheet o ps old) ≡ false
  raised_stop j k over = list_all_at column_ok (raised n sheet o ps old) j 0 (rw (length-map-range_with_len (raised_at n sheet o ps old)) k) (ap column_ok (get_or-map-range_with_len (raised_at n sheet o ps old) 0 (length old) j j 0 k (omega arith)) ∙ lt-leb _ _ over)
