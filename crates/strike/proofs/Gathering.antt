-- Columns of the members that share, one member more. Assumes nothing.
use Rattle.std.proofs.Common.{◌≡◌, ℕ, ◌+◌, ◌<◌, ◌≤◌, Bool, true, false, ◌≢◌, List, [], ◌∷◌, ◌++◌, map, length, get_or, sym, ap, ◌∙◌, subst, ⊎_elim, arith}
use Rattle.std.proofs.lemmas.List.{get_or_append_left, get_or_push, length-map, length_push, map_push}
use Rattle.std.proofs.lemmas.Bool.{cases_eq}
use Rattle.strike.specs.Members.{sharers_to}
use Rattle.strike.proofs.Listing.{count_few, sharers_no, sharers_none, sharers_yes}

module _ (p : ℕ → Bool) (f : ℕ → ℕ) where
  pub column_none : (n : ℕ) → n ≡ 0 → [] ≡ map f (sharers_to n p)
  column_none n e = ap (map f) (sym (ap (λ k. sharers_to k p) e ∙ sharers_none p))

  -- the number of member m, the next, is written behind those before it
  pub column_yes : (k n m v : ℕ) (xs : List ℕ) → p m ≡ true → m ≡ k + 1 → n ≡ k + 1 → xs ≡ map f (sharers_to k p) → v ≡ f m → xs ++ v ∷ [] ≡ map f (sharers_to n p)
  column_yes k n m v xs h em en e ev =
      ap (λ (l : List ℕ). l ++ v ∷ []) e
      ∙ ap (λ (w : ℕ). map f (sharers_to k p) ++ w ∷ []) (ev ∙ ap f em)
      ∙ sym (map_push f (sharers_to k p) (k + 1))
      ∙ ap (map f) (sym (sharers_yes p k (subst (λ (j : ℕ). p j ≡ true) em h)))
      ∙ ap (λ (j : ℕ). map f (sharers_to j p)) (sym en)

  pub column_no : (k n m : ℕ) (xs : List ℕ) → p m ≡ false → m ≡ k + 1 → n ≡ k + 1 → xs ≡ map f (sharers_to k p) → xs ≡ map f (sharers_to n p)
  column_no k n m xs h em en e = e ∙ ap (map f) (sym (sharers_no p k (subst (λ (j : ℕ). p j ≡ false) em h))) ∙ ap (λ (j : ℕ). map f (sharers_to j p)) (sym en)

  pub column_few : (n : ℕ) (xs : List ℕ) → xs ≡ map f (sharers_to n p) → length xs ≤ n
  column_few n xs e = omega (arith, ap length e, length-map (sharers_to n p) f, count_few p n)

pub small_none : (b : ℕ) (xs : List ℕ) → xs ≡ [] → (k : ℕ) → k < length xs → get_or xs k 0 ≤ b
small_none b xs e k l = omega (arith, ap length e)

-- one number more that is small
pub small_more : (b : ℕ) (xs ys : List ℕ) (v : ℕ) → ((k : ℕ) → k < length xs → get_or xs k 0 ≤ b) → v ≤ b → ys ≡ xs ++ v ∷ [] → (k : ℕ) → k < length ys → get_or ys k 0 ≤ b
small_more b xs ys v h le ey k l = ⊎_elim
    (λ (e : k ≡ length xs). omega (arith, ap (λ (zs : List ℕ). get_or zs k 0) ey, get_or_push xs v 0 k (sym e)))
    (λ (ne : k ≢ length xs).
    let lt : k < length xs = omega (arith, ap length ey, length_push xs v) in
    omega (arith, ap (λ (zs : List ℕ). get_or zs k 0) ey, get_or_append_left xs (v ∷ []) 0 k lt, h k lt))
    (cases_eq k (length xs))
