-- A list that is filled from a place on. Assumes nothing.
use Rattle.std.proofs.Common.{◌≡◌, ℕ, ◌+◌, ◌-◌, ◌<◌, ◌≤◌, List, [], ◌∷◌, ◌++◌, length, get_or, take, drop, set, replicate, sym, ap, ◌∙◌, arith}
use Rattle.std.proofs.lemmas.List.{append_assoc, append-nil, length-append, length-replicate, length-take-le, take-append-drop, at_drop_more, at_drop_all, set_at, replicate_more}

module _ {X : Type 0} (old : List X) (from : ℕ) (v : X) where
  pub fill_start : old ≡ (take from old ++ replicate (from - from) v) ++ drop from old
  fill_start =
      let none : from - from ≡ 0 = omega arith in
      sym (take-append-drop from old) ∙ ap (λ l. l ++ drop from old) (sym (append-nil (take from old)) ∙ ap (λ k. take from old ++ replicate k v) (sym none))

  pub fill_next : (i : ℕ) (new : List X) → from ≤ i → i < length old → new ≡ (take from old ++ replicate (i - from) v) ++ drop i old → set new i v ≡ (take from old ++ replicate (i + 1 - from) v) ++ drop (i + 1) old
  fill_next i new low high e =
      let front : List X = take from old ++ replicate (i - from) v in
      let long : length front ≡ i = simp length-append (omega (arith, length-take-le from old (omega arith), length-replicate (i - from) v)) in
      let one : i - from + 1 ≡ i + 1 - from = omega arith in
      ap (λ l. set l i v) (e ∙ ap (λ l. front ++ l) (at_drop_more (λ l. l) old i v high))
      ∙ set_at front (get_or old i v) (drop (i + 1) old) v i long
      ∙ sym (append_assoc front (v ∷ []) (drop (i + 1) old))
      ∙ ap (λ l. l ++ drop (i + 1) old) (append_assoc (take from old) (replicate (i - from) v) (v ∷ []) ∙ ap (λ l. take from old ++ l) (replicate_more (i - from) v ∙ ap (λ k. replicate k v) one))

  pub fill_end : (i : ℕ) (new : List X) → length old ≤ i → i - from ≡ length old - from → new ≡ (take from old ++ replicate (i - from) v) ++ drop i old → new ≡ take from old ++ replicate (length old - from) v
  fill_end i new all same e =
      e ∙ ap (λ l. (take from old ++ replicate (i - from) v) ++ l) (at_drop_all (λ l. l) old i all) ∙ append-nil _ ∙ ap (λ k. take from old ++ replicate k v) same
