-- Lists with zeros behind. Assumes nothing.
use Rattle.std.proofs.Common.{◌≡◌, ℕ, ◌-◌, ◌≤◌, List, [], ◌++◌, length, length-drop, take, drop, replicate, sym, ap, ◌∙◌, arith}
use native.Mathlib.Nat.{sub-zero}
use Rattle.std.proofs.lemmas.List.{append-nil, drop_all, length-take-le, drop-replicate}
use Rattle.dayfile.specs.Outcome.{padded}

-- a list in front of zeros
pub padded_front : {X : Type 0} (z : X) (n k : ℕ) (xs : List X) → k ≡ n → xs ++ drop (length xs) (replicate k z) ≡ padded z n xs
unfolding padded
padded_front z n k xs e = ap (λ l. xs ++ l) (drop-replicate (length xs) k z ∙ ap (λ m. replicate (m - length xs) z) e)

-- a front that was kept, and zeros written behind it
pub padded_rest : {X : Type 0} (z : X) (n k : ℕ) (list xs new : List X) → length list ≡ n → k ≤ n → take k list ≡ xs → new ≡ take k list ++ replicate (length list - k) z → new ≡ padded z n xs
unfolding padded
padded_rest z n k list xs new long few e h =
    let count : length xs ≡ k = sym (ap length e) ∙ length-take-le k list (omega arith) in
    let left : length list - k ≡ n - length xs = omega arith in
    h ∙ (λ i. e i ++ replicate (left i) z)

-- a part that was filled, up to the end of the list
pub filled_rest : {X : Type 0} (z : X) (k : ℕ) (list part : List X) → part ≡ replicate (length (take (length list - k) (drop k list))) z → take k list ++ (part ++ drop (length list - k) (drop k list)) ≡ take k list ++ replicate (length list - k) z
filled_rest z k list part e =
    let long : length (take (length list - k) (drop k list)) ≡ length list - k = length-take-le (length list - k) (drop k list) (simp length-drop (omega arith)) in
    ap (λ l. take k list ++ l)
    ((λ i. (e ∙ ap (λ n. replicate n z) long) i ++ drop_all (length list - k) (drop k list) (simp length-drop (omega arith)) i)
    ∙ append-nil (replicate (length list - k) z))

-- a list that was filled
pub padded_none : {X : Type 0} (z : X) (n k : ℕ) (new : List X) → new ≡ replicate k z → k ≡ n → new ≡ padded z n []
unfolding padded
padded_none z n k new h e = h ∙ ap (λ m. replicate m z) (e ∙ sym (sub-zero n))
