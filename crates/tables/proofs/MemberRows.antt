-- Lists with an element for each member, written one member after the other. Assumes nothing.
use Rattle.std.proofs.Common.{◌≡◌, ℕ, ◌+◌, ◌-◌, ◌<◌, ◌≤◌, List, length, get_or, set, sym, ap, ◌∙◌, subst, ⊎_elim, arith, get_or-set_other, get_or-set_same}
use Rattle.std.proofs.lemmas.Bool.{cases_eq}

pub none_written_yet : {X : Type 0} (j : ℕ) → 1 ≤ j → j ≤ 0 → X
none_written_yet j low le = absurd (omega arith)

-- the element of member j stands at place j - 1
pub rows_more : {X : Type 0} (none : X) (f : ℕ → X) (rows : List X) (m : ℕ) (r : X) → m < length rows → ((j : ℕ) → 1 ≤ j → j ≤ m → get_or rows (j - 1) none ≡ f j) → r ≡ f (m + 1) → (j : ℕ) → 1 ≤ j → j ≤ m + 1 → get_or (set rows m r) (j - 1) none ≡ f j
rows_more none f rows m r lt h e j low le = ⊎_elim
    (λ (q : j ≡ m + 1).
    let back : m + 1 - 1 ≡ m = omega arith in
    subst (λ (i : ℕ). get_or (set rows m r) (i - 1) none ≡ f i) (sym q) (ap (λ (i : ℕ). get_or (set rows m r) i none) back ∙ get_or-set_same rows m r none lt ∙ e))
    (λ (ne : j ≡ m + 1 → ⊥). get_or-set_other rows m (j - 1) r none (λ q. ne (omega arith)) ∙ h j low (omega arith))
    (cases_eq j (m + 1))
