-- Texts that are no kind of account. Assumes nothing.
use Rattle.std.proofs.Common.{◌≡◌, ℕ, List, length, None, cond, Some, ⊎_elim, codes, sym, ap, ◌∙◌}
use Rattle.std.proofs.lemmas.Bool.{cases_Bool}
use Rattle.figures.specs.declared.kinds.Kind.TheVariants.{Own, Client}
use Rattle.daytext.specs.Text.{same}
use Rattle.daytext.proofs.Texts.{same_back}
use Rattle.dayfile.specs.Reading.{kind_of}

-- a kind has three bytes
pub kind_none : (t : List ℕ) → (length t ≡ 3 → ⊥) → None ≡ kind_of t
kind_none t h =
    ⊎_elim
    (λ y. absurd (h (ap length (same_back t (codes "own") y))))
    (λ n. ⊎_elim
    (λ y. absurd (h (ap length (same_back t (codes "cli") y))))
    (λ m. sym (ap (λ b. cond b (Some Own) (cond (same t (codes "cli")) (Some Client) None)) n ∙ ap (λ b. cond b (Some Client) None) m))
    (cases_Bool (same t (codes "cli"))))
    (cases_Bool (same t (codes "own")))
