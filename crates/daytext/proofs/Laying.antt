-- Text laid over bytes where it fits. Assumes nothing.
use borrow.Rule.Slice.PartMut.{put_mid}
use Rattle.std.proofs.Common.{◌≡◌, ℕ, ◌+◌, ◌<◌, ◌≤◌, cond, List, ◌++◌, length, take, drop, refl, ap, ◌∙◌, arith}
use Rattle.std.proofs.lemmas.List.{take_all}
use Rattle.std.proofs.lemmas.Slice.{put_mid-paste}
use Rattle.std.proofs.lemmas.Bool.{le-leb, lt-leb}
use Rattle.daytext.specs.Text.{behind, laid}

-- a part of the bytes that was written with the text
pub laid_part : (out : List ℕ) (at k : ℕ) (part text : List ℕ) → at + length text ≤ length out → length text ≡ k → part ≡ text → put_mid at k out part ≡ laid out at text
laid_part out at k part text h long e =
    rw (le-leb _ _ h) (put_mid-paste at k out part text (length text) e long refl
    ∙ ap (λ x. (take at out ++ x) ++ drop (at + length text) out) (take_all (length text) text (omega arith)))

-- where the text fits
pub laid_over : (out : List ℕ) (at : ℕ) (text : List ℕ) → at + length text ≤ length out → laid out at text ≡ (take at out ++ text) ++ drop (at + length text) out
laid_over out at text h = ap (λ b. cond b ((take at out ++ text) ++ drop (at + length text) out) out) (le-leb _ _ h)

pub behind_over : (out : List ℕ) (at : ℕ) (text : List ℕ) → at + length text ≤ length out → behind out at text ≡ at + length text
behind_over out at text h = ap (λ b. cond b (at + length text) at) (le-leb _ _ h)

-- where it does not
pub laid_not : (out : List ℕ) (at : ℕ) (text : List ℕ) → length out < at + length text → laid out at text ≡ out
laid_not out at text h = ap (λ b. cond b ((take at out ++ text) ++ drop (at + length text) out) out) (lt-leb _ _ h)

pub behind_not : (out : List ℕ) (at : ℕ) (text : List ℕ) → length out < at + length text → behind out at text ≡ at
behind_not out at text h = ap (λ b. cond b (at + length text) at) (lt-leb _ _ h)
