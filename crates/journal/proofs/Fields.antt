-- The numbers of a line, field by field. Assumes nothing.
use Rattle.std.proofs.Common.{◌≡◌, ℕ, suc, ◌+◌, ◌-◌, ◌<◌, List, [], ◌∷◌, ◌++◌, length, take, set, Some, None, Option, option_map, sym, refl, ap, ◌∙◌, arith, append_assoc}
use Rattle.std.proofs.lemmas.List.{take_more_set}
use Rattle.daytext.specs.Text.{Parts, plain_of}
use Rattle.journal.specs.Entries.{numbers_of, with_number}

-- numbers that were read, before those of the fields that are left
abbrev pub read_before : List ℕ → Option (List ℕ) → Option (List ℕ)
read_before ns others = option_map (λ ms. ns ++ ms) others

one_more : (ns : List ℕ) (n : ℕ) (o : Option (List ℕ)) → read_before ns (with_number (Some n) o) ≡ read_before (ns ++ n ∷ []) o
one_more ns n None = refl
one_more ns n (Some ms) = ap Some (sym (append_assoc ns (n ∷ []) ms))

-- a field's number is read
pub field_read : (ns : List ℕ) (i m : ℕ) (f : List ℕ) (fs : List (List ℕ)) (n : ℕ) → i < m → m ≡ length ns → plain_of f ≡ Some n → read_before (take i ns) (numbers_of (m - i) (f ∷ fs)) ≡ read_before (take (i + 1) (set ns i n)) (numbers_of (m - (i + 1)) fs)
field_read ns i m f fs n less long is =
    let one : m - i ≡ suc (m - (i + 1)) = omega arith in
    ap (λ k. read_before (take i ns) (numbers_of k (f ∷ fs))) one
    ∙ ap (λ o. read_before (take i ns) (with_number o (numbers_of (m - (i + 1)) fs))) is
    ∙ one_more (take i ns) n (numbers_of (m - (i + 1)) fs)
    ∙ ap (λ xs. read_before xs (numbers_of (m - (i + 1)) fs)) (sym (take_more_set ns i n (omega arith)))

-- EXACTLY TWO NUMBERS, AND EXACTLY THREE, are cases of exactly so many
maybe : {A B : Type 0} → Option A → (A → Option B) → Option B
maybe None f = None
maybe (Some a) f = f a

two_of : Parts → Option (List ℕ)
two_of (f, []) = None
two_of (f, g ∷ []) = maybe (plain_of f) (λ a. maybe (plain_of g) (λ b. Some (a ∷ b ∷ [])))
two_of (f, g ∷ h ∷ fs) = None

three_of : Parts → Option (List ℕ)
three_of (f, []) = None
three_of (f, g ∷ []) = None
three_of (f, g ∷ h ∷ []) = maybe (plain_of f) (λ a. maybe (plain_of g) (λ b. maybe (plain_of h) (λ c. Some (a ∷ b ∷ c ∷ []))))
three_of (f, g ∷ h ∷ i ∷ fs) = None

two_numbers : (f : List ℕ) (fs : List (List ℕ)) → numbers_of 2 (f ∷ fs) ≡ two_of (f, fs)
unfolding maybe two_of
two_numbers f [] = grind arith
two_numbers f (g ∷ []) = grind arith
two_numbers f (g ∷ h ∷ fs) = grind arith

three_numbers : (f : List ℕ) (fs : List (List ℕ)) → numbers_of 3 (f ∷ fs) ≡ three_of (f, fs)
unfolding maybe three_of
three_numbers f [] = grind arith
three_numbers f (g ∷ []) = grind arith
three_numbers f (g ∷ h ∷ []) = grind arith
three_numbers f (g ∷ h ∷ i ∷ fs) = grind arith
