-- The kind of a seat by its class. Assumes nothing.
use Rattle.std.proofs.Common.{◌≡◌, ℕ, ◌≤◌, Bool, true, false, eqb, is_some, Some, None, MatchBool, Option, sym, refl, ap, ◌∙◌, subst, arith}
use Rattle.std.proofs.lemmas.Bool.{eq-eqb, ne_eqb, true≢false}
use Rattle.terms.specs.Classes.{class_of, owed, owes_by}
use Rattle.terms.specs.declared.classes.Class.{Class}
use Rattle.terms.specs.declared.classes.Duty.TheVariants.{FundContribution}
use Rattle.tables.specs.Book.{Empty, Exempt, Kind, KindBy, Sharing, shares}
use Rattle.tables.specs.declared.records.Seat.{Seat}

when_yes : (b : Bool) (P Q : Type 0) → b ≡ true → P → MatchBool b P Q
when_yes b P Q e h = subst (λ c. MatchBool c P Q) (sym e) h

when_no : (b : Bool) (P Q : Type 0) → b ≡ false → Q → MatchBool b P Q
when_no b P Q e h = subst (λ c. MatchBool c P Q) (sym e) h

yes_back : (b : Bool) (P Q : Type 0) → b ≡ true → MatchBool b P Q → P
yes_back b P Q e h = subst (λ c. MatchBool c P Q) e h

no_back : (b : Bool) (P Q : Type 0) → b ≡ false → MatchBool b P Q → Q
no_back b P Q e h = subst (λ c. MatchBool c P Q) e h

-- a class that is known is not 0
known_some : (c : ℕ) → is_some (class_of c) ≡ true → c ≡ 0 → ⊥
known_some c h e = true≢false (sym h ∙ ap (λ k. is_some (class_of k)) e)

sharing_some : (c : ℕ) → shares c ≡ true → c ≡ 0 → ⊥
sharing_some c h e = true≢false (sym h ∙ ap shares e)

-- taken seats
taken : (x : Seat) → (x.class ≡ 0 → ⊥) → KindBy (class_of x.class) x → Kind x
taken x ne h = when_no (eqb x.class 0) (Empty x) (KindBy (class_of x.class) x) (ne_eqb x.class 0 ne) h

taken_back : (x : Seat) → (x.class ≡ 0 → ⊥) → Kind x → KindBy (class_of x.class) x
taken_back x ne h = no_back (eqb x.class 0) (Empty x) (KindBy (class_of x.class) x) (ne_eqb x.class 0 ne) h

-- empty seats
pub kind_empty : (x : Seat) → x.class ≡ 0 → Empty x → Kind x
kind_empty x e h = when_yes (eqb x.class 0) (Empty x) (KindBy (class_of x.class) x) (eq-eqb x.class 0 e) h

pub empty_back : (x : Seat) → x.class ≡ 0 → Kind x → Empty x
empty_back x e h = yes_back (eqb x.class 0) (Empty x) (KindBy (class_of x.class) x) (eq-eqb x.class 0 e) h

pub kind_sharing : (x : Seat) → shares x.class ≡ true → Sharing x → Kind x
kind_sharing x e h = taken x (sharing_some x.class e) (by (class_of x.class) e)
  where
    by : (o : Option Class) → owes_by o FundContribution ≡ true → KindBy o x
    by None f = absurd (true≢false (sym f))
    by (Some c) f = when_yes (owed c FundContribution) (Sharing x) (Exempt x) f h

pub kind_exempt : (x : Seat) → is_some (class_of x.class) ≡ true → shares x.class ≡ false → Exempt x → Kind x
kind_exempt x some e h = taken x (known_some x.class some) (by (class_of x.class) some e)
  where
    by : (o : Option Class) → is_some o ≡ true → owes_by o FundContribution ≡ false → KindBy o x
    by None g f = absurd (true≢false (sym g))
    by (Some c) g f = when_no (owed c FundContribution) (Sharing x) (Exempt x) f h

pub sharing_back : (x : Seat) → Kind x → shares x.class ≡ true → Sharing x
sharing_back x k e = by (class_of x.class) e (taken_back x (sharing_some x.class e) k)
  where
    by : (o : Option Class) → owes_by o FundContribution ≡ true → KindBy o x → Sharing x
    by None f h = absurd h
    by (Some c) f h = yes_back (owed c FundContribution) (Sharing x) (Exempt x) f h

-- of a taken seat that does not share
pub exempt_back : (x : Seat) → Kind x → 1 ≤ x.class → shares x.class ≡ false → Exempt x
exempt_back x k some e = by (class_of x.class) e (taken_back x (λ z. omega (arith, z)) k)
  where
    by : (o : Option Class) → owes_by o FundContribution ≡ false → KindBy o x → Exempt x
    by None f h = absurd h
    by (Some c) f h = no_back (owed c FundContribution) (Sharing x) (Exempt x) f h

-- a taken seat has a known class
pub known_back : (x : Seat) → Kind x → 1 ≤ x.class → is_some (class_of x.class) ≡ true
known_back x k some = by (class_of x.class) (taken_back x (λ z. omega (arith, z)) k)
  where
    by : (o : Option Class) → KindBy o x → is_some o ≡ true
    by None h = absurd h
    by (Some c) h = refl
