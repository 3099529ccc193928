-- The turns of the loop over accounts and positions. Assumes nothing.
use Rattle.std.proofs.Common.{◌≡◌, ℕ, ◌+◌, ◌<◌, ◌≤◌, Bool, true, false, cond, eqb, List, [], ◌∷◌, ◌++◌, length, take, ℤ, Some, None, Ok, Err, codes, Option, Result, sym, refl, ap, ◌∙◌, subst, ⊎_elim, arith}
use Rattle.std.proofs.lemmas.List.{length-append}
use Rattle.std.proofs.lemmas.Bool.{eq-eqb, cases_Bool}
use Rattle.std.specs.Option.{MatchOption}
use Rattle.terms.specs.Limits.{most_positions}
use Rattle.terms.specs.declared.refusals.Refusal.{Refusal}
use Rattle.terms.specs.declared.refusals.Refusal.TheVariants as refusals
use Rattle.figures.specs.declared.kinds.Account.{Account}
use Rattle.figures.specs.declared.kinds.Position.{Position}
use Rattle.daytext.specs.Text.{Parts, more, parted, after, plain_of}
use Rattle.daytext.proofs.Cuts.{after_none}
use Rattle.dayreport.specs.declared.faults.Fault.{Fault}
use Rattle.dayreport.specs.declared.faults.Fault.TheVariants.{Line}
use Rattle.dayfile.specs.declared.body.Open.{Open}
use Rattle.dayfile.specs.Days.{Entry, Rule, taking, or_before, tallied}
use Rattle.dayfile.specs.Reading.{◌>>=◌, ◌>>◌, Hand, want, given, maybe, account_fields, told, settled, nothing, run}
use Rattle.dayfile.specs.Seen.{closed_by, count_of, hand_of, judged, columns_by, last_of, BodyRead}
use Rattle.dayfile.proofs.Steps.{err_ok, err_same, then_made, given_made, want_made}

-- the lines that the loop reads, and where its tally began
pub record Whole : Type 0 where
  pub add : Rule
  pub columns : List ℕ
  pub bytes : List ℕ
  pub first : ℕ

-- what the loop has in hand at a turn
pub record State : Type 0 where
  pub rest : List ℕ
  pub n : ℕ
  pub begun : ℕ
  pub hand : Option Open
  pub held : List Position
  pub columns : List ℕ

abbrev pub answer : Whole → Result (List Entry) Fault
answer w = run w.add [] w.columns None w.first (parted 10 w.bytes)

abbrev pub in_hand : State → Option Hand
in_hand x = hand_of x.hand x.held

abbrev ones : Option Open → ℕ
ones None = 0
ones (Some o) = 1

abbrev Start : Option Open → List Entry → Type 0
Start None done = done ≡ []
Start (Some o) done = Unit {0}

-- what is left gives the answer of the whole
pub record Sofar (w : Whole) (x : State) (done : List Entry) : Type 0 where
  pub same : run w.add done x.columns (in_hand x) x.n (parted 10 x.rest) ≡ answer w
  pub tally : x.columns ≡ tallied w.add w.columns done
  pub counted : x.begun ≡ length done + ones x.hand
  pub few : count_of x.hand ≤ most_positions
  pub long : length x.held ≡ most_positions
  pub room : x.n + length x.rest ≤ w.first + length w.bytes
  pub less : x.begun + w.first ≤ x.n
  pub start : Start x.hand done

-- steps that fail
given_none : {A B : Type 0} (o : Option A) (e : Fault) (f : A → Result B Fault) → o ≡ None → ◌>>=◌ (given o e) f ≡ Err e
given_none o e f p = ap (λ y. ◌>>=◌ (given y e) f) p

want_none : {B : Type 0} (t : Bool) (e : Fault) (r : Result B Fault) → t ≡ false → ◌>>◌ (want t e) r ≡ Err e
want_none t e r p = ap (λ y. ◌>>◌ (want y e) r) p

then_none : {A B : Type 0} (s : Result A Fault) (e : Fault) (f : A → Result B Fault) → s ≡ Err e → ◌>>=◌ s f ≡ Err e
then_none s e f p = ap (λ y. ◌>>=◌ y f) p

maybe_none : {A B : Type 0} (o : Option A) (f : A → B) (d : B) {x : B} → o ≡ None → d ≡ x → maybe o f d ≡ x
maybe_none o f d p q = ap (λ y. maybe y f d) p ∙ q

pub err_read : (w : Whole) (f : Fault) (held : List Position) (new : List ℕ) → answer w ≡ Err f → BodyRead w.add w.columns (answer w) (Err f) held new
err_read w f held new e = subst (λ y. BodyRead w.add w.columns y (Err f) held new) (sym e) refl

-- the accounts, once the one in hand is added
abbrev pub done_after : List Entry → Option Hand → List Entry
done_after done None = done
done_after done (Some h) = done ++ (h.entry ∷ [])

by_good : (r : Result (List ℕ) Refusal) (n : ℕ) (columns : List ℕ) (all : List Entry) → Ok tt ≡ judged (told r n) → ◌>>=◌ {B = List Entry × List ℕ} (told r n) (λ new. Ok (all, new)) ≡ Ok (all, or_before r columns)
by_good (Ok new) n columns all h = refl
by_good (Err e) n columns all h = err_ok (sym h)

by_bad : (r : Result (List ℕ) Refusal) (n : ℕ) (all : List Entry) (f : Fault) → Err f ≡ judged (told r n) → ◌>>=◌ {B = List Entry × List ℕ} (told r n) (λ new. Ok (all, new)) ≡ Err f
by_bad (Ok new) n all f h = err_ok h
by_bad (Err e) n all f h = ap Err (sym (err_same h))

settled_ok : (add : Rule) (done : List Entry) (columns : List ℕ) (hand : Option Hand) → Ok tt ≡ closed_by add columns hand → settled add done columns hand ≡ Ok (done_after done hand, columns_by add columns hand)
settled_ok add done columns None h = refl
settled_ok add done columns (Some x) h = by_good (add columns x.entry) x.line columns (done ++ (x.entry ∷ [])) h

settled_err : (add : Rule) (done : List Entry) (columns : List ℕ) (hand : Option Hand) (f : Fault) → Err f ≡ closed_by add columns hand → settled add done columns hand ≡ Err f
settled_err add done columns None f h = err_ok h
settled_err add done columns (Some x) f h = by_bad (add columns x.entry) x.line (done ++ (x.entry ∷ [])) f h

tallied_more : (add : Rule) (columns : List ℕ) (done : List Entry) (e : Entry) → tallied add columns (done ++ (e ∷ [])) ≡ or_before (add (tallied add columns done) e) (tallied add columns done)
tallied_more add columns [] e = refl
tallied_more add columns (d ∷ done) e = tallied_more add (or_before (add columns d) columns) done e

tallied_after : (add : Rule) (start columns : List ℕ) (done : List Entry) (hand : Option Hand) → columns ≡ tallied add start done → columns_by add columns hand ≡ tallied add start (done_after done hand)
tallied_after add start columns done None h = h
tallied_after add start columns done (Some x) h = ap (λ c. or_before (add c x.entry) c) h ∙ sym (tallied_more add start done x.entry)

last_more : (done : List Entry) (e : Entry) → last_of (done ++ (e ∷ [])) ≡ e.positions
last_more [] e = refl
last_more (d ∷ []) e = refl
last_more (d ∷ f ∷ done) e = last_more (f ∷ done) e

last_held : (hand : Option Open) (done : List Entry) (held : List Position) → Start hand done → take (count_of hand) held ≡ last_of (done_after done (hand_of hand held))
last_held None done held s = ap last_of (sym s)
last_held (Some o) done held s = sym (last_more done (record { account = o.account; positions = take o.count held }))

-- what is answered of the account in hand, or 0
pub count_is : (Q : Open → Type 0) (hand : Option Open) (k : ℕ) → ((o : Open) → Q o → k ≡ o.count) → MatchOption hand (k ≡ 0) Q → k ≡ count_of hand
count_is Q None k q m = m
count_is Q (Some o) k q m = q o m

length_after : (hand : Option Open) (done : List Entry) (ps : List Position) → length (done_after done (hand_of hand ps)) ≡ length done + ones hand
length_after None done ps = omega arith
length_after (Some o) done ps = simp length-append (omega arith)

nothing_after : (bs : List ℕ) → length bs ≡ 0 → nothing (parted 10 bs).0 (parted 10 bs).1 ≡ true
nothing_after [] h = refl
nothing_after (c ∷ cs) h = absurd (omega arith)

abbrev judge : ℕ → Parts → Bool → Bool
judge c p b = nothing (cond b (more [] p) (c ∷ p.0, p.1)).0 (cond b (more [] p) (c ∷ p.0, p.1)).1

something_after : (bs : List ℕ) → 0 < length bs → nothing (parted 10 bs).0 (parted 10 bs).1 ≡ false
something_after [] h = absurd (omega arith)
something_after (c ∷ cs) h = ⊎_elim (λ t. ap (judge c (parted 10 cs)) t) (λ f. ap (judge c (parted 10 cs)) f) (cases_Bool (eqb c 10))

-- one key is not another
pub acc_not_pos : (l x : List ℕ) → l ≡ codes "acc=" ++ x → (t : List ℕ) → l ≡ codes "pos=" ++ t → ⊥
acc_not_pos l x e t h = let z : ◌≡◌ {A = ℕ} 97 112 = cc in omega arith

pub end_not_pos : (l x : List ℕ) → l ≡ codes "end=" ++ x → (t : List ℕ) → l ≡ codes "pos=" ++ t → ⊥
end_not_pos l x e t h = let z : ◌≡◌ {A = ℕ} 101 112 = cc in omega arith

-- the rule at the loop's start is the rule now, since the scenario count stays
module _ (x : State) (start now' : ℕ) (sheet : List ℤ) (kept : now' ≡ start) where
  pub rule_kept : {r : Result (Unit {0}) Fault} → r ≡ closed_by (taking now' sheet) x.columns (in_hand x) → r ≡ closed_by (taking start sheet) x.columns (in_hand x)
  rule_kept h = h ∙ ap (λ k. closed_by (taking k sheet) x.columns (in_hand x)) kept

  pub columns_kept : {new : List ℕ} → new ≡ columns_by (taking now' sheet) x.columns (in_hand x) → new ≡ columns_by (taking start sheet) x.columns (in_hand x)
  columns_kept h = h ∙ ap (λ k. columns_by (taking k sheet) x.columns (in_hand x)) kept

-- what a line that does not begin with pos= does, the account in hand being added
abbrev other_line : Rule → List Entry → List ℕ → ℕ → List ℕ → Parts → Result (List Entry) Fault
other_line add all columns n l q =
    maybe (after (codes "acc=") l)
    (λ t. ◌>>=◌ (given (account_fields (parted 44 t)) (Line refusals.Field n)) (λ a. run add all columns (Some (record { line = n; entry = record { account = a; positions = [] } })) (n + 1) q))
    (◌>>=◌ (given (after (codes "end=") l) (Line refusals.Key n)) (λ t. ◌>>=◌ (given (plain_of t) (Line refusals.Field n)) (λ k. ◌>>◌ (want (eqb k (length all)) (Line refusals.Count n)) (◌>>◌ (want (nothing q.0 q.1) (Line refusals.TooLong (n + 1))) (Ok all)))))

module _ (w : Whole) (x : State) (done : List Entry) (s : Sofar w x done) where
  answered : {r : Result (List Entry) Fault} → run w.add done x.columns (in_hand x) x.n (parted 10 x.rest) ≡ r → answer w ≡ r
  answered e = sym s.same ∙ e

  -- a line, and what follows it
  module _ (line next : List ℕ) (cut : parted 10 x.rest ≡ more line (parted 10 next)) (shorter : length next < length x.rest) where
    at_line : (l : List ℕ) → line ≡ l → run w.add done x.columns (in_hand x) x.n (parted 10 x.rest) ≡ run w.add done x.columns (in_hand x) x.n (more l (parted 10 next))
    at_line l e = ap (run w.add done x.columns (in_hand x) x.n) (cut ∙ ap (λ y. more y (parted 10 next)) e)

    -- any other line: the account in hand is added first
    module _ (other : (t : List ℕ) → line ≡ codes "pos=" ++ t → ⊥) where
      pub refused : (f : Fault) → Err f ≡ closed_by w.add x.columns (in_hand x) → answer w ≡ Err f
      refused f h = answered (at_line _ refl ∙ maybe_none _ _ _ (after_none (codes "pos=") line other) (then_none _ f _ (settled_err w.add done x.columns (in_hand x) f h)))

      module _ (good : Ok tt ≡ closed_by w.add x.columns (in_hand x)) where
        added : {r : Result (List Entry) Fault} → other_line w.add (done_after done (in_hand x)) (columns_by w.add x.columns (in_hand x)) x.n line (parted 10 next) ≡ r → run w.add done x.columns (in_hand x) x.n (parted 10 x.rest) ≡ r
        added e = at_line _ refl ∙ maybe_none _ _ _ (after_none (codes "pos=") line other) (then_made (settled w.add done x.columns (in_hand x)) _ _ (settled_ok w.add done x.columns (in_hand x) good) e)

        begun_is : length (done_after done (in_hand x)) ≡ x.begun
        begun_is = length_after x.hand done x.held ∙ sym s.counted

        by_text : {r : Result (List Entry) Fault} (l : List ℕ) → line ≡ l → other_line w.add (done_after done (in_hand x)) (columns_by w.add x.columns (in_hand x)) x.n l (parted 10 next) ≡ r → answer w ≡ r
        by_text l is e = answered (added (ap (λ y. other_line w.add (done_after done (in_hand x)) (columns_by w.add x.columns (in_hand x)) x.n y (parted 10 next)) is ∙ e))

        module _ (t : List ℕ) (is : line ≡ codes "acc=" ++ t) where
          pub acc_more : (a : Account) → Some a ≡ account_fields (parted 44 t) → Sofar w (record { rest = next; n = x.n + 1; begun = x.begun + 1; hand = Some (record { line = x.n; account = a; count = 0 }); held = x.held; columns = columns_by w.add x.columns (in_hand x) }) (done_after done (in_hand x))
          acc_more a e = record {
            same = sym (by_text _ is (given_made _ _ _ a (sym e) refl));
            tally = tallied_after w.add w.columns x.columns done (in_hand x) s.tally;
            counted = omega (arith, begun_is);
            few = omega arith;
            long = s.long;
            room = omega (arith, s.room);
            less = omega (arith, s.less);
            start = tt;
          }

        module _ (t : List ℕ) (is : line ≡ codes "end=" ++ t) where
          module _ (k : ℕ) (e : Some k ≡ plain_of t) where
            pub end_after : k ≡ x.begun → 0 < length next → answer w ≡ Err (Line refusals.TooLong (x.n + 1))
            end_after f more' = by_text _ is (given_made _ _ _ k (sym e) (want_made _ _ _ (eq-eqb k (length (done_after done (in_hand x))) (f ∙ sym begun_is)) (want_none _ _ _ (something_after next more'))))

            end_good : k ≡ x.begun → length next ≡ 0 → answer w ≡ Ok (done_after done (in_hand x))
            end_good f none = by_text _ is (given_made _ _ _ k (sym e) (want_made _ _ _ (eq-eqb k (length (done_after done (in_hand x))) (f ∙ sym begun_is)) (want_made _ _ _ (nothing_after next none) refl)))

            pub end_read : k ≡ x.begun → length next ≡ 0 → (count : ℕ) → count ≡ count_of x.hand → (new : List ℕ) → new ≡ columns_by w.add x.columns (in_hand x) → BodyRead w.add w.columns (answer w) (Ok count) x.held new
            end_read f none count same new c =
                subst (λ y. BodyRead w.add w.columns y (Ok count) x.held new) (sym (end_good f none))
                (ap (λ j. take j x.held) same ∙ last_held x.hand done x.held s.start, c ∙ tallied_after w.add w.columns x.columns done (in_hand x) s.tally)

        pub unknown : ((t : List ℕ) → line ≡ codes "acc=" ++ t → ⊥) → ((t : List ℕ) → line ≡ codes "end=" ++ t → ⊥) → answer w ≡ Err (Line refusals.Key x.n)
        unknown a b = answered (added (maybe_none _ _ _ (after_none (codes "acc=") line a) (given_none _ _ _ (after_none (codes "end=") line b))))
