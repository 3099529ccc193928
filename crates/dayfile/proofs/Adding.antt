-- What a tally answers for the account in hand, by the rule of adding. Assumes nothing.
use Rattle.std.proofs.Common.{Result, ◌≡◌, ℕ, List, take, ℤ, Some, None, Ok, Err, Option, sym, ap, ◌∙◌}
use Rattle.terms.specs.Refusing.{first_refusal, refusal_of}
use Rattle.terms.specs.declared.refusals.Refusal.{Refusal}
use Rattle.figures.specs.declared.kinds.Position.{Position}
use Rattle.figures.specs.Accounts.{add_tests, adding, columns_after, offset_of, raised}
use Rattle.dayfile.specs.declared.body.Open.{Open}
use Rattle.std.specs.Result.{IsErrAnd, MatchResult}
use Rattle.std.proofs.lemmas.Result.{err_from_is_err_and}
use Rattle.dayreport.specs.declared.faults.Fault.{Fault}
use Rattle.dayreport.specs.declared.faults.Fault.TheVariants.{Tally}
use Rattle.dayfile.specs.Days.{or_before, taking}
use Rattle.dayfile.specs.Reading.{told}
use Rattle.dayfile.specs.Seen.{closed_by, columns_by, hand_of, judged}

module _ (n : ℕ) (sheet : List ℤ) (columns : List ℕ) (ps : List Position) (hand : Option Open) (o : Open) (is : hand ≡ Some o) where
  adding_good : None ≡ first_refusal (add_tests n columns sheet o.account (take o.count ps)) → adding n sheet columns o.account (take o.count ps) ≡ Ok (raised n sheet (offset_of o.account) (take o.count ps) columns)
  unfolding adding
  adding_good h = rw (← h)

  adding_bad : (r : Refusal) → Some r ≡ first_refusal (add_tests n columns sheet o.account (take o.count ps)) → adding n sheet columns o.account (take o.count ps) ≡ Err r
  unfolding adding
  adding_bad r h = rw (← h)

  good : None ≡ first_refusal (add_tests n columns sheet o.account (take o.count ps)) → Ok tt ≡ closed_by (taking n sheet) columns (hand_of hand ps)
  good h = sym (ap (λ x. closed_by (taking n sheet) columns (hand_of x ps)) is ∙ ap (λ r. judged (told r o.line)) (adding_good h))

  bad : (r : Refusal) → Some r ≡ first_refusal (add_tests n columns sheet o.account (take o.count ps)) → Err (Tally r o.line) ≡ closed_by (taking n sheet) columns (hand_of hand ps)
  bad r h = sym (ap (λ x. closed_by (taking n sheet) columns (hand_of x ps)) is ∙ ap (λ x. judged (told x o.line)) (adding_bad r h))

  -- the answer, whose refusal is told at the account's line
  pub settled_fault : {Q : Refusal → Fault → Type 0} (r : Result (Unit {0}) Refusal) (t : Result (Unit {0}) Fault) → refusal_of r ≡ first_refusal (add_tests n columns sheet o.account (take o.count ps)) → MatchResult r (λ x. t ≡ Ok x) (λ e. IsErrAnd t (Q e)) → ((e : Refusal) (f : Fault) → Q e f → f ≡ Tally e o.line) → t ≡ closed_by (taking n sheet) columns (hand_of hand ps)
  settled_fault (Ok u) t h m q = m ∙ good h
  settled_fault (Err e) t h m q = let p = err_from_is_err_and t m in p.1 ∙ ap Err (q e p.0 p.2) ∙ bad e h

  -- the columns, raised or as they were
  pub settled_columns : (r : Result (Unit {0}) Refusal) → refusal_of r ≡ first_refusal (add_tests n columns sheet o.account (take o.count ps)) → columns_after r n columns sheet o.account (take o.count ps) ≡ columns_by (taking n sheet) columns (hand_of hand ps)
  settled_columns (Ok u) h = sym (ap (λ x. columns_by (taking n sheet) columns (hand_of x ps)) is ∙ ap (λ r. or_before r columns) (adding_good h))
  settled_columns (Err e) h = sym (ap (λ x. columns_by (taking n sheet) columns (hand_of x ps)) is ∙ ap (λ x. or_before x columns) (adding_bad e h))
