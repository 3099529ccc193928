-- The charges of a loss, member by member. Assumes nothing.
use Rattle.std.proofs.Common.{◌≡◌, ℕ, ◌+◌, ◌-◌, ◌*◌, ◌≤◌, true, false, cond, not, eqb, List, sym, refl, ap, ◌∙◌, subst, ⊎_elim, arith}
use Rattle.std.proofs.lemmas.Bool.{and_from, and_left, and_parts, and_right, cases_Bool, cases_eq, cond_both, cond-false, cond-true, eq-eqb, eqb-false, ne_eqb, not_from_false, not_from_true, not-true}
use Rattle.terms.specs.Limits.{last_member}
use Rattle.terms.proofs.Adding.{sum_to_changed, sum_to_same}
use Rattle.share.specs.Split.{part_by}
use Rattle.share.proofs.Cuts.{in_proportion, part_le}
use Rattle.tables.specs.Book.{IsMember}
use Rattle.house.specs.Holders.{Holders, bears, charge_of, over_members, own_of, stake_of}
use Rattle.house.specs.Promises.{ChargesFair, borne_of, stakes_of}
use Rattle.house.specs.Rows.{Charged, amount_in}

module _ (x : Holders) (d : ℕ) (id : IsMember d) (quiet : (m : ℕ) → IsMember m → x.shares m ≡ false → x.held m ≡ 0) where
  stakes : ℕ → ℕ
  stakes k = stake_of x d (k + 1)

  back : (m : ℕ) → IsMember m → m - 1 + 1 ≡ m
  back m im = omega (arith, im.0)

  stake_own : stake_of x d d ≡ 0
  stake_own = cond-false (bears x d d) _ 0 (and_right (x.shares d) (not (eqb d d)) (not_from_true (eqb d d) (eq-eqb d d refl)))

  stake_other : (m : ℕ) → IsMember m → (m ≡ d → ⊥) → stake_of x d m ≡ x.held m
  stake_other m im ne = ⊎_elim
      (λ (h : x.shares m ≡ true). cond-true (bears x d m) _ 0 (and_from (x.shares m) (not (eqb m d)) h (not_from_false (eqb m d) (ne_eqb m d ne))))
      (λ (h : x.shares m ≡ false). cond-false (bears x d m) _ 0 (and_left (x.shares m) (not (eqb m d)) h) ∙ sym (quiet m im h))
      (cases_Bool (x.shares m))

  stake_at_most : (m : ℕ) → stake_of x d m ≤ x.held m
  stake_at_most m = cond_both (bears x d m) (x.held m) 0 (λ v. v ≤ x.held m) (λ _. omega arith) (λ _. omega arith)

  -- the stakes are all that is held, less what the defaulter holds
  pub stakes_sum : stakes_of x d + x.held d ≡ over_members x.held
  stakes_sum =
      let e = back d id in
      let ch = sum_to_changed last_member (λ k. x.held (k + 1)) (λ k. stake_of x d (k + 1)) (d - 1) (omega (arith, id.0, id.1)) (λ k l ne. sym (stake_other (k + 1) (omega arith, omega arith) (λ q. ne (omega arith)))) in
      omega (arith, ch, stake_own, ap (λ (m : ℕ). stake_of x d m) e, ap (λ (m : ℕ). x.held m) e)

  module _ (a : ℕ) (within : a ≤ over_members x.held) where
    -- what the defaulter does not pay is no more than the others hold
    pub rest_enough : a - own_of x d a ≤ stakes_of x d
    rest_enough = omega (arith, stakes_sum)

    own_charge : charge_of x d a d ≡ own_of x d a
    own_charge = cond-true (eqb d d) _ _ (eq-eqb d d refl)

    other_charge : (m : ℕ) → (m ≡ d → ⊥) → charge_of x d a m ≡ part_by (a - own_of x d a) last_member (λ k. stake_of x d (k + 1)) (m - 1)
    other_charge m ne = cond-false (eqb m d) _ _ (ne_eqb m d ne)

    pub charge_at_most : (m : ℕ) → IsMember m → charge_of x d a m ≤ x.held m
    charge_at_most m im = ⊎_elim
        (λ (q : m ≡ d). subst (λ (j : ℕ). charge_of x d a j ≤ x.held j) (sym q) (omega (arith, own_charge)))
        (λ (ne : m ≡ d → ⊥).
        omega (arith, other_charge m ne, part_le (a - own_of x d a) last_member (λ k. stake_of x d (k + 1)) (m - 1) rest_enough, ap (λ (j : ℕ). stake_of x d j) (back m im), stake_at_most m))
        (cases_eq m d)

    module _ (charges : List ℕ) (is : Charged x d a charges) where
      borne_is : borne_of d charges ≡ a - own_of x d a
      borne_is =
          sum_to_same last_member (λ k. cond (eqb (k + 1) d) 0 (amount_in charges (k + 1))) (part_by (a - own_of x d a) last_member (λ k. stake_of x d (k + 1)))
          (λ k l.
          let e : k + 1 - 1 ≡ k = omega arith in
          ⊎_elim
          (λ (q : k + 1 ≡ d).
          let none : stake_of x d (k + 1) ≡ 0 = ap (λ (m : ℕ). stake_of x d m) q ∙ stake_own in
          omega (arith, cond-true (eqb (k + 1) d) 0 (amount_in charges (k + 1)) (eq-eqb (k + 1) d q), part_le (a - own_of x d a) last_member (λ i. stake_of x d (i + 1)) k rest_enough, none))
          (λ (ne : k + 1 ≡ d → ⊥).
          cond-false (eqb (k + 1) d) 0 (amount_in charges (k + 1)) (ne_eqb (k + 1) d ne) ∙ is.each (k + 1) (omega arith, omega arith) ∙ other_charge (k + 1) ne ∙ ap (λ (i : ℕ). part_by (a - own_of x d a) last_member (λ k. stake_of x d (k + 1)) i) e)
          (cases_eq (k + 1) d))
          ∙ (in_proportion (a - own_of x d a) last_member (λ k. stake_of x d (k + 1)) rest_enough).all

      charges_all : over_members (amount_in charges) ≡ a
      charges_all =
          let e = back d id in
          let f : ℕ → ℕ = λ k. amount_in charges (k + 1) in
          let g : ℕ → ℕ = λ k. cond (eqb (k + 1) d) 0 (amount_in charges (k + 1)) in
          let ch = sum_to_changed last_member f g (d - 1) (omega (arith, id.0, id.1)) (λ k l ne. sym (cond-false (eqb (k + 1) d) 0 (amount_in charges (k + 1)) (ne_eqb (k + 1) d (λ q. ne (omega arith))))) in
          let zero_at : g (d - 1) ≡ 0 = cond-true (eqb (d - 1 + 1) d) 0 (amount_in charges (d - 1 + 1)) (eq-eqb (d - 1 + 1) d e) in
          let own_at : f (d - 1) ≡ own_of x d a = ap (λ (m : ℕ). amount_in charges m) e ∙ is.each d id ∙ own_charge in
          omega (arith, ch, zero_at, own_at, borne_is)

      -- a member that bears the loss
      another : (m : ℕ) → bears x d m ≡ true → m ≡ d → ⊥
      another m h = eqb-false m d (not-true (eqb m d) (and_parts (x.shares m) (not (eqb m d)) h).1)

      part_is : (m : ℕ) → IsMember m → bears x d m ≡ true → amount_in charges m ≡ part_by (a - own_of x d a) last_member (λ k. stake_of x d (k + 1)) (m - 1)
      part_is m im h = is.each m im ∙ other_charge m (another m h)

      stake_is : (m : ℕ) → IsMember m → bears x d m ≡ true → stake_of x d (m - 1 + 1) ≡ x.held m
      stake_is m im h = ap (λ (j : ℕ). stake_of x d j) (back m im) ∙ cond-true (bears x d m) (x.held m) 0 h

      pub charges_fair : ChargesFair x d a charges
      charges_fair = record {
        all = charges_all;
        own = is.each d id ∙ own_charge;
        within = λ m im. omega (arith, is.each m im, charge_at_most m im);
        none = λ m im h. omega (arith, is.each m im, charge_at_most m im, quiet m im h);
        under = λ m im h some.
            omega (arith, (in_proportion (a - own_of x d a) last_member (λ k. stake_of x d (k + 1)) rest_enough).under (m - 1) some, ap (λ (v : ℕ). v * stakes_of x d) (part_is m im h), ap (λ (v : ℕ). (a - own_of x d a) * v) (stake_is m im h), ap (λ (T : ℕ). T * x.held m) borne_is);
        over = λ m im h some.
            omega (arith, (in_proportion (a - own_of x d a) last_member (λ k. stake_of x d (k + 1)) rest_enough).over (m - 1) some, ap (λ (v : ℕ). v * stakes_of x d) (part_is m im h), ap (λ (v : ℕ). (a - own_of x d a) * v) (stake_is m im h), ap (λ (T : ℕ). T * x.held m) borne_is);
        idle = λ m im h none. part_is m im h ∙ (in_proportion (a - own_of x d a) last_member (λ k. stake_of x d (k + 1)) rest_enough).idle (m - 1) none;
      }
