-- A loss that a book can bear: its stakes can be split, and its charges are fair. Assumes nothing.
use Rattle.std.proofs.Common.{◌≡◌, ℕ, ◌+◌, ◌-◌, ◌<◌, ◌≤◌, List, map, length, get_or, set, sum, true, Ok, sym, subst, arith}
use Rattle.terms.specs.Limits.{all_members, held_limit, split_limit}
use Rattle.share.specs.Split.{part_at}
use Rattle.tables.specs.Book.{Book, IsMember, IsSegment, held_in, seat_at, shares}
use Rattle.tables.specs.declared.records.Pledges.{Pledges}
use Rattle.tables.specs.declared.records.Seat.{Seat}
use Rattle.fund.specs.Calls.{Has}
use Rattle.house.specs.Holders.{own_of, stake_of}
use Rattle.house.specs.Loss.{Loss, charged_all, holders_in}
use Rattle.house.specs.Promises.{ChargesFair}
use Rattle.house.specs.Rows.{Charged, amount_in}
use Rattle.house.proofs.Charging.{charges_fair, stakes_sum}
use Rattle.house.proofs.LossBooks.{held_falls, loss_book, quiet}
use Rattle.house.proofs.Staking.{charged_is, weights_sum}

pub record Bearable (t : List Seat) (p : List Pledges) (s d a : ℕ) (stakes : List ℕ) : Type 0 where
  pub book : Book t p
  pub member : IsMember d
  pub segment : IsSegment s
  pub within : a ≤ held_in t s
  pub long : length stakes ≡ all_members
  pub are : (m : ℕ) → IsMember m → amount_in stakes m ≡ stake_of (holders_in t s) d m

-- what a loss then promises
pub record Borne (t : List Seat) (p : List Pledges) (s d a : ℕ) (charges : List ℕ) (t' : List Seat) (charges' : List ℕ) : Type 0 where
  pub is : Loss t p d s a charges (Ok tt) t' charges'
  pub fair : ChargesFair (holders_in t s) d a charges'
  pub held : held_in t' s + a ≡ held_in t s
  pub book : Book t' p

module _ (t : List Seat) (p : List Pledges) (s d a : ℕ) (stakes : List ℕ) (l : Bearable t p s d a stakes) where
  pub stakes_small : sum stakes ≤ split_limit
  stakes_small = omega (arith, weights_sum (holders_in t s) d stakes l.long l.are, stakes_sum (holders_in t s) d l.member (quiet t p s l.book l.segment), l.book.ceiling s l.segment)

  -- the parts of what the defaulter does not pay, with its own charge in its place
  module _ (own i : ℕ) (parts : List ℕ) (lp : length parts ≡ all_members) (eo : own ≡ own_of (holders_in t s) d a) (ei : i + 1 ≡ d) (h : (k : ℕ) → k < length stakes → get_or parts k 0 ≡ part_at (a - own) (map (λ w. w) stakes) k) where
    pub are_charged : Charged (holders_in t s) d a (set parts i own)
    are_charged =
        let e : d - 1 ≡ i = omega arith in
        subst (λ k. Charged (holders_in t s) d a (set parts k own)) e (charged_is (holders_in t s) d stakes l.long l.are a own parts l.member lp eo h)

    pub are_fair : ChargesFair (holders_in t s) d a (set parts i own)
    are_fair = charges_fair (holders_in t s) d l.member (quiet t p s l.book l.segment) a l.within (set parts i own) are_charged

    pub is_borne : (charges : List ℕ) (t' : List Seat) → length charges ≡ all_members → Has t d s → shares (seat_at t d s).class ≡ true → (1 ≤ a) × (a ≤ held_limit) → t' ≡ charged_all t s (set parts i own) → Borne t p s d a charges t' (set parts i own)
    is_borne charges t' long has sharing amount e = record {
      is = ((l.book, (l.member, (l.segment, (long, (has, (sharing, (amount, (l.within, tt)))))))), (are_charged, e));
      fair = are_fair;
      held = subst (λ u. held_in u s + a ≡ held_in t s) (sym e) (held_falls t p s l.book l.segment d a (set parts i own) are_fair);
      book = subst (λ u. Book u p) (sym e) (loss_book t p s l.book l.segment d a (set parts i own) are_fair);
    }
