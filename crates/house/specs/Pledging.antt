-- Pledges and releases: what each wants, in order, and what it leaves.
use Rattle.std.specs.Prelude.{◌≡◌, ℕ, ◌+◌, ◌-◌, ◌≤◌, ◌⊎◌, List, [], ◌∷◌, Ok, Err, Result, slice_index_or, slice_set}
use Rattle.terms.specs.Limits.{amount_limit}
use Rattle.terms.specs.Refusing.{Fails, Judged, Met, Wants}
use Rattle.terms.specs.declared.refusals.Refusal.{Refusal}
use Rattle.terms.specs.declared.refusals.Refusal.TheVariants as refusals
use Rattle.tables.specs.Book.{Book, IsAmount, IsMember, no_pledges}
use Rattle.tables.specs.declared.records.Pledges.{Pledges}
use Rattle.tables.specs.declared.records.Seat.{Seat}
use Rattle.house.specs.declared.kinds.PledgeKind.{PledgeKind}
use Rattle.house.specs.declared.kinds.PledgeKind.TheVariants.{Individual, Extraordinary}

-- the pledges of member m
abbrev pub pledges_at : List Pledges → ℕ → Pledges
pledges_at p m = slice_index_or p (m - 1) no_pledges

-- the pledge of a kind
abbrev pub pledge_of : PledgeKind → Pledges → ℕ
pledge_of Individual x = x.individual
pledge_of Extraordinary x = x.extraordinary

-- the pledge of a kind becomes v, and the other stays
abbrev pub pledging : PledgeKind → ℕ → Pledges → Pledges
pledging Individual v x = record { individual = v; extraordinary = x.extraordinary }
pledging Extraordinary v x = record { individual = x.individual; extraordinary = v }

-- what a change of a pledge wants, in order, before it is judged by the pledge itself
abbrev pub change_wants : List Seat → List Pledges → ℕ → ℕ → Wants
change_wants t p m a =
    (Book t p, refusals.NoBook)
    ∷ (IsMember m, refusals.Member)
    ∷ (IsAmount a, refusals.Amount)
    ∷ []

-- a pledge is changed to what `becomes` gives of it and the amount, or refused as it says
abbrev pub Changed : (ℕ → ℕ → Result ℕ Refusal → Type 0) → List Seat → List Pledges → ℕ → PledgeKind → ℕ → Result (Unit {0}) Refusal → List Pledges → Type 0
Changed becomes t p m kind a (Ok x) p' =
    Met (change_wants t p m a)
    × ((after : ℕ) × becomes (pledge_of kind (pledges_at p m)) a (Ok after) × (p' ≡ slice_set p (m - 1) (pledging kind after (pledges_at p m))))
Changed becomes t p m kind a (Err e) p' =
    (Fails (change_wants t p m a) e ⊎ (Met (change_wants t p m a) × becomes (pledge_of kind (pledges_at p m)) a (Err e)))
    × (p' ≡ p)

abbrev pub pledge_wants : List Seat → List Pledges → ℕ → PledgeKind → ℕ → Wants
pledge_wants t p m kind a =
    (Book t p, refusals.NoBook)
    ∷ (IsMember m, refusals.Member)
    ∷ (IsAmount a, refusals.Amount)
    ∷ (pledge_of kind (pledges_at p m) + a ≤ amount_limit, refusals.Ceiling)
    ∷ []

abbrev pub Pledge : List Seat → List Pledges → ℕ → PledgeKind → ℕ → Result (Unit {0}) Refusal → List Pledges → Type 0
Pledge t p m kind a r p' =
    Judged (pledge_wants t p m kind a) r (λ _. p' ≡ slice_set p (m - 1) (pledging kind (pledge_of kind (pledges_at p m) + a) (pledges_at p m))) (p' ≡ p)

abbrev pub release_wants : List Seat → List Pledges → ℕ → PledgeKind → ℕ → Wants
release_wants t p m kind a =
    (Book t p, refusals.NoBook)
    ∷ (IsMember m, refusals.Member)
    ∷ (IsAmount a, refusals.Amount)
    ∷ (a ≤ pledge_of kind (pledges_at p m), refusals.TooLittleLeft)
    ∷ []

abbrev pub Release : List Seat → List Pledges → ℕ → PledgeKind → ℕ → Result (Unit {0}) Refusal → List Pledges → Type 0
Release t p m kind a r p' =
    Judged (release_wants t p m kind a) r (λ _. p' ≡ slice_set p (m - 1) (pledging kind (pledge_of kind (pledges_at p m) - a) (pledges_at p m))) (p' ≡ p)
