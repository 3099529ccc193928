-- Whether anybody shares in a segment, told by the list of their means. Assumes nothing.
use Rattle.std.proofs.Common.{◌≡◌, ℕ, ◌<◌, ◌≤◌, List, length, get_or, ap, ◌∙◌, arith}
use Rattle.std.proofs.lemmas.List.{length-map}
use Rattle.terms.specs.Limits.{figure_limit, last_member}
use Rattle.sizing.specs.Lists.{AreMeans}
use Rattle.tables.specs.declared.records.Seat.{Seat}
use Rattle.strike.specs.Members.{means_of, sharers}
use Rattle.strike.specs.Strike.{SomeoneShares, members_in}
use Rattle.strike.proofs.Listing.{count_few, counted, someone}

module _ (t : List Seat) (s : ℕ) (list : List ℕ) (is : list ≡ means_of (members_in t s)) where
  pub as_many : length list ≡ length (sharers (members_in t s))
  as_many = ap length is ∙ length-map (sharers (members_in t s)) (members_in t s).mean

  pub someone_shares : 1 ≤ length list → SomeoneShares t s
  someone_shares some = let r = someone (members_in t s).shares last_member (omega (arith, as_many)) in (r.0, ((r.1.0, r.1.1), r.1.2))

  pub nobody_shares : ((k : ℕ) → k < length list → get_or list k 0 ≤ figure_limit) → (AreMeans list → ⊥) → SomeoneShares t s → ⊥
  nobody_shares small none (m, (im, h)) =
      let x = members_in t s in
      none (omega (arith, as_many, counted x.shares last_member m im.0 im.1 h), omega (arith, as_many, count_few x.shares last_member), small)
