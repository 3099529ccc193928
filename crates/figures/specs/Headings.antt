-- Headings, and the tally that one opens.
use Rattle.std.specs.Prelude.{◌≡◌, ℕ, [], ◌∷◌, replicate}
use Rattle.terms.specs.Limits.{within, last_member, last_segment, day_limit, most_scenarios}
use Rattle.terms.specs.Refusing.{Tests}
use Rattle.terms.specs.declared.refusals.Refusal.TheVariants.{Member, Segment, Day, Scenarios}
use Rattle.figures.specs.declared.kinds.Heading.{Heading}
use Rattle.figures.specs.declared.kinds.Tally.{Tally}

-- what is tested of a heading, in order
abbrev pub heading_tests : ℕ → ℕ → ℕ → ℕ → Tests
heading_tests member segment day scenarios =
    (within 1 last_member member, Member)
    ∷ (within 1 last_segment segment, Segment)
    ∷ (within 1 day_limit day, Day)
    ∷ (within 1 most_scenarios scenarios, Scenarios)
    ∷ []

-- the heading of these numbers
pub record Headed (h : Heading) (m s d n : ℕ) : Type 0 where
  pub member : h.closing.member.number ≡ m
  pub segment : h.closing.segment.number ≡ s
  pub day : h.closing.day.number ≡ d
  pub scenarios : h.scenarios ≡ n

-- a tally starts with a zero in each of its columns
pub record Opened (h : Heading) (t : Tally) : Type 0 where
  pub closing : t.closing ≡ h.closing
  pub scenarios : t.scenarios ≡ h.scenarios
  pub columns : t.columns ≡ replicate most_scenarios 0
