-- The two distances that a header stores, held against the farthest cards: document 02, A9.
-- Assumes nothing.
use Rattle.std.specs.Prelude.{ℕ, Bool, true, false, not, eqb, Option, Some, None, Result, Ok, Err}
use Rattle.search.specs.Places.{either}
use Rattle.refusals.specs.declared.SentBack.{SentBack}
use Rattle.refusals.specs.declared.Refusal.TheVariants as refusal
use Rattle.refusals.specs.Numbers.{refused_at}
use Rattle.farthest.specs.declared.Leader.{Leader}
use Rattle.farthest.specs.declared.Leaders.{Leaders}
use Rattle.header.specs.declared.Stored.{Stored}

-- the distance of a farthest card, in hundredths of a mile: "zero for none"
abbrev pub distance_in : Option Leader → ℕ
distance_in None = 0
distance_in (Some lead) = lead.distance.0

-- the two "worked out afresh", "toxic then flammable"
abbrev pub distances_of : Leaders → Stored
distances_of l = record { toxic = distance_in l.toxic; flammable = distance_in l.flammable }

-- "A wrong stored distance": one of the two is not the one worked out afresh
abbrev pub differ : Stored → Stored → Bool
differ s t = either (not (eqb s.toxic t.toxic)) (not (eqb s.flammable t.flammable))

unfoldable pub wrong_for : Option Stored → Leaders → Bool
wrong_for None l = false
wrong_for (Some s) l = differ s (distances_of l)

-- both farthest of cards that have passed, unless a wrong distance is stored
abbrev pub unless : Bool → Leaders → Result Leaders (SentBack ℕ)
unless true l = Err (refused_at refusal.Count 0)
unless false l = Ok l

unfoldable pub held_to : Option Stored → Leaders → Result Leaders (SentBack ℕ)
held_to s l = unless (wrong_for s l) l
