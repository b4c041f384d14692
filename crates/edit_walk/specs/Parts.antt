-- The cards of a register in parts, one behind the other: what each comes to by itself, and the leads of two parts. It serves the proofs.
-- Assumes nothing.
use Rattle.std.specs.Prelude.{ℕ, ◌≡◌, List, ◌++◌, ltb, Option, Some, None, Result, Ok, Err}
use Rattle.refusals.specs.declared.SentBack.{SentBack}
use Rattle.refusals.specs.Numbers.{refused_at}
use Rattle.farthest.specs.declared.Leader.{Leader}
use Rattle.farthest.specs.declared.Leaders.{Leaders}
use Rattle.farthest.specs.Farthest.{pick, no_leaders}
use Rattle.header.specs.declared.Stored.{Stored}
use Rattle.running.specs.declared.Running.{Running}
use Rattle.running.specs.Running.{before_cards, running_after}
use Rattle.cards.specs.Register.{Cards, answers, sent_back, cards_from, settled, result_of}

-- the lead of a class in two parts: a card behind takes it by a larger distance alone
abbrev pub merged_lead : Option Leader → Option Leader → Option Leader
merged_lead f None = f
merged_lead None (Some next) = Some next
merged_lead (Some best) (Some next) = pick (ltb best.distance.0 next.distance.0) (Some next) (Some best)

unfoldable pub merged : Leaders → Leaders → Leaders
merged l m = record { toxic = merged_lead l.toxic m.toxic; flammable = merged_lead l.flammable m.flammable }

-- the last number and the place go on, and the leads begin anew
abbrev pub afresh : Running → Running
afresh s = record { leaders = no_leaders; last = s.last; place = s.place }

abbrev pub ended : Running → Cards → Result Running (SentBack ℕ)
ended s (answers xs) = Ok (running_after (afresh s) xs)
ended s (sent_back r place) = Err (refused_at r place)

-- the running values behind a part, or its first card that is sent back
unfoldable pub part_of : Running → List (List ℕ) → Result Running (SentBack ℕ)
part_of s cards = ended s (cards_from s.place s.last cards)

-- what the leads of the cards behind these running values come to
abbrev pub leads_behind : Running → List (List ℕ) → Result Leaders (SentBack ℕ)
leads_behind s cards = result_of (cards_from s.place s.last cards)

-- what an accepted register leaves of its walk: the running values behind the cards in front, and the leads of those behind
pub record Accepted (s : Option Stored) (front named behind : List (List ℕ)) (t : Running) (l : Leaders) : Type 0 where
  pub all : Leaders
  pub accepted : result_of (settled s (cards_from 0 0 (front ++ (named ++ behind)))) ≡ Ok all
  pub before : part_of before_cards front ≡ Ok t
  pub with : Running
  pub after : leads_behind with behind ≡ Ok l

abbrev pub Walked : Option Stored → List (List ℕ) → List (List ℕ) → List (List ℕ) → Result (Running × Leaders) (SentBack ℕ) → Type 0
Walked s front named behind (Ok (t, l)) = Accepted s front named behind t l
Walked s front named behind (Err sent) = result_of (settled s (cards_from 0 0 (front ++ (named ++ behind)))) ≡ Err sent
