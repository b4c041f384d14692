-- The leaders after the first k cards, by examples: registers of document 01's cards, with the leaders as they go, and the theorem
-- that each is told as its row states, in each version. The general statement is `Keeps` in `prefix/specs/Claim.antt`.
-- Assumes nothing.
use Rattle.std.specs.Prelude.{ℕ, ◌≡◌, refl, List, [], ◌∷◌, map, Option, Result, Ok, Err}
use Rattle.farthest.specs.declared.Leader.{Leader}
use Rattle.farthest.specs.declared.Leaders.{Leaders}
use Rattle.refusals.specs.declared.SentBack.{SentBack}
use Rattle.refusals.specs.Numbers.{refused_at}
use Rattle.refusals.specs.declared.Refusal.TheVariants as refusal
use Rattle.prefix.specs.Prefix.{prefix_of}
use Rattle.promises.specs.Starred.{register_of, storing_register, seasonal_register, chlorine, bromine, propane, rural, urban, in_open, in_dike, in_building, at, none, computed}

-- some cards, and the distances of the farthest of them all, which a register of version 2 or 3 stores
pub record Filed : Type 0 where
  pub cards : List (List ℕ)
  pub toxic : ℕ
  pub flammable : ℕ

abbrev pub filed : ℕ → ℕ → List (List ℕ) → Filed
filed t f cards = record { cards = cards; toxic = t; flammable = f }

-- cards, how many of them, and what the call tells
pub record Told : Type 0 where
  pub of_cards : Filed
  pub after : ℕ
  pub outcome : Result Leaders (SentBack ℕ)

abbrev pub leaders : Filed → ℕ → Option Leader → Option Leader → Told
leaders cards k t f = record { of_cards = cards; after = k; outcome = Ok (record { toxic = t; flammable = f }) }

-- "Cards: 11 chlorine .. 2,500 lb; 12 bromine .. dike 100 sq ft, wall 400; 13 propane (74986), 10,000 lb"
abbrev pub listed : Filed
listed = filed 180 18 (chlorine urban in_open 0 2_500 11 ∷ bromine in_dike 100 400 12 ∷ propane 10_000 13 ∷ [])

-- 3.40 miles by a gas and by a pool, and between them a blast
abbrev pub tied : Filed
tied =
    filed 340 22 (chlorine rural in_open 0 2_250 1 ∷ propane 20_001 2 ∷ bromine in_dike 100 100 3 ∷ chlorine rural in_open 0 2_249 4 ∷ [])

-- a shed's pool, and a farther gas behind it
abbrev pub rising : Filed
rising = filed 300 0 (bromine in_building 100 0 1 ∷ chlorine rural in_open 0 2_249 2 ∷ [])

-- a second card of 0 lb
abbrev pub spoiled : Filed
spoiled = filed 340 0 (chlorine rural in_open 0 2_250 1 ∷ chlorine rural in_open 0 0 2 ∷ [])

unfoldable pub rows : List Told
rows =
    -- "k = 0 is none and none"
    leaders listed 0 none none
    ∷ leaders listed 1 (at 11 150) none
    ∷ leaders listed 2 (at 12 180) none
    ∷ leaders listed 3 (at 12 180) (at 13 18)
    -- beyond the count: all cards
    ∷ leaders listed 4 (at 12 180) (at 13 18)
    ∷ leaders listed 18_446_744_073_709_551_615 (at 12 180) (at 13 18)
    ∷ leaders (filed 0 0 []) 1 none none
    -- a flammable card leaves the toxic leader alone, and on a tie the earlier card stays
    ∷ leaders tied 1 (at 1 340) none
    ∷ leaders tied 2 (at 1 340) (at 2 22)
    ∷ leaders tied 3 (at 1 340) (at 2 22)
    ∷ leaders tied 4 (at 1 340) (at 2 22)
    -- a farther card takes the lead
    ∷ leaders rising 1 (at 1 40) none
    ∷ leaders rising 2 (at 2 300) none
    -- a register that is sent back tells why, also before the card that it is for
    ∷ record { of_cards = spoiled; after = 0; outcome = Err (refused_at refusal.Quantity 1) }
    ∷ record { of_cards = spoiled; after = 1; outcome = Err (refused_at refusal.Quantity 1) }
    ∷ record { of_cards = spoiled; after = 2; outcome = Err (refused_at refusal.Quantity 1) }
    ∷ []

pub told : map (λ r. prefix_of (register_of r.of_cards.cards) r.after) rows ≡ map (λ r. r.outcome) rows
unfolding rows computed prefix_of
told = refl

pub told_storing : map (λ r. prefix_of (storing_register r.of_cards.toxic r.of_cards.flammable r.of_cards.cards) r.after) rows ≡ map (λ r. r.outcome) rows
unfolding rows computed prefix_of
told_storing = refl

pub told_seasonal : map (λ r. prefix_of (seasonal_register r.of_cards.toxic r.of_cards.flammable r.of_cards.cards) r.after) rows ≡ map (λ r. r.outcome) rows
unfolding rows computed prefix_of
told_seasonal = refl

-- the distances that are stored are those of all its cards: with those of the first alone it is sent back, after however few cards the
-- leaders are asked for
pub told_wrong : (k : ℕ) → prefix_of (storing_register 150 0 listed.cards) k ≡ Err (refused_at refusal.Count 0)
unfolding computed prefix_of
told_wrong k = refl
