-- Document 02, A4, in the paper's words: what the call that tells the leaders after the first k cards says of the bytes handed in.
-- The call's contract cites it.
-- Assumes nothing.
use Rattle.std.specs.Prelude.{ℕ, ◌<◌, ◌≡◌, List, ◌↔◌, Option, Some, None, Result, Ok, Err}
use Rattle.card.specs.declared.Answer.{Answer}
use Rattle.farthest.specs.declared.Leader.{Leader}
use Rattle.refusals.specs.declared.Refusal.{Refusal}
use Rattle.refusals.specs.declared.SentBack.{SentBack}
use Rattle.farthest.specs.Farthest.{leader}
use Rattle.buffer.specs.Numbers.{byte_at, four_at}
use Rattle.units.specs.declared.Miles.{Miles}
use Rattle.card.specs.declared.Class.{Class}
use Rattle.card.specs.Answers.{answer_of}
use Rattle.ordering.specs.Order.{kind_of}
use Rattle.farthest.specs.declared.Leaders.{Leaders}
use Rattle.farthest.specs.Farthest.{Reaches}
use Rattle.header.specs.Header.{enough, count_of}
use Rattle.cards.specs.Register.{outcome_of}
use Rattle.ordering.specs.Claim.{card_at, farthest_in}

-- the distance that demand 2 gives a card, in hundredths of a mile; 0 where it has none
abbrev pub distance_in : Result Answer Refusal → ℕ
distance_in (Ok a) = a.distance.0
distance_in (Err r) = 0

unfoldable pub distance_of : List ℕ → ℕ
distance_of card = distance_in (answer_of card 0)

-- the place of one of the first k cards that is of the class: "A class is kind 1 or kind 2."
pub record Among (c : Class) (register : List ℕ) (k i : ℕ) : Type 0 where
  pub early : i < k
  pub there : i < count_of register
  pub kind : byte_at (card_at register i) 0 ≡ kind_of c

-- one of them has this number and this distance, and "the earlier on a tie": those of the class before it are nearer
pub record LeaderOfFirst (c : Class) (register : List ℕ) (k n : ℕ) (d : Miles) : Type 0 where
  pub place : ℕ
  pub among : Among c register k place
  pub numbered : four_at (card_at register place) 20 ≡ n
  pub far : distance_of (card_at register place) ≡ d.0
  pub earlier : (j : ℕ) → j < place → Among c register k j → distance_of (card_at register j) < d.0

-- "In each class the card with the largest distance, the earlier on a tie; none if the class has no card", of the first k cards
pub record FarthestOfFirst (c : Class) (register : List ℕ) (k : ℕ) (f : Option Leader) : Type 0 where
  -- none exactly when none of the k is of the class
  pub none : (f ≡ None) ↔ ((i : ℕ) → Among c register k i → ⊥)
  -- no card of the class among the k is farther
  pub largest : (i : ℕ) → Among c register k i → Reaches f (distance_of (card_at register i))
  -- and it is one of them, the earliest that is so far
  pub leads : (n : ℕ) (d : Miles) → f ≡ Some (leader n d) → LeaderOfFirst c register k n d

-- "after the first k cards of an accepted register, for every k, they are 01's farthest of those k, or none": k counts no more than the
-- register's cards (`there`), so that beyond the count it is the farthest of them all. A register that is sent back gives its own
-- refusal with its own place.
abbrev pub Keeps : List ℕ → ℕ → Result Leaders (SentBack ℕ) → Type 0
Keeps register k (Ok l) =
    ((m : Leaders) × (outcome_of register enough ≡ Ok m))
    × ((c : Class) → FarthestOfFirst c register k (farthest_in c l))
Keeps register k (Err sent) = outcome_of register enough ≡ Err sent
