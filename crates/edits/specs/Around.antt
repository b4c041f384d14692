-- The cards around a number, as the code finds them: where numbers rise, the cards before the first that is not below it are those with a
-- lower number. And what an edit brings. It serves the proofs.
-- Assumes nothing.
use Rattle.std.specs.Prelude.{ℕ, ◌≡◌, ◌<◌, Bool, true, false, List, [], ◌∷◌, map, eqb, length, get_or}
use Rattle.search.specs.Rising.{first_at_least}
use Rattle.seasons.specs.Seasons.{Given}
use Rattle.card.specs.declared.Answer.{Answer}
use Rattle.cards.specs.Register.{answers, cards_from}
use Rattle.edits.specs.Edits.{card_number}

-- cards that are all answered, as those of an accepted register are
abbrev pub AllPass : List (List ℕ) → Type 0
AllPass cards = (xs : List Answer) × (cards_from 0 0 cards ≡ answers xs)

-- how many cards stand before the first number that is not below this one
abbrev pub place_of : ℕ → List (List ℕ) → ℕ
place_of n cards = first_at_least n (map card_number cards)

-- how many cards of a number stand in front: the one that is named, or none
abbrev pub one_if : Bool → ℕ
one_if true = 1
one_if false = 0

unfoldable pub named_in : ℕ → List (List ℕ) → ℕ
named_in n [] = 0
named_in n (card ∷ rest) = one_if (eqb (card_number card) n)

-- cards of versions that somebody gives, of several perhaps
abbrev pub AllGiven : List (List ℕ) → Type 0
AllGiven cards = (i : ℕ) → i < length cards → Given (get_or cards i [])

-- what an edit of a number brings: no card, or one of that number
abbrev pub Brings : ℕ → List (List ℕ) → Type 0
Brings n [] = Unit {0}
Brings n (card ∷ []) = card_number card ≡ n
Brings n (card ∷ other ∷ rest) = ⊥
