-- Document 02, A9: when an edit is sent back. The condition of each number, over the edit, the lent buffer and the place, in the request's
-- words: "19 then 20, both at place 0, after the old register is accepted and before the new card is checked at its new place." And A10:
-- "accepted edits .. make any register version 3", so that 20 is asked of that.
-- Assumes nothing.
use Rattle.std.specs.Prelude.{ℕ, zero, suc, List, [], ◌∷◌, ◌++◌, eqb, length, get_or, is_ok}
use Rattle.refusals.specs.declared.Refusal.TheVariants as refusal
use Rattle.header.specs.Header.{cards_in, enough}
use Rattle.cards.specs.Register.{outcome_of}
use Rattle.conditions.specs.Conditions.{Condition, condition, only, of_card, conditions_at}
use Rattle.edits.specs.Edits.{Edit, add, replace, withdraw, card_number, named, takes, below, edited, is_there, bad_presence, bad_capacity, held}

-- "19 no card of that number to replace or withdraw, or one there already to add; 20 the buffer can't hold the register as it would then
-- be, or it would pass 2,000 cards", of the edit, the old cards and the length of the buffer
unfoldable pub of_edit : Edit → List (List ℕ) → ℕ → List Condition
of_edit e cards room =
    condition refusal.Presence (bad_presence (takes e) (is_there (named e) cards))
    ∷ condition refusal.Capacity (bad_capacity room (length (edited e cards)))
    ∷ []

-- "its new place": as many cards stand before the new one as have a lower number
abbrev pub new_place : Edit → List (List ℕ) → ℕ
new_place e cards = length (below (named e) cards)

-- "the last": the number of the card before a place among some cards, 0 before the first
abbrev pub number_before : List (List ℕ) → ℕ → ℕ
number_before cards zero = 0
number_before cards (suc place) = card_number (get_or cards place [])

-- of the card before the new one, among the cards as they would then be
abbrev pub last_before : Edit → List (List ℕ) → ℕ
last_before e cards = number_before (edited e cards) (new_place e cards)

-- "before the new card is checked": a card handed in is checked as any card is, after the last number; a withdrawal brings none
unfoldable pub of_brought : Edit → ℕ → List Condition
of_brought (add card) last = of_card card last
of_brought (replace card) last = of_card card last
of_brought (withdraw n) last = []

-- 19 and 20 "both at place 0", and below them the new card's own conditions "at its new place"
unfoldable pub edit_lines : Edit → List (List ℕ) → ℕ → ℕ → List Condition
edit_lines e cards room place =
    only (eqb place 0) (of_edit e cards room)
    ++ only (eqb place (new_place e cards)) (of_brought e (last_before e cards))

-- The table at a place: first the old register's own conditions, of the bytes that the buffer starts with and no answer buffer, and
-- then, only "after the old register is accepted", those of the edit.
unfoldable pub edit_at : Edit → List ℕ → ℕ → List Condition
edit_at e buffer place =
    conditions_at (held buffer) enough place
    ++ only (is_ok (outcome_of (held buffer) enough)) (edit_lines e (cards_in (held buffer)) (length buffer) place)
