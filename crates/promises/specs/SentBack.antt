-- The examples of document 01's table "When a register is sent back", with those of document 02, and the one theorem that each
-- is sent back as its row states: the call gives its number and place, and of the conditions of that place its own is the first
-- that holds. And beside them registers of version 3 that are not sent back.
-- Assumes nothing.
use Rattle.std.specs.Prelude.{ℕ, suc, ◌≡◌, refl, Bool, true, false, List, [], ◌∷◌, ◌++◌, map, Result, Ok, Err}
use Rattle.farthest.specs.declared.Leaders.{Leaders}
use Rattle.refusals.specs.declared.SentBack.{SentBack}
use Rattle.refusals.specs.Numbers.{number_of}
use Rattle.cards.specs.Register.{outcome_of}
use Rattle.prefix.specs.Claim.{distance_of}
use Rattle.conditions.specs.Conditions.{Condition, condition, unlisted, filled, bad_toxic, bad_flammable, bad_form, of_gas, of_liquid, of_flammable, of_solution, bad_cas, mismatched, above_last, last_in_use, beyond_table, state_in, ground_in, held_in, beyond, of_register, of_card, have_passed, farthest_among, wrong_distance, at_last, only, conditions_at}
use Rattle.promises.specs.Starred.{card_of, register_of, storing_register, in_season, seasonal_register, chlorine, ammonia, bromine, propane, rural, urban, in_open, in_dike, computed}
use Rattle.promises.specs.Solutions.{hydrochloric}
use Rattle.promises.specs.Sheds.{with_doors}

-- a register, the length of the answer buffer, and the number and place that it is sent back with
pub record Example : Type 0 where
  pub register : List ℕ
  pub room : ℕ
  pub number : ℕ
  pub place : ℕ

abbrev pub example : ℕ → ℕ → ℕ → List ℕ → Example
example number place room register = record { register = register; room = room; number = number; place = place }

-- one card in a register, with room for its answer
abbrev pub card : ℕ → List ℕ → Example
card number bytes = example number 0 16 (register_of (bytes ∷ []))

-- one card in a register of version 3, with a first and a last day, and room for its answer
abbrev pub dated : ℕ → ℕ → ℕ → List ℕ → Example
dated number first last bytes = example number 0 16 (seasonal_register 0 0 (in_season first last bytes ∷ []))

-- chlorine at 3.40 miles until a day, and at 3.00 miles from the next day on
abbrev pub until : ℕ → List (List ℕ)
until day = in_season 1 day (chlorine rural in_open 0 2_250 1) ∷ in_season (suc day) 366 (chlorine rural in_open 0 2_249 2) ∷ []

-- bromine in a dike at a temperature
abbrev pub bromine_at : ℕ → ℕ → ℕ → List ℕ
bromine_at heat area wall = card_of 1 4 urban in_dike 7726956 20_000 area wall heat 1

unfoldable pub examples : List Example
examples =
    -- 1: "hex 00000008 01 0000"
    example 1 0 0 (0 ∷ 0 ∷ 0 ∷ 8 ∷ 1 ∷ 0 ∷ 0 ∷ [])
    -- 2: "its example now has 09" (document 02, A9); and 4, which no request gives
    ∷ example 2 0 0 (0 ∷ 0 ∷ 0 ∷ 7 ∷ 9 ∷ 0 ∷ 0 ∷ [])
    ∷ example 2 0 0 (0 ∷ 0 ∷ 0 ∷ 7 ∷ 4 ∷ 0 ∷ 0 ∷ [])
    -- 3: "hex 00000007 01 0001"
    ∷ example 3 0 16 (0 ∷ 0 ∷ 0 ∷ 7 ∷ 1 ∷ 0 ∷ 1 ∷ [])
    -- 4: "one card, 15 bytes"
    ∷ example 4 0 15 (register_of (propane 20_000 1 ∷ []))
    -- 5: "numbers 4, 4"
    ∷ example 5 1 32 (register_of (propane 20_000 4 ∷ propane 20_000 4 ∷ []))
    -- 6: "kind 3"
    ∷ card 6 (card_of 3 0 0 0 74986 10_000 0 0 0 1)
    -- 7: "toxic, 74986"
    ∷ card 7 (card_of 1 2 rural in_open 74986 10_000 0 0 0 1)
    -- 8: "0 lb"
    ∷ card 8 (chlorine rural in_open 0 0 1)
    -- 9 "becomes area only": a dike of no area
    ∷ card 9 (bromine in_dike 0 400 1)
    -- 10: "chlorine, state 4"
    ∷ card 10 (card_of 1 4 rural in_open 7782505 2_500 0 0 250 1)
    -- 11: "ammonia, state 3, urban, open, 7,500,010 lb"
    ∷ card 11 (ammonia 7_500_010 1)
    -- 14: "01's example of 9 is now 14's", "wall 10,001"
    ∷ card 14 (bromine in_dike 100 10_001 1)
    -- 15: a tenth of a degree above 300 °C
    ∷ card 15 (bromine_at 3_001 100 400)
    -- "area, wall and temperature are checked in that order": of two faults the first is named
    ∷ card 9 (bromine in_dike 0 10_001 1)
    ∷ card 9 (bromine_at 3_001 0 400)
    ∷ card 14 (bromine_at 3_001 100 10_001)
    -- "where 9 was": behind 8, and before 10, which refuses chlorine in a dike in state 2 and in state 4
    ∷ card 8 (card_of 1 4 urban in_dike 7726956 0 100 10_001 250 1)
    ∷ card 14 (card_of 1 2 rural in_dike 7782505 2_500 100 10_001 0 1)
    ∷ card 15 (card_of 1 4 rural in_open 7782505 2_500 0 0 3_001 1)
    -- 16: "concentration zero or above the highest printed": 0.0 % and 38.1 % hydrochloric acid; 6,553.5 %, which is no temperature
    ∷ card 16 (hydrochloric rural in_open 10_000 0 0 0 1)
    ∷ card 16 (hydrochloric rural in_open 10_000 0 0 381 1)
    ∷ card 16 (hydrochloric rural in_open 10_000 0 0 65_535 1)
    -- "at temperature's place in the order": behind 8 and 14
    ∷ card 8 (hydrochloric rural in_open 0 0 0 0 1)
    ∷ card 14 (hydrochloric rural in_dike 10_000 100 10_001 0 1)
    -- "in state 5 number 7 looks in B-3": not for bromine; and B-1 and B-2 have no oleum
    ∷ card 7 (card_of 1 5 rural in_open 7726956 10_000 0 0 100 1)
    ∷ card 7 (card_of 1 4 rural in_open 8014957 10_000 0 0 250 1)
    -- state 6 is none
    ∷ card 6 (card_of 1 6 rural in_open 7647010 10_000 0 0 370 1)
    -- document 02, A7: a flammable card is never 11; above 10,000,000 lb it is 8
    ∷ card 8 (propane 10_000_001 1)
    -- "Byte 3 admits 3, with the area rules of 2": no floor, a floor above the largest, a wall; and 4 is none
    ∷ card 9 (bromine with_doors 0 0 1)
    ∷ card 9 (hydrochloric rural with_doors 10_000 1_000_001 0 370 1)
    ∷ card 6 (bromine with_doors 100 1 1)
    ∷ card 6 (bromine 4 100 0 1)
    -- document 02, A9: "Version 2's length rule is 11 + 24 × count": document 01's example of 2, and a register that ends in its header
    ∷ example 3 0 0 (0 ∷ 0 ∷ 0 ∷ 7 ∷ 2 ∷ 0 ∷ 0 ∷ [])
    ∷ example 3 0 0 (0 ∷ 0 ∷ 0 ∷ 10 ∷ 2 ∷ 0 ∷ 0 ∷ 0 ∷ 0 ∷ 0 ∷ [])
    -- "A wrong stored distance is number 3" (with the right ones a register is accepted: `starred_storing`): "zero for none"; 3.00 miles
    -- and no flammable card, and the other way round
    ∷ example 3 0 0 (storing_register 1 0 [])
    ∷ example 3 0 16 (storing_register 299 0 (chlorine rural in_open 0 2_249 1 ∷ []))
    ∷ example 3 0 16 (storing_register 300 1 (chlorine rural in_open 0 2_249 1 ∷ []))
    ∷ example 3 0 16 (storing_register 0 300 (chlorine rural in_open 0 2_249 1 ∷ []))
    -- the last card's, where an earlier one is farther
    ∷ example 3 0 32 (storing_register 300 0 (chlorine rural in_open 0 2_250 1 ∷ chlorine rural in_open 0 2_249 2 ∷ []))
    -- "once every card has passed": a refused card hides it, and so does 4
    ∷ example 8 1 32 (storing_register 1 1 (chlorine rural in_open 0 2_249 1 ∷ chlorine rural in_open 0 0 2 ∷ []))
    ∷ example 4 0 15 (storing_register 1 1 (propane 20_000 1 ∷ []))
    -- document 02, A10: version 3 is "of 11 + 28 × count bytes", so that a register of seven is too short
    ∷ example 3 0 0 (0 ∷ 0 ∷ 0 ∷ 7 ∷ 3 ∷ 0 ∷ 0 ∷ [])
    -- 21: "a day outside 1 to 366", either of a card's two, of whatever kind
    ∷ dated 21 0 366 (propane 20_000 1)
    ∷ dated 21 1 0 (propane 20_000 1)
    ∷ dated 21 367 1 (chlorine rural in_open 0 2_249 1)
    ∷ dated 21 1 367 (chlorine rural in_open 0 2_249 1)
    -- "on a card after its temperature": behind 8, 15 and 16
    ∷ dated 8 0 0 (propane 10_000_001 1)
    ∷ dated 15 0 367 (bromine_at 3_001 100 400)
    ∷ dated 16 0 366 (hydrochloric rural in_open 10_000 0 0 381 1)
    -- and before 10 and 11
    ∷ dated 21 0 366 (card_of 1 4 rural in_open 7782505 2_500 0 0 250 1)
    ∷ dated 21 0 366 (ammonia 7_500_010 1)
    -- at the place of its card
    ∷ example 21 1 32 (seasonal_register 0 22 (in_season 1 366 (propane 20_000 1) ∷ in_season 1 367 (propane 20_000 2) ∷ []))
    -- "The header keeps the year's values": a wrong one is 3, also where it is right from some day on; a refused day hides it
    ∷ example 3 0 16 (seasonal_register 0 21 (in_season 60 60 (propane 20_000 1) ∷ []))
    ∷ example 3 0 32 (seasonal_register 300 0 (until 90))
    ∷ example 21 0 16 (seasonal_register 0 21 (in_season 60 367 (propane 20_000 1) ∷ []))
    ∷ []

-- Registers of version 3 that are accepted: a card in force on the year's last day and its first, on one day alone, or all year; and two
-- cards of different days, with the distance of the farthest one.
unfoldable pub accepted : List (List ℕ)
accepted =
    seasonal_register 0 22 (in_season 366 1 (propane 20_000 1) ∷ [])
    ∷ seasonal_register 0 22 (in_season 60 60 (propane 20_000 1) ∷ [])
    ∷ seasonal_register 0 22 (in_season 1 1 (propane 20_000 1) ∷ [])
    ∷ seasonal_register 0 22 (in_season 366 366 (propane 20_000 1) ∷ [])
    ∷ seasonal_register 0 22 (in_season 1 366 (propane 20_000 1) ∷ [])
    ∷ seasonal_register 340 0 (until 90)
    ∷ []

-- the number and the place of a call that is sent back
abbrev pub sent_back_as : Result Leaders (SentBack ℕ) → List ℕ
sent_back_as (Ok l) = []
sent_back_as (Err sent) = number_of sent.refusal ∷ sent.place ∷ []

-- the number in front, where a condition holds
abbrev pub kept : Bool → ℕ → List ℕ → List ℕ
kept true n rest = n ∷ rest
kept false n rest = rest

-- the numbers of the conditions that hold
unfoldable pub holding : List Condition → List ℕ
holding [] = []
holding (condition r b ∷ rest) = kept b (number_of r) (holding rest)

-- the first of some numbers
abbrev pub first_number : List ℕ → List ℕ
first_number [] = []
first_number (n ∷ rest) = n ∷ []

-- what the definitions say of an example: the number and place that its call gives, and the first condition that holds there
abbrev pub defined : Example → List ℕ
defined e =
    sent_back_as (outcome_of e.register e.room)
    ++ first_number (holding (conditions_at e.register e.room e.place))

-- what its row states
abbrev pub stated : Example → List ℕ
stated e = e.number ∷ e.place ∷ e.number ∷ []

-- Every example of the table.
pub sent_back : map defined examples ≡ map stated examples
unfolding examples computed holding conditions_at only of_register at_last wrong_distance have_passed farthest_among distance_of of_card bad_form bad_toxic bad_flammable unlisted filled bad_cas of_gas of_liquid of_flammable of_solution mismatched beyond state_in ground_in held_in beyond_table above_last last_in_use
sent_back = refl

-- None of the accepted registers is sent back, and of no place of theirs does a condition hold.
pub not_sent_back :
    map (λ register. sent_back_as (outcome_of register 32) ++ (holding (conditions_at register 32 0) ++ holding (conditions_at register 32 1))) accepted
    ≡ map (λ register. []) accepted
unfolding accepted computed holding conditions_at only of_register at_last wrong_distance have_passed farthest_among distance_of of_card bad_form bad_toxic bad_flammable unlisted filled bad_cas of_gas of_liquid of_flammable of_solution mismatched beyond state_in ground_in held_in beyond_table above_last last_in_use
not_sent_back = refl
