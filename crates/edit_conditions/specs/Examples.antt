-- Edits, good and refused, in a table: what each answers and the buffer that it leaves, computed on the definitions. The theorem is
-- `examples`. The miles are document 01's of a toxic card and Equation C-1's of a flammable one. Of 20 the room alone is here: 2,000
-- cards are too many to compute, and `capacity_plain` of proofs/EditPlain.antt has them.
-- Assumes nothing.
use Rattle.std.specs.Prelude.{ℕ, ◌+◌, ◌*◌, ◌≡◌, refl, List, [], ◌∷◌, ◌++◌, map, length, replicate, Result, Ok, Err}
use Rattle.std.specs.List.{concat}
use Rattle.refusals.specs.declared.SentBack.{SentBack}
use Rattle.refusals.specs.Numbers.{number_of}
use Rattle.search.specs.Places.{among, look_up}
use Rattle.exhibits.specs.PrintedB1.{b1}
use Rattle.exhibits.specs.PrintedB2.{b2}
use Rattle.exhibits.specs.PrintedB4.{b4}
use Rattle.exhibits.specs.Exhibits.{factors_of, toxic_of}
use Rattle.solutions.specs.PrintedB3.{b3}
use Rattle.solutions.specs.Solutions.{bad_percent, highest, lines_of, lowest, solution_of}
use Rattle.neutral.specs.PrintedNeutral.{table1, table2, table3, table4}
use Rattle.dense.specs.PrintedDense.{endpoints5, endpoints6, endpoints7, endpoints8, rates5, rates6, rates7, rates8, table5, table6, table7, table8}
use Rattle.dispersion.specs.PrintedChemical.{table9, table10, table11, table12}
use Rattle.rules.specs.Rules.{answered, apart, by_range, by_row, closest, closest_column, closest_from, closest_row, distance, from_column, holding, in_use, larger, largest, last_of, mark_of, past, ratio_below, smaller, thousandths}
use Rattle.dispersion.specs.Tables.{read_in, reading_of, tables}
use Rattle.combustion.specs.PrintedC1.{c1}
use Rattle.combustion.specs.Heats.{heat_of, is_flammable}
use Rattle.blast.specs.Blast.{first_from, metres_of, ring_of}
use Rattle.release.specs.Rates.{at_most_ten_minutes, pool_rate}
use Rattle.pool_area.specs.Pool.{diked_area}
use Rattle.factors.specs.Factors.{column_of}
use Rattle.which_table.specs.WhichTable.{table_of}
use Rattle.scenario.specs.Plan.{plan_of, pool_of, vapor_of}
use Rattle.fields.specs.Layout.{fields_of}
use Rattle.ranges.specs.Ranges.{bad_area, bad_heat, bad_pounds, bad_wall, bounds_of, signed, tenths_of}
use Rattle.meaning.specs.Reading.{bad_number, flammable_of, meaning_of, substance_of, toxic_meaning}
use Rattle.form.specs.Form.{ground_of, held_of, open_of, shape_of, state_of, blank}
use Rattle.seasons.specs.Seasons.{season_of, bad_day, bad_season, grown}
use Rattle.card.specs.Stock.{stock_of}
use Rattle.card.specs.Answers.{answer_of}
use Rattle.farthest.specs.Farthest.{leaders_after, leaders_from, leaders_of}
use Rattle.buffer.specs.Numbers.{two_bytes, four_bytes}
use Rattle.header.specs.Header.{bad_buffer, bad_count, bad_length, bad_version, cards_in, header_of, layout_in, layout_of, stored_in}
use Rattle.cards.specs.Distances.{wrong_for}
use Rattle.cards.specs.Register.{cards_from, cards_of, outcome_of}
use Rattle.edits.specs.Edits.{Edit, add, replace, withdraw, below, above, edited, is_there, bad_capacity, header_bytes, register_of, register_with, held, changed, register_by, edit_of, buffer_after}

-- ---- the registers

-- the 24 bytes of chlorine in state 2, rural and in the open: 3.00 miles for 2,249 lb, 3.40 for 2,250
abbrev pub chlorine : ℕ → ℕ → List ℕ
chlorine pounds number = (1 ∷ 2 ∷ 1 ∷ 0 ∷ []) ++ (four_bytes 7_782_505 ++ (four_bytes pounds ++ (replicate 8 0 ++ four_bytes number)))

-- propane: 0.18 miles for 10,000 lb, 0.22 for 20,000
abbrev pub propane : ℕ → ℕ → List ℕ
propane pounds number = (2 ∷ 0 ∷ 0 ∷ 0 ∷ []) ++ (four_bytes 74_986 ++ (four_bytes pounds ++ (replicate 8 0 ++ four_bytes number)))

-- "Four bytes: length of the whole register. One byte: version, 1. Two bytes: card count", then the cards
abbrev pub first : List (List ℕ) → List ℕ
first cards = four_bytes (7 + 24 * length cards) ++ (1 ∷ (two_bytes (length cards) ++ concat cards))

-- "Version 2 puts two 2-byte distances after the count, toxic then flammable": in hundredths of a mile
abbrev pub second : ℕ → ℕ → List (List ℕ) → List ℕ
second toxic flammable cards =
    four_bytes (11 + 24 * length cards)
    ++ (2 ∷ (two_bytes (length cards) ++ (two_bytes toxic ++ (two_bytes flammable ++ concat cards))))

-- A10: "Version 3 cards are 28 bytes, with a first and a last day of the year .. 2 bytes each"
abbrev pub from_to : ℕ → ℕ → List ℕ → List ℕ
from_to day last card = card ++ (two_bytes day ++ two_bytes last)

-- "older cards gaining 1 and 366 behind their bytes"
abbrev pub all_year : List ℕ → List ℕ
all_year card = from_to 1 366 card

-- "version 3, of 11 + 28 × count bytes", with the distances of version 2
abbrev pub third : ℕ → ℕ → List (List ℕ) → List ℕ
third toxic flammable cards =
    four_bytes (11 + 28 * length cards)
    ++ (3 ∷ (two_bytes (length cards) ++ (two_bytes toxic ++ (two_bytes flammable ++ concat cards))))

-- bytes behind a register that are no part of it
abbrev pub rubbish : ℕ → List ℕ
rubbish n = replicate n 165

abbrev pub zeros : ℕ → List ℕ
zeros n = replicate n 0

-- two older cards of propane, with room between their numbers, and the first of them in a register of 39 bytes that stores its distance
abbrev pub two : List (List ℕ)
two = propane 10_000 13 ∷ propane 10_000 15 ∷ []

abbrev pub only_13 : List ℕ
only_13 = third 0 18 (all_year (propane 10_000 13) ∷ [])

-- older cards of propane from number 2 on, and one of number 1 in front of them
abbrev pub five : List (List ℕ)
five = map (propane 10_000) (2 ∷ 3 ∷ 4 ∷ 5 ∷ 6 ∷ [])

abbrev pub six : List (List ℕ)
six = five ++ (propane 10_000 7 ∷ [])

abbrev pub one_more : List (List ℕ) → List (List ℕ)
one_more cards = propane 10_000 1 ∷ cards

-- ---- the table

-- what an edit answers: how long the register now is, or a number and a place
pub data Told : Type 0 where
  size : ℕ → Told
  sent_back : ℕ → ℕ → Told

-- an edit of a buffer, what it answers and what it leaves there
pub record Example : Type 0 where
  pub edit : Edit
  pub buffer : List ℕ
  pub told : Told
  pub left : List ℕ

abbrev pub accepted : Edit → List ℕ → ℕ → List ℕ → Example
accepted e buffer n left = record { edit = e; buffer = buffer; told = size n; left = left }

-- a refused edit leaves the buffer as it is
abbrev pub refused : ℕ → ℕ → Edit → List ℕ → Example
refused number place e buffer = record { edit = e; buffer = buffer; told = sent_back number place; left = buffer }

unfoldable pub table : List Example
table =
    -- a card is added before two others, between them and behind them: version 1 is carried to version 3, in a buffer just long enough
    accepted (add (all_year (chlorine 2_249 12))) (first two ++ rubbish 40) 95
    (third 300 18 (map all_year (chlorine 2_249 12 ∷ propane 10_000 13 ∷ propane 10_000 15 ∷ [])))
    ∷ accepted (add (all_year (chlorine 2_249 14))) (first two ++ rubbish 40) 95
    (third 300 18 (map all_year (propane 10_000 13 ∷ chlorine 2_249 14 ∷ propane 10_000 15 ∷ [])))
    ∷ accepted (add (all_year (chlorine 2_249 16))) (first two ++ rubbish 40) 95
    (third 300 18 (map all_year (propane 10_000 13 ∷ propane 10_000 15 ∷ chlorine 2_249 16 ∷ [])))
    -- and so is version 2, behind which the bytes become zeros
    ∷ accepted (add (all_year (chlorine 2_250 16))) (second 300 0 (chlorine 2_249 12 ∷ []) ++ rubbish 37) 67
    (third 340 0 (map all_year (chlorine 2_249 12 ∷ chlorine 2_250 16 ∷ [])) ++ zeros 5)
    -- a season is kept as it is, and one across New Year is accepted; the header keeps the year's distances, those of a single day too
    ∷ accepted (add (from_to 300 60 (chlorine 2_249 12))) (only_13 ++ rubbish 28) 67
    (third 300 18 (from_to 300 60 (chlorine 2_249 12) ∷ all_year (propane 10_000 13) ∷ []))
    ∷ accepted (add (from_to 366 1 (chlorine 2_249 12))) (only_13 ++ rubbish 28) 67
    (third 300 18 (from_to 366 1 (chlorine 2_249 12) ∷ all_year (propane 10_000 13) ∷ []))
    ∷ accepted (add (from_to 200 200 (propane 20_000 14))) (third 0 18 (from_to 60 90 (propane 10_000 13) ∷ []) ++ rubbish 28) 67
    (third 0 22 (from_to 60 90 (propane 10_000 13) ∷ from_to 200 200 (propane 20_000 14) ∷ []))
    -- a card is replaced, its days too, and only its number stays; by the same bytes version 3 stays as it is, and version 1 is carried to it
    ∷ accepted (replace (from_to 60 90 (propane 20_000 12))) (third 300 18 (map all_year (chlorine 2_249 12 ∷ propane 10_000 13 ∷ []))) 67
    (third 0 22 (from_to 60 90 (propane 20_000 12) ∷ all_year (propane 10_000 13) ∷ []))
    ∷ accepted (replace (all_year (propane 10_000 13))) only_13 39 only_13
    ∷ accepted (replace (all_year (propane 10_000 13))) (first (propane 10_000 13 ∷ []) ++ rubbish 8) 39 only_13
    -- a card is withdrawn from the middle
    ∷ accepted (withdraw 14) (third 300 18 (map all_year (propane 10_000 13 ∷ chlorine 2_249 14 ∷ propane 10_000 15 ∷ []))) 67
    (third 0 18 (map all_year two) ++ zeros 28)
    -- the last card is withdrawn: 11 bytes, no card and no distance, and zeros behind
    ∷ accepted (withdraw 13) only_13 11 (0 ∷ 0 ∷ 0 ∷ 11 ∷ 3 ∷ 0 ∷ 0 ∷ 0 ∷ 0 ∷ 0 ∷ 0 ∷ zeros 28)
    ∷ accepted (withdraw 13) (first (propane 10_000 13 ∷ [])) 11 (0 ∷ 0 ∷ 0 ∷ 11 ∷ 3 ∷ 0 ∷ 0 ∷ 0 ∷ 0 ∷ 0 ∷ 0 ∷ zeros 20)
    -- 19: "no card of that number to replace or withdraw, or one there already to add"
    ∷ refused 19 0 (add (all_year (propane 10_000 13))) (only_13 ++ rubbish 28)
    ∷ refused 19 0 (replace (all_year (propane 10_000 14))) (only_13 ++ rubbish 28)
    ∷ refused 19 0 (withdraw 14) (only_13 ++ rubbish 28)
    -- 20: "the buffer can't hold the register as it would then be": a byte too little for a card more, and in a buffer as long as itself no
    -- room for the days of version 1's cards, or of version 2's
    ∷ refused 20 0 (add (all_year (propane 10_000 14))) (only_13 ++ rubbish 27)
    ∷ refused 20 0 (replace (all_year (propane 20_000 13))) (first (propane 10_000 13 ∷ []))
    ∷ refused 20 0 (replace (all_year (propane 20_000 13))) (second 0 18 (propane 10_000 13 ∷ []))
    -- nor, of seven cards in version 1, for those of the six that are left when one is withdrawn; of six there is just enough
    ∷ refused 20 0 (withdraw 1) (first (one_more six))
    ∷ accepted (withdraw 1) (first (one_more five)) 151 (third 0 18 (map all_year five))
    -- 19 before 20, and both before the new card, of 0 lb: "at its new place" this is 8
    ∷ refused 19 0 (add (all_year (chlorine 0 13))) only_13
    ∷ refused 20 0 (add (all_year (chlorine 0 14))) only_13
    ∷ refused 8 1 (add (all_year (chlorine 0 14))) (only_13 ++ rubbish 28)
    -- 21: "a day outside 1 to 366, on a card after its temperature", at its new place, the first day or the last; behind 19, 20 and 8
    ∷ refused 21 1 (add (from_to 0 366 (propane 10_000 14))) (only_13 ++ rubbish 28)
    ∷ refused 21 1 (add (from_to 367 366 (chlorine 2_249 14))) (only_13 ++ rubbish 28)
    ∷ refused 21 0 (replace (from_to 1 0 (propane 10_000 13))) only_13
    ∷ refused 21 0 (replace (from_to 1 367 (chlorine 2_249 13))) only_13
    ∷ refused 19 0 (add (from_to 0 0 (propane 10_000 13))) only_13
    ∷ refused 20 0 (add (from_to 0 0 (propane 10_000 14))) only_13
    ∷ refused 8 1 (add (from_to 0 0 (propane 0 14))) (only_13 ++ rubbish 28)
    -- number 0 is 5 where it is added, and 19 where it is to be replaced or withdrawn
    ∷ refused 5 0 (add (all_year (propane 10_000 0))) (only_13 ++ rubbish 28)
    ∷ refused 19 0 (replace (all_year (propane 10_000 0))) only_13
    ∷ refused 19 0 (withdraw 0) only_13
    -- 1: "its length field is under 7 or past the buffer", and where there are no four bytes
    ∷ refused 1 0 (add (all_year (propane 10_000 13))) (0 ∷ 0 ∷ 0 ∷ 6 ∷ 1 ∷ 0 ∷ 0 ∷ rubbish 40)
    ∷ refused 1 0 (withdraw 1) (0 ∷ 0 ∷ 0 ∷ 8 ∷ 1 ∷ 0 ∷ 0 ∷ [])
    ∷ refused 1 0 (withdraw 1) (0 ∷ 0 ∷ 0 ∷ [])
    -- "after the old register is accepted": a wrong stored distance is 3, and a day 0 on an old card 21, before 19
    ∷ refused 3 0 (withdraw 14) (second 0 19 (propane 10_000 13 ∷ []))
    ∷ refused 3 0 (withdraw 14) (third 0 19 (all_year (propane 10_000 13) ∷ []))
    ∷ refused 21 0 (withdraw 14) (third 0 18 (from_to 0 366 (propane 10_000 13) ∷ []))
    ∷ []

abbrev pub told_of : Result ℕ (SentBack ℕ) → Told
told_of (Ok n) = size n
told_of (Err sent) = sent_back (number_of sent.refusal) sent.place

-- what the definitions say of an example
abbrev pub defined : Example → Example
defined x =
    record {
      edit = x.edit;
      buffer = x.buffer;
      told = told_of (edit_of x.edit x.buffer);
      left = buffer_after x.edit x.buffer;
    }

-- Every example of the table.
pub examples : map defined table ≡ table
unfolding table two_bytes four_bytes outcome_of cards_of cards_from wrong_for cards_in stored_in layout_in layout_of header_of bad_length bad_version bad_count bad_buffer leaders_of leaders_from leaders_after answer_of stock_of season_of bad_day bad_season grown fields_of bad_area bad_heat bad_number bad_pounds bad_wall blank bounds_of flammable_of ground_of held_of meaning_of open_of shape_of signed state_of substance_of tenths_of toxic_meaning factors_of toxic_of b1 b2 b3 b4 bad_percent highest lines_of lowest solution_of among look_up is_flammable heat_of first_from metres_of ring_of c1 table1 table2 table3 table4 endpoints5 endpoints6 endpoints7 endpoints8 rates5 rates6 rates7 rates8 table5 table6 table7 table8 table9 table10 table11 table12 answered apart by_range by_row closest closest_column closest_from closest_row distance from_column holding in_use larger largest last_of mark_of past ratio_below smaller thousandths read_in reading_of tables column_of plan_of pool_of table_of vapor_of at_most_ten_minutes diked_area pool_rate edited below above is_there bad_capacity header_bytes register_of register_with held changed register_by
examples = refl
