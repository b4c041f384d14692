-- Document 01's starred cases as one table of registers, and the theorem that each comes out as its row states, in each version.
-- Assumes nothing.
use Rattle.std.specs.Prelude.{ℕ, ◌+◌, ◌*◌, ◌≡◌, refl, List, [], ◌∷◌, ◌++◌, map, length, Option, Some, None, Result, Ok, Err}
use Rattle.farthest.specs.declared.Leader.{Leader}
use Rattle.farthest.specs.declared.Leaders.{Leaders}
use Rattle.refusals.specs.declared.Refusal.{Refusal}
use Rattle.refusals.specs.declared.SentBack.{SentBack}
use Rattle.farthest.specs.Farthest.{leader}
use Rattle.search.specs.Places.{among, look_up}
use Rattle.exhibits.specs.PrintedB1.{b1}
use Rattle.exhibits.specs.PrintedB2.{b2}
use Rattle.exhibits.specs.PrintedB4.{b4}
use Rattle.exhibits.specs.Lines.{df_of}
use Rattle.exhibits.specs.Exhibits.{factors_of, toxic_of}
use Rattle.solutions.specs.PrintedB3.{b3}
use Rattle.solutions.specs.Solutions.{bad_percent, highest, lines_of, lowest, solution_of}
use Rattle.neutral.specs.PrintedNeutral.{table1, table2, table3, table4}
use Rattle.dense.specs.PrintedDense.{endpoints5, endpoints6, endpoints7, endpoints8, rates5, rates6, rates7, rates8, table5, table6, table7, table8}
use Rattle.dispersion.specs.PrintedChemical.{table9, table10, table11, table12}
use Rattle.rules.specs.Rules.{answered, apart, by_range, by_row, closest, closest_column, closest_from, closest_row, distance, from_column, holding, in_use, larger, largest, last_of, mark_of, past, ratio_below, smaller, thousandths}
use Rattle.dispersion.specs.Tables.{read_in, reading_of, tables}
use Rattle.combustion.specs.PrintedC1.{c1}
use Rattle.combustion.specs.Heats.{heat_of, is_flammable}
use Rattle.blast.specs.Blast.{first_from, metres_of, ring_of}
use Rattle.release.specs.Rates.{at_most_ten_minutes, pool_rate}
use Rattle.pool_area.specs.Pool.{diked_area, pool_area}
use Rattle.factors.specs.Factors.{column_of}
use Rattle.which_table.specs.WhichTable.{table_of}
use Rattle.scenario.specs.Plan.{plan_of, pool_of, vapor_of}
use Rattle.fields.specs.Layout.{fields_of}
use Rattle.seasons.specs.Seasons.{whole_year, season_of, bad_day, bad_season, grown}
use Rattle.ranges.specs.Ranges.{bad_area, bad_heat, bad_pounds, bad_wall, bounds_of, signed, tenths_of}
use Rattle.meaning.specs.declared.Meaning.{Meaning}
use Rattle.meaning.specs.declared.Meaning.TheVariants as meaning
use Rattle.meaning.specs.Reading.{bad_number, flammable_of, meaning_of, substance_of, toxic_meaning}
use Rattle.form.specs.Form.{ground_of, held_of, open_of, shape_of, state_of, blank}
use Rattle.card.specs.declared.Class.{Class}
use Rattle.card.specs.declared.Class.TheVariants as class
use Rattle.card.specs.declared.Answer.{Answer}
use Rattle.card.specs.Stock.{stock_of}
use Rattle.card.specs.Answers.{answer_of}
use Rattle.farthest.specs.Farthest.{leaders_after, leaders_from, leaders_of}
use Rattle.buffer.specs.Numbers.{two_bytes, four_bytes}
use Rattle.header.specs.Header.{answer_size, bad_buffer, bad_count, bad_length, bad_version, cards_in, header_of, layout_in, layout_of, stored_in}
use Rattle.cards.specs.Distances.{distance_in, wrong_for}
use Rattle.cards.specs.Register.{Cards, answers, cards_from, cards_of, outcome_of}

-- a card's 24 bytes: kind, state, ground, containment, CAS number, pounds, area, wall, temperature, card number
abbrev pub card_of : ℕ → ℕ → ℕ → ℕ → ℕ → ℕ → ℕ → ℕ → ℕ → ℕ → List ℕ
card_of kind state topography containment cas pounds area wall heat number =
    (kind ∷ state ∷ topography ∷ containment ∷ [])
    ++ (four_bytes cas
    ++ (four_bytes pounds ++ (four_bytes area ++ (two_bytes wall ++ (two_bytes heat ++ four_bytes number)))))

-- one card after the other
unfoldable pub strung : List (List ℕ) → List ℕ
strung [] = []
strung (card ∷ rest) = card ++ strung rest

-- a register: "Four bytes: length of the whole register. One byte: version, 1. Two bytes: card count", then the cards
abbrev pub register_of : List (List ℕ) → List ℕ
register_of cards =
    four_bytes (7 + 24 * length cards) ++ (1 ∷ (two_bytes (length cards) ++ strung cards))

-- document 02, A9: "Version 2 puts two 2-byte distances after the count, toxic then flammable", "11 + 24 × count"
abbrev pub storing_register : ℕ → ℕ → List (List ℕ) → List ℕ
storing_register toxic flammable cards =
    four_bytes (11 + 24 * length cards)
    ++ (2 ∷ (two_bytes (length cards) ++ (two_bytes toxic ++ (two_bytes flammable ++ strung cards))))

-- document 02, A10: "Version 3 cards are 28 bytes, with a first and a last day of the year, 1 to 366, 2 bytes each"
abbrev pub in_season : ℕ → ℕ → List ℕ → List ℕ
in_season first last card = card ++ (two_bytes first ++ two_bytes last)

-- "11 + 28 × count bytes, older cards gaining 1 and 366 behind their bytes"
abbrev pub seasonal_register : ℕ → ℕ → List (List ℕ) → List ℕ
seasonal_register toxic flammable cards =
    four_bytes (11 + 28 * length cards)
    ++ (3 ∷ (two_bytes (length cards) ++ (two_bytes toxic ++ (two_bytes flammable ++ strung (map grown cards)))))

-- the paper's pool area in hundredths of a square foot, or that it gives none
pub data Area : Type 0 where
  given : ℕ → Area
  not_given : Area

-- a card, what it is answered, and its pool area where the paper gives one
pub record Line : Type 0 where
  pub card : List ℕ
  pub answer : Answer
  pub pool : Area

-- a register: its cards with what is said of each, and both classes' farthest
pub record Row : Type 0 where
  pub lines : List Line
  pub toxic : Option Leader
  pub flammable : Option Leader

-- card number, bytes, route, table, pool area, rate in thousandths of a pound per minute, distance in hundredths of a mile; a card that
-- tells no season is in force all year, and so it is with the days that it gains in version 3
abbrev pub line : Class → ℕ → (ℕ → List ℕ) → ℕ → ℕ → Area → ℕ → ℕ → Line
line c number card route table pool rate miles =
    record {
      card = card number;
      answer =
          record {
            number = number;
            class = c;
            route = route;
            table = table;
            rate = record { 0 = rate };
            distance = record { 0 = miles };
            season = whole_year;
          };
      pool = pool;
    }

abbrev pub toxic : ℕ → (ℕ → List ℕ) → ℕ → ℕ → Area → ℕ → ℕ → Line
toxic = line class.Toxic

abbrev pub flammable : ℕ → (ℕ → List ℕ) → ℕ → ℕ → Area → ℕ → ℕ → Line
flammable = line class.Flammable

abbrev pub row : List Line → Option Leader → Option Leader → Row
row lines t f = record { lines = lines; toxic = t; flammable = f }

-- the farthest card's number and its distance in hundredths of a mile
abbrev pub at : ℕ → ℕ → Option Leader
at number miles = Some (leader number (record { 0 = miles }))

abbrev pub none : Option Leader
none = None

-- the bytes of ground and containment
abbrev pub rural : ℕ
rural = 1

abbrev pub urban : ℕ
urban = 2

abbrev pub in_open : ℕ
in_open = 0

abbrev pub in_dike : ℕ
in_dike = 1

abbrev pub in_building : ℕ
in_building = 2

-- chlorine in state 2. The paper names no floor for its building: none is read of a gas, so any will do that number 9 admits
abbrev pub chlorine : ℕ → ℕ → ℕ → ℕ → ℕ → List ℕ
chlorine topography containment floor pounds = card_of 1 2 topography containment 7782505 pounds floor 0 0

abbrev pub sulfur_dioxide : ℕ → ℕ → List ℕ
sulfur_dioxide pounds = card_of 1 2 rural in_open 7446095 pounds 0 0 0

abbrev pub ammonia : ℕ → ℕ → List ℕ
ammonia pounds = card_of 1 3 urban in_open 7664417 pounds 0 0 0

-- "12 bromine (7726956), state 4, urban, 25.0 °C, 20,000 lb", by its containment, area and wall
abbrev pub bromine : ℕ → ℕ → ℕ → ℕ → List ℕ
bromine containment area wall = card_of 1 4 urban containment 7726956 20_000 area wall 250

abbrev pub propane : ℕ → ℕ → List ℕ
propane pounds = card_of 2 0 0 0 74986 pounds 0 0 0

-- "Starred cases are the marked ones (to be proved)", in the paper's order, each a register: its cards, then the farthest
-- toxic and the farthest flammable one. Of a card: number, bytes, route, table, area, rate, distance. Routes, tables and the
-- rates that the paper does not print follow from its rules; bromine and propane have their numbers of its example.
unfoldable pub rows : List Row
rows =
    -- "*No cards: accepted, none and none."
    row [] none none
    -- "*Chlorine, state 2 here and below, rural, open: 2,249 lb 3.00 miles;"
    ∷ row (toxic 1 (chlorine rural in_open 0 2_249) 1 11 not_given 224_900 300 ∷ []) (at 1 300) none
    -- "*2,250 lb 3.40."
    ∷ row (toxic 2 (chlorine rural in_open 0 2_250) 1 11 not_given 225_000 340 ∷ []) (at 2 340) none
    -- "*Chlorine, 1,000 lb, building: 55.000, rural 1.70;"
    ∷ row (toxic 3 (chlorine rural in_building 100 1_000) 1 11 not_given 55_000 170 ∷ []) (at 3 170) none
    -- "*urban 0.70."
    ∷ row (toxic 4 (chlorine urban in_building 100 1_000) 1 11 not_given 55_000 70 ∷ []) (at 4 70) none
    -- "*Sulfur dioxide, state 2, rural, open, 95,000 lb: 25.00."
    ∷ row (toxic 5 (sulfur_dioxide 95_000) 1 12 not_given 9_500_000 2_500 ∷ []) (at 5 2_500) none
    -- "*Ammonia, state 3, urban, open, 7,500,000 lb: 13.00."
    ∷ row (toxic 6 (ammonia 7_500_000) 1 10 not_given 750_000_000 1_300 ∷ []) (at 6 1_300) none
    -- "*Bromine as card 12 but open: 327.040, 11.00;"
    ∷ row (toxic 12 (bromine in_open 0 0) 2 8 not_given 327_040 1_100 ∷ []) (at 12 1_100) none
    -- "*wall 100: area 269.70, 27.564, 3.40;"
    ∷ row (toxic 12 (bromine in_dike 100 100) 2 8 (given 26_970) 27_564 340 ∷ []) (at 12 340) none
    -- "*wall 1: area 3,200;"
    ∷ row (toxic 12 (bromine in_dike 100 1) 2 8 (given 320_000) 327_040 1_100 ∷ []) (at 12 1_100) none
    -- "*shed of 100 sq ft: 1.022, 0.40."
    ∷ row (toxic 12 (bromine in_building 100 0) 2 8 not_given 1_022 40 ∷ []) (at 12 40) none
    -- "*Propane 20,000 lb", "recomputed" by document 02, A7: 354 metres, 0.22
    ∷ row (flammable 13 (propane 20_000) 3 0 not_given 0 22 ∷ []) none (at 13 22)
    -- "*20,001 lb": 354 metres too
    ∷ row (flammable 13 (propane 20_001) 3 0 not_given 0 22 ∷ []) none (at 13 22)
    ∷ []

-- what is said of a register: what its call answers, the answer of each card, the area of each pool
pub record Said : Type 0 where
  pub outcome : Result Leaders (SentBack ℕ)
  pub cards : Cards
  pub pools : List Area

-- what a row states
abbrev pub stated : Row → Said
stated r =
    record {
      outcome = Ok (record { toxic = r.toxic; flammable = r.flammable });
      cards = answers (map (λ l. l.answer) r.lines);
      pools = map (λ l. l.pool) r.lines;
    }

-- the pool area that a meaning has
abbrev pub area_of : Result Meaning Refusal → Area
area_of (Ok (meaning.Toxic card)) = given (pool_area card.quantity.0 (df_of card.entry) card.containment)
area_of (Ok (meaning.Flammable card)) = not_given
area_of (Err r) = not_given

-- an area is looked at where the paper gives one
abbrev pub where_given : Area → Area → Area
where_given (given n) found = found
where_given not_given found = not_given

-- the cards of a row
abbrev pub cards_of_row : Row → List (List ℕ)
cards_of_row r = map (λ l. l.card) r.lines

-- what the definitions say of a register of a row's cards, with the shortest answer buffer that number 4 lets pass
abbrev pub defined_by : List ℕ → Row → Said
defined_by register r =
    record {
      outcome = outcome_of register (answer_size * length (cards_of_row r));
      cards = cards_of register;
      pools = map (λ l. where_given l.pool (area_of (meaning_of (fields_of l.card) 0))) r.lines;
    }

abbrev pub defined : Row → Said
defined r = defined_by (register_of (cards_of_row r)) r

-- and of one that stores the distances of its farthest cards
abbrev pub defined_storing : Row → Said
defined_storing r = defined_by (storing_register (distance_in r.toxic) (distance_in r.flammable) (cards_of_row r)) r

-- and of one whose cards also tell their days
abbrev pub defined_seasonal : Row → Said
defined_seasonal r = defined_by (seasonal_register (distance_in r.toxic) (distance_in r.flammable) (cards_of_row r)) r

-- all that the rows compute with
unfoldable pub computed : Unit {0}
unfolding strung two_bytes four_bytes outcome_of cards_of cards_from wrong_for cards_in stored_in layout_in layout_of header_of bad_length bad_version bad_count bad_buffer leaders_of leaders_from leaders_after answer_of stock_of season_of bad_season bad_day grown fields_of bad_area bad_heat bad_number bad_pounds bad_wall blank bounds_of flammable_of ground_of held_of meaning_of open_of shape_of signed state_of substance_of tenths_of toxic_meaning factors_of toxic_of b1 b2 b3 b4 bad_percent highest lines_of lowest solution_of among look_up is_flammable heat_of first_from metres_of ring_of c1 table1 table2 table3 table4 endpoints5 endpoints6 endpoints7 endpoints8 rates5 rates6 rates7 rates8 table5 table6 table7 table8 table9 table10 table11 table12 answered apart by_range by_row closest closest_column closest_from closest_row distance from_column holding in_use larger largest last_of mark_of past ratio_below smaller thousandths read_in reading_of tables column_of plan_of pool_of table_of vapor_of at_most_ten_minutes diked_area pool_rate
computed = tt

-- Every starred case of document 01.
pub starred : map defined rows ≡ map stated rows
unfolding rows computed
starred = refl

-- And in a register of version 2 with the right distances.
pub starred_storing : map defined_storing rows ≡ map stated rows
unfolding rows computed
starred_storing = refl

-- And in one of version 3 with the right distances, its cards in force from 1 to 366.
pub starred_seasonal : map defined_seasonal rows ≡ map stated rows
unfolding rows computed
starred_seasonal = refl
