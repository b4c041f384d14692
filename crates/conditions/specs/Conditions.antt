-- "When a register is sent back": the condition of each number, over the bytes and the place, in document 01's words. "Demand 1
-- counts these and later numbers with 01's" (document 02, A2): a request adds a line to `of_register`, `of_card` or `at_last`.
-- Assumes nothing.
use Rattle.std.specs.Prelude.{ℕ, zero, suc, ◌*◌, ◌-◌, max, Bool, true, false, not, List, [], ◌∷◌, ◌++◌, map, ltb, eqb, ℤ, pos, negsuc, get_or, length, Option, Some, None}
use Rattle.scenario.specs.declared.Scenario.{Scenario}
use Rattle.std.specs.Int.Signed.{lt_z}
use Rattle.search.specs.Rising.{both}
use Rattle.search.specs.Places.{either, among}
use Rattle.exhibits.specs.declared.Cell.{Cell}
use Rattle.exhibits.specs.declared.Cell.TheVariants.{Factor, Lfb, NoData}
use Rattle.exhibits.specs.PrintedB1.{b1}
use Rattle.exhibits.specs.PrintedB2.{b2}
use Rattle.exhibits.specs.Exhibits.{gas_cas, liquid_cas, factors_of}
use Rattle.solutions.specs.PrintedB3.{b3}
use Rattle.solutions.specs.Solutions.{solution_cas, bad_percent}
use Rattle.dispersion.specs.declared.Ground.{Ground}
use Rattle.dispersion.specs.declared.Ground.TheVariants.{Rural, Urban}
use Rattle.rules.specs.Rules.{distance, in_use, larger, closest, closest_column, from_column, thousandths, last_of, past, mark_of, mile_limit}
use Rattle.dispersion.specs.Tables.{Table, ranges, grid, lines, unprinted, tables, rate_of, entry_of}
use Rattle.combustion.specs.Heats.{cas_of}
use Rattle.combustion.specs.PrintedC1.{c1}
use Rattle.release.specs.declared.Containment.{Containment}
use Rattle.release.specs.declared.Containment.TheVariants.{Open, Dike, Building, ShedWithDoors}
use Rattle.which_table.specs.declared.State.{State}
use Rattle.which_table.specs.declared.State.TheVariants.{Gas, Pressurized, Refrigerated, Liquid, Solution}
use Rattle.scenario.specs.declared.ToxicCard.{ToxicCard}
use Rattle.factors.specs.Columns.{columns}
use Rattle.scenario.specs.Plan.{plan_of}
use Rattle.buffer.specs.Numbers.{byte_at}
use Rattle.fields.specs.Layout.{fields_of}
use Rattle.seasons.specs.Seasons.{season_of, bad_season}
use Rattle.refusals.specs.declared.Refusal.{Refusal}
use Rattle.refusals.specs.declared.Refusal.TheVariants as refusal
use Rattle.ranges.specs.Ranges.{bad_pounds, bad_area, bad_wall, bad_heat, signed, tenths_of}
use Rattle.meaning.specs.Reading.{bad_number, substance_of}
use Rattle.card.specs.declared.Class.{Class}
use Rattle.card.specs.declared.Class.TheVariants as class
use Rattle.header.specs.Header.{bad_length, bad_version, bad_count, bad_buffer, count_of, layout_in, stored_at}
use Rattle.ordering.specs.Order.{kind_of}
use Rattle.ordering.specs.Claim.{card_at}
use Rattle.prefix.specs.Claim.{distance_of}

-- one of some tests passes
abbrev pub any_of : List Bool → Bool
any_of [] = false
any_of (b ∷ rest) = either b (any_of rest)

-- a number is none of those listed
unfoldable pub unlisted : ℕ → List ℕ → Bool
unlisted b listed = not (among b listed)

-- one of these bytes of a card is not zero
unfoldable pub filled : List ℕ → List ℕ → Bool
filled card [] = false
filled card (i ∷ rest) = either (not (eqb (byte_at card i) 0)) (filled card rest)

-- "0: kind, 1 toxic, 2 flammable."
abbrev pub toxic : List ℕ → Bool
toxic card = eqb (byte_at card 0) 1

abbrev pub flammable : List ℕ → Bool
flammable card = eqb (byte_at card 0) 2

-- document 02, A3: "State 5 is a solution of a B-3 substance."
abbrev pub in_solution : List ℕ → Bool
in_solution card = eqb (byte_at card 1) 5

-- a toxic card's bytes 1 to 3 unlisted, or a field filled that must be zero
unfoldable pub bad_toxic : List ℕ → Bool
bad_toxic card =
    any_of (
    -- "1: state, 1 gas, 2 gas liquefied under pressure, 3 gas liquefied by refrigeration alone, 4 liquid"; "Byte 1 now admits 5"
    unlisted (byte_at card 1) (1 ∷ 2 ∷ 3 ∷ 4 ∷ 5 ∷ [])
    -- "2: ground, 1 rural, 2 urban."
    ∷ unlisted (byte_at card 2) (1 ∷ 2 ∷ [])
    -- "3: containment, 0 open, 1 dike, 2 building."; document 02, A5: "Byte 3 admits 3"
    ∷ unlisted (byte_at card 3) (0 ∷ 1 ∷ 2 ∷ 3 ∷ [])
    -- "12 to 15: dike or floor area ..; zero if open."
    ∷ both (eqb (byte_at card 3) 0) (filled card (12 ∷ 13 ∷ 14 ∷ 15 ∷ []))
    -- "16, 17: wall ..; zero unless a dike."
    ∷ both (not (eqb (byte_at card 3) 1)) (filled card (16 ∷ 17 ∷ []))
    -- "18, 19: .. for state 4; zero otherwise"; in state 5 a concentration "takes the temperature's place"
    ∷ both (unlisted (byte_at card 1) (4 ∷ 5 ∷ [])) (filled card (18 ∷ 19 ∷ []))
    ∷ []
    )

-- "A flammable card has zero in bytes 1, 2, 3 and 12 to 19."
unfoldable pub bad_flammable : List ℕ → Bool
bad_flammable card = filled card (1 ∷ 2 ∷ 3 ∷ 12 ∷ 13 ∷ 14 ∷ 15 ∷ 16 ∷ 17 ∷ 18 ∷ 19 ∷ [])

-- 6: "bytes 0 to 3 unlisted, or a must-be-zero field filled"
unfoldable pub bad_form : List ℕ → Bool
bad_form card =
    any_of (
    unlisted (byte_at card 0) (1 ∷ 2 ∷ [])
    ∷ both (toxic card) (bad_toxic card)
    ∷ both (flammable card) (bad_flammable card)
    ∷ []
    )

-- "Toxic gases are those of Exhibit B-1, liquids those of B-2, flammables those of Table 13", the 63 substances of Exhibit C-1
unfoldable pub of_gas : List ℕ → Bool
of_gas card = among (fields_of card).cas (map gas_cas b1)

unfoldable pub of_liquid : List ℕ → Bool
of_liquid card = among (fields_of card).cas (map liquid_cas b2)

unfoldable pub of_flammable : List ℕ → Bool
of_flammable card = among (fields_of card).cas (map cas_of c1)

-- the substances of Exhibit B-3
unfoldable pub of_solution : List ℕ → Bool
of_solution card = among (fields_of card).cas (map solution_cas b3)

-- 7: "CAS number not listed for the kind", and "in state 5 number 7 looks in B-3"
unfoldable pub bad_cas : List ℕ → Bool
bad_cas card =
    any_of (
    both (toxic card) (both (not (in_solution card)) (not (either (of_gas card) (of_liquid card))))
    ∷ both (toxic card) (both (in_solution card) (not (of_solution card)))
    ∷ both (flammable card) (not (of_flammable card))
    ∷ []
    )

-- 15: "temperature out of range"; in state 5 there is none
abbrev pub bad_temperature : List ℕ → Bool
bad_temperature card = both (not (in_solution card)) (bad_heat (signed (fields_of card).heat))

-- 16: "concentration zero or above the highest printed"
abbrev pub bad_concentration : List ℕ → Bool
bad_concentration card = both (in_solution card) (bad_percent (fields_of card).cas (fields_of card).heat)

-- the column of Exhibit B-4 that a temperature reads: "the closest column of B-4, the higher at a midpoint; 25 °C counts as a
-- column .., and lower temperatures read it"
abbrev pub column_read : ℤ → ℕ
column_read (pos tenths) = closest larger tenths columns
column_read (negsuc n) = 0

-- the cells of a substance's line in B-4, one for each column: "25 °C counts as a column of factor 1"
abbrev pub cells_of : ℕ → List Cell
cells_of cas =
    Factor 100
    ∷ (factors_of cas).at30
    ∷ (factors_of cas).at35
    ∷ (factors_of cas).at40
    ∷ (factors_of cas).at45
    ∷ (factors_of cas).at50
    ∷ []

-- the cell of B-4 that a card in state 4 reads at no more than 50.0 °C. B-1 and B-2 print a figure in every field, so that
-- only a cell of B-4 can be without data.
abbrev pub cell_read : List ℕ → Cell
cell_read card = get_or (cells_of (fields_of card).cas) (column_read (signed (fields_of card).heat)) NoData

-- "blank or marked as without data"
abbrev pub without_data : Cell → Bool
without_data (Factor n) = false
without_data Lfb = false
without_data NoData = true

-- "State 4 above 50.0 °C: LFB": no cell of B-4 is read
abbrev pub above_fifty : List ℕ → Bool
above_fifty card = lt_z (pos 500) (signed (fields_of card).heat)

-- 10: "gas in state 4, liquid in 1 to 3, dike in 1 or 2, or an exhibit field blank or marked as without data that this card's
-- route, rate or table reads"
unfoldable pub mismatched : List ℕ → Bool
mismatched card =
    any_of (
    both (of_gas card) (eqb (byte_at card 1) 4)
    ∷ both (of_liquid card) (among (byte_at card 1) (1 ∷ 2 ∷ 3 ∷ []))
    ∷ both (eqb (byte_at card 3) 1) (among (byte_at card 1) (1 ∷ 2 ∷ []))
    ∷ both (eqb (byte_at card 1) 4) (both (not (above_fifty card)) (without_data (cell_read card)))
    ∷ []
    )

-- "Above the last row", and "above a closed last range"
unfoldable pub above_last : Table → ℕ → ℕ → Bool
above_last (ranges table) rate endpoint = past rate endpoint table
above_last (grid rates endpoints rows) rate endpoint = ltb (last_of (thousandths rates)) rate
above_last (lines table) rate endpoint = ltb (last_of (thousandths (map rate_of table))) rate
above_last unprinted rate endpoint = true

-- "a last entry in use": the entry in use in the last row or range
unfoldable pub last_in_use : Table → Ground → ℕ → ℕ
last_in_use (ranges table) topography endpoint = in_use (map (λ range. distance (mark_of range)) table) (length table - 1)
last_in_use (grid rates endpoints rows) topography endpoint =
    in_use (from_column (closest_column endpoint endpoints) rows) (length rates - 1)
last_in_use (lines table) topography endpoint = in_use (map (entry_of topography) table) (length table - 1)
last_in_use unprinted topography endpoint = 0

-- "a last entry in use of 25 miles is answered; any other is refusal 11"
unfoldable pub beyond_table : Table → Ground → ℕ → ℕ → Bool
beyond_table table topography rate endpoint =
    both (above_last table rate endpoint) (not (eqb (last_in_use table topography endpoint) mile_limit))

-- what bytes 1 to 3 say of a card whose form is sound: "1 gas, 2 gas liquefied under pressure, 3 gas liquefied by refrigeration
-- alone, 4 liquid", and 5 a solution
unfoldable pub state_in : ℕ → State
state_in b =
    elim (eqb b 1) [
      | true ↦ Gas
      | false ↦
          elim (eqb b 2) [
            | true ↦ Pressurized
            | false ↦ elim (eqb b 3) [ true ↦ Refrigerated | false ↦ elim (eqb b 4) [ true ↦ Liquid | false ↦ Solution ] ]
          ]
    ]

-- "1 rural, 2 urban"
unfoldable pub ground_in : ℕ → Ground
ground_in b = elim (eqb b 1) [ true ↦ Rural | false ↦ Urban ]

-- "open, a dike with its area and wall, or a building with its floor", and 3 a shed with doors with its floor; areas in hundredths of
-- a square foot
unfoldable pub held_in : ℕ → ℕ → ℕ → Containment
held_in b area wall =
    elim (eqb b 1) [
      | true ↦ Dike (record { area = record { 0 = 100 * area }; wall = wall })
      | false ↦
          elim (eqb b 2) [
            | true ↦ Building (record { floor = record { 0 = 100 * area } })
            | false ↦ elim (eqb b 3) [ true ↦ ShedWithDoors (record { floor = record { 0 = 100 * area } }) | false ↦ Open ]
          ]
    ]

-- a toxic card in meaning
abbrev pub toxic_card : List ℕ → ToxicCard
toxic_card card =
    record {
      cas = (fields_of card).cas;
      entry = substance_of (fields_of card);
      state = state_in (byte_at card 1);
      topography = ground_in (byte_at card 2);
      quantity = record { 0 = (fields_of card).pounds };
      tenths = tenths_of (fields_of card);
      containment = held_in (byte_at card 3) (fields_of card).area (fields_of card).wall;
    }

-- the table, the rate and the endpoint are those that demand 2 gives the card
abbrev pub beyond_plan : Option Scenario → Ground → Bool
beyond_plan (Some s) topography = beyond_table (get_or tables s.table unprinted) topography s.rate.0 s.endpoint
beyond_plan None topography = false

-- 11: "beyond the table". Document 02, A7: "Number 11 no longer comes from a flammable card."
unfoldable pub beyond : List ℕ → Bool
beyond card = both (toxic card) (beyond_plan (plan_of (toxic_card card)) (ground_in (byte_at card 2)))

-- a line of the table: a refusal, which has its number, and whether its condition holds
pub data Condition : Type 0 where
  condition : Refusal → Bool → Condition

-- 1 to 4, of the whole register and the length of the answer buffer
unfoldable pub of_register : List ℕ → ℕ → List Condition
of_register bytes room =
    condition refusal.Length (bad_length bytes)
    ∷ condition refusal.Version (bad_version bytes)
    ∷ condition refusal.Count (bad_count bytes)
    ∷ condition refusal.Buffer (bad_buffer bytes room)
    ∷ []

-- 5 to 11, 14 to 16 and 21, of a card and the number of the card before it. Document 02, A2: 9 "becomes area only; area, wall and
-- temperature are checked in that order, where 9 was"; A3: 16 stands "at temperature's place in the order"; A10: "21 a day outside 1 to
-- 366, on a card after its temperature", so after its concentration too and before 10, whatever the card's kind.
unfoldable pub of_card : List ℕ → ℕ → List Condition
of_card card last =
    condition refusal.Number (bad_number (fields_of card).number last)
    ∷ condition refusal.Form (bad_form card)
    ∷ condition refusal.Unlisted (bad_cas card)
    ∷ condition refusal.Quantity (bad_pounds (fields_of card).pounds)
    ∷ condition refusal.Area (bad_area (byte_at card 3) (fields_of card).area)
    ∷ condition refusal.Wall (bad_wall (fields_of card).wall)
    ∷ condition refusal.Temperature (bad_temperature card)
    ∷ condition refusal.Concentration (bad_concentration card)
    ∷ condition refusal.Day (bad_season (season_of card))
    ∷ condition refusal.Mismatch (mismatched card)
    ∷ condition refusal.Beyond (beyond card)
    ∷ []

-- conditions that hold only where a test passes
unfoldable pub only : Bool → List Condition → List Condition
only here [] = []
only here (condition r b ∷ rest) = condition r (both here b) ∷ only here rest

-- "the last": the number of the card before a place, 0 before the first
abbrev pub number_before : List ℕ → ℕ → ℕ
number_before bytes zero = 0
number_before bytes (suc place) = (fields_of (card_at bytes place)).number

-- the conditions of the card at a place
abbrev pub card_lines : List ℕ → ℕ → List Condition
card_lines bytes place = of_card (card_at bytes place) (number_before bytes place)

-- whether a line's condition holds
abbrev pub met : Condition → Bool
met (condition r b) = b

-- "once every card has passed", of the first so many: no condition of any of them holds
unfoldable pub have_passed : List ℕ → ℕ → Bool
have_passed bytes zero = true
have_passed bytes (suc n) = both (not (any_of (map met (card_lines bytes n)))) (have_passed bytes n)

-- a distance where the test passes, else none
abbrev pub distance_if : Bool → ℕ → ℕ
distance_if true d = d
distance_if false d = 0

-- The distance of a class "worked out afresh" from the first so many cards: the largest that demand 2 gives a card of the class,
-- "zero for none".
unfoldable pub farthest_among : Class → List ℕ → ℕ → ℕ
farthest_among c bytes zero = 0
farthest_among c bytes (suc n) =
    max (distance_if (eqb (byte_at (card_at bytes n) 0) (kind_of c)) (distance_of (card_at bytes n))) (farthest_among c bytes n)

-- "A wrong stored distance": one of the two, "toxic then flammable", is not the one worked out afresh
abbrev pub stored_wrong : List ℕ → Bool
stored_wrong bytes =
    either (not (eqb (stored_at bytes).toxic (farthest_among class.Toxic bytes (count_of bytes))))
    (not (eqb (stored_at bytes).flammable (farthest_among class.Flammable bytes (count_of bytes))))

-- 3 once more, document 02, A9: "A wrong stored distance is number 3, once every card has passed", in a version that stores them
unfoldable pub wrong_distance : List ℕ → Bool
wrong_distance bytes = both (layout_in bytes).stores (both (have_passed bytes (count_of bytes)) (stored_wrong bytes))

-- of the whole register again, behind its cards
unfoldable pub at_last : List ℕ → List Condition
at_last bytes = condition refusal.Count (wrong_distance bytes) ∷ []

-- The table at a place: "the card's place, counted from 0 (0 for 1 to 4, and wherever no card is meant)", and a card's conditions
-- where there is one.
unfoldable pub conditions_at : List ℕ → ℕ → ℕ → List Condition
conditions_at bytes room place =
    only (eqb place 0) (of_register bytes room)
    ++ (only (ltb place (count_of bytes)) (card_lines bytes place) ++ only (eqb place 0) (at_last bytes))
