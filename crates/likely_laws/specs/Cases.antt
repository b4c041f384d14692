-- Likely scenarios as one table of questions, each a card, a rate in thousandths and a duration in minutes, and the one theorem that each
-- is answered as its line states: the table, how the distance was found and its 64 bits, or the number of the refusal.
-- Assumes nothing.
use Rattle.std.specs.Prelude.{ℕ, zero, suc, ◌/◌, ◌%◌, ◌≡◌, refl, List, [], ◌∷◌, map, Result, Ok, Err}
use Rattle.likely_scenario.specs.declared.LikelyScenario.{LikelyScenario}
use Rattle.refusals.specs.declared.Refusal.{Refusal}
use Rattle.std.specs.Float.{binary64}
use Rattle.std.specs.Float.Ieee.{sub, mul, div, of_int, to_bits}
use Rattle.search.specs.Rising.{first_at_least}
use Rattle.search.specs.Places.{among, look_up}
use Rattle.refusals.specs.Numbers.{number_of}
use Rattle.exhibits.specs.PrintedB1.{b1}
use Rattle.exhibits.specs.PrintedB2.{b2}
use Rattle.exhibits.specs.PrintedB4.{b4}
use Rattle.exhibits.specs.Exhibits.{factors_of, toxic_of}
use Rattle.solutions.specs.PrintedB3.{b3}
use Rattle.solutions.specs.Solutions.{bad_percent, highest, lines_of, lowest, solution_of}
use Rattle.rules.specs.Rules.{answered, apart, by_range, closest, closest_column, closest_from, distance, from_column, holding, in_use, largest, mark_of, past, ratio_below, smaller, thousandths}
use Rattle.factors.specs.Factors.{column_of}
use Rattle.which_table.specs.WhichTable.{table_of}
use Rattle.scenario.specs.Plan.{plan_of, pool_of, vapor_of}
use Rattle.fields.specs.Layout.{fields_of}
use Rattle.form.specs.Form.{blank, ground_of, held_of, open_of, shape_of, state_of}
use Rattle.ranges.specs.Ranges.{bad_area, bad_heat, bad_pounds, bad_wall, bounds_of, signed, tenths_of}
use Rattle.meaning.specs.Reading.{substance_of, toxic_meaning}
use Rattle.interpolation.specs.declared.Likely.{Likely}
use Rattle.interpolation.specs.declared.Likely.TheVariants.{Printed, Interpolated, Limit}
use Rattle.interpolation.specs.Interpolation.{above_last, between_rows, entry_read, likely_at, likely_by_row}
use Rattle.likely_tables.specs.LikelyTables.{likely_in, likely_reading, likely_tables}
use Rattle.likely_scenario.specs.LikelyScenario.{bad_rate, likely_of, likely_table}

-- what is answered: how the distance was found, with the table and the float's 64 bits, or a refusal by its number
pub data Told : Type 0 where
  printed interpolated limit : ℕ → ℕ → Told
  refused : ℕ → Told

-- a card's 24 bytes as one number, the rate, the minutes, and what is answered
pub data Question : Type 0 where
  asked : ℕ → ℕ → ℕ → Told → Question

-- The bytes of a card are set apart by its fields: kind, state, ground, containment, CAS number, pounds, area, wall, temperature or
-- concentration, card number.
unfoldable pub questions : List Question
questions =
    -- the guidance's Example 24: chlorine at 500 pounds per minute, urban, "0.4 miles"
    asked 0x01_02_02_00_0076c069_000009c4_00000000_0000_0000_0000000b 500_000 10 (printed 24 0x4044000000000000)
    -- its Example 25: allyl alcohol at 63 pounds per minute for 156 minutes, rural, Table 15, "0.4 mile"
    ∷ asked 0x01_04_01_00_0001a2b2_00002666_00000000_0000_00fa_00000001 63_000 156 (printed 15 0x4044000000000000)
    -- Tables 14 to 17, "A range .. under 25 miles counts as printed", and one of 25 miles is the limit; the largest rate is accepted
    ∷ asked 0x01_05_01_03_0074af22_00286d31_000f4240_0000_0173_00000001 2_100_000 10 (printed 14 0x4076800000000000)
    ∷ asked 0x01_05_01_01_007a4c6d_00030d40_0000011d_0008_012c_00000001 98_610_440 1_440 (limit 14 0x40a3880000000000)
    ∷ asked 0x01_01_01_00_01264da1_00000148_00000000_0000_0000_00000007 124_299 61 (printed 15 0x407f400000000000)
    ∷ asked 0x01_04_01_00_00087e69_0007a121_00000000_0000_fe0c_00000007 292_762_069 60 (limit 15 0x40a3880000000000)
    ∷ asked 0x01_05_02_01_007a4c6d_0000c350_000030d2_0003_012c_00000000 13_010_228 11 (printed 16 0x4085400000000000)
    ∷ asked 0x01_05_02_00_0000c350_000006a4_00000000_0000_0172_00000001 1_000_000_000 1_440 (limit 16 0x40a3880000000000)
    ∷ asked 0x01_01_02_03_0001249c_0000001c_00000002_0000_0000_00000001 762_262 4_294_967_295 (printed 17 0x4061800000000000)
    ∷ asked 0x01_04_02_01_0193ecc9_00000014_0000000e_0d7d_0176_00000000 608_464_163 60 (limit 17 0x40a3880000000000)
    -- Table 18: at a row, below the first one, between two rows, at a row of 25 miles
    ∷ asked 0x01_03_01_00_0076c298_00000005_00000000_0000_0000_00000000 50_000 9 (printed 18 0x4044000000000000)
    ∷ asked 0x01_04_01_00_00cd6f6e_00000001_00000000_0000_00f9_00000007 4 10 (printed 18 0x404e000000000000)
    ∷ asked 0x01_02_01_00_0074f309_0098967f_00000000_0000_0000_00000000 36_665 10 (interpolated 18 0x404aaa8f5c28f5c3)
    ∷ asked 0x01_03_01_00_00771278_00000008_00000000_0000_0000_00000000 10_000_000 10 (limit 18 0x40a3880000000000)
    -- Table 19: at a row, between two rows, above a last row of 25 miles
    ∷ asked 0x01_03_01_01_000125d2_001e847f_0003592f_0004_0000_00000000 1_500_000 60 (printed 19 0x4065400000000000)
    ∷ asked 0x01_01_01_03_0074af22_005ae925_000f4240_0000_0000_00000000 5_783_539 1_440 (interpolated 19 0x4087b2d4c985f070)
    ∷ asked 0x01_01_01_03_000124b3_000325f6_0001bb47_0000_0000_00000001 200_000_001 4_294_967_295 (limit 19 0x40a3880000000000)
    -- phosphine there: the last entry under 25 miles, and from just above it on the limit
    ∷ asked 0x01_03_01_01_00771278_001e8480_00000028_0064_0000_00000007 3_000_000 1_440 (printed 19 0x40a1300000000000)
    ∷ asked 0x01_03_01_01_00771278_001e8480_00000028_0064_0000_00000007 3_000_001 1_440 (limit 19 0x40a3880000000000)
    -- bromine there: an entry that is printed as 25 miles, not as more
    ∷ asked 0x01_04_01_00_0075e76c_00004e20_00000000_0000_00fa_00000001 7_500_000 60 (limit 19 0x40a3880000000000)
    -- Table 20: the same as 19
    ∷ asked 0x01_03_02_00_0001249c_00000009_00000000_0000_0000_00000007 5_000 10 (printed 20 0x4034000000000000)
    ∷ asked 0x01_02_02_00_0076c4b0_00000065_00000000_0000_0000_00000000 2_950 10 (interpolated 20 0x402a555555555555)
    ∷ asked 0x01_02_02_03_00748850_001e8482_00006d72_0000_0000_00000001 897_245_235 9 (limit 20 0x40a3880000000000)
    -- Table 21: at a row, between two rows, at a row of 25 miles
    ∷ asked 0x01_01_02_00_0076c00e_001ab3ee_00000000_0000_0000_00000007 3_000_000 4_294_967_295 (printed 21 0x409c200000000000)
    ∷ asked 0x01_02_02_00_000126b5_00000016_00000000_0000_0000_00000000 250_001 11 (interpolated 21 0x408d10057d1782d4)
    ∷ asked 0x01_02_02_00_00995614_0016e35f_00000000_0000_0000_00000007 75_000_000 61 (limit 21 0x40a3880000000000)
    -- hydrogen chloride there, at 1,500 pounds per minute: 1.9 miles are printed at 0.035 mg/L beside 2.0 at 0.05, and 2.0 is in use; so
    -- it is as an end of the interpolations below and above
    ∷ asked 0x01_01_02_00_0074af22_000003e8_00000000_0000_0000_00000001 1_500_000 60 (printed 21 0x4069000000000000)
    ∷ asked 0x01_03_02_03_0074af22_00000002_00000044_0000_0000_00000000 1_274_156 60 (interpolated 21 0x4067deeb702602c9)
    ∷ asked 0x01_01_02_00_0074af22_000003e8_00000000_0000_0000_00000001 1_750_000 60 (interpolated 21 0x406f400000000000)
    -- ammonia under pressure in Table 22: below the first row, at a row, between two rows
    ∷ asked 0x01_02_01_00_0074f321_002625a0_00000000_0000_0000_00000000 21 10 (printed 22 0x4024000000000000)
    ∷ asked 0x01_02_02_00_0074f321_00000294_00000000_0000_0000_00000000 1_500_000 1_440 (printed 22 0x403e000000000000)
    ∷ asked 0x01_02_01_00_0074f321_001e8481_00000000_0000_0000_00000000 12_500_001 10 (interpolated 22 0x4069000010c6f7a1)
    -- other ammonia in Table 23: below the first row, at it, where it is blank, between two blanks, between two rows
    ∷ asked 0x01_03_01_00_0074f321_001e8482_00000000_0000_0000_00000000 958 1 (printed 23 0x4024000000000000)
    ∷ asked 0x01_01_02_00_0074f321_0001e849_00000000_0000_0000_00000000 8_000 10 (printed 23 0x4024000000000000)
    ∷ asked 0x01_05_02_01_0074f321_001e8480_000f4240_0008_012c_00000001 35_000 4_294_967_295 (interpolated 23 0x4024000000000000)
    ∷ asked 0x01_05_02_03_0074f321_000249f0_00000025_0000_00c8_00000001 216_665 61 (interpolated 23 0x402aaa7ef9db22d1)
    -- "checked as ever but for 5 and 11": card number 0, and pounds that lie beyond Table 10 in the worst case
    ∷ asked 0x01_03_02_00_0074f321_007afd1c_00000000_0000_0000_00000000 5_039 11 (printed 23 0x4024000000000000)
    -- chlorine in Table 24: at a row, between two rows, and where the last bit would be another if the product came before the quotient
    ∷ asked 0x01_03_01_00_0076c069_00006da7_00000000_0000_0000_00000007 30_000 9 (printed 24 0x403e000000000000)
    ∷ asked 0x01_01_01_00_0076c069_000007d0_00000000_0000_0000_00000000 52_545 10 (interpolated 24 0x404045c28f5c28f6)
    ∷ asked 0x01_02_01_03_0076c069_000004cd_0000014d_0000_0000_00000000 9_999 11 (interpolated 24 0x4033ff7ced916873)
    -- sulfur dioxide in Table 25: the same
    ∷ asked 0x01_03_02_00_00719e4f_001e8481_00000000_0000_0000_00000000 750_000 10 (printed 25 0x4049000000000000)
    ∷ asked 0x01_02_02_03_00719e4f_000001dd_000476b4_0000_0000_00000001 333_333 11 (interpolated 25 0x4040aaa9930be0df)
    ∷ asked 0x01_02_02_00_00719e4f_00000001_00000000_0000_0000_00000000 48_851_769 60 (interpolated 25 0x4071e8e28997c3d7)
    -- 17: "supplied rate zero or above 1,000,000,000 thousandths"; 18: "duration zero"
    ∷ asked 0x01_03_02_00_0074f321_00031599_00000000_0000_0000_00000000 0 10 (refused 17)
    ∷ asked 0x01_01_02_00_0074af22_000003e8_00000000_0000_0000_00000001 1_000_000_001 60 (refused 17)
    ∷ asked 0x01_02_01_00_00719e4f_0000afc8_00000000_0000_0000_00000000 85_636 0 (refused 18)
    -- "17 then 18 come before every other check": both are wrong, a flammable card, an unlisted substance
    ∷ asked 0x01_05_02_01_0001a616_00000003_00000d76_2710_02bb_00000001 9_223_372_036_854_775_808 0 (refused 17)
    ∷ asked 0x02_00_00_00_0001a2f7_0000005c_00000000_0000_0000_00000000 0 11 (refused 17)
    ∷ asked 0x01_04_01_03_000124ea_00989680_00000064_0000_fe0c_00000001 1_000_000 0 (refused 18)
    -- "a flammable one is 6"
    ∷ asked 0x02_00_00_00_000124ea_001e8480_00000001_0000_0000_00000001 1_000_000 61 (refused 6)
    -- 7, 8, 9, 14, 15, 16 and 10, as ever
    ∷ asked 0x01_05_02_00_0076c069_0000004b_00000000_0000_0172_00000000 3_164 10 (refused 7)
    ∷ asked 0x01_04_01_02_000c6e5e_00000000_000f4240_0000_fe0b_00000000 1_000 11 (refused 8)
    ∷ asked 0x01_04_01_03_00012814_00000001_00000000_0000_0145_00000001 1_000_000 10 (refused 9)
    ∷ asked 0x01_04_01_01_007573dc_00989680_00000064_ffff_012d_00000001 1_000_000 1 (refused 14)
    ∷ asked 0x01_04_01_00_0075e76c_00004e20_00000000_0000_0bb9_00000001 1_000 10 (refused 15)
    ∷ asked 0x01_05_02_00_0000c350_00000062_00000000_0000_0173_00000000 1_000_000 1_440 (refused 16)
    ∷ asked 0x01_04_02_01_0001ac2f_00000009_00000025_0021_0177_00000007 1 4_294_967_295 (refused 10)
    -- 11: above a last row under 25 miles
    ∷ asked 0x01_01_01_00_00719e4f_00026aeb_00000000_0000_0000_00000000 200_000_001 61 (refused 11)
    ∷ asked 0x01_02_01_00_0074f321_00007df3_00000000_0000_0000_00000000 250_000_001 60 (refused 11)
    ∷ []

-- the last bytes of a number, as many as are asked for, before others
unfoldable pub bytes_before : ℕ → ℕ → List ℕ → List ℕ
bytes_before zero n others = others
bytes_before (suc count) n others = bytes_before count (n / 256) (n % 256 ∷ others)

abbrev pub distance_told : ℕ → Likely → Told
distance_told table (Printed x) = printed table (to_bits binary64 x)
distance_told table (Interpolated x) = interpolated table (to_bits binary64 x)
distance_told table (Limit x) = limit table (to_bits binary64 x)

abbrev pub answer_told : Result LikelyScenario Refusal → Told
answer_told (Ok s) = distance_told s.table s.distance
answer_told (Err r) = refused (number_of r)

-- what the definition answers to a question, and what its line states
abbrev pub answer_to : Question → Told
answer_to (asked card rate minutes told) = answer_told (likely_of (bytes_before 24 card []) rate minutes)

abbrev pub expected : Question → Told
expected (asked card rate minutes told) = told

-- every question
pub every_question : map answer_to questions ≡ map expected questions
unfolding questions bytes_before likely_of bad_rate likely_table table_of likely_reading likely_in likely_tables fields_of shape_of state_of ground_of held_of open_of blank substance_of toxic_meaning bounds_of bad_pounds bad_area bad_wall bad_heat signed tenths_of among look_up toxic_of factors_of b1 b2 b4 solution_of bad_percent highest lines_of lowest b3 plan_of vapor_of pool_of column_of by_range answered past holding ratio_below mark_of distance in_use largest from_column closest_column closest closest_from apart smaller thousandths first_at_least entry_read between_rows above_last likely_at likely_by_row sub mul div of_int to_bits
every_question = refl
