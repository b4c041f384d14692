-- The line of a likely scenario as text: a list of bytes in ASCII, where the space is 32 and the line feed 10.
-- Assumes nothing.
use Rattle.std.specs.Prelude.{ℕ, List, [], ◌∷◌, ◌++◌, Float}
use Rattle.decimal.specs.Decimal.{digits, fixed}
use Rattle.interpolation.specs.declared.Likely.{Likely}
use Rattle.interpolation.specs.declared.Likely.TheVariants.{Printed, Interpolated, Limit}
use Rattle.float_text.specs.RoundedUp.{up_of}
use Rattle.float_text.specs.Hex.{pattern_of}
use Rattle.likely_scenario.specs.declared.LikelyScenario.{LikelyScenario}

-- the miles, two decimals, rounded up, and the 64-bit pattern, at the end of a line
unfoldable pub numbers_text : Float → List ℕ
numbers_text x = fixed 2 (up_of x) ++ ((32 ∷ []) ++ (pattern_of x ++ (10 ∷ [])))

-- `printed `, `interpolated ` and `limit `
abbrev pub printed_word : List ℕ
printed_word = 112 ∷ 114 ∷ 105 ∷ 110 ∷ 116 ∷ 101 ∷ 100 ∷ 32 ∷ []

abbrev pub interpolated_word : List ℕ
interpolated_word = 105 ∷ 110 ∷ 116 ∷ 101 ∷ 114 ∷ 112 ∷ 111 ∷ 108 ∷ 97 ∷ 116 ∷ 101 ∷ 100 ∷ 32 ∷ []

abbrev pub limit_word : List ℕ
limit_word = 108 ∷ 105 ∷ 109 ∷ 105 ∷ 116 ∷ 32 ∷ []

-- "The answer says whether the distance was printed, interpolated or the 25-mile limit."
abbrev pub likely_text : Likely → List ℕ
likely_text (Printed x) = printed_word ++ numbers_text x
likely_text (Interpolated x) = interpolated_word ++ numbers_text x
likely_text (Limit x) = limit_word ++ numbers_text x

-- the table, then the distance
unfoldable pub scenario_line : LikelyScenario → List ℕ
scenario_line s = (digits s.table ++ (32 ∷ [])) ++ likely_text s.distance
