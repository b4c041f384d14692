-- Document 02, A6: when a likely scenario is sent back. The condition of each number, over a card's bytes, the supplied rate in thousandths
-- and the supplied minutes: "checked as ever but for 5 and 11; a flammable one is 6", and 17 and 18, which "come before every other check".
-- Assumes nothing.
use Rattle.std.specs.Prelude.{ℕ, ◌-◌, Bool, not, List, [], ◌∷◌, eqb, get_or}
use Rattle.search.specs.Places.{either}
use Rattle.exhibits.specs.Lines.{endpoint_of}
use Rattle.dispersion.specs.Tables.{unprinted}
use Rattle.scenario.specs.declared.ToxicCard.{ToxicCard}
use Rattle.buffer.specs.Numbers.{byte_at}
use Rattle.fields.specs.Layout.{fields_of}
use Rattle.refusals.specs.declared.Refusal.TheVariants as refusal
use Rattle.ranges.specs.Ranges.{bad_pounds, bad_area, bad_wall}
use Rattle.conditions.specs.Conditions.{toxic, bad_toxic, bad_cas, bad_temperature, bad_concentration, mismatched, beyond_table, toxic_card, Condition, condition, only}
use Rattle.likely_tables.specs.LikelyTables.{likely_tables}
use Rattle.likely_scenario.specs.LikelyScenario.{bad_rate, likely_table}

-- 6: "bytes 0 to 3 unlisted, or a must-be-zero field filled"; "a flammable one is 6"
unfoldable pub not_toxic_form : List ℕ → Bool
not_toxic_form card = either (not (toxic card)) (bad_toxic card)

-- 11: "above the last, the rule of 11", by the table among 14 to 25 that serves the card and the minutes, at the supplied rate and the
-- endpoint that the exhibits give the substance
unfoldable pub beyond_likely : ToxicCard → ℕ → ℕ → Bool
beyond_likely card rate minutes =
    beyond_table (get_or likely_tables (likely_table card minutes - 13) unprinted) card.topography rate (endpoint_of card.entry)

-- 17 and 18, of what the reader supplies; 6 to 10 and 14 to 16, of the card, as ever; 11 of the alternative table, last
unfoldable pub of_likely : List ℕ → ℕ → ℕ → List Condition
of_likely card rate minutes =
    condition refusal.SuppliedRate (bad_rate rate)
    ∷ condition refusal.SuppliedDuration (eqb minutes 0)
    ∷ condition refusal.Form (not_toxic_form card)
    ∷ condition refusal.Unlisted (bad_cas card)
    ∷ condition refusal.Quantity (bad_pounds (fields_of card).pounds)
    ∷ condition refusal.Area (bad_area (byte_at card 3) (fields_of card).area)
    ∷ condition refusal.Wall (bad_wall (fields_of card).wall)
    ∷ condition refusal.Temperature (bad_temperature card)
    ∷ condition refusal.Concentration (bad_concentration card)
    ∷ condition refusal.Mismatch (mismatched card)
    ∷ condition refusal.Beyond (beyond_likely (toxic_card card) rate minutes)
    ∷ []

-- The table at a place: there is one card, at place 0.
unfoldable pub likely_conditions_at : List ℕ → ℕ → ℕ → ℕ → List Condition
likely_conditions_at card rate minutes place = only (eqb place 0) (of_likely card rate minutes)
