-- Condition 11 is what a table of likely scenarios does not answer; and a scenario's endpoint is that of the exhibits.
-- Assumes nothing.
use Rattle.std.specs.Prelude.{ℕ, ◌-◌, ◌<◌, ◌≡◌, Bool, true, not, List, map, eqb, ltb, length, Option, Some, None}
use Rattle.std.specs.Option.{is_none}
use Rattle.scenario.specs.declared.Scenario.{Scenario}
use Rattle.units.specs.declared.Miles.{Miles}
use Rattle.std.proofs.Common.{arith, ◌∙◌}
use Rattle.std.proofs.lemmas.Bool.Decides.{nat_tests}
use Rattle.std.proofs.Math.Path.{refl}
use Rattle.std.proofs.Math.ListN.{get_or, length-map}
use Rattle.search.specs.Rising.{both, first_at_least}
use Rattle.search.specs.Laws.{both_true, first_mono}
use Rattle.search.specs.PlaceLaws.{every_at}
use Rattle.exhibits.specs.Lines.{endpoint_of}
use Rattle.rules.specs.Rules.{in_use, closest_column, from_column, thousandths, last_of, mile_limit, by_range}
use Rattle.rules.specs.Cuts.{climbs, climbs_from, uppers}
use Rattle.rules.proofs.Laws.{length_thousandths, joined}
use Rattle.dispersion.specs.declared.Ground.{Ground}
use Rattle.dispersion.specs.Tables.{Table, ranges, grid, lines, unprinted, rate_of, entry_of, read_in}
use Rattle.dispersion.proofs.Laws.{in_order}
use Rattle.scenario.specs.declared.ToxicCard.{ToxicCard}
use Rattle.scenario.specs.Plan.{vapor_of, pool_of, plan_of}
use Rattle.interpolation.specs.Interpolation.{float_of, by_first, likely_at, likely_by_row}
use Rattle.interpolation.specs.Interpolation as rows
use Rattle.line_laws.specs.Rows.{place_printed, place_past}
use Rattle.likely_tables.specs.LikelyTables.{likely_tables, range_read, likely_in, likely_reading}
use Rattle.conditions.specs.Conditions.{above_last, last_in_use, beyond_table}
use Rattle.conditions.proofs.Beyond.{endless, table_beyond}

-- above the last of some rates that climb, the search ends behind them
above_is : (xs : List ℕ) (rate : ℕ) → climbs xs ≡ true → 0 < length xs → ltb (last_of xs) rate ≡ not (ltb (first_at_least rate xs) (length xs))
unfolding last_of
above_is xs rate climb some =
    let last : ℕ = get_or xs (length xs - 1) 0 in
    grind (arith, nat_tests, place_past xs climb rate some, first_mono rate last xs, place_printed xs climb (length xs - 1))

-- a table of rows
rows_beyond : (xs : List ℕ) (entry : ℕ → ℕ) (rate : ℕ) → climbs xs ≡ true → 0 < length xs → both (ltb (last_of xs) rate) (not (eqb (entry (length xs - 1)) mile_limit)) ≡ is_none (likely_at xs entry rate)
unfolding likely_at rows.above_last
rows_beyond xs entry rate climb some = grind (arith, nat_tests, above_is xs rate climb some)

row_beyond : (rates entries : List ℕ) (rate : ℕ) → climbs (thousandths rates) ≡ true → 0 < length rates → both (ltb (last_of (thousandths rates)) rate) (not (eqb (in_use entries (length rates - 1)) mile_limit)) ≡ is_none (likely_by_row rates entries rate)
unfolding likely_by_row
row_beyond rates entries rate climb some =
    grind (arith, length_thousandths rates, rows_beyond (thousandths rates) (in_use entries) rate climb)

-- Tables 14 to 25 are printed in order, those by ranges end with an open one, and those by rows have a row: a test that computes
abbrev has_rows : Table → Bool
has_rows (ranges table) = true
has_rows (grid rates endpoints rows) = ltb 0 (length rates)
has_rows (lines table) = ltb 0 (length table)
has_rows unprinted = true

abbrev is_sound : Table → Bool
is_sound t = both (in_order t) (both (endless t) (has_rows t))

sound_at : (n : ℕ) → is_sound (get_or likely_tables n unprinted) ≡ true
unfolding in_order joined climbs climbs_from thousandths uppers likely_tables
sound_at n = every_at is_sound likely_tables unprinted refl refl n

range_is : (x : Option Miles) → is_none x ≡ is_none (range_read x)
range_is x = grind arith

module _ (topography : Ground) (rate endpoint : ℕ) where
  table_unanswered : (t : Table) → in_order t ≡ true → endless t ≡ true → has_rows t ≡ true → beyond_table t topography rate endpoint ≡ is_none (likely_in t topography rate endpoint)
  unfolding beyond_table above_last last_in_use read_in likely_in in_order
  table_unanswered (ranges table) o e h =
      table_beyond topography rate endpoint (ranges table) o e ∙ range_is (by_range table rate endpoint)
  table_unanswered (grid rates endpoints rows) o e h =
      grind (arith, nat_tests, row_beyond rates (from_column (closest_column endpoint endpoints) rows) rate)
  table_unanswered (lines table) o e h =
      grind (arith, nat_tests, length-map table rate_of, row_beyond (map rate_of table) (map (entry_of topography) table) rate o)
  table_unanswered unprinted o e h = refl

  -- 11 holds exactly where the table does not answer
  pub reading_unanswered : (n : ℕ) → beyond_table (get_or likely_tables (n - 13) unprinted) topography rate endpoint ≡ is_none (likely_reading n topography rate endpoint)
  unfolding likely_reading
  reading_unanswered n =
      let t : Table = get_or likely_tables (n - 13) unprinted in
      let s = both_true (in_order t) (both (endless t) (has_rows t)) (sound_at (n - 13)) in
      let u = both_true (endless t) (has_rows t) s.1 in
      table_unanswered t s.0 u.0 u.1

-- ---- the endpoint

-- where there is a scenario, this is its endpoint
abbrev pub EndsAt : ℕ → Option Scenario → Type 0
EndsAt endpoint (Some s) = s.endpoint ≡ endpoint
EndsAt endpoint None = Unit {0}

-- a scenario has the endpoint that the exhibits give its substance
pub endpoint_is : (card : ToxicCard) → EndsAt (endpoint_of card.entry) (plan_of card)
unfolding plan_of vapor_of pool_of
endpoint_is card = grind arith
