-- Every distance that a likely scenario is answered is a number between 0 and 2,500, in hundredths of a mile: of any table, ground, rate
-- and endpoint, and of any card, rate and duration. One test that computes says what this needs of all tables.
-- Assumes nothing.
use Rattle.std.specs.Prelude.{ℕ, zero, suc, ◌-◌, ◌^◌, ◌≤◌, ◌≡◌, refl, List, [], ◌∷◌, map, Bool, true, leb, get_or, drop, Result, Ok, Err}
use Rattle.likely_scenario.specs.declared.LikelyScenario.{LikelyScenario}
use Rattle.std.proofs.Common.{zero-le, le_refl, arith}
use Rattle.std.proofs.lemmas.Bool.Decides.{nat_tests}
use Rattle.search.specs.Rising.{first_at_least, both}
use Rattle.search.specs.Places.{every}
use Rattle.search.specs.PlaceLaws.{every_at}
use Rattle.search.specs.Laws.{both_true}
use Rattle.refusals.specs.declared.Refusal.{Refusal}
use Rattle.rules.specs.Printed.{Mark}
use Rattle.rules.specs.Rules.{distance, largest, in_use, from_column, closest_column, thousandths, answered, past, holding, mark_of, by_range}
use Rattle.rules.specs.Cuts.{climbs, climbs_from}
use Rattle.dispersion.specs.declared.Ground.{Ground}
use Rattle.dispersion.specs.declared.Ground.TheVariants.{Rural, Urban}
use Rattle.dispersion.specs.Tables.{Table, ranges, grid, lines, unprinted, rate_of, entry_of}
use Rattle.interpolation.specs.Interpolation.{entry_read, likely_at, likely_by_row}
use Rattle.likely_tables.specs.LikelyTables.{likely_tables, range_read, likely_in, likely_reading}
use Rattle.likely_scenario.specs.LikelyScenario.{likely_of}
use Rattle.line_laws.specs.Numbers.{Carries, CarriesIn}
use Rattle.line_laws.proofs.Numbers.{number_reads, in_use_within, number_by_row}

-- ---- all tables at once

-- the rates of a table's rows in lbs/min, as printed; a table of ranges has no rows
abbrev pub rates_in : Table → List ℕ
rates_in (ranges table) = []
rates_in (grid rates endpoints rows) = rates
rates_in (lines table) = map rate_of table
rates_in unprinted = []

-- the entries of the column that a ground and an endpoint read; in a table by endpoints, of each row the largest from that column on
abbrev pub entries_in : Table → Ground → ℕ → List ℕ
entries_in (ranges table) topography endpoint = []
entries_in (grid rates endpoints rows) topography endpoint = from_column (closest_column endpoint endpoints) rows
entries_in (lines table) topography endpoint = map (entry_of topography) table
entries_in unprinted topography endpoint = []

-- no distance is above 25 miles
abbrev pub short : List ℕ → Bool
short entries = every (λ d. leb d 2500) entries

unfoldable pub short_table : Table → Bool
short_table (ranges table) = short (map (λ range. distance (mark_of range)) table)
short_table (grid rates endpoints rows) = every (λ row. short (map distance row)) rows
short_table (lines table) = both (short (map (entry_of Rural) table)) (short (map (entry_of Urban) table))
short_table unprinted = true

-- the rates climb, and a float holds each of them in thousandths
abbrev pub climbing : Table → Bool
climbing table = climbs (thousandths (rates_in table))

abbrev pub exact : Table → Bool
exact table = every (λ r. leb r (2 ^ 53)) (thousandths (rates_in table))

-- all of these: a test that computes
unfoldable pub sound_table : Table → Bool
sound_table table = both (climbing table) (both (exact table) (short_table table))

-- every table passes it
sound : every sound_table likely_tables ≡ true
unfolding sound_table short_table climbs climbs_from thousandths distance mark_of likely_tables
sound = refl

pub sound_table_lem : (n : ℕ) → sound_table (get_or likely_tables n unprinted) ≡ true
unfolding sound_table short_table climbs thousandths
sound_table_lem n = every_at sound_table likely_tables unprinted sound refl n

-- ---- what the test says

largest_behind : (most : ℕ) (xs : List ℕ) → every (λ d. leb d most) xs ≡ true → (n : ℕ) → largest (drop n xs) ≤ most
unfolding largest
largest_behind most [] e zero = zero-le
largest_behind most [] e (suc n) = zero-le
largest_behind most (d ∷ rest) e zero = grind (arith, nat_tests, λ (h : every (λ d. leb d most) rest ≡ true). largest_behind most rest h 0)
largest_behind most (d ∷ rest) e (suc n) = grind (arith, λ (h : every (λ d. leb d most) rest ≡ true). largest_behind most rest h n)

column_short : (column : ℕ) (rows : List (List Mark)) → every (λ row. short (map distance row)) rows ≡ true
    → short (from_column column rows) ≡ true
unfolding from_column
column_short column [] e = refl
column_short column (row ∷ rest) e =
    grind (arith, nat_tests, λ (h : short (map distance row) ≡ true). largest_behind 2500 (map distance row) h column, column_short column rest)

entries_short : (t : Table) → short_table t ≡ true → (topography : Ground) (endpoint : ℕ) → short (entries_in t topography endpoint) ≡ true
unfolding short_table
entries_short (ranges table) e topography endpoint = refl
entries_short (grid rates endpoints rows) e topography endpoint = column_short (closest_column endpoint endpoints) rows e
entries_short (lines table) e Rural endpoint = (both_true (short (map (entry_of Rural) table)) (short (map (entry_of Urban) table)) e).0
entries_short (lines table) e Urban endpoint = (both_true (short (map (entry_of Rural) table)) (short (map (entry_of Urban) table)) e).1
entries_short unprinted e topography endpoint = refl

module _ (t : Table) (e : sound_table t ≡ true) where
  pub rates_climb : climbing t ≡ true
  unfolding sound_table
  rates_climb = (both_true (climbing t) (both (exact t) (short_table t)) e).0

  behind : (exact t ≡ true) × (short_table t ≡ true)
  unfolding sound_table
  behind = both_true (exact t) (short_table t) (both_true (climbing t) (both (exact t) (short_table t)) e).1

  pub rates_exact : exact t ≡ true
  rates_exact = behind.0

  pub entries_within : (topography : Ground) (endpoint : ℕ) → short (entries_in t topography endpoint) ≡ true
  entries_within = entries_short t behind.1

-- ---- a reading of any table

-- an entry by itself: the only row of a table
entry_number : (d : ℕ) → d ≤ 2500 → Carries (entry_read d)
unfolding likely_at first_at_least climbs climbs_from
entry_number d h = number_reads (0 ∷ []) (λ k. d) refl refl (λ k. h) (λ k. le_refl d) 0

-- a range's entry
range_number : (beyond : Bool) (d : ℕ) → d ≤ 2500 → CarriesIn (range_read (answered beyond d))
unfolding answered
range_number beyond d h = grind (arith, entry_number d h)

-- a table of rows
rows_number : (t : Table) → sound_table t ≡ true → (topography : Ground) (rate endpoint : ℕ)
    → CarriesIn (likely_by_row (rates_in t) (entries_in t topography endpoint) rate)
rows_number t e topography rate endpoint =
    number_by_row (rates_in t) (entries_in t topography endpoint) (rates_climb t e) (rates_exact t e) (entries_within t e topography endpoint) rate

table_number : (t : Table) → sound_table t ≡ true → (topography : Ground) (rate endpoint : ℕ) → CarriesIn (likely_in t topography rate endpoint)
unfolding likely_in by_range short_table
table_number (ranges table) e topography rate endpoint =
    let entries : List ℕ = map (λ range. distance (mark_of range)) table in
    let place : ℕ = holding rate endpoint table in
    range_number (past rate endpoint table) (in_use entries place) (in_use_within 2500 entries (behind (ranges table) e).1 place)
table_number (grid rates endpoints rows) e topography rate endpoint = rows_number (grid rates endpoints rows) e topography rate endpoint
table_number (lines table) e topography rate endpoint = rows_number (lines table) e topography rate endpoint
table_number unprinted e topography rate endpoint = tt

-- every distance carried is a number between 0 and 2,500
pub reading_number : (table : ℕ) (topography : Ground) (rate endpoint : ℕ) → CarriesIn (likely_reading table topography rate endpoint)
unfolding likely_reading
reading_number table topography rate endpoint =
    table_number (get_or likely_tables (table - 13) unprinted) (sound_table_lem (table - 13)) topography rate endpoint

-- ---- a card's answer

-- the distance that is answered is such a number; a refusal has none
abbrev pub AnswerCarries : Result LikelyScenario Refusal → Type 0
AnswerCarries (Ok s) = Carries s.distance
AnswerCarries (Err r) = Unit {0}

-- whatever the card's bytes, the rate and the minutes
pub answer_number : (card : List ℕ) (rate minutes : ℕ) → AnswerCarries (likely_of card rate minutes)
unfolding likely_of
answer_number card rate minutes = grind (arith, reading_number)
