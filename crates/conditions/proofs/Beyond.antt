-- Condition 11 is what a table does not answer.
-- Assumes nothing.
use Rattle.std.specs.Prelude.{ℕ, suc, ◌-◌, ◌≤◌, ◌<◌, ◌≡◌, Bool, true, not, List, [], ◌∷◌, map, eqb, ltb, get_or, length, is_none}
use Rattle.std.proofs.Common.{le_refl, arith}
use Rattle.std.proofs.lemmas.Bool.Decides.{nat_tests}
use Rattle.std.proofs.Math.Path.{refl}
use Rattle.std.proofs.lemmas.List.{length-map}
use Rattle.search.specs.Rising.{both, first_at_least}
use Rattle.search.specs.PlaceLaws.{every_at}
use Rattle.dispersion.specs.declared.Ground.{Ground}
use Rattle.rules.specs.Rules.{in_use, larger, closest, closest_row, closest_column, from_column, thousandths, last_of, mile_limit, answered, by_row, by_range}
use Rattle.dispersion.specs.Tables.{Table, ranges, grid, lines, unprinted, tables, rate_of, entry_of, read_in, reading_of}
use Rattle.rules.specs.Cuts.{cuts, cuts_from, climbs, climbs_from, uppers}
use Rattle.rules.proofs.Closest.{closest_by_cuts}
use Rattle.dispersion.proofs.Laws.{in_order, in_order_lem}
use Rattle.rules.proofs.Laws.{length_thousandths, never_past}
use Rattle.conditions.specs.Conditions.{above_last, last_in_use, beyond_table}

answered_is : (above : Bool) (entry : ℕ) → both above (not (eqb entry mile_limit)) ≡ is_none (answered above entry)
unfolding answered
answered_is above entry = grind arith

-- the last of a and the numbers behind it
abbrev last_from : ℕ → List ℕ → ℕ
last_from a [] = a
last_from a (b ∷ rest) = last_from b rest

last_is : (a : ℕ) (rest : List ℕ) → last_of (a ∷ rest) ≡ last_from a rest
unfolding last_of
last_is a [] = refl
last_is a (b ∷ rest) = rw (← last_is b rest) (grind arith)

last_above : (a : ℕ) (rest : List ℕ) → climbs_from a rest ≡ true → a ≤ last_from a rest
unfolding climbs_from
last_above a [] e = le_refl a
last_above a (b ∷ rest) e = grind (arith, nat_tests, last_above b rest)

-- above the last row, the last row is the closest
past_cuts : (x a : ℕ) (rest : List ℕ) → climbs_from a rest ≡ true → last_from a rest < x → first_at_least x (cuts_from 1 a rest) ≡ length rest
unfolding climbs_from cuts_from first_at_least
past_cuts x a [] e h = refl
past_cuts x a (b ∷ rest) e h = grind (arith, nat_tests, past_cuts x b rest, last_above b rest)

past_last : (x : ℕ) (xs : List ℕ) → climbs xs ≡ true → last_of xs < x → closest 1 x xs ≡ length xs - 1
unfolding climbs cuts closest
past_last x [] e h = refl
past_last x (a ∷ rest) e h = grind (arith, closest_by_cuts 1 x (a ∷ rest) (le_refl 1) e, past_cuts x a rest e, last_is a rest)

-- a table of rows
row_beyond : (rates entries : List ℕ) (rate : ℕ) → climbs (thousandths rates) ≡ true → both (ltb (last_of (thousandths rates)) rate) (not (eqb (in_use entries (length rates - 1)) mile_limit)) ≡ is_none (by_row rates entries rate)
unfolding by_row closest_row larger answered
row_beyond rates entries rate e =
    grind (arith, nat_tests, past_last rate (thousandths rates) e, length_thousandths rates)

-- Tables 1 to 4 all end with an open range: a test that computes
abbrev pub endless : Table → Bool
endless (ranges table) = eqb (length table) (suc (length (uppers table)))
endless (grid rates endpoints rows) = true
endless (lines table) = true
endless unprinted = true

endless_at : (n : ℕ) → endless (get_or tables n unprinted) ≡ true
unfolding tables uppers
endless_at n = every_at endless tables unprinted refl refl n

module _ (topography : Ground) (rate endpoint : ℕ) where
  pub table_beyond : (t : Table) → in_order t ≡ true → endless t ≡ true → beyond_table t topography rate endpoint ≡ is_none (read_in t topography rate endpoint)
  unfolding beyond_table above_last last_in_use read_in in_order by_range answered
  table_beyond (ranges table) o e = grind (arith, nat_tests, never_past rate endpoint table)
  table_beyond (grid rates endpoints rows) o e = grind (arith, nat_tests, row_beyond rates (from_column (closest_column endpoint endpoints) rows) rate)
  table_beyond (lines table) o e =
      grind (arith, nat_tests, length-map table rate_of, row_beyond (map rate_of table) (map (entry_of topography) table) rate o)
  table_beyond unprinted o e = refl

  -- 11 holds exactly where the table does not answer
  pub reading_beyond : (n : ℕ) → beyond_table (get_or tables n unprinted) topography rate endpoint ≡ is_none (reading_of n topography rate endpoint)
  unfolding reading_of
  reading_beyond n = table_beyond (get_or tables n unprinted) (in_order_lem n) (endless_at n)
