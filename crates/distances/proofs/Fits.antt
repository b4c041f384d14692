-- The distance that demand 2 gives an accepted card is at most 25 miles, so that it fits the two bytes of an answer or of a header: no
-- table holds a larger entry, and a blast of the pounds that number 8 lets pass does not reach so far.
-- Assumes nothing.
use Rattle.std.specs.Prelude.{ℕ, zero, suc, ◌+◌, ◌*◌, ◌^◌, ◌≤◌, ◌<◌, max, ◌≡◌, refl, List, [], ◌∷◌, map, Bool, leb, length, get_or, drop, Option, Some, None, IfSome, Result, Ok, Err}
use Rattle.std.proofs.Common.{zero-le, le_refl, mul-le-mul, arith, ap, subst, ⊎_elim, leb-true, take_all}
use Rattle.search.specs.PlaceLaws.{every_at}
use Rattle.search.specs.Laws.{clash, lt_or_ge}
use Rattle.units.specs.declared.Miles.{Miles}
use Rattle.refusals.specs.declared.Refusal.{Refusal}
use Rattle.rules.specs.Printed.{Mark, Line}
use Rattle.rules.specs.Rules.{distance, largest, in_use, from_column, closest_column, mile_limit, answered, mark_of, by_row, by_range}
use Rattle.rules.proofs.Laws.{in_use_mono, answered_distance}
use Rattle.dispersion.specs.declared.Ground.{Ground}
use Rattle.dispersion.specs.declared.Ground.TheVariants.{Rural, Urban}
use Rattle.dispersion.specs.Tables.{Table, ranges, grid, lines, unprinted, tables, entry_of, read_in, reading_of}
use Rattle.combustion.specs.Heats.{heat_of}
use Rattle.combustion.proofs.Laws.{heat_within}
use Rattle.blast.specs.Blast.{metres_of, ring_by, ring_of}
use Rattle.blast.proofs.Laws.{is_least}
use Rattle.scenario.specs.declared.ToxicCard.{ToxicCard}
use Rattle.scenario.specs.declared.Scenario.{Scenario}
use Rattle.scenario.specs.Plan.{plan_of}
use Rattle.fields.specs.declared.Fields.{Fields}
use Rattle.fields.specs.Layout.{fields_of}
use Rattle.seasons.specs.declared.Season.{Season}
use Rattle.seasons.specs.Seasons.{season_of}
use Rattle.meaning.specs.declared.Meaning.{Meaning}
use Rattle.meaning.specs.declared.Meaning.TheVariants as meaning
use Rattle.meaning.specs.Reading.{meaning_of}
use Rattle.meaning.specs.Ranges.{ranged}
use Rattle.meaning.specs.Inverse.{flammable_from}
use Rattle.card.specs.declared.Answer.{Answer}
use Rattle.card.specs.Answers.{read_toxic, planned_answer, answer_by, answer_of}
use Rattle.card.specs.Number.{stocked}
use Rattle.distances.specs.Limit.{Within, reach}

-- ---- a table: no distance that is read is above its largest entry

-- the largest entry of a table, whatever the row and the column
abbrev largest_in : Table → ℕ
largest_in (ranges table) = largest (map (λ range. distance (mark_of range)) table)
largest_in (grid rates endpoints rows) = largest (from_column 0 rows)
largest_in (lines table) = max (largest (map (entry_of Rural) table)) (largest (map (entry_of Urban) table))
largest_in unprinted = 0

-- an entry in use is one of some entries, and so no larger than all of them
in_use_largest : (entries : List ℕ) (place : ℕ) → in_use entries place ≤ largest entries
unfolding in_use
in_use_largest entries place =
    let all = ap largest (take_all (suc (place + length entries)) entries (omega arith)) in
    omega (arith, in_use_mono entries place (place + length entries) (omega arith), all)

-- of fewer entries the largest is no larger
largest_drop : (n : ℕ) (xs : List ℕ) → largest (drop n xs) ≤ largest xs
unfolding largest
largest_drop zero xs = le_refl (largest xs)
largest_drop (suc n) [] = le_refl 0
largest_drop (suc n) (d ∷ rest) = omega (arith, largest_drop n rest)

-- so it is in rows that are read from a later column on
largest_columns : (column : ℕ) (rows : List (List Mark)) → largest (from_column column rows) ≤ largest (from_column 0 rows)
unfolding largest from_column
largest_columns column [] = le_refl 0
largest_columns column (row ∷ rest) = omega (arith, largest_drop column (map distance row), largest_columns column rest)

-- and in the column of one ground
ground_within : (topography : Ground) (table : List Line) → largest (map (entry_of topography) table) ≤ largest_in (lines table)
ground_within Rural table = omega arith
ground_within Urban table = omega arith

-- what is answered is an entry in use
answered_among : (beyond : Bool) (entries : List ℕ) (place : ℕ) (d : Miles) → answered beyond (in_use entries place) ≡ Some d → d.0 ≤ largest entries
answered_among beyond entries place d e =
    omega (arith, answered_distance beyond (in_use entries place) d e, in_use_largest entries place)

read_within : (t : Table) (topography : Ground) (rate endpoint : ℕ) (d : Miles) → read_in t topography rate endpoint ≡ Some d → d.0 ≤ largest_in t
unfolding read_in by_range by_row
read_within (ranges table) topography rate endpoint d e = answered_among _ _ _ d e
read_within (grid rates endpoints rows) topography rate endpoint d e =
    omega (arith, answered_among _ _ _ d e, largest_columns (closest_column endpoint endpoints) rows)
read_within (lines table) topography rate endpoint d e = omega (arith, answered_among _ _ _ d e, ground_within topography table)
read_within unprinted topography rate endpoint d e = clash (cc)

-- all tables at once, by one test that computes
largest_within : (n : ℕ) → largest_in (get_or tables n unprinted) ≤ mile_limit
unfolding tables largest from_column distance mark_of
largest_within n =
    leb-true (largest_in (get_or tables n unprinted)) mile_limit
    (every_at (λ t. leb (largest_in t) mile_limit) tables unprinted refl refl n)

reading_within : (table : ℕ) (topography : Ground) (rate endpoint : ℕ) (d : Miles) → reading_of table topography rate endpoint ≡ Some d → d.0 ≤ mile_limit
unfolding reading_of
reading_within table topography rate endpoint d e =
    omega (arith, read_within (get_or tables table unprinted) topography rate endpoint d e, largest_within table)

-- ---- a blast: number 8 bounds its pounds, and Exhibit C-1 its heat

-- `reach` is enough metres for both at their most
metres_within : (pounds heat : ℕ) → pounds ≤ 10_000_000 → heat ≤ 150_000 → metres_of pounds heat ≤ reach
metres_within pounds heat p h =
    let need : 4_913 * pounds ≤ 49_130_000_000 = omega arith in
    ⊎_elim (λ (k : reach < metres_of pounds heat). absurd ((is_least pounds heat).no_smaller reach k (omega (arith, mul-le-mul need h))))
    (λ k. k)
    (lt_or_ge reach (metres_of pounds heat))

ring_within : (cas pounds : ℕ) → pounds ≤ 10_000_000 → (ring_of cas pounds).0 ≤ mile_limit
unfolding ring_of
ring_within cas pounds p = go (heat_of cas) (heat_within cas)
  where
    go : (heat : Option ℕ) → IfSome heat (λ hc. hc ≤ 150_000) → (ring_by pounds heat).0 ≤ mile_limit
    go None h = zero-le
    go (Some hc) h = omega (arith, metres_within pounds hc p h)

-- ---- an answer

toxic_within : (x : Option Miles) (number : ℕ) (season : Season) (s : Scenario) → ((d : Miles) → x ≡ Some d → d.0 ≤ mile_limit) → Within (read_toxic x number season s)
toxic_within (Some d) number season s h = h d refl
toxic_within None number season s h = tt

planned_within : (p : Option Scenario) (number : ℕ) (season : Season) (card : ToxicCard) → Within (planned_answer p number season card)
planned_within (Some s) number season card = toxic_within _ number season s (reading_within s.table card.topography s.rate.0 s.endpoint)
planned_within None number season card = tt

meaning_within : (f : Fields) (last : ℕ) (m : Meaning) (season : Season) (number : ℕ) → meaning_of f last ≡ Ok m → Within (answer_by m season number)
meaning_within f last (meaning.Toxic card) season number e = planned_within (plan_of card) number season card
meaning_within f last (meaning.Flammable card) season number e =
    ring_within card.cas card.quantity.0
    (omega (arith, (flammable_from f last e).quantity, (ranged f last (λ r q. clash (cc))).pounds))

pub answer_within : (card : List ℕ) (last : ℕ) → Within (answer_of card last)
answer_within card last = go (answer_of card last) refl
  where
    go : (x : Result Answer Refusal) → answer_of card last ≡ x → Within x
    go (Ok a) e =
        let s = stocked card last e in
        subst Within s.answered (meaning_within (fields_of card) last s.meaning (season_of card) (fields_of card).number s.means)
    go (Err r) e = tt

-- "two 2-byte distances" have room for it
pub distance_fits : (card : List ℕ) (last : ℕ) {a : Answer} → answer_of card last ≡ Ok a → a.distance.0 < 2 ^ 16
distance_fits card last e = omega (arith, subst Within e (answer_within card last))
