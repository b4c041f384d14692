-- How Reference Tables 1 to 12 are read, one definition for each sentence of document 01, "Which table, and how it is read".
-- Rates are in thousandths of a pound per minute, endpoints in hundred-thousandths of mg/L.
-- Assumes nothing.
use Rattle.std.specs.Prelude.{ℕ, suc, ◌+◌, ◌*◌, ◌-◌, max, List, [], ◌∷◌, map, Bool, true, false, leb, ltb, eqb, length, get_or, take, drop, Option, Some, None}
use Rattle.units.specs.declared.Miles.{Miles}
use Rattle.rules.specs.Printed.{Mark, miles, less, hash, more, star, stars, blank, Range, closed, above}

-- the distances that marks stand for: 0.1 mile and 25 miles
abbrev pub tenth_mile : ℕ
tenth_mile = 10

abbrev pub mile_limit : ℕ
mile_limit = 2500

-- "'<0.1' and '#' read 0.1 mile, '>25' and the marks for it 25 miles; the blank urban entries of Table 10 read 0.1.
-- Distances are held in hundredths of a mile."
unfoldable pub distance : Mark → ℕ
distance (miles d) = d
distance less = tenth_mile
distance hash = tenth_mile
distance blank = tenth_mile
distance more = mile_limit
distance star = mile_limit
distance stars = mile_limit

-- the largest of some entries
unfoldable pub largest : List ℕ → ℕ
largest [] = 0
largest (d ∷ rest) = max d (largest rest)

-- "An entry in use is the largest printed at no greater rate (or ratio) ..": of the entries by rising rate, the largest
-- up to a place
unfoldable pub in_use : List ℕ → ℕ → ℕ
in_use entries place = largest (take (suc place) entries)

-- ".. and, in Tables 5 to 8, no lower endpoint": of each row, the largest from a column on
unfoldable pub from_column : ℕ → List (List Mark) → List ℕ
from_column column rows = map (λ row. largest (drop column (map distance row))) rows

-- how far two numbers lie apart
unfoldable pub apart : ℕ → ℕ → ℕ
apart a b = (a - b) + (b - a)

-- by how much the smaller of two neighbours has to be closer to be read: "the larger at a midpoint" asks for one unit,
-- "the smaller at a midpoint" for none
unfoldable pub larger : ℕ
larger = 1

unfoldable pub smaller : ℕ
smaller = 0

-- the place of the closest among a and the numbers behind it, which rise: a, unless its neighbour is to be read
unfoldable pub closest_from : ℕ → ℕ → ℕ → List ℕ → ℕ
closest_from tie x a [] = 0
closest_from tie x a (b ∷ rest) =
    elim (leb (apart x a + tie) (apart x b)) [ true ↦ 0 | false ↦ suc (closest_from tie x b rest) ]

unfoldable pub closest : ℕ → ℕ → List ℕ → ℕ
closest tie x [] = 0
closest tie x (a ∷ rest) = closest_from tie x a rest

-- the rates of a table's rows in thousandths
unfoldable pub thousandths : List ℕ → List ℕ
thousandths rates = map (λ rate. 1000 * rate) rates

-- "Tables 5 to 12 take the closest rate row, the larger at a midpoint"
unfoldable pub closest_row : ℕ → List ℕ → ℕ
closest_row rate rates = closest larger rate (thousandths rates)

-- "Tables 5 to 8 also the closest endpoint column, the smaller at a midpoint"
unfoldable pub closest_column : ℕ → List ℕ → ℕ
closest_column endpoint endpoints = closest smaller endpoint endpoints

-- the last of some numbers
unfoldable pub last_of : List ℕ → ℕ
last_of numbers = get_or numbers (length numbers - 1) 0

-- "Above the last row, a last entry in use of 25 miles is answered; any other is refusal 11": whether the card lies
-- above the table's last row (or range), and the entry in use
unfoldable pub answered : Bool → ℕ → Option Miles
answered false entry = Some (record { 0 = entry })
answered true entry = elim (eqb entry mile_limit) [ true ↦ Some (record { 0 = entry }) | false ↦ None ]

-- a table of rows: their rates in lbs/min, and their entries as printed in the column that is read
unfoldable pub by_row : List ℕ → List ℕ → ℕ → Option Miles
by_row rates entries rate =
    answered (ltb (last_of (thousandths rates)) rate) (in_use entries (closest_row rate rates))

-- rate / endpoint lies below a bound, "compared exactly"
unfoldable pub ratio_below : ℕ → ℕ → ℕ → Bool
ratio_below rate endpoint bound = ltb (1000 * rate) (bound * endpoint)

-- "Tables 1 to 4 take the range holding rate / endpoint, ..; a shared bound belongs to the farther range": the first
-- range whose upper bound lies above it, or that has none
unfoldable pub holding : ℕ → ℕ → List Range → ℕ
holding rate endpoint [] = 0
holding rate endpoint (closed from upto mark ∷ rest) =
    elim (ratio_below rate endpoint upto) [ true ↦ 0 | false ↦ suc (holding rate endpoint rest) ]
holding rate endpoint (above from mark ∷ rest) = 0

unfoldable pub mark_of : Range → Mark
mark_of (closed from upto mark) = mark
mark_of (above from mark) = mark

-- "above a closed last range": the ratio is larger than the upper bound of the last range, which nobody shares
unfoldable pub past : ℕ → ℕ → List Range → Bool
past rate endpoint [] = true
past rate endpoint (above from mark ∷ rest) = false
past rate endpoint (closed from upto mark ∷ []) = ltb (upto * endpoint) (1000 * rate)
past rate endpoint (closed from upto mark ∷ (next ∷ rest)) = past rate endpoint (next ∷ rest)

-- "above a closed last range the same rule as above the last row holds"; at its upper bound the last range is read
unfoldable pub by_range : List Range → ℕ → ℕ → Option Miles
by_range table rate endpoint =
    answered
    (past rate endpoint table)
    (in_use (map (λ range. distance (mark_of range)) table) (holding rate endpoint table))
