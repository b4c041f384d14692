-- What Exhibit B-3 says of a CAS number and a concentration (document 02, A3).
-- Assumes nothing.
use Rattle.std.specs.Prelude.{ℕ, max, Bool, true, false, List, [], ◌∷◌, map, leb, ltb, eqb}
use Rattle.search.specs.Places.{either, among}
use Rattle.exhibits.specs.declared.Toxic.{Toxic}
use Rattle.exhibits.specs.declared.Toxic.TheVariants.{OfSolution, OutOfRange, NotListed}
use Rattle.exhibits.specs.Printed.{SolutionLine, solution}
use Rattle.solutions.specs.PrintedB3.{b3}

-- the CAS number of a line, and its concentration
abbrev pub solution_cas : SolutionLine → ℕ
solution_cas (solution c t e a d p alt) = c

abbrev pub percent_of : SolutionLine → ℕ
percent_of (solution c t e a d p alt) = t

-- what a line of Exhibit B-3 says: "that LFA (at 1.5 m/s) and DF", with its endpoint, its worst-case and its alternative-case column
abbrev pub solution_in : SolutionLine → Toxic
solution_in (solution c t e a d p alt) = OfSolution (record { lfa = a; df = d; endpoint = e; plume = p; alternative = alt })

-- the lines of a substance, one for each concentration that is printed
unfoldable pub lines_of : ℕ → List SolutionLine → List SolutionLine
lines_of cas [] = []
lines_of cas (line ∷ rest) =
    elim (eqb cas (solution_cas line)) [ true ↦ line ∷ lines_of cas rest | false ↦ lines_of cas rest ]

-- a line that was found, or none
pub data Found : Type 0 where
  none : Found
  found : SolutionLine → Found

-- the one of lower concentration
abbrev pub lower : SolutionLine → Found → Found
lower line none = found line
lower line (found other) = elim (leb (percent_of line) (percent_of other)) [ true ↦ found line | false ↦ found other ]

-- "A concentration reads the lowest printed one not below it."
unfoldable pub lowest : ℕ → List SolutionLine → Found
lowest tenths [] = none
lowest tenths (line ∷ rest) =
    elim (leb tenths (percent_of line)) [ true ↦ lower line (lowest tenths rest) | false ↦ lowest tenths rest ]

-- "the highest printed", which is the substance's own; 0 where it has no line
unfoldable pub highest : List SolutionLine → ℕ
highest [] = 0
highest (line ∷ rest) = max (percent_of line) (highest rest)

-- 16: "concentration zero or above the highest printed"
unfoldable pub bad_percent : ℕ → ℕ → Bool
bad_percent cas tenths = either (eqb tenths 0) (ltb (highest (lines_of cas b3)) tenths)

abbrev pub line_read : Found → Toxic
line_read none = OutOfRange
line_read (found line) = solution_in line

-- unless the concentration is out of range
abbrev pub unless_out : Bool → Toxic → Toxic
unless_out true t = OutOfRange
unless_out false t = t

-- "State 5 is a solution of a B-3 substance": what is read at its concentration, that the substance is not listed, or that the
-- concentration is out of range
unfoldable pub solution_of : ℕ → ℕ → Toxic
solution_of cas tenths =
    elim (among cas (map solution_cas b3)) [
      | true ↦ unless_out (bad_percent cas tenths) (line_read (lowest tenths (lines_of cas b3)))
      | false ↦ NotListed
    ]
