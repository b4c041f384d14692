-- The lines of a listing that are no card's, as text: lists of bytes in ASCII, as a card's line is (`lines/specs/Lines.antt`).
-- Assumes nothing.
use Rattle.std.specs.Prelude.{ℕ, Bool, true, false, List, [], ◌∷◌, ◌++◌, Option, Some, None}
use Rattle.farthest.specs.declared.Leader.{Leader}
use Rattle.decimal.specs.Decimal.{digits}
use Rattle.lines.specs.Lines.{spaced, ended, miles_text}

-- "then T and F lines with card and miles or `none`"; the letter is the line's first byte
unfoldable pub leader_line : ℕ → Option Leader → List ℕ
leader_line letter None = letter ∷ 32 ∷ 110 ∷ 111 ∷ 110 ∷ 101 ∷ 10 ∷ []
leader_line letter (Some lead) = letter ∷ 32 ∷ (spaced (digits lead.number) ++ miles_text lead.distance.0)

-- "a refusal prints `refused N at K`"
unfoldable pub refused_line : ℕ → ℕ → List ℕ
refused_line number place =
    (114 ∷ 101 ∷ 102 ∷ 117 ∷ 115 ∷ 101 ∷ 100 ∷ 32 ∷ []) ++ (digits number ++ ((32 ∷ 97 ∷ 116 ∷ 32 ∷ []) ++ ended (digits place)))

-- "prints `too long` and nothing else"
abbrev pub too_long : List ℕ
too_long = 116 ∷ 111 ∷ 111 ∷ 32 ∷ 108 ∷ 111 ∷ 110 ∷ 103 ∷ 10 ∷ []

-- what a program prints of an input that may be too long
abbrev pub unless_long : Bool → List ℕ → List ℕ
unless_long true text = too_long
unless_long false text = text
