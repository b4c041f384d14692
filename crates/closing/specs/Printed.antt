-- The lines that document 01 prints behind its three cards, and one of each other kind, byte by byte.
-- Assumes nothing.
use Rattle.std.specs.Prelude.{ℕ, ◌≡◌, refl, List, [], ◌∷◌, Some, None}
use Rattle.farthest.specs.Farthest.{leader}
use Rattle.decimal.specs.Decimal.{padded, digits_within, digits, fixed}
use Rattle.lines.specs.Lines.{miles_text}
use Rattle.closing.specs.Closing.{leader_line, refused_line, too_long}

-- what the definitions give
abbrev lines : List (List ℕ)
lines =
    (leader_line 84 (Some (leader 12 (record { 0 = 180 })))) ∷
    (leader_line 70 (Some (leader 13 (record { 0 = 20 })))) ∷
    (leader_line 84 None) ∷
    (refused_line 10 0) ∷
    too_long ∷ []

-- what is to be printed
abbrev printed : List (List ℕ)
printed =
    -- T 12 1.80
    (84 ∷ 32 ∷ 49 ∷ 50 ∷ 32 ∷ 49 ∷ 46 ∷ 56 ∷ 48 ∷ 10 ∷ []) ∷
    -- F 13 0.20
    (70 ∷ 32 ∷ 49 ∷ 51 ∷ 32 ∷ 48 ∷ 46 ∷ 50 ∷ 48 ∷ 10 ∷ []) ∷
    -- T none
    (84 ∷ 32 ∷ 110 ∷ 111 ∷ 110 ∷ 101 ∷ 10 ∷ []) ∷
    -- refused 10 at 0
    (114 ∷ 101 ∷ 102 ∷ 117 ∷ 115 ∷ 101 ∷ 100 ∷ 32 ∷ 49 ∷ 48 ∷ 32 ∷ 97 ∷ 116 ∷ 32 ∷ 48 ∷ 10 ∷ []) ∷
    -- too long
    (116 ∷ 111 ∷ 111 ∷ 32 ∷ 108 ∷ 111 ∷ 110 ∷ 103 ∷ 10 ∷ []) ∷ []

pub as_printed : lines ≡ printed
unfolding padded digits_within digits fixed miles_text leader_line refused_line
as_printed = refl
