-- The first walk of the code over the lines of a text, as it goes: it counts the lines. It serves the proofs; what a text is stands in
-- `comma/specs/Text.antt`, and the laws beside this file join the two.
-- Assumes nothing.
use Rattle.std.specs.Prelude.{ℕ, ◌+◌, length, Result, Ok, Err}
use Rattle.comma.specs.Text.{Cards, cards, bad}

-- so many lines before, and those that are left
abbrev pub count_from : ℕ → Cards → Result ℕ ℕ
count_from n (cards xs) = Ok (n + length xs)
count_from n (bad k) = Err k
