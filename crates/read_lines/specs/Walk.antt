-- The second walk of the code over the lines of a text, as it goes: it lays the cards. It serves the proofs; what a text is stands in
-- `comma/specs/Text.antt`, and the laws beside this file join the two.
-- Assumes nothing.
use Rattle.std.specs.Prelude.{ℕ, List}
use Rattle.std.proofs.lemmas.List.Edits.{sets}
use Rattle.comma.specs.Text.{Cards, cards, bad, bytes_of}

-- the cards that are left, from a place in the buffer on
abbrev pub laid_from : ℕ → Cards → List ℕ → List ℕ
laid_from at (cards xs) out = sets out at (bytes_of xs)
laid_from at (bad k) out = out
