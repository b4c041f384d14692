-- What it is to write a text, a list of bytes, into a buffer.
-- Assumes nothing.
use Rattle.std.specs.Prelude.{ℕ, ◌+◌, ◌≡◌, List, length}
use Rattle.std.proofs.lemmas.List.Edits.{sets}

-- a buffer that held `before` holds `after`: the text stands from `at` on, up to `next`, and every other byte is as it was
pub record Wrote (before after : List ℕ) (at next : ℕ) (text : List ℕ) : Type 0 where
  pub place : next ≡ at + length text
  pub bytes : after ≡ sets before at text
