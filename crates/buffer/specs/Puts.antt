-- What it is for a writer to write a text.
-- Assumes nothing.
use Rattle.std.specs.Prelude.{ℕ, ◌+◌, ◌≤◌, ◌≡◌, List, length}
use Rattle.buffer.specs.declared.Writer.{Writer}
use Rattle.buffer.specs.Wrote.{Wrote}

-- a writer has room for so many bytes
abbrev pub Room : Writer → ℕ → Type 0
Room w n = w.at + n ≤ length w.bytes.now

-- a writer that was `before` is `after`, in the same buffer: the text stands from the place where the writer was, up to the place
-- where it is now, and every other byte is as it was
pub record Puts (before after : Writer) (text : List ℕ) : Type 0 where
  pub same : after.bytes.ghost_name ≡ before.bytes.ghost_name
  pub long : length after.bytes.now ≡ length before.bytes.now
  pub wrote : Wrote before.bytes.now after.bytes.now before.at after.at text
