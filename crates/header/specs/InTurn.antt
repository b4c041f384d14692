-- Several cards that stand one behind the other, as a list: each its bytes.
-- Assumes nothing.
use Rattle.std.specs.Prelude.{ℕ, ◌<◌, ◌≡◌, List, [], length, get_or}
use Rattle.std.specs.Simd.{first_chunks}
use Rattle.header.specs.declared.several.Cards.{Cards}

-- so many cards, each of so many bytes
unfoldable pub in_turn : Cards → List (List ℕ)
in_turn c = first_chunks c.size c.count c.bytes.now

-- each card has so many bytes
abbrev pub Sized : ℕ → List (List ℕ) → Type 0
Sized size cards = (i : ℕ) → i < length cards → length (get_or cards i []) ≡ size
