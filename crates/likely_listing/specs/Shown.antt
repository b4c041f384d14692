-- What is shown of a likely scenario: for every card, rate and duration that is answered, the hundredths of a mile in its line are at least
-- the distance, and less than a hundredth of a mile above it.
-- Assumes nothing.
use Rattle.std.specs.Prelude.{ℕ, ◌+◌, ◌*◌, ◌≤◌, ◌<◌, Bool, Float}
use Rattle.std.specs.Float.Ieee.Exact.{HasValue}
use Rattle.interpolation.specs.declared.Likely.{Likely}
use Rattle.interpolation.specs.declared.Likely.TheVariants.{Printed, Interpolated, Limit}
use Rattle.float_text.specs.RoundedUp.{up_of}

-- where a float is a / c, with a sign or none: the whole number shown is at least a / c, and below a / c + 1
abbrev pub ShownRight : Float → Type 0
ShownRight x = (s : Bool) (a c : ℕ) → 0 < c → HasValue x s a c → (a ≤ up_of x * c) × (up_of x * c < a + c)

-- the distance of each case, whose line has `up_of` of it
abbrev pub Shown : Likely → Type 0
Shown (Printed x) = ShownRight x
Shown (Interpolated x) = ShownRight x
Shown (Limit x) = ShownRight x
