-- Document 02, A4: demand 1 of the call that tells the leaders after the first cards. It goes by the register's own conditions, with
-- an answer buffer that is enough, so that 4 never comes; how many cards are asked for changes nothing.
-- The theorem is `led_exactly` of proofs/Led.antt.
-- Assumes nothing.
use Rattle.std.specs.Prelude.{ℕ, ◌≡◌, List, Ok, Err}
use Rattle.refusals.specs.Numbers.{refused_at}
use Rattle.farthest.specs.declared.Leaders.{Leaders}
use Rattle.header.specs.Header.{enough}
use Rattle.prefix.specs.Prefix.{prefix_of}
use Rattle.conditions.specs.Conditions.{conditions_at}
use Rattle.conditions.specs.Claim.{ExactlyBy}

abbrev pub LedExactly : Type 0
LedExactly =
    (bytes : List ℕ) (k : ℕ)
    → ExactlyBy (conditions_at bytes enough)
    (λ r place. prefix_of bytes k ≡ Err (refused_at r place))
    ((l : Leaders) × (prefix_of bytes k ≡ Ok l))
