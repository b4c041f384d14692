-- Demand 1 of the call that tells the leaders after the first cards, proved: its refusal is the register's own.
-- Assumes nothing.
use Rattle.std.specs.Prelude.{ℕ, ◌≡◌, List, Ok, Err}
use Rattle.refusals.specs.Numbers.{refused_at}
use Rattle.std.proofs.Common.{subst}
use Rattle.refusals.specs.declared.Refusal.{Refusal}
use Rattle.farthest.specs.declared.Leaders.{Leaders}
use Rattle.header.specs.Header.{enough}
use Rattle.cards.specs.Register.{outcome_of}
use Rattle.prefix.specs.Prefix.{prefix_of}
use Rattle.prefix.specs.Claim.{Keeps}
use Rattle.prefix.proofs.Kept.{keeps, accepted_first, refused_first}
use Rattle.conditions.specs.Led.{LedExactly}
use Rattle.conditions.proofs.Exactly.{refused_exactly}

module _ (bytes : List ℕ) (k : ℕ) where
  -- a refusal of the call is the register's, and its acceptance too
  refused_whole : (r : Refusal) (place : ℕ) → prefix_of bytes k ≡ Err (refused_at r place) → outcome_of bytes enough ≡ Err (refused_at r place)
  refused_whole r place e = subst (Keeps bytes k) e (keeps bytes k)

  accepted_whole : (l : Leaders) → prefix_of bytes k ≡ Ok l → (m : Leaders) × (outcome_of bytes enough ≡ Ok m)
  accepted_whole l e = (subst (Keeps bytes k) e (keeps bytes k)).0

pub led_exactly : LedExactly
led_exactly bytes k =
    let whole = refused_exactly bytes enough in (
      (λ r place. (
        (λ e. (whole.0 r place).0 (refused_whole bytes k r place e)),
        (λ f. refused_first bytes k r place ((whole.0 r place).1 f)),
      )),
      (
        (λ a. whole.1.0 (accepted_whole bytes k a.0 a.1)),
        (λ n. let a = whole.1.1 n in (_, accepted_first bytes k a.1)),
      ),
    )
