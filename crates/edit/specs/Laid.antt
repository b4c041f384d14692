-- What stands between the stages of an edit: what is in its way, what is known of the cards around a number once they are walked over, and
-- what a buffer of the code's own holds. It serves the proofs.
-- Assumes nothing.
use Rattle.std.specs.Prelude.{ℕ, ◌+◌, ◌≤◌, ◌≡◌, Bool, true, false, List, length, take, Option, Result, Ok, Err}
use Rattle.refusals.specs.declared.Refusal.TheVariants as refusal
use Rattle.refusals.specs.declared.SentBack.{SentBack}
use Rattle.refusals.specs.Numbers.{refused_at}
use Rattle.farthest.specs.declared.Leaders.{Leaders}
use Rattle.header.specs.declared.Stored.{Stored}
use Rattle.header.specs.Header.{count_of, size_of, header_of, enough}
use Rattle.running.specs.declared.Running.{Running}
use Rattle.running.specs.Running.{before_cards}
use Rattle.cards.specs.Register.{cards_from, settled, result_of}
use Rattle.edits.specs.Edits.{edit_layout, changed, after_old}
use Rattle.edit_walk.specs.Parts.{part_of, leads_behind}

-- a good header, and room in a buffer of the code's own for a register of a card more, at version 3
abbrev pub Ready : List ℕ → ℕ → Type 0
Ready register room = (header_of register enough ≡ Ok (count_of register)) × (size_of edit_layout (count_of register + 1) ≤ room)

-- what becomes of the cards of a register that stores these distances
abbrev pub change_of : Option Stored → ℕ → Bool → List (List ℕ) → List (List ℕ) → ℕ → Result (List ℕ) (SentBack ℕ)
change_of stored n wanted brought cards room =
    after_old (result_of (settled stored (cards_from 0 0 cards))) (changed n wanted brought cards room)

-- 19, then 20
abbrev pub way_of : Bool → Bool → Result Unit (SentBack ℕ)
way_of true capacity = Err (refused_at refusal.Presence 0)
way_of false true = Err (refused_at refusal.Capacity 0)
way_of false false = Ok tt

-- the cards in front came to these running values, and those behind have these leads wherever what is brought ends
abbrev pub Known : List (List ℕ) → List (List ℕ) → List (List ℕ) → Running → Leaders → Type 0
Known front brought behind t l = (part_of before_cards front ≡ Ok t) × ((u : Running) → part_of t brought ≡ Ok u → leads_behind u behind ≡ Ok l)

-- a register that is laid stands at the start of the buffer, and is no longer than this
abbrev pub LaidIn : List ℕ → ℕ → Result (List ℕ) (SentBack ℕ) → Type 0
LaidIn own most (Ok register) = (take (length register) own ≡ register) × (length register ≤ length own) × (length register ≤ most)
LaidIn own most (Err sent) = Unit {0}
