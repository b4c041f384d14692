-- The numbers of document 01's "When a register is sent back", and those that document 02 adds.
-- Assumes nothing.
use Rattle.std.specs.Prelude.{ℕ}
use Rattle.refusals.specs.declared.SentBack.{SentBack}
use Rattle.refusals.specs.declared.Refusal.{Refusal}
use Rattle.refusals.specs.declared.Refusal.TheVariants as refusal

abbrev pub number_of : Refusal → ℕ
number_of refusal.Length = 1
number_of refusal.Version = 2
number_of refusal.Count = 3
number_of refusal.Buffer = 4
number_of refusal.Number = 5
number_of refusal.Form = 6
number_of refusal.Unlisted = 7
number_of refusal.Quantity = 8
number_of refusal.Area = 9
number_of refusal.Mismatch = 10
number_of refusal.Beyond = 11
-- document 02, A1
number_of refusal.Line = 12
number_of refusal.Room = 13
-- A2; 9 "becomes area only"
number_of refusal.Wall = 14
number_of refusal.Temperature = 15
-- A3
number_of refusal.Concentration = 16
-- A6
number_of refusal.SuppliedRate = 17
number_of refusal.SuppliedDuration = 18
-- A9
number_of refusal.Presence = 19
number_of refusal.Capacity = 20
-- A10
number_of refusal.Day = 21

-- "A refusal carries its number and the card's place"
abbrev pub refused_at : {Place : Type 0} → Refusal → Place → SentBack Place
refused_at r place = record { refusal = r; place = place }
