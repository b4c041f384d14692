-- From the fields of a card to its meaning or a refusal, in the order of the checks: 5, 6, 7, 8, 9, 14, 15 or 16. The ranges
-- of its numbers, 8, 9, 14, 15 and 16, are in the crate `ranges`.
-- Assumes nothing.
use Rattle.std.specs.Prelude.{ℕ, Bool, true, false, not, leb, eqb, Result, Ok, Err}
use Rattle.scenario.specs.declared.Tenths.{Tenths}
use Rattle.search.specs.Places.{either}
use Rattle.exhibits.specs.declared.Toxic.{Toxic}
use Rattle.exhibits.specs.declared.Toxic.TheVariants.{OfGas, OfLiquid, OfSolution, OutOfRange, NotListed}
use Rattle.exhibits.specs.Exhibits.{toxic_of}
use Rattle.solutions.specs.Solutions.{solution_of}
use Rattle.combustion.specs.Heats.{is_flammable}
use Rattle.scenario.specs.Plan.{Limits}
use Rattle.fields.specs.declared.Fields.{Fields}
use Rattle.refusals.specs.declared.Refusal.{Refusal}
use Rattle.refusals.specs.declared.Refusal.TheVariants as refusal
use Rattle.form.specs.declared.Standing.{Standing}
use Rattle.form.specs.declared.Shape.{Shape}
use Rattle.form.specs.declared.Shape.TheVariants as shape
use Rattle.form.specs.Form.{shape_of}
use Rattle.ranges.specs.Ranges.{bad_pounds, bounds_of}
use Rattle.meaning.specs.declared.Meaning.{Meaning}
use Rattle.meaning.specs.declared.Meaning.TheVariants as meaning

-- 5: "card number zero or not above the last"
unfoldable pub bad_number : ℕ → ℕ → Bool
bad_number number last = either (eqb number 0) (leb number last)

-- what the exhibits say of a toxic card: "in state 5 number 7 looks in B-3"
unfoldable pub substance_of : Fields → Toxic
substance_of f = elim (eqb f.state 5) [ true ↦ solution_of f.cas f.heat | false ↦ toxic_of f.cas ]

-- 7: "CAS number not listed for the kind", then the ranges
abbrev pub toxic_bounded : Result Tenths Refusal → Fields → Toxic → Standing → Result Meaning Refusal
toxic_bounded (Ok t) f entry standing =
    Ok (meaning.Toxic (record {
      cas = f.cas;
      entry = entry;
      state = standing.state;
      topography = standing.topography;
      quantity = record { 0 = f.pounds };
      tenths = t;
      containment = standing.containment;
    }))
toxic_bounded (Err r) f entry standing = Err r

abbrev pub is_listed : Toxic → Bool
is_listed (OfGas g) = true
is_listed (OfLiquid l) = true
is_listed (OfSolution s) = true
is_listed OutOfRange = true
is_listed NotListed = false

-- a check that refuses where its condition holds
abbrev pub meaning_if : Bool → Refusal → Result Meaning Refusal → Result Meaning Refusal
meaning_if true r further = Err r
meaning_if false r further = further

unfoldable pub toxic_meaning : Toxic → Fields → Standing → Result Meaning Refusal
toxic_meaning entry f standing =
    meaning_if (not (is_listed entry)) refusal.Unlisted (toxic_bounded (bounds_of entry f) f entry standing)

unfoldable pub flammable_of : Fields → Result Meaning Refusal
flammable_of f =
    meaning_if (not (is_flammable f.cas)) refusal.Unlisted
    (meaning_if (bad_pounds f.pounds) refusal.Quantity
    (Ok (meaning.Flammable (record { cas = f.cas; quantity = record { 0 = f.pounds } }))))

abbrev pub shaped : Result Shape Refusal → Fields → Result Meaning Refusal
shaped (Ok (shape.Toxic standing)) f = toxic_meaning (substance_of f) f standing
shaped (Ok shape.Flammable) f = flammable_of f
shaped (Err r) f = Err r

-- "A card is taken apart into a meaning or a refusal before anything else is done with it."
unfoldable pub meaning_of : Fields → ℕ → Result Meaning Refusal
meaning_of f last = meaning_if (bad_number f.number last) refusal.Number (shaped (shape_of f) f)

-- what a meaning keeps of document 01's limits
abbrev pub MeaningLimits : Result Meaning Refusal → Type 0
MeaningLimits (Ok (meaning.Toxic card)) = Limits card
MeaningLimits (Ok (meaning.Flammable card)) = Unit {0}
MeaningLimits (Err r) = Unit {0}
