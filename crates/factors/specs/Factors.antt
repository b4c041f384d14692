-- Which column of Exhibit B-4 a liquid's temperature reads, and the factors that its pool reads there, as document 01 gives
-- them under 'Route and rate'.
-- Assumes nothing.
use Rattle.std.specs.Prelude.{ℕ, true, false, ℤ, pos, Option, Some, None}
use Rattle.std.specs.Int.Signed.{lt_z}
use Rattle.exhibits.specs.declared.Cell.{Cell}
use Rattle.exhibits.specs.declared.Cell.TheVariants.{Factor, Lfb, NoData}
use Rattle.exhibits.specs.declared.Liquid as liquids
use Rattle.factors.specs.declared.Column.{Column}
use Rattle.factors.specs.declared.Column.TheVariants.{At25, At30, At35, At40, At45, At50, Above}

-- "the closest column of B-4, the higher at a midpoint; 25 °C counts as a column of factor 1, and lower temperatures read
-- it"; above 50.0 °C no column is read. The columns stand at 25, 30, 35, 40, 45 and 50 °C, temperatures are in tenths.
unfoldable pub column_of : ℤ → Column
column_of t =
    elim (lt_z (pos 500) t) [
      | true ↦ Above
      | false ↦
          elim (lt_z t (pos 275)) [
            | true ↦ At25
            | false ↦
                elim (lt_z t (pos 325)) [
                  | true ↦ At30
                  | false ↦
                      elim (lt_z t (pos 375)) [
                        | true ↦ At35
                        | false ↦
                            elim (lt_z t (pos 425))
                            [ true ↦ At40 | false ↦ elim (lt_z t (pos 475)) [ true ↦ At45 | false ↦ At50 ] ]
                      ]
                ]
          ]
    ]

-- "LFA and the TCF of the closest column"; "Where B-4 prints LFB instead of a factor: LFB, TCF 1."
abbrev pub of_cell : ℕ → ℕ → Cell → Option (ℕ × ℕ)
of_cell lfa lfb (Factor f) = Some (lfa, f)
of_cell lfa lfb Lfb = Some (lfb, 100)
of_cell lfa lfb NoData = None

-- "State 4 above 50.0 °C: LFB, TCF 1. State 4 otherwise: LFA and the TCF of the closest column of B-4 .. 25 °C counts as a
-- column of factor 1"
abbrev pub factors_of : liquids.Liquid → Column → Option (ℕ × ℕ)
factors_of l At25 = Some (l.lfa, 100)
factors_of l At30 = of_cell l.lfa l.lfb l.corrections.at30
factors_of l At35 = of_cell l.lfa l.lfb l.corrections.at35
factors_of l At40 = of_cell l.lfa l.lfb l.corrections.at40
factors_of l At45 = of_cell l.lfa l.lfb l.corrections.at45
factors_of l At50 = of_cell l.lfa l.lfb l.corrections.at50
factors_of l Above = Some (l.lfb, 100)
