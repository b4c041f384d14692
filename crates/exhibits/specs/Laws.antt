-- What other crates say by it; the laws are in proofs/Laws.antt.
-- Assumes nothing.
use Rattle.std.specs.Prelude.{◌≤◌}
use Rattle.exhibits.specs.declared.Cell.{Cell}
use Rattle.exhibits.specs.declared.Cell.TheVariants.{Factor, Lfb, NoData}
use Rattle.exhibits.specs.declared.Toxic.{Toxic}
use Rattle.exhibits.specs.Lines.{lfa_of, lfb_of, df_of, corrections_of}

-- "TCF the temperature factor of Exhibit B-4 (at most 10, hundredths)"
abbrev pub CellWithin : Cell → Type 0
CellWithin (Factor n) = n ≤ 1000
CellWithin Lfb = Unit {0}
CellWithin NoData = Unit {0}

-- "DF is the density factor (at most 2, two decimals), LFA and LFB the liquid factors at 25 °C and at boiling (at most 1, held in millionths)"
pub record Within (t : Toxic) : Type 0 where
  pub lfa_limit : lfa_of t ≤ 1000000
  pub lfb_limit : lfb_of t ≤ 1000000
  pub df_limit : df_of t ≤ 200
  pub at30_limit : CellWithin (corrections_of t).at30
  pub at35_limit : CellWithin (corrections_of t).at35
  pub at40_limit : CellWithin (corrections_of t).at40
  pub at45_limit : CellWithin (corrections_of t).at45
  pub at50_limit : CellWithin (corrections_of t).at50
