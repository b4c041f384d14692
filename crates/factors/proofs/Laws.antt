-- What other layers use of a pool's factors instead of their text.
-- Assumes nothing.
use Rattle.std.specs.Prelude.{ℕ, ◌≤◌, Option, Some, None}
use Rattle.std.proofs.Common.{arith}
use Rattle.exhibits.specs.declared.Cell.{Cell}
use Rattle.exhibits.specs.declared.Cell.TheVariants.{Factor, Lfb, NoData}
use Rattle.exhibits.specs.declared.Toxic.TheVariants as variants
use Rattle.exhibits.specs.declared.Liquid.{Liquid}
use Rattle.exhibits.specs.Laws.{Within, CellWithin}
use Rattle.factors.specs.declared.Column.{Column}
use Rattle.factors.specs.declared.Column.TheVariants.{At25, At30, At35, At40, At45, At50, Above}
use Rattle.factors.specs.Factors.{of_cell, factors_of}

-- the factors that a pool reads are within document 01's limits
abbrev pub FactorsWithin : Option (ℕ × ℕ) → Type 0
FactorsWithin (Some (lf, tcf)) = (lf ≤ 1_000_000) × (tcf ≤ 1_000)
FactorsWithin None = Unit {0}

cell_within : (lfa lfb : ℕ) (cell : Cell) → lfa ≤ 1_000_000 → lfb ≤ 1_000_000 → CellWithin cell → FactorsWithin (of_cell lfa lfb cell)
cell_within lfa lfb (Factor f) a b w = (a, w)
cell_within lfa lfb Lfb a b w = (b, omega arith)
cell_within lfa lfb NoData a b w = tt

pub factors_within : (l : Liquid) (k : Column) → Within (variants.OfLiquid l) → FactorsWithin (factors_of l k)
factors_within l At25 w = (w.lfa_limit, omega arith)
factors_within l At30 w = cell_within l.lfa l.lfb l.corrections.at30 w.lfa_limit w.lfb_limit w.at30_limit
factors_within l At35 w = cell_within l.lfa l.lfb l.corrections.at35 w.lfa_limit w.lfb_limit w.at35_limit
factors_within l At40 w = cell_within l.lfa l.lfb l.corrections.at40 w.lfa_limit w.lfb_limit w.at40_limit
factors_within l At45 w = cell_within l.lfa l.lfb l.corrections.at45 w.lfa_limit w.lfb_limit w.at45_limit
factors_within l At50 w = cell_within l.lfa l.lfb l.corrections.at50 w.lfa_limit w.lfb_limit w.at50_limit
factors_within l Above w = (w.lfb_limit, omega arith)
