-- A substance as a line of numbers: what is read back from the line of a solution, or of no substance, is what was kept.
-- Assumes nothing.
use Rattle.std.specs.Prelude.{ℕ, ◌≡◌, refl, Bool, true, false, eqb}
use Rattle.std.proofs.Common.{arith}
use Rattle.exhibits.specs.declared.Cell.{Cell}
use Rattle.exhibits.specs.declared.Cell.TheVariants.{Factor, Lfb, NoData}
use Rattle.exhibits.specs.declared.Plume.{Plume}
use Rattle.exhibits.specs.declared.Plume.TheVariants.{Neutral, Dense}
use Rattle.exhibits.specs.declared.Solution.{Solution}
use Rattle.exhibits.specs.declared.Toxic.{Toxic}
use Rattle.exhibits.specs.declared.Toxic.TheVariants.{OfGas, OfLiquid, OfSolution, OutOfRange, NotListed}
use Rattle.exhibits.specs.Exhibits.{alternative_plume}
use Rattle.exhibits.specs.Lines.{lfa_of, lfb_of, df_of, endpoint_of, corrections_of, dense_of}

-- the exhibits' line of a substance, in numbers: its kind, 1 for a gas of B-1, 2 for a liquid of B-2, 3 for a solution of B-3, 4 for
-- one above the highest concentration there, 0 for none; its factors; 1 for a dense plume, in the worst case and in the alternative
-- one; a cell of B-4 as a factor, 65534 for LFB or 65535 for no data
pub record Line : Type 0 where
  pub kind : ℕ
  pub lfa : ℕ
  pub lfb : ℕ
  pub df : ℕ
  pub endpoint : ℕ
  pub dense : ℕ
  pub alternative : ℕ
  pub at30 : ℕ
  pub at35 : ℕ
  pub at40 : ℕ
  pub at45 : ℕ
  pub at50 : ℕ

abbrev pub kind_of : Toxic → ℕ
kind_of (OfGas g) = 1
kind_of (OfLiquid l) = 2
kind_of (OfSolution s) = 3
kind_of OutOfRange = 4
kind_of NotListed = 0

abbrev pub plume_of : Toxic → Plume
plume_of (OfGas g) = g.plume
plume_of (OfLiquid l) = l.plume
plume_of (OfSolution s) = s.plume
plume_of OutOfRange = Neutral
plume_of NotListed = Neutral

-- a number as a plume
abbrev pub pick_plume : Bool → Plume
pick_plume true = Dense
pick_plume false = Neutral

abbrev pub plume_from : ℕ → Plume
plume_from n = pick_plume (eqb n 1)

-- a cell of B-4 as a number: the marks have numbers that no factor reaches
abbrev pub code_of : Cell → ℕ
code_of (Factor n) = n
code_of Lfb = 65534
code_of NoData = 65535

-- the line of a substance
abbrev pub line_of : Toxic → Line
line_of t = record {
  kind = kind_of t;
  lfa = lfa_of t;
  lfb = lfb_of t;
  df = df_of t;
  endpoint = endpoint_of t;
  dense = dense_of (plume_of t);
  alternative = dense_of (alternative_plume t);
  at30 = code_of (corrections_of t).at30;
  at35 = code_of (corrections_of t).at35;
  at40 = code_of (corrections_of t).at40;
  at45 = code_of (corrections_of t).at45;
  at50 = code_of (corrections_of t).at50;
}

-- the solution of a line
abbrev pub solution_from : Line → Solution
solution_from l = record {
  lfa = l.lfa;
  df = l.df;
  endpoint = l.endpoint;
  plume = plume_from l.dense;
  alternative = plume_from l.alternative;
}

plume_back : (p : Plume) → plume_from (dense_of p) ≡ p
plume_back Neutral = refl
plume_back Dense = refl

pub solution_back : (t : Toxic) → kind_of t ≡ 3 → OfSolution (solution_from (line_of t)) ≡ t
solution_back (OfGas g) k = absurd (omega arith)
solution_back (OfLiquid l) k = absurd (omega arith)
solution_back (OfSolution s) k =
    λ i. OfSolution (record {
      lfa = s.lfa;
      df = s.df;
      endpoint = s.endpoint;
      plume = plume_back s.plume i;
      alternative = plume_back s.alternative i;
    })
solution_back OutOfRange k = absurd (omega arith)
solution_back NotListed k = absurd (omega arith)

pub none_back : (t : Toxic) → kind_of t ≡ 0 → NotListed ≡ t
none_back (OfGas g) k = absurd (omega arith)
none_back (OfLiquid l) k = absurd (omega arith)
none_back (OfSolution s) k = absurd (omega arith)
none_back OutOfRange k = absurd (omega arith)
none_back NotListed k = refl
