use Rattle.std.proofs.Common.{arith, sym, subst}
use Rattle.exhibits.specs.Laws.{Within}
use Rattle.exhibits.proofs.Laws.{within}
use Rattle.solutions.proofs.SolutionLaws.{solution_within}
use Rattle.fields.specs.declared.Fields.{Fields}
use Rattle.meaning.specs.Reading.{substance_of}
use Rattle.meaning.specs.States.{by_state}
use Rattle.meaning.proofs.toxic_meaning.Goals as goal

-- what the exhibits say of a substance is within document 01's limits, in whichever of them its state looks
entry_within : (f : Fields) → Within (substance_of f)
entry_within f = by_state f (λ x t. Within x) (λ _. solution_within f.cas f.heat) (λ _. within f.cas)

pub returns-clause-meaning_limits : goal.returns-clause-meaning_limits
returns-clause-meaning_limits c =
    record {
      quantity = omega (arith, c.in_ok-tenths.ensures.bounds_limits);
      entry = subst Within (sym c.substance_of-entry.ensures) (entry_within c.args.f);
    }
