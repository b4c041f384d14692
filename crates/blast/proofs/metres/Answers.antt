use native.Mathlib.Omega.{arith}
use borrow.Author.Count.{below_none}
use Rattle.blast.proofs.Halving.{need_within, square_fits, cube_fits, product_fits, too_small, large_enough, met}
use Rattle.blast.proofs.metres.Goals as goal
use Rattle.blast.proofs.metres.Goals.{then-last-need, else-last-need}

pub overflow_mul-need-2 : goal.overflow_mul-need-2
overflow_mul-need-2 c = omega (arith, need_within c.args.pounds c.args.heat (omega arith) (omega arith))

pub loop-span-init : goal.loop-span-init
loop-span-init c = (omega arith, omega (arith, need_within c.args.pounds c.args.heat (omega arith) (omega arith)), below_none _)

pub overflow_add-next : goal.overflow_add-next
overflow_add-next c = omega arith

pub overflow_add-next-in-loop-span : goal.overflow_add-next-in-loop-span
overflow_add-next-in-loop-span c = omega arith

pub overflow_sub-last : goal.overflow_sub-last
overflow_sub-last c = omega arith

pub overflow_mul-last : goal.overflow_mul-last
overflow_mul-last c = square_fits _ (omega arith)

pub overflow_mul-last-in-loop-span : goal.overflow_mul-last-in-loop-span
overflow_mul-last-in-loop-span c = cube_fits _ (omega arith)

pub overflow_mul-last-in-loop-span-2 : goal.overflow_mul-last-in-loop-span-2
overflow_mul-last-in-loop-span-2 c = product_fits _ (omega arith)

pub loop-span-smaller : goal.loop-span-smaller
loop-span-smaller c = omega arith

pub loop-span-preserved : goal.loop-span-preserved
loop-span-preserved c =
    let inv = c.loop-span.invariant in
    elim c.if-last-need.branch [
      | then-last-need w ↦ too_small _ _ _ _ _ inv w.low-is (omega (arith, w.low-is)) w.if-last-need.true
      | else-last-need w ↦ large_enough _ _ _ _ _ inv w.low-is (omega arith) w.if-last-need.false
    ]

pub returns : goal.returns
returns c = record {
  value = met _ _ _ c.loop-span.span (omega arith) c.loop-span.invariant;
  upper_bound = omega arith;
}
