use Rattle.release.proofs.Laws.{product_below}
use Rattle.release.specs.Rates.{pool_rate}
use native.Mathlib.Omega.{arith}
use Rattle.release.proofs.pool_rate.Goals as goal

pub overflow_mul-product : goal.overflow_mul-product
overflow_mul-product c = let b = product_below c.args.lf c.args.tcf c.args.area.0 c.requires.lf_bound c.requires.tcf_bound c.requires.area_bound in omega arith

pub overflow_mul-product-2 : goal.overflow_mul-product-2
overflow_mul-product-2 c = let b = product_below c.args.lf c.args.tcf c.args.area.0 c.requires.lf_bound c.requires.tcf_bound c.requires.area_bound in omega arith

pub overflow_mul-product-3 : goal.overflow_mul-product-3
overflow_mul-product-3 c = let b = product_below c.args.lf c.args.tcf c.args.area.0 c.requires.lf_bound c.requires.tcf_bound c.requires.area_bound in omega arith

pub overflow_add-result : goal.overflow_add-result
overflow_add-result c = let b = product_below c.args.lf c.args.tcf c.args.area.0 c.requires.lf_bound c.requires.tcf_bound c.requires.area_bound in omega arith

pub overflow_add-result-else-shed : goal.overflow_add-result-else-shed
overflow_add-result-else-shed c = let b = product_below c.args.lf c.args.tcf c.args.area.0 c.requires.lf_bound c.requires.tcf_bound c.requires.area_bound in omega arith

pub returns-then-shed : goal.returns-then-shed
unfolding pool_rate
returns-then-shed c = rw c.if-shed.true (omega arith)

pub returns-else-shed : goal.returns-else-shed
unfolding pool_rate
returns-else-shed c = rw c.if-shed.false (omega arith)
