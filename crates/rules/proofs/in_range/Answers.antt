-- `rules::in_range` meets its contract: a rate is below `reaching` of a bound exactly where it does not reach the bound.
-- Assumes nothing.
use Rattle.std.proofs.Common.{rules, arith, ℕ, List, suc, ◌+◌, ◌*◌, ◌/◌, ◌≤◌, ◌<◌, length, get_or}
use Rattle.rules.proofs.Scaled.{scaled_place}
use Rattle.rules.proofs.in_range.Goals as goal

pub returns : goal.returns
returns c =
    let bounds : List ℕ = c.args.bounds.now in
    let r : ℕ = c.unwrap_or.result in
    let within : r ≤ length bounds = search rules in
    let below : (k : ℕ) → k < r → (get_or bounds k 0 * c.args.endpoint + 999) / 1000 ≤ c.args.rate = search rules in
    let here : r < length bounds → c.args.rate < (get_or bounds r 0 * c.args.endpoint + 999) / 1000 = search rules in
    rw (scaled_place (suc (1000 * c.args.rate)) c.args.endpoint bounds r within (λ k l. omega (arith, below k l)) (λ l. omega (arith, here l)))
