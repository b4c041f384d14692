-- `edit::edit` meets its contract: a bad header changes nothing, and a good one says how long a buffer of the code's own has to be.
-- Assumes nothing.
use Rattle.std.proofs.Common.{arith, rules}
use Rattle.header.specs.InTurn.{in_turn}
use Rattle.edit.proofs.Stages.{sent_length, left_refused, header_sent, ready, count_most}
use Rattle.edit.proofs.edit.Goals as goal

pub returns-in_err-count-clause-value : goal.returns-in_err-count-clause-value
returns-in_err-count-clause-value c =
    let q = c.in_err-count.was {u = tt} in
    let z = sent_length _ _ (header_sent c.args.buffer.now c.held.result.now c.held.ensures c.header_of.result c.header_of.ensures.value c.args.number c.args.wanted (in_turn c.args.brought) _ q) in search (z, rules)

pub returns-in_err-count-clause-buffer_after : goal.returns-in_err-count-clause-buffer_after
returns-in_err-count-clause-buffer_after c =
    let q = c.in_err-count.was {u = tt} in
    left_refused _ _ _ (sent_length _ _ (header_sent c.args.buffer.now c.held.result.now c.held.ensures c.header_of.result c.header_of.ensures.value c.args.number c.args.wanted (in_turn c.args.brought) _ q))

pub edit_by-requires : goal.edit_by-requires
edit_by-requires c =
    let q = c.in_ok-count.was {u = tt} in
    let z = ready c.args.buffer.now c.held.result.now c.held.ensures c.header_of.result c.header_of.ensures.value _ q 1_024 (omega arith) in search (z, rules)

pub edit_by-requires-2 : goal.edit_by-requires-2
edit_by-requires-2 c =
    let q = c.in_ok-count.was {u = tt} in
    let m = count_most c.args.buffer.now c.held.result.now c.held.ensures c.header_of.result c.header_of.ensures.value _ q in
    let z = ready c.args.buffer.now c.held.result.now c.held.ensures c.header_of.result c.header_of.ensures.value _ q 56_039 (omega (arith, m)) in search (z, rules)
