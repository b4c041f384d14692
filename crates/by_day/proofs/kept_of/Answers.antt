-- `by_day::kept_of` meets its contract: the refusal of the header, or what is kept of the cards behind it.
-- Assumes nothing.
use Rattle.header.specs.InTurn.{in_turn}
use Rattle.cards.proofs.Laws.{good_count}
use Rattle.header.specs.Header.{enough}
use Rattle.by_day.proofs.Behind.{header_sent, cards_kept}
use Rattle.by_day.proofs.kept_of.Goals as goal

pub kept_through-requires : goal.kept_through-requires
kept_through-requires g c = good_count c.args.register.now enough c.header_of.result c.header_of.ensures.value c.in-Ok.field-0 c.in-Ok.is (in_turn c.cards_of.result) c.cards_of.ensures

pub returns-in-Err : goal.returns-in-Err
returns-in-Err g c = let z = header_sent g.K.Keeps.after c.args.from c.args.register.now c.header_of.result c.header_of.ensures.value c.in-Err.refusal c.in-Err.is in cc (z, c.into.ensures)

pub returns-in-Ok : goal.returns-in-Ok
returns-in-Ok g c = cards_kept g.K.Keeps.after c.args.from c.args.register.now c.header_of.result c.header_of.ensures.value c.in-Ok.field-0 c.in-Ok.is (in_turn c.cards_of.result) c.cards_of.ensures c.stored_of.result c.stored_of.ensures c.kept_through.result c.kept_through.ensures
