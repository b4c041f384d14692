use Rattle.release.proofs.Laws.{ten_minutes}
use Rattle.release.proofs.at_most_ten_minutes.Goals as goal

pub returns : goal.returns
returns c = ten_minutes c.args.quantity.0 c.args.rate.0
