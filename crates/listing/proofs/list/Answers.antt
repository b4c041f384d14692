-- `listing::list` meets its contract: a buffer without room is kept; in any other stands the text, and behind it what was there.
-- Assumes nothing.
use Rattle.listing.proofs.Ends.{no_room, kept, long_listed, long_into, short_listed, short_into}
use Rattle.std.proofs.Common.{rules}
use Rattle.buffer.proofs.Laws.{lent}
use Rattle.listing.proofs.list.Goals as goal

pub returns-in_default : goal.returns-in_default
returns-in_default c = search (no_room, kept, rules)

pub returns-then-register-gt-LONGEST : goal.returns-then-register-gt-LONGEST
returns-then-register-gt-LONGEST c =
    let front = c.in-Some.ensures.cases in
    let line = c.put_too_long.ensures in
    record {
      value = long_listed _ _ front.enough front.same _ c.if-register-gt-LONGEST.true line.wrote.wrote;
      out_after = long_into _ _ front.enough front.same _ c.if-register-gt-LONGEST.true (lent line.wrote (search rules)) line.upper_bound;
      within = search rules;
    }

pub returns : goal.returns
returns c =
    let front = c.in-Some.ensures.cases in
    let text = c.put_listing.ensures in
    record {
      value = short_listed _ _ front.enough front.same _ c.if-register-gt-LONGEST.false text.wrote;
      out_after = short_into _ _ front.enough front.same _ c.if-register-gt-LONGEST.false text.wrote text.upper_bound;
      within = search rules;
    }
