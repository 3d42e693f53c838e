-- The store was cut to the records of the book. Where there are none it has the heading.
use Rattle.std.proofs.Common.{arith}
use Rattle.server_journal.specs.declared.opened.TheConstants.{HEADING}
use Rattle.server_journal.proofs.Lossless.{begins_with_heading, begins_with_records}
use Rattle.server_journal.proofs.beginning.keep_behind.Goals as goal

pub returns-then-whole-gt0 : goal.returns-then-whole-gt0
returns-then-whole-gt0 g c =
    begins_with_records HEADING.now c.args.whole (g.S.Store.holds c.args.store) (g.S.Store.holds c.in_ok-kept.kept.store) c.in_ok-kept.kept.is_lost
    c.if-whole-gt0.true c.in_ok-kept.ensures.1 c.in_ok-kept.ensures.0

pub returns : goal.returns
returns g c =
    begins_with_heading HEADING.now c.args.whole (g.S.Store.holds c.args.store) (g.S.Store.holds c.in_ok-kept.kept.store)
    (g.S.Store.holds c.add_heading.new.kept.store) c.add_heading.new.kept.is_lost (omega arith) c.in_ok-add_heading.ensures.unlost c.in_ok-kept.ensures.0
    c.in_ok-add_heading.ensures.grows c.in_ok-add_heading.ensures.fits
