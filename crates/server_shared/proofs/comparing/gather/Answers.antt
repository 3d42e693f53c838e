-- The seat's receipts were added, or dropped for want of memory.
use Rattle.server_shared.proofs.GatheredLaws.{gathered_handed, gathered_length, gathered_whole}
use Rattle.server_shared.proofs.comparing.gather.Goals as goal

pub returns-clause-handed : goal.returns-clause-handed
returns-clause-handed g c =
    gathered_handed g.L.Opening.accounts c.args.handed.now.items c.add_held.new.handed.items c.args.seat
    (rw c.into_parts-share.ensures.receipts at c.add_held.ensures) c.requires.handed c.requires.known

pub returns-clause-bound : goal.returns-clause-bound
returns-clause-bound g c =
    gathered_length c.args.handed.now.items c.add_held.new.handed.items c.args.seat (rw c.into_parts-share.ensures.receipts at c.add_held.ensures)

pub returns-clause-whole : goal.returns-clause-whole
returns-clause-whole g c =
    gathered_whole c.args.handed.now.items c.add_held.new.handed.items c.args.seat (rw c.into_parts-share.ensures.receipts at c.add_held.ensures)
