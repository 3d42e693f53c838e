-- One chunk goes behind the old one, and the other in its place.
use Rattle.std.proofs.Common.{ap, ◌∙◌, set, arith}
use Rattle.base_chunks.proofs.Joining.{two_at}
use Rattle.base_chunks.proofs.chunks.put_two.Goals as goal

pub returns-clause-ok : goal.returns-clause-ok
returns-clause-ok g c =
    ap (λ cs. set cs c.args.at c.args.first) c.in_ok-insert.ensures.items
    ∙ two_at c.args.chunks.now.items c.args.at c.args.first c.args.second (omega (arith, c.args.chunks.now.ok.0))
