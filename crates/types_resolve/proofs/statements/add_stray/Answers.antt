-- The answers to the goals of `statements::add_stray`.
use Rattle.std.proofs.Common.{ap, sym}
use Rattle.types_declared.proofs.ItemFaults.{call_one}
use Rattle.types_declared.specs.Laid.{laid_in}
use Rattle.types_resolve.specs.StatementMarks.{Stray, stray, IsFaultOfMark}
use Rattle.types_resolve.proofs.statements.add_stray.Goals as goal

pub returns : goal.returns
returns c =
    call_one (IsFaultOfMark (laid_in c.args.scope.table.now) c.args.scope.rank) c.args.found.now.items c.push.new.found.items (Stray c.args.at)
    (stray c.args.in_for c.args.at) c.push.result c.push.ensures
    (ap (λ v. stray v c.args.at) (sym c.if-in_for.false))
