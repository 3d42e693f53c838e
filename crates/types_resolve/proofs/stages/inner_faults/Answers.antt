-- The answers to the goals of `stages::inner_faults`.
use Rattle.types_declared.proofs.Stages.{same_listed}
use Rattle.std.proofs.Common.{map}
use Rattle.go_ast.specs.SourceFile.{source_of}
use Rattle.types_declared.specs.Laid.{laid_in}
use Rattle.types_resolve.specs.Stages.{IsInnerFault}
use Rattle.types_resolve.proofs.stages.inner_faults.Goals as goal

pub returns-clause-listed : goal.returns-clause-listed
returns-clause-listed g c =
    same_listed (IsInnerFault (map source_of c.args.files.now) (g.E.Exports.exported c.args.exports.now) (laid_in c.args.table.now))
    c.in_ok-found.found.items c.sort.new.found.items c.in_ok-found.ensures c.sort.ensures.same
