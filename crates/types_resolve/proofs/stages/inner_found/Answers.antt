-- The answers to the goals of `stages::inner_found`.
use Rattle.std.proofs.Common.{map}
use Rattle.types_declared.proofs.Stages.{listed_then}
use Rattle.go_ast.specs.SourceFile.{source_of}
use Rattle.types_resolve.specs.Scoping.{IsUnknownFault}
use Rattle.types_declared.specs.Laid.{laid_in}
use Rattle.types_resolve.specs.Stages.{IsOwnFault}
use Rattle.types_resolve.proofs.stages.inner_found.Goals as goal

pub returns : goal.returns
returns g c =
    let p = laid_in c.args.table.now in
    let files = map source_of c.args.files.now in
    listed_then (IsOwnFault files p) (IsUnknownFault files (g.E.Exports.exported c.args.exports.now) p) c.in_ok-found.found.items
    c.add_unknowns.new.found.items c.in_ok-found.ensures c.in_ok-add_unknowns.ensures
