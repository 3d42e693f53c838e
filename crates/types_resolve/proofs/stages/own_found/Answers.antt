-- The answers to the goals of `stages::own_found`.
use Rattle.std.proofs.Common.{subst, map}
use Rattle.types_declared.specs.Listing.{AddsFaults}
use Rattle.types_declared.proofs.Stages.{both_listed}
use Rattle.go_ast.specs.SourceFile.{source_of}
use Rattle.types_resolve.specs.Scoping.{IsScopeFault}
use Rattle.types_declared.specs.Laid.{laid_in}
use Rattle.types_resolve.specs.StatementMarks.{IsMarkFault}
use Rattle.types_resolve.proofs.stages.own_found.Goals as goal

pub returns : goal.returns
returns c =
    let P = IsScopeFault (laid_in c.args.table.now) in
    let Q = IsMarkFault (map source_of c.args.files.now) (laid_in c.args.table.now) in
    both_listed P Q c.add_scopes.new.found.items c.add_marks.new.found.items
    (subst (λ z. AddsFaults z c.add_scopes.new.found.items P) c.new-found.ensures.items c.in_ok-add_scopes.ensures) c.in_ok-add_marks.ensures
