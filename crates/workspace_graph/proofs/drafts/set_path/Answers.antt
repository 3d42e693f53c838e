-- The tree is that of the file at the path.
use Rattle.std.proofs.Common.{Some, subst}
use Rattle.std.specs.Prelude.{IfSome, Option}
use Rattle.std.proofs.lemmas.Result.{on_ok_weaker}
use Rattle.go_ast.specs.SourceFile.{FileParts}
use Rattle.workspace_graph.specs.KnownEdits.{IsTreeOfPath}
use Rattle.workspace_graph.proofs.KnownEdits.{set_at_path}
use Rattle.workspace_graph.proofs.drafts.set_path.Goals as goal

pub returns-in-Some : goal.returns-in-Some
returns-in-Some c =
    let w = c.args.known.files.now in
    let path = c.args.path.now in
    let is = subst (λ (o : Option FileParts). IfSome o (IsTreeOfPath w path)) c.in-Some.is c.in_ok-made.ensures in
    on_ok_weaker c.set_parsed.result
    (λ sets. set_at_path w path c.in-Some.tree c.args.draft.now c.set_parsed.new.draft is c.requires.of_package sets) c.set_parsed.ensures
