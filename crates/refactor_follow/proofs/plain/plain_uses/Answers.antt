-- The answers to the goals of `plain::plain_uses`.
use Rattle.std.proofs.Common.{List, sym, subst}
use Rattle.std.specs.Prelude.{IfSome}
use Rattle.types_expr.proofs.Equations.{ok_map}
use Rattle.go_ast.specs.SourceFile.{SourceFile}
use Rattle.refs_binding.specs.Workspaces.{known_in}
use Rattle.refactor_move.proofs.Naming.{files_are}
use Rattle.refactor_follow.specs.PlainPackages.{ArePlainMarks}
use Rattle.refactor_follow.proofs.MarkedRows.{some_map}
use Rattle.refactor_follow.proofs.plain.plain_uses.Goals as goal

pub returns-in-Some : goal.returns-in-Some
returns-in-Some c =
    let w = c.args.at.workspace.now.graph in
    let known = known_in c.args.at.workspace.now.findings in
    let path = c.args.new.path.now in
    let name = c.args.new.name.now in
    ok_map c.plain_marks.result
    (λ found. some_map found (λ rows marks p is. record {
      lists = c.qualified_of-lists.result.now;
      are_qualified = c.qualified_of-lists.ensures p is;
      marks =
          subst (λ (fs : List SourceFile). ArePlainMarks c.qualified_of-lists.result.now fs path name rows.items)
          (sym (files_are w known p is.is_package c.trees-files.result.now (c.trees-files.ensures p.path is.has_number))) marks;
    })) c.plain_marks.ensures
