-- The answers to the goals of `file_edits::add_name`.
use Rattle.std.proofs.Common.{◌≡◌, Some, arith, rules}
use Rattle.base_edits.specs.declared.edit.Edit.{Edit}
use Rattle.go_ast.specs.SourceFile.{source_of}
use Rattle.refactor_rename.proofs.Editing.{end_push}
use Rattle.refactor_move.proofs.TokenEdits.{name_adds}
use Rattle.refactor_move.proofs.file_edits.add_name.Goals as goal

pub returns-in_ok-push-clause-order : goal.returns-in_ok-push-clause-order
returns-in_ok-push-clause-order c =
    let e : Edit = record { span = c.args.token.span; text = c.in_ok-clone.field-0 } in
    end_push c.args.edits.now.items c.push.new.self.items e c.args.token.span.start c.args.token.span.end c.in_ok-push.ensures.items c.requires.order
    (omega arith) c.requires.span (omega arith)

pub returns-in_ok-push-clause-adds : goal.returns-in_ok-push-clause-adds
returns-in_ok-push-clause-adds c =
    let of = c.args.of.now in
    let follows : of.moved.now.name ≡ Some c.in_ok-clone.field-0 = first_of (cc (c.in_ok-clone.ensures.cases), search rules) in
    name_adds of.path.now of.rank (source_of of.file.now) of.moved.now of.rows.now c.args.number c.args.token c.in_ok-clone.field-0 c.requires.at
    c.requires.is_name (c.is_package_name.ensures.0 c.if-is_package_name.true) follows c.args.edits.now.items c.push.new.self.items c.in_ok-push.ensures.items
