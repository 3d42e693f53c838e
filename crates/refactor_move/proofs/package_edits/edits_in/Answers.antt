-- The answers to the goals of `package_edits::edits_in`.
use Rattle.std.proofs.Common.{◌∙◌}
use Rattle.go_ast.specs.SourceFile.{source_of}
use Rattle.refactor_move.proofs.NoEdits.{nothing_edited}
use Rattle.refactor_move.proofs.package_edits.edits_in.Goals as goal

pub returns-then-not-branch : goal.returns-then-not-branch
returns-then-not-branch c =
    nothing_edited c.args.of.now.path.now c.args.rank (source_of c.args.file.now) c.args.of.now.moved.now c.args.of.now.rows.now _
    (c.new-then-not-branch.ensures ∙ c.new.ensures.items) (c.in_ok-may_change.ensures c.if-not-branch.true)
