-- The marks of both workspaces.
use Rattle.workspace_graph.specs.Borrows.{names}
use Rattle.build_carry.proofs.ChangedFolders.{marks_before, marks_after}
use Rattle.build_carry.proofs.change_marks.marks_by.Goals as goal

pub returns-clause-before : goal.returns-clause-before
returns-clause-before c =
    marks_before c.args.before.now c.args.after.now (names c.args.changed.now) c.in_ok-closure_marks.field-0.items c.requires c.in_ok-closure_marks.ensures

pub returns-clause-after : goal.returns-clause-after
returns-clause-after c =
    marks_after c.args.before.now c.args.after.now (names c.args.changed.now) c.in_ok-closure_marks-2.field-0.items c.requires c.in_ok-closure_marks-2.ensures
