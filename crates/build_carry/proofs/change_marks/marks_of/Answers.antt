-- The base, and the files of the change.
use Rattle.std.proofs.Common.{Bor, IfOk, List, ℕ, sym, ap, subst}
use Rattle.base_files.specs.Workspace.{Workspace}
use Rattle.workspace_graph.specs.Borrows.{names}
use Rattle.workspace_graph.specs.SameGoFiles.{DiffersOnlyAt}
use Rattle.build_carry.specs.Changes.{MarkChanges}
use Rattle.workspace_snapshot.specs.declared.change.Change.{Change}
use Rattle.build_carry.proofs.change_marks.marks_of.Goals as goal

pub marks_among-requires : goal.marks_among-requires
marks_among-requires c =
    let paths = names c.deref.result.now in
    let files = ap (λ (x : Change). x.files) (sym c.get.ensures) in
    subst (λ (w : Workspace). DiffersOnlyAt paths c.args.base.now w) files
    (subst (λ (v : Workspace). DiffersOnlyAt paths v c.args.change.now.files) c.requires
    (subst (λ (ps : List (Bor (List ℕ))). DiffersOnlyAt (names ps) c.args.change.now.base c.args.change.now.files) (sym c.deref.ensures.value)
    c.in_ok-paths.ensures))

pub returns-clause-before : goal.returns-clause-before
returns-clause-before c =
    subst (λ (w : Workspace). IfOk c.marks_among.result (λ marks. MarkChanges c.args.base.now w marks.before.items)) (ap (λ (x : Change). x.files)
    c.get.ensures)
    c.marks_among.ensures.before

pub returns-clause-after : goal.returns-clause-after
returns-clause-after c =
    subst (λ (w : Workspace). IfOk c.marks_among.result (λ marks. MarkChanges w c.args.base.now marks.after.items)) (ap (λ (x : Change). x.files) c.get.ensures)
    c.marks_among.ensures.after
