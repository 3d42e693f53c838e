-- One more folder: the package that it is, if it is one, is marked.
use Rattle.std.proofs.Common.{◌+◌, Bool, Global, Vec, take, sym, subst}
use Rattle.workspace_graph.specs.Borrows.{names}
use Rattle.build_carry.specs.Changes.{MarkFolders}
use Rattle.build_carry.proofs.ChangedFolders.{mark_one, mark_none}
use Rattle.build_carry.proofs.folders.folder_marks.Goals.{in-Some, in_default}
use Rattle.build_carry.proofs.folders.folder_marks.Goals as goal

pub loop-folder-preserved : goal.loop-folder-preserved
loop-folder-preserved c =
    let w = c.args.graph.now in
    let fs = c.args.folders.now in
    let i = c.loop-folder.folder-index in
    let old = c.loop-folder.marks.items in
    elim c.match-number_of.branch [
      | in-Some b ↦ subst (λ (ms : Vec Bool Global). MarkFolders w (names (take (i + 1) fs)) ms.items) (sym b.marks-is)
          (mark_one w fs i _ old c.loop-folder-test.true b.in-Some.number b.in-Some.ensures c.loop-folder.invariant)
      | in_default b ↦ subst (λ (ms : Vec Bool Global). MarkFolders w (names (take (i + 1) fs)) ms.items) (sym b.marks-is)
          (mark_none w fs i _ old c.loop-folder-test.true b.in_default.ensures c.loop-folder.invariant)
    ]
