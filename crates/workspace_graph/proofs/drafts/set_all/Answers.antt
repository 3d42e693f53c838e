-- One more path, and all of them at the end.
use Rattle.std.proofs.Common.{List, Bor, ℕ, subst, sym, arith, take}
use Rattle.std.specs.List.Sorted.{IsStrictlySortedBy}
use Rattle.std.proofs.lemmas.List.{take_all}
use Rattle.base_files.specs.Workspace.{path_cmp}
use Rattle.workspace_graph.specs.Drafts.{SetsFiles}
use Rattle.workspace_graph.specs.Borrows.{names}
use Rattle.workspace_graph.proofs.ChangedFiles.{names_more}
use Rattle.workspace_graph.proofs.SetFiles.{sets_more, sets_none}
use Rattle.workspace_graph.proofs.drafts.set_all.Goals as goal

pub loop-path-init : goal.loop-path-init
loop-path-init c = sets_none c.args.known.files.now c.args.drafts.now.items c.requires.drafts

pub set_in-requires-clause-sorted : goal.set_in-requires-clause-sorted
set_in-requires-clause-sorted c = subst (IsStrictlySortedBy path_cmp) (sym c.loop-path.invariant.same_paths) c.requires.sorted

pub set_in-requires-clause-drafts : goal.set_in-requires-clause-drafts
set_in-requires-clause-drafts c = c.loop-path.invariant.drafts

pub loop-path-preserved : goal.loop-path-preserved
loop-path-preserved c =
    let all = c.args.paths.now in
    let k = c.loop-path.path-index in
    rw (names_more all k c.path-item.result c.loop-path-test.true c.path-item.is)
    (sets_more c.args.known.files.now (names (take k all)) c.path-item.result.now c.args.drafts.now.items c.loop-path.drafts.items c.set_in.new.drafts.items
    c.loop-path.invariant c.in_ok-set_in.ensures)

pub returns : goal.returns
returns c = subst (λ (paths : List (Bor (List ℕ))). SetsFiles c.args.known.files.now (names paths) c.args.drafts.now.items c.loop-path.drafts.items)
    (take_all c.loop-path.path-index c.args.paths.now (omega (arith, c.loop-path-test.false))) c.loop-path.invariant
