-- The part's files are those that were planned, and the whole's are those that the edits make.
use Rattle.std.proofs.Common.{◌≡◌, List, ℕ, Bor, ap, sym, subst, ◌∙◌}
use Rattle.base_edits.specs.EditSet.{edited}
use Rattle.base_files.specs.Workspace.{Workspace}
use Rattle.build_carry.specs.Changes.{AreChanged}
use Rattle.workspace_check.specs.Found.{KnowsVerdicts}
use Rattle.workspace_graph.specs.Borrows.{names}
use Rattle.workspace_snapshot.specs.declared.change.Change.{Change}
use Rattle.refactor_affected.proofs.whole.whole_change.Goals as goal

pub whole_known-requires-clause-found : goal.whole_known-requires-clause-found
whole_known-requires-clause-found c =
    let part : c.in_ok-part.part ≡ c.args.planned.change.files = c.in_ok-part.ensures.cases ∙ ap (λ (x : Change). x.files) c.get.ensures in
    subst (λ (g : Workspace). KnowsVerdicts g c.args.planned.known) (sym part) c.requires.found

pub whole_known-requires-clause-changed : goal.whole_known-requires-clause-changed
whole_known-requires-clause-changed c =
    let planned = c.args.planned in
    let whole : c.in_ok-whole.whole.files ≡ edited planned.change.edits c.args.snapshot.now.files = ap (λ (x : Change). x.files) c.in_ok-whole.ensures in
    let part : c.in_ok-part.part ≡ planned.change.files = c.in_ok-part.ensures.cases ∙ ap (λ (x : Change). x.files) c.get.ensures in
    subst (λ (l : List (Bor (List ℕ))). AreChanged c.in_ok-part.part c.in_ok-whole.whole.files (names l)) (sym c.deref-2.ensures.value)
    (subst (λ (g : Workspace). AreChanged g c.in_ok-whole.whole.files (names c.args.left.now.folders.items)) (sym part)
    (subst (λ (g : Workspace). AreChanged planned.change.files g (names c.args.left.now.folders.items)) (sym whole) c.requires.differs.packages))
