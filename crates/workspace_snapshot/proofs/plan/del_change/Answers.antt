-- The edits take the file out.
use Rattle.std.proofs.Common.{◌≡◌, sym, ap, subst, ◌∙◌}
use Rattle.std.specs.Prelude.{IfOk}
use Rattle.std.specs.FinMap.{get, remove}
use Rattle.base_edits.specs.EditSet.{FileChanges, edited}
use Rattle.base_edits.specs.Fits.{Fits}
use Rattle.workspace_snapshot.specs.Plan.{del_changes}
use Rattle.workspace_snapshot.specs.declared.change.Change.{Change}
use Rattle.workspace_snapshot.specs.declared.change.ChangeKind.TheVariants.{Del}
use Rattle.workspace_snapshot.proofs.OneFile.{del_fits, del_edited, some_from}
use Rattle.workspace_snapshot.proofs.plan.del_change.Goals as goal

pub of-requires : goal.of-requires
of-requires c =
    let w = c.args.snapshot.now.files in
    let path = c.args.path.now in
    subst (λ (s : FileChanges). Fits s w) (sym c.in_ok-edits.ensures) (del_fits w path (some_from (get w path) c.requires))

pub returns : goal.returns
returns c =
    let w = c.args.snapshot.now.files in
    let path = c.args.path.now in
    let is = c.in_ok-edits.ensures in
    let files = ap (λ (s : FileChanges). edited s w) is ∙ del_edited w path (some_from (get w path) c.requires) in
    let whole : ◌≡◌ {A = Change} (record { base = w; kind = Del; edits = c.in_ok-edits.edits; files = edited c.in_ok-edits.edits w })
    (record { base = w; kind = Del; edits = del_changes path; files = remove w path }) =
    (λ i. record { base = w; kind = Del; edits = is i; files = files i }) in
    subst (λ (x : Change). IfOk c.of.result (λ change. change ≡ x)) whole c.of.ensures
