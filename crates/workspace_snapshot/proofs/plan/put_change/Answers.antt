-- The edits set the text.
use Rattle.std.proofs.Common.{◌≡◌, sym, ap, subst, ◌∙◌}
use Rattle.std.specs.Prelude.{IfOk}
use Rattle.std.specs.FinMap.{insert}
use Rattle.base_files.specs.Workspace.{Workspace}
use Rattle.base_edits.specs.EditSet.{FileChanges, edited}
use Rattle.base_edits.specs.Fits.{Fits}
use Rattle.workspace_snapshot.specs.Plan.{put_changes}
use Rattle.workspace_snapshot.specs.declared.change.Change.{Change}
use Rattle.workspace_snapshot.specs.declared.change.ChangeKind.TheVariants.{Put}
use Rattle.workspace_snapshot.proofs.OneFile.{put_fits, put_edited}
use Rattle.workspace_snapshot.proofs.plan.put_change.Goals as goal

pub of-requires : goal.of-requires
of-requires c =
    let w = c.args.snapshot.now.files in
    let is = c.in_ok-edits.ensures ∙ ap (λ (v : Workspace). put_changes v c.args.path c.args.text) c.files.ensures in
    subst (λ (s : FileChanges). Fits s w) (sym is) (put_fits w c.args.path c.args.text)

pub returns : goal.returns
returns c =
    let w = c.args.snapshot.now.files in
    let is = c.in_ok-edits.ensures ∙ ap (λ (v : Workspace). put_changes v c.args.path c.args.text) c.files.ensures in
    let files = ap (λ (s : FileChanges). edited s w) is ∙ put_edited w c.args.path c.args.text in
    let whole : ◌≡◌ {A = Change} (record { base = w; kind = Put; edits = c.in_ok-edits.edits; files = edited c.in_ok-edits.edits w })
    (record { base = w; kind = Put; edits = put_changes w c.args.path c.args.text; files = insert w c.args.path c.args.text }) =
    (λ i. record { base = w; kind = Put; edits = is i; files = files i }) in
    subst (λ (x : Change). IfOk c.of.result (λ change. change ≡ x)) whole c.of.ensures
