-- Each planned rename of the identifier carries units over with the names.
use Rattle.std.proofs.Common.{◌≡◌, List, ℕ, ap, sym, subst}
use Rattle.std.proofs.lemmas.Option.{IfSome_then}
use Rattle.std.proofs.lemmas.Result.{err_from_is_err_and}
use Rattle.refs_binding.specs.WorkspaceFindings.{WorkspaceFindings}
use Rattle.refactor_units.specs.CarriedNames.{CarriesPlanned, HasCarriedName}
use Rattle.base_files.specs.Workspace.{Workspace}
use Rattle.refactor_units.proofs.RefusedNames.{refused_fault, refused_path}
use Rattle.refactor_units.proofs.Missed.{none_then}
use Rattle.refactor_units.proofs.carried.carried_names.Goals as goal

pub returns-clause-carries : goal.returns-clause-carries
returns-clause-carries c =
    let snapshot = c.args.snapshot.now in
    let files : c.in-Ok.workspace.graph ≡ snapshot.files = ap (λ (w : WorkspaceFindings). w.graph) c.in-Ok.ensures.1 in
    IfSome_then c.in_ok-names_carried-in-Ok.field-0 c.in_ok-names_carried-in-Ok.ensures.carries
    (λ given carries. subst (λ (p : List ℕ). CarriesPlanned snapshot p c.args.offset c.args.name.now given.items) c.in_ok-path.ensures.0
    (carries snapshot (sym files)))

pub returns-clause-finds : goal.returns-clause-finds
returns-clause-finds c =
    let snapshot = c.args.snapshot.now in
    let name = c.args.name.now in
    let files : c.in-Ok.workspace.graph ≡ snapshot.files = ap (λ (w : WorkspaceFindings). w.graph) c.in-Ok.ensures.1 in
    none_then c.in_ok-names_carried-in-Ok.field-0 c.in_ok-names_carried-in-Ok.ensures.finds
    (λ nothing has. nothing (subst (λ (w : Workspace). HasCarriedName w c.in_ok-path.path c.args.offset name) (sym files)
    (subst (λ (p : List ℕ). HasCarriedName snapshot.files p c.args.offset name) (sym c.in_ok-path.ensures.0) has)))

pub returns-in_err-path-clause-refuses : goal.returns-in_err-path-clause-refuses
returns-in_err-path-clause-refuses c =
    let p = err_from_is_err_and c.from_residual.result c.from_residual.ensures.1 in
    rw (p.1, p.2) (refused_path c.args.snapshot.now.files c.args.path.now c.in_err-path.field-0.0 (c.in_err-path.ensures {u = tt}))

pub returns-in-Err-clause-refuses : goal.returns-in-Err-clause-refuses
returns-in-Err-clause-refuses c = refused_fault c.args.snapshot.now.files c.args.path.now c.args.found.now.findings c.in-Err.refusal c.in-Err.ensures

pub returns-in_err-names_carried-in-Ok-clause-refuses : goal.returns-in_err-names_carried-in-Ok-clause-refuses
returns-in_err-names_carried-in-Ok-clause-refuses c =
    let p = err_from_is_err_and c.from_residual-in_err-names_carried-in-Ok.result c.from_residual-in_err-names_carried-in-Ok.ensures.1 in
    rw (p.1, p.2) tt
