-- The declaration that is found is a package-level one exactly where it has a name.
use Rattle.std.proofs.Common.{◌≡◌, sym, subst, ◌∙◌, rules}
use Rattle.std.proofs.lemmas.Bool.{false≢true}
use Rattle.std.specs.Prelude.{IfNone, IfSome}
use Rattle.std.proofs.lemmas.Option.{IfSome_then}
use Rattle.std.proofs.lemmas.Result.{IfOk-weaker}
use Rattle.base_files.specs.declared.refusal.Refusal.TheVariants.{Memory}
use Rattle.refs_binding.specs.WorkspaceFindings.{WorkspaceFindings}
use Rattle.refs_binding.specs.Workspaces.{known_in}
use Rattle.build_names.specs.Words.{NameChange}
use Rattle.law_objects.specs.CarriedUnits.{AreLegiblePaths}
use Rattle.refs_binding.specs.declared.declaration.Declaration.TheVariants.{Declared}
use Rattle.refactor_units.specs.LevelNames.{IsLevelAt, IsLevelOf}
use Rattle.refactor_units.proofs.LevelAt.{level_found, level_there}
use Rattle.refactor_units.proofs.Missed.{none_then, none_there}
use Rattle.refactor_units.proofs.level.level_name_at.Goals as goal

pub returns-then-not-have_legible_paths-clause-finds : goal.returns-then-not-have_legible_paths-clause-finds
returns-then-not-have_legible_paths-clause-finds c = λ change level.
    let paths = subst (λ (v : WorkspaceFindings). AreLegiblePaths v.graph) (sym c.workspace.view_is) level.paths in
    false≢true (sym c.if-not-have_legible_paths.true ∙ c.have_legible_paths.ensures.1 paths)

pub returns-in-Err-clause-finds : goal.returns-in-Err-clause-finds
returns-in-Err-clause-finds c = λ change level.
    let w = c.args.workspace.now.graph in
    let r = c.in-Err.field-0 in
    let other : r ≡ Memory → ⊥ = search rules in
    none_there w (known_in c.args.workspace.now.findings) c.has_no_faults.ensures.findings.right c.args.path.now c.args.offset r other c.in-Err.ensures
    level.known level.right (Declared level.declared_in.path level.number) level.has

pub returns-clause-names : goal.returns-clause-names
returns-clause-names c =
    let w = c.args.workspace.now.graph in
    let known = known_in c.args.workspace.now.findings in
    let name = c.args.name.now in
    let path = c.args.path.now in
    let d = c.in-Ok.declaration in
    let paths = subst (λ (v : WorkspaceFindings). AreLegiblePaths v.graph) c.workspace.view_is (c.have_legible_paths.ensures.0
    c.if-not-have_legible_paths.false) in
    IfOk-weaker c.level_name_of.result (λ given. IfSome given (IsLevelOf w known d name)) (λ given. IfSome given (IsLevelAt w path c.args.offset name))
    (λ given level. IfSome_then given level (λ change l.
    level_there w known c.has_no_faults.ensures.findings.right path c.args.offset d c.in-Ok.ensures name change paths l))
    c.level_name_of.ensures.names

pub returns-clause-finds : goal.returns-clause-finds
returns-clause-finds c =
    let w = c.args.workspace.now.graph in
    let known = known_in c.args.workspace.now.findings in
    let name = c.args.name.now in
    let path = c.args.path.now in
    let d = c.in-Ok.declaration in
    IfOk-weaker c.level_name_of.result (λ given. IfNone given ((change : NameChange) → IsLevelOf w known d name change → ⊥))
    (λ given. IfNone given ((change : NameChange) → IsLevelAt w path c.args.offset name change → ⊥))
    (λ given none. none_then given none (λ nothing change level.
    nothing change (level_found w known c.has_no_faults.ensures.findings.right path c.args.offset d c.in-Ok.ensures name change level)))
    c.level_name_of.ensures.finds
