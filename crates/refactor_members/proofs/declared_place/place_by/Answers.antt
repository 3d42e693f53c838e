-- The answers to the goals of `declared_place::place_by`.
use Rattle.std.proofs.Common.{subst}
use Rattle.std.proofs.lemmas.Result.{IfOk-weaker}
use Rattle.types_declared.specs.Package.{Package}
use Rattle.types_declared.specs.PackageView.{package_of}
use Rattle.refs_binding.specs.DeclaringPlaces.{HasDeclarationAt}
use Rattle.refs_binding.specs.Workspaces.{known_in}
use Rattle.refs_binding.proofs.Units.{one_at}
use Rattle.refs_places.specs.DeclaredPlaces.{IsChoice}
use Rattle.refactor_members.proofs.declared_place.place_by.Goals as goal

pub returns : goal.returns
returns c =
    let w = c.args.at.workspace.now in
    IfOk-weaker c.place_in.result _ _
    (λ found h p is.
    subst (λ (q : Package). IsChoice (HasDeclarationAt q c.args.declaration.now) found)
    (one_at w.graph (known_in w.findings) c.args.at.number (package_of c.unit_of.result) p c.unit_of.ensures is) h) c.place_in.ensures
