-- The answers to the goals of `declared_places::places_at`.
use Rattle.std.proofs.lemmas.Result.{IfOk-weaker}
use Rattle.types_declared.specs.PackageView.{package_of}
use Rattle.refs_binding.specs.Workspaces.{known_in}
use Rattle.refs_places.specs.DeclaredPlaces.{AreDeclaredIn, AreDeclaredAt}
use Rattle.refs_places.proofs.declared_places.places_at.Goals as goal

pub returns : goal.returns
returns c =
    let w = c.args.packages.now.workspace.now.graph in
    let known = known_in c.args.packages.now.workspace.now.findings in
    let p = package_of c.unit-unit.result in
    IfOk-weaker c.package_places.result (AreDeclaredIn p) (AreDeclaredAt w known c.args.number)
    (λ places h. record { inside = p; is_package = c.unit-unit.ensures; declared = h }) c.package_places.ensures
