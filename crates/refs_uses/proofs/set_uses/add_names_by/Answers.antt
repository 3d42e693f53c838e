-- The answers to the goals of `set_uses::add_names_by`.
use Rattle.std.proofs.Common.{subst}
use Rattle.std.proofs.lemmas.Result.{on_ok_weaker}
use Rattle.types_declared.specs.Package.{Package}
use Rattle.types_declared.specs.PackageView.{package_of}
use Rattle.refs_binding.specs.Binding.{DeclaresMember}
use Rattle.refs_binding.specs.Steps.{AddsPlaces, UsesIn}
use Rattle.refs_binding.specs.Workspaces.{known_in}
use Rattle.refs_binding.proofs.Units.{one_at}
use Rattle.refs_uses.specs.SoughtMembers.{IsPlaceOfSome}
use Rattle.refs_uses.proofs.set_uses.add_names_by.Goals as goal

pub returns : goal.returns
returns c = on_ok_weaker c.add_names_of_each.result (λ adds p is.
    subst (λ (q : Package). AddsPlaces c.args.spots.now.items c.add_names_of_each.new.found.items
    (IsPlaceOfSome c.args.set.now (λ d. UsesIn q (λ u. DeclaresMember q u d))))
    (one_at c.args.at.workspace.now.graph (known_in c.args.at.workspace.now.findings) c.args.at.number (package_of c.args.unit) p c.requires is) adds)
    c.add_names_of_each.ensures
