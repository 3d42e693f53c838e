-- The answers to the goals of `behind::first_turned`.
use Rattle.std.proofs.Common.{List, subst}
use Rattle.base_files.specs.declared.place.Place.{Place}
use Rattle.types_expr.proofs.Equations.{ok_map}
use Rattle.types_declared.specs.PackageView.{package_of}
use Rattle.refs_binding.specs.Workspaces.{known_in}
use Rattle.refactor_decide.specs.Behind.{IsFirstListed}
use Rattle.refactor_decide.proofs.Outside.{first_use}
use Rattle.refactor_decide.proofs.behind.first_turned.Goals as goal

pub returns : goal.returns
returns c =
    let w = c.args.at.workspace.now.graph in
    let p = package_of c.args.of.now.unit in
    ok_map c.first_of.result
    (λ x h. first_use w (known_in c.args.at.workspace.now.findings) p c.args.turned c.in_ok-places.places c.in_ok-places.ensures x
    (subst (λ (l : List Place). IsFirstListed p l c.args.turned.by x) c.as_slice.ensures h)) c.first_of.ensures
