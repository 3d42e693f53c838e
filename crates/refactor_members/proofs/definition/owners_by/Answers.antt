-- The answers to the goals of `definition::owners_by`.
use Rattle.std.proofs.Common.{subst}
use Rattle.std.proofs.lemmas.Result.{IfOk-weaker}
use Rattle.types_declared.specs.Package.{Package}
use Rattle.types_declared.specs.PackageView.{package_of}
use Rattle.refs_binding.specs.Workspaces.{known_in}
use Rattle.refs_binding.proofs.Units.{one_at}
use Rattle.refactor_members.specs.Owning.{AreOwnersIn}
use Rattle.refactor_members.proofs.definition.owners_by.Goals as goal

pub returns : goal.returns
returns c =
    let w = c.args.at.workspace.now in
    IfOk-weaker c.owners_in.result _ _
    (λ found h p is.
    subst (λ (q : Package). AreOwnersIn q found)
    (one_at w.graph (known_in w.findings) c.args.at.number (package_of c.unit_of.result) p c.unit_of.ensures is) h) c.owners_in.ensures
