-- The answers to the goals of `exported_name::own_name`.
use Rattle.std.proofs.Common.{sym, subst}
use Rattle.std.specs.Prelude.{Some}
use Rattle.types_declared.specs.PackageView.{package_of}
use Rattle.refs_binding.specs.Steps.{IsExportedBy}
use Rattle.refs_uses.proofs.exported_name.own_name.Goals as goal

pub returns-in_ok-from_slice-in-Some : goal.returns-in_ok-from_slice-in-Some
returns-in_ok-from_slice-in-Some c =
    subst (λ n. IsExportedBy (package_of c.args.unit) c.args.d (Some n)) (sym c.in_ok-from_slice-in-Some.ensures.items) c.in-Some.ensures
