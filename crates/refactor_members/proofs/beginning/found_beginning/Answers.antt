-- The answers to the goals of `beginning::found_beginning`.
use Rattle.std.proofs.Common.{sym, subst}
use Rattle.std.specs.Prelude.{IfOk, Option}
use Rattle.go_scope.specs.declared.model.Position.{Position}
use Rattle.types_declared.specs.PackageView.{package_of}
use Rattle.refs_binding.specs.Steps.{AtFound}
use Rattle.refs_places.specs.DeclaredPlaces.{IsChoice}
use Rattle.refactor_members.proofs.beginning.found_beginning.Goals as goal

pub returns-in-Some : goal.returns-in-Some
returns-in-Some c = subst (λ (o : Option Position). IfOk c.token_beginning.result (IsChoice (AtFound (package_of c.args.unit) o))) (sym c.in-Some.is)
    c.token_beginning.ensures
