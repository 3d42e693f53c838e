-- The answers to the goals of `places::start`.
use Rattle.std.proofs.Common.{ap, sym, ◌∙◌}
use Rattle.std.specs.Prelude.{option_map}
use Rattle.go_scope.specs.Bindings.{is_implied}
use Rattle.types_declared.specs.PackageView.{package_of}
use Rattle.refs_places.specs.Beginnings.{place_of}
use Rattle.refs_places.proofs.Starts.{not_implied, begins_as}
use Rattle.refs_places.proofs.places.start.Goals as goal

pub returns-then-is_implied : goal.returns-then-is_implied
returns-then-is_implied c = not_implied (package_of c.args.unit) c.args.u (ap is_implied (sym c.role.ensures) ∙ sym c.is_implied.ensures ∙ c.if-is_implied.true)

pub returns-else-is_implied : goal.returns-else-is_implied
returns-else-is_implied c =
    begins_as (package_of c.args.unit) c.args.u c.place.result (option_map place_of c.start_at.result) c.requires
    (ap is_implied (sym c.role.ensures) ∙ sym c.is_implied.ensures ∙ c.if-is_implied.false) c.place.ensures c.start_at.ensures
