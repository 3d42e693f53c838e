-- The answers to the goals of `places::beginning`.
use Rattle.std.proofs.Common.{ap, sym, ◌∙◌}
use Rattle.std.specs.Prelude.{slice_get}
use Rattle.std.proofs.lemmas.Result.{IfOk-weaker}
use Rattle.base_files.specs.declared.place.Place.{Place}
use Rattle.go_scope.specs.Bindings.{is_implied}
use Rattle.types_declared.specs.PackageView.{package_of}
use Rattle.refs_binding.specs.Identifiers.{NameBegins, BeginsAt}
use Rattle.refs_places.specs.DeclaredPlaces.{IsChoice}
use Rattle.refs_places.proofs.Starts.{not_implied, begins_as}
use Rattle.refs_places.proofs.places.beginning.Goals as goal

pub returns-then-is_implied : goal.returns-then-is_implied
returns-then-is_implied c = not_implied (package_of c.args.unit) c.args.u (ap is_implied (sym c.role.ensures) ∙ sym c.is_implied.ensures ∙ c.if-is_implied.true)

pub returns-else-is_implied : goal.returns-else-is_implied
returns-else-is_implied c =
    let p = package_of c.args.unit in
    let at = c.place.result in
    IfOk-weaker c.name_beginning.result (IsChoice (λ (place : Place). NameBegins (slice_get p.files at.file) at.index place.path place.offset))
    (IsChoice (λ (place : Place). BeginsAt p place.path place.offset c.args.u))
    (λ o h. begins_as p c.args.u at o c.requires (ap is_implied (sym c.role.ensures) ∙ sym c.is_implied.ensures ∙ c.if-is_implied.false) c.place.ensures h)
    c.name_beginning.ensures
