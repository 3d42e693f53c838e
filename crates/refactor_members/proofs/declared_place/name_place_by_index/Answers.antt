-- The answers to the goals of `declared_place::name_place_by_index`.
use Rattle.std.proofs.Common.{◌≡◌, ap, sym, subst, ◌∙◌}
use Rattle.std.proofs.lemmas.Option.{same_Some}
use Rattle.std.proofs.lemmas.Result.{IfOk-weaker}
use Rattle.types_declared.specs.PackageView.{package_of}
use Rattle.refs_binding.specs.Workspaces.{home_path}
use Rattle.refs_places.specs.DeclaredPlaces.{IsChoice}
use Rattle.refactor_conflict.specs.OldPlaces.{field_at, method_at}
use Rattle.refactor_members.specs.Judging.{IsNamedAt}
use Rattle.refactor_members.proofs.declared_place.name_place_by_index.Goals as goal

pub returns-in-Field : goal.returns-in-Field
returns-in-Field c =
    let p = package_of c.args.unit in
    let s = c.in-Field.symbol in
    IfOk-weaker c.field_name_place.result _ _
    (λ found h home.
    let path : s.package ≡ p.path = same_Some s.package p.path (sym (ap home_path c.in-Field.is) ∙ home) in
    subst (λ d. IsChoice (IsNamedAt p d) found) (ap (λ q. field_at q s.rank) (sym path) ∙ sym c.in-Field.is) h) c.field_name_place.ensures

pub returns-in-Method : goal.returns-in-Method
returns-in-Method c =
    let p = package_of c.args.unit in
    let s = c.in-Method.symbol in
    IfOk-weaker c.method_name_place.result _ _
    (λ found h home.
    let path : s.package ≡ p.path = same_Some s.package p.path (sym (ap home_path c.in-Method.is) ∙ home) in
    subst (λ d. IsChoice (IsNamedAt p d) found) (ap (λ q. method_at q s.rank) (sym path) ∙ sym c.in-Method.is) h) c.method_name_place.ensures
