-- The answers to the goals of `definitions::add_field`.
use Rattle.std.proofs.Common.{subst}
use Rattle.std.specs.Prelude.{option_map}
use Rattle.std.proofs.lemmas.Result.{on_ok_weaker}
use Rattle.types_expr.specs.View.{form_of}
use Rattle.types_declared.specs.Definitions.{HasForm}
use Rattle.types_declared.specs.PackageView.{package_of}
use Rattle.types_members.specs.FieldsView.{field_of}
use Rattle.types_check.specs.Building.{IsFormFound}
use Rattle.types_check.proofs.Building.{field_changed}
use Rattle.types_check.proofs.definitions.add_field.Goals as goal

pub returns-in-Some : goal.returns-in-Some
returns-in-Some c =
    let p = package_of c.args.of.now.pkg in
    let f = field_of c.args.field in
    let t = form_of c.in-Some.own in
    let typed : HasForm p f.file f.form t = subst (λ o. IsFormFound p f (option_map form_of o)) c.in-Some.is c.in_ok-found_form.ensures in
    on_ok_weaker c.set_field.result
    (λ s. field_changed p c.args.rank f t c.args.definitions.now.items c.index_mut.result.now c.set_field.new.definition c.requires.in_range
    c.index_mut.ensures.value typed s) c.set_field.ensures
