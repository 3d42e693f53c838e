-- The answers to the goals of `checked_text::printed`.
use Rattle.std.proofs.Common.{◌≡◌, sym, subst}
use Rattle.std.specs.Prelude.{map}
use Rattle.std.proofs.lemmas.Result.{IfOk-weaker}
use Rattle.types_declared.specs.PackageView.{package_of}
use Rattle.types_info.specs.MemberUses.{AreEnterings, AreMemberUses, enterings_in, uses_in}
use Rattle.build_object.specs.ObjectView.{AreObjectDefinitions}
use Rattle.build_object.specs.Sources.{IsObjectText}
use Rattle.build_unit.proofs.checked_text.printed.Goals as goal

pub checked_object-requires : goal.checked_object-requires
checked_object-requires c = record {
  index = c.requires.index;
  bounds = c.requires.bounds;
  definitions = subst (AreObjectDefinitions (package_of c.args.unit)) (sym c.found_definitions.ensures) c.requires.definitions;
}

pub returns : goal.returns
returns c =
    let p = package_of c.args.unit in
    IfOk-weaker c.new.result (λ t. t ≡ c.in_ok-text.text.items) _
    (λ t is files_of uses enter have. subst (IsObjectText p files_of) (sym is)
    (c.in_ok-text.ensures files_of (subst (λ ms. AreMemberUses p (map uses_in ms)) (sym c.as_slice.ensures.value) uses)
    (subst (λ es. AreEnterings p (map enterings_in es)) (sym c.as_slice-2.ensures.value) enter) have))
    c.new.ensures
