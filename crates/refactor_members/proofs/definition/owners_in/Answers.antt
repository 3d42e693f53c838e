-- The answers to the goals of `definition::owners_in`.
use Rattle.std.proofs.Common.{ap, refl, ◌∙◌}
use Rattle.std.specs.Prelude.{slice_get}
use Rattle.std.proofs.lemmas.Option.{slice_get-map}
use Rattle.types_declared.specs.Definitions.{PlacedField, package_fields}
use Rattle.types_declared.specs.PackageView.{package_of}
use Rattle.refactor_members.proofs.Homes.{listed_field, listed_method}
use Rattle.refactor_members.proofs.definition.owners_in.Goals as goal

pub returns : goal.returns
returns c =
    let p = package_of c.args.unit in
    record {
      fields = λ rank. listed_field p rank _ (ap (λ l. slice_get l rank) c.in_ok-fields.ensures ∙
          slice_get-map (λ (f : PlacedField). f.definition) (package_fields p) rank);
      methods = λ rank. listed_method p c.in_ok-methods.methods.items c.in_ok-methods.ensures rank _ refl;
    }
