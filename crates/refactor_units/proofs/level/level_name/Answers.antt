-- The name is given to the declaration of the package.
use Rattle.std.proofs.Common.{◌≡◌, sym, ◌∙◌}
use Rattle.std.proofs.lemmas.Bool.{false≢true}
use Rattle.types_declared.specs.PackageView.{package_of}
use Rattle.build_names.specs.Words.{NameChange}
use Rattle.law_objects.specs.CarriedUnits.{change_of_name}
use Rattle.refactor_units.proofs.level.level_name.Goals as goal

pub name-requires : goal.name-requires
name-requires c = (c.is_level_number.ensures.0 c.if-not-is_level_number.false).within

pub returns-clause-names : goal.returns-clause-names
returns-clause-names c =
    let p = package_of c.args.unit in
    let given : NameChange = record { path = c.path.result.now; old = c.name.result.now; new = c.as_bytes.result.now } in
    let same : given ≡ change_of_name p c.args.n c.args.name.now =
    (λ i. record { path = c.path.ensures i; old = c.name.ensures i; new = c.as_bytes.ensures.value i }) in
    record {
      own = p;
      is_package = c.requires;
      is_level = c.is_level_number.ensures.0 c.if-not-is_level_number.false;
      is_change = c.in_ok-given.ensures ∙ same;
    }

pub returns-then-not-is_level_number-clause-finds : goal.returns-then-not-is_level_number-clause-finds
returns-then-not-is_level_number-clause-finds c = λ is. false≢true (sym c.if-not-is_level_number.true ∙ c.is_level_number.ensures.1 is)
