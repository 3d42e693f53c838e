-- No unit is given.
use Rattle.std.proofs.lemmas.Option.{none-some}
use Rattle.build_unit.proofs.inputs.PackageInputs.of.Goals as goal

pub with_unit-requires : goal.with_unit-requires
with_unit-requires c = record {
  number = c.requires.number;
  known = c.requires.known;
  unit = λ p unit at is. absurd (none-some unit is);
}
