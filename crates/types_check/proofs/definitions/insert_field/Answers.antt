-- The answers to the goals of `definitions::insert_field`.
use Rattle.std.proofs.Common.{ap, refl}
use Rattle.std.specs.Prelude.{Some, option_map}
use Rattle.types_expr.specs.WorldView.{field_of}
use Rattle.types_declared.proofs.ByteKeys.{others_stay}
use Rattle.types_check.proofs.definitions.insert_field.Goals as goal

pub returns : goal.returns
returns c = record {
  underlying = refl;
  here = ap (option_map field_of) c.in_ok-insert.ensures.updates.1;
  elsewhere = λ n ne. ap (option_map field_of) (others_stay c.args.definition.now.fields c.insert.new.self c.args.name (Some c.args.field)
      c.in_ok-insert.ensures.updates n ne);
  methods = λ n. refl;
}
