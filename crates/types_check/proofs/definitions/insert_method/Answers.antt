-- The answers to the goals of `definitions::insert_method`.
use Rattle.std.proofs.Common.{ap, refl}
use Rattle.std.specs.Prelude.{Some, option_map}
use Rattle.types_expr.specs.WorldView.{plain_method_of}
use Rattle.types_declared.proofs.ByteKeys.{others_stay}
use Rattle.types_check.proofs.definitions.insert_method.Goals as goal

pub returns : goal.returns
returns c = record {
  underlying = refl;
  here = ap (option_map plain_method_of) c.in_ok-insert.ensures.updates.1;
  elsewhere = λ n ne. ap (option_map plain_method_of) (others_stay c.args.definition.now.methods c.insert.new.self c.args.name (Some c.args.method)
      c.in_ok-insert.ensures.updates n ne);
  fields = λ n. refl;
}
