-- The test of types is exact.
use Rattle.types_expr.specs.View.{type_of}
use Rattle.types_check.proofs.Values.{type_by_test}
use Rattle.types_check.proofs.equal_definitions.is_same_type.Goals as goal

pub returns : goal.returns
returns c = type_by_test (type_of c.args.one.now) (type_of c.args.other.now) c.same.result c.same.ensures
