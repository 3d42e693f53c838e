-- The test of underlying types is exact.
use Rattle.types_expr.specs.WorldView.{underlying_of}
use Rattle.types_check.proofs.Values.{underlying_by_test}
use Rattle.types_check.proofs.equal_definitions.is_same_underlying.Goals as goal

pub returns : goal.returns
returns c = underlying_by_test (underlying_of c.args.one.now) (underlying_of c.args.other.now) c.has_same_shape.result c.has_same_shape.ensures
