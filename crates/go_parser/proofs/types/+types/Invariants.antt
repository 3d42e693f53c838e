-- The invariants of the loops of `types::types`.
use Rattle.std.proofs.Common.{length, ◌+◌, ◌*◌}
use Rattle.go_parser.proofs.types.+types.Given as goal

abbrev pub decreases-type_expr : goal.decreases-type_expr
decreases-type_expr l = 2 * length l.tokens.now + 1

abbrev pub decreases-slice_type : goal.decreases-slice_type
decreases-slice_type l = 2 * length l.tokens.now
