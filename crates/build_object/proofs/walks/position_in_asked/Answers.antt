-- A rank below their number is the position; one above it goes on behind them.
use Rattle.std.proofs.Common.{arith}
use Rattle.go_ast.specs.FileView.{method_view}
use Rattle.build_object.proofs.Walking.{asked_here, asked_behind}
use Rattle.build_object.proofs.walks.position_in_asked.Goals as goal

pub returns-then-rank-count : goal.returns-then-rank-count
returns-then-rank-count c = asked_here method_view c.args.methods.now c.args.rank (omega (arith, c.if-rank-count.true))

pub returns-else-rank-count : goal.returns-else-rank-count
returns-else-rank-count c = asked_behind method_view c.args.methods.now c.args.rank (omega (arith, c.if-rank-count.false))
