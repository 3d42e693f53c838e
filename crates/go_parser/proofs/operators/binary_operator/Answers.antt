-- The answers to the goals of `operators::binary_operator`.
use Rattle.std.proofs.Common.{sym, false}
use Rattle.go_ast.specs.Grammar.{is_binary}
use Rattle.go_ast.specs.Flatten.{binary_kind}
use Rattle.go_parser.proofs.KindFacts.{binary_back, binary_some, binary_none}
use Rattle.go_parser.proofs.MachineSteps.{refuses_one, at_end, at_token, read_one}
use Rattle.go_parser.proofs.operators.binary_operator.Goals as goal

pub returns-in_default : goal.returns-in_default
returns-in_default c = rw c.bad_token.ensures (refuses_one is_binary c.args.depth c.args.tokens.now (at_end is_binary c.args.tokens.now c.in_default.ensures))

pub returns-in_default-binary_op : goal.returns-in_default-binary_op
returns-in_default-binary_op c = rw c.bad_token-in_default-binary_op.ensures (refuses_one is_binary c.args.depth c.args.tokens.now
    (at_token is_binary false c.in-Some.first c.args.tokens.now c.in-Some.rest.now c.in-Some.ensures
    (binary_none c.in-Some.first.kind (sym c.in_default-binary_op.ensures))))

pub returns : goal.returns
returns c = read_one is_binary (binary_kind c.in-Some-binary_op.op) c.in-Some.first c.args.depth c.args.tokens.now c.in-Some.rest.now c.in-Some.ensures
    (binary_some c.in-Some.first.kind c.in-Some-binary_op.op (sym c.in-Some-binary_op.ensures))
    (binary_back c.in-Some.first.kind c.in-Some-binary_op.op (sym c.in-Some-binary_op.ensures))
