-- The answers to the goals of `operators::open_prefix`.
use Rattle.std.proofs.Common.{sym, refl, false, arith}
use Rattle.go_ast.specs.Grammar.{is_prefix}
use Rattle.go_ast.specs.Flatten.{prefix_kind}
use Rattle.go_parser.proofs.KindFacts.{prefix_back, prefix_some, prefix_none}
use Rattle.go_parser.proofs.MachineSteps.{refuses_opening, opens_too_deep, at_end, at_token, opened_one}
use Rattle.go_parser.proofs.operators.open_prefix.Goals as goal

pub returns-in_default : goal.returns-in_default
returns-in_default c = rw c.bad_token.ensures (refuses_opening is_prefix c.args.depth c.args.tokens.now
    (at_end is_prefix c.args.tokens.now c.in_default.ensures))

pub returns-in_default-prefix_op : goal.returns-in_default-prefix_op
returns-in_default-prefix_op c = rw c.bad_token-in_default-prefix_op.ensures (refuses_opening is_prefix c.args.depth c.args.tokens.now
    (at_token is_prefix false c.in-Some.first c.args.tokens.now c.in-Some.rest.now c.in-Some.ensures
    (prefix_none c.in-Some.first.kind (sym c.in_default-prefix_op.ensures))))

pub returns-then-depth-ge-LIMIT : goal.returns-then-depth-ge-LIMIT
returns-then-depth-ge-LIMIT c = opens_too_deep is_prefix c.in-Some.first c.args.depth c.args.tokens.now c.in-Some.rest.now c.in-Some.ensures
    (prefix_some c.in-Some.first.kind c.in-Some-prefix_op.op (sym c.in-Some-prefix_op.ensures)) c.if-depth-ge-LIMIT.true

pub returns : goal.returns
returns c = record {
  read = opened_one is_prefix (prefix_kind c.in-Some-prefix_op.op) c.in-Some.first c.args.depth c.args.tokens.now c.in-Some.rest.now c.in-Some.ensures
      (prefix_some c.in-Some.first.kind c.in-Some-prefix_op.op (sym c.in-Some-prefix_op.ensures))
      (prefix_back c.in-Some.first.kind c.in-Some-prefix_op.op (sym c.in-Some-prefix_op.ensures)) c.if-depth-ge-LIMIT.false;
  deeper = refl;
  within = omega arith;
}
