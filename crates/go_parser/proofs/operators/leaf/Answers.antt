-- The answers to the goals of `operators::leaf`.
use Rattle.std.proofs.Common.{sym, refl, false}
use Rattle.go_ast.specs.Grammar.{is_leaf}
use Rattle.go_parser.proofs.Spelled.{leaf_none, leaf_some, leaf_tokens}
use Rattle.go_parser.proofs.MachineSteps.{refuses_one, at_end, at_token, read_one, read_as}
use Rattle.go_parser.proofs.Grouping.{leaf_grouped}
use Rattle.go_parser.proofs.operators.leaf.Goals as goal

pub returns-in_default-clause-exact : goal.returns-in_default-clause-exact
returns-in_default-clause-exact c = rw c.bad_token.ensures
    (refuses_one is_leaf c.args.depth c.args.tokens.now (at_end is_leaf c.args.tokens.now c.in_default.ensures))

pub returns-in_default-leaf_of-clause-exact : goal.returns-in_default-leaf_of-clause-exact
returns-in_default-leaf_of-clause-exact c = rw c.bad_token-in_default-leaf_of.ensures (refuses_one is_leaf c.args.depth c.args.tokens.now
    (at_token is_leaf false c.in-Some.first c.args.tokens.now c.in-Some.rest.now c.in-Some.ensures
    (leaf_none c.in-Some.first.place c.in-Some.first.kind (sym c.in_default-leaf_of.ensures))))

pub returns-clause-exact : goal.returns-clause-exact
returns-clause-exact c = read_as (read_one is_leaf c.in-Some.first.kind c.in-Some.first c.args.depth c.args.tokens.now c.in-Some.rest.now c.in-Some.ensures
    (leaf_some c.in-Some.first.place c.in-Some.first.kind c.in-Some-leaf_of.operand (sym c.in-Some-leaf_of.ensures)) refl)
    (sym (leaf_tokens c.in-Some.first.place c.in-Some.first.kind c.in-Some-leaf_of.operand (sym c.in-Some-leaf_of.ensures)))

pub returns-clause-grouped : goal.returns-clause-grouped
returns-clause-grouped c = λ h. leaf_grouped h c.in-Some.first.place c.in-Some.first.kind c.in-Some-leaf_of.operand (sym c.in-Some-leaf_of.ensures)
