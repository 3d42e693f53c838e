-- The answers to the goals of `workspace_uses::uses`.
use Rattle.std.proofs.Common.{rules, subst}
use Rattle.refs_binding.specs.Uses.{HasFileAt}
use Rattle.refs_binding.specs.Workspaces.{AnswersUsesIn}
use Rattle.refs_binding.proofs.Refusing.{uses_of_file}
use Rattle.refs_uses.proofs.workspace_uses.uses.Goals as goal

pub returns : goal.returns
returns c =
    let w = c.args.graph.now in
    let is : HasFileAt w c.args.path.now = search rules in
    uses_of_file w c.args.path.now c.args.offset is c.uses_in.result
    (subst (λ p. AnswersUsesIn w p c.args.offset c.uses_in.result) c.in_ok-path.ensures.0 c.uses_in.ensures)
