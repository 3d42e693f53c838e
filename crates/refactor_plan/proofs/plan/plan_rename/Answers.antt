-- The answers to the goals of `plan::plan_rename`.
use Rattle.std.proofs.Common.{rules, subst}
use Rattle.refs_binding.specs.Uses.{HasFileAt}
use Rattle.refactor_rename.specs.NewName.{IsNewName}
use Rattle.refactor_plan.specs.Steps.{PlansAtByte}
use Rattle.refactor_plan.proofs.Planned.{planned}
use Rattle.refactor_preserve.specs.Planned.{change_in}
use Rattle.refactor_plan.proofs.plan.plan_rename.Goals as goal

pub returns-clause-planned : goal.returns-clause-planned
returns-clause-planned c =
    let snapshot = c.args.snapshot.now in
    let path = c.args.path.now in
    let name = c.args.name.now in
    let is : HasFileAt snapshot.files path = search rules in
    let form : IsNewName name = search rules in
    planned snapshot path c.args.offset name is form (change_in c.plan_in.result)
    (subst (λ n. PlansAtByte snapshot path c.args.offset n (change_in c.plan_in.result)) c.as_bytes.ensures.value
    (subst (λ p. PlansAtByte snapshot p c.args.offset c.as_bytes.result.now (change_in c.plan_in.result)) c.in_ok-path.ensures.0 c.plan_in.ensures.planned))

pub returns-clause-known : goal.returns-clause-known
returns-clause-known c = c.plan_in.ensures.known
