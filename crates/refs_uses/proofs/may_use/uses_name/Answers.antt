-- The answers to the goals of `may_use::uses_name`.
use Rattle.std.proofs.Common.{inl, inr, ap}
use Rattle.std.proofs.lemmas.Bool.{cases_Bool}
use Rattle.go_scope.specs.Named.{name_value}
use Rattle.refs_binding.specs.Workspaces.{known_in}
use Rattle.refs_uses.proofs.MayUse.{one_used, one_spelled}
use Rattle.refs_uses.proofs.may_use.uses_name.Goals as goal

pub returns-in-None : goal.returns-in-None
returns-in-None c = λ p is file token d m named. elim (cases_Bool c.uses_members.result) [
  | inl holds ↦ holds
  | inr none ↦ absurd (one_used c.args.workspace.now.graph (known_in c.args.workspace.now.findings) c.has_no_faults.ensures.findings.right
      c.args.number p is c.members_of-uses.result.now
      (c.members_of-uses.ensures p is) file token d m (c.uses_members.ensures none file))
]

pub returns-in-Some : goal.returns-in-Some
returns-in-Some c = λ p is file token d m named. elim (cases_Bool c.is_any_spelled.result) [
  | inl holds ↦ holds
  | inr none ↦ absurd (one_spelled c.args.workspace.now.graph (known_in c.args.workspace.now.findings) c.has_no_faults.ensures.findings.right
      c.args.number p is c.members_of-uses.result.now
      (c.members_of-uses.ensures p is) file token d m c.trees.result.now (c.trees.ensures p.path is.has_number) c.in-Some.name.now
      (named c.in-Some.name.now (ap name_value c.in-Some.is)) (c.is_any_spelled.ensures none file))
]
