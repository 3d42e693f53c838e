-- The answers to the goals of `faults::refuse_if_faulty`.
use Rattle.std.proofs.Common.{ℕ, ◌≡◌, List, [], subst}
use Rattle.std.specs.Prelude.{Some, slice_get}
use Rattle.workspace_check.specs.declared.finding.Finding.{Finding}
use Rattle.refs_binding.specs.Workspaces.{IsFaultless}
use Rattle.refs_binding.proofs.Refusing.{sound_unless_refused}
use Rattle.refs_binding.proofs.Units.{list_of_sound}
use Rattle.refs_binding.proofs.faults.refuse_if_faulty.Goals as goal

pub returns-then-are_faultless : goal.returns-then-are_faultless
returns-then-are_faultless c =
    let sound : IsFaultless c.args.graph.now c.args.found.now = record {
      findings = c.requires;
      sound =
          subst (λ (fs : List Finding). (n : ℕ) (f : Finding) → slice_get fs n ≡ Some f → f.faults.items ≡ []) c.deref.ensures.value
          (c.are_faultless.ensures c.if-are_faultless.true);
    } in
    record { first = list_of_sound c.args.graph.now c.args.found.now sound; sound = sound }

pub returns-else-are_faultless : goal.returns-else-are_faultless
returns-else-are_faultless c = record {
  first = c.refuse_first.ensures;
  sound = sound_unless_refused c.args.graph.now c.args.found.now c.requires c.refuse_first.result c.refuse_first.ensures;
}
