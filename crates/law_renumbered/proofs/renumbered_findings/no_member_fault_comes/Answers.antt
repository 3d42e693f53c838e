-- The answers to the goals of `renumbered_findings::no_member_fault_comes`.
use Rattle.law_renumbered.proofs.Laws.{no_member_fault_comes}
use Rattle.law_renumbered.proofs.renumbered_findings.no_member_fault_comes.Goals as goal

pub returns : goal.returns
returns c = no_member_fault_comes
