-- The answers to the goals of `laws::verdicts_are_local`.
use Rattle.workspace_check.proofs.Local.{local_verdict, local_list, locally_checked, told_there}
use Rattle.workspace_check.proofs.laws.verdicts_are_local.Goals as goal

pub returns-clause-verdicts : goal.returns-clause-verdicts
returns-clause-verdicts c = λ w x p v own same h. local_verdict w x p v own same h

pub returns-clause-lists : goal.returns-clause-lists
returns-clause-lists c = λ w x p list own same h. local_list w x p list own same h

pub returns-clause-checked : goal.returns-clause-checked
returns-clause-checked c = λ w x p known k own same right h. locally_checked w x p known k own same right h

pub returns-clause-known : goal.returns-clause-known
returns-clause-known c = λ w x p one own same told. told_there w x p one own same told
