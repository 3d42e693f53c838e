-- The answers to the goals of `laws::imports_agree`.
use Rattle.std.proofs.Common.{sym}
use Rattle.workspace_check.proofs.Importing.{literals_agree}
use Rattle.refs_lookup.proofs.closure_laws.imports_agree.Goals as goal

pub returns : goal.returns
returns c = λ t. sym (literals_agree t.imports)
