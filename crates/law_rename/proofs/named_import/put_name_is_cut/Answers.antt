-- The answers to the goals of `named_import::put_name_is_cut`.
use Rattle.law_rename.proofs.Putting.{put_apart, put_joined}
use Rattle.law_rename.proofs.named_import.put_name_is_cut.Goals as goal

pub returns-clause-apart : goal.returns-clause-apart
returns-clause-apart c = put_apart

pub returns-clause-joined : goal.returns-clause-joined
returns-clause-joined c = put_joined
