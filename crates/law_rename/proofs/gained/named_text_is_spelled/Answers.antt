-- The answers to the goals of `gained::named_text_is_spelled`.
use Rattle.law_rename.proofs.Spelling.{spelled_kept, spelled_name, spelled_path}
use Rattle.law_rename.proofs.gained.named_text_is_spelled.Goals as goal

pub returns-clause-kept : goal.returns-clause-kept
returns-clause-kept c = spelled_kept

pub returns-clause-name : goal.returns-clause-name
returns-clause-name c = spelled_name

pub returns-clause-path : goal.returns-clause-path
returns-clause-path c = spelled_path
