-- The answers to the goals of `gained::declaration_moves_to_the_name`.
use Rattle.law_rename.proofs.Laying.{known_laid, unknown_laid}
use Rattle.law_rename.proofs.gained.declaration_moves_to_the_name.Goals as goal

pub returns-clause-known : goal.returns-clause-known
returns-clause-known c = known_laid

pub returns-clause-unknown : goal.returns-clause-unknown
returns-clause-unknown c = unknown_laid
