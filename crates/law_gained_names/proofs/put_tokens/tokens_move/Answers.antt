-- The answers to the goals of `put_tokens::tokens_move`.
use Rattle.law_gained_names.proofs.Offsets.{classes_kept, offsets_move}
use Rattle.law_gained_names.proofs.put_tokens.tokens_move.Goals as goal

pub returns-clause-offsets : goal.returns-clause-offsets
returns-clause-offsets c = offsets_move

pub returns-clause-classes : goal.returns-clause-classes
returns-clause-classes c = classes_kept
