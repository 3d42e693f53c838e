-- The answer to the goal of `bare_imports::literals_stand_behind_no_other_word`.
use Rattle.law_rename.proofs.Apart.{literal_apart}
use Rattle.law_rename.proofs.bare_imports.literals_stand_behind_no_other_word.Goals as goal

pub returns : goal.returns
returns c = literal_apart
