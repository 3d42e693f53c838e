-- The answer to the goal of `bare_imports::imports_without_a_name_may_gain_one`.
use Rattle.law_rename.proofs.Finding.{gains}
use Rattle.law_rename.proofs.bare_imports.imports_without_a_name_may_gain_one.Goals as goal

pub returns : goal.returns
returns c = gains
