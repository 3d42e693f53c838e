-- The answer to the goal of `bare_imports::bare_imports_declare`.
use Rattle.law_gained_names.proofs.BareImportsLaws.{bare_imports_declare}
use Rattle.law_gained_names.proofs.bare_imports.bare_imports_declare.Goals as goal

pub returns : goal.returns
returns c = bare_imports_declare
