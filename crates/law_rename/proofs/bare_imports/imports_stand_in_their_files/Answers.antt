-- The answers to the goals of `bare_imports::imports_stand_in_their_files`.
use Rattle.law_rename.proofs.Standing.{import_among, import_stands}
use Rattle.law_rename.proofs.bare_imports.imports_stand_in_their_files.Goals as goal

pub returns-clause-found : goal.returns-clause-found
returns-clause-found c = import_stands

pub returns-clause-among : goal.returns-clause-among
returns-clause-among c = import_among
