-- The answers to the goals of `named_imports::imports_keep_paths`.
use Rattle.law_gained_names.proofs.Literals.{imports_keep_paths}
use Rattle.law_gained_names.proofs.named_imports.imports_keep_paths.Goals as goal

pub returns : goal.returns
returns c = imports_keep_paths
