-- The answers to the goals of `laws::package_files_have_own_paths`.
use Rattle.law_tokens.proofs.OwnPaths.{package_sources, own_paths}
use Rattle.law_tokens.proofs.laws.package_files_have_own_paths.Goals as goal

pub returns : goal.returns
returns c = record { sources = (λ w path ts parsed. package_sources w path ts parsed); paths = (λ w path ts parsed. own_paths w path ts parsed) }
