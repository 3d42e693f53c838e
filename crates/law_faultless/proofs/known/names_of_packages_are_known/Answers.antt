-- The answers to the goals of `known::names_of_packages_are_known`.
use Rattle.law_faultless.proofs.GlobalsKnown.{global_known}
use Rattle.law_faultless.proofs.known.names_of_packages_are_known.Goals as goal

pub returns : goal.returns
returns c = λ p files_of file f s is n m e c. global_known p files_of file f s is n m e c
