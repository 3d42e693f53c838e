-- The answers to the goals of `known::functions_of_files_are_balanced`.
use Rattle.law_faultless.proofs.WholeKnown.{whole_balanced}
use Rattle.law_faultless.proofs.known.functions_of_files_are_balanced.Goals as goal

pub returns : goal.returns
returns c = λ arity p files_of file f s is source g at there settled. whole_balanced arity p files_of file f s is source g at there settled
