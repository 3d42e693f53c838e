-- The answers to the goals of `worlds::undeclared_names_are_few`.
use Rattle.law_faultless.proofs.AllBound.{no_declaration}
use Rattle.law_faultless.proofs.worlds.undeclared_names_are_few.Goals as goal

pub returns : goal.returns
returns c = λ w sound path offset h. no_declaration w sound path offset h
