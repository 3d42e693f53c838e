-- The answers to the goals of `known::declared_locals_have_slots`.
use Rattle.law_faultless.proofs.SlotsKnown.{declared_known}
use Rattle.law_faultless.proofs.known.declared_locals_have_slots.Goals as goal

pub returns : goal.returns
returns c = λ w before f n a. declared_known w before f n a
