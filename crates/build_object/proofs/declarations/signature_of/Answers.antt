-- The answers to the goals of `declarations::signature_of`.
use Rattle.std.proofs.Common.{refl}
use Rattle.build_object.proofs.declarations.signature_of.Goals as goal

pub returns : goal.returns
returns c = record { named = refl; parameters = c.in_ok-parameters.ensures; results = c.in_ok-results.ensures; slot_count = refl }
