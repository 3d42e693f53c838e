-- The answers to the goals of `laws::closures_stay`.
use Rattle.refs_lookup.proofs.Reached.{same_closure}
use Rattle.refs_lookup.proofs.closure_laws.closures_stay.Goals as goal

pub returns : goal.returns
returns c = λ w x p keeps. same_closure w x p keeps
