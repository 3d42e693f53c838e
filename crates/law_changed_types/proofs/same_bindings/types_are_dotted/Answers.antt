-- The answer to the goal of `same_bindings::types_are_dotted`.
use Rattle.law_changed_types.proofs.Dotted.{types_dotted}
use Rattle.law_changed_types.proofs.same_bindings.types_are_dotted.Goals as goal

pub returns : goal.returns
returns c = types_dotted
