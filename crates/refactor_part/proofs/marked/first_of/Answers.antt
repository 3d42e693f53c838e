-- The first fault of the list.
use Rattle.std.proofs.Common.{◌∙◌, ap}
use Rattle.std.specs.Prelude.{slice_get}
use Rattle.refactor_part.proofs.FaultOrder.{first_told}
use Rattle.refactor_part.proofs.marked.first_of.Goals as goal

pub returns : goal.returns
returns c = first_told c.args.finding.now.faults.items c.first.result (c.first.ensures.value ∙ ap (λ l. slice_get l 0) c.deref.ensures.value)
