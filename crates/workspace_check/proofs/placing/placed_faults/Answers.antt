-- The answers to the goals of `placing::placed_faults`.
use Rattle.std.proofs.Common.{◌↔◌, refl, subst, arith}
use Rattle.std.specs.Prelude.{Contains}
use Rattle.std.proofs.lemmas.List.{take_all}
use Rattle.workspace_check.specs.Steps.{IsSomePlacedFault}
use Rattle.workspace_check.proofs.Placed.{none_placed, next_placed}
use Rattle.workspace_check.proofs.placing.placed_faults.Goals as goal

pub loop-fault-init : goal.loop-fault-init
loop-fault-init c = λ f. none_placed c.args.files.now _ c.new-found.result.items refl c.new-found.ensures.items f

pub loop-fault-preserved : goal.loop-fault-preserved
loop-fault-preserved c = λ f.
    next_placed c.args.files.now c.args.faults.now c.loop-fault.fault-index _ _ (omega arith) refl c.loop-fault.found.items c.add_placed.new.found.items
    c.loop-fault.invariant
    c.in_ok-add_placed.ensures f

pub returns : goal.returns
returns c = λ f.
    subst (λ l. Contains c.loop-fault.found.items f ↔ IsSomePlacedFault c.args.files.now l f) (take_all c.loop-fault.fault-index c.args.faults.now (omega
    arith))
    (c.loop-fault.invariant f)
