-- The answers to the goals of `coupling::add_coupled`.
use Rattle.std.proofs.Common.{refl}
use Rattle.std.proofs.lemmas.Result.{on_ok_weaker}
use Rattle.refactor_coupled.proofs.RenamedSets.{found_coupled}
use Rattle.refactor_coupled.proofs.coupling.add_coupled.Goals as goal

pub returns : goal.returns
returns c =
    on_ok_weaker c.add_reached.result (λ h. found_coupled c.args.workspace.now c.has_no_faults.ensures _ c.args.symbol.now c.in_ok-reached.reached
    c.in_ok-reached.ensures c.types_of.ensures refl refl c.requires c.args.set.now.items c.add_reached.new.set.items h) c.add_reached.ensures
