-- The answers to the goals of `diagnostics::faults_of`.
use Rattle.std.proofs.Common.{map}
use Rattle.serde_json.specs.View.{view}
use Rattle.lsp_told.specs.Diagnostics.{faults_at}
use Rattle.lsp_told.proofs.OneMore.{flat_next}
use Rattle.lsp_told.proofs.diagnostics.faults_of.Goals as goal

pub loop-fault-preserved : goal.loop-fault-preserved
loop-fault-preserved c =
    flat_next (faults_at c.args.telling c.args.name.now c.args.text.now) c.args.faults.now c.loop-fault.fault-index c.fault-item.result
    (map view c.loop-fault.values.items) (map view c.push_fault.new.values.items) c.loop-fault-test.true c.fault-item.is
    c.in_ok-push_fault.ensures c.loop-fault.invariant
