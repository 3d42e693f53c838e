-- The answers to the goals of `publications::lines_of`.
use Rattle.std.proofs.Common.{◌≡◌, false, string_bytes, subst, sym}
use Rattle.serde_json.specs.View.{view}
use Rattle.serde_json.specs.Written.{has_float}
use Rattle.serde_json.specs.declared.value.Value.{Value}
use Rattle.lsp_editor.proofs.Keeping.{line_free, lines_next}
use Rattle.lsp_editor.proofs.publications.lines_of.Goals as goal

pub push_line-requires : goal.push_line-requires
push_line-requires c =
    subst (λ (fault : Value). has_float (view fault) ≡ false) (sym c.fault-item.is)
    (line_free c.args.faults.now c.loop-fault.fault-index c.fault-item.result c.requires c.loop-fault-test.true)

pub loop-fault-preserved : goal.loop-fault-preserved
loop-fault-preserved c =
    lines_next c.args.faults.now c.loop-fault.fault-index c.fault-item.result (string_bytes c.loop-fault.lines) (string_bytes c.push_line.new.lines)
    c.loop-fault-test.true c.fault-item.is c.in_ok-push_line.ensures c.loop-fault.invariant
