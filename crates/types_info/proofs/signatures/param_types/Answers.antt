-- The answers to the goals of `signatures::param_types`.
use Rattle.std.proofs.Common.{arith, ◌∙◌}
use Rattle.types_info.specs.SignatureView.{tree_of}
use Rattle.types_declared.proofs.Appending.{appends_all, appends_next, from_none}
use Rattle.types_info.proofs.SignatureParts.{param_part, params_from}
use Rattle.types_info.proofs.signatures.param_types.Goals as goal

pub loop-param-preserved : goal.loop-param-preserved
loop-param-preserved c =
    appends_next tree_of c.new-found.result.items c.loop-param.found.items c.add_param.new.found.items param_part c.args.params.now c.loop-param.param-index
    c.param-item.result (omega arith) c.param-item.is
    c.loop-param.invariant c.in_ok-add_param.ensures

pub returns : goal.returns
returns c =
    from_none tree_of c.new-found.result.items c.loop-param.found.items _ c.new-found.ensures.items
    (appends_all tree_of c.new-found.result.items c.loop-param.found.items param_part c.args.params.now c.loop-param.param-index (omega arith)
    c.loop-param.invariant) ∙ params_from c.args.params.now
