-- The answers to the goals of `copies::copy_types`.
use Rattle.std.proofs.Common.{ap, ◌∙◌, arith}
use Rattle.types_expr.specs.View.{type_of}
use Rattle.types_info.proofs.CopiedLists.{next_copy, all_copied}
use Rattle.types_info.proofs.copies.copy_types.Goals as goal

pub loop-own-preserved : goal.loop-own-preserved
loop-own-preserved c =
    next_copy type_of c.args.types.now c.loop-own.copy.items c.push.new.self.items c.loop-own.own-index c.own-item.result c.in_ok-next.next (omega arith)
    c.in_ok-push.ensures.items
    (c.in_ok-next.ensures ∙ ap type_of c.own-item.is) c.loop-own.invariant

pub returns : goal.returns
returns c = all_copied type_of c.args.types.now c.loop-own.copy.items c.loop-own.own-index (omega arith) c.loop-own.invariant
