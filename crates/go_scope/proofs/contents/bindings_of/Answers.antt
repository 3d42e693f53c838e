-- The answers to the goals of `contents::bindings_of`.
use Rattle.go_scope.specs.Numbering.{numerals}
use Rattle.go_scope.specs.Table.{layout_of}
use Rattle.go_scope.proofs.Kept.{bindings_none, bindings_next}
use Rattle.go_scope.proofs.contents.bindings_of.Goals as goal

pub loop-u-init : goal.loop-u-init
loop-u-init c = bindings_none (layout_of c.args.identifiers.now) (numerals c.args.names.now) c.in_ok-found.found.items c.in_ok-found.ensures.items

pub loop-u-preserved : goal.loop-u-preserved
loop-u-preserved c =
    bindings_next (layout_of c.args.identifiers.now) (numerals c.args.names.now) c.loop-u.u c.loop-u.found.items c.push.new.self.items c.bound_to.result
    c.loop-u.invariant c.in_ok-push.ensures.items c.bound_to.ensures
