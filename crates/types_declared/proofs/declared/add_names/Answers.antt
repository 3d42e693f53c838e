-- The answers to the goals of `declared::add_names`.
use Rattle.std.proofs.Common.{arith}
use Rattle.types_declared.specs.DeclaredView.{variable_of}
use Rattle.types_declared.proofs.Appending.{appends_as, appends_all, appends_step, appends_one}
use Rattle.types_declared.proofs.DeclaredParts.{name_part, names_from}
use Rattle.types_declared.proofs.declared.add_names.Goals as goal

pub loop-name-preserved : goal.loop-name-preserved
loop-name-preserved c =
    appends_step variable_of c.args.found.now.items c.loop-name.found.items c.push.new.self.items (name_part c.args.file c.args.spec.now)
    c.deref-name-items.result.now c.loop-name.name-index _
    (omega arith) c.loop-name.invariant (appends_one variable_of c.loop-name.found.items c.push.new.self.items _ c.in_ok-push.ensures.items)

pub returns : goal.returns
returns c =
    appends_as variable_of c.args.found.now.items c.loop-name.found.items _ _
    (appends_all variable_of c.args.found.now.items c.loop-name.found.items (name_part c.args.file c.args.spec.now) c.deref-name-items.result.now
    c.loop-name.name-index (omega arith) c.loop-name.invariant)
    (names_from c.args.file c.args.spec.now c.deref-name-items.result.now c.deref-name-items.ensures.value)
