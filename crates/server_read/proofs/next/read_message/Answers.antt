-- The answers to the goals of `next::read_message`.
use Rattle.std.proofs.Common.{refl, sym, ◌∙◌}
use Rattle.std.proofs.lemmas.Bool.{false≢true}
use Rattle.server_read.proofs.Nexts.{next_end, next_unknown, next_line, next_stops}
use Rattle.server_read.proofs.next.read_message.Goals as goal

pub returns-in-Ok-Whole-clause-next : goal.returns-in-Ok-Whole-clause-next
returns-in-Ok-Whole-clause-next g c =
    next_end c.args.limits.now (g.S.ByteSource.remaining c.args.source.now) (g.S.ByteSource.remaining c.read_line.new.source) c.deref.result.now
    (rw c.deref.ensures.value (rw c.in-Ok-Whole.field-0-is at c.in-Ok-Whole.ensures.line))
    (c.if-is_end.ensures.0 refl)

pub returns-in-None-clause-next : goal.returns-in-None-clause-next
returns-in-None-clause-next g c =
    next_unknown c.args.limits.now (g.S.ByteSource.remaining c.args.source.now) (g.S.ByteSource.remaining c.read_line.new.source)
    c.deref-in-Ok-Whole-2.result.now
    (rw c.deref-in-Ok-Whole-2.ensures.value (rw c.in-Ok-Whole.field-0-is at c.in-Ok-Whole.ensures.line))
    (λ e. false≢true (c.if-is_end.ensures.1 (c.deref.ensures.value ∙ sym c.deref-in-Ok-Whole-2.ensures.value ∙ e)))
    c.in-None.ensures

pub returns-in-Some-clause-next : goal.returns-in-Some-clause-next
returns-in-Some-clause-next g c =
    next_line c.args.limits.now (g.S.ByteSource.remaining c.args.source.now) (g.S.ByteSource.remaining c.read_line.new.source)
    (g.S.ByteSource.remaining c.command_after.new.source)
    c.deref-in-Ok-Whole-2.result.now c.in-Some.command c.command_after.result
    (rw c.deref-in-Ok-Whole-2.ensures.value (rw c.in-Ok-Whole.field-0-is at c.in-Ok-Whole.ensures.line))
    c.in-Some.ensures c.command_after.ensures.line

pub returns-in-Err-clause-next : goal.returns-in-Err-clause-next
returns-in-Err-clause-next g c =
    next_stops c.args.limits.now (g.S.ByteSource.remaining c.args.source.now) (g.S.ByteSource.remaining c.read_line.new.source) c.in-Err.fault
    c.in-Err.ensures.line
