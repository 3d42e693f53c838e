-- Each state at rest that is kept is one step.
use Rattle.std.proofs.Common.{◌≡◌, length, ap, ◌∙◌, arith}
use Rattle.history_machine.specs.Machine.{Content}
use Rattle.history_book.proofs.CurrentChanged.{later_count}
use Rattle.history_book.proofs.content.Content.redo_steps.Goals as goal

pub returns : goal.returns
returns c =
    let h = c.self.inside.history in
    let kept : c.len.result ≡ length h.later.items = omega (arith, c.len.ensures, h.later.ok.0) in
    kept ∙ later_count h c.self.invariant.1 ∙ ap (λ (x : Content). length x.later) c.self.view_is
