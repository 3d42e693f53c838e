-- Each state at rest that is kept is one step.
use Rattle.std.proofs.Common.{◌≡◌, length, ap, ◌∙◌, arith}
use Rattle.history_machine.specs.Machine.{Content}
use Rattle.history_book.proofs.CurrentChanged.{earlier_count}
use Rattle.history_book.proofs.content.Content.undo_steps.Goals as goal

pub returns : goal.returns
returns c =
    let h = c.self.inside.history in
    let kept : c.len.result ≡ length h.earlier.items = omega (arith, c.len.ensures, h.earlier.ok.0) in
    kept ∙ earlier_count h c.self.invariant.1 ∙ ap (λ (x : Content). length x.earlier) c.self.view_is
