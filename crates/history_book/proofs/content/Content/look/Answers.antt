-- What the view shows is that of the current state, and each state at rest has its inverse.
use Rattle.std.proofs.Common.{◌≡◌, None, length, refl, ap, ◌∙◌, arith}
use Rattle.history_machine.specs.Machine.{Content, view_of}
use Rattle.history_machine.specs.declared.view.View.{View}
use Rattle.history_book.specs.Histories.{content_of}
use Rattle.history_book.proofs.CurrentChanged.{earlier_count, later_count}
use Rattle.history_book.proofs.content.Content.look.Goals as goal

pub returns : goal.returns
returns c =
    let h = c.self.inside.history in
    let m : Content = content_of h c.self.inside.limits c.self.inside.out in
    let undo : c.len.result ≡ length h.earlier.items = omega (arith, c.len.ensures, h.earlier.ok.0) in
    let redo : c.len-2.result ≡ length h.later.items = omega (arith, c.len-2.ensures, h.later.ok.0) in
    let shown : ◌≡◌ {A = View} (record {
      snapshot = c.in_ok-snapshot.snapshot;
      finished = c.in_ok-snapshot.finished;
      undo = c.len.result;
      redo = c.len-2.result;
      history = None;
    }) (view_of m None) =
    (λ i. record {
      snapshot = c.in_ok-snapshot.ensures.snapshot i;
      finished = c.in_ok-snapshot.ensures.finished i;
      undo = (undo ∙ earlier_count h c.self.invariant.1) i;
      redo = (redo ∙ later_count h c.self.invariant.1) i;
      history = None;
    }) in
    ((shown ∙ ap (λ (x : Content). view_of x None) c.self.view_is, tt), refl)
