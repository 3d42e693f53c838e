-- The count alone changes.
use Rattle.std.proofs.Common.{◌+◌, ◌^◌, ◌≤◌, ap, sym, subst, arith}
use Rattle.history_machine.specs.Machine.{Content}
use Rattle.history_book.proofs.content.Content.count_closed.Goals as goal

pub overflow_add-self : goal.overflow_add-self
overflow_add-self c =
    let most = subst (λ (x : Content). x.begun + c.args.entries ≤ 2 ^ 63) (sym c.self.view_is) c.requires in
    omega (arith, most)

pub invariant_of-self : goal.invariant_of-self
invariant_of-self c =
    let keeps = c.self.invariant.1 in
    (c.self.invariant.0, record { stands = keeps.stands; earlier = keeps.earlier; later = keeps.later; count = keeps.count }, c.self.invariant.2)

pub returns : goal.returns
returns c = ap (λ (x : Content). record x { begun = x.begun + c.args.entries }) c.self.view_is
