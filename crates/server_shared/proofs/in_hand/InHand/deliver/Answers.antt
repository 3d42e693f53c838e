-- The Job that comes back is the one that was delivered.
use Rattle.std.proofs.Common.{subst, sym}
use Rattle.history_book.specs.Handed.{handed}
use Rattle.history_book.specs.declared.handed.Handed.{Handed}
use Rattle.server_shared.specs.Working.{ComesBack}
use Rattle.server_shared.proofs.in_hand.InHand.deliver.Goals as goal

pub returns-in-Done : goal.returns-in-Done
returns-in-Done g c =
    (handed c.deliver.result, c.deliver.ensures.step, subst (λ (x : Handed). ¬ (ComesBack (handed x))) (sym c.in-Done.is) (λ none. none))

pub returns-in-Refused : goal.returns-in-Refused
returns-in-Refused g c =
    (handed c.deliver.result, c.deliver.ensures.step, subst (λ (x : Handed). ¬ (ComesBack (handed x))) (sym c.in-Refused.is) (λ none. none))

pub returns-in-Back : goal.returns-in-Back
returns-in-Back g c =
    let kind = rw c.in-Back.is at c.deliver.ensures.kind in
    let back : ComesBack (handed c.deliver.result) = subst (λ (x : Handed). ComesBack (handed x)) (sym c.in-Back.is) tt in
    (handed c.deliver.result, c.deliver.ensures.step, (back, kind.0))
