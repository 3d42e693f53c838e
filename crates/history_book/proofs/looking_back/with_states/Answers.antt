-- The view is the one of before, with the states.
use Rattle.std.proofs.Common.{◌≡◌, Some, refl, sym, ap, subst}
use Rattle.history_machine.specs.Machine.{IsViewOf}
use Rattle.history_machine.specs.declared.view.View.{View}
use Rattle.history_book.proofs.looking_back.with_states.Goals as goal

pub returns : goal.returns
returns c =
    let m = c.args.content.now in
    let shown = c.in_ok-shown.shown in
    let same = ap (λ (v : View). record v { history = Some shown }) c.requires.0 in
    subst (λ (v : View). IsViewOf m v × (m ≡ m)) (sym c.new.ensures) ((same, c.in_ok-shown.ensures), refl)
