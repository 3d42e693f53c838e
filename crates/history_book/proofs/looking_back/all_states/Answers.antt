-- All states, in their order.
use Rattle.std.proofs.Common.{◌≡◌, [], ◌∷◌, ◌++◌, map, ap, ◌∙◌}
use Rattle.history_machine.specs.Machine.{seen, seen_states}
use Rattle.history_machine.specs.Resting.{seen_resting}
use Rattle.history_book.proofs.SeenStates.{all_seen}
use Rattle.history_book.proofs.looking_back.all_states.Goals as goal

pub returns : goal.returns
returns c =
    let h = c.content.inside.history in
    let behind : c.add_states.new.shown ≡ map seen_resting h.earlier.items =
    c.in_ok-add_states.ensures ∙ (λ i. c.new-shown.ensures i ++ map seen_resting (c.deref.ensures.value i)) in
    let here : c.push.new.self ≡ map seen_resting h.earlier.items ++ seen h.current ∷ [] =
    c.in_ok-push.ensures ∙ (λ i. behind i ++ c.in_ok-seen.ensures i ∷ []) in
    c.in_ok-add_states-2.ensures ∙ (λ i. here i ++ map seen_resting (c.deref-3.ensures.value i))
    ∙ all_seen h c.content.inside.limits c.content.inside.out c.content.invariant.1 ∙ ap seen_states c.content.view_is
