-- One state more rests, and the oldest is gone where there are more than the history keeps.
use Rattle.std.proofs.Common.{◌+◌, ◌++◌, ◌∷◌, [], refl, ap, ◌∙◌}
use Rattle.base_edits.specs.EditSet.{FileChanges}
use Rattle.history_inverses.specs.Inverses.{Inverses, latest}
use Rattle.history_book.specs.declared.states.States.{States}
use Rattle.history_book.proofs.Advanced.{gains_state, keeps_gained, few_left}
use Rattle.history_book.proofs.states.States.advance.Goals as goal

pub returns-clause-keeps : goal.returns-clause-keeps
returns-clause-keeps c =
    let h = c.args.self.now in
    let room = c.in_ok-reserve.ensures.ok in
    let pushed = c.push.ensures in
    let back = c.take_up.ensures in
    let new : States = record {
      earlier = c.keep_newest.new.states;
      current = c.replace.new.dest;
      later = c.clear.new.self;
      ways = c.push.new.self;
      next = h.next + 1;
      visit = h.visit + 1;
      begun = h.begun;
    } in
    keeps_gained h new c.requires.keeps c.args.next c.args.back c.requires.back c.in_ok-rest.rest c.in_ok-rest.ensures c.reserve.new.self room.behind room.depth
    (ap (λ (x : Inverses). x.behind) pushed ∙ ap (λ (b : FileChanges). latest c.reserve.new.self.depth (c.reserve.new.self.behind ++ b ∷ [])) back)
    (ap (λ (x : Inverses). x.ahead) pushed) (ap (λ (x : Inverses). x.depth) pushed) c.replace.ensures.after c.args.limits c.requires.depth
    (c.keep_newest.ensures.items ∙ ap (latest c.args.limits.undo_depth) (c.push_reserved.ensures.items
    ∙ ap (λ xs. xs ++ c.in_ok-rest.rest ∷ []) c.make_room_for_one.ensures.items))
    c.clear.ensures.items (few_left c.args.limits.undo_depth (h.earlier.items ++ c.in_ok-rest.rest ∷ []))

pub returns-clause-ok : goal.returns-clause-ok
returns-clause-ok c =
    let h = c.args.self.now in
    let room = c.in_ok-reserve.ensures.ok in
    let pushed = c.push.ensures in
    let back = c.take_up.ensures in
    let new : States = record {
      earlier = c.keep_newest.new.states;
      current = c.replace.new.dest;
      later = c.clear.new.self;
      ways = c.push.new.self;
      next = h.next + 1;
      visit = h.visit + 1;
      begun = h.begun;
    } in
    gains_state h new c.requires.keeps c.args.next c.args.back c.requires.back c.in_ok-rest.rest c.in_ok-rest.ensures c.reserve.new.self room.behind room.depth
    (ap (λ (x : Inverses). x.behind) pushed ∙ ap (λ (b : FileChanges). latest c.reserve.new.self.depth (c.reserve.new.self.behind ++ b ∷ [])) back)
    (ap (λ (x : Inverses). x.ahead) pushed) (ap (λ (x : Inverses). x.depth) pushed) c.replace.ensures.after c.args.limits c.requires.depth
    (c.keep_newest.ensures.items ∙ ap (latest c.args.limits.undo_depth) (c.push_reserved.ensures.items
    ∙ ap (λ xs. xs ++ c.in_ok-rest.rest ∷ []) c.make_room_for_one.ensures.items))
    c.clear.ensures.items c.requires.number refl refl refl
