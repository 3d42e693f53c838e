-- One more edit, and all of them at the end.
use Rattle.std.proofs.Common.{◌≡◌, ◌+◌, ◌∷◌, List, drop, take, get_or, sym, subst, arith}
use Rattle.std.specs.List.{All}
use Rattle.std.proofs.lemmas.List.{drop_all, take_all}
use Rattle.std.proofs.lemmas.List.Elements.{All-more, All-nil}
use Rattle.base_edits.specs.Edits.{AreInOrder}
use Rattle.base_edits.specs.declared.edit.Edit.{Edit}
use Rattle.base_edits.proofs.Steps.{drop_next}
use Rattle.go_respelled.specs.Replaced.{ReplacesToken}
use Rattle.go_respelled.proofs.token_edits.replace_tokens.Goals as goal

pub loop-edit-init : goal.loop-edit-init
loop-edit-init c = record { order = λ order. order; tokens = All-nil (ReplacesToken c.args.old.now) }

pub loop-edit-preserved : goal.loop-edit-preserved
loop-edit-preserved c =
    let edits = c.args.edits.now in
    let k = c.loop-edit.edit-index in
    let e = c.edit-item.result in
    let is = c.in_ok-replaces.ensures c.if-not-replaces.false in
    let left : drop k edits ≡ e ∷ drop (k + 1) edits = drop_next edits k e c.loop-edit-test.true c.edit-item.is in
    record {
      order = λ order. c.loop-edit.invariant.order (subst (AreInOrder c.loop-edit.at) (sym left) (is.0, is.1, order));
      tokens = All-more (ReplacesToken c.args.old.now) edits k e c.loop-edit-test.true c.loop-edit.invariant.tokens
          (subst (ReplacesToken c.args.old.now) c.edit-item.is is.2);
    }

pub returns : goal.returns
returns c = λ _.
    let edits = c.args.edits.now in
    let k = c.loop-edit.edit-index in
    record {
      order = c.loop-edit.invariant.order (subst (AreInOrder c.loop-edit.at) (sym (drop_all k edits (omega (arith, c.loop-edit-test.false)))) tt);
      tokens = subst (All (ReplacesToken c.args.old.now)) (take_all k edits (omega (arith, c.loop-edit-test.false))) c.loop-edit.invariant.tokens;
    }
