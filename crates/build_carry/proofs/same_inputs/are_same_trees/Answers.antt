-- One file more, and all of them at the end.
use Rattle.std.proofs.Common.{◌≡◌, map, refl, ap, sym, ◌∙◌, arith}
use Rattle.std.proofs.lemmas.Bool.{true≢false}
use Rattle.std.proofs.lemmas.List.{take_all}
use Rattle.go_scanner.specs.CutText.{CutText}
use Rattle.workspace_check.specs.Earlier.{tree_file}
use Rattle.build_carry.proofs.SameInputs.{alike_more, not_alike, same_length}
use Rattle.build_carry.proofs.same_inputs.are_same_trees.Goals as goal

pub returns-then-trees-others : goal.returns-then-trees-others
returns-then-trees-others c = (
  λ t. absurd (true≢false (sym t)),
  λ same. absurd (c.if-trees-others.true (same_length tree_file c.args.trees.now c.args.others.now same)),
)

pub loop-place-init : goal.loop-place-init
loop-place-init c = refl

pub loop-place-preserved : goal.loop-place-preserved
loop-place-preserved c =
    let xs = c.args.trees.now in
    let ys = c.args.others.now in
    let k = c.loop-place.place in
    let t = c.index-trees-place.result in
    let u = c.index-others-place.result in
    let both = c.is_same_file.ensures.0 c.if-not-is_same_file.false in
    let text : t.cut.text ≡ u.cut.text = sym (c.file.ensures.text ∙ ap (λ (x : CutText). x.text) c.pieces.ensures) ∙ both.1 ∙
    (c.file-in-loop-place.ensures.text ∙ ap (λ (x : CutText). x.text) c.pieces-in-loop-place.ensures) in
    let path : t.path ≡ u.path = sym c.path.ensures ∙ both.0 ∙ c.path-in-loop-place.ensures in
    let is : tree_file t ≡ tree_file u = (λ i. (path i, text i)) in
    alike_more tree_file xs ys k t u (omega arith) (omega (arith, c.if-trees-others.false)) c.index-trees-place.is c.index-others-place.is is
    c.loop-place.invariant

pub returns-then-not-is_same_file : goal.returns-then-not-is_same_file
returns-then-not-is_same_file c =
    let xs = c.args.trees.now in
    let ys = c.args.others.now in
    let k = c.loop-place.place in
    let t = c.index-trees-place.result in
    let u = c.index-others-place.result in (
      λ t. absurd (true≢false (sym t)),
      λ same. absurd (not_alike tree_file xs ys k t u (omega arith) (omega (arith, c.if-trees-others.false)) c.index-trees-place.is c.index-others-place.is
          (λ is. true≢false (sym (c.is_same_file.ensures.1 (
            c.path.ensures ∙ ap (λ e. e.0) is ∙ sym c.path-in-loop-place.ensures,
            (c.file.ensures.text ∙ ap (λ (x : CutText). x.text) c.pieces.ensures) ∙ ap (λ e. e.1) is ∙
                sym (c.file-in-loop-place.ensures.text ∙ ap (λ (x : CutText). x.text) c.pieces-in-loop-place.ensures),
          )) ∙ c.if-not-is_same_file.true)) same),
    )

pub returns : goal.returns
returns c =
    let k = c.loop-place.place in (
      λ _. ap (map tree_file) (sym (take_all k c.args.trees.now (omega arith))) ∙ c.loop-place.invariant ∙
          ap (map tree_file) (take_all k c.args.others.now (omega (arith, c.if-trees-others.false))),
      λ _. refl,
    )
