-- One file more, and all of them at the end.
use Rattle.std.proofs.Common.{◌≡◌, map, refl, ap, sym, ◌∙◌, arith}
use Rattle.std.proofs.lemmas.Bool.{true≢false}
use Rattle.std.proofs.lemmas.List.{take_all}
use Rattle.build_carry.specs.Inputs.{faulty_file}
use Rattle.build_carry.proofs.SameInputs.{alike_more, not_alike, same_length}
use Rattle.build_carry.proofs.same_inputs.are_same_faulty.Goals as goal

pub returns-then-faulty-others : goal.returns-then-faulty-others
returns-then-faulty-others c = (
  λ t. absurd (true≢false (sym t)),
  λ same. absurd (c.if-faulty-others.true (same_length faulty_file c.args.faulty.now c.args.others.now same)),
)

pub loop-place-init : goal.loop-place-init
loop-place-init c = refl

pub loop-place-preserved : goal.loop-place-preserved
loop-place-preserved c =
    let xs = c.args.faulty.now in
    let ys = c.args.others.now in
    let k = c.loop-place.place in
    let f = c.index-faulty-place.result in
    let g = c.index-others-place.result in
    let both = c.is_same_file.ensures.0 c.if-not-is_same_file.false in
    let path : f.path ≡ g.path = sym c.path.ensures ∙ both.0 ∙ c.path-in-loop-place.ensures in
    let text : f.text ≡ g.text = sym c.text.ensures ∙ both.1 ∙ c.text-in-loop-place.ensures in
    let is : faulty_file f ≡ faulty_file g = (λ i. (path i, text i)) in
    alike_more faulty_file xs ys k f g (omega arith) (omega (arith, c.if-faulty-others.false)) c.index-faulty-place.is c.index-others-place.is is
    c.loop-place.invariant

pub returns-then-not-is_same_file : goal.returns-then-not-is_same_file
returns-then-not-is_same_file c =
    let xs = c.args.faulty.now in
    let ys = c.args.others.now in
    let k = c.loop-place.place in
    let f = c.index-faulty-place.result in
    let g = c.index-others-place.result in (
      λ t. absurd (true≢false (sym t)),
      λ same. absurd (not_alike faulty_file xs ys k f g (omega arith) (omega (arith, c.if-faulty-others.false)) c.index-faulty-place.is c.index-others-place.is
          (λ is. true≢false (sym (c.is_same_file.ensures.1 (
            c.path.ensures ∙ ap (λ e. e.0) is ∙ sym c.path-in-loop-place.ensures,
            c.text.ensures ∙ ap (λ e. e.1) is ∙ sym c.text-in-loop-place.ensures,
          )) ∙ c.if-not-is_same_file.true)) same),
    )

pub returns : goal.returns
returns c =
    let k = c.loop-place.place in (
      λ _. ap (map faulty_file) (sym (take_all k c.args.faulty.now (omega arith))) ∙ c.loop-place.invariant ∙
          ap (map faulty_file) (take_all k c.args.others.now (omega (arith, c.if-faulty-others.false))),
      λ _. refl,
    )
