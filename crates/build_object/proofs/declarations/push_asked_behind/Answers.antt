-- The answers to the goals of `declarations::push_asked_behind`.
use Rattle.std.proofs.Common.{map, refl}
use Rattle.std.specs.List.{flat_map}
use Rattle.build_object.specs.DeclarationsView.{asked_view}
use Rattle.build_object.specs.ObjectText.{asked_behind}
use Rattle.build_object.specs.PackagesView.{type_in}
use Rattle.build_object.proofs.Loops.{rest_step, rest_end}
use Rattle.build_object.proofs.declarations.push_asked_behind.Goals as goal

pub loop-line-preserved : goal.loop-line-preserved
loop-line-preserved c =
    let names = type_in c.args.packages.now in
    rest_step (λ xs. flat_map (asked_behind names) (map asked_view xs)) (λ x. asked_behind names (asked_view x)) (λ x xs. refl) _ c.loop-line.text.items
    c.push_asked.new.text.items c.args.lines.now c.loop-line.line-index c.line-item.result c.loop-line-test.true c.line-item.is c.loop-line.invariant
    c.in_ok-push_asked.ensures

pub returns : goal.returns
returns c = rest_end (λ xs. flat_map (asked_behind (type_in c.args.packages.now)) (map asked_view xs)) refl _ c.loop-line.text.items c.args.lines.now
    c.loop-line.line-index c.loop-line-test.false c.loop-line.invariant
