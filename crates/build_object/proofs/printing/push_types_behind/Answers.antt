-- The answers to the goals of `printing::push_types_behind`.
use Rattle.std.proofs.Common.{map, refl}
use Rattle.types_expr.specs.View.{type_of}
use Rattle.build_object.specs.PackagesView.{type_in}
use Rattle.build_object.specs.Text.{type_behind, types_behind}
use Rattle.build_object.proofs.Loops.{rest_step}
use Rattle.build_object.proofs.printing.push_types_behind.Goals as goal

pub loop-own-preserved : goal.loop-own-preserved
loop-own-preserved c =
    rest_step (λ xs. types_behind (type_in c.args.packages.now) c.args.separator.now (map type_of xs))
    (λ x. type_behind (type_in c.args.packages.now) c.args.separator.now (type_of x)) (λ x xs. refl) _ c.loop-own.text.items
    c.push_word_type.new.text.items c.args.types.now c.loop-own.own-index c.own-item.result c.loop-own-test.true c.own-item.is c.loop-own.invariant
    c.in_ok-push_word_type.ensures
