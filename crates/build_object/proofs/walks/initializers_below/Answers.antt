-- One function more.
use Rattle.std.proofs.Common.{◌<◌, arith, length, map, ◌∙◌}
use Rattle.go_ast.specs.SourceFile.{source_of}
use Rattle.types_declared.specs.DeclaredView.{function_of as placed_function}
use Rattle.types_declared.specs.Package.{declared_functions}
use Rattle.build_object.proofs.Walking.{one_initializer_more, none_within}
use Rattle.build_object.proofs.walks.initializers_below.Goals as goal
use Rattle.build_object.proofs.walks.initializers_below.Goals.{in-Some, in-None}

pub loop-below-preserved : goal.loop-below-preserved
loop-below-preserved c =
    let files = map source_of c.args.files.now in
    let i = c.loop-below.below in
    elim c.match-function_at.branch [
      | in-None w ↦ absurd (none_within (declared_functions files) i w.in-None.ensures
          (let lt : i < length (declared_functions files) = omega (arith, c.requires, c.loop-below-test.true) in lt))
      | in-Some w ↦ record {
        counted = w.number-is ∙ one_initializer_more files (declared_functions files) i c.loop-below.number w.initializers_with-number.result
            (placed_function w.in-Some.function) w.in-Some.ensures c.loop-below.invariant.counted w.initializers_with-number.ensures.counted;
        bounded = omega (arith, w.number-is, w.initializers_with-number.ensures.bounded, c.loop-below.invariant.bounded);
      }
    ]
