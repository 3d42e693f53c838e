-- The answers to the goals of `names::initializers`.
use Rattle.std.proofs.Common.{arith, map}
use Rattle.go_ast.specs.SourceFile.{source_of}
use Rattle.build_object.proofs.NameParts.{count_step, count_end}
use Rattle.build_object.proofs.names.initializers.Goals as goal

pub loop-i-preserved : goal.loop-i-preserved
loop-i-preserved c = record {
  counted = count_step (map source_of c.args.files.now) c.loop-i.number c.initializers_with-number.result c.args.functions.now c.loop-i.i
      c.index-functions-i.result _ (omega arith) c.index-functions-i.is c.loop-i.invariant.counted c.initializers_with-number.ensures.counted;
  bounded = omega (arith, c.initializers_with-number.ensures.bounded);
}

pub returns : goal.returns
returns c =
    count_end (map source_of c.args.files.now) c.loop-i.number c.args.functions.now c.loop-i.i _ (omega arith) c.loop-i.invariant.counted
