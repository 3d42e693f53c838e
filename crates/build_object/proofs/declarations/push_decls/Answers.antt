-- The answers to the goals of `declarations::push_decls`.
use Rattle.std.proofs.Common.{drop, map}
use Rattle.build_object.specs.LineView.{function_of}
use Rattle.build_object.proofs.Loops.{rest_end}
use Rattle.build_object.proofs.TextParts.{decls_text, no_decls, decls_step, names_behind_step, names_behind_end}
use Rattle.build_object.proofs.declarations.push_decls.Goals as goal

pub loop-decl-preserved : goal.loop-decl-preserved
loop-decl-preserved c = record {
  within = c.in_ok-next.ensures.within;
  text = decls_step c.args.source.now (map function_of (drop c.loop-decl.next c.args.names.now)) _ c.loop-decl.text.items c.push_decl.new.text.items _
      c.args.decls.now c.loop-decl.decl-index c.decl-item.result c.loop-decl-test.true c.decl-item.is c.loop-decl.invariant.text c.in_ok-next.ensures.text
      c.in_ok-next.ensures.others;
  others = names_behind_step (map function_of (drop c.loop-decl.next c.args.names.now)) _ _
      c.args.decls.now c.loop-decl.decl-index c.decl-item.result c.loop-decl-test.true c.decl-item.is c.loop-decl.invariant.others c.in_ok-next.ensures.others;
}

pub returns-clause-text : goal.returns-clause-text
returns-clause-text c =
    rest_end (decls_text c.args.source.now (map function_of (drop c.loop-decl.next c.args.names.now)))
    (no_decls c.args.source.now (map function_of (drop c.loop-decl.next c.args.names.now))) _
    c.loop-decl.text.items c.args.decls.now c.loop-decl.decl-index c.loop-decl-test.false c.loop-decl.invariant.text

pub returns-clause-others : goal.returns-clause-others
returns-clause-others c =
    names_behind_end (map function_of (drop c.loop-decl.next c.args.names.now)) _ c.args.decls.now c.loop-decl.decl-index c.loop-decl-test.false
    c.loop-decl.invariant.others
