-- The answer to the goal of `plain::plain_marks`.
use Rattle.std.proofs.Common.{List, map, subst}
use Rattle.std.specs.Prelude.{Bool}
use Rattle.std.specs.Global.{Vec}
use Rattle.go_ast.specs.SourceFile.{source_of}
use Rattle.refactor_follow.specs.PlainPackages.{ArePlainFiles, HasMarkedToken}
use Rattle.refactor_follow.proofs.plain.plain_marks.Goals as goal

pub returns-then-are_plain : goal.returns-then-are_plain
returns-then-are_plain c =
    let files = map source_of c.args.files.now in
    let old = c.spelled_before.result.now in
    record {
      old = old;
      has_mark = subst HasMarkedToken c.deref-2.ensures.value (c.is_marked_before.ensures c.if-is_marked_before.true);
      listed = c.in_ok-rows.ensures;
      plain =
          subst (λ (rows : List (Vec Bool)). ArePlainFiles files c.args.new.name.now old rows) c.deref.ensures.value (c.are_plain.ensures c.if-are_plain.true);
    }
