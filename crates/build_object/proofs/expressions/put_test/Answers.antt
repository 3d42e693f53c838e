-- The answers to the goals of `expressions::put_test`.
use Rattle.std.proofs.lemmas.Result.{on_ok_weaker}
use Rattle.build_object.specs.LineView.{line_of}
use Rattle.build_object.proofs.Putting.{puts_as, puts_more}
use Rattle.build_object.proofs.Links.{test_passed}
use Rattle.build_object.proofs.expressions.put_test.Goals as goal

pub returns : goal.returns
unfolding line_of
returns c = on_ok_weaker c.put-3.result (λ q. puts_as
    (c.test_line.ensures _ (test_passed c.len.result c.args.end c.requires c.len.ensures c.in_ok-put.ensures))
    (puts_more (puts_more c.in_ok-put.ensures c.in_ok-put-2.ensures) q)) c.put-3.ensures
