-- The answers to the goals of `heads::read_head`.
use Rattle.std.proofs.Common.{rules, ◌∙◌, sym, subst, arith}
use Rattle.lsp_frames.proofs.HeadSoFar.{HeadSoFar, one_more}
use Rattle.lsp_frames.proofs.heads.read_head.Goals as goal

pub loop-field-preserved : goal.loop-field-preserved
loop-field-preserved g c =
    let before = g.S.ByteSource.remaining c.args.source.now in
    let now = g.S.ByteSource.remaining c.loop-field.source in
    let after = g.S.ByteSource.remaining c.read_field.new.source in
    record {
      reads = c.in_ok-read_field.ensures.reads ∙ c.loop-field.invariant.reads;
      so_far = subst (λ size. HeadSoFar before after size) (sym c.size_behind-size.ensures)
          (one_more now after before c.loop-field.size c.in-Some.field c.loop-field.invariant.so_far
          (rw c.in-Some.is at c.in_ok-read_field.ensures.field) (search rules));
      reader = c.in_ok-read_field.ensures.counted ∙ c.loop-field.invariant.reader;
      turns = omega (arith, c.in_ok-read_field.ensures.turns, c.loop-field.invariant.turns);
    }
