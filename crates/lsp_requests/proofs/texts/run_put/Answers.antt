-- The answers to the goals of `texts::run_put`.
use Rattle.std.proofs.Common.{inl}
use Rattle.lsp_requests.proofs.Running.{put_as}
use Rattle.lsp_requests.proofs.texts.run_put.Goals as goal

pub returns : goal.returns
returns g c = inl (
  c.put_now-answer.ensures.0,
  c.put_now-answer.result,
  put_as g.D.Desk.steps c.args.desk.now c.put_now-answer.new.desk c.put_now-answer.ensures.0 c.put_now-answer.result c.as_str.result.now
      c.args.path.now c.in_ok-text.text c.args.text.now c.as_str.ensures.text c.in_ok-text.ensures.cases c.put_now-answer.ensures.1,
  c.outcome_of.ensures,
)
