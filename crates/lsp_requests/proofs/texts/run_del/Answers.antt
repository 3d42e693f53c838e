-- The answers to the goals of `texts::run_del`.
use Rattle.std.proofs.Common.{None, inl, subst}
use Rattle.server_commands.specs.Act.{LooksFirst}
use Rattle.lsp_requests.specs.Texts.{command_with}
use Rattle.lsp_requests.proofs.texts.run_del.Goals as goal

pub returns : goal.returns
returns g c = inl (
  c.del_now-answer.ensures.0,
  c.del_now-answer.result,
  subst (λ path. LooksFirst g.D.Desk.steps c.args.desk.now (command_with c.del_now-answer.ensures.0 path None) c.del_now-answer.result
      c.del_now-answer.new.desk) c.as_str.ensures.text c.del_now-answer.ensures.1,
  c.outcome_of.ensures,
)
