-- The answers to the goals of `texts::run_documents`.
use Rattle.std.proofs.Common.{inl, subst}
use Rattle.lsp_requests.specs.Texts.{RunsUpTo}
use Rattle.lsp_requests.proofs.texts.run_documents.Goals as goal

pub returns : goal.returns
returns g c = inl (
  c.in_ok-tasks.tasks.items,
  c.in_ok-tasks.ensures.found,
  subst (λ tasks. RunsUpTo g.D.Desk.steps c.args.desk.now tasks c.run_tasks.result c.run_tasks.new.desk) c.as_slice.ensures.value c.run_tasks.ensures,
)
