-- The answers to the goals of `texts::differ_from`.
use Rattle.std.proofs.Common.{inl}
use Rattle.lsp_requests.proofs.texts.differ_from.Goals as goal

pub returns : goal.returns
returns c = inl (c.in_ok-tasks.tasks.items, c.in_ok-tasks.ensures.found, cc c.is_empty.ensures)
