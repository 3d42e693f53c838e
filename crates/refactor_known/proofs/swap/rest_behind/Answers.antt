-- The answers to the goals of `swap::rest_behind`.
use Rattle.std.proofs.Common.{sym, ◌∙◌}
use Rattle.refactor_known.proofs.Paths.{no_prefix}
use Rattle.refactor_known.proofs.swap.rest_behind.Goals as goal

pub returns-then-not-starts_with : goal.returns-then-not-starts_with
returns-then-not-starts_with c =
    no_prefix c.args.folder.now c.args.path.now (sym c.starts_with.ensures.value ∙ c.if-not-starts_with.true)
