-- A path that does not begin with the folder does not lie in it.
use Rattle.std.proofs.Common.{sym, ◌∙◌}
use Rattle.refactor_affected.proofs.Starting.{not_begun}
use Rattle.refactor_affected.proofs.starts.rest_in.Goals as goal

pub returns-then-not-starts_with : goal.returns-then-not-starts_with
returns-then-not-starts_with c =
    not_begun c.args.folder.now c.args.path.now (sym c.starts_with.ensures.value ∙ c.if-not-starts_with.true)
