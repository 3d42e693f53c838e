-- The path is found at one of two numbers or nowhere.
use Rattle.std.proofs.Common.{sym, ◌∙◌}
use Rattle.base_files.specs.Workspace.{path_cmp}
use Rattle.base_files.proofs.WorkspaceLaws.{path_cmp_total}
use Rattle.base_chunks.proofs.Standing.{find_absent}
use Rattle.base_files.proofs.Standing.{number_at}
use Rattle.base_files.proofs.entries.number_from.Goals as goal

pub returns-then-is_at : goal.returns-then-is_at
returns-then-is_at g c =
    number_at c.args.path.now c.args.entries.now c.args.first c.requires (c.is_at.ensures.within c.if-is_at.true) (sym c.is_at.ensures.there ∙ c.if-is_at.true)

pub returns-else-is_at-2 : goal.returns-else-is_at-2
returns-else-is_at-2 g c =
    find_absent path_cmp path_cmp_total c.args.path.now c.args.entries.now c.place-at.result c.requires c.place-at.ensures.front c.place-at.ensures.back
    (sym c.is_at-2.ensures.there ∙ c.if-is_at-2.false)
