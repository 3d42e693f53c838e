-- The answers to the goals of `files::Files::iter`.
use Rattle.std.proofs.Common.{ap, sym, ◌∙◌}
use Rattle.std.specs.FinMap as map
use Rattle.base_files.proofs.WorkspaceLaws.{entries_in_order}
use Rattle.base_files.proofs.files.Files.iter.Goals as goal

pub returns-clause-files : goal.returns-clause-files
returns-clause-files c =
    c.iter.ensures.entries ∙ sym (entries_in_order c.self.inside.texts c.iter.ensures.ordered)
    ∙ ap map.entries c.self.view_is
