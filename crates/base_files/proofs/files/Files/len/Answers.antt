-- The answers to the goals of `files::Files::len`.
use Rattle.std.proofs.Common.{ap, sym, ◌∙◌}
use Rattle.std.specs.FinMap as map
use Rattle.base_files.proofs.WorkspaceLaws.{len_in_order}
use Rattle.base_files.proofs.files.Files.len.Goals as goal

pub returns : goal.returns
returns c =
    c.len.ensures.len ∙ sym (len_in_order c.self.inside.texts c.len.ensures.ordered)
    ∙ ap map.len c.self.view_is
