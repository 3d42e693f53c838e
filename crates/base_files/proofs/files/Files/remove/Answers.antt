-- The answers to the goals of `files::Files::remove`.
use Rattle.std.proofs.Common.{ap, ◌∙◌}
use Rattle.std.specs.FinMap as map
use Rattle.base_files.proofs.WorkspaceLaws.{one_removed}
use Rattle.base_files.proofs.files.Files.remove.Goals as goal

pub returns-clause-ok : goal.returns-clause-ok
returns-clause-ok c =
    ap map.from_entries c.in_ok-remove.ensures.ok ∙ one_removed c.self.inside.texts c.args.path.now
    ∙ ap (λ m. map.remove m c.args.path.now) c.self.view_is
