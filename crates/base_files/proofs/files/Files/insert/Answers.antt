-- The answers to the goals of `files::Files::insert`.
use Rattle.std.proofs.Common.{ap, ◌∙◌}
use Rattle.std.specs.FinMap as map
use Rattle.base_files.proofs.WorkspaceLaws.{one_put}
use Rattle.base_files.proofs.files.Files.insert.Goals as goal

pub returns-clause-ok : goal.returns-clause-ok
returns-clause-ok c =
    ap map.from_entries c.in_ok-insert.ensures.ok ∙ one_put c.self.inside.texts c.args.path c.args.text
    ∙ ap (λ m. map.insert m c.args.path c.args.text) c.self.view_is
