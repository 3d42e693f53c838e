-- The answers to the goals of `files::Files::get`.
use Rattle.std.proofs.Common.{ap, sym, ◌∙◌}
use Rattle.std.specs.FinMap as map
use Rattle.base_files.proofs.WorkspaceLaws.{get_file}
use Rattle.base_files.proofs.files.Files.get.Goals as goal

pub returns : goal.returns
returns c =
    c.get.ensures.value ∙ sym (get_file c.self.inside.texts c.args.path.now)
    ∙ ap (λ m. map.get m c.args.path.now) c.self.view_is
