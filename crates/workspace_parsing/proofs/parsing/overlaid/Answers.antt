-- The files of both stand there.
use Rattle.std.proofs.Common.{◌≡◌, ap, ◌∙◌}
use Rattle.std.specs.FinMap.{entries}
use Rattle.base_files.specs.Workspace.{Workspace}
use Rattle.base_edits.specs.Made.{with_files}
use Rattle.workspace_parsing.proofs.Overlaid.{differs_above, same_above}
use Rattle.workspace_parsing.proofs.parsing.overlaid.Goals as goal

pub with_packages-requires : goal.with_packages-requires
with_packages-requires c =
    let below = c.args.below.now in
    let above = c.args.above.now in
    let files = c.in_ok-files.files in
    let is : files ≡ with_files (entries above) below =
    c.in_ok-files.ensures
    ∙ ap (λ (w : Workspace). with_files (entries w) c.files.result.now) c.files-2.ensures
    ∙ ap (with_files (entries above)) c.files.ensures in
    record { differs = differs_above below above files c.requires is; same = same_above below above files c.requires is }
