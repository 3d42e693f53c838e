-- The paths are compared as bytes.
use Rattle.std.proofs.Common.{sym, ◌∙◌}
use Rattle.std.proofs.lemmas.Map.Text.{is_eq-slice_cmp}
use Rattle.base_files.specs.Workspace.{path_cmp}
use Rattle.base_chunks.proofs.Standing.{is_at_at}
use Rattle.base_files.proofs.entries.is_at.Goals as goal

pub returns-then-at-entries-clause-there : goal.returns-then-at-entries-clause-there
returns-then-at-entries-clause-there g c =
    let path = c.args.path.now in
    let d = c.index-entries-at.result in
    c.eq.ensures ∙ (λ i. sym (is_eq-slice_cmp path (c.path.ensures i)) i) ∙ sym (is_at_at path_cmp path c.args.entries.now c.args.at d c.if-at-entries.true)
