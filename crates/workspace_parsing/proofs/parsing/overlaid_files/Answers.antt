-- One file more is set.
use Rattle.std.proofs.Common.{◌≡◌, ℕ, List, ap, sym, ◌∙◌}
use Rattle.std.specs.FinMap.{entries, insert}
use Rattle.std.specs.Map.Iter.{deref_pair}
use Rattle.std.proofs.lemmas.Map.Iter.{rest_all, rest_more}
use Rattle.base_files.specs.Workspace.{Workspace}
use Rattle.base_edits.specs.Made.{with_files}
use Rattle.workspace_parsing.proofs.parsing.overlaid_files.Goals as goal

pub loop-path-init : goal.loop-path-init
loop-path-init c =
    ap (λ es. with_files es c.in_ok-files.files) (c.into_iter-path-iterator.ensures.into_iter_gives ∙ c.iter-path-items.ensures.files)
    ∙ ap (with_files (entries c.args.above.now)) c.in_ok-files.ensures

pub loop-path-preserved : goal.loop-path-preserved
loop-path-preserved c =
    let left = rest_more deref_pair _ _ _ (c.in-Some.path, c.in-Some.text) c.in-Some.is c.next.ensures.steps in
    ap (with_files c.next.new.self) c.in_ok-set_file.ensures
    ∙ sym (ap (λ es. with_files es c.loop-path.files) left)
    ∙ c.loop-path.invariant

pub returns : goal.returns
returns c =
    let none = rest_all deref_pair _ _ _ c.in-None.is c.next.ensures.steps in
    sym (ap (λ es. with_files es c.loop-path.files) none) ∙ c.loop-path.invariant
