-- The answers to the goals of `package_edits::insert`.
use Rattle.std.proofs.Common.{List, ℕ, Some, subst, ◌∙◌}
use Rattle.std.specs.BTreeMap.{Updates}
use Rattle.base_files.specs.Workspace.{path_cmp}
use Rattle.refactor_move.proofs.package_edits.insert.Goals as goal

pub returns : goal.returns
returns c = subst (λ (p : List ℕ). Updates path_cmp c.args.edits.now c.insert.new.self p (Some c.args.found)) (c.in_ok-path.ensures.cases ∙ c.path.ensures)
    c.in_ok-insert.ensures.updates
