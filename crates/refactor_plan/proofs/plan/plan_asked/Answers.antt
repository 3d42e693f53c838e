-- The answers to the goals of `plan::plan_asked`.
use Rattle.std.proofs.Common.{◌≡◌, ap, sym, subst, ◌∙◌}
use Rattle.std.specs.Prelude.{Some, slice_get}
use Rattle.base_files.specs.Packages.{package_paths}
use Rattle.base_files.specs.Path.{folder}
use Rattle.refs_binding.specs.declared.indexed.Numbered.{Numbered}
use Rattle.refactor_plan.proofs.plan.plan_asked.Goals as goal

pub plan_read-requires-clause-read : goal.plan_read-requires-clause-read
plan_read-requires-clause-read c = record {
  is_read = c.bindings_of-read.ensures.read;
  same = ap (λ (a : Numbered). a.workspace.now) c.bindings_of-read.ensures.at ∙ c.requires.same;
}

pub plan_read-requires-clause-folder : goal.plan_read-requires-clause-folder
plan_read-requires-clause-folder c =
    subst (λ (a : Numbered). slice_get (package_paths a.workspace.now.graph) a.number ≡ Some (folder c.args.proposal.now.path.now))
    (sym c.bindings_of-read.ensures.at) c.requires.folder
