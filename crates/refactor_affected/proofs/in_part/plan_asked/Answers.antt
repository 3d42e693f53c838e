-- The package is that of the proposal.
use Rattle.std.proofs.Common.{◌≡◌, ap, sym, subst, ◌∙◌}
use Rattle.std.specs.Prelude.{Some, slice_get}
use Rattle.base_files.specs.Packages.{package_paths}
use Rattle.base_files.specs.Path.{folder}
use Rattle.refs_binding.specs.declared.indexed.Numbered.{Numbered}
use Rattle.refactor_affected.proofs.in_part.plan_asked.Goals as goal

pub plan_bound-requires-clause-read : goal.plan_bound-requires-clause-read
plan_bound-requires-clause-read c = record {
  is_read = c.bindings_of-read.ensures.read;
  same = ap (λ (a : Numbered). a.workspace.now) c.bindings_of-read.ensures.at ∙ c.requires.same;
}

pub plan_bound-requires-clause-folder : goal.plan_bound-requires-clause-folder
plan_bound-requires-clause-folder c =
    subst (λ (a : Numbered). slice_get (package_paths a.workspace.now.graph) a.number ≡ Some (folder c.args.proposal.now.path.now))
    (sym c.bindings_of-read.ensures.at) c.requires.folder
