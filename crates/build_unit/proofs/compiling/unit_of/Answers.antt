-- The answers to the goals of `compiling::unit_of`.
use Rattle.std.proofs.Common.{ℕ, List, sym, subst, ◌∙◌}
use Rattle.std.proofs.lemmas.Option.{same_Some, slice_get_within}
use Rattle.base_files.specs.Packages.{package_paths}
use Rattle.workspace_graph.specs.Graphs.{ListsPackages}
use Rattle.workspace_graph.specs.Packages.{IsInClosure}
use Rattle.workspace_check.specs.Found.{IsFindingWith}
use Rattle.build_unit.proofs.compiling.unit_of.Goals as goal

pub before-requires : goal.before-requires
before-requires c =
    let w = c.args.at.graph.now in
    record {
      in_range = slice_get_within (package_paths w) c.args.at.number c.args.path.now c.requires.has_path;
      closure = λ p at. subst (λ (q : List ℕ). ListsPackages w (IsInClosure w q) c.args.at.closure.now)
          (same_Some c.args.path.now p (sym c.requires.has_path ∙ at)) c.requires.closure;
      rising = c.requires.rising;
      known = c.requires.known;
    }

pub text_if_faultless-requires : goal.text_if_faultless-requires
text_if_faultless-requires c = record {
  at = c.requires;
  right = c.in_ok-progress.ensures.right;
  told = c.in_ok-progress.ensures.seen c.args.path.now c.requires.has_path;
  unknown = c.in_ok-progress.ensures.unknown;
}

pub finish-requires : goal.finish-requires
finish-requires c = record {
  in_range = slice_get_within (package_paths c.args.at.graph.now) c.args.at.number c.args.path.now c.requires.has_path;
  right = c.in_ok-text.ensures.right;
  known = c.requires.known;
}

pub unit_by-requires : goal.unit_by-requires
unit_by-requires c = record {
  at = c.requires;
  found = subst (IsFindingWith c.args.at.graph.now c.args.path.now c.in_ok-finding.field-0.export_table) (sym c.get.ensures)
      (c.in_ok-finding.ensures.finding c.args.path.now c.requires.has_path);
  text = c.in_ok-text.ensures.text;
}

pub returns : goal.returns
returns c = record { unit = c.in_ok-unit.ensures; verdicts = c.in_ok-finding.ensures.verdicts }
