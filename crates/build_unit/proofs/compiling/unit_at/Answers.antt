-- The answers to the goals of `compiling::unit_at`.
use Rattle.std.proofs.Common.{sym, subst}
use Rattle.std.proofs.lemmas.Option.{slice_get_within}
use Rattle.std.specs.List.Sorted.{IsStrictlyIncreasing}
use Rattle.base_files.specs.Packages.{package_paths}
use Rattle.workspace_graph.specs.Graphs.{ListsPackages}
use Rattle.workspace_graph.specs.Packages.{IsInClosure}
use Rattle.build_unit.proofs.compiling.unit_at.Goals as goal

pub closure-requires : goal.closure-requires
closure-requires c = slice_get_within (package_paths c.args.graph.now) c.args.number c.args.path.now c.requires.at

pub unit_of-requires : goal.unit_of-requires
unit_of-requires c =
    let w = c.args.graph.now in
    let p = c.args.path.now in
    record {
      has_path = c.requires.at;
      closure = subst (ListsPackages w (IsInClosure w p)) (sym c.as_slice.ensures) (c.in_ok-closure.ensures.closure p c.requires.at);
      rising = subst IsStrictlyIncreasing (sym c.as_slice.ensures) c.in_ok-closure.ensures.rising;
      known = c.requires.known;
    }
