-- The paths of packages after a move, by the map that swaps two folders, and what they build on.
use Rattle.std.proofs.Common.{ℕ, ◌≡◌, List, ap, sym, subst, ◌∙◌}
use Rattle.std.specs.Prelude.{Contains}
use Rattle.base_edits.specs.EditSet.{FileChanges, edited}
use Rattle.base_files.specs.Packages.{package_paths}
use Rattle.base_files.specs.Workspace.{Workspace}
use Rattle.workspace_check.specs.Verdicts.{Verdicts, BuildsOn}
use Rattle.workspace_check.proofs.Closed.{to_package}
use Rattle.law_changed_types.specs.Moved.{PathMap}
use Rattle.law_moves.specs.Moves.{IsMove, moved_path}
use Rattle.law_moves.proofs.MovedFiles.{package_there, package_was}
use Rattle.law_moves.proofs.NewFiles.{builds_move, builds_were}
use Rattle.refactor_known.specs.Swaps.{swapped}
use Rattle.law_moves.specs.MovedVerdicts.{MovesBySwap}

module _ (w : Workspace) (known : Verdicts) (from to : List ℕ) (s : FileChanges) (h : IsMove w known from to s) (swap : MovesBySwap w from to) where
  abbrev pub x : Workspace
  x = edited s w

  abbrev pub g : PathMap
  g = swapped from to

  pub has_now : (p : List ℕ) → Contains (package_paths w) p → Contains (package_paths x) (g p)
  has_now p has = subst (Contains (package_paths x)) (sym (swap.goes p has)) (package_there w known from to s h p has)

  pub had : (q : List ℕ) → Contains (package_paths x) q → Contains (package_paths w) (g q)
  had q has =
      let o = package_was w known from to s h q has in
      subst (Contains (package_paths w)) (sym (ap g (o.1.1 ∙ sym (swap.goes o.0 o.1.0)) ∙ swap.inverse o.0)) o.1.0

  -- a path after the move, by the one before it
  pub back : (q : List ℕ) → Contains (package_paths x) q → q ≡ moved_path from to (g q)
  back q has = sym (swap.inverse q) ∙ swap.goes (g q) (had q has)

  pub builds_now : (p q : List ℕ) → Contains (package_paths w) p → BuildsOn w p q → BuildsOn x (g p) (g q)
  builds_now p q has on =
      let there = to_package w p q on.imported in
      subst (λ r. BuildsOn x r (g q)) (sym (swap.goes p has))
      (subst (BuildsOn x (moved_path from to p)) (sym (swap.goes q there)) (builds_move w known from to s h p q has there on))

  pub built : (p q : List ℕ) → Contains (package_paths w) p → BuildsOn x (g p) q → BuildsOn w p (g q)
  built p q has on =
      let there = to_package x (g p) q on.imported in
      builds_were w known from to s h p (g q) has (had q there)
      (subst (λ r. BuildsOn x r (moved_path from to (g q))) (swap.goes p has) (subst (BuildsOn x (g p)) (back q there) on))
