-- What is found of a file of a moved package is what was found before, moved. So the package gets no fault of types.
use Rattle.std.proofs.Common.{ℕ, ◌≡◌, List, [], ap, subst, ◌∙◌}
use Rattle.std.specs.Prelude.{Contains, Some, slice_get}
use Rattle.go_ast.specs.SourceFile.{SourceFile}
use Rattle.base_edits.specs.EditSet.{FileChanges}
use Rattle.base_files.specs.Workspace.{Workspace}
use Rattle.types_expr.specs.World.{World}
use Rattle.types_stmt.specs.Checked.{FoundSoFar}
use Rattle.types_stmt.specs.Declarations.{check_file}
use Rattle.types_declared.specs.declared.fault.Fault.{Fault}
use Rattle.types_declared.specs.Package.{Package}
use Rattle.types_info.specs.Worlds.{IsWorldOf, is_init}
use Rattle.types_check.specs.TypeFaults.{IsTypeFault}
use Rattle.workspace_check.specs.FaultLists.{ListsFaults}
use Rattle.workspace_check.specs.Verdicts.{Verdicts, AreVerdicts, IsPackageIn}
use Rattle.refs_binding.specs.Uses.{IsCheckedPackage}
use Rattle.law_faultless.proofs.PackageWorlds.{have_worlds}
use Rattle.law_renamed_workspaces.proofs.Inits.{file_of_tree, keep_inits, same_tree}
use Rattle.law_changed_types.specs.Moved.{PathMap, IsInjective, moved_checked}
use Rattle.law_changed_types.specs.Moves.{FilesMove}
use Rattle.law_changed_types.specs.MovedPackage.{IsMovedPackage, WorldsMove}
use Rattle.law_moves.specs.MovedVerdicts.{IsBoundAfterMove}
use Rattle.law_moves.proofs.KeptSpellings.{uses_kept}
use Rattle.types_expr.proofs.NoteLists.{member_noted}

module _ (worlds_move : WorldsMove) (files_move : FilesMove) (g : PathMap) (inj : IsInjective g) (w : Workspace) (sound : ListsFaults w [])
    (known : Verdicts) (right : AreVerdicts w known) (from to : List ℕ) (s : FileChanges) (p there : Package) (is : IsCheckedPackage w known p)
    (bound : IsBoundAfterMove w from to s p there) (x : Workspace) (after : Verdicts) (q : Package) (also : IsPackageIn x after q.path q)
    (a : IsMovedPackage g p q) (files : there.files ≡ q.files) where
  pub found_moves : (file : ℕ) (f h : SourceFile) (v y : World) → slice_get p.files file ≡ Some f → slice_get q.files file ≡ Some h →
      IsWorldOf p file f v → IsWorldOf q file h y → check_file y (is_init h) h.tree ≡ moved_checked g (check_file v (is_init f) f.tree)
  found_moves file f h v y in_p in_q judged now =
      let trees : h.tree ≡ f.tree = same_tree p.files q.files a.trees file f h in_p in_q in
      let inits = keep_inits w x known after p q is.is_checked also a.layout a.size file f h in_p in_q trees in
      let in_there = ap (λ fs. slice_get fs file) files ∙ in_q in
      let moved = worlds_move g inj p q a file f h v y judged now (check_file v (is_init f) f.tree).uses
      (λ u has. uses_kept w sound known right from to s p there is bound file f h v in_p in_there judged u
      (member_noted (check_file v (is_init f) f.tree).uses u has)) in
      ap (λ t. check_file y (is_init h) t) trees ∙ files_move g inj v y (is_init f) (is_init h) f.tree inits moved

  pub no_type_fault : ((f : Fault) → IsTypeFault p f → ⊥) → (f : Fault) → IsTypeFault q f → ⊥
  no_type_fault fine fault h =
      let f = file_of_tree p.files q.files a.trees fault.file h.source h.in_file in
      let v = have_worlds w sound known right p is fault.file f.0 f.1 in
      let same = found_moves fault.file f.0 h.source v.0 h.world f.1 h.in_file v.1 h.judged_by in
      fine fault (record {
        source = f.0;
        in_file = f.1;
        world = v.0;
        judged_by = v.1;
        found = subst (λ (c : FoundSoFar). Contains c.faults fault.token) same h.found;
        kind = h.kind;
      })
