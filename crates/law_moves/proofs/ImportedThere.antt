-- In a workspace without faults each package that a declaration imports is there.
use Rattle.std.proofs.Common.{ℕ, ◌≡◌, inl, inr, true, false, List, [], map, ap, refl, sym, ◌∙◌}
use Rattle.std.specs.Prelude.{Contains}
use Rattle.base_files.specs.Packages.{package_paths}
use Rattle.base_files.specs.Workspace.{Workspace}
use Rattle.go_scope.specs.declared.model.Block.TheVariants.{File, Inner}
use Rattle.go_scope.specs.declared.model.Role.{Role}
use Rattle.go_scope.specs.declared.model.Role.TheVariants.{Use, Declaring, LeftName, Implied, NotLexical}
use Rattle.go_scope.specs.Bindings.{Counts, Declares, IsImport, IsLeftName, MayDeclare, block_of, is_implied, may_declare, own}
use Rattle.go_scope.specs.FileSites.{package_sites, universe}
use Rattle.go_scope.specs.SpelledFiles.{spelled_file}
use Rattle.go_scope.specs.WellFormed.{WellFormed}
use Rattle.types_declared.specs.declared.fault.Fault.{Fault}
use Rattle.types_declared.specs.Package.{Package}
use Rattle.types_declared.specs.Written.{DeclaresImport}
use Rattle.types_resolve.specs.Scoping.{IsScopeFault}
use Rattle.workspace_graph.specs.Packages.{PackageImports}
use Rattle.workspace_check.specs.FaultLists.{ListsFaults}
use Rattle.workspace_check.specs.Verdicts.{Verdicts, AreVerdicts}
use Rattle.workspace_check.proofs.Closed.{to_package}
use Rattle.workspace_check.proofs.Members.{cases_contains}
use Rattle.workspace_check.proofs.OnePackage.{layout_formed}
use Rattle.refs_binding.specs.Uses.{IsCheckedPackage}
use Rattle.refs_lookup.proofs.Faultless.{no_fault_later}
use Rattle.refs_lookup.proofs.ImportSites.{import_identifies}
use Rattle.refs_lookup.proofs.NamedImports.{named_is_imported, role_at}
use Rattle.refs_lookup.proofs.OnePlace.{names_of}
use Rattle.law_faultless.proofs.Declared.{may_within}
use Rattle.law_faultless.proofs.Scoped.{found_first}
use Rattle.law_renamed_workspaces.proofs.GoodImports.{imports_are_good}
use Rattle.law_renamed_workspaces.proofs.ScopeFaults.{all_counted}

import_declares : (r : Role) (f : ℕ) → block_of r ≡ File f → may_declare r ≡ true
import_declares (Declaring b start) f e = refl
import_declares (LeftName b start) f e = refl
import_declares (Implied b start) f e = refl
import_declares Use f e = let z : ⊥ = cc in absurd z
import_declares (NotLexical p) f e = let z : ⊥ = cc in absurd z

module _ (w : Workspace) (sound : ListsFaults w []) (known : Verdicts) (right : AreVerdicts w known) (p : Package) (is : IsCheckedPackage w known p) where
  formed : WellFormed p.layout
  formed = layout_formed w known p.path p is.is_checked

  identifies : (d : ℕ) → IsImport p.layout d → is_implied (p.layout.role d) ≡ false
  unfolding package_sites
  identifies d i =
      ap is_implied (role_at w known p.path p is.is_checked d)
      ∙ import_identifies (names_of w known p.path p is.is_checked) universe (map spelled_file is.is_checked.files) d i.0
      (sym (ap block_of (role_at w known p.path p is.is_checked d)) ∙ i.1)

  may : (d : ℕ) → IsImport p.layout d → MayDeclare p.layout d
  may d i = import_declares (p.layout.role d) i.0 i.1

  declares : (d : ℕ) → IsImport p.layout d → Declares p.layout p.names d
  declares d i = record { may = may d i; is_new = λ left. absurd (not_left left) }
    where
      not_left : IsLeftName p.layout d → ⊥
      not_left left = let b = formed.left_inner d left in let z : File i.0 ≡ Inner b.0 b.1 b.2 = sym i.1 ∙ b.3 in cc

  imports : (d : ℕ) (path : List ℕ) → DeclaresImport p d path → Counts p.layout p.names d → PackageImports w p.path path
  imports d path i counts =
      let at = p.layout.place d in
      let lt = may_within w known p.path p is.is_checked d (may d i.is_import) in
      named_is_imported w known p.path p is.is_checked at.file at.index path (record {
        import = d;
        binds = record {
          identifier = d;
          found = found_first w known p.path p is.is_checked at d lt (identifies d i.is_import, refl, refl);
          bound = own refl counts;
        };
        imports = i;
      })

  no_scope_fault : (f : Fault) → IsScopeFault (record { layout = p.layout; names = p.names; size = p.size }) f → ⊥
  no_scope_fault f fault = no_fault_later w sound known right p is f (inl (inl (inl fault)))

  pub imported_there : (d : ℕ) (path : List ℕ) → DeclaresImport p d path → Contains (package_paths w) path
  imported_there d path i = elim (cases_contains (package_paths w) path) [
    | inl there ↦ there
    | inr none ↦ absurd (all_counted p.layout p.size p.names p.names (λ u e. ((λ b. b), (λ b. b))) no_scope_fault d
        (may_within w known p.path p is.is_checked d (may d i.is_import)) (declares d i.is_import)
        (λ counts. imports_are_good w sound known right p is path (imports d path i counts) (λ on. none (to_package w p.path path on.imported))))
  ]
