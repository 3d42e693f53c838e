-- What the identifiers of a package are bound to, where its closure has the same texts in two workspaces.
use Rattle.std.proofs.Common.{ℕ, List, sym, subst}
use Rattle.std.specs.Prelude.{Contains}
use Rattle.base_files.specs.Path.{folder}
use Rattle.base_files.specs.Packages.{package_paths}
use Rattle.base_files.specs.Workspace.{Workspace}
use Rattle.base_files.specs.declared.place.Place.{Place}
use Rattle.workspace_graph.specs.Packages.{IsInClosure}
use Rattle.types_declared.specs.Package.{Package}
use Rattle.workspace_check.specs.Closures.{HasSameClosure}
use Rattle.workspace_check.specs.Verdicts.{Verdicts, AreVerdicts}
use Rattle.workspace_check.proofs.Closed.{imports_closed}
use Rattle.workspace_check.proofs.Local.{same_within}
use Rattle.refs_binding.specs.declared.declaration.Declaration.{Declaration}
use Rattle.refs_binding.specs.declared.declaration.Declaration.TheVariants.{Predeclared, Declared, Field, Method}
use Rattle.types_info.specs.QualifiedIdentifiers.{IsQualifiedByPath}
use Rattle.refs_binding.specs.Binding.{by_scope, by_package, by_member, by_name, BindsQualified, IsQualifiedUse}
use Rattle.refs_binding.specs.Identifiers.{named_by}
use Rattle.refs_binding.specs.Uses.{IsCheckedPackage, IsBoundToDeclaration, IsUseOf, HasDeclaration}
use Rattle.refs_binding.proofs.Folders.{begins_in_folder}
use Rattle.refs_lookup.proofs.NamedImports.{named_is_imported}
use Rattle.refs_lookup.proofs.Packages.{package_stays}

-- the package of a name before a dot lies in the closure
pub behind_closed : (w : Workspace) (known : Verdicts) (p : Package) → IsCheckedPackage w known p → (u : ℕ) (q : List ℕ) → IsQualifiedByPath p u q →
    Contains (package_paths w) q → IsInClosure w p.path q
behind_closed w known p is u q b has =
    imports_closed w p.path q (named_is_imported w known p.path p is.is_checked (p.layout.place u).file b.before q b.named) has

module _ (w x : Workspace) (before after : Verdicts) (right : AreVerdicts w before) (also : AreVerdicts x after) where
  export_stays : (p : Package) → HasSameClosure w x p.path → IsCheckedPackage w before p → (u : ℕ) (path : List ℕ) (n : ℕ) →
      IsQualifiedUse (IsCheckedPackage w before) p u path n → IsQualifiedUse (IsCheckedPackage x after) p u path n
  export_stays p same is u path n h =
      let has : Contains (package_paths w) path = subst (Contains (package_paths w)) h.of_path h.is_package.of_workspace in
      let within : HasSameClosure w x path = same_within w x p.path same path (behind_closed w before p is u path h.behind has) in
      record {
        behind = h.behind;
        other = h.other;
        is_package = package_stays w x before after right also h.other (subst (HasSameClosure w x) (sym h.of_path) within) h.is_package;
        of_path = h.of_path;
        seen = h.seen;
        named = h.named;
      }

  behind_stays : (p : Package) → HasSameClosure w x p.path → IsCheckedPackage w before p → (u : ℕ) (d : Declaration) →
      BindsQualified (IsCheckedPackage w before) p u d → BindsQualified (IsCheckedPackage x after) p u d
  behind_stays p same is u (Predeclared n) h = h
  behind_stays p same is u (Declared path n) h = export_stays p same is u path n h
  behind_stays p same is u (Field s) h = h
  behind_stays p same is u (Method s) h = h

  pub bound_stays : (p : Package) → HasSameClosure w x p.path → IsCheckedPackage w before p → (u : ℕ) (d : Declaration) → IsBoundToDeclaration w before p u d →
      IsBoundToDeclaration x after p u d
  bound_stays p same is u d (by_scope h) = by_scope h
  bound_stays p same is u d (by_package h) = by_package (behind_stays p same is u d h)
  bound_stays p same is u d (by_member h) = by_member h
  bound_stays p same is u d (by_name h) = by_name h

  pub use_stays : (place : Place) → HasSameClosure w x (folder place.path) → (d : Declaration) → IsUseOf w before d place → IsUseOf x after d place
  use_stays place same d h =
      let p = h.used_in in
      let own : HasSameClosure w x p.path =
      subst (HasSameClosure w x) (sym (begins_in_folder w before p h.is_package place.path place.offset h.user h.begins)) same in
      record {
        used_in = p;
        is_package = package_stays w x before after right also p own h.is_package;
        user = h.user;
        begins = h.begins;
        bound = bound_stays p own h.is_package h.user d h.bound;
      }

  pub held_stays : (path : List ℕ) → HasSameClosure w x (folder path) → (offset : ℕ) (d : Declaration) → HasDeclaration w before path offset d →
      HasDeclaration x after path offset d
  held_stays path same offset d h =
      let p = h.asked_in in
      let own : HasSameClosure w x p.path = subst (HasSameClosure w x) (sym h.is_asked.of_folder) same in
      let is = h.is_asked.is_package in
      record {
        asked_in = p;
        is_asked = record { is_package = package_stays w x before after right also p own is; of_folder = h.is_asked.of_folder };
        number = h.number;
        at = h.at;
        bound = bound_stays p own is (named_by p.layout h.number) d h.bound;
      }
