-- Where identifiers of a package stand, and what an import that is seen exports.
use Rattle.std.proofs.Common.{ℕ, suc, ◌≡◌, ◌+◌, ◌<◌, inl, inr, true, false, List, ap, refl, sym, subst, ◌∙◌, arith}
use Rattle.std.specs.Prelude.{Option, Some}
use Rattle.std.proofs.lemmas.Option.{none-some}
use Rattle.base_files.specs.Workspace.{Workspace}
use Rattle.go_scope.specs.declared.model.Block.TheVariants.{Universe, File}
use Rattle.go_scope.specs.Bindings.{IsBoundTo, IsImport, use_bound, own, block_of, is_implied}
use Rattle.go_scope.specs.FileSites.{universe}
use Rattle.go_ast.specs.SourceFile.{source_of}
use Rattle.types_declared.specs.Laid.{is_exported}
use Rattle.types_declared.specs.Package.{Package, Export, ExportData, laid_of}
use Rattle.types_declared.specs.Written.{BindsToken}
use Rattle.types_check.specs.Exports.{IsExport, IsExported}
use Rattle.types_resolve.specs.Scoping.{IsQualified}
use Rattle.workspace_check.specs.Verdicts.{Verdicts, AreVerdictsBelow, IsSeenAs, seen, unseen, IsPackageIn}
use Rattle.workspace_check.proofs.OneVerdict.{verdict_by}
use Rattle.workspace_check.proofs.Underway.{builds_then}
use Rattle.law_changed_types.specs.SameBindings.{IsSelectedAt}
use Rattle.law_faultless.proofs.Declared.{given, old_site, new_site, role_is, kept, told_identifies}
use Rattle.law_faultless.proofs.Numbers.{IsTold, OfKind, IsKept, universal, plain, laid}
use Rattle.law_faultless.proofs.FilesDecided.{IsGlobal}
use Rattle.law_faultless.proofs.Scoped.{found_first}
use Rattle.law_renamed_workspaces.proofs.SameNames.{left_roles, use_identifies}

module _ (w : Workspace) (known : Verdicts) (path : List ℕ) (p : Package) (h : IsPackageIn w known path p) where
  import_identifies : (d : ℕ) → d < p.size → IsImport p.layout d → is_implied (p.layout.role d) ≡ false
  import_identifies d lt import = by_kind (kept w known path p h d lt)
    where
      by_kind : IsKept (IsTold 0 h.files) universe (given w known path p h d) (old_site w known path p h d) (new_site w known path p h d) →
          is_implied (p.layout.role d) ≡ false
      by_kind (universal r n) =
          let z : Universe ≡ File import.0 = sym (ap block_of (role_is w known path p h d ∙ r)) ∙ import.1 in let none : ⊥ = cc in absurd none
      by_kind (plain e t) =
          let new = new_site w known path p h d in
          ap is_implied (role_is w known path p h d) ∙ told_identifies (OfKind t.file.cut) (IsGlobal (source_of t.file).tree.decls) (Unit {0}) new.place.index
          new.role t.told
      by_kind (laid u g r) = ap is_implied (role_is w known path p h d ∙ r)

  -- what is bound to an import is an identifier
  bound_identifies : (u d : ℕ) → u < p.size → IsImport p.layout d → IsBoundTo p.layout p.names u d → is_implied (p.layout.role u) ≡ false
  bound_identifies u d lt import (use_bound (inl used) at) = use_identifies (p.layout.role u) used
  bound_identifies u d lt import (use_bound (inr left) at) = (left_roles (p.layout.role u) left.0).1
  bound_identifies u d lt import (own e counts) = import_identifies u lt (subst (IsImport p.layout) (sym e) import)

  -- in a qualified identifier the package's name is bound at its token, and the other name is selected two tokens further on
  module _ (b u d : ℕ) (lt : u < p.size) (is : IsQualified (laid_of p) b u d) where
    first_lt : b < p.size
    first_lt = let e : u ≡ suc b = is.next in omega arith

    pub binds_first : BindsToken p (p.layout.place b).file (p.layout.place b).index d
    binds_first = record {
      identifier = b;
      found = found_first w known path p h (record { file = (p.layout.place b).file; index = (p.layout.place b).index }) b first_lt
          (bound_identifies b d first_lt is.is_import is.bound, refl, refl);
      bound = is.bound;
    }

    pub second_index : (p.layout.place u).index ≡ suc (suc (p.layout.place b).index)
    second_index = let e : (p.layout.place u).index ≡ (p.layout.place b).index + 2 = is.behind_dot in omega arith

    pub selects_second : IsSelectedAt p (p.layout.place b).file (suc (suc (p.layout.place b).index))
    selects_second = record {
      identifier = u;
      found = found_first w known path p h (record { file = (p.layout.place b).file; index = suc (suc (p.layout.place b).index) }) u lt
          (ap is_implied is.selected, is.same_file, second_index);
      selected = is.selected;
    }

  -- what the package sees another export has an exported name
  module _ (right : AreVerdictsBelow w path known) where
    seen_exported : (q : List ℕ) (n : Option (List ℕ)) (i : ExportData) → IsSeenAs w known path q n i → (name : List ℕ) (e : Export) →
        i.exported name ≡ Some e → is_exported name ≡ true
    seen_exported q _ _ (seen on is) name e at =
        let by = verdict_by w q known (known q) (λ o more. right o (builds_then w path q o on more)) (right q on) in
        let has = by.has_export_data is in
        let x : IsExport has.checked name e = subst (IsExported has.checked name) at (has.is_export_data.exported name) in
        ap is_exported (sym x.named) ∙ x.by_declaration.seen.exported
    seen_exported q _ _ (unseen none) name e at = absurd (none-some e at)

    pub export_is_exported : (q name : List ℕ) (e : Export) → (p.export_data_of q).exported name ≡ Some e → is_exported name ≡ true
    export_is_exported q name e at =
        let all : p.export_data_of ≡ h.export_data_of = ap (λ (x : Package). x.export_data_of) h.is_package.is_package in
        seen_exported q (h.name_of q) (h.export_data_of q) (h.are_seen q) name e
        (sym (ap (λ (i : List ℕ → ExportData). (i q).exported name) all) ∙ at)
