-- What a package exports after a rename is built from what it exported before: one declaration at most stands under another name.
use Rattle.std.proofs.Common.{ℕ, ◌≡◌, ◌≢◌, ◌⊎◌, inl, inr, Bool, true, false, List, [], ap, refl, sym, subst, ◌∙◌}
use Rattle.std.specs.Prelude.{Option, Some, None}
use Rattle.std.proofs.lemmas.Bool.{true≢false}
use Rattle.base_files.specs.Workspace.{Workspace}
use Rattle.go_scope.specs.Bindings.{IsPackageLevel}
use Rattle.go_scope.specs.WellFormed.{WellFormed}
use Rattle.types_expr.specs.World.{Bound, Local, BrokenVariable, BrokenFunction, BrokenType}
use Rattle.types_expr.specs.World.{Means as Stands}
use Rattle.types_declared.specs.Laid.{is_exported}
use Rattle.types_declared.specs.MeaningOf.{IsMeaningOf}
use Rattle.types_declared.specs.Package.{Package, Export, ExportData}
use Rattle.types_declared.proofs.ByteKeys.{cases_bytes}
use Rattle.types_check.specs.Exports.{IsExport, IsExported}
use Rattle.types_info.proofs.OneMeaning.{has_one_meaning}
use Rattle.workspace_check.specs.FaultLists.{ListsFaults}
use Rattle.workspace_check.specs.Verdicts.{Verdicts, AreVerdicts}
use Rattle.workspace_check.proofs.OnePackage.{layout_formed, files_in_order}
use Rattle.refs_binding.specs.declared.declaration.Declaration.{Declaration}
use Rattle.refs_binding.specs.declared.declaration.Declaration.TheVariants.{Declared}
use Rattle.refs_binding.specs.Uses.{IsCheckedPackage}
use Rattle.law_faultless.proofs.Meanings.{meant}
use Rattle.law_faultless.proofs.PackageWorlds.{strings_known, broken_decided}
use Rattle.law_changed_types.proofs.Alike.{Alike, turned}
use Rattle.law_changed_types.proofs.Meanings.{meaning}
use Rattle.law_renamed_workspaces.proofs.DeclaredNames.{KeepsLevelNames, MovesLevelName, is_level_of}
use Rattle.law_renamed_workspaces.proofs.ExportsMove.{counts_there, level_there, export_exported, export_stays}
use Rattle.law_renamed_workspaces.proofs.ExportsMove.{export_was, is_m_now, is_free, other_there, other_back}

-- what two packages export under one name
exported_there : (p q : Package) (n : List ℕ) → ((e : Export) → IsExport p n e → IsExport q n e) → ((e : Export) → IsExport q n e → IsExport p n e) →
    (o : Option Export) → IsExported p n o → IsExported q n o
exported_there p q n there back None none = λ e x. none e (back e x)
exported_there p q n there back (Some e) x = there e x

-- what a meaning is in other packages
abbrev export_of : Bound → Option Export
export_of (Stands m) = Some (record { meaning = m })
export_of (Local k) = None
export_of BrokenVariable = None
export_of BrokenFunction = None
export_of BrokenType = None

module _ (w : Workspace) (sound : ListsFaults w []) (before : Verdicts) (right : AreVerdicts w before) (p : Package) (is : IsCheckedPackage w before p) where
  formed : WellFormed p.layout
  formed = layout_formed w before p.path p is.is_checked

  abbrev Meant : ℕ → Type 0
  Meant m = ((b : Bound) × IsMeaningOf p m b) ⊎ ((b : Bound) → IsMeaningOf p m b → ⊥)

  pub means : (m : ℕ) → Meant m
  means m = meant p formed (strings_known w sound before right p is) (broken_decided w sound before right p is) m

  abbrev meaning_as : (m : ℕ) → Meant m → Option Export
  meaning_as m (inl b) = export_of b.0
  meaning_as m (inr none) = None

  -- The declaration `m` is exported under an exported name.
  abbrev named_export : (m : ℕ) → Bool → Option Export
  named_export m true = meaning_as m (means m)
  named_export m false = None

  -- what is exported under a name where the declaration `m` is renamed
  abbrev by_old : (i : ExportData) (m : ℕ) (n : List ℕ) → (n ≡ p.names m) ⊎ (n ≢ p.names m) → Option Export
  by_old i m n (inl same) = None
  by_old i m n (inr other) = i.exported n

  abbrev by_name : (i : ExportData) (m : ℕ) (name n : List ℕ) → (n ≡ name) ⊎ (n ≢ name) → Option Export
  by_name i m name n (inl same) = named_export m (is_exported name)
  by_name i m name n (inr other) = by_old i m n (cases_bytes n (p.names m))

  abbrev SomeLevel : Declaration → Type 0
  SomeLevel d = ((m : ℕ) × ((d ≡ Declared p.path m) × IsPackageLevel p.layout m)) ⊎ ((m : ℕ) → d ≡ Declared p.path m → IsPackageLevel p.layout m → ⊥)

  abbrev by_level : (i : ExportData) (d : Declaration) (name n : List ℕ) → SomeLevel d → Option Export
  by_level i d name n (inl one) = by_name i one.0 name n (cases_bytes n name)
  by_level i d name n (inr none) = i.exported n

  -- what is exported under a name after the rename of the declaration to `name`
  abbrev pub new_exported : (i : ExportData) (d : Declaration) (name n : List ℕ) → Option Export
  new_exported i d name n = by_level i d name n (is_level_of d p)

  -- so it is in the package after the change

  module _ (q : Package) (alike : Alike p q) (i : ExportData) (was : (n : List ℕ) → IsExported p n (i.exported n)) where
    module _ (name : List ℕ) (m : ℕ) (h : MovesLevelName p q name m) where
      -- the meaning of the renamed declaration

      one_meaning : (e : Export) → IsExport q name e → IsMeaningOf p m (Stands e.meaning)
      one_meaning e x =
          subst (λ k. IsMeaningOf p k (Stands e.meaning)) (is_m_now p q alike name m h name e x refl)
          (meaning q p (turned p q alike) x.declaration (Stands e.meaning) x.by_declaration.means)

      not_means : (b : Bound) → IsMeaningOf p m b → ((e : Export) → Stands e.meaning ≡ b → ⊥) → (e : Export) → IsExport q name e → ⊥
      not_means b is_b never e x =
          never e (has_one_meaning p formed (files_in_order w before p.path p is.is_checked) m (Stands e.meaning) b (one_meaning e x) is_b)

      meant_export : is_exported name ≡ true → (b : Bound) → IsMeaningOf p m b → IsExported q name (export_of b)
      meant_export exported (Stands k) is_b = record {
        declaration = m;
        named = h.now;
        by_declaration = record {
          seen = record {
            package_level = level_there p q alike m h.level;
            counts = counts_there p q alike m h.counts;
            exported = ap is_exported h.now ∙ exported;
          };
          means = meaning p q alike m (Stands k) is_b;
        };
      }
      meant_export exported (Local k) is_b = not_means (Local k) is_b (λ e same. cc)
      meant_export exported BrokenVariable is_b = not_means BrokenVariable is_b (λ e same. cc)
      meant_export exported BrokenFunction is_b = not_means BrokenFunction is_b (λ e same. cc)
      meant_export exported BrokenType is_b = not_means BrokenType is_b (λ e same. cc)

      meaning_exported : is_exported name ≡ true → (o : Meant m) → IsExported q name (meaning_as m o)
      meaning_exported exported (inl b) = meant_export exported b.0 b.1
      meaning_exported exported (inr none) = λ e x. none (Stands e.meaning) (one_meaning e x)

      under_new : (b : Bool) → is_exported name ≡ b → IsExported q name (named_export m b)
      under_new true exported = meaning_exported exported (means m)
      under_new false hidden = λ e x. true≢false (sym (export_exported q name e x) ∙ hidden)

      under_old : (n : List ℕ) → n ≢ name → (o : (n ≡ p.names m) ⊎ (n ≢ p.names m)) → IsExported q n (by_old i m n o)
      under_old n other (inl same) = λ e x. is_free p q alike name m h e (subst (λ k. IsExport q k e) same x)
      under_old n other (inr apart) =
          exported_there p q n (other_there p q alike name m h n apart) (other_back p q alike name m h n other) (i.exported n) (was n)

      under_name : (n : List ℕ) (o : (n ≡ name) ⊎ (n ≢ name)) → IsExported q n (by_name i m name n o)
      under_name n (inl same) = subst (λ k. IsExported q k (named_export m (is_exported name))) (sym same) (under_new (is_exported name) refl)
      under_name n (inr other) = under_old n other (cases_bytes n (p.names m))

    -- by whether the renamed declaration is one of the package's block
    pub is_new_exported : (d : Declaration) (name : List ℕ) →
        ((m : ℕ) → d ≡ Declared p.path m → IsPackageLevel p.layout m → MovesLevelName p q name m) →
        (((m : ℕ) → d ≡ Declared p.path m → IsPackageLevel p.layout m → ⊥) → KeepsLevelNames p q) → (n : List ℕ) →
        IsExported q n (new_exported i d name n)
    is_new_exported d name moves keeps n = by_decision (is_level_of d p)
      where
        by_decision : (o : SomeLevel d) → IsExported q n (by_level i d name n o)
        by_decision (inl one) = under_name name one.0 (moves one.0 one.1.0 one.1.1) n (cases_bytes n name)
        by_decision (inr none) =
            exported_there p q n (export_stays p q alike (keeps none) n) (export_was p q alike (keeps none) n) (i.exported n) (was n)
