-- The exports of a package after the rename of one of them.
use Rattle.std.proofs.Common.{ℕ, ◌≡◌, inl, inr, Bool, true, false, List, ap, sym, refl, ◌∙◌}
use Rattle.std.specs.Prelude.{Option, Some, None, if◌then◌else◌}
use Rattle.std.proofs.lemmas.Bool.{cases_eq, true≢false}
use Rattle.base_edits.specs.EditSet.{FileChanges}
use Rattle.base_edits.specs.RevisionsOfEdits.{revision_of}
use Rattle.base_files.specs.Workspace.{Workspace}
use Rattle.go_scope.specs.Bindings.{IsPackageLevel, Counts, own}
use Rattle.go_scope.specs.WellFormed.{WellFormed}
use Rattle.go_scope.proofs.Nests.{nests}
use Rattle.go_scope.proofs.Uniqueness.{bound_once}
use Rattle.types_declared.specs.Laid.{is_exported}
use Rattle.types_declared.specs.Package.{Package, Export}
use Rattle.types_check.specs.Exports.{IsExport, IsExported}
use Rattle.workspace_check.specs.Verdicts.{Verdicts}
use Rattle.workspace_check.proofs.OnePackage.{layout_formed}
use Rattle.refs_binding.specs.declared.declaration.Declaration.TheVariants.{Declared}
use Rattle.refs_binding.specs.Uses.{IsCheckedPackage}
use Rattle.law_rename.specs.Renaming.{Renames}
use Rattle.law_changed_types.proofs.Alike.{Alike, turned}
use Rattle.law_renamed_workspaces.specs.Layouts.{IsRelaid}
use Rattle.law_renamed_workspaces.proofs.OwnNames.{own_renames}
use Rattle.law_renamed_workspaces.proofs.ExportsMove.{counts_there, level_there, export_there, export_exported, one_counts}
use Rattle.law_renamed_workspaces.specs.KnownVerdicts.{IsKeptRename}
use Rattle.law_renamed_workspaces.specs.RenamedData.{renamed_entry}
use Rattle.law_renamed_workspaces.proofs.RenamedEntries.{entry_holds}

-- what is exported under one name is exported of the other package under another
found_as : (p q : Package) (m n : List ℕ) → ((e : Export) → IsExport p m e → IsExport q n e) → ((e : Export) → IsExport q n e → IsExport p m e) →
    (o : Option Export) → IsExported p m o → IsExported q n o
found_as p q m n there back None none = λ e x. none e (back e x)
found_as p q m n there back (Some e) x = there e x

module _ (w : Workspace) (before : Verdicts) (p q : Package) (n : ℕ) (name : List ℕ) (s : FileChanges) (h : IsKeptRename w before (Declared p.path n) name s)
    (is : IsCheckedPackage w before p) (relaid : IsRelaid (revision_of w s) p q) (alike : Alike p q) (level : IsPackageLevel p.layout n)
    (was_exported : is_exported (p.names n) ≡ true) where
  abbrev old : List ℕ
  old = p.names n

  abbrev back : Alike q p
  back = turned p q alike

  formed : WellFormed p.layout
  formed = layout_formed w before p.path p is.is_checked

  renames : Renames p.layout p.names n name q.names
  renames = own_renames w before p.path n name s h.plain p q is refl relaid

  counts : Counts p.layout p.names n
  counts = renames.all_count n renames.declared

  now : q.names n ≡ name
  now = renames.renaming.renamed n (own refl counts)

  kept : (u : ℕ) → Counts p.layout p.names u → (u ≡ n → ⊥) → q.names u ≡ p.names u
  kept u c apart = renames.renaming.kept u (λ bound. apart (bound_once p.layout (nests p.layout formed) p.names u u n (own refl c) bound))

  -- the declaration of an export

  is_n : (m : List ℕ) (e : Export) (x : IsExport p m e) → m ≡ old → x.declaration ≡ n
  is_n m e x same =
      one_counts p.layout p.names x.declaration n x.by_declaration.seen.package_level level x.by_declaration.seen.counts counts (x.named ∙ same)

  is_n_now : (m : List ℕ) (e : Export) (x : IsExport q m e) → m ≡ name → x.declaration ≡ n
  is_n_now m e x same =
      one_counts q.layout q.names x.declaration n x.by_declaration.seen.package_level (level_there p q alike n level) x.by_declaration.seen.counts
      (counts_there p q alike n counts) (x.named ∙ same ∙ sym now)

  kept_there : (m : List ℕ) (e : Export) (x : IsExport p m e) → (x.declaration ≡ n → ⊥) → q.names x.declaration ≡ m
  kept_there m e x apart = kept x.declaration x.by_declaration.seen.counts apart ∙ x.named

  kept_back : (m : List ℕ) (e : Export) (x : IsExport q m e) → (x.declaration ≡ n → ⊥) → p.names x.declaration ≡ m
  kept_back m e x apart = sym (kept x.declaration (counts_there q p back x.declaration x.by_declaration.seen.counts) apart) ∙ x.named

  -- under the new name, the old name and others

  under_new : (o : Option Export) → IsExported p old o → (b : Bool) → is_exported name ≡ b → IsExported q name (if b then o else None)
  under_new o was true exported =
      found_as p q old name (λ e x. export_there p q alike old name e x (ap q.names (is_n old e x refl) ∙ now) exported)
      (λ e x. export_there q p back name old e x (ap p.names (is_n_now name e x refl)) was_exported) o was
  under_new o was false hidden = λ e x. true≢false (sym (export_exported q name e x) ∙ hidden)

  under_old : (e : Export) → IsExport q old e → ⊥
  under_old e x = elim (cases_eq x.declaration n) [
    | inl same ↦ renames.other_name (sym x.named ∙ ap q.names same ∙ now)
    | inr apart ↦
        apart (one_counts p.layout p.names x.declaration n (level_there q p back x.declaration x.by_declaration.seen.package_level) level
        (counts_there q p back x.declaration x.by_declaration.seen.counts) counts (kept_back old e x apart))
  ]

  under_other : (m : List ℕ) → (m ≡ old → ⊥) → (m ≡ name → ⊥) → (o : Option Export) → IsExported p m o → IsExported q m o
  under_other m not_old not_new o was =
      found_as p q m m
      (λ e x. export_there p q alike m m e x (kept_there m e x (λ same. not_old (sym x.named ∙ ap p.names same))) (export_exported p m e x))
      (λ e x. export_there q p back m m e x (kept_back m e x (λ same. not_new (sym x.named ∙ ap q.names same ∙ now))) (export_exported q m e x)) o was

  pub exports_renamed : (f : List ℕ → Option Export) → ((m : List ℕ) → IsExported p m (f m)) → (m : List ℕ) →
      IsExported q m (renamed_entry old name (if is_exported name then f old else None) f m)
  exports_renamed f was =
      entry_holds (IsExported q) old name (if is_exported name then f old else None) f (under_new (f old) (was old) (is_exported name) refl) under_old
      (λ m not_old not_new. under_other m not_old not_new (f m) (was m))
