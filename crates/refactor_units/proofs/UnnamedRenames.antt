-- The planned rename of an import without a name is one by which it gains a name.
use Rattle.std.proofs.Common.{ℕ, ◌≡◌, ◌⊎◌, inl, inr, List, [], refl, sym, subst}
use Rattle.std.proofs.lemmas.Bool.{cases_eq}
use Rattle.base_files.specs.Workspace.{Workspace}
use Rattle.go_scope.specs.declared.model.Block.{Block}
use Rattle.go_scope.specs.declared.model.Block.TheVariants.{File, Inner, Universe}
use Rattle.go_scope.specs.declared.model.Block.TheVariants.{Package as PackageBlock}
use Rattle.go_scope.specs.Bindings.{block_of}
use Rattle.types_declared.specs.Laid.{literal_of}
use Rattle.types_declared.specs.Package.{Package}
use Rattle.workspace_check.specs.FaultLists.{ListsFaults}
use Rattle.workspace_check.specs.Verdicts.{Verdicts, AreVerdicts}
use Rattle.workspace_snapshot.specs.declared.change.Change.{Change}
use Rattle.workspace_snapshot.specs.declared.snapshot.Snapshot.{Snapshot}
use Rattle.refs_binding.specs.declared.declaration.Declaration.{Declaration}
use Rattle.refs_binding.specs.declared.declaration.Declaration.TheVariants.{Declared}
use Rattle.refs_binding.specs.Uses.{IsCheckedPackage, IsUseOf}
use Rattle.refactor_rename.specs.Literals.{IsUnnamedImport}
use Rattle.refactor_rename.specs.NewName.{IsNewName}
use Rattle.refactor_plan.specs.Plan.{IsRenamed}
use Rattle.refactor_plan.proofs.ImportUses.{import_used}
use Rattle.refactor_plan.proofs.UsedMembers.{declared_counts}
use Rattle.law_renamed_workspaces.specs.RenamedData.{IsAlone}
use Rattle.law_renamed_workspaces.specs.Renames.{IsMember, IsRename, IsSetWith}
use Rattle.law_renamed_workspaces.proofs.RenamedSets.{own_alone}
use Rattle.law_agreement.proofs.RenamedAlone.{use_among, use_of_alone}
use Rattle.law_implementing.proofs.Laws.{sets_are_called_alike}
use Rattle.law_gained_names.specs.UnnamedRenames.{IsUnnamedRename}

-- whether a declaration is an import without a name

in_file : (b : Block) → ((f : ℕ) × (b ≡ File f)) ⊎ ((f : ℕ) → b ≡ File f → ⊥)
in_file (File f) = inl (f, refl)
in_file Universe = inr (λ f e. let z : ⊥ = cc in z)
in_file PackageBlock = inr (λ f e. let z : ⊥ = cc in z)
in_file (Inner f a b) = inr (λ g e. let z : ⊥ = cc in z)

pub named_or_not : (p : Package) (n : ℕ) → IsUnnamedImport p n ⊎ (IsUnnamedImport p n → ⊥)
named_or_not p n = elim (in_file (block_of (p.layout.role n))) [
  | inl import ↦ elim (cases_eq (literal_of p.layout n) n) [ inl own ↦ inl (import, own) | inr other ↦ inr (λ u. other u.1) ]
  | inr other ↦ inr (λ u. other u.0.0 u.0.1)
]

module _ (snapshot : Snapshot) (path : List ℕ) (offset : ℕ) (name : List ℕ) (change : Change) (sound : ListsFaults snapshot.files []) (form : IsNewName name)
    (renamed : IsRenamed snapshot path offset name change) where
  abbrev w : Workspace
  w = snapshot.files

  abbrev known : Verdicts
  known = renamed.renaming.may.renamable.asked.known

  abbrev right : AreVerdicts w known
  right = renamed.renaming.may.renamable.asked.right

  abbrev d : Declaration
  d = renamed.renaming.may.renamable.asked.declaration

  pub planned_unnamed : (p : Package) (n : ℕ) → IsCheckedPackage w known p → d ≡ Declared p.path n → IsUnnamedImport p n →
      IsUnnamedRename w known p n name change.edits
  planned_unnamed p n is same unnamed =
      let counted = declared_counts w sound known right path offset d renamed.renaming.may.renamable.asked.has p n is same in
      let set = renamed.renaming.set in
      let is_set : IsSetWith (IsCheckedPackage w known) d set =
      sets_are_called_alike w known d set right sound renamed.renaming.edits.is_set in
      let alone : IsAlone d set = own_alone (IsCheckedPackage w known) d set is_set (λ m. subst IsMember same m) in
      let uses = renamed.renaming.edits.edits.is_renamed.uses in
      let used = import_used w sound known right p is n unnamed.0 counted.counts.declares counted.own renamed.renaming.edits.edits.renamed.places
      (λ place u. (uses.each place).1 (use_among w known d set is_set.has_it place (subst (λ e. IsUseOf w known e place) (sym same) u)))
      (λ place c. subst (λ e. IsUseOf w known e place) same (use_of_alone w known d set alone place ((uses.each place).0 c))) in
      let rename : IsRename w known d name change.edits = record {
        right = right;
        sound = sound;
        form = form;
        renamable = renamed.renaming.may.renamable.not_fixed;
        allowed = renamed.renaming.may.allowed;
        other = renamed.renaming.other;
        used = (used.0, subst (λ e. IsUseOf w known e used.0) (sym same) used.1);
        set = set;
        is_set = is_set;
        edits = renamed.renaming.edits.edits;
        fit = renamed.fit_files;
      } in
      record { rename = subst (λ e. IsRename w known e name change.edits) same rename; is_package = is; unnamed = unnamed }
