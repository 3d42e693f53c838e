-- The package-level names of a package after a rename: all as before, or that of the renamed declaration alone is another.
use Rattle.std.proofs.Common.{ℕ, ◌≡◌, ◌<◌, ◌⊎◌, inl, inr, true, List, ap, refl, sym, subst, ◌∙◌}
use Rattle.std.proofs.lemmas.Bool.{cases_eq}
use Rattle.base_edits.specs.EditSet.{FileChanges}
use Rattle.base_edits.specs.RevisionsOfEdits.{revision_of}
use Rattle.base_files.specs.Workspace.{Workspace}
use Rattle.go_scope.specs.declared.model.Block.{Block}
use Rattle.go_scope.specs.declared.model.Block.TheVariants.{Universe, Package as PackageBlock, File, Inner}
use Rattle.go_scope.specs.declared.model.Role.{Role}
use Rattle.go_scope.specs.declared.model.Role.TheVariants.{Use, Declaring, LeftName, Implied, NotLexical}
use Rattle.go_scope.specs.Bindings.{Layout, Names, IsLeftName, IsPackageLevel, Declares, Counts, IsBoundTo, use_bound, own, block_of}
use Rattle.go_scope.specs.Bindings.{may_declare}
use Rattle.go_scope.specs.WellFormed.{WellFormed}
use Rattle.types_declared.specs.Package.{Package}
use Rattle.types_declared.proofs.ByteKeys.{cases_bytes}
use Rattle.workspace_check.specs.Verdicts.{Verdicts}
use Rattle.refs_binding.specs.declared.declaration.Declaration.{Declaration}
use Rattle.refs_binding.specs.declared.declaration.Declaration.TheVariants.{Predeclared, Declared, Field, Method}
use Rattle.refs_binding.specs.Uses.{IsCheckedPackage}
use Rattle.refs_binding.specs.DeclaringPlaces.{InHomePackage}
use Rattle.refactor_rename.specs.Naming.{IsTopLevelIn}
use Rattle.refactor_rename.specs.NewName.{IsReserved}
use Rattle.law_faultless.proofs.Declared.{may_within}
use Rattle.law_rename.specs.Renaming.{Renames}
use Rattle.law_renamed_workspaces.specs.Layouts.{IsRelaid}
use Rattle.law_renamed_workspaces.specs.Renames.{IsPlainRename}
use Rattle.law_renamed_workspaces.specs.Scopes.{OwnRenamesAreRenames, OtherScopesStay}
use Rattle.law_renamed_workspaces.proofs.ScopeFaults.{NoneIsInit, use_or_declares}

package_role : (r : Role) → block_of r ≡ PackageBlock → may_declare r ≡ true
package_role (Declaring b start) e = refl
package_role (LeftName b start) e = refl
package_role (Implied b start) e = refl
package_role Use e = let z : ⊥ = cc in absurd z
package_role (NotLexical p) e = let z : ⊥ = cc in absurd z

-- what is in the package's block declares
pub level_declares : (l : Layout) → WellFormed l → (names : Names) (u : ℕ) → IsPackageLevel l u → Declares l names u
level_declares l formed names u level = record { may = package_role (l.role u) level; is_new = λ left. absurd (not_left left) }
  where
    not_left : IsLeftName l u → ⊥
    not_left left = let x = formed.left_inner u left in let z : PackageBlock ≡ Inner x.0 x.1 x.2 = sym level ∙ x.3 in cc

level_or_not : (b : Block) → (b ≡ PackageBlock) ⊎ (b ≡ PackageBlock → ⊥)
level_or_not PackageBlock = inl refl
level_or_not Universe = inr (λ e. cc)
level_or_not (File f) = inr (λ e. cc)
level_or_not (Inner f a b) = inr (λ e. cc)

-- Each declaration of the package's block keeps its name.
abbrev pub KeepsLevelNames : Package → Package → Type 0
KeepsLevelNames p q = (u : ℕ) → IsPackageLevel p.layout u → Counts p.layout p.names u → q.names u ≡ p.names u

-- The declaration `m` of the package's block is renamed, and all others keep their names.
pub record MovesLevelName (p q : Package) (name : List ℕ) (m : ℕ) : Type 0 where
  pub level : IsPackageLevel p.layout m
  pub within : m < p.size
  pub counts : Counts p.layout p.names m
  pub now : q.names m ≡ name
  pub other : p.names m ≡ name → ⊥
  pub others : (u : ℕ) → (u ≡ m → ⊥) → IsPackageLevel p.layout u → Counts p.layout p.names u → q.names u ≡ p.names u
  pub allowed : IsReserved name → ⊥

pub data HasLevelNames (p q : Package) (name : List ℕ) : Type 0 where
  all_stay : KeepsLevelNames p q → HasLevelNames p q name
  one_moves : (m : ℕ) → MovesLevelName p q name m → HasLevelNames p q name

-- a declaration that counts is bound to itself alone
bound_to_other : (l : Layout) (names : Names) (u m : ℕ) → Counts l names u → (u ≡ m → ⊥) → IsBoundTo l names u m → ⊥
bound_to_other l names u m counts apart (use_bound used at) = use_or_declares l names u used counts.declares
bound_to_other l names u m counts apart (own e c) = apart e

-- whether a declaration is one of the scopes of the package at a path
declared_here : (d : Declaration) (path : List ℕ) → ((m : ℕ) × (d ≡ Declared path m)) ⊎ ((m : ℕ) → d ≡ Declared path m → ⊥)
declared_here (Predeclared n) path = inr (λ m e. cc)
declared_here (Field f) path = inr (λ m e. cc)
declared_here (Method f) path = inr (λ m e. cc)
declared_here (Declared other n) path = elim (cases_bytes other path) [
  | inl same ↦ inl (n, ap (λ x. Declared x n) same)
  | inr apart ↦ inr (λ m e. apart cc)
]

same_number : (path : List ℕ) (m n : ℕ) → Declared path m ≡ Declared path n → m ≡ n
same_number path m n e = cc

-- whether it is one of the block of the package
pub is_level_of : (d : Declaration) (p : Package) → ((m : ℕ) × ((d ≡ Declared p.path m) × IsPackageLevel p.layout m))
    ⊎ ((m : ℕ) → d ≡ Declared p.path m → IsPackageLevel p.layout m → ⊥)
is_level_of d p = elim (declared_here d p.path) [
  | inr none ↦ inr (λ m e level. none m e)
  | inl here ↦ elim (level_or_not (block_of (p.layout.role here.0))) [
    | inl level ↦ inl (here.0, (here.1, level))
    | inr inner ↦ inr (λ m e level. inner (subst (IsPackageLevel p.layout) (same_number p.path m here.0 (sym e ∙ here.1)) level))
  ]
]

module _ (own_renames : OwnRenamesAreRenames) (others_stay : OtherScopesStay) (w : Workspace) (before : Verdicts) (d : Declaration) (name : List ℕ)
    (s : FileChanges) (plain : IsPlainRename w before d name s) (p q : Package) (was : IsCheckedPackage w before p) (relaid : IsRelaid (revision_of w s) p
    q) where
  renames_here : (m : ℕ) → d ≡ Declared p.path m → Renames p.layout p.names m name q.names
  renames_here m e = own_renames w before p.path m name s (subst (λ x. IsPlainRename w before x name s) e plain) p q was refl relaid

  kept_here : (m : ℕ) → d ≡ Declared p.path m → (u : ℕ) → (u ≡ m → ⊥) → Counts p.layout p.names u → q.names u ≡ p.names u
  kept_here m e u apart c = (renames_here m e).renaming.kept u (bound_to_other p.layout p.names u m c apart)

  pub moves_level : (m : ℕ) → d ≡ Declared p.path m → IsPackageLevel p.layout m → MovesLevelName p q name m
  moves_level m e level =
      let renames = renames_here m e in
      let counts = renames.all_count m renames.declared in
      let within = may_within w before p.path p was.is_checked m renames.declared.may in
      record {
        level = level;
        within = within;
        counts = counts;
        now = renames.renaming.renamed m (own refl counts);
        other = renames.other_name;
        others = λ u apart l c. kept_here m e u apart c;
        allowed = λ reserved. plain.rename.allowed (
          subst (λ x. InHomePackage (IsCheckedPackage w before) x (λ c. IsTopLevelIn c x)) (sym e)
              (record { inside = p; is_package = was; of_path = refl; holds = (within, inl level) }),
          reserved,
        );
      }

  pub keeps_levels : ((m : ℕ) → d ≡ Declared p.path m → IsPackageLevel p.layout m → ⊥) → KeepsLevelNames p q
  keeps_levels none u level counts = elim (declared_here d p.path) [
    | inr other ↦ others_stay w before d name s plain p q was other relaid u u (own refl counts)
    | inl here ↦ kept_here here.0 here.1 u (λ same. none here.0 here.1 (subst (IsPackageLevel p.layout) same level)) counts
  ]

  pub level_names : HasLevelNames p q name
  level_names = elim (is_level_of d p) [
    | inl one ↦ one_moves one.0 (moves_level one.0 one.1.0 one.1.1)
    | inr none ↦ all_stay (keeps_levels none)
  ]

-- none of them is called `init`
pub none_is_init : (p q : Package) (name : List ℕ) → WellFormed p.layout → HasLevelNames p q name → NoneIsInit p.layout p.size p.names →
    ((u : ℕ) → u < p.size → IsPackageLevel p.layout u → (Counts p.layout p.names u → ⊥) → ⊥) → NoneIsInit p.layout p.size q.names
none_is_init p q name formed (all_stay keeps) none counted u lt level called =
    counted u lt level (λ c. none u lt level (sym (keeps u level c) ∙ called))
none_is_init p q name formed (one_moves m h) none counted u lt level called =
    counted u lt level
    (λ c. elim (cases_eq u m) [
      | inl same ↦ h.allowed (inl (sym h.now ∙ ap q.names (sym same) ∙ called))
      | inr apart ↦ none u lt level (sym (h.others u apart level c) ∙ called)
    ])
