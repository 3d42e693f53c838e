-- A rename of an import without a name that is done in two steps: the package after it is the old one with other numbers and names. On the old
-- numbers it is a rename.
use Rattle.std.proofs.Common.{ℕ, suc, ◌≡◌, ◌<◌, ◌≤◌, inl, inr, List, [], length, refl, sym, ap, subst, ◌∙◌, arith}
use Rattle.std.specs.Prelude.{◌↔◌, Contains}
use Rattle.std.proofs.lemmas.Bool.{cases_lt}
use Rattle.std.proofs.lemmas.Bool.Decides.{nat_tests}
use Rattle.base_files.specs.Workspace.{Workspace}
use Rattle.base_files.specs.declared.fault_kind.FaultKind.TheVariants as kind
use Rattle.base_edits.specs.EditSet.{FileChanges, edited}
use Rattle.base_edits.specs.Revisions.{Revision}
use Rattle.base_edits.specs.RevisionsOfEdits.{revision_of}
use Rattle.go_scope.specs.declared.model.Block.TheVariants.{Universe, File}
use Rattle.go_scope.specs.declared.model.Block.TheVariants.{Package as PackageBlock}
use Rattle.go_scope.specs.Bindings.{AllCount, Counts, IsBoundTo, IsPackageLevel, Layout, Names, own}
use Rattle.go_scope.specs.FileSites.{universe}
use Rattle.go_scope.specs.Site.{sites_layout}
use Rattle.go_scope.proofs.Nesting.{Nested}
use Rattle.go_scope.proofs.Nests.{nests}
use Rattle.law_rename.specs.Around.{from_on}
use Rattle.law_rename.specs.Gained.{Gain}
use Rattle.law_rename.specs.Renaming.{IsRenaming, Renames}
use Rattle.law_rename.proofs.Bound.{bound_gained, bound_to_nothing}
use Rattle.types_declared.specs.Package.{Package}
use Rattle.types_resolve.specs.Scoping.{fault_at}
use Rattle.workspace_check.specs.FaultLists.{ListsFaults}
use Rattle.workspace_check.specs.Verdicts.{Verdicts, AreVerdicts}
use Rattle.workspace_check.proofs.OnePackage.{layout_formed}
use Rattle.workspace_check.proofs.SameImports.{stands_by}
use Rattle.workspace_check.proofs.StandsAlike.{package_there}
use Rattle.refs_binding.specs.declared.declaration.Declaration.TheVariants.{Declared}
use Rattle.refs_binding.specs.Binding.{IsPredeclaredNumber}
use Rattle.refs_binding.specs.Uses.{IsCheckedPackage}
use Rattle.refs_lookup.proofs.Faultless.{no_fault_later}
use Rattle.refactor_conflict.specs.ScopedPackages.{IsScopedIn}
use Rattle.law_faultless.proofs.Declared.{may_within}
use Rattle.law_gained_names.specs.NamedPackage.{IsNamedPackage, numbers_of}
use Rattle.law_gained_names.specs.GainedName.{gained_by}
use Rattle.law_gained_names.proofs.Scopes.{from_covers}
use Rattle.law_renamed_workspaces.specs.Layouts.{IsRelaid}
use Rattle.law_renamed_workspaces.proofs.OwnNames.{counted, in_universe, own_renames}
use Rattle.law_changed_types.proofs.Numbered.{back}
use Rattle.law_renamed_workspaces.specs.ScopedPackages.{HasMovedTokens}
use Rattle.law_renamed_workspaces.proofs.ScopedAfter.{scoped_relaid}
use Rattle.law_gained_names.specs.UnnamedRenames.{IsNamedFirst, IsUnnamedRename}

-- numbers

pub from_here : (n : ℕ) → from_on (suc n) n ≡ n
from_here n = grind (arith, nat_tests)

from_below : (n m : ℕ) → m < n → from_on (suc n) m ≡ m
from_below n m less = grind (arith, nat_tests)

least_by : (n m least : ℕ) → least ≤ n → from_on (suc n) m < least → m < least
least_by n m least ge less = grind (arith, nat_tests)

from_least : (n m least : ℕ) → (n < least → ⊥) → from_on (suc n) m < least → m < least
from_least n m least not less = elim (cases_lt n least) [ inl lt ↦ absurd (not lt) | inr ge ↦ least_by n m least ge less ]

module _ (w : Workspace) (sound : ListsFaults w []) (known : Verdicts) (right : AreVerdicts w known) (p : Package) (is : IsCheckedPackage w known p) where
  -- no declaration is repeated
  pub all_counting : AllCount p.layout p.names
  all_counting d declares = record {
    declares = declares;
    first = λ e also named displaces.
        let lt : d < p.size = may_within w known p.path p is.is_checked d declares.may in
        no_fault_later w sound known right p is (fault_at p.layout d kind.Repeated)
        (inl (inl (inl (d, lt, inr (inl (record { at = refl; repeats = inl (declares, λ counts. counts.first e also named displaces) }))))));
  }

module _ (w : Workspace) (known : Verdicts) (p : Package) (n : ℕ) (name : List ℕ) (s : FileChanges) (h : IsUnnamedRename w known p n name s)
    (f : IsNamedFirst w known p n name s) where
  -- the workspace between both steps
  abbrev pub v : Workspace
  v = edited f.naming w

  abbrev pub q : Package
  q = f.inside

  -- the second step
  abbrev pub second : Revision
  second = revision_of v f.renaming

  -- the new number of an identifier
  abbrev pub g : ℕ → ℕ
  g = from_on (suc n)

  -- the package after both
  pub after : (o : Package) × (IsScopedIn second.after o × (IsRelaid second q o × HasMovedTokens second q o))
  after = scoped_relaid v known (Declared q.path n) name f.renaming f.renames.rename q f.renames.is_package

  abbrev pub o : Package
  o = after.0

  -- the names after both, at the old numbers
  abbrev pub names : Names
  names = λ u. o.names (g u)

  -- the first step keeps other packages
  pub other_package : (y : Package) → (y.path ≡ p.path → ⊥) → IsCheckedPackage w known y → IsCheckedPackage v known y
  other_package y away is =
      let k = f.workspace in
      record {
        of_workspace = subst (λ ps. Contains ps y.path) k.imports.paths is.of_workspace;
        is_checked = package_there w v y.path (stands_by w v k.imports y.path (k.others y.path away)) known y is.is_checked;
      }

  -- the first step keeps bindings, whatever the names are

  abbrev pub gain : Gain
  gain = gained_by f.number p q f.workspace.gains

  abbrev a : IsNamedPackage gain n p q
  a = f.gained.named

  pub bound : (later : Names) (u d : ℕ) → IsBoundTo p.layout (λ z. later (g z)) u d ↔ IsBoundTo q.layout later (g u) (g d)
  bound later u d =
      subst (λ (l : Layout). IsBoundTo l (λ z. later (g z)) u d ↔ IsBoundTo q.layout later (g u) (g d)) (sym a.was.layout)
      (subst (λ (l : Layout). IsBoundTo (sites_layout a.old) (λ z. later (g z)) u d ↔ IsBoundTo l later (g u) (g d)) (sym a.is.layout)
      (bound_gained gain gain.name n a.old a.new a.gained later u d))

  pub bound_to_old : (later : Names) (u e : ℕ) → IsBoundTo q.layout later (g u) e → (d : ℕ) × (g d ≡ e)
  bound_to_old later u e b =
      from_covers n e (λ same.
      bound_to_nothing gain gain.name n a.old a.new a.gained later (g u)
      (subst (λ (l : Layout). IsBoundTo l later (g u) (suc n)) a.is.layout (subst (λ k. IsBoundTo q.layout later (g u) k) same b)))

  pub bound_first : (u d : ℕ) → IsBoundTo p.layout p.names u d ↔ IsBoundTo q.layout q.names (g u) (g d)
  bound_first u d = f.gained.renumbered.bound u d

  pub named_first : (u : ℕ) → q.names (g u) ≡ p.names u
  named_first u = f.gained.keeps.names u

  -- the second step is a rename on the layout of the first

  pub relaid : IsRelaid second q o
  relaid = after.1.1.0

  pub renames_second : Renames q.layout q.names n name o.names
  renames_second = own_renames v known q.path n name f.renaming f.renames.rename q o f.renames.is_package refl relaid

  -- so both are one on the old layout

  pub formed : Nested p.layout
  formed = nests p.layout (layout_formed w known p.path p h.is_package.is_checked)

  itself : IsBoundTo q.layout q.names n n
  itself = own refl (renames_second.all_count n renames_second.declared)

  counts_first : Counts p.layout p.names n
  counts_first =
      let here : IsBoundTo q.layout q.names (g n) (g n) = subst (λ k. IsBoundTo q.layout q.names k k) (sym (from_here n)) itself in
      counted p.layout p.names n n ((bound_first n n).1 here)

  renaming : IsRenaming p.layout p.names n name names
  renaming = record {
    renamed = λ u b.
        renames_second.renaming.renamed (g u) (subst (λ k. IsBoundTo q.layout q.names (g u) k) (from_here n) ((bound_first u n).0 b));
    kept = λ u not.
        renames_second.renaming.kept (g u)
        (λ b. not ((bound_first u n).1 (subst (λ k. IsBoundTo q.layout q.names (g u) k) (sym (from_here n)) b))) ∙ named_first u;
  }

  pub renames : Renames p.layout p.names n name names
  renames = record {
    well_formed = layout_formed w known p.path p h.is_package.is_checked;
    all_count = all_counting w h.rename.sound known h.rename.right p h.is_package;
    declared = counts_first.declares;
    other_name = λ e. renames_second.other_name (ap q.names (sym (from_here n)) ∙ named_first n ∙ e);
    renaming = renaming;
  }

  -- predeclared names keep their numbers

  pub import_own : IsPredeclaredNumber n → ⊥
  import_own lt =
      let import = h.unnamed.0 in
      let z : Universe ≡ File import.0 = sym (in_universe w known p.path p h.is_package.is_checked n lt) ∙ import.1 in cc

  pub same_predeclared : (m : ℕ) → IsPredeclaredNumber m → g m ≡ m
  same_predeclared m lt = elim (cases_lt m n) [
    | inl less ↦ from_below n m less
    | inr ge ↦ absurd (import_own (let k : n < length universe = omega (arith, ge, lt) in k))
  ]

  pub own_after : (m : ℕ) → (IsPredeclaredNumber m → ⊥) → IsPredeclaredNumber (g m) → ⊥
  own_after m other lt = other (from_least n m (length universe) import_own lt)

  -- the import is declared in a file

  pub no_level : IsPackageLevel q.layout n → ⊥
  no_level level =
      let import = h.unnamed.0 in
      let there : IsPackageLevel p.layout n = (back (numbers_of gain n) p q f.gained.renumbered).level n n (sym (from_here n)) level in
      let z : PackageBlock ≡ File import.0 = sym there ∙ import.1 in cc
