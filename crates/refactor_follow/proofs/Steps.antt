-- One more import of a package, and one more package.
use Rattle.std.proofs.Common.{ℕ, ◌≡◌, ◌+◌, inl, inr, true, List, Option, Some, None, refl, sym, ap, subst, ◌∙◌, arith}
use Rattle.std.specs.Prelude.{[], slice_get}
use Rattle.std.proofs.lemmas.Option.{same_Some}
use Rattle.base_files.specs.Workspace.{Workspace}
use Rattle.base_files.specs.declared.place.Place.{Place}
use Rattle.go_scope.specs.declared.model.Block.TheVariants.{Universe, File, Inner}
use Rattle.go_scope.specs.declared.model.Role.{Role}
use Rattle.go_scope.specs.declared.model.Role.TheVariants.{Use, Declaring, LeftName, Implied, NotLexical}
use Rattle.go_scope.specs.Bindings.{Layout, Names, Declares, IsImport, block_of, may_declare}
use Rattle.go_scope.specs.WellFormed.{WellFormed}
use Rattle.go_scope.proofs.Uniqueness.{same_or_not}
use Rattle.types_declared.specs.Package.{Package}
use Rattle.workspace_check.specs.FaultLists.{ListsFaults}
use Rattle.workspace_check.specs.Verdicts.{Verdicts, AreVerdicts}
use Rattle.workspace_check.proofs.OnePackage.{layout_formed}
use Rattle.refs_binding.specs.Uses.{IsCheckedPackage}
use Rattle.refs_binding.specs.Workspaces.{IsPackageAt}
use Rattle.refs_binding.proofs.Units.{one_package}
use Rattle.refactor_conflict.specs.declared.conflict.Conflict.{Conflict}
use Rattle.law_agreement.specs.ScopeConflicts.{HasNoOwnConflict, IsOwnConflict, earlier_conflict}
use Rattle.refactor_decide.proofs.FirstOwn.{own_first}
use Rattle.refactor_follow.specs.FirstConflicts.{IsConflictAmong, IsConflictBelow, IsFirstAmong, IsFirstAt, IsFirstOfImports, IsFreeAmong, IsFreeBelow}
use Rattle.refactor_follow.specs.ImportNames.{GetsName, TellsIfNamed}
use Rattle.refactor_follow.proofs.Joining.{first_joined, first_weaker}

-- an import declares

import_may : (r : Role) (f : ℕ) → block_of r ≡ File f → may_declare r ≡ true
import_may (Declaring b s) f e = refl
import_may (LeftName b s) f e = refl
import_may (Implied b s) f e = refl
import_may Use f e = let z : Universe ≡ File f = e in cc
import_may (NotLexical p) f e = let z : Universe ≡ File f = e in cc

never_inner : (f g a b : ℕ) → File f ≡ Inner g a b → ⊥
never_inner f g a b e = cc

pub import_declares : (l : Layout) (names : Names) → WellFormed l → (d : ℕ) → IsImport l d → Declares l names d
import_declares l names formed d import = record {
  may = import_may (l.role d) import.0 import.1;
  is_new = λ left. let i = formed.left_inner d left in absurd (never_inner import.0 i.0 i.1 i.2 (sym import.1 ∙ i.3));
}

module _ (w : Workspace) (sound : ListsFaults w []) (known : Verdicts) (right : AreVerdicts w known) (path name : List ℕ) where
  abbrev Known : Package → Type 0
  Known = IsCheckedPackage w known

  -- one more import

  module _ (p : Package) (is : IsCheckedPackage w known p) where
    pub none_below : IsFirstOfImports Known p path name 0 None
    none_below = λ place d lt. absurd (omega (arith, lt))

    one_more : (n : ℕ) (c : Conflict) → IsConflictBelow Known p path name n c → IsConflictBelow Known p path name (n + 1) c
    one_more n c k = record { import = k.import; below = omega (arith, k.below); gets = k.gets; conflict = k.conflict }

    with_last : (n : ℕ) (place : Place) → IsFreeBelow p path name n place → (GetsName p path name n → HasNoOwnConflict p n name place) →
        IsFreeBelow p path name (n + 1) place
    with_last n place free last d lt gets = elim (same_or_not d n) [
      | inl same ↦ subst (λ k. HasNoOwnConflict p k name place) (sym same) (last (subst (GetsName p path name) same gets))
      | inr other ↦ free d (omega (arith, lt, other)) gets
    ]

    pub next_below : (n : ℕ) (a b : Option Conflict) → IsFirstOfImports Known p path name n a → TellsIfNamed p path name n b →
        IsFirstOfImports Known p path name (n + 1) (earlier_conflict a b)
    next_below n a b h (inl k) =
        let declares = import_declares p.layout p.names (layout_formed w known p.path p is.is_checked) n k.0.bare.imports.is_import in
        first_joined (IsConflictBelow Known p path name n) (IsOwnConflict Known p n name) (IsConflictBelow Known p path name (n + 1))
        (IsFreeBelow p path name n) (HasNoOwnConflict p n name) (IsFreeBelow p path name (n + 1)) (one_more n)
        (λ c own. record { import = n; below = omega arith; gets = k.0; conflict = own })
        (λ place free last. with_last n place free (λ gets. last)) a b h (own_first w sound known right p is n name declares b k.1)
    next_below n a b h (inr k) =
        subst (λ o. IsFirstOfImports Known p path name (n + 1) (earlier_conflict a o)) (sym k.1)
        (subst (IsFirstOfImports Known p path name (n + 1)) (nothing_more a)
        (first_weaker (IsConflictBelow Known p path name n) (IsConflictBelow Known p path name (n + 1)) (IsFreeBelow p path name n)
        (IsFreeBelow p path name (n + 1)) (one_more n) (λ place free. with_last n place free (λ gets. absurd (k.0 gets))) a h))
      where
        nothing_more : (a : Option Conflict) → a ≡ earlier_conflict a None
        nothing_more None = refl
        nothing_more (Some c) = refl

-- one more package
module _ (w : Workspace) (known : Verdicts) (path name : List ℕ) where
  abbrev Knows : Package → Type 0
  Knows = IsCheckedPackage w known

  pub none_among : (numbers : List ℕ) → IsFirstAmong w known path name numbers 0 None
  none_among numbers = λ place i number lt. absurd (omega (arith, lt))

  same_package : (number : ℕ) (p q : Package) → IsPackageAt w known number p → IsPackageAt w known number q → p ≡ q
  same_package number p q h k =
      one_package w known p q h.is_package k.is_package (same_Some p.path q.path (sym h.has_number ∙ k.has_number))

  pub next_among : (numbers : List ℕ) (n number : ℕ) → slice_get numbers n ≡ Some number → (a b : Option Conflict) →
      IsFirstAmong w known path name numbers n a → IsFirstAt w known path name number b →
      IsFirstAmong w known path name numbers (n + 1) (earlier_conflict a b)
  next_among numbers n number at a b h k =
      first_joined (IsConflictAmong w known path name numbers n) (IsConflictBelow Knows k.inside path name k.inside.size)
      (IsConflictAmong w known path name numbers (n + 1)) (IsFreeAmong w known path name numbers n) (IsFreeBelow k.inside path name k.inside.size)
      (IsFreeAmong w known path name numbers (n + 1))
      (λ c x. record {
        index = x.index;
        below = omega (arith, x.below);
        number = x.number;
        has = x.has;
        inside = x.inside;
        is_package = x.is_package;
        conflict = x.conflict;
      })
      (λ c x. record { index = n; below = omega arith; number = number; has = at; inside = k.inside; is_package = k.is_package; conflict = x })
      (λ place free last i other lt has p is. elim (same_or_not i n) [
        | inr apart ↦ free i other (omega (arith, lt, apart)) has p is
        | inl same ↦
            let one : number ≡ other = same_Some number other (sym at ∙ ap (slice_get numbers) (sym same) ∙ has) in
            let here : k.inside ≡ p = same_package other k.inside p (subst (λ j. IsPackageAt w known j k.inside) one k.is_package) is in
            subst (λ (q : Package). IsFreeBelow q path name q.size place) here last
      ])
      a b h k.first
