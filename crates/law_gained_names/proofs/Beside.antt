-- Renames of imports without a name: identifiers that no file has, and conflicts at the new numbers.
use Rattle.std.proofs.Common.{ℕ, suc, ◌≡◌, ◌<◌, ◌⊎◌, inl, inr, true, List, length, refl, sym, ap, subst, ◌∙◌, arith}
use Rattle.std.proofs.lemmas.Bool.{cases_Bool, cases_lt, true≢false}
use Rattle.base_files.specs.Workspace.{Workspace}
use Rattle.base_files.specs.declared.place.Place.{Place}
use Rattle.base_edits.specs.EditSet.{FileChanges}
use Rattle.go_scope.specs.declared.model.Block.TheVariants.{File, Universe}
use Rattle.go_scope.specs.declared.model.Block.TheVariants.{Package as PackageBlock}
use Rattle.go_scope.specs.declared.model.Role.{Role}
use Rattle.go_scope.specs.declared.model.Role.TheVariants.{Declaring, Implied, LeftName, NotLexical, Use}
use Rattle.go_scope.specs.Bindings.{Displaces, IsBoundTo, IsImport, IsLeftName, IsUse, Layout, Names, block_of, is_implied, is_left_name, is_use}
use Rattle.go_scope.specs.FileSites.{universe}
use Rattle.go_scope.proofs.Nests.{nests}
use Rattle.go_scope.proofs.Uniqueness.{bound_once}
use Rattle.law_rename.specs.Renaming.{HasNoConflictAt, KeepsOtherBindings, WouldAssign, WouldCapture, WouldLose}
use Rattle.law_rename.specs.Renaming.{assigned, new_name, own_repeats, own_use, repeats, to_other, to_renamed}
use Rattle.law_rename.proofs.Bound.{nothing_bound}
use Rattle.law_rename.proofs.Exactness.{exact_at}
use Rattle.types_declared.specs.Package.{Package}
use Rattle.workspace_check.specs.Verdicts.{Verdicts}
use Rattle.refs_binding.specs.Binding.{IsPredeclaredNumber}
use Rattle.refs_binding.specs.Identifiers.{BeginsAt}
use Rattle.law_gained_names.proofs.Scopes.{from_covers}
use Rattle.law_renamed_workspaces.proofs.KeptBindings.{lexical, plain_stands}
use Rattle.law_renamed_workspaces.proofs.OwnNames.{identifies}
use Rattle.law_renamed_workspaces.proofs.OwnNames.{bound_within, in_universe}
use Rattle.law_gained_names.specs.UnnamedRenames.{IsNamedFirst, IsUnnamedRename}
use Rattle.law_gained_names.proofs.Numbered as numbers
use Rattle.law_gained_names.proofs.OwnConflicts as conflicts

-- what a conflict is at

no_use : (r : Role) → is_implied r ≡ true → is_use r ≡ true → ⊥
no_use (Implied b s) i e = true≢false (sym e)
no_use (Declaring b s) i e = true≢false (sym i)
no_use (LeftName b s) i e = true≢false (sym i)
no_use Use i e = true≢false (sym i)
no_use (NotLexical x) i e = true≢false (sym i)

no_left : (r : Role) → is_implied r ≡ true → is_left_name r ≡ true → ⊥
no_left (Implied b s) i e = true≢false (sym e)
no_left (Declaring b s) i e = true≢false (sym i)
no_left (LeftName b s) i e = true≢false (sym i)
no_left Use i e = true≢false (sym i)
no_left (NotLexical x) i e = true≢false (sym i)

module _ (l : Layout) (names : Names) (d : ℕ) (y : List ℕ) where
  assigns_left : (x c : ℕ) → WouldAssign l names d y x c → IsLeftName l x
  assigns_left _ _ (to_renamed de named left same inside) = left
  assigns_left _ _ (to_other de named left same inside) = left

  captures_use : (u c : ℕ) → WouldCapture l names d y u c → IsUse l names u ⊎ IsLeftName l u
  captures_use _ _ (new_name i named binds inside precedes) = inl i
  captures_use _ _ (own_use i old binds precedes) = inl i
  captures_use _ _ (assigned {x} {c} a) = inr (assigns_left x c a)

  loses_which : (u : ℕ) → WouldLose l names d y u → Displaces l d u ⊎ (u ≡ d)
  loses_which _ (repeats de named displaces not) = inl displaces
  loses_which _ (own_repeats de named displaces not) = inr refl

  implied_captured : (u : ℕ) → is_implied (l.role u) ≡ true → (c : ℕ) → WouldCapture l names d y u c → ⊥
  implied_captured u implied c k = elim (captures_use u c k) [
    | inl used ↦ elim used [ inl use_of ↦ no_use (l.role u) implied use_of | inr left ↦ no_left (l.role u) implied left.0 ]
    | inr left ↦ no_left (l.role u) implied left
  ]

module _ (w : Workspace) (known : Verdicts) (p : Package) (n : ℕ) (name : List ℕ) (s : FileChanges) (h : IsUnnamedRename w known p n name s)
    (f : IsNamedFirst w known p n name s) where
  abbrev q : Package
  q = f.inside

  abbrev o : Package
  o = numbers.o w known p n name s h f

  abbrev g : ℕ → ℕ
  g = numbers.g w known p n name s h f

  abbrev names : ℕ → List ℕ
  names = numbers.names w known p n name s h f

  abbrev import : IsImport p.layout n
  import = h.unnamed.0

  -- a predeclared name has no conflict

  universal : (u : ℕ) → is_implied (p.layout.role u) ≡ true → IsPredeclaredNumber u
  universal u implied = elim (cases_lt u (length universe)) [
    | inl lt ↦ lt
    | inr ge ↦ absurd (true≢false (sym implied ∙ identifies w known p.path p h.is_package.is_checked u
        (λ (lt : u < length universe). absurd (omega (arith, lt, ge)))))
  ]

  implied_lost : (u : ℕ) → is_implied (p.layout.role u) ≡ true → WouldLose p.layout p.names n name u → ⊥
  implied_lost u implied k =
      let block : block_of (p.layout.role u) ≡ Universe = in_universe w known p.path p h.is_package.is_checked u (universal u implied) in
      elim (loses_which p.layout p.names n name u k) [
        | inl displaces ↦ elim displaces [
          | inl same ↦ (let z : Universe ≡ File import.0 = sym block ∙ sym same.0 ∙ import.1 in cc)
          | inr level ↦ (let z : PackageBlock ≡ File import.0 = sym level.0 ∙ import.1 in cc)
        ]
        | inr same ↦ (let z : Universe ≡ File import.0 = sym block ∙ ap (λ k. block_of (p.layout.role k)) same ∙ import.1 in cc)
      ]

  -- so it stays bound, and where identifiers of files have no conflict all stay bound but imports
  pub kept_beside : ((u : ℕ) (place : Place) → BeginsAt p place.path place.offset u → HasNoConflictAt p.layout p.names n name u) →
      KeepsOtherBindings p.layout p.names names
  kept_beside free u e other was = elim (cases_Bool (is_implied (p.layout.role u))) [
    | inl implied ↦
        (conflicts.exact w known p n name s h f u e was).1
        (record { not_captured = implied_captured p.layout p.names n name u implied; not_lost = implied_lost u implied })
    | inr identifier ↦
        (let there = plain_stands w known p h.is_package u (bound_within w known p.path p h.is_package.is_checked u e was)
        (record { identifies = identifier; no_import = other; is_lexical = lexical p.layout p.names u e was }) in
        (conflicts.exact w known p n name s h f u e was).1 (free u there.0 there.1))
  ]

  -- the numbers of the package between

  pub old_number : (k : ℕ) → (k ≡ suc n → ⊥) → (u : ℕ) × (g u ≡ k)
  old_number k other = from_covers n k other

  pub literal_unbound : (e : ℕ) → IsBoundTo q.layout q.names (suc n) e → ⊥
  literal_unbound e b =
      let a = f.gained.named in
      let gain = numbers.gain w known p n name s h f in
      nothing_bound gain gain.name n a.old a.new a.gained q.names e (subst (λ (l : Layout). IsBoundTo l q.names (suc n) e) a.is.layout b)

  -- where the second step has no conflict at an identifier, both have none
  pub free_back : (u : ℕ) → HasNoConflictAt q.layout q.names n name (g u) → HasNoConflictAt p.layout p.names n name u
  free_back u free = record {
    not_captured = λ c k.
        let x = conflicts.captured w known p n name s h f u c k in
        x.other (bound_once p.layout (numbers.formed w known p n name s h f) names u c x.old x.now_bound (kept x.old x.was));
    not_lost = λ k.
        let x = conflicts.lost w known p n name s h f u k in x.bound_to_none x.old (kept x.old x.was);
  }
    where
      kept : (e : ℕ) → IsBoundTo p.layout p.names u e → IsBoundTo p.layout names u e
      kept e was =
          let r = numbers.renames_second w known p n name s h f in
          (numbers.bound w known p n name s h f o.names u e).1
          ((exact_at q.layout (nests q.layout r.well_formed) q.names o.names n name r.all_count r.declared r.other_name r.renaming (g u) (g e)
          ((numbers.bound_first w known p n name s h f u e).0 was)).1 free)
