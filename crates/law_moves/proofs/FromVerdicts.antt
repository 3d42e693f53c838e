-- What this crate takes of the checked workspace after a move, from the laws of its verdicts. These rest on packages that are bound as they
-- were, which follows from the scopes.
use Rattle.std.proofs.Common.{ℕ, ◌≡◌, ◌<◌, inl, inr, true, ◌≤◌, List, length, ap, sym, subst, refl, ◌∙◌, arith}
use Rattle.std.specs.Prelude.{Some, slice_get}
use Rattle.std.proofs.lemmas.Bool.{cases_lt, true≢false}
use Rattle.base_files.specs.Workspace.{Workspace}
use Rattle.base_files.specs.declared.place.Place.{Place}
use Rattle.base_edits.specs.EditSet.{FileChanges}
use Rattle.base_edits.specs.RevisionsOfEdits.{revision_of}
use Rattle.go_scope.specs.declared.model.Block.TheVariants.{Universe, File, Package as PackageBlock}
use Rattle.go_scope.specs.declared.model.Position.{Position}
use Rattle.go_scope.specs.declared.model.Role.{Role}
use Rattle.go_scope.specs.declared.model.Role.TheVariants.{Use, Declaring, LeftName, Implied, NotLexical}
use Rattle.go_scope.specs.Bindings.{IsBoundTo, IsImport, IsPackageLevel, IsUse, use_bound, own, block_of, is_implied, is_left_name, is_use, may_declare}
use Rattle.go_scope.specs.FileSites.{universe}
use Rattle.go_scope.specs.Numbering.{is_lexical}
use Rattle.types_declared.specs.Package.{Package, spelled}
use Rattle.types_declared.specs.Written.{DeclaresImport}
use Rattle.law_rename.specs.Renaming.{HasSameBindings}
use Rattle.workspace_check.specs.Verdicts.{Verdicts}
use Rattle.refs_binding.specs.Identifiers.{BeginsAt, NameBegins}
use Rattle.refs_binding.specs.DeclaringPlaces.{TokenBegins}
use Rattle.refs_binding.specs.Uses.{IsCheckedPackage}
use Rattle.law_renamed_workspaces.specs.Layouts.{IsToken}
use Rattle.law_renamed_workspaces.proofs.OwnNames.{identifies, in_universe}
use Rattle.law_moves.specs.Moves.{IsMove, moved_path}
use Rattle.law_moves.specs.KeptNames.{MovesKeepNames}
use Rattle.law_moves.specs.MoveConflicts.{MovedBindingsAreSame, NoneLostIsSame}
use Rattle.law_moves.specs.ThereMoved.{IsThereMoved, ScopedPackagesMove}
use Rattle.law_moves.specs.MovedVerdicts.{FreeTargetsSwap, StandsApart, IsBoundAfterMove, MovesBySwap, MovesHaveVerdicts, MovesStaySound}
use Rattle.law_moves.specs.MovedVerdicts.{PackagesAreCheckedThere, PackagesStayBound, SameTargetsSwap, moved_verdicts}
use Rattle.refactor_known.specs.Swaps.{swapped}
use Rattle.law_moves.specs.Agreement.{IsPlannedTarget, MovesAreChecked}
use Rattle.law_moves.proofs.ExportsStay.{level_named}
use Rattle.law_moves.proofs.FromScopes.{same_path, scoped_there}

-- roles

level_declares : (r : Role) → block_of r ≡ PackageBlock → may_declare r ≡ true
level_declares (Declaring block start) e = refl
level_declares (LeftName block start) e = refl
level_declares (Implied block start) e = refl
level_declares Use e = let same : Universe ≡ PackageBlock = e in let z : ⊥ = cc in absurd z
level_declares (NotLexical p) e = let same : Universe ≡ PackageBlock = e in let z : ⊥ = cc in absurd z

implied_lexical : (r : Role) → is_implied r ≡ true → is_lexical r ≡ true
implied_lexical (Implied block start) e = refl
implied_lexical r e = absurd (true≢false (sym e))

implied_no_use : (r : Role) → is_implied r ≡ true → is_use r ≡ true → ⊥
implied_no_use (Implied block start) e f = true≢false (sym f)
implied_no_use r e f = true≢false (sym e)

implied_not_left : (r : Role) → is_implied r ≡ true → is_left_name r ≡ true → ⊥
implied_not_left (Implied block start) e f = true≢false (sym f)
implied_not_left r e f = true≢false (sym e)

module _ (w : Workspace) (known : Verdicts) (from to : List ℕ) (s : FileChanges) (h : IsMove w known from to s)
    (keep : MovesKeepNames) (p : Package) (is : IsCheckedPackage w known p) (q : Package) (t : IsThereMoved w h.edits.moved (revision_of w s) p q) where
  -- predeclared names
  in_no_file : (d : ℕ) → is_implied (p.layout.role d) ≡ true → block_of (p.layout.role d) ≡ Universe
  in_no_file d implied = elim (cases_lt d (length universe)) [
    | inl lt ↦ in_universe w known p.path p is.is_checked d lt
    | inr ge ↦
        absurd (true≢false (sym implied ∙ identifies w known p.path p is.is_checked d (λ (lt : d < length universe). never d (length universe) lt ge)))
  ]
    where
      never : (a b : ℕ) → a < b → b ≤ a → ⊥
      never a b lt ge = omega (arith, lt, ge)

  not_imported : (d : ℕ) → is_implied (p.layout.role d) ≡ true → (i : ℕ) → IsImport p.layout i → IsBoundTo p.layout p.names d i → ⊥
  not_imported d implied i import bound = by_way bound
    where
      by_use : IsUse p.layout p.names d → ⊥
      by_use (inl used) = implied_no_use (p.layout.role d) implied used
      by_use (inr left) = implied_not_left (p.layout.role d) implied left.0

      apart : Universe ≡ File import.0 → ⊥
      apart e = cc

      by_way : IsBoundTo p.layout p.names d i → ⊥
      by_way (use_bound used x) = by_use used
      by_way (own same x) = apart (sym (in_no_file d implied) ∙ ap (λ k. block_of (p.layout.role k)) same ∙ import.1)

  predeclared_named : (d : ℕ) → is_implied (p.layout.role d) ≡ true → q.names d ≡ p.names d
  predeclared_named d implied =
      t.moved.names.kept d (implied_lexical (p.layout.role d) implied) (λ i f b. not_imported d implied i f.imports.is_import b)

  -- names of package-level declarations
  level_kept : (d : ℕ) → IsPackageLevel p.layout d → q.names d ≡ p.names d
  level_kept d level =
      level_named w known (revision_of w s) (keep w known from to s h) (moved_path from to) p q is (scoped_there w known from to s h p q t) d level
      (level_declares (p.layout.role d) level)

  -- spellings
  begins : (at : Position) (place : Place) (u : ℕ) → IsToken p at place → StandsApart p at u → BeginsAt p place.path place.offset u
  begins at place u token apart =
      let b : TokenBegins (Some token.file) at.index place = subst (λ o. TokenBegins o at.index place) token.of_rank token.begins in
      let here : NameBegins (slice_get p.files at.file) at.index place.path place.offset =
      subst (λ o. NameBegins o at.index place.path place.offset) (sym token.of_rank) (token.is_name, b.0, b.1) in (
        (apart.within, apart.stands.0),
        subst (λ k. NameBegins (slice_get p.files k) (p.layout.place u).index place.path place.offset) (sym apart.stands.1)
            (subst (λ n. NameBegins (slice_get p.files at.file) n place.path place.offset) (sym apart.stands.2) here),
      )

  spelled_kept : (at : Position) (place : Place) (u : ℕ) → IsToken p at place → StandsApart p at u → spelled q at.file at.index ≡ spelled p at.file at.index
  spelled_kept at place u token apart =
      t.moved.tokens at place token
      ∙ keep w known from to s h p is u place (begins at place u token apart) (λ i. apart.unbound i.import i.is_import i.bound) apart.no_clause
      (spelled p at.file at.index)

  pub bound_there : HasSameBindings p.layout p.names q.names → IsBoundAfterMove w from to s p q
  bound_there same = record {
    is_scoped = t.is_scoped;
    path = t.moved.path ∙ same_path w known from to s h p.path;
    size = t.moved.size;
    layout = t.moved.layout;
    bindings = same;
    predeclared = predeclared_named;
    levels = level_kept;
    spelled = spelled_kept;
    imports = λ d path i. subst (DeclaresImport q d) (same_path w known from to s h path) (t.imports.moved d path i);
    imports_back = λ d path i. let o = t.imports.back d path i in (o.0, (o.1.0, o.1.1 ∙ same_path w known from to s h o.0));
  }

pub stay_bound : ScopedPackagesMove → NoneLostIsSame → MovedBindingsAreSame → MovesKeepNames → PackagesStayBound
stay_bound move lost same keep w known from to s h none p is =
    let t = move w known from to s h p is in (
      t.0,
      bound_there w known from to s h keep p is t.0 t.1 ((same w known from to s h p is t.0 t.1.moved).1 ((lost w known from to s h).0 none p is)),
    )

-- the paths

pub swaps : FreeTargetsSwap → SameTargetsSwap → (w : Workspace) (known : Verdicts) (from to : List ℕ) (s : FileChanges) → IsMove w known from to s →
    IsPlannedTarget w from to → MovesBySwap w from to
swaps free same w known from to s h (inl t) = free w from to h.target h.is_package t.other t.outside t.free
swaps free same w known from to s h (inr e) = subst (MovesBySwap w from) (sym e) (same w from)

pub checked_by : FreeTargetsSwap → SameTargetsSwap → MovesHaveVerdicts → MovesStaySound → PackagesAreCheckedThere → MovesAreChecked
checked_by free same verdicts sound packages w known from to s h allowed none =
    let swap = swaps free same w known from to s h allowed in (
      moved_verdicts h.edits.moved (swapped from to) known,
      record {
        right = verdicts w known from to s h swap none;
        sound = sound w known from to s h swap none;
        g = swapped from to;
        injective = λ a b e. sym (swap.inverse a) ∙ ap (swapped from to) e ∙ swap.inverse b;
        agrees = swap.goes;
        there = λ p is. let t = packages w known from to s h swap none p is in (t.0, (t.1.is, t.1.moved));
      },
    )
