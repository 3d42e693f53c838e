-- How capturers name declarations of a package. The first conflict by number, with its place, is the first one by place.
use Rattle.std.proofs.Common.{ℕ, ◌≡◌, ◌<◌, ◌⊎◌, inl, inr, true, List, Option, Some, None, length, sym, subst, refl, arith}
use Rattle.std.specs.Prelude.{[]}
use Rattle.std.proofs.lemmas.Bool.{cases_lt}
use Rattle.base_files.specs.Workspace.{Workspace}
use Rattle.base_files.specs.declared.place.Place.{Place}
use Rattle.go_scope.specs.Bindings.{Layout, Names, Declares, IsUse, is_use, may_declare}
use Rattle.go_scope.specs.FileSites.{universe}
use Rattle.go_scope.specs.Site.{Site, sites_layout, sites_names}
use Rattle.law_rename.specs.Renaming.{WouldAssign, WouldCapture, WouldLose, assigned, new_name, own_repeats, own_use, repeats, to_other, to_renamed}
use Rattle.types_declared.specs.Package.{Package}
use Rattle.workspace_check.specs.FaultLists.{ListsFaults}
use Rattle.workspace_check.specs.Verdicts.{Verdicts, AreVerdicts}
use Rattle.refs_binding.specs.declared.declaration.Declaration.TheVariants.{Predeclared, Declared}
use Rattle.refs_binding.specs.DeclaringPlaces.{HasDeclarationAt}
use Rattle.refs_binding.specs.Identifiers.{BeginsAt}
use Rattle.refs_binding.specs.Uses.{IsCheckedPackage}
use Rattle.refs_binding.proofs.Units.{one_package}
use Rattle.refactor_conflict.specs.Conflicts.{IsCapturer}
use Rattle.refactor_conflict.specs.declared.conflict.Capturer.{Capturer}
use Rattle.refactor_conflict.specs.declared.conflict.Capturer.TheVariants.{Universe, At}
use Rattle.refactor_conflict.specs.declared.conflict.Conflict.{Conflict}
use Rattle.refactor_scopes.specs.declared.outcomes.ScopeConflict.{ScopeConflict}
use Rattle.refactor_scopes.specs.Conflicts.{IsConflictAt, TellsConflict}
use Rattle.refactor_scopes.proofs.Renames.{within_by}
use Rattle.law_renamed_workspaces.proofs.OwnNames.{role_inside}
use Rattle.law_renamed_workspaces.proofs.SameNames.{left_roles}
use Rattle.law_renamed_workspaces.proofs.NumbersInOrder.{numbers_follow}
use Rattle.law_agreement.specs.ScopeConflicts.{FirstOwnConflict, IsOwnConflictBy, IsSameCapturer, NamesNumber}
use Rattle.refactor_decide.specs.Capturers.{NamesEach, NamesInPackage}
use Rattle.refactor_decide.specs.Own.{IsPlacedIfAny, TellsOwn}
use Rattle.refactor_decide.proofs.Written.{begins_written, written_begins}

module _ (w : Workspace) (known : Verdicts) (p : Package) (is : IsCheckedPackage w known p) where
  pub capturer : (c : ℕ) (by : Capturer) → NamesInPackage p c by → IsCapturer (IsCheckedPackage w known) (Declared p.path c) by
  capturer c Universe h = λ place at.
      h place (subst (λ (x : Package). HasDeclarationAt x (Declared p.path c) place) (one_package w known at.inside p at.is_package is at.of_path) at.holds)
  capturer c (At place) h = record { inside = p; is_package = is; of_path = refl; holds = h }

  pub capturer_behind : (c : Option ℕ) (by : Option Capturer) → NamesEach p c by → IsSameCapturer (IsCheckedPackage w known) p c by
  capturer_behind None None h = tt
  capturer_behind None (Some by) h = h
  capturer_behind (Some c) None h = h
  capturer_behind (Some c) (Some by) h = capturer c by h

  predeclared : (c : ℕ) (by : Capturer) → c < length universe → NamesInPackage p c by → NamesNumber (IsCheckedPackage w known) p c by
  predeclared c Universe lt h = record { declaration = Predeclared c; numbered = (refl, lt); told = λ place at. at }
  predeclared c (At place) lt h = absurd (h.is_at.own lt)

  pub names_number : (c : ℕ) (by : Capturer) → NamesInPackage p c by → NamesNumber (IsCheckedPackage w known) p c by
  names_number c by h = elim (cases_lt c (length universe)) [
    | inl lt ↦ predeclared c by lt h
    | inr ge ↦ record {
      declaration = Declared p.path c;
      numbered = (refl, refl, (λ (lt : c < length universe). absurd (omega (arith, lt, ge))));
      told = capturer c by h;
    }
  ]

-- what a rename captures or loses is a use, or may declare

module _ (l : Layout) (names : Names) (d : ℕ) (y : List ℕ) (declares : Declares l names d) where
  abbrev Lexical : ℕ → Type 0
  Lexical u = (is_use (l.role u) ≡ true) ⊎ (may_declare (l.role u) ≡ true)

  used : (u : ℕ) → IsUse l names u → Lexical u
  used u (inl use_of) = inl use_of
  used u (inr left) = inr (left_roles (l.role u) left.0).0

  assigns : (u c : ℕ) → WouldAssign l names d y u c → Lexical u
  assigns _ _ (to_renamed de named left same inside) = inr de.may
  assigns _ _ (to_other de named left same inside) = inr declares.may

  captures : (u c : ℕ) → WouldCapture l names d y u c → Lexical u
  captures _ _ (new_name {u} i named binds inside precedes) = used u i
  captures _ _ (own_use {u} i old binds precedes) = used u i
  captures _ _ (assigned {x} {c} a) = assigns x c a

  loses : (u : ℕ) → WouldLose l names d y u → Lexical u
  loses _ (repeats de named displaces not) = inr de.may
  loses _ (own_repeats de named displaces not) = inr declares.may

  pub lexical : (u : ℕ) (by : Option ℕ) → IsConflictAt l names d y u by → Lexical u
  lexical u None h = loses u h
  lexical u (Some c) h = captures u c h

-- what has a conflict, and what captures it, is of the table

module _ (sites : List Site) (d : ℕ) (y : List ℕ) (declares : Declares (sites_layout sites) (sites_names sites) d) where
  abbrev IsSiteConflict : ℕ → Option ℕ → Type 0
  IsSiteConflict u by = IsConflictAt (sites_layout sites) (sites_names sites) d y u by

  pub conflict_within : (u : ℕ) (by : Option ℕ) → IsSiteConflict u by → u < length sites
  conflict_within u by h = elim (lexical (sites_layout sites) (sites_names sites) d y declares u by h) [
    | inl used ↦ within_by is_use refl sites u used
    | inr may ↦ within_by may_declare refl sites u may
  ]

  assigned_declares : (u c : ℕ) → WouldAssign (sites_layout sites) (sites_names sites) d y u c → Declares (sites_layout sites) (sites_names sites) c
  assigned_declares _ _ (to_renamed de named left same inside) = declares
  assigned_declares _ _ (to_other de named left same inside) = de

  captor_declares : (u c : ℕ) → WouldCapture (sites_layout sites) (sites_names sites) d y u c → Declares (sites_layout sites) (sites_names sites) c
  captor_declares _ _ (new_name i named binds inside precedes) = declares
  captor_declares _ _ (own_use i old binds precedes) = binds.counts.declares
  captor_declares _ _ (assigned {x} {c} a) = assigned_declares x c a

  pub captor : (u c : ℕ) → IsSiteConflict u (Some c) → (c < length sites) × Declares (sites_layout sites) (sites_names sites) c
  captor u c h = let de = captor_declares u c h in (within_by may_declare refl sites c de.may, de)

-- the first conflict of the scopes

module _ (w : Workspace) (sound : ListsFaults w []) (known : Verdicts) (right : AreVerdicts w known) (p : Package) (is : IsCheckedPackage w known p)
    (n : ℕ) (name : List ℕ) (declares : Declares p.layout p.names n) where
  abbrev First : Option Conflict → Type 0
  First c = FirstOwnConflict (IsCheckedPackage w known) p n name c

  has_so : (u : ℕ) (by : Option ℕ) (told : Option Capturer) → IsConflictAt p.layout p.names n name u by → NamesEach p by told →
      IsOwnConflictBy (IsCheckedPackage w known) p n name u told
  has_so u None None h k = h
  has_so u None (Some by) h k = absurd k
  has_so u (Some c) None h k = absurd k
  has_so u (Some c) (Some by) h k = (c, (h, names_number w known p is c by k))

  -- a conflict begins at a place
  begins_so : (t : ScopeConflict) → TellsConflict p.layout p.names n name (Some t) → (place : Place) × BeginsAt p place.path place.offset t.identifier
  begins_so t first =
      let lexical_so = lexical p.layout p.names n name declares t.identifier t.by first.1 in
      written_begins w sound known right p is t.identifier (role_inside w known p.path p is.is_checked t.identifier lexical_so) first.0 lexical_so

  by_told : (told : Option ScopeConflict) (c : Option Conflict) → TellsConflict p.layout p.names n name told → IsPlacedIfAny p told c → First c
  by_told None c first placed = subst First (sym placed) (λ place u begins. first u (begins_written w sound known right p is u place begins) tt)
  by_told (Some t) None first placed = let there = begins_so t first in absurd (placed there.0 there.1)
  by_told (Some t) (Some c) first placed = (
    record { user = t.identifier; begins = placed.0; has = has_so t.identifier t.by c.by first.1 placed.1 },
    (λ place before u begins.
        first.2 u ((numbers_follow w known p is u t.identifier place c.used begins placed.0).1 before)
        (begins_written w sound known right p is u place begins) tt),
  )

  pub own_first : (c : Option Conflict) → TellsOwn p n name c → First c
  own_first c h = by_told h.told c h.first h.placed
