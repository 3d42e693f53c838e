-- The names of type definitions, by the numbers of their packages.
use Rattle.std.proofs.Common.{ℕ, ◌≡◌, ◌<◌, ◌+◌, ◌⊎◌, inl, inr, true, false, List, [], length, take, get_or, ap, sym, subst, ◌∙◌}
use Rattle.std.specs.Prelude.{Option, Some, None, Contains, option_map, slice_get}
use Rattle.std.proofs.lemmas.Bool.{false≢true}
use Rattle.std.proofs.lemmas.Option.{same_Some}
use Rattle.base_lemmas.proofs.Elements.{nothing_in}
use Rattle.base_files.specs.Packages.{package_paths}
use Rattle.base_files.specs.Workspace.{Workspace}
use Rattle.base_files.specs.declared.place.Place.{Place}
use Rattle.go_ast.specs.SourceFile.{SourceFile}
use Rattle.go_scope.specs.declared.model.Position.{Position}
use Rattle.types_declared.specs.Package.{Package, declared_types, type_place}
use Rattle.types_expr.specs.declared.symbol.Symbol.{Symbol}
use Rattle.workspace_check.specs.Verdicts.{Verdicts}
use Rattle.workspace_check.proofs.Members.{taken_or_next, still_taken, next_taken}
use Rattle.refs_binding.specs.Uses.{IsCheckedPackage}
use Rattle.refs_binding.specs.WorkspaceFindings.{WorkspaceFindings}
use Rattle.refs_binding.specs.Workspaces.{IsPackageAt, known_in}
use Rattle.refs_binding.proofs.Units.{one_package}
use Rattle.refs_places.specs.DeclaredPlaces.{IsChoice, TokenBeginsAt}
use Rattle.refs_places.proofs.Starts.{token_once}
use Rattle.refactor_coupled.specs.FirstTurns.{IsTurnedName, IsTypeNameAt, IsTypeNameIn, KeepsFirstOf, KeepsFound, KeepsTurned, named_turns}
use Rattle.refactor_coupled.specs.RenamedTypesView.{rename_of}
use Rattle.refactor_coupled.specs.declared.renamed_types.RenamedTypes.{RenamedTypes}
use Rattle.refactor_coupled.proofs.FirstKept.{kept_as, kept_none, kept_then}

module _ (w : Workspace) (known : Verdicts) (n : ℕ) (p : Package) (is : IsPackageAt w known n p) (s : Symbol) (at : slice_get (package_paths w) n ≡ Some
    s.package)
    (files : List SourceFile) (same : files ≡ p.files) where
  path : p.path ≡ s.package
  path = same_Some p.path s.package (sym is.has_number ∙ at)

  pub name_there : (place : Place) → IsTypeNameIn files s.rank place → IsTypeNameAt (IsCheckedPackage w known) s place
  name_there place h = record {
    inside = p;
    is_package = is.is_package;
    of_path = path;
    holds = subst (λ (fs : List SourceFile). IsTypeNameIn fs s.rank place) same h;
  }

  pub name_here : (place : Place) → IsTypeNameAt (IsCheckedPackage w known) s place → IsTypeNameIn files s.rank place
  name_here place h =
      let one : h.inside ≡ p = one_package w known h.inside p h.is_package is.is_package (h.of_path ∙ sym path) in
      subst (λ (fs : List SourceFile). IsTypeNameIn fs s.rank place) (ap (λ (q : Package). q.files) one ∙ sym same) h.holds

-- A name begins at one place.

found_once : (files : List SourceFile) (at : Option Position) (a b : Place) → TokenBeginsAt files at a → TokenBeginsAt files at b → a ≡ b
found_once files None a b h k = absurd h
found_once files (Some at) a b h k = token_once (slice_get files at.file) at.index a b h k

module _ (w : Workspace) (known : Verdicts) (s : Symbol) where
  pub named_once : (a b : Place) → IsTypeNameAt (IsCheckedPackage w known) s a → IsTypeNameAt (IsCheckedPackage w known) s b → a ≡ b
  named_once a b h k =
      let one : k.inside ≡ h.inside = one_package w known k.inside h.inside k.is_package h.is_package (k.of_path ∙ sym h.of_path) in
      found_once h.inside.files (option_map type_place (slice_get (declared_types h.inside.files) s.rank)) a b h.holds
      (subst (λ (q : Package). IsTypeNameIn q.files s.rank b) one k.holds)

  choice_is : (place : Place) (found : Option Place) → IsChoice (IsTypeNameAt (IsCheckedPackage w known) s) found →
      IsTypeNameAt (IsCheckedPackage w known) s place → found ≡ Some place
  choice_is place None h at = absurd (h place at)
  choice_is place (Some other) h at = ap Some (named_once other place h at)

-- the name of an interface that turns
pub turned_kept : (w : WorkspaceFindings) (t : RenamedTypes) (called : List Symbol) (named : Symbol) → named_turns t.types.now (rename_of t.rename) called
    named ≡ true →
    (found old new : Option Place) → IsChoice (IsTypeNameAt (IsCheckedPackage w.graph (known_in w.findings)) named) found → KeepsFound found old new →
    KeepsTurned w t called named old new
turned_kept w t called named turns found old new h kept =
    kept_as (λ place. found ≡ Some place) (IsTurnedName w t called named) old new
    (λ place e. record { turns = turns; at = subst (IsChoice (IsTypeNameAt (IsCheckedPackage w.graph (known_in w.findings)) named)) e h })
    (λ place k. choice_is w.graph (known_in w.findings) named place found h k.at) kept

pub unturned_kept : (w : WorkspaceFindings) (t : RenamedTypes) (called : List Symbol) (named : Symbol) →
    named_turns t.types.now (rename_of t.rename) called named ≡ false →
    (first : Option Place) → KeepsTurned w t called named first first
unturned_kept w t called named not first = kept_none (IsTurnedName w t called named) first (λ place k. false≢true (sym not ∙ k.turns))

-- those of the interfaces of a list that were passed
abbrev pub IsTurnedAmong : WorkspaceFindings → RenamedTypes → (called interfaces : List Symbol) → Place → Type 0
IsTurnedAmong w t called interfaces place = (named : Symbol) × (Contains interfaces named × IsTurnedName w t called named place)

pub none_turned : (w : WorkspaceFindings) (t : RenamedTypes) (called : List Symbol) → KeepsFirstOf (IsTurnedAmong w t called []) None None
none_turned w t called = kept_none (IsTurnedAmong w t called []) None (λ place k. nothing_in k.0 k.1.0)

pub turned_next : (w : WorkspaceFindings) (t : RenamedTypes) (called interfaces : List Symbol) (k : ℕ) (named : Symbol) → k < length interfaces →
    named ≡ get_or interfaces k named → (first next : Option Place) → KeepsFirstOf (IsTurnedAmong w t called (take k interfaces)) None first →
    KeepsTurned w t called named first next → KeepsFirstOf (IsTurnedAmong w t called (take (k + 1) interfaces)) None next
turned_next w t called interfaces k named lt is first next h step =
    kept_as (λ place. IsTurnedAmong w t called (take k interfaces) place ⊎ IsTurnedName w t called named place)
    (IsTurnedAmong w t called (take (k + 1) interfaces)) None next
    (λ place m. elim m [
      | inl old ↦ (old.0, (still_taken interfaces k named old.0 lt old.1.0, old.1.1))
      | inr here ↦ (named, (subst (Contains (take (k + 1) interfaces)) (sym is) (next_taken interfaces k named lt), here))
    ])
    (λ place m. elim (taken_or_next interfaces k named m.0 lt m.1.0) [
      | inl old ↦ inl (m.0, (old, m.1.1))
      | inr same ↦ inr (subst (λ s. IsTurnedName w t called s place) (sym (is ∙ same)) m.1.1)
    ])
    (kept_then (IsTurnedAmong w t called (take k interfaces)) (IsTurnedName w t called named) None first next h step)
