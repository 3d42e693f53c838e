-- What is found in the package of a declaration.
use Rattle.std.proofs.Common.{ℕ, ◌≡◌, ◌<◌, ◌≤◌, inl, inr, List, length, ap, sym, subst, refl, ◌∙◌, arith}
use Rattle.std.specs.Prelude.{Option, Some, None, MatchOption, option_map, slice_get, slice_index_or}
use Rattle.std.proofs.lemmas.Bool.{cases_lt}
use Rattle.std.proofs.lemmas.List.{get_or_past}
use Rattle.std.proofs.lemmas.Option.{none-some, same_Some, slice_get_within}
use Rattle.base_files.specs.Packages.{package_paths}
use Rattle.base_files.specs.Workspace.{Workspace}
use Rattle.base_files.specs.declared.place.Place.{Place}
use Rattle.go_scope.specs.declared.model.Position.{Position}
use Rattle.types_declared.specs.Definitions.{PlacedField, package_fields}
use Rattle.types_declared.specs.Package.{Package, package_functions, spelled}
use Rattle.types_members.specs.MembersView.{AreOwners, IsMethodOn}
use Rattle.workspace_check.specs.declared.findings.Findings.{Findings}
use Rattle.workspace_check.specs.Verdicts.{Verdicts}
use Rattle.refs_binding.specs.declared.declaration.Declaration.{Declaration}
use Rattle.refs_binding.specs.declared.declaration.Declaration.TheVariants.{Predeclared, Declared, Field, Method}
use Rattle.refs_binding.specs.Binding.{IsNameOf, IsFieldAt, IsMethodAt}
use Rattle.refs_binding.specs.DeclaringPlaces.{InPackage, InHomePackage, TokenBegins}
use Rattle.refs_binding.specs.Steps.{AtFound, AtToken, UsesIn}
use Rattle.refs_binding.specs.Uses.{IsCheckedPackage}
use Rattle.refs_binding.specs.Workspaces.{IsFaultless, IsPackageAt, known_in}
use Rattle.refs_binding.proofs.NamedPlaces.{found_to_name, name_to_found, one_field_place, one_method_place}
use Rattle.refs_binding.proofs.Units.{one_package, package_there}
use Rattle.refs_places.proofs.Starts.{token_once}
use Rattle.refs_places.specs.DeclaredPlaces.{IsChoice}
use Rattle.refs_places.specs.Outside.{declaring_path}
use Rattle.refactor_conflict.specs.MembersFound.{IsRankFound}
use Rattle.refactor_conflict.specs.OldPlaces.{field_at, method_at}
use Rattle.refactor_members.specs.Judging.{IsNamedAt}
use Rattle.refactor_members.specs.Renames.{IsFieldOfDefinition, IsMethodOfDefinition}
use Rattle.refactor_members.proofs.Counting.{as_method}
use Rattle.refactor_members.proofs.UsesStay.{token_of}

-- in the package at a path

pub choice_in : {X : Type 0} (w : Workspace) (known : Verdicts) (p : Package) → IsCheckedPackage w known p → (path : List ℕ) → p.path ≡ path →
    (P : Package → X → Type 0) (o : Option X) → IsChoice (P p) o → IsChoice (λ x. InPackage (IsCheckedPackage w known) path (λ q. P q x)) o
choice_in w known p is path of P None none = λ x h.
    none x (subst (λ q. P q x) (one_package w known h.inside p h.is_package is (h.of_path ∙ sym of)) h.holds)
choice_in w known p is path of P (Some x) h = record { inside = p; is_package = is; of_path = of; holds = h }

pub home_of : {X : Type 0} (Known : Package → Type 0) (d : Declaration) (path : List ℕ) → Some path ≡ declaring_path d → (P : Package → X → Type 0)
    (o : Option X) → IsChoice (λ x. InPackage Known path (λ q. P q x)) o → IsChoice (λ x. InHomePackage Known d (λ q. P q x)) o
home_of Known (Predeclared n) path e P o h = absurd (none-some path (sym e))
home_of Known (Declared other n) path e P o h = subst (λ z. IsChoice (λ x. InPackage Known z (λ q. P q x)) o) (same_Some path other e) h
home_of Known (Field s) path e P o h = subst (λ z. IsChoice (λ x. InPackage Known z (λ q. P q x)) o) (same_Some path s.package e) h
home_of Known (Method s) path e P o h = subst (λ z. IsChoice (λ x. InPackage Known z (λ q. P q x)) o) (same_Some path s.package e) h

pub no_home : (Known : Package → Type 0) (d : Declaration) → None ≡ declaring_path d → (P : Package → Type 0) → InHomePackage Known d P → ⊥
no_home Known (Predeclared n) e P h = h
no_home Known (Declared other n) e P h = none-some other e
no_home Known (Field s) e P h = none-some s.package e
no_home Known (Method s) e P h = none-some s.package e

pub choice_home : {X : Type 0} (w : Workspace) (found : Findings) → IsFaultless w found → (number : ℕ) (path : List ℕ) →
    slice_get (package_paths w) number ≡ Some path → (d : Declaration) → Some path ≡ declaring_path d → (P : Package → X → Type 0) (o : Option X) →
    ((p : Package) → IsPackageAt w (known_in found) number p → IsChoice (P p) o) →
    IsChoice (λ x. InHomePackage (IsCheckedPackage w (known_in found)) d (λ q. P q x)) o
choice_home w found sound number path at d e P o h =
    let x = package_there w found sound number (slice_get_within (package_paths w) number path at) in
    let of : x.0.path ≡ path = same_Some x.0.path path (sym x.1.has_number ∙ at) in
    home_of (IsCheckedPackage w (known_in found)) d path e P o (choice_in w (known_in found) x.0 x.1.is_package path of P o (h x.0 x.1))

-- the type definition of a rank

pub listed_field : (p : Package) (rank : ℕ) (o : Option ℕ) → o ≡ option_map (λ f. f.definition) (slice_get (package_fields p) rank) →
    IsRankFound (IsFieldOfDefinition p rank) o
listed_field p rank o e = by_rank (slice_get (package_fields p) rank) refl
  where
    by_rank : (x : Option PlacedField) → slice_get (package_fields p) rank ≡ x → IsRankFound (IsFieldOfDefinition p rank) o
    by_rank None none = subst (IsRankFound (IsFieldOfDefinition p rank)) (sym (e ∙ ap (option_map (λ f. f.definition)) none))
        (λ d h. none-some h.field (sym none ∙ h.has_rank))
    by_rank (Some f) some = subst (IsRankFound (IsFieldOfDefinition p rank)) (sym (e ∙ ap (option_map (λ f. f.definition)) some))
        (record { field = f; has_rank = some; of_struct = refl })

pub listed_method : (p : Package) (owners : List (Option ℕ)) → AreOwners p owners → (rank : ℕ) (o : Option ℕ) → o ≡ slice_index_or owners rank None →
    IsRankFound (IsMethodOfDefinition p rank) o
listed_method p owners are rank o e = elim (cases_lt rank (length (package_functions p))) [
  | inl lt ↦ found o (subst (λ x. MatchOption x ((d : ℕ) → IsMethodOn p rank d → ⊥) (λ d. IsMethodOn p rank d)) (sym e) (are.each rank lt))
  | inr ge ↦ (
      let past : length owners ≤ rank =
      (let more : length (package_functions p) ≤ rank = ge in let size : length owners ≡ length (package_functions p) = are.all in omega (arith, more, size)) in
      subst (IsRankFound (IsMethodOfDefinition p rank)) (sym (e ∙ get_or_past owners rank None past))
      (λ d h.
      let within : rank < length (package_functions p) = slice_get_within (package_functions p) rank h.method h.has_rank in
      let more : length (package_functions p) ≤ rank = ge in
      absurd (omega (arith, within, more))))
]
  where
    found : (x : Option ℕ) → MatchOption x ((d : ℕ) → IsMethodOn p rank d → ⊥) (λ d. IsMethodOn p rank d) → IsRankFound (IsMethodOfDefinition p rank) x
    found None none = λ d h. none d (record {
      name = spelled p h.method.file h.method.function.name;
      method = h.method;
      is_method = as_method p rank d h.method h.has_rank h.of_type;
    })
    found (Some d) h = record {
      method = h.method;
      has_rank = h.is_method.has_rank;
      of_type = record {
        receiver = h.is_method.receiver;
        received = h.is_method.received;
        declaration = h.is_method.declaration;
        binds = h.is_method.binds;
        of_type = h.is_method.of_type;
      };
    }

-- the identifier that declares a field or method

named_choice : (IsAt : (rank : ℕ) → Position → Type 0) → ((rank : ℕ) (a b : Position) → IsAt rank a → IsAt rank b → a ≡ b) → (p : Package) (rank : ℕ)
    (at : Option Position) → MatchOption at ((x : Position) → IsAt rank x → ⊥) (λ x. IsAt rank x) → (o : Option Place) → IsChoice (AtFound p at) o →
    IsChoice (λ place. UsesIn p (λ u. IsNameOf IsAt p u rank) place) o
named_choice IsAt one p rank at is None none = λ place h. none place (name_to_found IsAt one p rank at is place h)
named_choice IsAt one p rank at is (Some place) h = found_to_name IsAt p rank at is place h

as_named : {X : Type 0} (P Q : X → Type 0) → ((x : X) → P x → Q x) → ((x : X) → Q x → P x) → (o : Option X) → IsChoice P o → IsChoice Q o
as_named P Q to from None none = λ x h. none x (from x h)
as_named P Q to from (Some x) h = to x h

pub field_name : (p : Package) (rank : ℕ) (at : Option Position) → MatchOption at ((x : Position) → IsFieldAt p rank x → ⊥) (λ x. IsFieldAt p rank x) →
    (o : Option Place) → IsChoice (AtFound p at) o → IsChoice (IsNamedAt p (field_at p.path rank)) o
field_name p rank at is o h =
    as_named (λ place. UsesIn p (λ u. IsNameOf (IsFieldAt p) p u rank) place) (IsNamedAt p (field_at p.path rank))
    (λ place n. (n.0, (n.1.0, (refl, n.1.1)))) (λ place n. (n.0, (n.1.0, n.1.1.1))) o
    (named_choice (IsFieldAt p) (one_field_place p) p rank at is o h)

pub method_name : (p : Package) (rank : ℕ) (at : Option Position) → MatchOption at ((x : Position) → IsMethodAt p rank x → ⊥) (λ x. IsMethodAt p rank x) →
    (o : Option Place) → IsChoice (AtFound p at) o → IsChoice (IsNamedAt p (method_at p.path rank)) o
method_name p rank at is o h =
    as_named (λ place. UsesIn p (λ u. IsNameOf (IsMethodAt p) p u rank) place) (IsNamedAt p (method_at p.path rank))
    (λ place n. (n.0, (n.1.0, (refl, n.1.1)))) (λ place n. (n.0, (n.1.0, n.1.1.1))) o
    (named_choice (IsMethodAt p) (one_method_place p) p rank at is o h)

-- It begins at one place.

one_place : (p : Package) (IsAt : Position → Type 0) → ((a b : Position) → IsAt a → IsAt b → a ≡ b) → (x y : Place) (u v : ℕ) (a b : Position) →
    IsAt a → IsAt b → AtToken p a x → AtToken p b y → x ≡ y
one_place p IsAt one x y u v a b h k here there =
    token_once (slice_get p.files b.file) b.index x y
    (subst (λ (z : Position). TokenBegins (slice_get p.files z.file) z.index x) (one a b h k) (token_of p a x here)) (token_of p b y there)

pub named_once : (p : Package) (d : Declaration) (x y : Place) → IsNamedAt p d x → IsNamedAt p d y → x ≡ y
named_once p (Predeclared n) x y h k = absurd h.1.1
named_once p (Declared path n) x y h k = absurd h.1.1
named_once p (Field s) x y h k =
    let a = h.1.1.1 in
    let b = k.1.1.1 in
    one_place p (IsFieldAt p s.rank) (one_field_place p s.rank) x y h.0 k.0 a.at b.at a.is_at b.is_at (h.0, (h.1.0, a.stands)) (k.0, (k.1.0, b.stands))
named_once p (Method s) x y h k =
    let a = h.1.1.1 in
    let b = k.1.1.1 in
    one_place p (IsMethodAt p s.rank) (one_method_place p s.rank) x y h.0 k.0 a.at b.at a.is_at b.is_at (h.0, (h.1.0, a.stands)) (k.0, (k.1.0, b.stands))
