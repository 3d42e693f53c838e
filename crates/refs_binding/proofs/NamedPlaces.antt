-- The places of the names of fields and methods that count, by their ranks.
use Rattle.std.proofs.Common.{ℕ, ◌≡◌, ◌+◌, ◌<◌, inl, inr, Bool, true, false, List, [], ◌∷◌, ◌++◌, length, get_or, ap, sym, subst, refl, ◌∙◌, arith}
use Rattle.std.proofs.Common.{if◌then◌else◌}
use Rattle.std.specs.Prelude.{Option, Some, None, MatchOption, Result, OnOk, slice_get, slice_index_or, ◌↔◌}
use Rattle.std.proofs.lemmas.Bool.{cases_lt, true≢false}
use Rattle.std.proofs.lemmas.List.{get_or_append_left, get_or_push, get_or_past, get_or_read, length_push}
use Rattle.std.proofs.lemmas.Option.{same_Some, slice_get_within}
use Rattle.base_files.specs.declared.place.Place.{Place}
use Rattle.go_scope.specs.declared.model.Position.{Position}
use Rattle.go_scope.specs.Bindings.{IsIdentifier, is_implied}
use Rattle.go_scope.specs.Table.{LiesAt}
use Rattle.types_declared.specs.Package.{Package, PlacedFunction, package_functions, function_place}
use Rattle.types_declared.specs.Definitions.{PlacedField, package_fields}
use Rattle.types_members.specs.MembersView.{CountsAsField, CountsAsMethod}
use Rattle.types_declared.specs.Reachability.{HasMark}
use Rattle.types_expr.specs.declared.symbol.Symbol.{Symbol}
use Rattle.refs_binding.specs.declared.declaration.Declaration.{Declaration}
use Rattle.refs_binding.specs.declared.declaration.Declaration.TheVariants.{Predeclared, Declared, Field, Method}
use Rattle.refs_binding.specs.Binding.{field_place, IsFieldAt, IsMethodAt, IsNameOf, DeclaresMember}
use Rattle.refs_binding.specs.declared.place_key.PlaceKey.{PlaceKey}
use Rattle.refs_binding.specs.Steps.{AddsPlaces, UsesIn, AtFound, ArePlaces, DeclaresField, DeclaresMethod, IsDeclarationResult}
use Rattle.refs_binding.proofs.Adding.{call_adds}

-- the places of the ranks below a number
pub record PlacesBelow (IsAt : (rank : ℕ) → Position → Type 0) (count : ℕ) (places : List (Option Position)) : Type 0 where
  pub all : length places ≡ count
  pub each : (rank : ℕ) → rank < count → MatchOption (slice_index_or places rank None) ((at : Position) → IsAt rank at → ⊥) (λ at. IsAt rank at)

pub no_places : (IsAt : (rank : ℕ) → Position → Type 0) (places : List (Option Position)) → places ≡ [] → PlacesBelow IsAt 0 places
no_places IsAt places e = record { all = ap length e; each = λ rank lt. absurd (omega arith) }

pub next_place : (IsAt : (rank : ℕ) → Position → Type 0) (count : ℕ) (old new : List (Option Position)) (o : Option Position) → new ≡ old ++ (o ∷ []) →
    MatchOption o ((at : Position) → IsAt count at → ⊥) (λ at. IsAt count at) → PlacesBelow IsAt count old → PlacesBelow IsAt (count + 1) new
next_place IsAt count old new o e is h =
    let len : length (old ++ (o ∷ [])) ≡ length old + 1 = length_push old o in
    record {
      all = ap length e ∙ len ∙ ap (λ n. n + 1) h.all;
      each = λ rank lt. elim (cases_lt rank count) [
        | inl below ↦ (
            let same : get_or new rank None ≡ get_or old rank None = ap (λ xs. get_or xs rank None) e ∙
            get_or_append_left old (o ∷ []) None rank (omega (arith, h.all)) in
            subst (λ z. MatchOption z ((at : Position) → IsAt rank at → ⊥) (λ at. IsAt rank at)) (sym same) (h.each rank below))
        | inr ge ↦ (
            let last : rank ≡ count = omega arith in
            let same : get_or new count None ≡ o = ap (λ xs. get_or xs count None) e ∙ get_or_push old o None count h.all in
            subst (λ n. MatchOption (slice_index_or new n None) ((at : Position) → IsAt n at → ⊥) (λ at. IsAt n at)) (sym last)
            (subst (λ z. MatchOption z ((at : Position) → IsAt count at → ⊥) (λ at. IsAt count at)) (sym same) is))
      ];
    }

pub all_places : (IsAt : (rank : ℕ) → Position → Type 0) (count : ℕ) (places : List (Option Position)) →
    ((rank : ℕ) (at : Position) → IsAt rank at → rank < count) → PlacesBelow IsAt count places → ArePlaces IsAt places
all_places IsAt count places within h = λ rank. elim (cases_lt rank count) [
  | inl below ↦ h.each rank below
  | inr ge ↦ subst (λ z. MatchOption z ((at : Position) → IsAt rank at → ⊥) (λ at. IsAt rank at)) (sym (get_or_past places rank None (omega (arith, h.all))))
      (λ at is. let lt : rank < count = within rank at is in absurd (omega arith))
]

-- fields

pub field_within : (p : Package) (rank : ℕ) (at : Position) → IsFieldAt p rank at → rank < length (package_fields p)
field_within p rank at h = slice_get_within (package_fields p) rank h.counts.field h.counts.counting.is_field.has_rank

same_field : (p : Package) (rank : ℕ) (f : PlacedField) → slice_get (package_fields p) rank ≡ Some f → (c : CountsAsField p rank) → c.field ≡ f
same_field p rank f e c = same_Some c.field f (sym c.counting.is_field.has_rank ∙ e)

pub marked_field : (p : Package) (rank : ℕ) (f : PlacedField) (mark : Bool) → slice_get (package_fields p) rank ≡ Some f →
    (mark ≡ true) ↔ CountsAsField p rank →
    MatchOption (if mark then Some (field_place f) else None) ((at : Position) → IsFieldAt p rank at → ⊥) (λ at. IsFieldAt p rank at)
marked_field p rank f true e h = let c = h.0 refl in record { counts = c; named_at = ap field_place (same_field p rank f e c) }
marked_field p rank f false e h = λ at is. true≢false (sym (h.1 is.counts))

pub one_field_place : (p : Package) (rank : ℕ) (a b : Position) → IsFieldAt p rank a → IsFieldAt p rank b → a ≡ b
one_field_place p rank a b h k = sym h.named_at ∙ ap field_place (same_field p rank k.counts.field k.counts.counting.is_field.has_rank h.counts) ∙ k.named_at

-- methods

pub method_within : (p : Package) (rank : ℕ) (at : Position) → IsMethodAt p rank at → rank < length (package_functions p)
method_within p rank at h = slice_get_within (package_functions p) rank h.counts.method h.counts.counting.is_method.has_rank

same_method : (p : Package) (rank : ℕ) (f : PlacedFunction) → slice_get (package_functions p) rank ≡ Some f → (c : CountsAsMethod p rank) → c.method ≡ f
same_method p rank f e c = same_Some c.method f (sym c.counting.is_method.has_rank ∙ e)

pub marked_method : (p : Package) (rank : ℕ) (f : PlacedFunction) (mark : Bool) → slice_get (package_functions p) rank ≡ Some f →
    (mark ≡ true) ↔ CountsAsMethod p rank →
    MatchOption (if mark then Some (function_place f) else None) ((at : Position) → IsMethodAt p rank at → ⊥) (λ at. IsMethodAt p rank at)
marked_method p rank f true e h = let c = h.0 refl in record { counts = c; named_at = ap function_place (same_method p rank f e c) }
marked_method p rank f false e h = λ at is. true≢false (sym (h.1 is.counts))

pub one_method_place : (p : Package) (rank : ℕ) (a b : Position) → IsMethodAt p rank a → IsMethodAt p rank b → a ≡ b
one_method_place p rank a b h k = sym h.named_at ∙ ap function_place (same_method p rank k.counts.method k.counts.counting.is_method.has_rank h.counts) ∙
    k.named_at

-- identifiers that are names

position_is : (at : Position) (file index : ℕ) → file ≡ at.file → index ≡ at.index → at ≡ record { file = file; index = index }
position_is at file index e f = ap (λ x. record { file = x; index = at.index }) (sym e) ∙ ap (λ x. record { file = file; index = x }) (sym f)

-- where an identifier stands is one place
pub stands_once : (p : Package) (u : ℕ) (at : Position) → LiesAt p.layout at u → at ≡ p.layout.place u
stands_once p u at s = position_is at (p.layout.place u).file (p.layout.place u).index s.1 s.2

pub named_by_rank : (IsAt : (rank : ℕ) → Position → Type 0) (p : Package) (u rank : ℕ) (places : List (Option Position)) → ArePlaces IsAt places →
    IsIdentifier p.layout u →
    slice_index_or places rank None ≡ Some (p.layout.place u) → IsNameOf IsAt p u rank
named_by_rank IsAt p u rank places are stands e = record {
  at = p.layout.place u;
  is_at = subst (λ z. MatchOption z ((at : Position) → IsAt rank at → ⊥) (λ at. IsAt rank at)) e (are rank);
  stands = (stands, refl, refl);
}

pub rank_of_name : (IsAt : (rank : ℕ) → Position → Type 0) → ((rank : ℕ) (a b : Position) → IsAt rank a → IsAt rank b → a ≡ b) →
    (p : Package) (u rank : ℕ) (places : List (Option Position)) → ArePlaces IsAt places →
    IsNameOf IsAt p u rank → slice_index_or places rank None ≡ Some (p.layout.place u)
rank_of_name IsAt one p u rank places are h = by_place (slice_index_or places rank None) refl
  where
    by_place : (o : Option Position) → slice_index_or places rank None ≡ o → slice_index_or places rank None ≡ Some (p.layout.place u)
    by_place None e = absurd (subst (λ z. MatchOption z ((at : Position) → IsAt rank at → ⊥) (λ at. IsAt rank at)) e (are rank) h.at h.is_at)
    by_place (Some at) e =
        e ∙ ap Some (one rank at h.at (subst (λ z. MatchOption z ((x : Position) → IsAt rank x → ⊥) (λ x. IsAt rank x)) e (are rank)) h.is_at ∙
        stands_once p u h.at h.stands)

-- The identifier at the position of a rank is its declaring identifier.
pub found_to_name : (IsAt : (rank : ℕ) → Position → Type 0) (p : Package) (rank : ℕ) (o : Option Position) →
    MatchOption o ((at : Position) → IsAt rank at → ⊥) (λ at. IsAt rank at) →
    (place : Place) → AtFound p o place → UsesIn p (λ u. IsNameOf IsAt p u rank) place
found_to_name IsAt p rank None is place h = absurd h
found_to_name IsAt p rank (Some at) is place h = (h.0, (h.1.0, record { at = at; is_at = is; stands = h.1.1 }))

pub name_to_found : (IsAt : (rank : ℕ) → Position → Type 0) → ((rank : ℕ) (a b : Position) → IsAt rank a → IsAt rank b → a ≡ b) →
    (p : Package) (rank : ℕ) (o : Option Position) →
    MatchOption o ((at : Position) → IsAt rank at → ⊥) (λ at. IsAt rank at) → (place : Place) → UsesIn p (λ u. IsNameOf IsAt p u rank) place → AtFound p o place
name_to_found IsAt one p rank None is place h = is h.1.1.at h.1.1.is_at
name_to_found IsAt one p rank (Some at) is place h = (h.0, (h.1.0, subst (λ x. LiesAt p.layout x h.0) (one rank h.1.1.at at h.1.1.is_at is) h.1.1.stands))

-- a place that was found, told otherwise
pub found_place : (K : Position → Type 0) (o u : Option Position) → o ≡ u → MatchOption u ((at : Position) → K at → ⊥) (λ at. K at) →
    MatchOption o ((at : Position) → K at → ⊥) (λ at. K at)
found_place K o u e h = subst (λ z. MatchOption z ((at : Position) → K at → ⊥) (λ at. K at)) (sym e) h

-- the field or method that an identifier declares, by the places of the names

module _ (IsAt : (rank : ℕ) → Position → Type 0) (one : (rank : ℕ) (a b : Position) → IsAt rank a → IsAt rank b → a ≡ b) (p : Package) (u : ℕ)
    (at : Position) (places seen : List (Option Position)) (here : at ≡ p.layout.place u)
    (same : seen ≡ places) (are : ArePlaces IsAt places) where
  no_rank : ((rank : ℕ) → slice_index_or seen rank None ≡ Some at → ⊥) → (rank : ℕ) → IsNameOf IsAt p u rank → ⊥
  no_rank none rank n = none rank (ap (λ l. slice_index_or l rank None) same ∙ rank_of_name IsAt one p u rank places are n ∙ ap Some (sym here))

  a_rank : IsIdentifier p.layout u → (rank : ℕ) → slice_index_or seen rank None ≡ Some at → IsNameOf IsAt p u rank
  a_rank stands rank e = named_by_rank IsAt p u rank places are stands (ap (λ l. slice_index_or l rank None) (sym same) ∙ e ∙ ap Some here)

pub no_field_name : (p : Package) (u : ℕ) (at : Position) (places seen : List (Option Position)) → at ≡ p.layout.place u → seen ≡ places →
    ArePlaces (IsFieldAt p) places →
    ((rank : ℕ) → slice_index_or seen rank None ≡ Some at → ⊥) → (d : Declaration) → DeclaresField p u d → ⊥
no_field_name p u at places seen here same are none (Predeclared n) h = h
no_field_name p u at places seen here same are none (Declared path n) h = h
no_field_name p u at places seen here same are none (Field s) h = no_rank (IsFieldAt p) (one_field_place p) p u at places seen here same are none s.rank h.1
no_field_name p u at places seen here same are none (Method s) h = h

pub field_name : (p : Package) (u : ℕ) (at : Position) (rank : ℕ) (places seen : List (Option Position)) → at ≡ p.layout.place u → seen ≡ places →
    ArePlaces (IsFieldAt p) places → IsIdentifier p.layout u →
    slice_index_or seen rank None ≡ Some at → (s : Symbol) → (s.package ≡ p.path) × (s.rank ≡ rank) → DeclaresField p u (Field s)
field_name p u at rank places seen here same are stands e s is =
    (is.0, subst (IsNameOf (IsFieldAt p) p u) (sym is.1) (a_rank (IsFieldAt p) (one_field_place p) p u at places seen here same are stands rank e))

pub no_method_name : (p : Package) (u : ℕ) (at : Position) (places seen : List (Option Position)) → at ≡ p.layout.place u → seen ≡ places →
    ArePlaces (IsMethodAt p) places →
    ((rank : ℕ) → slice_index_or seen rank None ≡ Some at → ⊥) → (d : Declaration) → DeclaresMethod p u d → ⊥
no_method_name p u at places seen here same are none (Predeclared n) h = h
no_method_name p u at places seen here same are none (Declared path n) h = h
no_method_name p u at places seen here same are none (Field s) h = h
no_method_name p u at places seen here same are none (Method s) h = no_rank (IsMethodAt p) (one_method_place p) p u at places seen here same are none s.rank h.1

pub method_name : (p : Package) (u : ℕ) (at : Position) (rank : ℕ) (places seen : List (Option Position)) → at ≡ p.layout.place u → seen ≡ places →
    ArePlaces (IsMethodAt p) places → IsIdentifier p.layout u →
    slice_index_or seen rank None ≡ Some at → (s : Symbol) → (s.package ≡ p.path) × (s.rank ≡ rank) → DeclaresMethod p u (Method s)
method_name p u at rank places seen here same are stands e s is =
    (is.0, subst (IsNameOf (IsMethodAt p) p u) (sym is.1) (a_rank (IsMethodAt p) (one_method_place p) p u at places seen here same are stands rank e))

-- neither a field nor a method

pub no_name : (p : Package) (u : ℕ) → ((d : Declaration) → DeclaresField p u d → ⊥) → ((d : Declaration) → DeclaresMethod p u d → ⊥) → (d : Declaration) →
    DeclaresMember p u d → ⊥
no_name p u fields methods (Predeclared n) h = h
no_name p u fields methods (Declared path n) h = h
no_name p u fields methods (Field s) h = fields (Field s) h
no_name p u fields methods (Method s) h = methods (Method s) h

pub as_field : (p : Package) (u : ℕ) (d : Declaration) → DeclaresField p u d → DeclaresMember p u d
as_field p u (Predeclared n) h = h
as_field p u (Declared path n) h = h
as_field p u (Field s) h = h
as_field p u (Method s) h = absurd h

pub as_method : (p : Package) (u : ℕ) (d : Declaration) → DeclaresMethod p u d → DeclaresMember p u d
as_method p u (Predeclared n) h = h
as_method p u (Declared path n) h = h
as_method p u (Field s) h = absurd h
as_method p u (Method s) h = h

pub found_name : (p : Package) (u : ℕ) (o : Option Declaration) → ((d : Declaration) → DeclaresField p u d → ⊥) → IsDeclarationResult (DeclaresMethod p u) o →
    IsDeclarationResult (DeclaresMember p u) o
found_name p u None fields h = no_name p u fields h
found_name p u (Some d) fields h = as_method p u d h

-- An identifier in no file is no declaring identifier.
pub unnamed : (p : Package) (u : ℕ) → is_implied (p.layout.role u) ≡ true → (d : Declaration) → DeclaresMember p u d → ⊥
unnamed p u implied (Predeclared n) h = h
unnamed p u implied (Declared path n) h = h
unnamed p u implied (Field s) h = true≢false (sym implied ∙ h.1.stands.0)
unnamed p u implied (Method s) h = true≢false (sym implied ∙ h.1.stands.0)

-- the places of the names of one rank
pub named_added : {E : Type 0} (IsAt : (rank : ℕ) → Position → Type 0) → ((rank : ℕ) (a b : Position) → IsAt rank a → IsAt rank b → a ≡ b) →
    (p : Package) (rank : ℕ) (K : ℕ → Type 0) →
    ((u : ℕ) → IsNameOf IsAt p u rank → K u) → ((u : ℕ) → K u → IsNameOf IsAt p u rank) → (places seen : List (Option Position)) → seen ≡ places →
    ArePlaces IsAt places → (a b : List PlaceKey) (r : Result (Unit {0}) E) →
    OnOk r (AddsPlaces a b (AtFound p (slice_index_or seen rank None))) → OnOk r (AddsPlaces a b (UsesIn p K))
named_added IsAt one p rank K to from places seen same are a b r h =
    let o = slice_index_or seen rank None in
    let is : MatchOption o ((at : Position) → IsAt rank at → ⊥) (λ at. IsAt rank at) =
    subst (λ l. MatchOption (slice_index_or l rank None) ((at : Position) → IsAt rank at → ⊥) (λ at. IsAt rank at)) (sym same) (are rank) in
    call_adds a b (AtFound p o) (UsesIn p K) r
    (λ place q. let n = found_to_name IsAt p rank o is place q in (n.0, (n.1.0, to n.0 n.1.1)))
    (λ place q. name_to_found IsAt one p rank o is place (q.0, (q.1.0, from q.0 q.1.1))) h

-- the mark that is read is that of the rank
pub mark_is : (marks : List Bool) (rank : ℕ) (m : Bool) (P : Type 0) → rank < length marks → m ≡ get_or marks rank m → HasMark marks rank ↔ P → (m ≡ true) ↔ P
mark_is marks rank m P lt e h = let same : m ≡ get_or marks rank false = get_or_read marks rank m lt e false in ((λ t. h.0 (sym same ∙ t)), (λ k. same ∙ h.1 k))
