-- Bound identifiers, by the ways in which they are bound.
use Rattle.std.proofs.Common.{ℕ, ◌≡◌, ◌⊎◌, ◌<◌, inl, inr, List, [], ◌++◌, length, ap, sym, subst, refl, ◌∙◌, arith}
use Rattle.std.specs.Prelude.{Option, Some, None, Contains, Result, OnOk, slice_get, slice_index_or, map}
use Rattle.std.specs.Global.{Vec}
use Rattle.std.proofs.lemmas.Bool.{cases_lt}
use Rattle.std.proofs.lemmas.List.Elements.{Contains-append_left, Contains-append_right, Contains-append_cases}
use Rattle.std.proofs.Math.ListN.{get_or-map, length-map}
use Rattle.std.proofs.lemmas.List.{get_or_past}
use Rattle.std.proofs.lemmas.Option.{none-some, same_Some, slice_get_within}
use Rattle.std.proofs.lemmas.Result.{on_ok_weaker}
use Rattle.base_files.specs.Workspace.{Workspace}
use Rattle.base_files.specs.declared.place.Place.{Place}
use Rattle.go_scope.specs.declared.model.Position.{Position}
use Rattle.go_scope.specs.Bindings.{IsBoundTo}
use Rattle.go_scope.specs.WellFormed.{WellFormed}
use Rattle.types_expr.specs.declared.found.MemberUse.{MemberUse as FoundUse}
use Rattle.types_expr.specs.declared.symbol.Symbol.{Symbol}
use Rattle.types_expr.specs.Judge.{MemberUse}
use Rattle.types_expr.specs.World as plain
use Rattle.types_declared.specs.Package.{Package, symbol_in}
use Rattle.types_declared.specs.Definitions.{AreDefinitions}
use Rattle.types_check.specs.Exports.{DoesExport}
use Rattle.types_info.specs.MemberUses.{AreMemberUses, uses_in}
use Rattle.types_info.specs.Uniqueness.{HasOneWorld}
use Rattle.workspace_check.specs.Verdicts.{Verdicts}
use Rattle.workspace_check.proofs.PackageFiles.{mapped}
use Rattle.refs_binding.specs.declared.bound_identifier.BoundIdentifier.{BoundIdentifier}
use Rattle.refs_binding.specs.declared.declaration.Declaration.{Declaration}
use Rattle.refs_binding.specs.declared.declaration.Declaration.TheVariants.{Predeclared, Declared, Field, Method}
use Rattle.refs_binding.specs.declared.place_key.PlaceKey.{PlaceKey}
use Rattle.types_info.specs.QualifiedIdentifiers.{IsQualifiedByPath}
use Rattle.refs_binding.specs.Binding.{BindsByScope, BindsQualified, BindsByMember, DeclaresMember, IsFieldAt, IsMethodAt, Binds, by_scope}
use Rattle.refs_binding.specs.Binding.{by_package, by_member, by_name}
use Rattle.refs_binding.specs.Bindings.{AddsAll, BoundIn, bound_to, bound_place}
use Rattle.refs_binding.specs.Identifiers.{BeginsAt}
use Rattle.refs_binding.specs.Members.{member_at, IsMemberUseOf, IsMemberUseAt, IsMemberUseAmong}
use Rattle.refs_binding.specs.Steps.{AddsPlaces, AtToken, AtFound, ArePlaces}
use Rattle.refs_binding.specs.Uses.{IsCheckedPackage}
use Rattle.refs_binding.proofs.AddingAll.{all_as, all_none, all_then, call_all, BelowAll, all_numbers}
use Rattle.refs_binding.proofs.MemberPlaces.{IsFileUse, to_bound, from_bound}
use Rattle.refs_binding.proofs.NamedPlaces.{found_to_name, name_to_found}
use Rattle.refs_binding.proofs.Units.{one_package}

-- places with a declaration

abbrev pub Attached : List PlaceKey → Declaration → BoundIdentifier → Type 0
Attached spots d b = Contains spots b.spot × (b.declaration ≡ d)

bound_is : (x b : BoundIdentifier) → x.spot ≡ b.spot → x.declaration ≡ b.declaration → x ≡ b
bound_is x b e f = ap (λ s. record { spot = s; declaration = x.declaration }) e ∙ ap (λ d. record { spot = b.spot; declaration = d }) f

-- each of some places was added with the declaration
pub all_attached : (a b : List BoundIdentifier) (spots : List PlaceKey) (d : Declaration) → b ≡ a ++ map (bound_to d) spots → AddsAll a b (Attached spots d)
all_attached a b spots d e = record {
  keeps = λ x h. subst (λ l. Contains l x) (sym e) (Contains-append_left a (map (bound_to d) spots) x h);
  holds = λ x h.
      let at : Contains (map (bound_to d) spots) (bound_to d x.spot) = (
        h.0.0,
        (let lt : h.0.0 < length spots = h.0.1 in rw (length-map spots (bound_to d)) lt),
        get_or-map (bound_to d) spots h.0.0 x.spot ∙
            ap (bound_to d) h.0.2,
      ) in
      subst (λ l. Contains l x) (sym e) (Contains-append_right a (map (bound_to d) spots) x
      (subst (Contains (map (bound_to d) spots)) (bound_is (bound_to d x.spot) x refl (sym h.1)) at));
  only = λ x h. elim (Contains-append_cases a (map (bound_to d) spots) x (subst (λ l. Contains l x) e h)) [
    | inl o ↦ inl o
    | inr m ↦ (
        let q = mapped (bound_to d) spots x m in
        inr (subst (Contains spots) (ap (λ (y : BoundIdentifier). y.spot) q.1.1) q.1.0, ap (λ (y : BoundIdentifier). y.declaration) (sym q.1.1)))
  ];
}

-- the places that were found for it
pub attached_as : {E : Type 0} (a b : List BoundIdentifier) (spots : List PlaceKey) (d : Declaration) (P : Place → Type 0) (r : Result (Unit {0}) E) →
    AddsPlaces [] spots P → OnOk r (b ≡ a ++ map (bound_to d) spots) →
    OnOk r (AddsAll a b (λ x. P (bound_place x) × (x.declaration ≡ d)))
attached_as a b spots d P r added h =
    on_ok_weaker r (λ e.
    all_as a b (Attached spots d) (λ x. P (bound_place x) × (x.declaration ≡ d))
    (λ x m. elim (added.only x.spot m.0) [
      | inl none ↦ let lt : none.0 < 0 = none.1 in let z : ⊥ = omega arith in absurd z
      | inr p ↦ (p, m.1)
    ])
    (λ x m. (added.holds x.spot m.0, m.1)) (all_attached a b spots d e)) h

-- by scopes: to one declaration

pub one_by_scope : (p : Package) (u : ℕ) → ((a b : ℕ) → IsBoundTo p.layout p.names u a → IsBoundTo p.layout p.names u b → a ≡ b) → (d e : Declaration) →
    BindsByScope p u d → BindsByScope p u e → d ≡ e
one_by_scope p u one (Predeclared d) (Predeclared e) h k = ap Predeclared (one d e h.1 k.1)
one_by_scope p u one (Predeclared d) (Declared path e) h k = absurd (k.1 (subst (λ n. n < 11) (one d e h.1 k.2) h.0))
one_by_scope p u one (Predeclared d) (Field s) h k = absurd k
one_by_scope p u one (Predeclared d) (Method s) h k = absurd k
one_by_scope p u one (Declared path d) (Predeclared e) h k = absurd (h.1 (subst (λ n. n < 11) (one e d k.1 h.2) k.0))
one_by_scope p u one (Declared path d) (Declared other e) h k = ap (λ x. Declared x d) (h.0 ∙ sym k.0) ∙ ap (Declared other) (one d e h.2 k.2)
one_by_scope p u one (Declared path d) (Field s) h k = absurd k
one_by_scope p u one (Declared path d) (Method s) h k = absurd k
one_by_scope p u one (Field s) e h k = absurd h
one_by_scope p u one (Method s) e h k = absurd h

-- in a qualified identifier: to one declaration

seen_once : (p : Package) (d e : ℕ) → DoesExport p d → DoesExport p e → p.names d ≡ p.names e → d < e → ⊥
seen_once p d e h k same lt = k.counts.first d h.counts.declares same (inl (h.package_level ∙ sym k.package_level, lt))

pub one_seen : (p : Package) (d e : ℕ) → DoesExport p d → DoesExport p e → p.names d ≡ p.names e → d ≡ e
one_seen p d e h k same = elim (cases_lt d e) [
  | inl lt ↦ absurd (seen_once p d e h k same lt)
  | inr ge ↦ elim (cases_lt e d) [
    | inl lt ↦ absurd (seen_once p e d k h (sym same) lt)
    | inr le ↦ omega arith
  ]
]

pub one_by_package : (w : Workspace) (known : Verdicts) (p : Package) (u : ℕ) (path : List ℕ) →
    ((other : List ℕ) → IsQualifiedByPath p u other → other ≡ path) → (d e : Declaration) →
    BindsQualified (IsCheckedPackage w known) p u d → BindsQualified (IsCheckedPackage w known) p u e → d ≡ e
one_by_package w known p u path only (Predeclared d) e h k = absurd h
one_by_package w known p u path only (Declared a d) (Predeclared e) h k = absurd k
one_by_package w known p u path only (Declared a d) (Declared b e) h k =
    let paths : a ≡ b = only a h.behind ∙ sym (only b k.behind) in
    let same : h.other ≡ k.other = one_package w known h.other k.other h.is_package k.is_package (h.of_path ∙ paths ∙ sym k.of_path) in
    let numbers : d ≡ e = one_seen k.other d e (subst (λ (q : Package). DoesExport q d) same h.seen) k.seen
    (ap (λ (q : Package). q.names d) (sym same) ∙ h.named ∙ sym k.named) in
    ap (λ x. Declared x d) paths ∙ ap (Declared b) numbers
one_by_package w known p u path only (Declared a d) (Field s) h k = absurd k
one_by_package w known p u path only (Declared a d) (Method s) h k = absurd k
one_by_package w known p u path only (Field s) e h k = absurd h
one_by_package w known p u path only (Method s) e h k = absurd h

-- an identifier that is bound to one declaration

pub bound_to_one : {E : Type 0} (B : BoundIdentifier → Type 0) (K : Declaration → Type 0) (a b : List BoundIdentifier) (d : Declaration) (r : Result (Unit
    {0}) E) →
    K d → ((e : Declaration) → K e → e ≡ d) →
    OnOk r (AddsAll a b (λ x. B x × (x.declaration ≡ d))) → OnOk r (AddsAll a b (λ x. B x × K x.declaration))
bound_to_one B K a b d r is only h =
    call_all a b (λ x. B x × (x.declaration ≡ d)) (λ x. B x × K x.declaration) r
    (λ x m. (m.0, subst K (sym m.1) is))
    (λ x m. (m.0, only x.declaration m.1)) h

pub bound_to_nothing : (B : BoundIdentifier → Type 0) (K : Declaration → Type 0) (a : List BoundIdentifier) → ((d : Declaration) → K d → ⊥) →
    AddsAll a a (λ x. B x × K x.declaration)
bound_to_nothing B K a none = all_none a (λ x. B x × K x.declaration) (λ x m. none x.declaration m.1)

-- in one way or another

pub either_way : {E : Type 0} (B : BoundIdentifier → Type 0) (K L : Declaration → Type 0) (a b c : List BoundIdentifier) (r : Result (Unit {0}) E) →
    AddsAll a b (λ x. B x × K x.declaration) →
    OnOk r (AddsAll b c (λ x. B x × L x.declaration)) → OnOk r (AddsAll a c (λ x. B x × (K x.declaration ⊎ L x.declaration)))
either_way B K L a b c r h k =
    on_ok_weaker r (λ m.
    all_as a c (λ x. (B x × K x.declaration) ⊎ (B x × L x.declaration)) (λ x. B x × (K x.declaration ⊎ L x.declaration))
    (λ x n. elim n [ inl y ↦ (y.0, inl y.1) | inr y ↦ (y.0, inr y.1) ])
    (λ x n. elim n.1 [ inl y ↦ inl (n.0, y) | inr y ↦ inr (n.0, y) ])
    (all_then a b c (λ x. B x × K x.declaration) (λ x. B x × L x.declaration) h m)) k

-- a member that is used

pub member_bound : {E : Type 0} (ds : Symbol → plain.Definition) (p : Package) (file : ℕ) (x : MemberUse) (a b : List BoundIdentifier) (d : Declaration)
    (r : Result (Unit {0}) E) →
    Some d ≡ member_at ds p file x.place x.before → OnOk r
    (AddsAll a b (λ y. AtToken p (record { file = file; index = x.place }) (bound_place y) × (y.declaration ≡ d))) →
    OnOk r (AddsAll a b (λ y. IsMemberUseOf ds p file y.declaration x (bound_place y)))
member_bound ds p file x a b d r is h =
    call_all a b (λ y. AtToken p (record { file = file; index = x.place }) (bound_place y) × (y.declaration ≡ d))
    (λ y. IsMemberUseOf ds p file y.declaration x (bound_place y)) r
    (λ y m. record { at = m.0; is_member = sym is ∙ ap Some (sym m.1) })
    (λ y m. (m.at, same_Some y.declaration d (sym m.is_member ∙ sym is))) h

pub member_unbound : (ds : Symbol → plain.Definition) (p : Package) (file : ℕ) (x : MemberUse) (a : List BoundIdentifier) →
    None ≡ member_at ds p file x.place x.before →
    AddsAll a a (λ y. IsMemberUseOf ds p file y.declaration x (bound_place y))
member_unbound ds p file x a is = all_none a (λ y. IsMemberUseOf ds p file y.declaration x (bound_place y)) (λ y m. none-some y.declaration (is ∙ m.is_member))

-- the member uses of a file, and of all files

pub one_use_bound : (ds : Symbol → plain.Definition) (p : Package) (file : ℕ) (uses : List MemberUse) (k : ℕ) (x : MemberUse) (a b : List BoundIdentifier) →
    slice_get uses k ≡ Some x →
    AddsAll a b (λ y. IsMemberUseOf ds p file y.declaration x (bound_place y)) → AddsAll a b (λ y. IsMemberUseAt ds p file y.declaration uses k (bound_place y))
one_use_bound ds p file uses k x a b at h =
    all_as a b (λ y. IsMemberUseOf ds p file y.declaration x (bound_place y)) (λ y. IsMemberUseAt ds p file y.declaration uses k (bound_place y))
    (λ y m. record { found = x; has_rank = at; is_use = m })
    (λ y m. subst (λ z. IsMemberUseOf ds p file y.declaration z (bound_place y)) (same_Some m.found x (sym m.has_rank ∙ at)) m.is_use) h

pub all_uses_bound : (ds : Symbol → plain.Definition) (p : Package) (file : ℕ) (uses : List MemberUse) (n : ℕ) (a b : List BoundIdentifier) → n ≡ length uses →
    AddsAll a b (BelowAll (λ k y. IsMemberUseAt ds p file y.declaration uses k (bound_place y)) n) →
    AddsAll a b (λ y. IsMemberUseAmong ds p file y.declaration uses (bound_place y))
all_uses_bound ds p file uses n a b e h =
    all_numbers (λ k y. IsMemberUseAt ds p file y.declaration uses k (bound_place y)) (λ y. IsMemberUseAmong ds p file y.declaration uses (bound_place y)) n a b
    (λ k y m. (k, m))
    (λ y m. (m.0, subst (λ z. m.0 < z) (sym e) (slice_get_within uses m.0 m.1.found m.1.has_rank), m.1)) h

pub one_file_bound : (ds : Symbol → plain.Definition) (p : Package) (members : List (Vec FoundUse)) (file : ℕ) (v : Vec FoundUse) (a b : List BoundIdentifier) →
    slice_get members file ≡ Some v →
    AddsAll a b (λ y. IsMemberUseAmong ds p file y.declaration (uses_in v) (bound_place y)) →
    AddsAll a b (λ y. IsFileUse ds p y.declaration members file (bound_place y))
one_file_bound ds p members file v a b at h =
    all_as a b (λ y. IsMemberUseAmong ds p file y.declaration (uses_in v) (bound_place y)) (λ y. IsFileUse ds p y.declaration members file (bound_place y))
    (λ y m. record { uses = v; has_rank = at; is_use = m })
    (λ y m. subst (λ z. IsMemberUseAmong ds p file y.declaration (uses_in z) (bound_place y)) (same_Some m.uses v (sym m.has_rank ∙ at)) m.is_use) h

pub all_members_bound : (p : Package) (formed : WellFormed p.layout) (one : HasOneWorld p) (ds : Symbol → plain.Definition) (are : AreDefinitions p ds)
    (members : List (Vec FoundUse)) →
    AreMemberUses p (map uses_in members) → (n : ℕ) (a b : List BoundIdentifier) → n ≡ length members →
    AddsAll a b (BelowAll (λ file y. IsFileUse ds p y.declaration members file (bound_place y)) n) →
    AddsAll a b (BoundIn p (BindsByMember p))
all_members_bound p formed one ds are members all n a b e h =
    all_numbers (λ file y. IsFileUse ds p y.declaration members file (bound_place y)) (BoundIn p (BindsByMember p)) n a b
    (λ file y m. to_bound p formed one ds are members all y.declaration (bound_place y) file m)
    (λ y m. let x = from_bound p formed one ds are members all y.declaration (bound_place y) m in (x.0, subst (λ z. x.0 < z) (sym e) x.1.0, x.1.1)) h

-- the names of members

abbrev pub NamedAt : Package → List (Option Position) → (ℕ → Declaration) → ℕ → BoundIdentifier → Type 0
NamedAt p places member rank b = AtFound p (slice_index_or places rank None) (bound_place b) × (b.declaration ≡ member rank)

-- a rank at which a name stands
pub found_within : (p : Package) (places : List (Option Position)) (rank : ℕ) (b : BoundIdentifier) → AtFound p (slice_index_or places rank None)
    (bound_place b) →
    rank < length places
found_within p places rank b h = elim (cases_lt rank (length places)) [
  | inl lt ↦ lt
  | inr ge ↦ absurd (subst (λ o. AtFound p o (bound_place b)) (get_or_past places rank None ge) h)
]

pub named_as : (p : Package) (places : List (Option Position)) (rank : ℕ) (a b : List BoundIdentifier) (d e : Declaration) → d ≡ e →
    AddsAll a b (λ x. AtFound p (slice_index_or places rank None) (bound_place x) × (x.declaration ≡ d)) →
    AddsAll a b (λ x. AtFound p (slice_index_or places rank None) (bound_place x) × (x.declaration ≡ e))
named_as p places rank a b d e same h = subst (λ z. AddsAll a b (λ x. AtFound p (slice_index_or places rank None) (bound_place x) × (x.declaration ≡ z))) same h

pub symbol_is : (p : Package) (s : Symbol) (rank : ℕ) → (s.package ≡ p.path) × (s.rank ≡ rank) → s ≡ symbol_in p rank
symbol_is p s rank is = ap (λ x. record { «package» = x; rank = s.rank }) is.0 ∙ ap (λ n. record { «package» = p.path; rank = n }) is.1

module _ (p : Package) (fields methods : List (Option Position)) (are_fields : ArePlaces (IsFieldAt p) fields) (are_methods : ArePlaces (IsMethodAt p) methods)
    (one_field : (rank : ℕ) (a b : Position) → IsFieldAt p rank a → IsFieldAt p rank b → a ≡ b)
    (one_method : (rank : ℕ) (a b : Position) → IsMethodAt p rank a → IsMethodAt p rank b → a ≡ b) where
  abbrev IsNamed : BoundIdentifier → Type 0
  IsNamed b = ((rank : ℕ) × NamedAt p fields (λ n. Field (symbol_in p n)) rank b) ⊎ ((rank : ℕ) × NamedAt p methods (λ n. Method (symbol_in p n)) rank b)

  by_names : (b : BoundIdentifier) → IsNamed b → BoundIn p (DeclaresMember p) b
  by_names b (inl h) =
      let n = found_to_name (IsFieldAt p) p h.0 (slice_index_or fields h.0 None) (are_fields h.0) (bound_place b) h.1.0 in
      (n.0, (n.1.0, subst (DeclaresMember p n.0) (sym h.1.1) (refl, n.1.1)))
  by_names b (inr h) =
      let n = found_to_name (IsMethodAt p) p h.0 (slice_index_or methods h.0 None) (are_methods h.0) (bound_place b) h.1.0 in
      (n.0, (n.1.0, subst (DeclaresMember p n.0) (sym h.1.1) (refl, n.1.1)))

  named_by : (place : Place) (u : ℕ) → BeginsAt p place.path place.offset u → (d : Declaration) → DeclaresMember p u d →
      ((rank : ℕ) × (AtFound p (slice_index_or fields rank None) place × (d ≡ Field (symbol_in p rank)))) ⊎
      ((rank : ℕ) × (AtFound p (slice_index_or methods rank None) place × (d ≡ Method (symbol_in p rank))))
  named_by place u begins (Predeclared n) h = absurd h
  named_by place u begins (Declared path n) h = absurd h
  named_by place u begins (Field s) h =
      inl (
        s.rank,
        (
          name_to_found (IsFieldAt p) one_field p s.rank (slice_index_or fields s.rank None) (are_fields s.rank) place (u, (begins, h.1)),
          ap Field (symbol_is p s s.rank (h.0, refl)),
        ),
      )
  named_by place u begins (Method s) h =
      inr (
        s.rank,
        (
          name_to_found (IsMethodAt p) one_method p s.rank (slice_index_or methods s.rank None) (are_methods s.rank) place (u, (begins, h.1)),
          ap Method (symbol_is p s s.rank (h.0, refl)),
        ),
      )

  pub all_names : {E : Type 0} (a b c : List BoundIdentifier) (r : Result (Unit {0}) E) →
      AddsAll a b (λ x. (rank : ℕ) × NamedAt p fields (λ n. Field (symbol_in p n)) rank x) →
      OnOk r (AddsAll b c (λ x. (rank : ℕ) × NamedAt p methods (λ n. Method (symbol_in p n)) rank x)) → OnOk r (AddsAll a c (BoundIn p (DeclaresMember p)))
  all_names a b c r h k =
      on_ok_weaker r (λ m.
      all_as a c IsNamed (BoundIn p (DeclaresMember p)) by_names (λ x n. named_by (bound_place x) n.0 n.1.0 x.declaration n.1.1)
      (all_then a b c (λ x. (rank : ℕ) × NamedAt p fields (λ n. Field (symbol_in p n)) rank x)
      (λ x. (rank : ℕ) × NamedAt p methods (λ n. Method (symbol_in p n)) rank x) h m)) k

-- all ways

abbrev InScopes : (Package → Type 0) → Package → ℕ → Declaration → Type 0
InScopes P p u d = BindsByScope p u d ⊎ BindsQualified P p u d

bound_by : (P : Package → Type 0) (p : Package) (x : BoundIdentifier) → (BoundIn p (InScopes P p) x ⊎ BoundIn p (BindsByMember p) x) ⊎
    BoundIn p (DeclaresMember p) x → BoundIn p (Binds P p) x
bound_by P p x (inl (inl h)) = (h.0, (h.1.0, elim h.1.1 [ inl y ↦ by_scope y | inr y ↦ by_package y ]))
bound_by P p x (inl (inr h)) = (h.0, (h.1.0, by_member h.1.1))
bound_by P p x (inr h) = (h.0, (h.1.0, by_name h.1.1))

bound_from : (P : Package → Type 0) (p : Package) (x : BoundIdentifier) (u : ℕ) → BeginsAt p (bound_place x).path (bound_place x).offset u →
    Binds P p u x.declaration →
    (BoundIn p (InScopes P p) x ⊎ BoundIn p (BindsByMember p) x) ⊎ BoundIn p (DeclaresMember p) x
bound_from P p x u begins (by_scope h) = inl (inl (u, (begins, inl h)))
bound_from P p x u begins (by_package h) = inl (inl (u, (begins, inr h)))
bound_from P p x u begins (by_member h) = inl (inr (u, (begins, h)))
bound_from P p x u begins (by_name h) = inr (u, (begins, h))

pub all_ways : {E : Type 0} (P : Package → Type 0) (p : Package) (a b c e : List BoundIdentifier) (r : Result (Unit {0}) E) →
    AddsAll a b (BoundIn p (λ u d. BindsByScope p u d ⊎ BindsQualified P p u d)) →
    AddsAll b c (BoundIn p (BindsByMember p)) → OnOk r (AddsAll c e (BoundIn p (DeclaresMember p))) → OnOk r (AddsAll a e (BoundIn p (Binds P p)))
all_ways P p a b c e r h k m =
    on_ok_weaker r (λ n.
    all_as a e (λ x. (BoundIn p (InScopes P p) x ⊎ BoundIn p (BindsByMember p) x) ⊎ BoundIn p (DeclaresMember p) x) (BoundIn p (Binds P p)) (bound_by P p)
    (λ x q. bound_from P p x q.0 q.1.0 q.1.1)
    (all_then a c e (λ x. BoundIn p (InScopes P p) x ⊎ BoundIn p (BindsByMember p) x) (BoundIn p (DeclaresMember p))
    (all_then a b c (BoundIn p (InScopes P p)) (BoundIn p (BindsByMember p)) h k) n)) m
