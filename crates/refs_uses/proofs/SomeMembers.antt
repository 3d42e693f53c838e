-- The places of several fields and methods, found together.
use Rattle.std.proofs.Common.{ℕ, ◌≡◌, ◌<◌, ◌+◌, ◌⊎◌, inl, inr, Bool, false, List, [], ◌∷◌, length, take, get_or, map, ap, sym, subst, ◌∙◌}
use Rattle.std.specs.Prelude.{Option, Some, None, Contains, IsTrue, Result, OnOk, ◌↔◌, option_map, slice_get, slice_index_or}
use Rattle.std.specs.Global.{Vec}
use Rattle.std.proofs.lemmas.Bool.{false≢true}
use Rattle.std.proofs.lemmas.Option.{none-some, same_Some, slice_get_within}
use Rattle.base_lemmas.proofs.Elements.{first_in, nothing_in}
use Rattle.base_files.specs.Packages.{package_paths}
use Rattle.base_files.specs.Workspace.{Workspace}
use Rattle.base_files.specs.declared.place.Place.{Place}
use Rattle.go_scope.specs.WellFormed.{WellFormed}
use Rattle.go_scope.specs.declared.model.Position.{Position}
use Rattle.types_expr.specs.declared.found.MemberUse.{MemberUse as FoundUse}
use Rattle.types_expr.specs.declared.symbol.Symbol.{Symbol}
use Rattle.types_expr.specs.Judge.{MemberUse}
use Rattle.types_expr.specs.World.{Member}
use Rattle.types_expr.specs.World as plain
use Rattle.types_declared.specs.Package.{Package}
use Rattle.types_declared.specs.Definitions.{AreDefinitions}
use Rattle.types_info.specs.MemberUses.{AreMemberUses, uses_in}
use Rattle.types_info.specs.Uniqueness.{HasOneWorld}
use Rattle.workspace_check.specs.Verdicts.{Verdicts}
use Rattle.workspace_check.proofs.Members.{taken_or_next, still_taken, next_taken}
use Rattle.refs_binding.specs.declared.declaration.Declaration.{Declaration}
use Rattle.refs_binding.specs.declared.declaration.Declaration.TheVariants.{Predeclared, Declared, Field, Method}
use Rattle.refs_binding.specs.declared.place_key.PlaceKey.{PlaceKey}
use Rattle.refs_binding.specs.Binding.{BindsByMember, DeclaresMember, IsFieldAt, IsMethodAt, declaration_of}
use Rattle.refs_binding.specs.Binding as binding
use Rattle.refs_binding.specs.Members.{IsMemberUseOf, IsMemberUseAt, IsMemberUseAmong}
use Rattle.refs_binding.specs.Steps.{AddsPlaces, ArePlaces, UsesIn, BindsIn, by_scope, by_package, by_member, by_name}
use Rattle.refs_binding.specs.Uses.{IsBoundToDeclaration}
use Rattle.refs_binding.specs.Workspaces.{IsPackageAt, IsUseAt}
use Rattle.refs_binding.proofs.Adding.{Below, adds_as, adds_none, adds_then, call_adds}
use Rattle.refs_binding.proofs.MemberPlaces.{IsFileUse, to_bound, from_bound}
use Rattle.refs_binding.proofs.NamedPlaces.{found_place, found_to_name, name_to_found, one_field_place, one_method_place}
use Rattle.refs_binding.proofs.Units.{one_at, numbered, number_within}
use Rattle.refs_uses.specs.MembersAbroad.{IsMemberAbroad}
use Rattle.refs_uses.specs.SoughtMembers.{AllAreMembers, IsBoundToSome, IsFieldOrMethod, IsListedName, IsPlaceOfSome}
use Rattle.refs_uses.specs.UsesOfEach.{IsUseOfSome}
use Rattle.refs_uses.proofs.UsesOfSome.{only_one}

-- What holds of each element that was passed.
pub each_none : {X : Type 0} (Q : X → Type 0) (x : X) → Contains [] x → Q x
each_none Q x has = absurd (nothing_in x has)

pub each_more : {X : Type 0} (Q : X → Type 0) (xs : List X) (k : ℕ) (y : X) → k < length xs → y ≡ get_or xs k y → ((x : X) → Contains (take k xs) x → Q x) →
    Q y → (x : X) → Contains (take (k + 1) xs) x → Q x
each_more Q xs k y lt is before here x has = elim (taken_or_next xs k y x lt has) [
  | inl old ↦ before x old
  | inr same ↦ subst Q (is ∙ same) here
]

-- Some of several declarations

-- The places of each may be given by an equivalent condition.
pub some_as : (set : List Declaration) (P Q : Declaration → Place → Type 0) (a b : List PlaceKey) →
    ((d : Declaration) → Contains set d → (place : Place) → P d place → Q d place) →
    ((d : Declaration) → Contains set d → (place : Place) → Q d place → P d place) →
    AddsPlaces a b (IsPlaceOfSome set P) → AddsPlaces a b (IsPlaceOfSome set Q)
some_as set P Q a b to from h =
    adds_as a b (IsPlaceOfSome set P) (IsPlaceOfSome set Q)
    (λ place x. record { declaration = x.declaration; among = x.among; holds = to x.declaration x.among place x.holds })
    (λ place x. record { declaration = x.declaration; among = x.among; holds = from x.declaration x.among place x.holds }) h

-- numbers below another one
pub some_below : (set : List Declaration) (R : Declaration → ℕ → Place → Type 0) (n : ℕ) (a b : List PlaceKey) →
    AddsPlaces a b (Below (λ k. IsPlaceOfSome set (λ d. R d k)) n) → AddsPlaces a b (IsPlaceOfSome set (λ d. Below (R d) n))
some_below set R n a b h =
    adds_as a b (Below (λ k. IsPlaceOfSome set (λ d. R d k)) n) (IsPlaceOfSome set (λ d. Below (R d) n))
    (λ place q. record { declaration = q.2.declaration; among = q.2.among; holds = (q.0, q.1, q.2.holds) })
    (λ place x. (x.holds.0, x.holds.1, record { declaration = x.declaration; among = x.among; holds = x.holds.2 })) h

-- one declaration after another
pub some_none : (P : Declaration → Place → Type 0) (a : List PlaceKey) → AddsPlaces a a (IsPlaceOfSome [] P)
some_none P a = adds_none a (IsPlaceOfSome [] P) (λ place x. absurd (nothing_in x.declaration x.among))

pub some_more : (P : Declaration → Place → Type 0) (set : List Declaration) (k : ℕ) (d : Declaration) (a b c : List PlaceKey) → k < length set →
    d ≡ get_or set k d → AddsPlaces a b (IsPlaceOfSome (take k set) P) → AddsPlaces b c (P d) → AddsPlaces a c (IsPlaceOfSome (take (k + 1) set) P)
some_more P set k d a b c lt is h next =
    adds_as a c (λ place. IsPlaceOfSome (take k set) P place ⊎ P d place) (IsPlaceOfSome (take (k + 1) set) P)
    (λ place x. elim x [
      | inl old ↦ record { declaration = old.declaration; among = still_taken set k d old.declaration lt old.among; holds = old.holds }
      | inr here ↦ record { declaration = d; among = subst (Contains (take (k + 1) set)) (sym is) (next_taken set k d lt); holds = here }
    ])
    (λ place x. elim (taken_or_next set k d x.declaration lt x.among) [
      | inl old ↦ inl (record { declaration = x.declaration; among = old; holds = x.holds })
      | inr same ↦ inr (subst (λ e. P e place) (sym (is ∙ same)) x.holds)
    ])
    (adds_then a b c (IsPlaceOfSome (take k set) P) (P d) h next)

-- one declaration alone
pub of_one : (d : Declaration) (P : Declaration → Place → Type 0) (a b : List PlaceKey) → AddsPlaces a b (IsPlaceOfSome (d ∷ []) P) → AddsPlaces a b (P d)
of_one d P a b h =
    adds_as a b (IsPlaceOfSome (d ∷ []) P) (P d)
    (λ place x. subst (λ e. P e place) (only_one d x.declaration x.among) x.holds)
    (λ place here. record { declaration = d; among = first_in d []; holds = here }) h

-- A member that was found

pub bound_to_none : (set : List Declaration) (o : Option Member) → None ≡ o → IsTrue false ↔ IsBoundToSome set (option_map declaration_of o)
bound_to_none set o e = (
  (λ t. absurd (false≢true t)),
  (λ x. absurd (none-some x.declaration (ap (option_map declaration_of) e ∙ x.is_found))),
)

pub bound_to_one : (set : List Declaration) (o : Option Member) (m : Member) (b : Bool) → Some m ≡ o → IsTrue b ↔ Contains set (declaration_of m) →
    IsTrue b ↔ IsBoundToSome set (option_map declaration_of o)
bound_to_one set o m b e h = (
  (λ t. record { declaration = declaration_of m; among = h.0 t; is_found = ap (option_map declaration_of) (sym e) }),
  (λ x. h.1 (subst (Contains set) (same_Some x.declaration (declaration_of m) (sym x.is_found ∙ ap (option_map declaration_of) (sym e))) x.among)),
)

-- The uses of members in a file, and in all files

abbrev pub IsUseOfSomeAt : (Symbol → plain.Definition) → Package → (file : ℕ) → List Declaration → List MemberUse → (k : ℕ) → Place → Type 0
IsUseOfSomeAt ds p file set uses k = IsPlaceOfSome set (λ d. IsMemberUseAt ds p file d uses k)

pub ranked_some : (ds : Symbol → plain.Definition) (p : Package) (file : ℕ) (set : List Declaration) (uses : List MemberUse) (k : ℕ) (x : MemberUse)
    (a b : List PlaceKey) → slice_get uses k ≡ Some x → AddsPlaces a b (IsPlaceOfSome set (λ d. IsMemberUseOf ds p file d x)) →
    AddsPlaces a b (IsUseOfSomeAt ds p file set uses k)
ranked_some ds p file set uses k x a b at h =
    some_as set (λ d. IsMemberUseOf ds p file d x) (λ d. IsMemberUseAt ds p file d uses k) a b
    (λ d among place m. record { found = x; has_rank = at; is_use = m })
    (λ d among place m. subst (λ y. IsMemberUseOf ds p file d y place) (same_Some m.found x (sym m.has_rank ∙ at)) m.is_use) h

pub among_some : (ds : Symbol → plain.Definition) (p : Package) (file : ℕ) (set : List Declaration) (uses : List MemberUse) (n : ℕ) (a b : List PlaceKey) →
    n ≡ length uses → AddsPlaces a b (Below (IsUseOfSomeAt ds p file set uses) n) →
    AddsPlaces a b (IsPlaceOfSome set (λ d. IsMemberUseAmong ds p file d uses))
among_some ds p file set uses n a b e h =
    some_as set (λ d. Below (IsMemberUseAt ds p file d uses) n) (λ d. IsMemberUseAmong ds p file d uses) a b
    (λ d among place q. (q.0, q.2))
    (λ d among place q. (q.0, subst (λ m. q.0 < m) (sym e) (slice_get_within uses q.0 q.1.found q.1.has_rank), q.1))
    (some_below set (λ d. IsMemberUseAt ds p file d uses) n a b h)

abbrev pub IsFileUseOfSome : (Symbol → plain.Definition) → Package → List Declaration → List (Vec FoundUse) → (file : ℕ) → Place → Type 0
IsFileUseOfSome ds p set members file = IsPlaceOfSome set (λ d. IsFileUse ds p d members file)

pub file_some : (ds : Symbol → plain.Definition) (p : Package) (set : List Declaration) (members : List (Vec FoundUse)) (file : ℕ) (v : Vec FoundUse)
    (a b : List PlaceKey) → slice_get members file ≡ Some v → AddsPlaces a b (IsPlaceOfSome set (λ d. IsMemberUseAmong ds p file d (uses_in v))) →
    AddsPlaces a b (IsFileUseOfSome ds p set members file)
file_some ds p set members file v a b at h =
    some_as set (λ d. IsMemberUseAmong ds p file d (uses_in v)) (λ d. IsFileUse ds p d members file) a b
    (λ d among place m. record { uses = v; has_rank = at; is_use = m })
    (λ d among place m. subst (λ y. IsMemberUseAmong ds p file d (uses_in y) place) (same_Some m.uses v (sym m.has_rank ∙ at)) m.is_use) h

pub members_some : (p : Package) (formed : WellFormed p.layout) (one : HasOneWorld p) (ds : Symbol → plain.Definition) (are : AreDefinitions p ds)
    (members : List (Vec FoundUse)) → AreMemberUses p (map uses_in members) → (set : List Declaration) (n : ℕ) (a b : List PlaceKey) → n ≡ length members →
    AddsPlaces a b (Below (IsFileUseOfSome ds p set members) n) → AddsPlaces a b (IsPlaceOfSome set (λ d. UsesIn p (λ u. BindsByMember p u d)))
members_some p formed one ds are members all set n a b e h =
    some_as set (λ d. Below (IsFileUse ds p d members) n) (λ d. UsesIn p (λ u. BindsByMember p u d)) a b
    (λ d among place q. to_bound p formed one ds are members all d place q.0 q.2)
    (λ d among place q. let x = from_bound p formed one ds are members all d place q in (x.0, subst (λ m. x.0 < m) (sym e) x.1.0, x.1.1))
    (some_below set (λ d. IsFileUse ds p d members) n a b h)

-- The identifiers of a package

-- a field or method is bound as a member, or declared
as_either : (p : Package) (d : Declaration) → IsFieldOrMethod d → (u : ℕ) → BindsIn p d None u → BindsByMember p u d ⊎ DeclaresMember p u d
as_either p (Predeclared k) is u h = absurd is
as_either p (Declared path k) is u h = absurd is
as_either p (Field s) is u (by_scope h) = absurd h
as_either p (Field s) is u (by_package h) = absurd h
as_either p (Field s) is u (by_member h) = inl h
as_either p (Field s) is u (by_name h) = inr h
as_either p (Method s) is u (by_scope h) = absurd h
as_either p (Method s) is u (by_package h) = absurd h
as_either p (Method s) is u (by_member h) = inl h
as_either p (Method s) is u (by_name h) = inr h

either_bound : (w : Workspace) (known : Verdicts) (p : Package) (d : Declaration) (u : ℕ) → BindsByMember p u d ⊎ DeclaresMember p u d →
    IsBoundToDeclaration w known p u d
either_bound w known p d u (inl h) = binding.by_member h
either_bound w known p d u (inr h) = binding.by_name h

bound_in_package : (w : Workspace) (known : Verdicts) (p : Package) (d : Declaration) → IsFieldOrMethod d → (u : ℕ) → IsBoundToDeclaration w known p u d →
    BindsIn p d None u
bound_in_package w known p (Predeclared k) is u h = absurd is
bound_in_package w known p (Declared path k) is u h = absurd is
bound_in_package w known p (Field s) is u (binding.by_scope h) = absurd h
bound_in_package w known p (Field s) is u (binding.by_package h) = absurd h
bound_in_package w known p (Field s) is u (binding.by_member h) = by_member h
bound_in_package w known p (Field s) is u (binding.by_name h) = by_name h
bound_in_package w known p (Method s) is u (binding.by_scope h) = absurd h
bound_in_package w known p (Method s) is u (binding.by_package h) = absurd h
bound_in_package w known p (Method s) is u (binding.by_member h) = by_member h
bound_in_package w known p (Method s) is u (binding.by_name h) = by_name h

-- the identifier that a list has for the rank of a field or method of the package declares it
pub field_listed : {E : Type 0} (p : Package) (s : Symbol) (places seen : List (Option Position)) → seen ≡ places → ArePlaces (IsFieldAt p) places →
    (a b : List PlaceKey) (r : Result (Unit {0}) E) → OnOk r (AddsPlaces a b (IsListedName p seen s)) →
    OnOk r (AddsPlaces a b (UsesIn p (λ u. DeclaresMember p u (Field s))))
field_listed p s places seen same are a b r h =
    let o = slice_index_or seen s.rank None in
    let is = found_place (IsFieldAt p s.rank) o (slice_index_or places s.rank None) (ap (λ l. slice_index_or l s.rank None) same) (are s.rank) in
    call_adds a b (IsListedName p seen s) (UsesIn p (λ u. DeclaresMember p u (Field s))) r
    (λ place q. let n = found_to_name (IsFieldAt p) p s.rank o is place q.1 in (n.0, (n.1.0, (q.0, n.1.1))))
    (λ place q. (q.1.1.0, name_to_found (IsFieldAt p) (one_field_place p) p s.rank o is place (q.0, (q.1.0, q.1.1.1)))) h

pub method_listed : {E : Type 0} (p : Package) (s : Symbol) (places seen : List (Option Position)) → seen ≡ places → ArePlaces (IsMethodAt p) places →
    (a b : List PlaceKey) (r : Result (Unit {0}) E) → OnOk r (AddsPlaces a b (IsListedName p seen s)) →
    OnOk r (AddsPlaces a b (UsesIn p (λ u. DeclaresMember p u (Method s))))
method_listed p s places seen same are a b r h =
    let o = slice_index_or seen s.rank None in
    let is = found_place (IsMethodAt p s.rank) o (slice_index_or places s.rank None) (ap (λ l. slice_index_or l s.rank None) same) (are s.rank) in
    call_adds a b (IsListedName p seen s) (UsesIn p (λ u. DeclaresMember p u (Method s))) r
    (λ place q. let n = found_to_name (IsMethodAt p) p s.rank o is place q.1 in (n.0, (n.1.0, (q.0, n.1.1))))
    (λ place q. (q.1.1.0, name_to_found (IsMethodAt p) (one_method_place p) p s.rank o is place (q.0, (q.1.0, q.1.1.1)))) h

-- another package declares none of them
pub none_declared : (w : Workspace) (known : Verdicts) (n : ℕ) (p : Package) → IsPackageAt w known n p → (d : Declaration) → IsMemberAbroad w known n d →
    (u : ℕ) → DeclaresMember p u d → ⊥
none_declared w known n p is (Predeclared k) abroad u h = abroad
none_declared w known n p is (Declared path k) abroad u h = abroad
none_declared w known n p is (Field s) abroad u h = abroad p is (sym h.0)
none_declared w known n p is (Method s) abroad u h = abroad p is (sym h.0)

module _ (w : Workspace) (known : Verdicts) (set : List Declaration) (all : AllAreMembers set) where
  pub some_used_at : (n : ℕ) (p : Package) (is : IsPackageAt w known n p) (a b c : List PlaceKey) →
      AddsPlaces a b (IsPlaceOfSome set (λ d. UsesIn p (λ u. BindsByMember p u d))) →
      AddsPlaces b c (IsPlaceOfSome set (λ d. UsesIn p (λ u. DeclaresMember p u d))) →
      AddsPlaces a c (IsPlaceOfSome set (λ d. IsUseAt w known d None n))
  some_used_at n p is a b c used named =
      adds_as a c (λ place. IsPlaceOfSome set (λ d. UsesIn p (λ u. BindsByMember p u d)) place ⊎
      IsPlaceOfSome set (λ d. UsesIn p (λ u. DeclaresMember p u d)) place)
      (IsPlaceOfSome set (λ d. IsUseAt w known d None n))
      (λ place x. elim x [
        | inl m ↦ record {
          declaration = m.declaration;
          among = m.among;
          holds = record { used_in = p; is_package = is; is_use = (m.holds.0, (m.holds.1.0, by_member m.holds.1.1)) };
        }
        | inr m ↦ record {
          declaration = m.declaration;
          among = m.among;
          holds = record { used_in = p; is_package = is; is_use = (m.holds.0, (m.holds.1.0, by_name m.holds.1.1)) };
        }
      ])
      (λ place x. apart place x.declaration x.among
      (subst (λ (q : Package). UsesIn q (BindsIn q x.declaration None) place) (one_at w known n x.holds.used_in p x.holds.is_package is) x.holds.is_use))
      (adds_then a b c (IsPlaceOfSome set (λ d. UsesIn p (λ u. BindsByMember p u d))) (IsPlaceOfSome set (λ d. UsesIn p (λ u. DeclaresMember p u d)))
      used named)
    where
      apart : (place : Place) (d : Declaration) → Contains set d → UsesIn p (BindsIn p d None) place →
          IsPlaceOfSome set (λ e. UsesIn p (λ u. BindsByMember p u e)) place ⊎ IsPlaceOfSome set (λ e. UsesIn p (λ u. DeclaresMember p u e)) place
      apart place d among q = elim (as_either p d (all d among) q.0 q.1.1) [
        | inl m ↦ inl (record { declaration = d; among = among; holds = (q.0, (q.1.0, m)) })
        | inr m ↦ inr (record { declaration = d; among = among; holds = (q.0, (q.1.0, m)) })
      ]

  -- what is found in all packages is what is used
  pub all_of_some : (n : ℕ) (a b : List PlaceKey) → n ≡ length (package_paths w) →
      AddsPlaces a b (Below (λ k. IsPlaceOfSome set (λ d. IsUseAt w known d None k)) n) → AddsPlaces a b (IsUseOfSome w known set)
  all_of_some n a b e h =
      adds_as a b (Below (λ k. IsPlaceOfSome set (λ d. IsUseAt w known d None k)) n) (IsUseOfSome w known set)
      (λ place q.
      let x = q.2 in
      let used = x.holds in
      record {
        declaration = x.declaration;
        among = x.among;
        is_use = record {
          used_in = used.used_in;
          is_package = used.is_package.is_package;
          user = used.is_use.0;
          begins = used.is_use.1.0;
          bound =
              either_bound w known used.used_in x.declaration used.is_use.0
              (as_either used.used_in x.declaration (all x.declaration x.among) used.is_use.0 used.is_use.1.1);
        };
      })
      (λ place x.
      let used = x.is_use in
      let k = numbered w known used.used_in used.is_package in (
        k.0,
        subst (λ m. k.0 < m) (sym e) (number_within w known k.0 used.used_in k.1),
        record {
          declaration = x.declaration;
          among = x.among;
          holds = record {
            used_in = used.used_in;
            is_package = k.1;
            is_use =
                (used.user, (used.begins, bound_in_package w known used.used_in x.declaration (all x.declaration x.among) used.user used.bound));
          };
        },
      )) h
