-- Lists of places, and what is added to them.
use Rattle.std.proofs.Common.{arith, ◌<◌, ◌+◌, ℕ, ◌≡◌, ◌⊎◌, inl, inr, List, [], ◌∷◌, ◌++◌, subst, sym}
use Rattle.std.specs.Prelude.{Contains, Option, Result, OnOk}
use Rattle.std.proofs.lemmas.Bool.{cases_lt}
use Rattle.std.proofs.lemmas.List.Elements.{Contains-append_left, Contains-push, Contains-push_cases}
use Rattle.std.proofs.lemmas.Result.{on_ok_weaker}
use Rattle.base_files.specs.declared.place.Place.{Place}
use Rattle.types_declared.specs.Package.{Package}
use Rattle.refs_binding.specs.declared.place_key.PlaceKey.{PlaceKey}
use Rattle.refs_binding.specs.Identifiers.{BeginsAt}
use Rattle.refs_binding.specs.declared.declaration.Declaration.{Declaration}
use Rattle.refs_binding.specs.Binding.{BindsByScope, BindsByMember, DeclaresMember}
use Rattle.refs_binding.specs.Steps.{AddsPlaces, UsesIn, QualifiesAs, BindsIn, by_scope, by_package, by_member, by_name, place_of}

-- nothing is added
pub adds_none : (a : List PlaceKey) (P : Place → Type 0) → ((place : Place) → P place → ⊥) → AddsPlaces a a P
adds_none a P none = record { keeps = λ s h. h; holds = λ s h. absurd (none (place_of s) h); only = λ s h. inl h }

-- The added places may be given by an equivalent condition.
pub adds_as : (a b : List PlaceKey) (P Q : Place → Type 0) → ((place : Place) → P place → Q place) → ((place : Place) → Q place → P place) →
    AddsPlaces a b P → AddsPlaces a b Q
adds_as a b P Q to from h = record {
  keeps = h.keeps;
  holds = λ s q. h.holds s (from (place_of s) q);
  only = λ s q. elim (h.only s q) [ inl o ↦ inl o | inr p ↦ inr (to (place_of s) p) ];
}

-- one thing is added, and then another
pub adds_then : (a b c : List PlaceKey) (P Q : Place → Type 0) → AddsPlaces a b P → AddsPlaces b c Q → AddsPlaces a c (λ place. P place ⊎ Q place)
adds_then a b c P Q h k = record {
  keeps = λ s x. k.keeps s (h.keeps s x);
  holds = λ s x. elim x [ inl p ↦ k.keeps s (h.holds s p) | inr q ↦ k.holds s q ];
  only = λ s x. elim (k.only s x) [ inl o ↦ elim (h.only s o) [ inl n ↦ inl n | inr p ↦ inr (inl p) ] | inr q ↦ inr (inr q) ];
}

pub call_adds : {E : Type 0} (a b : List PlaceKey) (P Q : Place → Type 0) (r : Result (Unit {0}) E) → ((place : Place) → P place → Q place) →
    ((place : Place) → Q place → P place) →
    OnOk r (AddsPlaces a b P) → OnOk r (AddsPlaces a b Q)
call_adds a b P Q r to from k = on_ok_weaker r (λ h. adds_as a b P Q to from h) k

-- a place is pushed
pub adds_one : (a b : List PlaceKey) (s : PlaceKey) (P : Place → Type 0) → b ≡ a ++ s ∷ [] → P (place_of s) → ((t : PlaceKey) → P (place_of t) → s ≡ t) →
    AddsPlaces a b P
adds_one a b s P e p one = record {
  keeps = λ t h. subst (λ l. Contains l t) (sym e) (Contains-append_left a (s ∷ []) t h);
  holds = λ t h. subst (λ l. Contains l t) (sym e) (subst (Contains (a ++ s ∷ [])) (one t h) (Contains-push a s));
  only = λ t h. elim (Contains-push_cases a s t (subst (λ l. Contains l t) e h)) [
    | inl o ↦ inl o
    | inr same ↦ inr (subst (λ x. P (place_of x)) same p)
  ];
}

-- Places of the numbers below `n`.
abbrev pub Below : (ℕ → Place → Type 0) → ℕ → Place → Type 0
Below Q n place = (u : ℕ) × (u < n) × Q u place

pub below_none : (Q : ℕ → Place → Type 0) (a : List PlaceKey) → AddsPlaces a a (Below Q 0)
below_none Q a = adds_none a (Below Q 0) (λ place h. let lt : h.0 < 0 = h.1 in absurd (omega arith))

below_to : (Q : ℕ → Place → Type 0) (i : ℕ) (place : Place) → Below Q i place ⊎ Q i place → Below Q (i + 1) place
below_to Q i place h = elim h [
  | inl q ↦ (q.0, (let lt : q.0 < i = q.1 in omega arith), q.2)
  | inr q ↦ (i, omega arith, q)
]

below_from : (Q : ℕ → Place → Type 0) (i : ℕ) (place : Place) → Below Q (i + 1) place → Below Q i place ⊎ Q i place
below_from Q i place h = elim (cases_lt h.0 i) [
  | inl lt ↦ inl (h.0, lt, h.2)
  | inr ge ↦ inr (let lt : h.0 < i + 1 = h.1 in let e : h.0 ≡ i = omega arith in subst (λ u. Q u place) e h.2)
]

pub below_next : (Q : ℕ → Place → Type 0) (a b c : List PlaceKey) (i : ℕ) → AddsPlaces a b (Below Q i) → AddsPlaces b c (Q i) → AddsPlaces a c (Below Q (i + 1))
below_next Q a b c i h k = adds_as a c (λ place. Below Q i place ⊎ Q i place) (Below Q (i + 1)) (below_to Q i) (below_from Q i)
    (adds_then a b c (Below Q i) (Q i) h k)

-- The places of all identifiers of a package that satisfy `K`.
pub all_below : (p : Package) (K : ℕ → Type 0) (n : ℕ) (a b : List PlaceKey) → n ≡ p.size →
    AddsPlaces a b (Below (λ u place. BeginsAt p place.path place.offset u × K u) n) → AddsPlaces a b (UsesIn p K)
all_below p K n a b e h =
    adds_as a b (Below (λ u place. BeginsAt p place.path place.offset u × K u) n) (UsesIn p K)
    (λ place q. (q.0, q.2))
    (λ place q. (q.0, subst (λ m. q.0 < m) (sym e) q.1.0.0.0, q.1)) h

-- Nothing is added if no identifier satisfies `K`.
pub uses_none : (p : Package) (K : ℕ → Type 0) (a : List PlaceKey) → ((u : ℕ) → K u → ⊥) → AddsPlaces a a (UsesIn p K)
uses_none p K a none = adds_none a (UsesIn p K) (λ place q. none q.0 q.1.1)

-- The uses may be given by an equivalent condition.
pub uses_as : {E : Type 0} (p : Package) (K L : ℕ → Type 0) (a b : List PlaceKey) (r : Result (Unit {0}) E) → ((u : ℕ) → K u → L u) → ((u : ℕ) → L u → K u) →
    OnOk r (AddsPlaces a b (UsesIn p K)) → OnOk r (AddsPlaces a b (UsesIn p L))
uses_as p K L a b r to from h = call_adds a b (UsesIn p K) (UsesIn p L) r (λ place q. (q.0, (q.1.0, to q.0 q.1.1)))
    (λ place q. (q.0, (q.1.0, from q.0 q.1.1))) h

-- the uses of one kind after the other
pub bound_in : {E : Type 0} (p : Package) (d : Declaration) (name : Option (List ℕ)) (a b c e f : List PlaceKey) (r : Result (Unit {0}) E) →
    AddsPlaces a b (UsesIn p (λ u. BindsByScope p u d)) → AddsPlaces b c (UsesIn p (QualifiesAs p d name)) →
    AddsPlaces c e (UsesIn p (λ u. BindsByMember p u d)) →
    OnOk r (AddsPlaces e f (UsesIn p (λ u. DeclaresMember p u d))) →
    OnOk r (AddsPlaces a f (UsesIn p (BindsIn p d name)))
bound_in p d name a b c e f r scope exported member own =
    on_ok_weaker r (λ named.
    adds_as a f _ (UsesIn p (BindsIn p d name))
    (λ place h. elim h [
      | inl q ↦ elim q [
        | inl x ↦ elim x [ inl y ↦ (y.0, (y.1.0, by_scope y.1.1)) | inr y ↦ (y.0, (y.1.0, by_package y.1.1)) ]
        | inr x ↦ (x.0, (x.1.0, by_member x.1.1))
      ]
      | inr q ↦ (q.0, (q.1.0, by_name q.1.1))
    ])
    (λ place h. split place h.0 h.1.0 h.1.1)
    (adds_then a e f _ (UsesIn p (λ u. DeclaresMember p u d))
    (adds_then a c e _ (UsesIn p (λ u. BindsByMember p u d))
    (adds_then a b c (UsesIn p (λ u. BindsByScope p u d)) (UsesIn p (QualifiesAs p d name)) scope exported) member) named)) own
  where
    split : (place : Place) (u : ℕ) → BeginsAt p place.path place.offset u → BindsIn p d name u →
        ((UsesIn p (λ v. BindsByScope p v d) place ⊎ UsesIn p (QualifiesAs p d name) place) ⊎ UsesIn p (λ v. BindsByMember p v d) place) ⊎
        UsesIn p (λ v. DeclaresMember p v d) place
    split place u begins (by_scope h) = inl (inl (inl (u, (begins, h))))
    split place u begins (by_package h) = inl (inl (inr (u, (begins, h))))
    split place u begins (by_member h) = inl (inr (u, (begins, h)))
    split place u begins (by_name h) = inr (u, (begins, h))
