-- Bound identifiers of all packages, and their order.
use Rattle.std.proofs.Common.{ℕ, ◌≡◌, ◌<◌, inl, inr, List, [], length, get_or, ap, sym, subst, refl, ◌∙◌, arith}
use Rattle.std.specs.Prelude.{Contains, ◌↔◌}
use Rattle.std.specs.declared.cmp.Ordering.{Ordering}
use Rattle.std.specs.declared.cmp.Ordering.TheVariants.{Less, Equal, Greater}
use Rattle.std.specs.Ordering.{is_lt, ordering_index}
use Rattle.std.specs.Cmp.{tied_itself}
use Rattle.std.specs.List.{HoldsAt}
use Rattle.std.specs.List.Sorted.{IsSortedBy, IsNonDecreasingBy, IsPartitionPoint}
use Rattle.std.proofs.lemmas.Bool.{cases_lt}
use Rattle.std.proofs.lemmas.List.Sorted.{searchable_from_sorted}
use Rattle.base_lemmas.proofs.Tests.{less_differs, greater_differs}
use Rattle.base_files.specs.Packages.{package_paths}
use Rattle.base_files.specs.Workspace.{Workspace}
use Rattle.base_files.specs.declared.place.Place.{Place}
use Rattle.workspace_check.specs.Verdicts.{Verdicts}
use Rattle.refs_binding.specs.declared.bound_identifier.BoundIdentifier.{BoundIdentifier}
use Rattle.refs_binding.specs.declared.declaration.Declaration.{Declaration}
use Rattle.refs_binding.specs.Bindings.{AddsAll, AreBoundIdentifiers, AreBindingsAmong, IsBoundInPackage, IsBoundAmong, IsBound, bound_place}
use Rattle.refs_binding.specs.Places.{place_cmp}
use Rattle.refs_binding.specs.Uses.{IsUseOf}
use Rattle.refs_binding.proofs.PlaceOrder.{place_cmp_total, place_cmp_exact}
use Rattle.refs_binding.proofs.Units.{numbered, number_within}

-- what is bound in the package of a number, in some package

pub bound_here : (w : Workspace) (known : Verdicts) (n : ℕ) (b : BoundIdentifier) → IsBoundInPackage w known n b → IsBound w known b
bound_here w known n b h = record { used_in = h.used_in; is_package = h.is_package.is_package; user = h.bound.0; begins = h.bound.1.0; bound = h.bound.1.1 }

pub bound_somewhere : (w : Workspace) (known : Verdicts) (b : BoundIdentifier) → IsBound w known b → (n : ℕ) × (n < length (package_paths w)) ×
    IsBoundInPackage w known n b
bound_somewhere w known b h =
    let k = numbered w known h.used_in h.is_package in
    (k.0, number_within w known k.0 h.used_in k.1, record { used_in = h.used_in; is_package = k.1; bound = (h.user, (h.begins, h.bound)) })

-- what is bound in the package of a number, in one of some numbers

pub bound_among : (w : Workspace) (known : Verdicts) (IsOf : ℕ → Type 0) (n : ℕ) (b : BoundIdentifier) → IsOf n × IsBoundInPackage w known n b →
    IsBoundAmong w known IsOf b
bound_among w known IsOf n b h = record { number = n; is_of = h.0; bound = h.1 }

pub bound_in_range : (w : Workspace) (known : Verdicts) (IsOf : ℕ → Type 0) (b : BoundIdentifier) → IsBoundAmong w known IsOf b →
    (n : ℕ) × (n < length (package_paths w)) × (IsOf n × IsBoundInPackage w known n b)
bound_in_range w known IsOf b h = (h.number, number_within w known h.number h.bound.used_in h.bound.is_package, (h.is_of, h.bound))

-- what a search answers

abbrev pub compared : Place → BoundIdentifier → Ordering
compared place b = place_cmp (bound_place b) place

pub found_is : (bs : List BoundIdentifier) (place : Place) (n : ℕ) (b : BoundIdentifier) → n < length bs → b ≡ get_or bs n b →
    HoldsAt (λ x. compared place x ≡ Equal) bs n → Contains bs b × (bound_place b ≡ place)
found_is bs place n b lt is at = ((n, lt, sym is), place_cmp_exact (bound_place b) place (subst (λ x. compared place x ≡ Equal) (sym is) (at b)))

pub rises : (bs : List BoundIdentifier) (place : Place) → IsSortedBy (λ a b. is_lt (place_cmp (bound_place a) (bound_place b))) bs →
    IsNonDecreasingBy (λ y. ordering_index (compared place y)) bs
rises bs place sorted = searchable_from_sorted place_cmp_total bound_place bs place sorted

not_tied : (o : Ordering) (x y : Place) → place_cmp x y ≡ o → (o ≡ Equal → ⊥) → x ≡ y → ⊥
not_tied o x y is differs same = differs (sym is ∙ ap (place_cmp x) (sym same) ∙ tied_itself place_cmp_total x)

none_in : (bs : List BoundIdentifier) (place : Place) (i : ℕ) → IsPartitionPoint (λ x. compared place x ≡ Less) (λ x. compared place x ≡ Greater) bs i →
    (b : BoundIdentifier) → Contains bs b → bound_place b ≡ place → ⊥
none_in bs place i split b has same = elim (cases_lt has.0 i) [
  | inl h ↦ not_tied Less (bound_place b) place (subst (λ x. compared place x ≡ Less) has.2 (split.0 has.0 b (omega arith) h)) less_differs same
  | inr h ↦ not_tied Greater (bound_place b) place (subst (λ x. compared place x ≡ Greater) has.2 (split.1 has.0 b h has.1)) greater_differs same
]

pub none_is : (bs : List BoundIdentifier) (place : Place) (i : ℕ) → IsSortedBy (λ a b. is_lt (place_cmp (bound_place a) (bound_place b))) bs →
    (IsNonDecreasingBy (λ y. ordering_index (compared place y)) bs →
    IsPartitionPoint (λ x. compared place x ≡ Less) (λ x. compared place x ≡ Greater) bs i) → (b : BoundIdentifier) → Contains bs b → bound_place b ≡ place → ⊥
none_is bs place i sorted found = none_in bs place i (found (rises bs place sorted))

-- all that was added to nothing, in order

all_added : (P : BoundIdentifier → Type 0) (found sorted : List BoundIdentifier) → AddsAll [] found P → ((b : BoundIdentifier) →
    Contains sorted b ↔ Contains found b) →
    (b : BoundIdentifier) → Contains sorted b ↔ P b
all_added P found sorted added same b = (
  (λ h. elim (added.only b ((same b).0 h)) [
    | inl none ↦ let lt : none.0 < 0 = none.1 in let z : ⊥ = omega arith in absurd z
    | inr p ↦ p
  ]),
  (λ p. (same b).1 (added.holds b p)),
)

-- the bindings of a workspace
pub all_bound : (w : Workspace) (known : Verdicts) (found sorted : List BoundIdentifier) → AddsAll [] found (IsBound w known) →
    IsSortedBy (λ a b. is_lt (place_cmp (bound_place a) (bound_place b))) sorted →
    ((b : BoundIdentifier) → Contains sorted b ↔ Contains found b) → AreBoundIdentifiers w known sorted
all_bound w known found sorted added order same = record { in_order = order; each = all_added (IsBound w known) found sorted added same }

-- those of the packages of some numbers
pub all_among : (w : Workspace) (known : Verdicts) (IsOf : ℕ → Type 0) (found sorted : List BoundIdentifier) → AddsAll [] found (IsBoundAmong w known IsOf) →
    IsSortedBy (λ a b. is_lt (place_cmp (bound_place a) (bound_place b))) sorted → ((b : BoundIdentifier) → Contains sorted b ↔ Contains found b) →
    AreBindingsAmong w known IsOf sorted
all_among w known IsOf found sorted added order same = record { in_order = order; each = all_added (IsBoundAmong w known IsOf) found sorted added same }

-- one of the bound identifiers that begin at a place
pub bound_at : (w : Workspace) (known : Verdicts) (bs : List BoundIdentifier) (place : Place) (b : BoundIdentifier) → AreBoundIdentifiers w known bs →
    Contains bs b ×
    (bound_place b ≡ place) → IsUseOf w known b.declaration place
bound_at w known bs place b are is = subst (IsUseOf w known b.declaration) is.1 ((are.each b).0 is.0)

-- and where there is none nothing is bound there
pub unbound_at : (w : Workspace) (known : Verdicts) (bs : List BoundIdentifier) (place : Place) → AreBoundIdentifiers w known bs →
    ((b : BoundIdentifier) → Contains bs b → bound_place b ≡ place → ⊥) → (d : Declaration) → IsUseOf w known d place → ⊥
unbound_at w known bs place are none d use_of =
    let b : BoundIdentifier = record { spot = record { path = place.path; offset = place.offset }; declaration = d } in
    none b ((are.each b).1 use_of) refl
