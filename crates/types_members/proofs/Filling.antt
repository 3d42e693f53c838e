-- Underlying types, found definition by definition in the order of their steps.
use Rattle.std.proofs.Common.{ℕ, ◌≡◌, ◌+◌, ◌<◌, inl, inr, List, [], length, get_or, ap, sym, subst, refl, ◌∙◌, arith}
use Rattle.std.specs.Prelude.{Option, Some, None, option_map, slice_get, slice_index_or}
use Rattle.std.proofs.Math.ListN.{set}
use Rattle.std.proofs.lemmas.Bool.{cases_lt, cases_eq}
use Rattle.std.proofs.lemmas.List.{get_or-set_same, get_or-set_other, length-set}
use Rattle.std.proofs.lemmas.Option.{same_Some, none-some, slice_get_within, slice_get-get_or}
use Rattle.base_lemmas.proofs.Tests.{none_from_map}
use Rattle.go_scope.specs.WellFormed.{WellFormed}
use Rattle.go_ast.specs.Tree.{TypeTree, BodyTree, Other, Struct, Interface}
use Rattle.types_expr.specs.declared.world.Underlying.{Underlying}
use Rattle.types_expr.specs.WorldView.{underlying_of}
use Rattle.types_expr.specs.Types.{PlainType, Defined}
use Rattle.types_expr.specs.Types as types
use Rattle.types_members.specs.declared.underlying.NameStep.{NameStep}
use Rattle.types_members.specs.declared.underlying.NameStep.TheVariants.{Ends, Continues, Nothing}
use Rattle.types_declared.specs.Package.{Package, PlacedType, package_types, symbol_in}
use Rattle.types_declared.specs.Written.{DenotesType}
use Rattle.types_declared.specs.Definitions.{HasUnderlying, basic, pointer, slice, struct, interface, named, imported}
use Rattle.types_members.specs.MembersView.{IsUnderlyingFound, AreUnderlying}
use Rattle.types_members.specs.Steps.{NamesDefinition, IsStep, AreSteps, ComesAfterTarget, IsInOrder, IsStepOrder, reached_type}
use Rattle.types_declared.proofs.Naming.{one_named}

-- found has the underlying types of the first count definitions of the order
pub record AreFilled (p : Package) (order : List ℕ) (count : ℕ) (found : List (Option Underlying)) : Type 0 where
  pub size : length found ≡ length (package_types p)
  pub sound : (rank : ℕ) (u : Underlying) → slice_index_or found rank None ≡ Some u → HasUnderlying p (Defined (symbol_in p rank)) (underlying_of u)
  pub filled : (i : ℕ) → i < count → slice_index_or found (slice_index_or order i 0) None ≡ None → ⊥

-- The type that a step leads to is an underlying type

mapped_some : {X Y : Type 0} (f : X → Y) (o : Option X) (y : Y) → option_map f o ≡ Some y → (x : X) × ((o ≡ Some x) × (f x ≡ y))
mapped_some f None y e = absurd (none-some y e)
mapped_some f (Some x) y e = (x, (refl, same_Some (f x) y e))

abbrev Sound : Package → List (Option Underlying) → Type 0
Sound p found = (rank : ℕ) (u : Underlying) → get_or found rank None ≡ Some u → HasUnderlying p (Defined (symbol_in p rank)) (underlying_of u)

taken_sound : (p : Package) (rank : ℕ) (s : NameStep) (found : List (Option Underlying)) (u : types.Underlying) → Sound p found → IsStep p rank s →
    reached_type s found ≡ Some u → HasUnderlying p (Defined (symbol_in p rank)) u
taken_sound p rank (Ends w) found u sound step e = subst (HasUnderlying p (Defined (symbol_in p rank))) (same_Some (underlying_of w) u e) step
taken_sound p rank (Continues to) found u sound step e =
    let at = mapped_some underlying_of (get_or found to None) u e in
    named step.0.has_rank step.0.written step.0.names (subst (HasUnderlying p (Defined (symbol_in p to))) at.1.1 (sound to at.0 at.1.0))
taken_sound p rank Nothing found u sound step e = absurd (none-some u e)

taken_there : (p : Package) (order : List ℕ) (count : ℕ) (s : NameStep) (found : List (Option Underlying)) → AreFilled p order count found →
    ComesAfterTarget s order count → reached_type s found ≡ None → ⊥
taken_there p order count (Ends w) found h behind e = none-some (underlying_of w) (sym e)
taken_there p order count (Continues to) found h behind e =
    h.filled behind.0 behind.1.0 (ap (λ k. get_or found k None) behind.1.1 ∙ none_from_map underlying_of (get_or found to None) e)
taken_there p order count Nothing found h behind e = behind

pub none_filled : (p : Package) (order : List ℕ) (found : List (Option Underlying)) → length found ≡ length (package_types p) →
    ((rank : ℕ) → get_or found rank None ≡ None) → AreFilled p order 0 found
none_filled p order found size none = record {
  size = size;
  sound = λ rank u e. absurd (none-some u (sym (none rank) ∙ e));
  filled = λ i lt e.
      absurd (omega arith);
}

-- the underlying type of the next definition of the order is set
pub next_filled : (p : Package) (steps : List NameStep) (order : List ℕ) (count rank : ℕ) (s : NameStep) (found : List (Option Underlying))
    (v : Option Underlying) → AreSteps p steps → IsStepOrder steps order →
    count < length order → rank ≡ get_or order count 0 → slice_get steps rank ≡ Some s → option_map underlying_of v ≡ reached_type s found →
    AreFilled p order count found → AreFilled p order (count + 1) (set found rank v)
next_filled p steps order count rank s found v are o lt at is e h =
    let within : rank < length found = let k : rank < length steps = slice_get_within steps rank s is in omega (arith, are.all, h.size) in
    let here : get_or (set found rank v) rank None ≡ v = get_or-set_same found rank v None within in
    let place = o.each count lt in
    let same_step : place.0 ≡ s = same_Some place.0 s (sym place.1.0 ∙ (ap (slice_get steps) (sym at) ∙ is)) in
    let behind : ComesAfterTarget s order count = subst (λ x. ComesAfterTarget x order count) same_step place.1.1 in
    record {
      size = length-set found rank v ∙ h.size;
      sound = λ r u k. elim (cases_eq r rank) [
        | inl same ↦ (let v_is : v ≡ Some u = sym here ∙ (ap (λ q. get_or (set found rank v) q None) (sym same) ∙ k) in
            subst (λ q. HasUnderlying p (Defined (symbol_in p q)) (underlying_of u)) (sym same)
            (taken_sound p rank s found (underlying_of u) h.sound (are.each rank s is) (sym e ∙ ap (option_map underlying_of) v_is)))
        | inr ne ↦ h.sound r u (sym (get_or-set_other found rank r v None ne) ∙ k)
      ];
      filled = λ i below k. elim (cases_eq (get_or order i 0) rank) [
        | inl same ↦ (let v_is : v ≡ None = sym here ∙ (ap (λ q. get_or (set found rank v) q None) (sym same) ∙ k) in
            taken_there p order count s found h behind (sym e ∙ ap (option_map underlying_of) v_is))
        | inr ne ↦ elim (cases_lt i count) [
          | inl before ↦ h.filled i before (sym (get_or-set_other found rank (get_or order i 0) v None ne) ∙ k)
          | inr ge ↦ (let here_too : i ≡ count = omega arith in ne (ap (λ q. get_or order q 0) here_too ∙ sym at))
        ]
      ];
    }

-- Each definition with an underlying type is in the order

place_by_step : (p : Package) (steps : List NameStep) (order : List ℕ) → IsStepOrder steps order → (rank : ℕ) (s : NameStep) → slice_get steps rank ≡ Some s →
    IsStep p rank s → (u : types.Underlying) →
    HasUnderlying p (Defined (symbol_in p rank)) u → ((to : ℕ) → to < length (package_types p) → NamesDefinition p rank to → IsInOrder order to) →
    IsInOrder order rank
place_by_step p steps order o rank (Ends w) e step u h before = o.ends rank w e
place_by_step p steps order o rank (Continues to) e step u h before = o.continues rank to e (before to step.1 step.0)
place_by_step p steps order o rank Nothing e step u h before = absurd (step u h)

by_any_step : (p : Package) (steps : List NameStep) (order : List ℕ) → AreSteps p steps → IsStepOrder steps order → (rank : ℕ) →
    rank < length (package_types p) → (u : types.Underlying) →
    HasUnderlying p (Defined (symbol_in p rank)) u → ((to : ℕ) → to < length (package_types p) → NamesDefinition p rank to → IsInOrder order to) →
    IsInOrder order rank
by_any_step p steps order are o rank lt u h before =
    let is : slice_get steps rank ≡ Some (get_or steps rank Nothing) = slice_get-get_or steps rank Nothing (omega (arith, are.all)) in
    place_by_step p steps order o rank (get_or steps rank Nothing) is (are.each rank (get_or steps rank Nothing) is) u h before

abbrev rank_of : PlainType → ℕ
rank_of (Defined s) = s.rank
rank_of t = 0

abbrev path_of : PlainType → List ℕ
path_of (Defined s) = s.package
path_of t = []

abbrev tree_or : TypeTree → BodyTree → TypeTree
tree_or t (Other tree) = tree
tree_or t b = t

names_as : (p : Package) (rank to : ℕ) (d : PlacedType) (tree : TypeTree) → slice_get (package_types p) rank ≡ Some d → d.spec.body ≡ Other tree →
    NamesDefinition p rank to →
    DenotesType p d.file tree (Defined (symbol_in p to))
names_as p rank to d tree is written n =
    let same : n.definition ≡ d = same_Some n.definition d (sym n.has_rank ∙ is) in
    let same_tree : n.tree ≡ tree = ap (tree_or n.tree) (sym n.written ∙ (ap (λ x. x.spec.body) same ∙ written)) in
    subst (λ x. DenotesType p d.file x (Defined (symbol_in p to))) same_tree (subst (λ x. DenotesType p x.file n.tree (Defined (symbol_in p to))) same n.names)

no_name : (p : Package) (rank to : ℕ) (d : PlacedType) (k o c : ℕ) (fs : _) → slice_get (package_types p) rank ≡ Some d → d.spec.body ≡ Struct k o fs c →
    NamesDefinition p rank to → ⊥
no_name p rank to d k o c fs is written n =
    let same : n.definition ≡ d = same_Some n.definition d (sym n.has_rank ∙ is) in
    let e : Other n.tree ≡ Struct k o fs c = sym n.written ∙ (ap (λ x. x.spec.body) same ∙ written) in
    cc

interface_names_none : (p : Package) (rank to : ℕ) (d : PlacedType) (k o c : ℕ) (ms : _) → slice_get (package_types p) rank ≡ Some d →
    d.spec.body ≡ Interface k o ms c → NamesDefinition p rank to → ⊥
interface_names_none p rank to d k o c ms is written n =
    let same : n.definition ≡ d = same_Some n.definition d (sym n.has_rank ∙ is) in
    let e : Other n.tree ≡ Interface k o ms c = sym n.written ∙ (ap (λ x. x.spec.body) same ∙ written) in
    cc

placed : (p : Package) → WellFormed p.layout → (steps : List NameStep) (order : List ℕ) → AreSteps p steps → IsStepOrder steps order →
    (t : PlainType) (u : types.Underlying) → HasUnderlying p t u →
    (rank : ℕ) → rank < length (package_types p) → t ≡ Defined (symbol_in p rank) → IsInOrder order rank
placed p w steps order are o _ _ (basic {b = b}) rank lt e = absurd cc
placed p w steps order are o _ _ (pointer {t = t}) rank lt e = absurd cc
placed p w steps order are o _ _ (slice {t = t}) rank lt e = absurd cc
placed p w steps order are o _ _ (struct {rank = r} {d = d} {k = k} {o = op} {c = c} {fs = fs} is written) rank lt e =
    let there : slice_get (package_types p) rank ≡ Some d = ap (slice_get (package_types p)) (sym (ap rank_of e)) ∙ is in
    by_any_step p steps order are o rank lt (types.Struct (symbol_in p rank)) (struct there written)
    (λ to below n. absurd (no_name p rank to d k op c fs there written n))
placed p w steps order are o _ _ (interface {rank = r} {d = d} {k = k} {o = op} {c = c} {ms = ms} is written) rank lt e =
    let there : slice_get (package_types p) rank ≡ Some d = ap (slice_get (package_types p)) (sym (ap rank_of e)) ∙ is in
    by_any_step p steps order are o rank lt (types.Interface (symbol_in p rank)) (interface there written)
    (λ to below n. absurd (interface_names_none p rank to d k op c ms there written n))
placed p w steps order are o _ _ (named {rank = r} {d = d} {tree = tree} {t = t} {u = u} is written names h) rank lt e =
    let there : slice_get (package_types p) rank ≡ Some d = ap (slice_get (package_types p)) (sym (ap rank_of e)) ∙ is in
    by_any_step p steps order are o rank lt u (named there written names h)
    (λ to below n. placed p w steps order are o t u h to below
    (one_named p w d.file tree t (Defined (symbol_in p to)) names (names_as p rank to d tree there written n)))
placed p w steps order are o _ _ (imported {path = path} {rank = r} other) rank lt e = absurd (other (ap path_of e))

found_one : (p : Package) (order : List ℕ) (found : List (Option Underlying)) → AreFilled p order (length order) found → (rank : ℕ) →
    ((u : types.Underlying) → HasUnderlying p (Defined (symbol_in p rank)) u → IsInOrder order rank) →
    (f : Option Underlying) → get_or found rank None ≡ f → IsUnderlyingFound p rank (option_map underlying_of f)
found_one p order found h rank place None e = λ u has. let at = place u has in h.filled at.0 at.1.0 (ap (λ k. get_or found k None) at.1.1 ∙ e)
found_one p order found h rank place (Some u) e = h.sound rank u e

pub all_filled : (p : Package) → WellFormed p.layout → (steps : List NameStep) (order : List ℕ) (count : ℕ) (found : List (Option Underlying)) →
    AreSteps p steps → IsStepOrder steps order → count ≡ length order →
    AreFilled p order count found → AreUnderlying p found
all_filled p w steps order count found are o end h = record {
  all = h.size;
  each = λ rank lt.
      found_one p order found (subst (λ n. AreFilled p order n found) end h) rank
      (λ u has. placed p w steps order are o (Defined (symbol_in p rank)) u has rank lt refl) (get_or found rank None) refl;
}
