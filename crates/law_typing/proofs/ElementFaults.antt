-- The elements of literals: the tokens where they break a rule, and when they are whole.
use Rattle.std.proofs.Common.{ℕ, ◌≡◌, Bool, true, false, if◌then◌else◌, ◌⊎◌, inl, inr, List, [], ◌∷◌, Option, Some, None, refl, sym, ap, ◌∙◌, subst, true≢false}
use Rattle.go_ast.specs.Tree.{ExprTree, ElementTrees}
use Rattle.go_ast.specs.Tree as tree
use Rattle.types_expr.specs.declared.symbol.Symbol.{Symbol}
use Rattle.types_expr.specs.Places.{place_of}
use Rattle.types_expr.specs.Types.{PlainType, Underlying, Plain, PointerTo, SliceOf, Struct, Interface, ValueKind, Value, element_of, AFieldOf, AMethodOf}
use Rattle.types_expr.specs.World.{World, Locals, Member, AField, AMethod, ABrokenMethod, underlying}
use Rattle.types_expr.specs.Operations.{fits}
use Rattle.types_expr.specs.Judge.{JudgedElements, Seen, with_element, KeyMeaning, FieldKey, WrongKey, BrokenKey, key_at, key_in, key_of_member, key_faults}
use Rattle.types_expr.specs.Judge.{is_whole_key, wanted_after_key, seen_with, misfit, misfit_if}
use Rattle.types_expr.specs.Judge.{judge_key, no_key as unkeyed_key, value_kind, judge, judge_value}
use Rattle.types_expr.specs.Judge.{judge_elements}
use Rattle.law_typing.specs.Fits.{FitsType}
use Rattle.law_typing.specs.Meanings.{HasMeaning}
use Rattle.law_typing.specs.Faults.{IsKey, of_field, IsBrokenKey, of_method, HasUnkeyed, this_unkeyed, other_unkeyed}
use Rattle.law_typing.proofs.Fitting.{true_fits, fits_true}
use Rattle.law_typing.proofs.Arguments.{fit_silent, silent_fit}
use Rattle.law_typing.proofs.Elements.{is_taken, new_free, free_new, field_key, whole_key, IsWholeElement, element_whole, whole_element}
use Rattle.law_typing.proofs.Completeness.{complete, has_value, value_was}
use Rattle.law_typing.proofs.PartFaults.{element_slice}
use Rattle.law_typing.proofs.Values.{value_true}
use Rattle.law_typing.specs.ExpressionFaults.{AreWhole, no_element_left, whole_value, whole_field, ElementsBreakAt}
use Rattle.law_typing.proofs.FaultLists.{AreExactly, told_as, At, nothing_at, fault_at, test_told, some_same, none_some}
use Rattle.law_typing.proofs.ValueFaults.{kind_is, kind_means}

-- the key k as the judgement finds it, by the rules

abbrev NoField : World → PlainType → List ℕ → ℕ → Type 0
NoField w t named key = (s : Symbol) (u : PlainType) → IsKey w t named key s u → ⊥

pub data KeyIs (w : World) (t : PlainType) (named : List ℕ) (key : ℕ) (k : KeyMeaning) : Type 0 where
  a_field : {s : Symbol} {u : PlainType} → IsKey w t named key s u → k ≡ FieldKey s.rank u → KeyIs w t named key k
  a_broken_one : NoField w t named key → IsBrokenKey w t key → k ≡ BrokenKey → KeyIs w t named key k
  a_wrong_one : NoField w t named key → (IsBrokenKey w t key → ⊥) → k ≡ WrongKey → KeyIs w t named key k

field_found : (w : World) (t : PlainType) (named : List ℕ) (key : ℕ) {s : Symbol} {u : PlainType} → IsKey w t named key s u →
    key_at w (is_taken named) t key ≡ FieldKey s.rank u
field_found w t named key {s} (of_field i m n) = field_key (is_taken named) i m (new_free s.rank n)

broken_found : (w : World) (t : PlainType) (named : List ℕ) (key : ℕ) → IsBrokenKey w t key → key_at w (is_taken named) t key ≡ BrokenKey
broken_found w t named key (of_method i m) = ap (λ z. key_in z (is_taken named) (w.member key t)) i ∙ ap (key_of_member (is_taken named)) m

no_field_by : (w : World) (t : PlainType) (named : List ℕ) (key : ℕ) {k : KeyMeaning} → key_at w (is_taken named) t key ≡ k → is_whole_key k ≡ false →
    NoField w t named key
no_field_by w t named key e h s u f = true≢false (ap is_whole_key (sym (field_found w t named key f) ∙ e) ∙ h)

broken_or : {k : KeyMeaning} → k ≡ BrokenKey → k ≡ WrongKey → ⊥
broken_or e f = cc

-- a broken key is a broken method of a struct
free_or_wrong : (rank : ℕ) (u : PlainType) (b : Bool) → (if b then WrongKey else FieldKey rank u) ≡ BrokenKey → ⊥
free_or_wrong rank u true e = cc
free_or_wrong rank u false e = cc

member_broken : (seen : Seen) (m : Option Member) → key_of_member seen m ≡ BrokenKey → (s : Symbol) × (m ≡ Some (ABrokenMethod s))
member_broken seen (Some (AField s (AFieldOf t))) e = absurd (free_or_wrong s.rank t (seen s.rank) e)
member_broken seen (Some (AField s (AMethodOf g))) e = cc
member_broken seen (Some (AMethod s b g)) e = cc
member_broken seen (Some (ABrokenMethod s)) e = (s, refl)
member_broken seen None e = cc

broken_in : (w : World) (t : PlainType) (seen : Seen) (key : ℕ) (u : Underlying) → underlying w t ≡ u → key_in u seen (w.member key t) ≡ BrokenKey →
    IsBrokenKey w t key
broken_in w t seen key (Struct x) i e = let q = member_broken seen (w.member key t) e in of_method i q.1
broken_in w t seen key (Plain b) i e = cc
broken_in w t seen key (PointerTo x) i e = cc
broken_in w t seen key (SliceOf x) i e = cc
broken_in w t seen key (Interface x) i e = cc

key_by : (w : World) (t : PlainType) (named : List ℕ) (key : ℕ) (k : KeyMeaning) → key_at w (is_taken named) t key ≡ k → KeyIs w t named key k
key_by w t named key (FieldKey rank u) e = let q = whole_key (underlying w t) (is_taken named) (w.member key t) (ap is_whole_key e) in
    a_field (of_field q.is_struct q.is_field (free_new q.symbol.rank named q.is_free)) (sym e ∙ q.is_key)
key_by w t named key BrokenKey e = a_broken_one (no_field_by w t named key e refl) (broken_in w t (is_taken named) key (underlying w t) refl e) refl
key_by w t named key WrongKey e = a_wrong_one (no_field_by w t named key e refl) (λ b. broken_or (broken_found w t named key b) e) refl

pub key_is : (w : World) (t : PlainType) (named : List ℕ) (key : ℕ) → KeyIs w t named key (key_at w (is_taken named) t key)
key_is w t named key = key_by w t named key (key_at w (is_taken named) t key) refl

-- a key denotes at most one field
one_field : (w : World) (t : PlainType) (named : List ℕ) (key : ℕ) {s x : Symbol} {u y : PlainType} → IsKey w t named key s u → IsKey w t named key x y →
    FieldKey s.rank u ≡ FieldKey x.rank y
one_field w t named key f g = sym (field_found w t named key f) ∙ field_found w t named key g

type_in : {m n : ℕ} {u v : PlainType} → FieldKey m u ≡ FieldKey n v → u ≡ v
type_in e = cc

rank_in : {m n : ℕ} {u v : PlainType} → FieldKey m u ≡ FieldKey n v → m ≡ n
rank_in e = cc

-- the fault of a key

pub key_told : (w : World) (t : PlainType) (named : List ℕ) (key : ℕ) → AreExactly (key_faults (key_at w (is_taken named) t key) key)
    (At key (NoField w t named key × (IsBrokenKey w t key → ⊥)))
key_told w t named key = elim (key_is w t named key) [
  | a_field {s} {u} f e ↦ subst (λ z. AreExactly (key_faults z key) (At key (NoField w t named key × (IsBrokenKey w t key →
      ⊥)))) (sym e) (nothing_at key (λ c. c.0 s u f))
  | a_broken_one n b e ↦ subst (λ z. AreExactly (key_faults z key) (At key (NoField w t named key × (IsBrokenKey w t key →
      ⊥)))) (sym e) (nothing_at key (λ c. c.1 b))
  | a_wrong_one n b e ↦ subst (λ z. AreExactly (key_faults z key) (At key (NoField w t named key × (IsBrokenKey w t key → ⊥)))) (sym e) (fault_at key (n, b))
]

-- the value after a key

pub record IsFieldMisfit (w : World) (locals : Locals) (t : PlainType) (named : List ℕ) (key : ℕ) (e : ExprTree) : Type 0 where
  pub symbol : Symbol
  pub type : PlainType
  pub is_key : IsKey w t named key symbol type
  pub kind : ValueKind
  pub addressable : Bool
  pub means : HasMeaning w locals e (Value kind addressable)
  pub is_none : FitsType w kind type → ⊥

pub record IsElementMisfit (w : World) (locals : Locals) (t : PlainType) (e : ExprTree) : Type 0 where
  pub type : PlainType
  pub slice : underlying w t ≡ SliceOf type
  pub kind : ValueKind
  pub addressable : Bool
  pub means : HasMeaning w locals e (Value kind addressable)
  pub is_none : FitsType w kind type → ⊥

fits_told : (w : World) (locals : Locals) (e : ExprTree) (o : Option ValueKind) (u : PlainType) {C : Type 0} → value_kind (judge_value w locals e).meaning ≡ o →
    ((k : ValueKind) (a : Bool) →
    HasMeaning w locals e (Value k a) → (FitsType w k u → ⊥) → C) → (C → (k : ValueKind) × (a : Bool) × HasMeaning w locals e (Value k a) × (FitsType w k u
    → ⊥)) →
    AreExactly (misfit w (place_of e) o u) (At (place_of e) C)
unfolding misfit
fits_told w locals e None u h f g = nothing_at (place_of e) (λ c. let q = g c in none_some h (kind_is w locals q.2))
fits_told w locals e (Some k) u h f g = test_told (fits w k u) (place_of e) (λ b c. let q = g c in q.3 (subst (λ z. FitsType w z u)
    (some_same (sym h ∙ kind_is w locals q.2)) (true_fits w k u b))) (λ b. let v = kind_means w locals e k h in f k v.0 v.1 (λ x. true≢false (sym
    (fits_true w x) ∙ b)))

slice_by : (w : World) (locals : Locals) (t : PlainType) (e : ExprTree) (o : Option PlainType) → element_of (underlying w t) ≡ o →
    AreExactly (misfit_if w (place_of e) (value_kind (judge_value w locals e).meaning) o) (At (place_of e) (IsElementMisfit w locals t e))
slice_by w locals t e None h = nothing_at (place_of e) (λ c. none_some h (ap element_of c.slice))
slice_by w locals t e (Some u) h = fits_told w locals e (value_kind (judge_value w locals e).meaning) u refl (λ k a v n. record {
  type = u;
  slice = element_slice (underlying w t) u h;
  kind = k;
  addressable = a;
  means = v;
  is_none = n;
}) (λ c. (c.kind, c.addressable, c.means, λ f. c.is_none (subst (λ z. FitsType w c.kind z) (some_same (sym h ∙ ap element_of c.slice)) f)))

pub slice_told : (w : World) (locals : Locals) (t : PlainType) (e : ExprTree) →
    AreExactly (misfit_if w (place_of e) (value_kind (judge_value w locals e).meaning) (element_of (underlying w t))) (At (place_of e)
    (IsElementMisfit w locals t e))
slice_told w locals t e = slice_by w locals t e (element_of (underlying w t)) refl

key_struct : {w : World} {t : PlainType} {named : List ℕ} {key : ℕ} {s : Symbol} {u y : PlainType} → IsKey w t named key s u → underlying w t ≡ SliceOf y → ⊥
key_struct (of_field i m n) e = let c = sym i ∙ e in cc

abbrev Misfit : World → Locals → PlainType → List ℕ → ℕ → ExprTree → Type 0
Misfit w locals t named key e = IsFieldMisfit w locals t named key e ⊎ IsElementMisfit w locals t e

field_value : (w : World) (locals : Locals) (t : PlainType) (named : List ℕ) (key : ℕ) (e : ExprTree) {s : Symbol} {u : PlainType} → IsKey w t named key s u →
    Misfit w locals t named key e → (k : ValueKind) × (a : Bool) × HasMeaning w locals e (Value k a) × (FitsType w k u → ⊥)
field_value w locals t named key e f (inl c) = (
  c.kind,
  c.addressable,
  c.means,
  λ x. c.is_none (subst (λ z. FitsType w c.kind z) (type_in
      (one_field w t named key f c.is_key)) x),
)
field_value w locals t named key e f (inr c) = absurd (key_struct f c.slice)

behind_field_told : (w : World) (locals : Locals) (t : PlainType) (named : List ℕ) (key : ℕ) (e : ExprTree) {s : Symbol} {u : PlainType} →
    IsKey w t named key s u →
    AreExactly (misfit_if w (place_of e) (value_kind (judge_value w locals e).meaning) (Some u)) (At (place_of e) (Misfit w locals t named key e))
behind_field_told w locals t named key e {s} {u} f = fits_told w locals e (value_kind (judge_value w locals e).meaning) u refl (λ k a v n. inl (record {
  symbol = s;
  type = u;
  is_key = f;
  kind = k;
  addressable = a;
  means = v;
  is_none = n;
})) (λ c. field_value w locals t named key e f c)

no_field_misfit : {w : World} {locals : Locals} {t : PlainType} {named : List ℕ} {key : ℕ} {e : ExprTree} → NoField w t named key →
    Misfit w locals t named key e →
    IsElementMisfit w locals t e
no_field_misfit n (inl c) = absurd (n c.symbol c.type c.is_key)
no_field_misfit n (inr c) = c

behind_other_told : (w : World) (locals : Locals) (t : PlainType) (named : List ℕ) (key : ℕ) (e : ExprTree) → NoField w t named key →
    AreExactly (misfit_if w (place_of e) (value_kind (judge_value w locals e).meaning) (element_of (underlying w t))) (At (place_of e)
    (Misfit w locals t named key e))
behind_other_told w locals t named key e n = told_as (slice_told w locals t e) (λ p a. (a.0, inr a.1)) (λ p a. (a.0, no_field_misfit n a.1))

abbrev behind_key : World → Locals → PlainType → ExprTree → KeyMeaning → List ℕ
behind_key w locals t e k = misfit_if w (place_of e) (value_kind (judge_value w locals e).meaning) (wanted_after_key k (underlying w t))

pub misfit_told : (w : World) (locals : Locals) (t : PlainType) (named : List ℕ) (key : ℕ) (e : ExprTree) →
    AreExactly (behind_key w locals t e (key_at w (is_taken named) t key)) (At (place_of e) (Misfit w locals t named key e))
misfit_told w locals t named key e = elim (key_is w t named key) [
  | a_field f h ↦ subst (λ z. AreExactly (behind_key w locals t e z) (At (place_of e) (Misfit w locals t named key e))) (sym h)
      (behind_field_told w locals t named key e f)
  | a_broken_one n b h ↦ subst (λ z. AreExactly (behind_key w locals t e z) (At (place_of e) (Misfit w locals t named key e))) (sym h)
      (behind_other_told w locals t named key e n)
  | a_wrong_one n b h ↦ subst (λ z. AreExactly (behind_key w locals t e z) (At (place_of e) (Misfit w locals t named key e))) (sym h)
      (behind_other_told w locals t named key e n)
]

-- the elements after a key

pub data Behind (w : World) (locals : Locals) (t : PlainType) (named : List ℕ) (key : ℕ) (rest : ElementTrees) (p : ℕ) : Type 0 where
  behind_one : {s : Symbol} {u : PlainType} → IsKey w t named key s u → ElementsBreakAt w locals t (s.rank ∷ named) rest p → Behind w locals t named key rest p
  behind_none : NoField w t named key → ElementsBreakAt w locals t named rest p → Behind w locals t named key rest p

behind_same : {w : World} {locals : Locals} {t : PlainType} {named : List ℕ} {key : ℕ} {rest : ElementTrees} {p : ℕ} {s : Symbol} {u : PlainType} →
    IsKey w t named key s u →
    Behind w locals t named key rest p → ElementsBreakAt w locals t (s.rank ∷ named) rest p
behind_same {w} {locals} {t} {named} {key} {rest} {p} f (behind_one g b) = subst (λ z. ElementsBreakAt w locals t (z ∷ named) rest p)
    (rank_in (one_field w t named key g f)) b
behind_same {s = s} {u = u} f (behind_none n b) = absurd (n s u f)

behind_others : {w : World} {locals : Locals} {t : PlainType} {named : List ℕ} {key : ℕ} {rest : ElementTrees} {p : ℕ} → NoField w t named key →
    Behind w locals t named key rest p → ElementsBreakAt w locals t named rest p
behind_others n (behind_one {s} {u} g b) = absurd (n s u g)
behind_others n (behind_none m b) = b

pub behind_told : (w : World) (locals : Locals) (t : PlainType) (named : List ℕ) (key : ℕ) (rest : ElementTrees) → ((ranks : List ℕ) →
    AreExactly (judge_elements w locals (Some t) (is_taken ranks) rest).faults (ElementsBreakAt w locals t ranks rest)) →
    AreExactly (judge_elements w locals (Some t) (seen_with (key_at w (is_taken named) t key) (is_taken named)) rest).faults (Behind w locals t named key rest)
behind_told w locals t named key rest f = elim (key_is w t named key) [
  | a_field {s} g h ↦ subst (λ z. AreExactly (judge_elements w locals (Some t) (seen_with z (is_taken named)) rest).faults (Behind w locals t named key rest))
      (sym h)
      (told_as (f (s.rank ∷ named)) (λ p b. behind_one g b) (λ p b. behind_same g b))
  | a_broken_one n b h ↦ subst (λ z. AreExactly (judge_elements w locals (Some t) (seen_with z (is_taken named)) rest).faults (Behind w locals t named key
      rest))
      (sym h)
      (told_as (f named) (λ p x. behind_none n x) (λ p x. behind_others n x))
  | a_wrong_one n b h ↦ subst (λ z. AreExactly (judge_elements w locals (Some t) (seen_with z (is_taken named)) rest).faults (Behind w locals t named key rest))
      (sym h)
      (told_as (f named) (λ p x. behind_none n x) (λ p x. behind_others n x))
]

-- whole elements of a literal that is no slice

no_wanted : (w : World) (t : PlainType) → ((u : PlainType) → underlying w t ≡ SliceOf u → ⊥) → (o : Option PlainType) → element_of (underlying w t) ≡ o →
    o ≡ None
no_wanted w t n None e = refl
no_wanted w t n (Some u) e = absurd (n u (element_slice (underlying w t) u e))

value_silent : (w : World) (t : PlainType) (place : ℕ) (k : ValueKind) → ((u : PlainType) → underlying w t ≡ SliceOf u → ⊥) →
    misfit_if w place (Some k) (element_of (underlying w t)) ≡ []
value_silent w t place k n = ap (λ z. misfit_if w place (Some k) z) (no_wanted w t n (element_of (underlying w t)) refl)

abbrev element_as : World → Locals → PlainType → List ℕ → ℕ × ℕ → ExprTree → ElementTrees → KeyMeaning → JudgedElements
element_as w locals t named key e rest z = with_element w (judge_key w t key.0 z) (place_of e) (judge_value w locals e)
    (judge_elements w locals (Some t) (seen_with z (is_taken named)) rest)

pub elements_whole : (w : World) (locals : Locals) {t : PlainType} {named : List ℕ} {es : ElementTrees} → ((u : PlainType) → underlying w t ≡ SliceOf u → ⊥) →
    AreWhole w locals t named es → IsWholeElement (judge_elements w locals (Some t) (is_taken named) es)
unfolding judge
elements_whole w locals n no_element_left = record { whole = refl; faultless = refl }
elements_whole w locals {t} {named} n (whole_value {e = e} {rest = rest} {k = k} v more) = element_whole w (unkeyed_key w t) (place_of e) refl refl
    (value_true w locals e v) (value_silent w t (place_of e) k n) (elements_whole w locals n more)
elements_whole w locals {t} {named} n (whole_field {key = key} {e = e} {rest = rest} {s = s} {u = u} {k = k} f v fit more) = subst (λ z. IsWholeElement
    (element_as w locals t named key e rest z)) (sym (field_found w t named key.0 f)) (element_whole w (judge_key w t key.0 (FieldKey s.rank u))
    (place_of e) refl refl
    (value_true w locals e v) (fit_silent w (place_of e) refl fit) (elements_whole w locals n more))

pub whole_elements : (w : World) (locals : Locals) (t : PlainType) (named : List ℕ) (es : ElementTrees) →
    (judge_elements w locals (Some t) (is_taken named) es).whole ≡ true → AreWhole w locals t named es
unfolding judge
whole_elements w locals t named tree.no_element h = no_element_left
whole_elements w locals t named (tree.element None e c rest) h = let x = whole_element w (unkeyed_key w t) (place_of e) (judge_value w locals e)
    (judge_elements w locals (Some t) (is_taken named) rest) h in
    whole_value (has_value (λ q. complete w locals e q) (value_was (place_of e) (judge w locals e).meaning x.value))
    (whole_elements w locals t named rest x.others)
whole_elements w locals t named (tree.element (Some key) e c rest) h = let x = whole_element w (judge_key w t key.0 (key_at w (is_taken named) t key.0))
    (place_of e)
    (judge_value w locals e) (judge_elements w locals (Some t) (seen_with (key_at w (is_taken named) t key.0) (is_taken named)) rest) h in
    elim (key_is w t named key.0) [
      | a_field {s} {u} f g ↦ whole_field f (has_value (λ q. complete w locals e q) (value_was (place_of e) (judge w locals e).meaning x.value))
          (silent_fit w (place_of e) (Some x.kind) x.kind u refl (ap (λ z. misfit_if w (place_of e) (Some x.kind) (wanted_after_key z (underlying w t)))
          (sym g) ∙ x.silent))
          (whole_elements w locals t (s.rank ∷ named) rest (ap (λ z. (judge_elements w locals (Some t) (seen_with z (is_taken named)) rest).whole) (sym g)
          ∙ x.others))
      | a_broken_one n b g ↦ absurd (true≢false (sym x.key ∙ ap is_whole_key g))
      | a_wrong_one n b g ↦ absurd (true≢false (sym x.key ∙ ap is_whole_key g))
    ]

pub has_unkeyed : (w : World) (locals : Locals) (t : PlainType) (seen : Seen) (es : ElementTrees) →
    (judge_elements w locals (Some t) seen es).unkeyed ≡ true → HasUnkeyed es
unfolding judge
has_unkeyed w locals t seen tree.no_element h = absurd (true≢false (sym h))
has_unkeyed w locals t seen (tree.element None e c rest) h = this_unkeyed
has_unkeyed w locals t seen (tree.element (Some key) e c rest) h = other_unkeyed (has_unkeyed w locals t (seen_with (key_at w seen t key.0) seen) rest h)

pub unkeyed_is : (w : World) (locals : Locals) (t : PlainType) (seen : Seen) {es : ElementTrees} → HasUnkeyed es →
    (judge_elements w locals (Some t) seen es).unkeyed ≡ true
unfolding judge
unkeyed_is w locals t seen this_unkeyed = refl
unkeyed_is w locals t seen (other_unkeyed {key = None} h) = refl
unkeyed_is w locals t seen (other_unkeyed {key = Some key} h) = unkeyed_is w locals t (seen_with (key_at w seen t key.0) seen) h
