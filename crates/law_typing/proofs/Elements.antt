-- The judgement of the elements of literals agrees with the rules.
use Rattle.std.proofs.Common.{ℕ, ◌≡◌, ◌==◌, Bool, true, false, ◌&&◌, ◌||◌, List, [], ◌∷◌, ◌++◌, Option, Some, None, refl, sym, ap, ◌∙◌, true≢false}
use Rattle.std.proofs.Common.{if◌then◌else◌, eq-eqb, eqb-true}
use Rattle.go_ast.specs.Tree.{TypeTree, ElementTrees}
use Rattle.go_ast.specs.Tree as tree
use Rattle.types_expr.specs.declared.types.Basic.{Basic}
use Rattle.types_expr.specs.declared.symbol.Symbol.{Symbol}
use Rattle.types_expr.specs.Types.{PlainType, Underlying, Plain, PointerTo, SliceOf, Struct, Interface, ValueKind, Typed, Meaning, Value, Broken}
use Rattle.types_expr.specs.Types.{AFieldOf, AMethodOf}
use Rattle.types_expr.specs.World.{World, Locals, Member, AField, AMethod, ABrokenMethod, underlying}
use Rattle.types_expr.specs.Judge.{Judged, JudgedKey, JudgedElements, TypeJudged, Seen, KeyMeaning}
use Rattle.types_expr.specs.Judge.{FieldKey, WrongKey, is_whole, is_empty, is_whole_key, key_in}
use Rattle.types_expr.specs.Judge.{key_of_member, value_kind, misfit_if, with_element, means, judge_type, judge_elements, good_type, none_seen, literal_of}
use Rattle.types_expr.specs.Judge.{literal_meaning, literal_result}
use Rattle.law_typing.specs.Names.{IsNotBroken, IsType}
use Rattle.law_typing.specs.Meanings.{IsNew, first, after, IsLiteralOf, struct_literal, slice_literal, AreFields, AreElements}
use Rattle.law_typing.specs.IsJudgedAs.{IsJudgedAs}
use Rattle.law_typing.proofs.Tests.{and_first, and_second, and_both, or_none}
use Rattle.law_typing.proofs.Judgements.{value_whole, agrees_as, kind_known, known_kind, empty_both}
use Rattle.law_typing.proofs.Naming.{true_type}
use Rattle.law_typing.proofs.Arguments.{whole_kind}

-- the ranks that earlier keys named

abbrev pub is_taken : List ℕ → Seen
is_taken [] = λ rank. false
is_taken (x ∷ xs) = λ rank. rank == x || is_taken xs rank

other_number : (a b : ℕ) (t : Bool) → (a == b) ≡ t → (a ≡ b → ⊥) → t ≡ false
other_number a b true e n = absurd (n (eqb-true a b e))
other_number a b false e n = refl

pub new_free : (rank : ℕ) {named : List ℕ} → IsNew rank named → is_taken named rank ≡ false
new_free rank first = refl
new_free rank (after {other} {others} n more) = ap (λ b. b || is_taken others rank) (other_number rank other (rank == other) refl n) ∙ new_free rank more

pub free_new : (rank : ℕ) (named : List ℕ) → is_taken named rank ≡ false → IsNew rank named
free_new rank [] h = first
free_new rank (x ∷ xs) h = let p = or_none (rank == x) (is_taken xs rank) h in after (λ e. true≢false (sym (eq-eqb rank x e) ∙ p.0)) (free_new rank xs p.1)

-- keys

pub field_key : {u : Underlying} {m : Option Member} (seen : Seen) {x s : Symbol} {t : PlainType} → u ≡ Struct x → m ≡ Some (AField s (AFieldOf t)) →
    seen s.rank ≡ false → key_in u seen m ≡ FieldKey s.rank t
field_key {u} {m} seen {x} {s} {t} e f n = ap (λ z. key_in z seen m) e ∙ (ap (key_of_member seen) f ∙ ap (λ b. if b then WrongKey else FieldKey s.rank t) n)

-- the key k is whole: it names a field that no earlier key named
pub record IsFieldKey (u : Underlying) (seen : Seen) (m : Option Member) (k : KeyMeaning) : Type 0 where
  pub owner : Symbol
  pub symbol : Symbol
  pub type_of : PlainType
  pub is_struct : u ≡ Struct owner
  pub is_field : m ≡ Some (AField symbol (AFieldOf type_of))
  pub is_free : seen symbol.rank ≡ false
  pub is_key : k ≡ FieldKey symbol.rank type_of

free_key : (x s : Symbol) (t : PlainType) (seen : Seen) (b : Bool) → seen s.rank ≡ b → is_whole_key (if b then WrongKey else FieldKey s.rank t) ≡ true →
    IsFieldKey (Struct x) seen (Some (AField s (AFieldOf t))) (if b then WrongKey else FieldKey s.rank t)
free_key x s t seen true e h = absurd (true≢false (sym h))
free_key x s t seen false e h = record { owner = x; symbol = s; type_of = t; is_struct = refl; is_field = refl; is_free = e; is_key = refl }

struct_key : (x : Symbol) (seen : Seen) (m : Option Member) → is_whole_key (key_of_member seen m) ≡ true → IsFieldKey (Struct x) seen m (key_of_member seen m)
struct_key x seen (Some (AField s (AFieldOf t))) h = free_key x s t seen (seen s.rank) refl h
struct_key x seen (Some (AField s (AMethodOf g))) h = absurd (true≢false (sym h))
struct_key x seen (Some (AMethod s b g)) h = absurd (true≢false (sym h))
struct_key x seen (Some (ABrokenMethod s)) h = absurd (true≢false (sym h))
struct_key x seen None h = absurd (true≢false (sym h))

pub whole_key : (u : Underlying) (seen : Seen) (m : Option Member) → is_whole_key (key_in u seen m) ≡ true → IsFieldKey u seen m (key_in u seen m)
whole_key (Struct x) seen m h = struct_key x seen m h
whole_key (Plain b) seen m h = absurd (true≢false (sym h))
whole_key (PointerTo t) seen m h = absurd (true≢false (sym h))
whole_key (SliceOf t) seen m h = absurd (true≢false (sym h))
whole_key (Interface s) seen m h = absurd (true≢false (sym h))

-- one element

pub record IsWholeElement (j : JudgedElements) : Type 0 where
  pub whole : j.whole ≡ true
  pub faultless : j.faults ≡ []

pub element_whole : (w : World) (k : JudgedKey) (place : ℕ) {j : Judged} {rest : JudgedElements} {l : ValueKind} {a : Bool} → k.whole ≡ true → k.faults ≡ [] →
    IsJudgedAs j (Value l a) →
    misfit_if w place (Some l) k.wanted ≡ [] → IsWholeElement rest → IsWholeElement (with_element w k place j rest)
element_whole w k place {j} {rest} {l} {a} kw kf v m r =
    let known : value_kind j.meaning ≡ Some l = kind_known v.meaning in
    let silent : misfit_if w place (value_kind j.meaning) k.wanted ≡ [] = ap (λ o. misfit_if w place o k.wanted) known ∙ m in
    record {
      whole = and_both k.whole (is_whole (value_kind j.meaning) && (is_empty (misfit_if w place (value_kind j.meaning) k.wanted) && rest.whole)) kw
          (and_both (is_whole (value_kind j.meaning)) (is_empty (misfit_if w place (value_kind j.meaning) k.wanted) && rest.whole) (ap is_whole known)
          (and_both (is_empty (misfit_if w place (value_kind j.meaning) k.wanted)) rest.whole (ap is_empty silent) r.whole));
      faultless = empty_both k.faults (j.faults ++ (misfit_if w place (value_kind j.meaning) k.wanted ++ rest.faults)) kf
          (empty_both j.faults (misfit_if w place (value_kind j.meaning) k.wanted ++ rest.faults) v.faultless
          (empty_both (misfit_if w place (value_kind j.meaning) k.wanted) rest.faults silent r.faultless));
    }

empty_is : (xs : List ℕ) → is_empty xs ≡ true → xs ≡ []
empty_is [] h = refl
empty_is (x ∷ xs) h = absurd (true≢false (sym h))

-- an element is whole: its key is, its value fits, and the other elements are whole
pub record IsElement (w : World) (k : JudgedKey) (place : ℕ) (j : Judged) (rest : JudgedElements) : Type 0 where
  pub key : k.whole ≡ true
  pub kind : ValueKind
  pub addressable : Bool
  pub value : j.meaning ≡ Value kind addressable
  pub silent : misfit_if w place (Some kind) k.wanted ≡ []
  pub others : rest.whole ≡ true

pub whole_element : (w : World) (k : JudgedKey) (place : ℕ) (j : Judged) (rest : JudgedElements) → (with_element w k place j rest).whole ≡ true →
    IsElement w k place j rest
whole_element w k place j rest h =
    let h1 = and_second k.whole (is_whole (value_kind j.meaning) && (is_empty (misfit_if w place (value_kind j.meaning) k.wanted) && rest.whole)) h in
    let h2 = and_second (is_whole (value_kind j.meaning)) (is_empty (misfit_if w place (value_kind j.meaning) k.wanted) && rest.whole) h1 in
    let known = whole_kind (value_kind j.meaning) (and_first (is_whole (value_kind j.meaning))
    (is_empty (misfit_if w place (value_kind j.meaning) k.wanted) && rest.whole) h1) in
    let value = known_kind j.meaning known.0 known.1 in
    record {
      key = and_first k.whole (is_whole (value_kind j.meaning) && (is_empty (misfit_if w place (value_kind j.meaning) k.wanted) && rest.whole)) h;
      kind = known.0;
      addressable = value.0;
      value = value.1;
      silent = ap (λ o. misfit_if w place o k.wanted) (sym known.1) ∙
          empty_is (misfit_if w place (value_kind j.meaning) k.wanted) (and_first (is_empty (misfit_if w place (value_kind j.meaning) k.wanted)) rest.whole h2);
      others = and_second (is_empty (misfit_if w place (value_kind j.meaning) k.wanted)) rest.whole h2;
    }

-- literals

pub literal_agrees : (w : World) (start : ℕ) (rest : TypeJudged → JudgedElements) {j : TypeJudged} {t : PlainType} → j ≡ good_type t →
    (rest (good_type t)).faults ≡ [] →
    literal_meaning w start (Some t) (rest (good_type t)).whole (rest (good_type t)).unkeyed ≡ means (Value (Typed t) false) →
    IsJudgedAs (literal_of w start j (rest j)) (Value (Typed t) false)
literal_agrees w start rest {j} {t} e f m = agrees_as (ap (λ z. literal_of w start z (rest z)) e) (record {
  meaning = ap (λ z. z.meaning) m;
  faultless = empty_both (rest (good_type t)).faults (literal_meaning w start (Some t) (rest (good_type t)).whole (rest (good_type t)).unkeyed).faults f
      (ap (λ z. z.faults) m);
  whole = value_whole;
})

pub struct_ends : (w : World) (start : ℕ) (t : PlainType) {s : Symbol} {whole unkeyed : Bool} → underlying w t ≡ Struct s → whole ≡ true → unkeyed ≡ false →
    literal_meaning w start (Some t) whole unkeyed ≡ means (Value (Typed t) false)
struct_ends w start t {s} {whole} {unkeyed} e h n = ap (λ u. literal_result start t u whole unkeyed) e ∙
    (ap (λ b. literal_result start t (Struct s) b unkeyed) h ∙ ap (λ b. literal_result start t (Struct s) true b) n)

pub slice_ends : (w : World) (start : ℕ) (t : PlainType) {u : PlainType} {whole : Bool} (unkeyed : Bool) → underlying w t ≡ SliceOf u → whole ≡ true →
    literal_meaning w start (Some t) whole unkeyed ≡ means (Value (Typed t) false)
slice_ends w start t {u} {whole} unkeyed e h = ap (λ z. literal_result start t z whole unkeyed) e ∙ ap (λ b. literal_result start t (SliceOf u) b unkeyed) h

-- from the judgement to the rules

-- the literal is one of a type by the rules, and m is the meaning of a value of this type
pub record IsLiteralFound (w : World) (locals : Locals) (l : tree.LiteralTree) (m : Meaning) : Type 0 where
  pub type_of : PlainType
  pub is_literal : IsLiteralOf w locals l type_of
  pub found : m ≡ Value (Typed type_of) false

abbrev pub FieldsOf : World → Locals → ElementTrees → PlainType → Type 0
FieldsOf w locals es t = (s : Symbol) → underlying w t ≡ Struct s → (judge_elements w locals (Some t) none_seen es).whole ≡ true →
    (judge_elements w locals (Some t) none_seen es).unkeyed ≡ false →
    AreFields w locals t [] es

abbrev pub ElementsOf : World → Locals → ElementTrees → PlainType → Type 0
ElementsOf w locals es t = (u : PlainType) → underlying w t ≡ SliceOf u → (judge_elements w locals (Some t) none_seen es).whole ≡ true →
    AreElements w locals u es

struct_found : (w : World) (locals : Locals) (x : TypeTree) (o : ℕ) (es : ElementTrees) (c start : ℕ) (t : PlainType) (s : Symbol) (whole unkeyed : Bool) →
    IsType w x t → underlying w t ≡ Struct s →
    IsNotBroken (literal_result start t (Struct s) whole unkeyed).meaning → (whole ≡ true → unkeyed ≡ false → AreFields w locals t [] es) →
    IsLiteralFound w locals (tree.literal x o es c) (literal_result start t (Struct s) whole unkeyed).meaning
struct_found w locals x o es c start t s true false h e n f = record { type_of = t; is_literal = struct_literal h e (f refl refl); found = refl }
struct_found w locals x o es c start t s true true h e n f = absurd (n refl)
struct_found w locals x o es c start t s false unkeyed h e n f = absurd (n refl)

slice_found : (w : World) (locals : Locals) (x : TypeTree) (o : ℕ) (es : ElementTrees) (c start : ℕ) (t u : PlainType) (whole unkeyed : Bool) →
    IsType w x t → underlying w t ≡ SliceOf u →
    IsNotBroken (literal_result start t (SliceOf u) whole unkeyed).meaning → (whole ≡ true → AreElements w locals u es) →
    IsLiteralFound w locals (tree.literal x o es c) (literal_result start t (SliceOf u) whole unkeyed).meaning
slice_found w locals x o es c start t u true unkeyed h e n f = record { type_of = t; is_literal = slice_literal h e (f refl); found = refl }
slice_found w locals x o es c start t u false unkeyed h e n f = absurd (n refl)

plain_ends : (start : ℕ) (t : PlainType) (b : Basic) (whole unkeyed : Bool) → (literal_result start t (Plain b) whole unkeyed).meaning ≡ Broken
plain_ends start t b true unkeyed = refl
plain_ends start t b false unkeyed = refl

pointer_ends : (start : ℕ) (t u : PlainType) (whole unkeyed : Bool) → (literal_result start t (PointerTo u) whole unkeyed).meaning ≡ Broken
pointer_ends start t u true unkeyed = refl
pointer_ends start t u false unkeyed = refl

interface_ends : (start : ℕ) (t : PlainType) (s : Symbol) (whole unkeyed : Bool) → (literal_result start t (Interface s) whole unkeyed).meaning ≡ Broken
interface_ends start t s true unkeyed = refl
interface_ends start t s false unkeyed = refl

by_underlying : (w : World) (locals : Locals) (x : TypeTree) (o : ℕ) (es : ElementTrees) (c start : ℕ) (t : PlainType) (whole unkeyed : Bool)
    (v : Underlying) → IsType w x t → underlying w t ≡ v →
    IsNotBroken (literal_result start t v whole unkeyed).meaning →
    ((s : Symbol) → underlying w t ≡ Struct s → whole ≡ true → unkeyed ≡ false → AreFields w locals t [] es) →
    ((u : PlainType) → underlying w t ≡ SliceOf u → whole ≡ true → AreElements w locals u es) →
    IsLiteralFound w locals (tree.literal x o es c) (literal_result start t v whole unkeyed).meaning
by_underlying w locals x o es c start t whole unkeyed (Struct s) h e n f g = struct_found w locals x o es c start t s whole unkeyed h e n (f s e)
by_underlying w locals x o es c start t whole unkeyed (SliceOf u) h e n f g = slice_found w locals x o es c start t u whole unkeyed h e n (g u e)
by_underlying w locals x o es c start t whole unkeyed (Plain b) h e n f g = absurd (n (plain_ends start t b whole unkeyed))
by_underlying w locals x o es c start t whole unkeyed (PointerTo u) h e n f g = absurd (n (pointer_ends start t u whole unkeyed))
by_underlying w locals x o es c start t whole unkeyed (Interface s) h e n f g = absurd (n (interface_ends start t s whole unkeyed))

pub literal_found : (w : World) (locals : Locals) (x : TypeTree) (o : ℕ) (es : ElementTrees) (c start : ℕ) (type_of : Option PlainType) →
    (judge_type w x).type_of ≡ type_of →
    IsNotBroken (literal_meaning w start type_of (judge_elements w locals type_of none_seen es).whole
    (judge_elements w locals type_of none_seen es).unkeyed).meaning →
    ((t : PlainType) → FieldsOf w locals es t) → ((t : PlainType) → ElementsOf w locals es t) →
    IsLiteralFound w locals (tree.literal x o es c) (literal_meaning w start type_of (judge_elements w locals type_of none_seen es).whole
    (judge_elements w locals type_of none_seen es).unkeyed).meaning
literal_found w locals x o es c start None e n f g = absurd (n refl)
literal_found w locals x o es c start (Some t) e n f g =
    by_underlying w locals x o es c start t (judge_elements w locals (Some t) none_seen es).whole (judge_elements w locals (Some t) none_seen es).unkeyed
    (underlying w t) (true_type w x t e) refl n (f t) (g t)
