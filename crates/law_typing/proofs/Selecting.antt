-- The judgement of selectors and index expressions agrees with the rules.
use Rattle.std.proofs.Common.{ℕ, ◌≡◌, Bool, true, false, ◌||◌, List, [], ◌∷◌, Option, Some, None, refl, sym, ap, ◌∙◌, if◌then◌else◌, option_map}
use Rattle.types_expr.specs.declared.types.Basic.TheVariants as basic
use Rattle.types_expr.specs.declared.symbol.Symbol.{Symbol}
use Rattle.types_expr.specs.Types.{PlainType, BasicType, Defined, Pointer, Slice, Underlying, Plain}
use Rattle.types_expr.specs.Types.{PointerTo, SliceOf, Struct, Interface, ValueKind, Typed, Untyped, Nil}
use Rattle.types_expr.specs.Types.{Signature, Meaning, Value, TypeName, Function, BuiltinName, Package, Results, Broken, points, is_pointer, element_of}
use Rattle.types_expr.specs.Types.{AFieldOf, AMethodOf}
use Rattle.types_expr.specs.World.{World, Locals, Member, AField, AMethod, ABrokenMethod, member_symbol, underlying}
use Rattle.types_expr.specs.Operations.{class_of, is_int, element_of_kind}
use Rattle.types_expr.specs.Judge.{means, means_or_wrong, member_meaning, select, select_member, as_value, value_kind, is_whole, bad_index, indexed, index_of}
use Rattle.types_expr.specs.Judge.{element_meaning}
use Rattle.law_typing.specs.Operators.{IsBasic}
use Rattle.law_typing.specs.Names.{IsNotBroken}
use Rattle.law_typing.specs.Links.{SelectsMember, field, field_through_pointer, asked, method, method_on_pointer, method_on_variable, of_package, Indexes}
use Rattle.law_typing.specs.Links.{element}
use Rattle.law_typing.specs.IsJudgedAs.{IsJudgedAs}
use Rattle.law_typing.proofs.Judgements.{value_whole, function_whole, agrees_as, means_it, used_agrees, chosen_agrees}
use Rattle.law_typing.proofs.Naming.{name_true, name_whole, true_name}
use Rattle.law_typing.proofs.Classes.{class_true, is_of_int}

-- selectors

no_pointer : (u : Underlying) → ((target : PlainType) → u ≡ PointerTo target → ⊥) → points u ≡ false
no_pointer (PointerTo t) n = absurd (n t refl)
no_pointer (Plain b) n = refl
no_pointer (SliceOf t) n = refl
no_pointer (Struct s) n = refl
no_pointer (Interface s) n = refl

abbrev found : World → PlainType → Bool → Option Member → Option Meaning
found w t a m = member_meaning w t a m

found_member : (w : World) (t : PlainType) (a : Bool) (name : ℕ) {m : Member} {r : Meaning} → w.member name t ≡ Some m → found w t a (Some m) ≡ Some r →
    found w t a (w.member name t) ≡ Some r
found_member w t a name e f = ap (found w t a) e ∙ f

selected : (w : World) (t : PlainType) (a : Bool) (name : ℕ) {r : Meaning} → found w t a (w.member name t) ≡ Some r → IsNotBroken r →
    IsJudgedAs (select_member w name t a) r
unfolding select_member
selected w t a name e n = used_agrees (record { place = name; before = t; member = option_map member_symbol (w.member name t) }) (chosen_agrees name e n)

pub selects_true : (w : World) (locals : Locals) (place : ℕ) {m r : Meaning} {name : ℕ} → SelectsMember w locals m name r →
    IsJudgedAs (select w locals place name m) r
unfolding select
selects_true w locals place {name = name} (field {t} {u} {a} {s = s} e n) =
    selected w t a name (found_member w t a name e (ap (λ b. Some (Value (Typed u) (b || a))) (no_pointer (underlying w t) n))) value_whole
selects_true w locals place {name = name} (field_through_pointer {t} {u} {a = a} {s = s} e p) =
    selected w t a name (found_member w t a name e (ap (λ x. Some (Value (Typed u) (points x || a))) p)) value_whole
selects_true w locals place {name = name} (asked {t} {a} e) = selected w t a name (found_member w t a name e refl) function_whole
selects_true w locals place {name = name} (method {t} {a} e) = selected w t a name (found_member w t a name e refl) function_whole
selects_true w locals place {name = name} (method_on_pointer {t} {a} e) =
    selected w (Pointer t) a name (found_member w (Pointer t) a name e refl) function_whole
selects_true w locals place {name = name} (method_on_variable {t} {s = s} {signature = g} e) =
    selected w t true name (found_member w t true name e (ap (λ b. if b then Some (Function g) else None) (or_true (is_pointer t)))) function_whole
  where
    or_true : (b : Bool) → (b || true) ≡ true
    or_true true = refl
    or_true false = refl
selects_true w locals place (of_package h) = agrees_as (ap means (name_true w locals h)) (means_it (name_whole w locals h))

field_of : (w : World) (locals : Locals) (t u : PlainType) (a : Bool) (name : ℕ) (s : Symbol) → w.member name t ≡ Some (AField s (AFieldOf u)) →
    (v : Underlying) →
    underlying w t ≡ v →
    SelectsMember w locals (Value (Typed t) a) name (Value (Typed u) (points v || a))
field_of w locals t u a name s e (PointerTo x) f = field_through_pointer e f
field_of w locals t u a name s e (Plain b) f = field e (λ x p. let c : Plain b ≡ PointerTo x = sym f ∙ p in cc)
field_of w locals t u a name s e (SliceOf y) f = field e (λ x p. let c : SliceOf y ≡ PointerTo x = sym f ∙ p in cc)
field_of w locals t u a name s e (Struct y) f = field e (λ x p. let c : Struct y ≡ PointerTo x = sym f ∙ p in cc)
field_of w locals t u a name s e (Interface y) f = field e (λ x p. let c : Interface y ≡ PointerTo x = sym f ∙ p in cc)

abbrev on_variable : Bool → Signature → Option Meaning
on_variable b g = if b then Some (Function g) else None

of_variable : (w : World) (locals : Locals) (t : PlainType) (name : ℕ) (s : Symbol) (g : Signature) (a : Bool) → w.member name t ≡ Some (AMethod s true g) →
    IsNotBroken (means_or_wrong (on_variable a g) name).meaning → SelectsMember w locals (Value (Typed t) a) name (means_or_wrong (on_variable a g)
    name).meaning
of_variable w locals t name s g true e n = method_on_variable e
of_variable w locals t name s g false e n = absurd (n refl)

pointer_method : (w : World) (locals : Locals) (t : PlainType) (name : ℕ) (s : Symbol) (g : Signature) (a : Bool) → w.member name t ≡ Some (AMethod s true g) →
    IsNotBroken (means_or_wrong (on_variable (is_pointer t || a) g) name).meaning →
    SelectsMember w locals (Value (Typed t) a) name (means_or_wrong (on_variable (is_pointer t || a) g) name).meaning
pointer_method w locals (Pointer t) name s g a e n = method_on_pointer e
pointer_method w locals (BasicType b) name s g a e n = of_variable w locals (BasicType b) name s g a e n
pointer_method w locals (Defined d) name s g a e n = of_variable w locals (Defined d) name s g a e n
pointer_method w locals (Slice t) name s g a e n = of_variable w locals (Slice t) name s g a e n

member_selected : (w : World) (locals : Locals) (t : PlainType) (a : Bool) (name : ℕ) (o : Option Member) → w.member name t ≡ o →
    IsNotBroken (means_or_wrong (found w t a o) name).meaning → SelectsMember w locals (Value (Typed t) a) name (means_or_wrong (found w t a o) name).meaning
member_selected w locals t a name None e n = absurd (n refl)
member_selected w locals t a name (Some (AField s (AFieldOf u))) e n = field_of w locals t u a name s e (underlying w t) refl
member_selected w locals t a name (Some (AField s (AMethodOf g))) e n = asked e
member_selected w locals t a name (Some (AMethod s true g)) e n = pointer_method w locals t name s g a e n
member_selected w locals t a name (Some (AMethod s false g)) e n = method e
member_selected w locals t a name (Some (ABrokenMethod s)) e n = absurd (n refl)

pub true_selects : (w : World) (locals : Locals) (place name : ℕ) (m : Meaning) → IsNotBroken (select w locals place name m).meaning → IsNotBroken m ×
    SelectsMember w locals m name (select w locals place name m).meaning
unfolding select select_member
true_selects w locals place name (Value (Typed t) a) n = (value_whole, member_selected w locals t a name (w.member name t) refl n)
true_selects w locals place name (Value (Untyped b) a) n = absurd (n refl)
true_selects w locals place name (Value Nil a) n = absurd (n refl)
true_selects w locals place name Package n = (λ h. cc, of_package (true_name w locals name n))
true_selects w locals place name (TypeName t) n = absurd (n refl)
true_selects w locals place name (Function s) n = absurd (n refl)
true_selects w locals place name (BuiltinName b) n = absurd (n refl)
true_selects w locals place name (Results ts) n = absurd (n refl)
true_selects w locals place name Broken n = absurd (n refl)

-- indexes

pub indexes_true : (w : World) (start place : ℕ) {m r : Meaning} {k : ValueKind} (a : Bool) → Indexes w m k r →
    IsJudgedAs (index_of w start place m (Value k a)) r
unfolding index_of bad_index value_kind indexed
indexes_true w start place a (element {t} {u} {a = b} e j) = agrees_as
    (ap (λ (x : Bool). indexed w start (if x then [] else place ∷ []) true (Value (Typed t) b)) (ap is_int (class_true w j)) ∙
    ap (λ x. element_meaning (element_of x) start) e)
    (means_it value_whole)

broken_operand : (w : World) (start : ℕ) (faults : List ℕ) (b : Bool) → (indexed w start faults b Broken).meaning ≡ Broken
unfolding indexed
broken_operand w start [] true = refl
broken_operand w start [] false = refl
broken_operand w start (x ∷ xs) b = refl

element_found : (w : World) (start : ℕ) (t : PlainType) (a : Bool) (k : ValueKind) → IsBasic w k basic.Int → (u : Underlying) → underlying w t ≡ u →
    IsNotBroken (element_meaning (element_of u) start).meaning →
    Indexes w (Value (Typed t) a) k (element_meaning (element_of u) start).meaning
element_found w start t a k j (SliceOf x) e n = element e j
element_found w start t a k j (Plain b) e n = absurd (n refl)
element_found w start t a k j (PointerTo x) e n = absurd (n refl)
element_found w start t a k j (Struct s) e n = absurd (n refl)
element_found w start t a k j (Interface s) e n = absurd (n refl)

value_indexed : (w : World) (start : ℕ) (s k : ValueKind) (a : Bool) → IsBasic w k basic.Int → IsNotBroken (element_meaning (element_of_kind w s)
    start).meaning →
    Indexes w (Value s a) k (element_meaning (element_of_kind w s) start).meaning
value_indexed w start (Typed t) k a j n = element_found w start t a k j (underlying w t) refl n
value_indexed w start (Untyped b) k a j n = absurd (n refl)
value_indexed w start Nil k a j n = absurd (n refl)

by_int : (w : World) (start place : ℕ) (s k : ValueKind) (a : Bool) (b : Bool) → is_int (class_of w k) ≡ b →
    IsNotBroken (indexed w start (if b then [] else place ∷ []) true (Value s a)).meaning →
    Indexes w (Value s a) k (indexed w start (if b then [] else place ∷ []) true (Value s a)).meaning
unfolding indexed
by_int w start place s k a true e n = value_indexed w start s k a (is_of_int w k e) n
by_int w start place s k a false e n = absurd (n refl)

-- an index that means i, of an operand that means m
pub true_indexes : (w : World) (start here place : ℕ) (m i : Meaning) → IsNotBroken (index_of w start place (as_value here m).meaning i).meaning →
    (k : ValueKind) × (a : Bool) × (i ≡ Value k a) × Indexes w m k (index_of w start place (as_value here m).meaning i).meaning
unfolding index_of bad_index value_kind as_value indexed
true_indexes w start here place (Value s b) (Value k a) n = (k, a, refl, by_int w start place s k b (is_int (class_of w k)) refl n)
true_indexes w start here place (Value s b) (TypeName t) n = absurd (n refl)
true_indexes w start here place (Value s b) (Function g) n = absurd (n refl)
true_indexes w start here place (Value s b) (BuiltinName x) n = absurd (n refl)
true_indexes w start here place (Value s b) Package n = absurd (n refl)
true_indexes w start here place (Value s b) (Results ts) n = absurd (n refl)
true_indexes w start here place (Value s b) Broken n = absurd (n refl)
true_indexes w start here place (TypeName t) i n = absurd (n (broken_operand w start (bad_index w place (value_kind i)) (is_whole (value_kind i))))
true_indexes w start here place (Function g) i n = absurd (n (broken_operand w start (bad_index w place (value_kind i)) (is_whole (value_kind i))))
true_indexes w start here place (BuiltinName x) i n = absurd (n (broken_operand w start (bad_index w place (value_kind i)) (is_whole (value_kind i))))
true_indexes w start here place Package i n = absurd (n (broken_operand w start (bad_index w place (value_kind i)) (is_whole (value_kind i))))
true_indexes w start here place (Results ts) i n = absurd (n (broken_operand w start (bad_index w place (value_kind i)) (is_whole (value_kind i))))
true_indexes w start here place Broken i n = absurd (n (broken_operand w start (bad_index w place (value_kind i)) (is_whole (value_kind i))))
