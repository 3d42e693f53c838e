-- Each rule that whole parts break is a fault.
use Rattle.std.proofs.Common.{ℕ, ◌≡◌, ◌==◌, Bool, true, false, ◌&&◌, ◌||◌, ◌⊎◌, inl, inr, List, [], ◌∷◌, ◌++◌, length, Option, Some, None, option_map, refl}
use Rattle.std.proofs.Common.{sym, ap, ◌∙◌, subst, true≢false, if◌then◌else◌}
use Rattle.go_ast.specs.declared.syntax.BinaryOp.{BinaryOp}
use Rattle.go_ast.specs.declared.syntax.PrefixOp.{PrefixOp}
use Rattle.go_ast.specs.Tree.{TypeTree}
use Rattle.go_ast.specs.Tree as tree
use Rattle.types_expr.specs.declared.types.Basic.TheVariants as basic
use Rattle.types_expr.specs.declared.types.Builtin.{Builtin}
use Rattle.types_expr.specs.declared.types.Builtin.TheVariants as builtin
use Rattle.types_expr.specs.declared.symbol.Symbol.{Symbol}
use Rattle.types_expr.specs.Types.{PlainType, BasicType, Pointer, Slice, Underlying, Plain, PointerTo}
use Rattle.types_expr.specs.Types.{SliceOf, Struct, Interface, ValueKind, Typed, Untyped, Nil, Signature}
use Rattle.types_expr.specs.Types.{Meaning, Value, TypeName, Function, BuiltinName, Package, Results, Broken, is_pointer, AFieldOf, AMethodOf}
use Rattle.types_expr.specs.World.{World, Locals, Bound, Local, Means, BrokenVariable, BrokenFunction, BrokenType, Member, AField, AMethod, ABrokenMethod}
use Rattle.types_expr.specs.World.{name_meaning}
use Rattle.types_expr.specs.Operations.{operate, prefixed, converts, class_of, is_int, element_of_kind}
use Rattle.types_expr.specs.Judge.{Judged, ListValue, JudgedKey, JudgedElements, TypeJudged, Seen, FieldKey, WrongKey, means, wrong, means_or_wrong}
use Rattle.types_expr.specs.Judge.{value_or_wrong, as_value, value_kind, member_meaning, select, select_member, is_whole, all_whole, misfits, all_misfits}
use Rattle.types_expr.specs.Judge.{unless_faults, wrong_if_whole, result_meaning, call_function, convert, convert_one, append, append_first, append_to}
use Rattle.types_expr.specs.Judge.{len_fits, all_printed, call_builtin, call_of, bad_index, indexed, index_of, element_meaning, operation, prefix_of}
use Rattle.types_expr.specs.Judge.{judge_type, named_type, imported_type, key_in, key_of_member, key_faults, is_whole_key, is_empty, misfit_if, with_element}
use Rattle.types_expr.specs.Judge.{literal_result, noting, enterings}
use Rattle.law_typing.specs.Names.{IsNotBroken, NameMeans}
use Rattle.law_typing.specs.BrokenUses.{IsBrokenType, named, imported, pointer, slice, SelectsBroken, a_method, of_package}
use Rattle.law_typing.proofs.Tests.{and_first, and_second, and_both}
use Rattle.law_typing.proofs.Judgements.{value_whole, function_whole, results_whole, empty_first, empty_second}
use Rattle.law_typing.proofs.Naming.{name_true, name_whole}
use Rattle.law_typing.proofs.Operating.{true_prefixes, prefix_whole}
use Rattle.law_typing.proofs.Calling.{gives, gives_whole}

pub no_fault : {A : Type 0} {place : ℕ} {rest : List ℕ} → (place ∷ rest) ≡ [] → A
no_fault {A} {place} {rest} h = cc

pub whole_or_broken : (m : Meaning) → IsNotBroken m ⊎ (m ≡ Broken)
whole_or_broken (Value k a) = inl value_whole
whole_or_broken (TypeName t) = inl (λ h. cc)
whole_or_broken (Function s) = inl function_whole
whole_or_broken (BuiltinName b) = inl (λ h. cc)
whole_or_broken Package = inl (λ h. cc)
whole_or_broken (Results ts) = inl results_whole
whole_or_broken Broken = inr refl

pub no_name : (w : World) (locals : Locals) (p : ℕ) → name_meaning w locals p ≡ Broken → (m : Meaning) → NameMeans w locals p m → ⊥
no_name w locals p e m h = name_whole w locals h (sym (name_true w locals h) ∙ e)

pub value_or_fault : (place : ℕ) (m : Meaning) → IsNotBroken m → (as_value place m).faults ≡ [] → (k : ValueKind) × (a : Bool) × (m ≡ Value k a)
unfolding as_value
value_or_fault place (Value k a) n h = (k, a, refl)
value_or_fault place (TypeName t) n h = no_fault h
value_or_fault place (Function s) n h = no_fault h
value_or_fault place (BuiltinName b) n h = no_fault h
value_or_fault place Package n h = no_fault h
value_or_fault place (Results ts) n h = no_fault h
value_or_fault place Broken n h = absurd (n refl)

-- operators

prefix_chosen : (w : World) (o : PrefixOp) (p : ℕ) (k : ValueKind) (r : Option Meaning) → prefixed w o k ≡ r → (means_or_wrong r p).faults ≡ [] →
    IsNotBroken (means_or_wrong r p).meaning
prefix_chosen w o p k None e h = no_fault h
prefix_chosen w o p k (Some m) e h = prefix_whole (true_prefixes w o k m e)

pub prefix_or_fault : (w : World) (o : PrefixOp) (p : ℕ) (k : ValueKind) (a : Bool) → (prefix_of w o p (Value k a)).faults ≡ [] →
    IsNotBroken (prefix_of w o p (Value k a)).meaning
unfolding prefix_of
prefix_or_fault w o p k a h = prefix_chosen w o p k (prefixed w o k) refl h

operation_chosen : (start : ℕ) (r : Option ValueKind) → (value_or_wrong r start).faults ≡ [] → (l : ValueKind) × ((value_or_wrong r start).meaning ≡ Value l
    false)
operation_chosen start None h = no_fault h
operation_chosen start (Some l) h = (l, refl)

pub operation_or_fault : (w : World) (o : BinaryOp) (start : ℕ) (j k : ValueKind) (a b : Bool) → (operation w o start (Value j a) (Value k b)).faults ≡ [] →
    (l : ValueKind) × ((operation w o start (Value j a) (Value k b)).meaning ≡ Value l false)
unfolding operation value_kind
operation_or_fault w o start j k a b h = operation_chosen start (operate w o j k) h

-- selectors

variable_method : (g : Signature) (name : ℕ) (b : Bool) → (means_or_wrong (if b then Some (Function g) else None) name).faults ≡ [] →
    IsNotBroken (means_or_wrong (if b then Some (Function g) else None) name).meaning
variable_method g name true h = function_whole
variable_method g name false h = no_fault h

member_or_broken : (w : World) (locals : Locals) (t : PlainType) (a : Bool) (name : ℕ) (o : Option Member) → w.member name t ≡ o →
    (means_or_wrong (member_meaning w t a o) name).faults ≡ [] →
    IsNotBroken (means_or_wrong (member_meaning w t a o) name).meaning ⊎ SelectsBroken w locals (Value (Typed t) a) name
member_or_broken w locals t a name None e h = no_fault h
member_or_broken w locals t a name (Some (AField s (AFieldOf u))) e h = inl value_whole
member_or_broken w locals t a name (Some (AField s (AMethodOf g))) e h = inl function_whole
member_or_broken w locals t a name (Some (AMethod s true g)) e h = inl (variable_method g name (is_pointer t || a) h)
member_or_broken w locals t a name (Some (AMethod s false g)) e h = inl function_whole
member_or_broken w locals t a name (Some (ABrokenMethod s)) e h = inr (a_method e)

pub select_or_broken : (w : World) (locals : Locals) (place name : ℕ) (m : Meaning) → IsNotBroken m → (select w locals place name m).faults ≡ [] →
    IsNotBroken (select w locals place name m).meaning ⊎ SelectsBroken w locals m name
unfolding select select_member
select_or_broken w locals place name (Value (Typed t) a) n h = member_or_broken w locals t a name (w.member name t) refl h
select_or_broken w locals place name (Value (Untyped b) a) n h = no_fault h
select_or_broken w locals place name (Value Nil a) n h = no_fault h
select_or_broken w locals place name Package n h =
    elim (whole_or_broken (name_meaning w locals name)) [ inl q ↦ inl q | inr e ↦ inr (of_package (no_name w locals name e)) ]
select_or_broken w locals place name (TypeName t) n h = no_fault h
select_or_broken w locals place name (Function s) n h = no_fault h
select_or_broken w locals place name (BuiltinName b) n h = no_fault h
select_or_broken w locals place name (Results ts) n h = no_fault h
select_or_broken w locals place name Broken n h = absurd (n refl)

-- indexes

element_or_fault : (o : Option PlainType) (start : ℕ) → (element_meaning o start).faults ≡ [] → IsNotBroken (element_meaning o start).meaning
element_or_fault None start h = no_fault h
element_or_fault (Some t) start h = value_whole

int_or_fault : (w : World) (start place : ℕ) (s : ValueKind) (a : Bool) (b : Bool) →
    (indexed w start (if b then [] else (place ∷ [])) true (Value s a)).faults ≡ [] →
    IsNotBroken (indexed w start (if b then [] else (place ∷ [])) true (Value s a)).meaning
unfolding indexed
int_or_fault w start place s a true h = element_or_fault (element_of_kind w s) start h
int_or_fault w start place s a false h = no_fault h

values_indexed : (w : World) (start place : ℕ) (s k : ValueKind) (a b : Bool) → (index_of w start place (Value s b) (Value k a)).faults ≡ [] →
    IsNotBroken (index_of w start place (Value s b) (Value k a)).meaning
unfolding index_of bad_index value_kind
values_indexed w start place s k a b h = int_or_fault w start place s b (is_int (class_of w k)) h

pub index_or_fault : (w : World) (start here place : ℕ) (m i : Meaning) {s k : ValueKind} {b a : Bool} → m ≡ Value s b → i ≡ Value k a →
    (index_of w start place (as_value here m).meaning i).faults ≡ [] →
    IsNotBroken (index_of w start place (as_value here m).meaning i).meaning
unfolding as_value
index_or_fault w start here place m i {s} {k} {b} {a} e f h =
    subst (λ z. IsNotBroken (index_of w start place (as_value here z).meaning i).meaning) (sym e)
    (subst (λ z. IsNotBroken (index_of w start place (Value s b) z).meaning) (sym f)
    (values_indexed w start place s k a b (ap (λ z. (index_of w start place (Value s b) z).faults) (sym f) ∙
    (ap (λ z. (index_of w start place (as_value here z).meaning i).faults) (sym e) ∙ h))))

-- calls

refused_if_whole : {A : Type 0} (b : Bool) (place : ℕ) → b ≡ true → (wrong_if_whole b place).faults ≡ [] → A
refused_if_whole true place e h = no_fault h
refused_if_whole false place e h = absurd (true≢false (sym e))

fits_or_fault : (places : List ℕ) (b : Bool) (m : Meaning) → IsNotBroken m → b ≡ true → (unless_faults places b m).faults ≡ [] →
    IsNotBroken (unless_faults places b m).meaning
unfolding unless_faults
fits_or_fault [] true m n e h = n
fits_or_fault [] false m n e h = absurd (true≢false (sym e))
fits_or_fault (p ∷ ps) b m n e h = no_fault h

count_or_fault : (w : World) (start : ℕ) (s : Signature) (vs : List ListValue) → all_whole vs ≡ true → (b : Bool) →
    (if b then noting (enterings w vs s.parameters) (unless_faults (misfits w vs s.parameters) (all_whole vs) (result_meaning s.results))
    else wrong_if_whole (all_whole vs) start).faults ≡ [] →
    IsNotBroken (if b then noting (enterings w vs s.parameters) (unless_faults (misfits w vs s.parameters) (all_whole vs) (result_meaning s.results))
    else wrong_if_whole (all_whole vs) start).meaning
count_or_fault w start s vs a true h = fits_or_fault (misfits w vs s.parameters) (all_whole vs) (result_meaning s.results) (gives_whole (gives s.results)) a h
count_or_fault w start s vs a false h = refused_if_whole (all_whole vs) start a h

function_or_fault : (w : World) (start : ℕ) (s : Signature) (vs : List ListValue) → all_whole vs ≡ true → (call_function w start s vs).faults ≡ [] →
    IsNotBroken (call_function w start s vs).meaning
unfolding call_function
function_or_fault w start s vs a h = count_or_fault w start s vs a (length vs == length s.parameters) h

converts_or_fault : (start : ℕ) (t : PlainType) (b : Bool) → (if b then means (Value (Typed t) false) else wrong start).faults ≡ [] →
    IsNotBroken (if b then means (Value (Typed t) false) else wrong start).meaning
converts_or_fault start t true h = value_whole
converts_or_fault start t false h = no_fault h

one_or_fault : (w : World) (start : ℕ) (t : PlainType) (o : Option ValueKind) → is_whole o ≡ true → (convert_one w start t o).faults ≡ [] →
    IsNotBroken (convert_one w start t o).meaning
one_or_fault w start t None a h = absurd (true≢false (sym a))
one_or_fault w start t (Some k) a h = converts_or_fault start t (converts w k t) h

conversion_or_fault : (w : World) (start : ℕ) (t : PlainType) (vs : List ListValue) → all_whole vs ≡ true → (convert w start t vs).faults ≡ [] →
    IsNotBroken (convert w start t vs).meaning
unfolding convert all_whole
conversion_or_fault w start t [] a h = refused_if_whole true start refl h
conversion_or_fault w start t (v ∷ []) a h = one_or_fault w start t v.kind (and_first (is_whole v.kind) true a) h
conversion_or_fault w start t (v ∷ u ∷ vs) a h = refused_if_whole (all_whole (v ∷ u ∷ vs)) start a h

fine_or_fault : (fine whole : Bool) (start : ℕ) (m : Meaning) → IsNotBroken m → whole ≡ true →
    (if whole then (if fine then means m else wrong start) else means Broken).faults ≡ [] →
    IsNotBroken (if whole then (if fine then means m else wrong start) else means Broken).meaning
fine_or_fault true true start m n a h = n
fine_or_fault false true start m n a h = no_fault h
fine_or_fault fine false start m n a h = absurd (true≢false (sym a))

element_append : (w : World) (start : ℕ) (k : ValueKind) (o : Option PlainType) (vs : List ListValue) → all_whole vs ≡ true →
    (append_to w start k o vs).faults ≡ [] → IsNotBroken (append_to w start k o vs).meaning
element_append w start k None vs a h = refused_if_whole (all_whole vs) start a h
element_append w start k (Some t) vs a h = fits_or_fault (all_misfits w vs t) (all_whole vs) (Value k false) value_whole a h

first_append : (w : World) (start : ℕ) (o : Option ValueKind) (vs : List ListValue) → is_whole o ≡ true → all_whole vs ≡ true →
    (append_first w start o vs).faults ≡ [] → IsNotBroken (append_first w start o vs).meaning
first_append w start None vs f a h = absurd (true≢false (sym f))
first_append w start (Some k) vs f a h = element_append w start k (element_of_kind w k) vs a h

append_or_fault : (w : World) (start : ℕ) (vs : List ListValue) → all_whole vs ≡ true → (append w start vs).faults ≡ [] →
    IsNotBroken (append w start vs).meaning
unfolding append all_whole
append_or_fault w start [] a h = no_fault h
append_or_fault w start (v ∷ vs) a h = first_append w start v.kind vs (and_first (is_whole v.kind) (all_whole vs) a)
    (and_second (is_whole v.kind) (all_whole vs) a) h

builtin_or_fault : (w : World) (start : ℕ) (b : Builtin) (vs : List ListValue) → all_whole vs ≡ true → (call_builtin w start b vs).faults ≡ [] →
    IsNotBroken (call_builtin w start b vs).meaning
unfolding call_builtin
builtin_or_fault w start builtin.Append vs a h = append_or_fault w start vs a h
builtin_or_fault w start builtin.Len vs a h = fine_or_fault (len_fits w vs) (all_whole vs) start (Value (Typed (BasicType basic.Int)) false) value_whole a h
builtin_or_fault w start builtin.Panic vs a h = fine_or_fault (length vs == 1) (all_whole vs) start (Results []) results_whole a h
builtin_or_fault w start builtin.Print vs a h = fine_or_fault (all_printed w vs) (all_whole vs) start (Results []) results_whole a h
builtin_or_fault w start builtin.Println vs a h = fine_or_fault (all_printed w vs) (all_whole vs) start (Results []) results_whole a h

pub call_or_fault : (w : World) (start place : ℕ) (vs : List ListValue) (m : Meaning) → IsNotBroken m → all_whole vs ≡ true →
    (call_of w start place vs m).faults ≡ [] → IsNotBroken (call_of w start place vs m).meaning
unfolding call_of
call_or_fault w start place vs (Function s) n a h = function_or_fault w start s vs a h
call_or_fault w start place vs (TypeName t) n a h = conversion_or_fault w start t vs a h
call_or_fault w start place vs (BuiltinName b) n a h = builtin_or_fault w start b vs a h
call_or_fault w start place vs (Value k x) n a h = refused_if_whole (all_whole vs) start a h
call_or_fault w start place vs Package n a h = no_fault h
call_or_fault w start place vs (Results ts) n a h = no_fault h
call_or_fault w start place vs Broken n a h = absurd (n refl)

-- types

abbrev IsTypeOrBroken : World → TypeTree → TypeJudged → Type 0
IsTypeOrBroken w x j = ((t : PlainType) × (j.type_of ≡ Some t)) ⊎ IsBrokenType w x

name_or_broken : (x : TypeTree) (w : World) (n : ℕ) (b : Bound) → w.bound n ≡ b → (named_type b n).faults ≡ [] →
    (w.bound n ≡ BrokenType → IsBrokenType w x) → IsTypeOrBroken w x (named_type b n)
unfolding named_type
name_or_broken x w n (Means (TypeName t)) e h f = inl (t, refl)
name_or_broken x w n BrokenType e h f = inr (f e)
name_or_broken x w n (Means (Value k a)) e h f = no_fault h
name_or_broken x w n (Means (Function s)) e h f = no_fault h
name_or_broken x w n (Means (BuiltinName b)) e h f = no_fault h
name_or_broken x w n (Means Package) e h f = no_fault h
name_or_broken x w n (Means (Results ts)) e h f = no_fault h
name_or_broken x w n (Means Broken) e h f = no_fault h
name_or_broken x w n (Local d) e h f = no_fault h
name_or_broken x w n BrokenVariable e h f = no_fault h
name_or_broken x w n BrokenFunction e h f = no_fault h

import_or_broken : (w : World) (p d n : ℕ) (b : Bound) → w.bound p ≡ b → (imported_type w b p n).faults ≡ [] →
    IsTypeOrBroken w (tree.Imported p d n) (imported_type w b p n)
unfolding imported_type
import_or_broken w p d n (Means Package) e h = name_or_broken (tree.Imported p d n) w n (w.bound n) refl h (λ f. imported e f)
import_or_broken w p d n (Means (TypeName t)) e h = no_fault h
import_or_broken w p d n (Means (Value k a)) e h = no_fault h
import_or_broken w p d n (Means (Function s)) e h = no_fault h
import_or_broken w p d n (Means (BuiltinName b)) e h = no_fault h
import_or_broken w p d n (Means (Results ts)) e h = no_fault h
import_or_broken w p d n (Means Broken) e h = no_fault h
import_or_broken w p d n (Local x) e h = no_fault h
import_or_broken w p d n BrokenVariable e h = no_fault h
import_or_broken w p d n BrokenFunction e h = no_fault h
import_or_broken w p d n BrokenType e h = no_fault h

pub type_or_broken : (w : World) (x : TypeTree) → (judge_type w x).faults ≡ [] → IsTypeOrBroken w x (judge_type w x)
unfolding judge_type
type_or_broken w (tree.Local n) h = name_or_broken (tree.Local n) w n (w.bound n) refl h (λ f. named f)
type_or_broken w (tree.Imported p d n) h = import_or_broken w p d n (w.bound p) refl h
type_or_broken w (tree.Pointer s x) h = elim (type_or_broken w x h) [ inl q ↦ inl (Pointer q.0, ap (option_map Pointer) q.1) | inr b ↦ inr (pointer b) ]
type_or_broken w (tree.Slice o c x) h = elim (type_or_broken w x h) [ inl q ↦ inl (Slice q.0, ap (option_map Slice) q.1) | inr b ↦ inr (slice b) ]

-- elements

abbrev IsBrokenMember : Option Member → Type 0
IsBrokenMember m = (s : Symbol) × (m ≡ Some (ABrokenMethod s))

free_or_fault : (s : Symbol) (t : PlainType) (b : Bool) (place : ℕ) → key_faults (if b then WrongKey else FieldKey s.rank t) place ≡ [] →
    is_whole_key (if b then WrongKey else FieldKey s.rank t) ≡ true
free_or_fault s t true place h = no_fault h
free_or_fault s t false place h = refl

member_key : (seen : Seen) (m : Option Member) (place : ℕ) → key_faults (key_of_member seen m) place ≡ [] → (is_whole_key (key_of_member seen m) ≡ true) ⊎
    IsBrokenMember m
member_key seen None place h = no_fault h
member_key seen (Some (AField s (AFieldOf t))) place h = inl (free_or_fault s t (seen s.rank) place h)
member_key seen (Some (AField s (AMethodOf g))) place h = no_fault h
member_key seen (Some (AMethod s b g)) place h = no_fault h
member_key seen (Some (ABrokenMethod s)) place h = inr (s, refl)

pub key_or_broken : (u : Underlying) (seen : Seen) (m : Option Member) (place : ℕ) → key_faults (key_in u seen m) place ≡ [] →
    (is_whole_key (key_in u seen m) ≡ true) ⊎ IsBrokenMember m
key_or_broken (Struct x) seen m place h = member_key seen m place h
key_or_broken (Plain b) seen m place h = no_fault h
key_or_broken (PointerTo t) seen m place h = no_fault h
key_or_broken (SliceOf t) seen m place h = no_fault h
key_or_broken (Interface s) seen m place h = no_fault h

-- the parts of an element without a fault have none
pub record IsFaultless (w : World) (k : JudgedKey) (place : ℕ) (j : Judged) (rest : JudgedElements) : Type 0 where
  pub key : k.faults ≡ []
  pub value : j.faults ≡ []
  pub fitting : misfit_if w place (value_kind j.meaning) k.wanted ≡ []
  pub others : rest.faults ≡ []

pub faultless_parts : (w : World) (k : JudgedKey) (place : ℕ) (j : Judged) (rest : JudgedElements) → (with_element w k place j rest).faults ≡ [] →
    IsFaultless w k place j rest
faultless_parts w k place j rest h =
    let h1 = empty_second k.faults (j.faults ++ (misfit_if w place (value_kind j.meaning) k.wanted ++ rest.faults)) h in
    let h2 = empty_second j.faults (misfit_if w place (value_kind j.meaning) k.wanted ++ rest.faults) h1 in
    record {
      key = empty_first k.faults (j.faults ++ (misfit_if w place (value_kind j.meaning) k.wanted ++ rest.faults)) h;
      value = empty_first j.faults (misfit_if w place (value_kind j.meaning) k.wanted ++ rest.faults) h1;
      fitting = empty_first (misfit_if w place (value_kind j.meaning) k.wanted) rest.faults h2;
      others = empty_second (misfit_if w place (value_kind j.meaning) k.wanted) rest.faults h2;
    }

pub all_parts_whole : (w : World) (k : JudgedKey) (place : ℕ) (j : Judged) (rest : JudgedElements) → k.whole ≡ true → is_whole (value_kind j.meaning) ≡ true →
    misfit_if w place (value_kind j.meaning) k.wanted ≡ [] → rest.whole ≡ true → (with_element w k place j rest).whole ≡ true
all_parts_whole w k place j rest a b c d =
    and_both k.whole (is_whole (value_kind j.meaning) && (is_empty (misfit_if w place (value_kind j.meaning) k.wanted) && rest.whole)) a
    (and_both (is_whole (value_kind j.meaning)) (is_empty (misfit_if w place (value_kind j.meaning) k.wanted) && rest.whole) b
    (and_both (is_empty (misfit_if w place (value_kind j.meaning) k.wanted)) rest.whole (ap is_empty c) d))

pub ends_or_fault : (start : ℕ) (t : PlainType) (u : Underlying) (unkeyed : Bool) → (literal_result start t u true unkeyed).faults ≡ [] →
    IsNotBroken (literal_result start t u true unkeyed).meaning
ends_or_fault start t (Struct s) true h = no_fault h
ends_or_fault start t (Struct s) false h = value_whole
ends_or_fault start t (SliceOf x) unkeyed h = value_whole
ends_or_fault start t (Plain b) unkeyed h = no_fault h
ends_or_fault start t (PointerTo x) unkeyed h = no_fault h
ends_or_fault start t (Interface s) unkeyed h = no_fault h
