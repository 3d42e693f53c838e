-- The rules for values, selections, calls, indexes and operators give moved findings for moved parts.
use Rattle.std.proofs.Common.{ℕ, ◌≡◌, ◌==◌, Bool, ◌&&◌, ◌||◌, true, false, if◌then◌else◌, List, [], ◌∷◌, ◌++◌, map, length, Option, Some, None, option_map}
use Rattle.std.proofs.Common.{refl, sym, ap, ◌∙◌}
use Rattle.std.proofs.lemmas.List.{map-append, length-map}
use Rattle.go_ast.specs.declared.syntax.BinaryOp.{BinaryOp}
use Rattle.go_ast.specs.declared.syntax.PrefixOp.{PrefixOp}
use Rattle.go_ast.specs.Tree.{ExprTree}
use Rattle.types_expr.specs.declared.types.Basic.TheVariants as basic
use Rattle.types_expr.specs.declared.types.Builtin.{Builtin}
use Rattle.types_expr.specs.declared.types.Builtin.TheVariants as builtin
use Rattle.types_expr.specs.declared.symbol.Symbol.{Symbol}
use Rattle.types_expr.specs.Places.{place_of}
use Rattle.types_expr.specs.Types.{PlainType, BasicType, ValueKind, Typed, Untyped, Nil, Signature, Meaning, Value, TypeName, Function, BuiltinName}
use Rattle.types_expr.specs.Types.{Package, Results, Broken, AFieldOf, AMethodOf}
use Rattle.types_expr.specs.Types.{is_interface, is_pointer, points}
use Rattle.types_expr.specs.World.{Locals, Bound, Local, Means, BrokenVariable, BrokenFunction, BrokenType, Member, AField, AMethod, ABrokenMethod}
use Rattle.types_expr.specs.World.{member_symbol}
use Rattle.types_expr.specs.World.{World, underlying, variable, meaning_of_bound, name_meaning}
use Rattle.types_expr.specs.Operations.{enters, converts, operate, is_int, has_length, is_printed, element_of_kind, prefixed}
use Rattle.types_expr.specs.Judge.{Noted, Judged, means, wrong, means_or_wrong, value_or_wrong, also, followed, as_value, value_kind, member_meaning}
use Rattle.types_expr.specs.Judge.{with_use, select_member, select, ListValue, JudgedList, is_whole, all_whole, misfit, misfits, all_misfits, result_meaning}
use Rattle.types_expr.specs.Judge.{unless_faults, wrong_if_whole, call_function, convert_one, convert, append_to, append_first, append, len_value, len_fits}
use Rattle.types_expr.specs.Judge.{is_printed_value, all_printed, call_when, call_builtin, call_of, with_values, bad_index, element_meaning, indexed, index_of}
use Rattle.types_expr.specs.Judge.{OfEntering, noting, enters_at, entering, enterings, all_enterings}
use Rattle.types_expr.specs.Judge.{operation_on, operation, prefix_of, value_at, value_before, index_rule, call_rule}
use Rattle.law_changed_types.specs.Moved.{moved_symbol, moved_type, moved_kind, moved_signature, moved_meaning, moved_bound, moved_member}
use Rattle.law_changed_types.specs.Moved.{moved_locals, moved_noted}
use Rattle.law_changed_types.specs.Moved.{moved_found}
use Rattle.law_changed_types.proofs.Moving.{Move, Moves, at_first, ap2, ap3, if_moves}
use Rattle.law_changed_types.proofs.TypesMove.{interface_stays, underlying_moves, same_pointer, same_points}
use Rattle.law_changed_types.proofs.OperationsMove.{entering_stays, same_fits, same_converts, class_stays, operate_moves, element_of_kind_moves, prefixed_moves}

-- a value of a list, and the findings of a list
abbrev pub moved_value : Move → ListValue → ListValue
moved_value m v = record { place = v.place; kind = option_map (moved_kind m.path) v.kind }

abbrev pub moved_values : Move → List ListValue → List ListValue
moved_values m vs = map (moved_value m) vs

abbrev pub moved_list : Move → JudgedList → JudgedList
moved_list m l = record { values = moved_values m l.values; faults = l.faults; uses = map (moved_noted m.path) l.uses }

-- findings one after the other

pub two_uses : (m : Move) (a b : List Noted) → map (moved_noted m.path) a ++ map (moved_noted m.path) b ≡ map (moved_noted m.path) (a ++ b)
two_uses m a b = sym (map-append (moved_noted m.path) a b)

pub three_uses : (m : Move) (a b c : List Noted) →
    map (moved_noted m.path) a ++ (map (moved_noted m.path) b ++ map (moved_noted m.path) c) ≡ map (moved_noted m.path) (a ++ (b ++ c))
three_uses m a b c = ap (λ z. map (moved_noted m.path) a ++ z) (two_uses m b c) ∙ two_uses m a (b ++ c)

pub also_moves : (m : Move) (j k : Judged) → also (moved_found m.path j) (moved_found m.path k) ≡ moved_found m.path (also j k)
also_moves m j k = ap (λ (z : List Noted). record { meaning = moved_meaning m.path k.meaning; faults = j.faults ++ k.faults; uses = z })
    (two_uses m j.uses k.uses)

pub followed_moves : (m : Move) (j : Judged) (old new : Meaning → Judged) → new (moved_meaning m.path j.meaning) ≡ moved_found m.path (old j.meaning) →
    followed (moved_found m.path j) new ≡ moved_found m.path (followed j old)
followed_moves m j old new e = ap (also (moved_found m.path j)) e ∙ also_moves m j (old j.meaning)

pub as_value_moves : (m : Move) (place : ℕ) (x : Meaning) → as_value place (moved_meaning m.path x) ≡ moved_found m.path (as_value place x)
unfolding as_value
as_value_moves m place (Value k a) = refl
as_value_moves m place (TypeName t) = refl
as_value_moves m place (Function s) = refl
as_value_moves m place (BuiltinName b) = refl
as_value_moves m place Package = refl
as_value_moves m place (Results ts) = refl
as_value_moves m place Broken = refl

pub value_kind_moves : (m : Move) (x : Meaning) → value_kind (moved_meaning m.path x) ≡ option_map (moved_kind m.path) (value_kind x)
unfolding value_kind
value_kind_moves m (Value k a) = refl
value_kind_moves m (TypeName t) = refl
value_kind_moves m (Function s) = refl
value_kind_moves m (BuiltinName b) = refl
value_kind_moves m Package = refl
value_kind_moves m (Results ts) = refl
value_kind_moves m Broken = refl

pub value_at_moves : (m : Move) (e : ExprTree) (j : Judged) → value_at e (moved_found m.path j) ≡ moved_found m.path (value_at e j)
value_at_moves m e j = followed_moves m j (as_value (place_of e)) (as_value (place_of e)) (as_value_moves m (place_of e) j.meaning)

means_or_wrong_moves : (m : Move) (x : Option Meaning) (place : ℕ) →
    means_or_wrong (option_map (moved_meaning m.path) x) place ≡ moved_found m.path (means_or_wrong x place)
means_or_wrong_moves m None place = refl
means_or_wrong_moves m (Some x) place = refl

value_or_wrong_moves : (m : Move) (k : Option ValueKind) (place : ℕ) →
    value_or_wrong (option_map (moved_kind m.path) k) place ≡ moved_found m.path (value_or_wrong k place)
value_or_wrong_moves m None place = refl
value_or_wrong_moves m (Some k) place = refl

-- names

pub variable_moves : (m : Move) (t : Option PlainType) → variable (option_map (moved_type m.path) t) ≡ moved_meaning m.path (variable t)
variable_moves m None = refl
variable_moves m (Some t) = refl

bound_meaning_moves : (m : Move) (locals : Locals) (b : Bound) →
    meaning_of_bound (moved_locals m.path locals) (moved_bound m.path b) ≡ moved_meaning m.path (meaning_of_bound locals b)
bound_meaning_moves m locals (Local place) = variable_moves m (locals place)
bound_meaning_moves m locals (Means x) = refl
bound_meaning_moves m locals BrokenVariable = refl
bound_meaning_moves m locals BrokenFunction = refl
bound_meaning_moves m locals BrokenType = refl

pub name_moves : (m : Move) (locals : Locals) (place : ℕ) →
    name_meaning m.new (moved_locals m.path locals) place ≡ moved_meaning m.path (name_meaning m.old locals place)
name_moves m locals place = ap (meaning_of_bound (moved_locals m.path locals)) (m.bound place) ∙ bound_meaning_moves m locals (m.old.bound place)

-- selections

member_meaning_moves : (m : Move) (t : PlainType) (a : Bool) (x : Option Member) →
    member_meaning m.new (moved_type m.path t) a (option_map (moved_member m.path) x) ≡ option_map (moved_meaning m.path) (member_meaning m.old t a x)
member_meaning_moves m t a None = refl
member_meaning_moves m t a (Some (AField s (AMethodOf signature))) = refl
member_meaning_moves m t a (Some (AField s (AFieldOf ft))) = ap (λ z. Some (Value (Typed (moved_type m.path ft)) (z || a)))
    (ap points (underlying_moves m t) ∙ same_points m (underlying m.old t))
member_meaning_moves m t a (Some (AMethod s true signature)) =
    if_moves (option_map (moved_meaning m.path)) (is_pointer t || a) _ (Some (Function signature)) None (ap (λ z. z || a) (same_pointer m t))
member_meaning_moves m t a (Some (AMethod s false signature)) = refl
member_meaning_moves m t a (Some (ABrokenMethod s)) = refl

pub member_symbol_moves : (m : Move) (x : Option Member) →
    option_map member_symbol (option_map (moved_member m.path) x) ≡ option_map (moved_symbol m.path) (option_map member_symbol x)
member_symbol_moves m None = refl
member_symbol_moves m (Some (AField s form)) = refl
member_symbol_moves m (Some (AMethod s on_pointer signature)) = refl
member_symbol_moves m (Some (ABrokenMethod s)) = refl

-- the selection of this member
selected : World → ℕ → PlainType → Bool → Option Member → Judged
selected w name t a x =
    with_use (record { place = name; before = t; member = option_map member_symbol x }) (means_or_wrong (member_meaning w t a x) name)

selected_moves : (m : Move) (name : ℕ) (t : PlainType) (a : Bool) (x : Option Member) →
    selected m.new name (moved_type m.path t) a (option_map (moved_member m.path) x) ≡ moved_found m.path (selected m.old name t a x)
unfolding selected
selected_moves m name t a x =
    ap2 (λ (s : Option Symbol) (j : Judged). with_use (record { place = name; before = moved_type m.path t; member = s }) j) (member_symbol_moves m x)
    (ap (λ z. means_or_wrong z name) (member_meaning_moves m t a x) ∙ means_or_wrong_moves m (member_meaning m.old t a x) name)

select_member_moves : (m : Move) (name : ℕ) (t : PlainType) (a : Bool) → Moves m (select_member m.old name t a).uses →
    select_member m.new name (moved_type m.path t) a ≡ moved_found m.path (select_member m.old name t a)
unfolding select_member selected
select_member_moves m name t a h =
    ap (selected m.new name (moved_type m.path t) a)
    (at_first (record { place = name; before = t; member = option_map member_symbol (m.old.member name t) })
    (means_or_wrong (member_meaning m.old t a (m.old.member name t)) name).uses h)
    ∙ selected_moves m name t a (m.old.member name t)

pub select_moves : (m : Move) (locals : Locals) (place name : ℕ) (x : Meaning) → Moves m (select m.old locals place name x).uses →
    select m.new (moved_locals m.path locals) place name (moved_meaning m.path x) ≡ moved_found m.path (select m.old locals place name x)
unfolding select
select_moves m locals place name (Value (Typed t) a) h = select_member_moves m name t a h
select_moves m locals place name (Value (Untyped b) a) h = refl
select_moves m locals place name (Value Nil a) h = refl
select_moves m locals place name (TypeName t) h = refl
select_moves m locals place name (Function s) h = refl
select_moves m locals place name (BuiltinName b) h = refl
select_moves m locals place name Package h = ap means (name_moves m locals name)
select_moves m locals place name (Results ts) h = refl
select_moves m locals place name Broken h = refl

-- lists of values

pub whole_stays : (m : Move) (k : Option ValueKind) → is_whole (option_map (moved_kind m.path) k) ≡ is_whole k
whole_stays m None = refl
whole_stays m (Some k) = refl

pub all_whole_stays : (m : Move) (vs : List ListValue) → all_whole (moved_values m vs) ≡ all_whole vs
unfolding all_whole
all_whole_stays m [] = refl
all_whole_stays m (v ∷ vs) = ap2 (λ x y. x && y) (whole_stays m v.kind) (all_whole_stays m vs)

pub same_misfit : (m : Move) (place : ℕ) (k : Option ValueKind) (t : PlainType) →
    misfit m.new place (option_map (moved_kind m.path) k) (moved_type m.path t) ≡ misfit m.old place k t
unfolding misfit
same_misfit m place None t = refl
same_misfit m place (Some k) t = ap (λ z. if z then [] else place ∷ []) (same_fits m k t)

same_misfits : (m : Move) (vs : List ListValue) (ts : List PlainType) →
    misfits m.new (moved_values m vs) (map (moved_type m.path) ts) ≡ misfits m.old vs ts
unfolding misfits
same_misfits m [] ts = refl
same_misfits m (v ∷ vs) [] = refl
same_misfits m (v ∷ vs) (t ∷ ts) = ap2 (λ x y. x ++ y) (same_misfit m v.place v.kind t) (same_misfits m vs ts)

all_same_misfits : (m : Move) (vs : List ListValue) (t : PlainType) → all_misfits m.new (moved_values m vs) (moved_type m.path t) ≡ all_misfits m.old vs t
unfolding all_misfits
all_same_misfits m [] t = refl
all_same_misfits m (v ∷ vs) t = ap2 (λ x y. x ++ y) (same_misfit m v.place v.kind t) (all_same_misfits m vs t)

-- entries of values into interfaces

pub noting_moves : (m : Move) (ns : List Noted) (j : Judged) → noting (map (moved_noted m.path) ns) (moved_found m.path j) ≡ moved_found m.path (noting ns j)
noting_moves m ns j = ap (λ (us : List Noted). record { meaning = moved_meaning m.path j.meaning; faults = j.faults; uses = us }) (two_uses m ns j.uses)

-- the entry of a value of this type, by whether the type is an interface and whether it enters another one
entry_if : (is_one enters : Bool) → ℕ → PlainType → List Noted
entry_if is_one enters place v = if is_one then [] else (if enters then OfEntering (record { place = place; own = v }) ∷ [] else [])

entry_if_moves : (m : Move) (is_one enters : Bool) (place : ℕ) (v : PlainType) →
    entry_if is_one enters place (moved_type m.path v) ≡ map (moved_noted m.path) (entry_if is_one enters place v)
unfolding entry_if
entry_if_moves m true enters place v = refl
entry_if_moves m false true place v = refl
entry_if_moves m false false place v = refl

enters_at_moves : (m : Move) (place : ℕ) (v t : PlainType) →
    enters_at m.new place (moved_type m.path v) (moved_type m.path t) ≡ map (moved_noted m.path) (enters_at m.old place v t)
unfolding entry_if
enters_at_moves m place v t =
    ap2 (λ x y. entry_if x y place (moved_type m.path v)) (interface_stays m v) (entering_stays m v t)
    ∙ entry_if_moves m (is_interface (underlying m.old v)) (enters m.old v (underlying m.old t)) place v

pub entering_moves : (m : Move) (place : ℕ) (k : Option ValueKind) (t : PlainType) →
    entering m.new place (option_map (moved_kind m.path) k) (moved_type m.path t) ≡ map (moved_noted m.path) (entering m.old place k t)
unfolding entering
entering_moves m place None t = refl
entering_moves m place (Some (Typed v)) t = enters_at_moves m place v t
entering_moves m place (Some (Untyped b)) t = enters_at_moves m place (BasicType b) t
entering_moves m place (Some Nil) t = refl

enterings_move : (m : Move) (vs : List ListValue) (ts : List PlainType) →
    enterings m.new (moved_values m vs) (map (moved_type m.path) ts) ≡ map (moved_noted m.path) (enterings m.old vs ts)
unfolding enterings
enterings_move m [] ts = refl
enterings_move m (v ∷ vs) [] = refl
enterings_move m (v ∷ vs) (t ∷ ts) =
    ap2 (λ x y. x ++ y) (entering_moves m v.place v.kind t) (enterings_move m vs ts) ∙ two_uses m (entering m.old v.place v.kind t) (enterings m.old vs ts)

all_enterings_move : (m : Move) (vs : List ListValue) (t : PlainType) →
    all_enterings m.new (moved_values m vs) (moved_type m.path t) ≡ map (moved_noted m.path) (all_enterings m.old vs t)
unfolding all_enterings
all_enterings_move m [] t = refl
all_enterings_move m (v ∷ vs) t =
    ap2 (λ x y. x ++ y) (entering_moves m v.place v.kind t) (all_enterings_move m vs t)
    ∙ two_uses m (entering m.old v.place v.kind t) (all_enterings m.old vs t)

pub value_before_moves : (m : Move) (place : ℕ) (j : Judged) (rest : JudgedList) →
    value_before place (moved_found m.path j) (moved_list m rest) ≡ moved_list m (value_before place j rest)
value_before_moves m place j rest =
    ap2 (λ (k : Option ValueKind) (us : List Noted). record {
      values = record { place = place; kind = k } ∷ moved_values m rest.values;
      faults = j.faults ++ rest.faults;
      uses = us;
    }) (value_kind_moves m j.meaning) (two_uses m j.uses rest.uses)

-- calls

result_meaning_moves : (m : Move) (ts : List PlainType) → result_meaning (map (moved_type m.path) ts) ≡ moved_meaning m.path (result_meaning ts)
result_meaning_moves m [] = refl
result_meaning_moves m (t ∷ []) = refl
result_meaning_moves m (t ∷ u ∷ ts) = refl

unless_faults_moves : (m : Move) (fs : List ℕ) (whole : Bool) (x : Meaning) →
    unless_faults fs whole (moved_meaning m.path x) ≡ moved_found m.path (unless_faults fs whole x)
unfolding unless_faults
unless_faults_moves m [] true x = refl
unless_faults_moves m [] false x = refl
unless_faults_moves m (f ∷ fs) whole x = refl

wrong_if_whole_moves : (m : Move) (vs : List ListValue) (place : ℕ) →
    wrong_if_whole (all_whole (moved_values m vs)) place ≡ moved_found m.path (wrong_if_whole (all_whole vs) place)
wrong_if_whole_moves m vs place = ap (λ z. wrong_if_whole z place) (all_whole_stays m vs) ∙ same (all_whole vs) where
  same : (b : Bool) → wrong_if_whole b place ≡ moved_found m.path (wrong_if_whole b place)
  same true = refl
  same false = refl

-- a call with the right count of arguments or not, with these entries and faults of its arguments and this result
called : Bool → List Noted → List ℕ → Bool → Meaning → Judged → Judged
called counts ns fs whole x other = if counts then noting ns (unless_faults fs whole x) else other

called_moves : (m : Move) (counts : Bool) (ns : List Noted) (fs : List ℕ) (whole : Bool) (x : Meaning) (j : Judged) →
    called counts (map (moved_noted m.path) ns) fs whole (moved_meaning m.path x) (moved_found m.path j) ≡ moved_found m.path (called counts ns fs whole x j)
unfolding called
called_moves m true ns fs whole x j =
    ap (noting (map (moved_noted m.path) ns)) (unless_faults_moves m fs whole x) ∙ noting_moves m ns (unless_faults fs whole x)
called_moves m false ns fs whole x j = refl

call_function_moves : (m : Move) (start : ℕ) (s : Signature) (vs : List ListValue) →
    call_function m.new start (moved_signature m.path s) (moved_values m vs) ≡ moved_found m.path (call_function m.old start s vs)
unfolding call_function called
call_function_moves m start s vs =
    let ts = map (moved_type m.path) s.parameters in
    let entries = map (moved_noted m.path) (enterings m.old vs s.parameters) in
    let result = result_meaning (map (moved_type m.path) s.results) in
    let other = wrong_if_whole (all_whole (moved_values m vs)) start in
    ap (λ ns. called (length (moved_values m vs) == length ts) ns (misfits m.new (moved_values m vs) ts) (all_whole (moved_values m vs)) result other)
    (enterings_move m vs s.parameters)
    ∙ (ap3 (λ c f b. called c entries f b result other)
    (ap2 (λ x y. x == y) (length-map vs (moved_value m)) (length-map s.parameters (moved_type m.path))) (same_misfits m vs s.parameters)
    (all_whole_stays m vs)
    ∙ (ap2 (called (length vs == length s.parameters) entries (misfits m.old vs s.parameters) (all_whole vs)) (result_meaning_moves m s.results)
    (wrong_if_whole_moves m vs start)
    ∙ called_moves m (length vs == length s.parameters) (enterings m.old vs s.parameters) (misfits m.old vs s.parameters) (all_whole vs)
    (result_meaning s.results) (wrong_if_whole (all_whole vs) start)))

convert_one_moves : (m : Move) (start : ℕ) (t : PlainType) (k : Option ValueKind) →
    convert_one m.new start (moved_type m.path t) (option_map (moved_kind m.path) k) ≡ moved_found m.path (convert_one m.old start t k)
convert_one_moves m start t None = refl
convert_one_moves m start t (Some k) = if_moves (moved_found m.path) (converts m.old k t) _ (means (Value (Typed t) false)) (wrong start) (same_converts m k t)

convert_moves : (m : Move) (start : ℕ) (t : PlainType) (vs : List ListValue) →
    convert m.new start (moved_type m.path t) (moved_values m vs) ≡ moved_found m.path (convert m.old start t vs)
unfolding convert
convert_moves m start t [] = wrong_if_whole_moves m [] start
convert_moves m start t (v ∷ []) =
    ap2 (λ (ns : List Noted) (j : Judged). noting ns j) (entering_moves m v.place v.kind t) (convert_one_moves m start t v.kind)
    ∙ noting_moves m (entering m.old v.place v.kind t) (convert_one m.old start t v.kind)
convert_moves m start t (v ∷ u ∷ vs) = wrong_if_whole_moves m (v ∷ u ∷ vs) start

append_to_moves : (m : Move) (start : ℕ) (k : ValueKind) (t : Option PlainType) (vs : List ListValue) →
    append_to m.new start (moved_kind m.path k) (option_map (moved_type m.path) t) (moved_values m vs) ≡ moved_found m.path (append_to m.old start k t vs)
append_to_moves m start k None vs = wrong_if_whole_moves m vs start
append_to_moves m start k (Some t) vs =
    ap3 (λ ns x y. noting ns (unless_faults x y (Value (moved_kind m.path k) false))) (all_enterings_move m vs t)
    (all_same_misfits m vs t) (all_whole_stays m vs)
    ∙ (ap (noting (map (moved_noted m.path) (all_enterings m.old vs t))) (unless_faults_moves m (all_misfits m.old vs t) (all_whole vs) (Value k false))
    ∙ noting_moves m (all_enterings m.old vs t) (unless_faults (all_misfits m.old vs t) (all_whole vs) (Value k false)))

append_first_moves : (m : Move) (start : ℕ) (k : Option ValueKind) (vs : List ListValue) →
    append_first m.new start (option_map (moved_kind m.path) k) (moved_values m vs) ≡ moved_found m.path (append_first m.old start k vs)
append_first_moves m start None vs = refl
append_first_moves m start (Some k) vs =
    ap (λ z. append_to m.new start (moved_kind m.path k) z (moved_values m vs)) (element_of_kind_moves m k)
    ∙ append_to_moves m start k (element_of_kind m.old k) vs

append_moves : (m : Move) (start : ℕ) (vs : List ListValue) → append m.new start (moved_values m vs) ≡ moved_found m.path (append m.old start vs)
unfolding append
append_moves m start [] = refl
append_moves m start (v ∷ vs) = append_first_moves m start v.kind vs

len_value_stays : (m : Move) (k : Option ValueKind) → len_value m.new (option_map (moved_kind m.path) k) ≡ len_value m.old k
len_value_stays m None = refl
len_value_stays m (Some k) = ap has_length (class_stays m k)

len_stays : (m : Move) (vs : List ListValue) → len_fits m.new (moved_values m vs) ≡ len_fits m.old vs
len_stays m [] = refl
len_stays m (v ∷ []) = len_value_stays m v.kind
len_stays m (v ∷ u ∷ vs) = refl

printed_stays : (m : Move) (k : Option ValueKind) → is_printed_value m.new (option_map (moved_kind m.path) k) ≡ is_printed_value m.old k
printed_stays m None = refl
printed_stays m (Some k) = ap is_printed (class_stays m k)

all_printed_stay : (m : Move) (vs : List ListValue) → all_printed m.new (moved_values m vs) ≡ all_printed m.old vs
unfolding all_printed
all_printed_stay m [] = refl
all_printed_stay m (v ∷ vs) = ap2 (λ x y. x && y) (printed_stays m v.kind) (all_printed_stay m vs)

-- what `call_when` finds, where all arguments are whole or not
found_when : Bool → Bool → ℕ → Meaning → Judged
found_when whole fine start x = if whole then (if fine then means x else wrong start) else means Broken

found_when_moves : (m : Move) (whole fine : Bool) (start : ℕ) (x : Meaning) →
    found_when whole fine start (moved_meaning m.path x) ≡ moved_found m.path (found_when whole fine start x)
unfolding found_when
found_when_moves m true true start x = refl
found_when_moves m true false start x = refl
found_when_moves m false fine start x = refl

call_when_moves : (m : Move) (fine then_fine : Bool) (vs : List ListValue) (start : ℕ) (x : Meaning) → then_fine ≡ fine →
    call_when then_fine (moved_values m vs) start (moved_meaning m.path x) ≡ moved_found m.path (call_when fine vs start x)
unfolding found_when
call_when_moves m fine then_fine vs start x e =
    ap2 (λ w f. found_when w f start (moved_meaning m.path x)) (all_whole_stays m vs) e ∙ found_when_moves m (all_whole vs) fine start x

call_builtin_moves : (m : Move) (start : ℕ) (b : Builtin) (vs : List ListValue) →
    call_builtin m.new start b (moved_values m vs) ≡ moved_found m.path (call_builtin m.old start b vs)
unfolding call_builtin
call_builtin_moves m start builtin.Append vs = append_moves m start vs
call_builtin_moves m start builtin.Len vs =
    call_when_moves m (len_fits m.old vs) _ vs start (Value (Typed (BasicType basic.Int)) false) (len_stays m vs)
call_builtin_moves m start builtin.Panic vs = call_when_moves m (length vs == 1) _ vs start (Results []) (ap (λ z. z == 1) (length-map vs (moved_value m)))
call_builtin_moves m start builtin.Print vs = call_when_moves m (all_printed m.old vs) _ vs start (Results []) (all_printed_stay m vs)
call_builtin_moves m start builtin.Println vs = call_when_moves m (all_printed m.old vs) _ vs start (Results []) (all_printed_stay m vs)

call_of_moves : (m : Move) (start place : ℕ) (vs : List ListValue) (x : Meaning) →
    call_of m.new start place (moved_values m vs) (moved_meaning m.path x) ≡ moved_found m.path (call_of m.old start place vs x)
unfolding call_of
call_of_moves m start place vs (Function s) = call_function_moves m start s vs
call_of_moves m start place vs (TypeName t) = convert_moves m start t vs
call_of_moves m start place vs (BuiltinName b) = call_builtin_moves m start b vs
call_of_moves m start place vs (Value k a) = wrong_if_whole_moves m vs start
call_of_moves m start place vs Broken = refl
call_of_moves m start place vs Package = refl
call_of_moves m start place vs (Results ts) = refl

pub call_rule_moves : (m : Move) (start place : ℕ) (args : JudgedList) (x : Meaning) →
    call_rule m.new start place (moved_list m args) (moved_meaning m.path x) ≡ moved_found m.path (call_rule m.old start place args x)
call_rule_moves m start place args x =
    let k = call_of m.old start place args.values x in
    ap (λ (z : Judged). with_values (moved_list m args) (λ vs. z)) (call_of_moves m start place args.values x)
    ∙ ap (λ (us : List Noted). record { meaning = moved_meaning m.path k.meaning; faults = args.faults ++ k.faults; uses = us })
    (two_uses m args.uses k.uses)

-- indexes and operators

bad_index_stays : (m : Move) (place : ℕ) (k : Option ValueKind) → bad_index m.new place (option_map (moved_kind m.path) k) ≡ bad_index m.old place k
unfolding bad_index
bad_index_stays m place None = refl
bad_index_stays m place (Some k) = ap (λ z. if is_int z then [] else place ∷ []) (class_stays m k)

element_meaning_moves : (m : Move) (t : Option PlainType) (start : ℕ) →
    element_meaning (option_map (moved_type m.path) t) start ≡ moved_found m.path (element_meaning t start)
element_meaning_moves m None start = refl
element_meaning_moves m (Some t) start = refl

indexed_moves : (m : Move) (start : ℕ) (fs : List ℕ) (whole : Bool) (x : Meaning) →
    indexed m.new start fs whole (moved_meaning m.path x) ≡ moved_found m.path (indexed m.old start fs whole x)
unfolding indexed
indexed_moves m start [] true (Value k a) =
    ap (λ z. element_meaning z start) (element_of_kind_moves m k) ∙ element_meaning_moves m (element_of_kind m.old k) start
indexed_moves m start [] true (TypeName t) = refl
indexed_moves m start [] true (Function s) = refl
indexed_moves m start [] true (BuiltinName b) = refl
indexed_moves m start [] true Package = refl
indexed_moves m start [] true (Results ts) = refl
indexed_moves m start [] true Broken = refl
indexed_moves m start [] false x = refl
indexed_moves m start (f ∷ fs) whole x = refl

index_of_moves : (m : Move) (start place : ℕ) (s i : Meaning) →
    index_of m.new start place (moved_meaning m.path s) (moved_meaning m.path i) ≡ moved_found m.path (index_of m.old start place s i)
unfolding index_of
index_of_moves m start place s i =
    ap2 (λ x y. indexed m.new start x y (moved_meaning m.path s)) (ap (bad_index m.new place) (value_kind_moves m i) ∙ bad_index_stays m place (value_kind i))
    (ap is_whole (value_kind_moves m i) ∙ whole_stays m (value_kind i))
    ∙ indexed_moves m start (bad_index m.old place (value_kind i)) (is_whole (value_kind i)) s

pub index_rule_moves : (m : Move) (start place : ℕ) (e : ExprTree) (i : Judged) (x : Meaning) →
    index_rule m.new start place e (moved_found m.path i) (moved_meaning m.path x) ≡ moved_found m.path (index_rule m.old start place e i x)
index_rule_moves m start place e i x =
    let s = as_value place x in
    ap (λ (z : Judged). followed z (λ s. followed (moved_found m.path i) (index_of m.new start (place_of e) s))) (as_value_moves m place x)
    ∙ followed_moves m s (λ s. followed i (index_of m.old start (place_of e) s))
    (λ s. followed (moved_found m.path i) (index_of m.new start (place_of e) s))
    (followed_moves m i (index_of m.old start (place_of e) s.meaning) (index_of m.new start (place_of e) (moved_meaning m.path s.meaning))
    (index_of_moves m start (place_of e) s.meaning i.meaning))

operation_on_moves : (m : Move) (o : BinaryOp) (start : ℕ) (a b : Option ValueKind) →
    operation_on m.new o start (option_map (moved_kind m.path) a) (option_map (moved_kind m.path) b) ≡ moved_found m.path (operation_on m.old o start a b)
operation_on_moves m o start (Some a) (Some b) =
    ap (λ z. value_or_wrong z start) (operate_moves m o a b) ∙ value_or_wrong_moves m (operate m.old o a b) start
operation_on_moves m o start (Some a) None = refl
operation_on_moves m o start None b = refl

pub operation_moves : (m : Move) (o : BinaryOp) (start : ℕ) (a b : Meaning) →
    operation m.new o start (moved_meaning m.path a) (moved_meaning m.path b) ≡ moved_found m.path (operation m.old o start a b)
unfolding operation
operation_moves m o start a b =
    ap2 (operation_on m.new o start) (value_kind_moves m a) (value_kind_moves m b) ∙ operation_on_moves m o start (value_kind a) (value_kind b)

pub prefix_moves : (m : Move) (o : PrefixOp) (place : ℕ) (x : Meaning) →
    prefix_of m.new o place (moved_meaning m.path x) ≡ moved_found m.path (prefix_of m.old o place x)
unfolding prefix_of
prefix_moves m o place (Value k a) =
    ap (λ z. means_or_wrong z place) (prefixed_moves m o k) ∙ means_or_wrong_moves m (prefixed m.old o k) place
prefix_moves m o place (TypeName t) = refl
prefix_moves m o place (Function s) = refl
prefix_moves m o place (BuiltinName b) = refl
prefix_moves m o place Package = refl
prefix_moves m o place (Results ts) = refl
prefix_moves m o place Broken = refl
