-- The rules for values, selections, calls, indexes and operators find at the new tokens what they found at the old ones.
use Rattle.std.proofs.Common.{ℕ, ◌≡◌, ◌==◌, Bool, true, false, ◌&&◌, if◌then◌else◌, List, [], ◌∷◌, ◌++◌, map, length, Option, Some, None, option_map}
use Rattle.std.proofs.Common.{refl, ap, ◌∙◌}
use Rattle.std.proofs.lemmas.List.{length-map}
use Rattle.go_ast.specs.declared.syntax.BinaryOp.{BinaryOp}
use Rattle.go_ast.specs.declared.syntax.PrefixOp.{PrefixOp}
use Rattle.types_expr.specs.declared.types.Basic.TheVariants as basic
use Rattle.types_expr.specs.declared.types.Builtin.{Builtin}
use Rattle.types_expr.specs.declared.types.Builtin.TheVariants as builtin
use Rattle.types_expr.specs.Types.{PlainType, BasicType, ValueKind, Typed, Untyped, Nil, Signature, Meaning, Value, TypeName, Function, BuiltinName}
use Rattle.types_expr.specs.Types.{Package, Results, Broken, is_interface}
use Rattle.types_expr.specs.World.{Locals, Bound, Local, Means, BrokenVariable, BrokenFunction, BrokenType, Member, member_symbol}
use Rattle.types_expr.specs.World.{World, underlying, variable, meaning_of_bound, name_meaning}
use Rattle.types_expr.specs.Operations.{enters, fits, joined, class_of, converts, operate, is_int, element_of_kind, prefixed}
use Rattle.types_expr.specs.Judge.{Noted, Judged, means, wrong, means_or_wrong, value_or_wrong, also, followed, as_value, value_kind, member_meaning}
use Rattle.types_expr.specs.Judge.{with_use, select_member, select, ListValue, JudgedList, is_whole, all_whole, misfit, misfits, all_misfits, result_meaning}
use Rattle.types_expr.specs.Judge.{unless_faults, wrong_if_whole, call_function, convert_one, convert, append_to, append_first, append, len_fits}
use Rattle.types_expr.specs.Judge.{is_printed_value, all_printed, call_when, call_builtin, call_of, with_values, bad_index, element_meaning, indexed, index_of}
use Rattle.types_expr.specs.Judge.{operation_on, operation, prefix_of, value_before, OfEntering, noting, enters_at, entering, enterings, all_enterings}
use Rattle.law_changed_types.specs.Renumbering.{AreRenumberedLocals, renumbered_bound, renumbered_noted, renumbered_uses, renumbered_found}
use Rattle.law_changed_types.proofs.Renumber.{Renumber, new, ap2, ap3, if_maps, two}

-- a value of a list, and the findings of a list
abbrev pub list_value : Renumber → ListValue → ListValue
list_value m v = record { place = m.to v.place; kind = v.kind }

abbrev pub list_values : Renumber → List ListValue → List ListValue
list_values m vs = map (list_value m) vs

abbrev pub list_found : Renumber → JudgedList → JudgedList
list_found m l = record { values = list_values m l.values; faults = map m.to l.faults; uses = renumbered_uses m.to l.uses }

-- findings one after the other

pub also_found : (m : Renumber) (j k : Judged) → also (renumbered_found m.to j) (renumbered_found m.to k) ≡ renumbered_found m.to (also j k)
also_found m j k = ap2 (λ (fs : List ℕ) (us : List Noted). record { meaning = k.meaning; faults = fs; uses = us })
    (two m.to j.faults k.faults) (two (renumbered_noted m.to) j.uses k.uses)

pub followed_found : (m : Renumber) (j : Judged) (rule later : Meaning → Judged) → later j.meaning ≡ renumbered_found m.to (rule j.meaning) →
    followed (renumbered_found m.to j) later ≡ renumbered_found m.to (followed j rule)
followed_found m j rule later e = ap (also (renumbered_found m.to j)) e ∙ also_found m j (rule j.meaning)

pub value_found : (m : Renumber) (place : ℕ) (x : Meaning) → as_value (m.to place) x ≡ renumbered_found m.to (as_value place x)
unfolding as_value
value_found m place (Value k a) = refl
value_found m place (TypeName t) = refl
value_found m place (Function s) = refl
value_found m place (BuiltinName b) = refl
value_found m place Package = refl
value_found m place (Results ts) = refl
value_found m place Broken = refl

means_or_wrong_found : (m : Renumber) (x : Option Meaning) (place : ℕ) → means_or_wrong x (m.to place) ≡ renumbered_found m.to (means_or_wrong x place)
means_or_wrong_found m None place = refl
means_or_wrong_found m (Some x) place = refl

value_or_wrong_found : (m : Renumber) (k : Option ValueKind) (place : ℕ) → value_or_wrong k (m.to place) ≡ renumbered_found m.to (value_or_wrong k place)
value_or_wrong_found m None place = refl
value_or_wrong_found m (Some k) place = refl

-- names

bound_meaning : (m : Renumber) (locals later : Locals) (l : AreRenumberedLocals m.to locals later) (b : Bound) →
    meaning_of_bound later (renumbered_bound m.to b) ≡ meaning_of_bound locals b
bound_meaning m locals later l (Local place) = ap variable (l place)
bound_meaning m locals later l (Means x) = refl
bound_meaning m locals later l BrokenVariable = refl
bound_meaning m locals later l BrokenFunction = refl
bound_meaning m locals later l BrokenType = refl

pub name_stays : (m : Renumber) (locals later : Locals) (l : AreRenumberedLocals m.to locals later) (place : ℕ) →
    name_meaning (new m) later (m.to place) ≡ name_meaning m.old locals place
name_stays m locals later l place = ap (meaning_of_bound later) (m.binds place) ∙ bound_meaning m locals later l (m.old.bound place)

-- selections

-- the selection of this member
selected : World → ℕ → PlainType → Bool → Option Member → Judged
selected w name t a x =
    with_use (record { place = name; before = t; member = option_map member_symbol x }) (means_or_wrong (member_meaning w t a x) name)

selected_found : (m : Renumber) (name : ℕ) (t : PlainType) (a : Bool) (x : Option Member) →
    selected (new m) (m.to name) t a x ≡ renumbered_found m.to (selected m.old name t a x)
unfolding selected
selected_found m name t a x =
    ap (λ (j : Judged). with_use (record { place = m.to name; before = t; member = option_map member_symbol x }) j)
    (means_or_wrong_found m (member_meaning m.old t a x) name)

member_found : (m : Renumber) (name : ℕ) (t : PlainType) (a : Bool) →
    select_member (new m) (m.to name) t a ≡ renumbered_found m.to (select_member m.old name t a)
unfolding select_member selected
member_found m name t a = ap (selected (new m) (m.to name) t a) (m.has name t) ∙ selected_found m name t a (m.old.member name t)

pub select_found : (m : Renumber) (locals later : Locals) (l : AreRenumberedLocals m.to locals later) (place name : ℕ) (x : Meaning) →
    select (new m) later (m.to place) (m.to name) x ≡ renumbered_found m.to (select m.old locals place name x)
unfolding select
select_found m locals later l place name (Value (Typed t) a) = member_found m name t a
select_found m locals later l place name (Value (Untyped b) a) = refl
select_found m locals later l place name (Value Nil a) = refl
select_found m locals later l place name (TypeName t) = refl
select_found m locals later l place name (Function s) = refl
select_found m locals later l place name (BuiltinName b) = refl
select_found m locals later l place name Package = ap means (name_stays m locals later l name)
select_found m locals later l place name (Results ts) = refl
select_found m locals later l place name Broken = refl

-- lists of values

pub all_whole_stays : (m : Renumber) (vs : List ListValue) → all_whole (list_values m vs) ≡ all_whole vs
unfolding all_whole
all_whole_stays m [] = refl
all_whole_stays m (v ∷ vs) = ap2 (λ x y. x && y) refl (all_whole_stays m vs)

pub misfit_found : (m : Renumber) (place : ℕ) (k : Option ValueKind) (t : PlainType) → misfit (new m) (m.to place) k t ≡ map m.to (misfit m.old place k t)
unfolding misfit fits
misfit_found m place None t = refl
misfit_found m place (Some k) t = if_maps (map m.to) (fits m.old k t) [] (place ∷ [])

misfits_found : (m : Renumber) (vs : List ListValue) (ts : List PlainType) → misfits (new m) (list_values m vs) ts ≡ map m.to (misfits m.old vs ts)
unfolding misfits
misfits_found m [] ts = refl
misfits_found m (v ∷ vs) [] = refl
misfits_found m (v ∷ vs) (t ∷ ts) =
    ap2 (λ (x y : List ℕ). x ++ y) (misfit_found m v.place v.kind t) (misfits_found m vs ts) ∙ two m.to (misfit m.old v.place v.kind t) (misfits m.old vs ts)

all_misfits_found : (m : Renumber) (vs : List ListValue) (t : PlainType) → all_misfits (new m) (list_values m vs) t ≡ map m.to (all_misfits m.old vs t)
unfolding all_misfits
all_misfits_found m [] t = refl
all_misfits_found m (v ∷ vs) t =
    ap2 (λ (x y : List ℕ). x ++ y) (misfit_found m v.place v.kind t) (all_misfits_found m vs t)
    ∙ two m.to (misfit m.old v.place v.kind t) (all_misfits m.old vs t)

-- entries of values into interfaces

pub noting_found : (m : Renumber) (ns : List Noted) (j : Judged) →
    noting (renumbered_uses m.to ns) (renumbered_found m.to j) ≡ renumbered_found m.to (noting ns j)
noting_found m ns j =
    ap (λ (us : List Noted). record { meaning = j.meaning; faults = map m.to j.faults; uses = us }) (two (renumbered_noted m.to) ns j.uses)

-- the entry of a value of this type, by whether the type is an interface and whether it enters another one
entry_if : (is_one enters : Bool) → ℕ → PlainType → List Noted
entry_if is_one enters place v = if is_one then [] else (if enters then OfEntering (record { place = place; own = v }) ∷ [] else [])

entry_if_found : (m : Renumber) (is_one enters : Bool) (place : ℕ) (v : PlainType) →
    entry_if is_one enters (m.to place) v ≡ renumbered_uses m.to (entry_if is_one enters place v)
unfolding entry_if
entry_if_found m true enters place v = refl
entry_if_found m false true place v = refl
entry_if_found m false false place v = refl

enters_at_found : (m : Renumber) (place : ℕ) (v t : PlainType) → enters_at (new m) (m.to place) v t ≡ renumbered_uses m.to (enters_at m.old place v t)
unfolding entry_if
enters_at_found m place v t = entry_if_found m (is_interface (underlying m.old v)) (enters m.old v (underlying m.old t)) place v

pub entering_found : (m : Renumber) (place : ℕ) (k : Option ValueKind) (t : PlainType) →
    entering (new m) (m.to place) k t ≡ renumbered_uses m.to (entering m.old place k t)
unfolding entering
entering_found m place None t = refl
entering_found m place (Some (Typed v)) t = enters_at_found m place v t
entering_found m place (Some (Untyped b)) t = enters_at_found m place (BasicType b) t
entering_found m place (Some Nil) t = refl

enterings_found : (m : Renumber) (vs : List ListValue) (ts : List PlainType) →
    enterings (new m) (list_values m vs) ts ≡ renumbered_uses m.to (enterings m.old vs ts)
unfolding enterings
enterings_found m [] ts = refl
enterings_found m (v ∷ vs) [] = refl
enterings_found m (v ∷ vs) (t ∷ ts) =
    ap2 (λ (x y : List Noted). x ++ y) (entering_found m v.place v.kind t) (enterings_found m vs ts)
    ∙ two (renumbered_noted m.to) (entering m.old v.place v.kind t) (enterings m.old vs ts)

all_enterings_found : (m : Renumber) (vs : List ListValue) (t : PlainType) →
    all_enterings (new m) (list_values m vs) t ≡ renumbered_uses m.to (all_enterings m.old vs t)
unfolding all_enterings
all_enterings_found m [] t = refl
all_enterings_found m (v ∷ vs) t =
    ap2 (λ (x y : List Noted). x ++ y) (entering_found m v.place v.kind t) (all_enterings_found m vs t)
    ∙ two (renumbered_noted m.to) (entering m.old v.place v.kind t) (all_enterings m.old vs t)

pub value_before_found : (m : Renumber) (place : ℕ) (j : Judged) (rest : JudgedList) →
    value_before (m.to place) (renumbered_found m.to j) (list_found m rest) ≡ list_found m (value_before place j rest)
value_before_found m place j rest =
    ap2 (λ (fs : List ℕ) (us : List Noted). record {
      values = record { place = m.to place; kind = value_kind j.meaning } ∷ list_values m rest.values;
      faults = fs;
      uses = us;
    }) (two m.to j.faults rest.faults) (two (renumbered_noted m.to) j.uses rest.uses)

-- calls

unless_faults_found : (m : Renumber) (fs : List ℕ) (whole : Bool) (x : Meaning) →
    unless_faults (map m.to fs) whole x ≡ renumbered_found m.to (unless_faults fs whole x)
unfolding unless_faults
unless_faults_found m [] true x = refl
unless_faults_found m [] false x = refl
unless_faults_found m (f ∷ fs) whole x = refl

wrong_if_whole_found : (m : Renumber) (vs : List ListValue) (place : ℕ) →
    wrong_if_whole (all_whole (list_values m vs)) (m.to place) ≡ renumbered_found m.to (wrong_if_whole (all_whole vs) place)
wrong_if_whole_found m vs place = ap (λ z. wrong_if_whole z (m.to place)) (all_whole_stays m vs) ∙ same (all_whole vs) where
  same : (b : Bool) → wrong_if_whole b (m.to place) ≡ renumbered_found m.to (wrong_if_whole b place)
  same true = refl
  same false = refl

-- a call with the right count of arguments or not, with these entries and faults of its arguments and this result
called : Bool → List Noted → List ℕ → Bool → Meaning → Judged → Judged
called counts ns fs whole x other = if counts then noting ns (unless_faults fs whole x) else other

called_found : (m : Renumber) (counts : Bool) (ns : List Noted) (fs : List ℕ) (whole : Bool) (x : Meaning) (j : Judged) →
    called counts (renumbered_uses m.to ns) (map m.to fs) whole x (renumbered_found m.to j) ≡ renumbered_found m.to (called counts ns fs whole x j)
unfolding called
called_found m true ns fs whole x j =
    ap (noting (renumbered_uses m.to ns)) (unless_faults_found m fs whole x) ∙ noting_found m ns (unless_faults fs whole x)
called_found m false ns fs whole x j = refl

call_function_found : (m : Renumber) (start : ℕ) (s : Signature) (vs : List ListValue) →
    call_function (new m) (m.to start) s (list_values m vs) ≡ renumbered_found m.to (call_function m.old start s vs)
unfolding call_function called
call_function_found m start s vs =
    let result = result_meaning s.results in
    let other = wrong_if_whole (all_whole (list_values m vs)) (m.to start) in
    let entries = renumbered_uses m.to (enterings m.old vs s.parameters) in
    ap (λ ns. called (length (list_values m vs) == length s.parameters) ns (misfits (new m) (list_values m vs) s.parameters) (all_whole (list_values m vs))
    result other) (enterings_found m vs s.parameters)
    ∙ (ap3 (λ c f b. called c entries f b result other)
    (ap (λ x. x == length s.parameters) (length-map vs (list_value m))) (misfits_found m vs s.parameters) (all_whole_stays m vs)
    ∙ (ap (called (length vs == length s.parameters) entries (map m.to (misfits m.old vs s.parameters)) (all_whole vs) result)
    (wrong_if_whole_found m vs start)
    ∙ called_found m (length vs == length s.parameters) (enterings m.old vs s.parameters) (misfits m.old vs s.parameters) (all_whole vs) result
    (wrong_if_whole (all_whole vs) start)))

convert_one_found : (m : Renumber) (start : ℕ) (t : PlainType) (k : Option ValueKind) →
    convert_one (new m) (m.to start) t k ≡ renumbered_found m.to (convert_one m.old start t k)
unfolding fits
convert_one_found m start t None = refl
convert_one_found m start t (Some k) = if_maps (renumbered_found m.to) (converts m.old k t) (means (Value (Typed t) false)) (wrong start)

convert_found : (m : Renumber) (start : ℕ) (t : PlainType) (vs : List ListValue) →
    convert (new m) (m.to start) t (list_values m vs) ≡ renumbered_found m.to (convert m.old start t vs)
unfolding convert
convert_found m start t [] = wrong_if_whole_found m [] start
convert_found m start t (v ∷ []) =
    ap2 (λ (ns : List Noted) (j : Judged). noting ns j) (entering_found m v.place v.kind t) (convert_one_found m start t v.kind)
    ∙ noting_found m (entering m.old v.place v.kind t) (convert_one m.old start t v.kind)
convert_found m start t (v ∷ u ∷ vs) = wrong_if_whole_found m (v ∷ u ∷ vs) start

append_to_found : (m : Renumber) (start : ℕ) (k : ValueKind) (t : Option PlainType) (vs : List ListValue) →
    append_to (new m) (m.to start) k t (list_values m vs) ≡ renumbered_found m.to (append_to m.old start k t vs)
append_to_found m start k None vs = wrong_if_whole_found m vs start
append_to_found m start k (Some t) vs =
    ap3 (λ ns x y. noting ns (unless_faults x y (Value k false))) (all_enterings_found m vs t) (all_misfits_found m vs t) (all_whole_stays m vs)
    ∙ (ap (noting (renumbered_uses m.to (all_enterings m.old vs t))) (unless_faults_found m (all_misfits m.old vs t) (all_whole vs) (Value k false))
    ∙ noting_found m (all_enterings m.old vs t) (unless_faults (all_misfits m.old vs t) (all_whole vs) (Value k false)))

append_first_found : (m : Renumber) (start : ℕ) (k : Option ValueKind) (vs : List ListValue) →
    append_first (new m) (m.to start) k (list_values m vs) ≡ renumbered_found m.to (append_first m.old start k vs)
append_first_found m start None vs = refl
append_first_found m start (Some k) vs = append_to_found m start k (element_of_kind m.old k) vs

append_found : (m : Renumber) (start : ℕ) (vs : List ListValue) → append (new m) (m.to start) (list_values m vs) ≡ renumbered_found m.to (append m.old start vs)
unfolding append
append_found m start [] = refl
append_found m start (v ∷ vs) = append_first_found m start v.kind vs

len_stays : (m : Renumber) (vs : List ListValue) → len_fits (new m) (list_values m vs) ≡ len_fits m.old vs
unfolding class_of
len_stays m [] = refl
len_stays m (v ∷ []) = refl
len_stays m (v ∷ u ∷ vs) = refl

all_printed_stay : (m : Renumber) (vs : List ListValue) → all_printed (new m) (list_values m vs) ≡ all_printed m.old vs
unfolding all_printed class_of
all_printed_stay m [] = refl
all_printed_stay m (v ∷ vs) = ap (λ y. is_printed_value m.old v.kind && y) (all_printed_stay m vs)

-- what `call_when` finds, where all arguments are whole or not
found_when : Bool → Bool → ℕ → Meaning → Judged
found_when whole fine start x = if whole then (if fine then means x else wrong start) else means Broken

found_when_found : (m : Renumber) (whole fine : Bool) (start : ℕ) (x : Meaning) →
    found_when whole fine (m.to start) x ≡ renumbered_found m.to (found_when whole fine start x)
unfolding found_when
found_when_found m true true start x = refl
found_when_found m true false start x = refl
found_when_found m false fine start x = refl

call_when_found : (m : Renumber) (fine then_fine : Bool) (vs : List ListValue) (start : ℕ) (x : Meaning) → then_fine ≡ fine →
    call_when then_fine (list_values m vs) (m.to start) x ≡ renumbered_found m.to (call_when fine vs start x)
unfolding found_when
call_when_found m fine then_fine vs start x e =
    ap2 (λ w f. found_when w f (m.to start) x) (all_whole_stays m vs) e ∙ found_when_found m (all_whole vs) fine start x

call_builtin_found : (m : Renumber) (start : ℕ) (b : Builtin) (vs : List ListValue) →
    call_builtin (new m) (m.to start) b (list_values m vs) ≡ renumbered_found m.to (call_builtin m.old start b vs)
unfolding call_builtin
call_builtin_found m start builtin.Append vs = append_found m start vs
call_builtin_found m start builtin.Len vs =
    call_when_found m (len_fits m.old vs) _ vs start (Value (Typed (BasicType basic.Int)) false) (len_stays m vs)
call_builtin_found m start builtin.Panic vs = call_when_found m (length vs == 1) _ vs start (Results []) (ap (λ z. z == 1) (length-map vs (list_value m)))
call_builtin_found m start builtin.Print vs = call_when_found m (all_printed m.old vs) _ vs start (Results []) (all_printed_stay m vs)
call_builtin_found m start builtin.Println vs = call_when_found m (all_printed m.old vs) _ vs start (Results []) (all_printed_stay m vs)

call_of_found : (m : Renumber) (start place : ℕ) (vs : List ListValue) (x : Meaning) →
    call_of (new m) (m.to start) (m.to place) (list_values m vs) x ≡ renumbered_found m.to (call_of m.old start place vs x)
unfolding call_of
call_of_found m start place vs (Function s) = call_function_found m start s vs
call_of_found m start place vs (TypeName t) = convert_found m start t vs
call_of_found m start place vs (BuiltinName b) = call_builtin_found m start b vs
call_of_found m start place vs (Value k a) = wrong_if_whole_found m vs start
call_of_found m start place vs Broken = refl
call_of_found m start place vs Package = refl
call_of_found m start place vs (Results ts) = refl

pub call_found : (m : Renumber) (start place : ℕ) (args : JudgedList) (x : Meaning) →
    with_values (list_found m args) (λ vs. call_of (new m) (m.to start) (m.to place) vs x) ≡
    renumbered_found m.to (with_values args (λ vs. call_of m.old start place vs x))
call_found m start place args x =
    let k = call_of m.old start place args.values x in
    ap (λ (z : Judged). with_values (list_found m args) (λ vs. z)) (call_of_found m start place args.values x)
    ∙ ap2 (λ (fs : List ℕ) (us : List Noted). record { meaning = k.meaning; faults = fs; uses = us }) (two m.to args.faults k.faults)
    (two (renumbered_noted m.to) args.uses k.uses)

-- indexes and operators

bad_index_found : (m : Renumber) (place : ℕ) (k : Option ValueKind) → bad_index (new m) (m.to place) k ≡ map m.to (bad_index m.old place k)
unfolding bad_index class_of
bad_index_found m place None = refl
bad_index_found m place (Some k) = if_maps (map m.to) (is_int (class_of m.old k)) [] (place ∷ [])

element_meaning_found : (m : Renumber) (t : Option PlainType) (start : ℕ) → element_meaning t (m.to start) ≡ renumbered_found m.to (element_meaning t start)
element_meaning_found m None start = refl
element_meaning_found m (Some t) start = refl

indexed_found : (m : Renumber) (start : ℕ) (fs : List ℕ) (whole : Bool) (x : Meaning) →
    indexed (new m) (m.to start) (map m.to fs) whole x ≡ renumbered_found m.to (indexed m.old start fs whole x)
unfolding indexed
indexed_found m start [] true (Value k a) = element_meaning_found m (element_of_kind m.old k) start
indexed_found m start [] true (TypeName t) = refl
indexed_found m start [] true (Function s) = refl
indexed_found m start [] true (BuiltinName b) = refl
indexed_found m start [] true Package = refl
indexed_found m start [] true (Results ts) = refl
indexed_found m start [] true Broken = refl
indexed_found m start [] false x = refl
indexed_found m start (f ∷ fs) whole x = refl

index_of_found : (m : Renumber) (start place : ℕ) (s i : Meaning) →
    index_of (new m) (m.to start) (m.to place) s i ≡ renumbered_found m.to (index_of m.old start place s i)
unfolding index_of
index_of_found m start place s i =
    ap (λ x. indexed (new m) (m.to start) x (is_whole (value_kind i)) s) (bad_index_found m place (value_kind i))
    ∙ indexed_found m start (bad_index m.old place (value_kind i)) (is_whole (value_kind i)) s

-- the index expression with an index that is judged as i and reports its faults at `at`
pub index_found : (m : Renumber) (start place at : ℕ) (i : Judged) (x : Meaning) →
    followed (as_value (m.to place) x) (λ s. followed (renumbered_found m.to i) (index_of (new m) (m.to start) (m.to at) s)) ≡
    renumbered_found m.to (followed (as_value place x) (λ s. followed i (index_of m.old start at s)))
index_found m start place at i x =
    let s = as_value place x in
    ap (λ (z : Judged). followed z (λ s. followed (renumbered_found m.to i) (index_of (new m) (m.to start) (m.to at) s))) (value_found m place x)
    ∙ followed_found m s (λ s. followed i (index_of m.old start at s))
    (λ s. followed (renumbered_found m.to i) (index_of (new m) (m.to start) (m.to at) s))
    (followed_found m i (index_of m.old start at s.meaning) (index_of (new m) (m.to start) (m.to at) s.meaning)
    (index_of_found m start at s.meaning i.meaning))

operation_on_found : (m : Renumber) (o : BinaryOp) (start : ℕ) (a b : Option ValueKind) →
    operation_on (new m) o (m.to start) a b ≡ renumbered_found m.to (operation_on m.old o start a b)
unfolding operate joined class_of fits
operation_on_found m o start (Some a) (Some b) = value_or_wrong_found m (operate m.old o a b) start
operation_on_found m o start (Some a) None = refl
operation_on_found m o start None b = refl

pub operation_found : (m : Renumber) (o : BinaryOp) (start : ℕ) (a b : Meaning) →
    operation (new m) o (m.to start) a b ≡ renumbered_found m.to (operation m.old o start a b)
unfolding operation
operation_found m o start a b = operation_on_found m o start (value_kind a) (value_kind b)

pub prefix_found : (m : Renumber) (o : PrefixOp) (place : ℕ) (x : Meaning) →
    prefix_of (new m) o (m.to place) x ≡ renumbered_found m.to (prefix_of m.old o place x)
unfolding prefix_of prefixed class_of
prefix_found m o place (Value k a) = means_or_wrong_found m (prefixed m.old o k) place
prefix_found m o place (TypeName t) = refl
prefix_found m o place (Function s) = refl
prefix_found m o place (BuiltinName b) = refl
prefix_found m o place Package = refl
prefix_found m o place (Results ts) = refl
prefix_found m o place Broken = refl
