-- The two sides of assignments and declarations give moved findings for moved parts.
use Rattle.std.proofs.Common.{ℕ, ◌≡◌, ◌==◌, Bool, ◌&&◌, true, false, if◌then◌else◌, List, [], ◌∷◌, ◌++◌, map, length, Option, Some, None, option_map}
use Rattle.std.proofs.Common.{refl, sym, ap, ◌∙◌}
use Rattle.std.proofs.Math.Path.{fun_ext}
use Rattle.std.proofs.lemmas.List.{map-append, length-map}
use Rattle.go_ast.specs.Tree.{Item, ExprTree, Name, Blank}
use Rattle.types_expr.specs.Places.{place_of}
use Rattle.types_expr.specs.Types.{PlainType, ValueKind, Typed, Untyped, Nil, Meaning, Value, TypeName, Function, BuiltinName, Package, Results, Broken}
use Rattle.types_expr.specs.World.{Locals, Bound, Local, Means, BrokenVariable, BrokenFunction, BrokenType, name_meaning}
use Rattle.types_expr.specs.Judge.{Noted, Judged, JudgedList, ListValue, means, followed, as_value, value_kind, value_at, value_before}
use Rattle.types_expr.specs.Judge.{judge, judge_value}
use Rattle.types_stmt.specs.Checked.{fault_if}
use Rattle.types_stmt.specs.Sides.{result_at, results_at, values_of, list_followed, judge_each, rhs, Target, Takes, Wants, is_unbroken, all_unbroken}
use Rattle.types_stmt.specs.Sides.{nil_refused, refused_at, all_refused, given_faults, Lefts, left_side, join_lefts, assignable, judge_operand, own_type}
use Rattle.types_stmt.specs.Sides.{assigned_one, assigned, is_own, declares, no_name, reassigned, defined_one, defined, default_type, inferred_type}
use Rattle.types_stmt.specs.Sides.{inferred_types, inferred, head_or_none, tail_of, declared_if, with_locals, with_inferred, defined_name, defined_names}
use Rattle.types_stmt.specs.Sides.{entered_at, all_entered, given_enterings}
use Rattle.law_changed_types.specs.Moved.{moved_type, moved_kind, moved_meaning, moved_bound, moved_locals, moved_noted, moved_found, moved_target}
use Rattle.law_changed_types.proofs.Moving.{Move, Moves, of_first, of_second, ap2, ap3, if_moves}
use Rattle.law_changed_types.proofs.RulesMove.{moved_value, moved_values, moved_list, two_uses, followed_moves, value_at_moves, value_before_moves, name_moves}
use Rattle.law_changed_types.proofs.RulesMove.{all_whole_stays, same_misfit, entering_moves}
use Rattle.law_changed_types.proofs.FoundMove.{value_moves, found_moves}

abbrev pub moved_targets : Move → List Target → List Target
moved_targets m ts = map (moved_target m.path) ts

abbrev pub moved_lefts : Move → Lefts → Lefts
moved_lefts m l = record { targets = moved_targets m l.targets; faults = l.faults; uses = map (moved_noted m.path) l.uses }

abbrev pub moved_types : Move → List (Option PlainType) → List (Option PlainType)
moved_types m ts = map (option_map (moved_type m.path)) ts

-- right sides

pub judged_value_moves : (m : Move) (locals : Locals) (e : ExprTree) → Moves m (judge_value m.old locals e).uses →
    judge_value m.new (moved_locals m.path locals) e ≡ moved_found m.path (judge_value m.old locals e)
judged_value_moves m locals e h =
    value_moves e (judge m.old locals e) (judge m.new (moved_locals m.path locals) e) (λ q. found_moves m locals e q) h

results_move : (m : Move) (place : ℕ) (ts : List PlainType) → results_at place (map (moved_type m.path) ts) ≡ moved_values m (results_at place ts)
results_move m place [] = refl
results_move m place (t ∷ ts) = ap (λ z. result_at place (moved_type m.path t) ∷ z) (results_move m place ts)

values_move : (m : Move) (place : ℕ) (x : Meaning) → values_of place (moved_meaning m.path x) ≡ moved_list m (values_of place x)
unfolding values_of as_value value_kind
values_move m place (Results ts) = ap (λ (z : List ListValue). record { values = z; faults = []; uses = [] }) (results_move m place ts)
values_move m place (Value k a) = refl
values_move m place (TypeName t) = refl
values_move m place (Function s) = refl
values_move m place (BuiltinName b) = refl
values_move m place Package = refl
values_move m place Broken = refl

list_followed_moves : (m : Move) (j : Judged) (old new : Meaning → JudgedList) → new (moved_meaning m.path j.meaning) ≡ moved_list m (old j.meaning) →
    list_followed (moved_found m.path j) new ≡ moved_list m (list_followed j old)
list_followed_moves m j old new e =
    ap (λ (z : JudgedList). list_followed (moved_found m.path j) (λ x. z)) e
    ∙ ap (λ (us : List Noted). record {
      values = moved_values m (old j.meaning).values;
      faults = j.faults ++ (old j.meaning).faults;
      uses = us;
    }) (two_uses m j.uses (old j.meaning).uses)

each_moves : (m : Move) (locals : Locals) (is : List (Item ExprTree)) → Moves m (judge_each m.old locals is).uses →
    judge_each m.new (moved_locals m.path locals) is ≡ moved_list m (judge_each m.old locals is)
unfolding judge_each
each_moves m locals [] h = refl
each_moves m locals (i ∷ is) h =
    let j = judge_value m.old locals i.value in
    let others = judge_each m.old locals is in
    ap2 (λ (z : Judged) (y : JudgedList). value_before (place_of i.value) z y) (judged_value_moves m locals i.value (of_first j.uses others.uses h))
    (each_moves m locals is (of_second j.uses others.uses h))
    ∙ value_before_moves m (place_of i.value) j others

pub rhs_moves : (m : Move) (locals : Locals) (is : List (Item ExprTree)) → Moves m (rhs m.old locals is).uses →
    rhs m.new (moved_locals m.path locals) is ≡ moved_list m (rhs m.old locals is)
unfolding rhs
rhs_moves m locals [] h = each_moves m locals [] h
rhs_moves m locals (i ∷ []) h =
    let j = judge m.old locals i.value in
    let rule = values_of (place_of i.value) in
    ap (λ (z : Judged). list_followed z rule) (found_moves m locals i.value (of_first j.uses (rule j.meaning).uses h))
    ∙ list_followed_moves m j rule rule (values_move m (place_of i.value) j.meaning)
rhs_moves m locals (i ∷ k ∷ is) h = each_moves m locals (i ∷ k ∷ is) h

-- left sides

assignable_moves : (m : Move) (place : ℕ) (x : Meaning) → assignable place (moved_meaning m.path x) ≡ moved_found m.path (assignable place x)
unfolding assignable
assignable_moves m place (Value k true) = refl
assignable_moves m place (Value k false) = refl
assignable_moves m place (TypeName t) = refl
assignable_moves m place (Function s) = refl
assignable_moves m place (BuiltinName b) = refl
assignable_moves m place Package = refl
assignable_moves m place (Results ts) = refl
assignable_moves m place Broken = refl

pub operand_moves : (m : Move) (locals : Locals) (e : ExprTree) → Moves m (judge_operand m.old locals e).uses →
    judge_operand m.new (moved_locals m.path locals) e ≡ moved_found m.path (judge_operand m.old locals e)
operand_moves m locals e h =
    let j = judge m.old locals e in
    let rule = assignable (place_of e) in
    ap (λ (z : Judged). followed z rule) (found_moves m locals e (of_first j.uses (rule j.meaning).uses h))
    ∙ followed_moves m j rule rule (assignable_moves m (place_of e) j.meaning)

own_type_moves : (m : Move) (x : Meaning) → own_type (moved_meaning m.path x) ≡ option_map (moved_type m.path) (own_type x)
unfolding own_type
own_type_moves m (Value (Typed t) a) = refl
own_type_moves m (Value (Untyped b) a) = refl
own_type_moves m (Value Nil a) = refl
own_type_moves m (TypeName t) = refl
own_type_moves m (Function s) = refl
own_type_moves m (BuiltinName b) = refl
own_type_moves m Package = refl
own_type_moves m (Results ts) = refl
own_type_moves m Broken = refl

-- a left side that wants values of its own type
wanting_moves : (m : Move) (j k : Judged) → k ≡ moved_found m.path j →
    left_side (Wants (own_type k.meaning)) k ≡ moved_lefts m (left_side (Wants (own_type j.meaning)) j)
wanting_moves m j k e =
    ap (λ (z : Judged). left_side (Wants (own_type z.meaning)) z) e
    ∙ ap (λ (z : Option PlainType). left_side (Wants z) (moved_found m.path j)) (own_type_moves m j.meaning)

join_moves : (m : Move) (a b : Lefts) → join_lefts (moved_lefts m a) (moved_lefts m b) ≡ moved_lefts m (join_lefts a b)
join_moves m a b = ap2 (λ (ts : List Target) (us : List Noted). record { targets = ts; faults = a.faults ++ b.faults; uses = us })
    (sym (map-append (moved_target m.path) a.targets b.targets)) (two_uses m a.uses b.uses)

assigned_one_moves : (m : Move) (locals : Locals) (e : ExprTree) → Moves m (assigned_one m.old locals e).uses →
    assigned_one m.new (moved_locals m.path locals) e ≡ moved_lefts m (assigned_one m.old locals e)
unfolding assigned_one
assigned_one_moves m locals (Blank p) h = refl
assigned_one_moves m locals e h = wanting_moves m (judge_operand m.old locals e) _ (operand_moves m locals e h)

pub assigned_moves : (m : Move) (locals : Locals) (is : List (Item ExprTree)) → Moves m (assigned m.old locals is).uses →
    assigned m.new (moved_locals m.path locals) is ≡ moved_lefts m (assigned m.old locals is)
unfolding assigned
assigned_moves m locals [] h = refl
assigned_moves m locals (i ∷ is) h =
    let one = assigned_one m.old locals i.value in
    let others = assigned m.old locals is in
    ap2 (λ (y z : Lefts). join_lefts y z) (assigned_one_moves m locals i.value (of_first one.uses others.uses h))
    (assigned_moves m locals is (of_second one.uses others.uses h))
    ∙ join_moves m one others

own_stays : (m : Move) (p : ℕ) (b : Bound) → is_own p (moved_bound m.path b) ≡ is_own p b
own_stays m p (Local d) = refl
own_stays m p (Means x) = refl
own_stays m p BrokenVariable = refl
own_stays m p BrokenFunction = refl
own_stays m p BrokenType = refl

declares_stays : (m : Move) (p : ℕ) → declares m.new p ≡ declares m.old p
declares_stays m p = ap (is_own p) (m.bound p) ∙ own_stays m p (m.old.bound p)

no_name_moves : (m : Move) (place : ℕ) (x : Meaning) → no_name place (moved_meaning m.path x) ≡ moved_found m.path (no_name place x)
unfolding no_name
no_name_moves m place (Value k a) = refl
no_name_moves m place (TypeName t) = refl
no_name_moves m place (Function s) = refl
no_name_moves m place (BuiltinName b) = refl
no_name_moves m place Package = refl
no_name_moves m place (Results ts) = refl
no_name_moves m place Broken = refl

reassigned_moves : (m : Move) (locals : Locals) (p : ℕ) → reassigned m.new (moved_locals m.path locals) p ≡ moved_lefts m (reassigned m.old locals p)
unfolding judge
reassigned_moves m locals p =
    wanting_moves m (judge_value m.old locals (Name p)) _
    (ap (λ (x : Meaning). value_at (Name p) (means x)) (name_moves m locals p) ∙ value_at_moves m (Name p) (means (name_meaning m.old locals p)))

defined_one_moves : (m : Move) (locals : Locals) (e : ExprTree) → Moves m (defined_one m.old locals e).uses →
    defined_one m.new (moved_locals m.path locals) e ≡ moved_lefts m (defined_one m.old locals e)
unfolding defined_one
defined_one_moves m locals (Blank p) h = refl
defined_one_moves m locals (Name p) h =
    ap2 (λ (c : Bool) (z : Lefts). if c then left_side Takes (means Broken) else z) (declares_stays m p) (reassigned_moves m locals p)
    ∙ if_moves (moved_lefts m) (declares m.old p) (declares m.old p) (left_side Takes (means Broken)) (reassigned m.old locals p) refl
defined_one_moves m locals e h =
    let j = judge_value m.old locals e in
    let rule = no_name (place_of e) in
    ap (λ (z : Judged). left_side (Wants None) z)
    (ap (λ (z : Judged). followed z rule) (judged_value_moves m locals e (of_first j.uses (rule j.meaning).uses h))
    ∙ followed_moves m j rule rule (no_name_moves m (place_of e) j.meaning))

pub defined_moves : (m : Move) (locals : Locals) (is : List (Item ExprTree)) → Moves m (defined m.old locals is).uses →
    defined m.new (moved_locals m.path locals) is ≡ moved_lefts m (defined m.old locals is)
unfolding defined
defined_moves m locals [] h = refl
defined_moves m locals (i ∷ is) h =
    let one = defined_one m.old locals i.value in
    let others = defined m.old locals is in
    ap2 (λ (y z : Lefts). join_lefts y z) (defined_one_moves m locals i.value (of_first one.uses others.uses h))
    (defined_moves m locals is (of_second one.uses others.uses h))
    ∙ join_moves m one others

-- targets

nil_stays : (m : Move) (place : ℕ) (k : Option ValueKind) → nil_refused place (option_map (moved_kind m.path) k) ≡ nil_refused place k
unfolding nil_refused
nil_stays m place None = refl
nil_stays m place (Some (Typed t)) = refl
nil_stays m place (Some (Untyped b)) = refl
nil_stays m place (Some Nil) = refl

refused_stays : (m : Move) (place : ℕ) (k : Option ValueKind) (t : Target) →
    refused_at m.new place (option_map (moved_kind m.path) k) (moved_target m.path t) ≡ refused_at m.old place k t
unfolding refused_at
refused_stays m place k (Wants None) = refl
refused_stays m place k (Wants (Some t)) = same_misfit m place k t
refused_stays m place k Takes = nil_stays m place k

pub all_refused_stay : (m : Move) (vs : List ListValue) (ts : List Target) →
    all_refused m.new (moved_values m vs) (moved_targets m ts) ≡ all_refused m.old vs ts
unfolding all_refused
all_refused_stay m [] ts = refl
all_refused_stay m (v ∷ vs) [] = refl
all_refused_stay m (v ∷ vs) (t ∷ ts) = ap2 (λ x y. x ++ y) (refused_stays m v.place v.kind t) (all_refused_stay m vs ts)

-- entries into targets

entered_moves : (m : Move) (place : ℕ) (k : Option ValueKind) (t : Target) →
    entered_at m.new place (option_map (moved_kind m.path) k) (moved_target m.path t) ≡ map (moved_noted m.path) (entered_at m.old place k t)
unfolding entered_at
entered_moves m place k (Wants None) = refl
entered_moves m place k (Wants (Some t)) = entering_moves m place k t
entered_moves m place k Takes = refl

pub all_entered_move : (m : Move) (vs : List ListValue) (ts : List Target) →
    all_entered m.new (moved_values m vs) (moved_targets m ts) ≡ map (moved_noted m.path) (all_entered m.old vs ts)
unfolding all_entered
all_entered_move m [] ts = refl
all_entered_move m (v ∷ vs) [] = refl
all_entered_move m (v ∷ vs) (t ∷ ts) =
    ap2 (λ x y. x ++ y) (entered_moves m v.place v.kind t) (all_entered_move m vs ts) ∙ two_uses m (entered_at m.old v.place v.kind t) (all_entered m.old vs ts)

-- none where the count is wrong
pub none_moves : (m : Move) (c : Bool) (ns : List Noted) → (if c then map (moved_noted m.path) ns else []) ≡ map (moved_noted m.path) (if c then ns else [])
none_moves m true ns = refl
none_moves m false ns = refl

unbroken_stays : (m : Move) (t : Target) → is_unbroken (moved_target m.path t) ≡ is_unbroken t
unbroken_stays m Takes = refl
unbroken_stays m (Wants None) = refl
unbroken_stays m (Wants (Some t)) = refl

all_unbroken_stay : (m : Move) (ts : List Target) → all_unbroken (moved_targets m ts) ≡ all_unbroken ts
all_unbroken_stay m [] = refl
all_unbroken_stay m (t ∷ ts) = ap2 (λ x y. x && y) (unbroken_stays m t) (all_unbroken_stay m ts)

pub counts_stay : (m : Move) (vs : List ListValue) (ts : List Target) →
    (length (moved_values m vs) == length (moved_targets m ts)) ≡ (length vs == length ts)
counts_stay m vs ts = ap2 (λ x y. x == y) (length-map vs (moved_value m)) (length-map ts (moved_target m.path))

pub given_faults_stay : (m : Move) (place : ℕ) (vs : List ListValue) (ts : List Target) →
    given_faults m.new place (moved_values m vs) (moved_targets m ts) ≡ given_faults m.old place vs ts
unfolding given_faults
given_faults_stay m place vs ts =
    ap3 (λ (c : Bool) (fs : List ℕ) (b : Bool). if c then fs else fault_if b place) (counts_stay m vs ts) (all_refused_stay m vs ts)
    (ap2 (λ x y. x && y) (all_whole_stays m vs) (all_unbroken_stay m ts))

pub given_enterings_move : (m : Move) (vs : List ListValue) (ts : List Target) →
    given_enterings m.new (moved_values m vs) (moved_targets m ts) ≡ map (moved_noted m.path) (given_enterings m.old vs ts)
unfolding given_enterings
given_enterings_move m vs ts =
    ap2 (λ (c : Bool) (ns : List Noted). if c then ns else []) (counts_stay m vs ts) (all_entered_move m vs ts)
    ∙ none_moves m (length vs == length ts) (all_entered m.old vs ts)

-- locals

default_moves : (m : Move) (k : ValueKind) → default_type (moved_kind m.path k) ≡ option_map (moved_type m.path) (default_type k)
unfolding default_type
default_moves m (Typed t) = refl
default_moves m (Untyped b) = refl
default_moves m Nil = refl

inferred_type_moves : (m : Move) (k : Option ValueKind) → inferred_type (option_map (moved_kind m.path) k) ≡ option_map (moved_type m.path) (inferred_type k)
unfolding inferred_type
inferred_type_moves m None = refl
inferred_type_moves m (Some k) = default_moves m k

inferred_types_move : (m : Move) (vs : List ListValue) → inferred_types (moved_values m vs) ≡ moved_types m (inferred_types vs)
inferred_types_move m [] = refl
inferred_types_move m (v ∷ vs) = ap2 (λ (t : Option PlainType) (ts : List (Option PlainType)). t ∷ ts) (inferred_type_moves m v.kind) (inferred_types_move m vs)

inferred_moves : (m : Move) (count : ℕ) (vs : List ListValue) → inferred count (moved_values m vs) ≡ moved_types m (inferred count vs)
unfolding inferred
inferred_moves m count vs =
    ap2 (λ (c : Bool) (ts : List (Option PlainType)). if c then ts else []) (ap (λ z. z == count) (length-map vs (moved_value m))) (inferred_types_move m vs)
    ∙ if_moves (moved_types m) (length vs == count) (length vs == count) (inferred_types vs) [] refl

head_moves : (m : Move) (ts : List (Option PlainType)) → head_or_none (moved_types m ts) ≡ option_map (moved_type m.path) (head_or_none ts)
head_moves m [] = refl
head_moves m (t ∷ ts) = refl

tail_moves : (m : Move) (ts : List (Option PlainType)) → tail_of (moved_types m ts) ≡ moved_types m (tail_of ts)
tail_moves m [] = refl
tail_moves m (t ∷ ts) = refl

declared_moves : (m : Move) (ls : Locals) (n : Option ℕ) (t : Option PlainType) →
    declared_if (moved_locals m.path ls) n (option_map (moved_type m.path) t) ≡ moved_locals m.path (declared_if ls n t)
declared_moves m ls None t = refl
declared_moves m ls (Some p) t = fun_ext (λ place. if_moves (option_map (moved_type m.path)) (place == p) (place == p) t (ls place) refl)

pub with_locals_moves : (m : Move) (ls : Locals) (ns : List (Option ℕ)) (ts : List (Option PlainType)) →
    with_locals (moved_locals m.path ls) ns (moved_types m ts) ≡ moved_locals m.path (with_locals ls ns ts)
unfolding with_locals
with_locals_moves m ls [] ts = refl
with_locals_moves m ls (n ∷ ns) ts =
    ap2 (λ (y : Locals) (z : List (Option PlainType)). with_locals y ns z)
    (ap (declared_if (moved_locals m.path ls) n) (head_moves m ts) ∙ declared_moves m ls n (head_or_none ts)) (tail_moves m ts)
    ∙ with_locals_moves m (declared_if ls n (head_or_none ts)) ns (tail_of ts)

pub with_inferred_moves : (m : Move) (ls : Locals) (ns : List (Option ℕ)) (vs : List ListValue) →
    with_inferred (moved_locals m.path ls) ns (moved_values m vs) ≡ moved_locals m.path (with_inferred ls ns vs)
with_inferred_moves m ls ns vs =
    ap (with_locals (moved_locals m.path ls) ns) (inferred_moves m (length ns) vs) ∙ with_locals_moves m ls ns (inferred (length ns) vs)

defined_name_stays : (m : Move) (e : ExprTree) → defined_name m.new e ≡ defined_name m.old e
unfolding defined_name
defined_name_stays m (Name p) = ap (λ (c : Bool). if c then Some p else None) (declares_stays m p)
defined_name_stays m e = refl

pub defined_names_stay : (m : Move) (is : List (Item ExprTree)) → defined_names m.new is ≡ defined_names m.old is
defined_names_stay m [] = refl
defined_names_stay m (i ∷ is) = ap2 (λ (n : Option ℕ) (ns : List (Option ℕ)). n ∷ ns) (defined_name_stays m i.value) (defined_names_stay m is)
