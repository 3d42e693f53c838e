-- The two sides of assignments and declarations find at the new tokens what they found at the old ones.
use Rattle.std.proofs.Common.{ℕ, ◌≡◌, ◌==◌, Bool, ◌&&◌, true, false, if◌then◌else◌, List, [], ◌∷◌, ◌++◌, map, length, Option, Some, None, option_map}
use Rattle.std.proofs.Common.{refl, ap, ◌∙◌}
use Rattle.std.proofs.lemmas.List.{length-map}
use Rattle.go_ast.specs.Tree.{Item, IdentTree, Named, Underscore, ExprTree, Name, Blank}
use Rattle.types_expr.specs.Places.{place_of}
use Rattle.types_expr.specs.Types.{PlainType, ValueKind, Typed, Untyped, Nil, Meaning, Value, TypeName, Function, BuiltinName, Package, Results, Broken}
use Rattle.types_expr.specs.World.{Locals, Bound, Local, Means, BrokenVariable, BrokenFunction, BrokenType}
use Rattle.types_expr.specs.Judge.{Noted, Judged, JudgedList, ListValue, means, followed, as_value, value_kind, value_before}
use Rattle.types_expr.specs.Judge.{judge, judge_value, all_whole}
use Rattle.types_stmt.specs.Checked.{fault_if}
use Rattle.types_stmt.specs.Sides.{result_at, results_at, values_of, list_followed, judge_each, rhs, Target, Takes, Wants, all_unbroken}
use Rattle.types_stmt.specs.Sides.{nil_refused, refused_at, all_refused, given_faults, Lefts, left_side, join_lefts, assignable, judge_operand, own_type}
use Rattle.types_stmt.specs.Sides.{assigned_one, assigned, is_own, declares, no_name, reassigned, defined_one, defined, inferred_type}
use Rattle.types_stmt.specs.Sides.{inferred_types, inferred, head_or_none, tail_of, declared_if, with_locals, with_inferred, defined_name, defined_names}
use Rattle.types_stmt.specs.Sides.{named, all_named, entered_at, all_entered, given_enterings}
use Rattle.law_rename.specs.Renumbered.{items_by, ident_by, expr_by, exprs_by}
use Rattle.law_changed_types.specs.Renumbering.{AreRenumberedLocals, renumbered_bound, renumbered_noted, renumbered_uses, renumbered_found}
use Rattle.law_changed_types.proofs.Renumber.{Renumber, new, ap2, ap3, if_maps, two, same_token}
use Rattle.law_changed_types.proofs.RenumberedTokensRules.{list_value, list_values, list_found}
use Rattle.law_changed_types.proofs.RenumberedTokensRules.{followed_found, value_before_found, all_whole_stays, misfit_found}
use Rattle.law_changed_types.proofs.RenumberedTokensRules.{entering_found}
use Rattle.law_changed_types.proofs.Places.{reports}
use Rattle.law_changed_types.proofs.Found.{Judging, at_value, found}

abbrev pub lefts_found : Renumber → Lefts → Lefts
lefts_found m l = record { targets = l.targets; faults = map m.to l.faults; uses = renumbered_uses m.to l.uses }

-- right sides

pub judged_value_found : (c : Judging) (e : ExprTree) →
    judge_value (new c.by) c.later (expr_by c.by.to e) ≡ renumbered_found c.by.to (judge_value c.by.old c.locals e)
judged_value_found c e = at_value c.by e (judge c.by.old c.locals e) _ (found c e)

results_are : (m : Renumber) (place : ℕ) (ts : List PlainType) → results_at (m.to place) ts ≡ list_values m (results_at place ts)
results_are m place [] = refl
results_are m place (t ∷ ts) = ap (λ z. result_at (m.to place) t ∷ z) (results_are m place ts)

values_are : (m : Renumber) (place : ℕ) (x : Meaning) → values_of (m.to place) x ≡ list_found m (values_of place x)
unfolding values_of as_value value_kind
values_are m place (Results ts) = ap (λ (z : List ListValue). record { values = z; faults = []; uses = [] }) (results_are m place ts)
values_are m place (Value k a) = refl
values_are m place (TypeName t) = refl
values_are m place (Function s) = refl
values_are m place (BuiltinName b) = refl
values_are m place Package = refl
values_are m place Broken = refl

list_followed_found : (m : Renumber) (j : Judged) (rule later : Meaning → JudgedList) → later j.meaning ≡ list_found m (rule j.meaning) →
    list_followed (renumbered_found m.to j) later ≡ list_found m (list_followed j rule)
list_followed_found m j rule later e =
    ap (λ (z : JudgedList). list_followed (renumbered_found m.to j) (λ x. z)) e
    ∙ ap2 (λ (fs : List ℕ) (us : List Noted). record { values = list_values m (rule j.meaning).values; faults = fs; uses = us })
    (two m.to j.faults (rule j.meaning).faults) (two (renumbered_noted m.to) j.uses (rule j.meaning).uses)

each_found : (c : Judging) (is : List (Item ExprTree)) →
    judge_each (new c.by) c.later (exprs_by c.by.to is) ≡ list_found c.by (judge_each c.by.old c.locals is)
unfolding judge_each
each_found c [] = refl
each_found c (i ∷ is) =
    ap3 (λ (place : ℕ) (z : Judged) (y : JudgedList). value_before place z y) (reports c.by i.value) (judged_value_found c i.value) (each_found c is)
    ∙ value_before_found c.by (place_of i.value) (judge_value c.by.old c.locals i.value) (judge_each c.by.old c.locals is)

pub rhs_found : (c : Judging) (is : List (Item ExprTree)) → rhs (new c.by) c.later (exprs_by c.by.to is) ≡ list_found c.by (rhs c.by.old c.locals is)
unfolding rhs
rhs_found c [] = each_found c []
rhs_found c (i ∷ []) =
    let j = judge c.by.old c.locals i.value in
    ap2 (λ (place : ℕ) (z : Judged). list_followed z (values_of place)) (reports c.by i.value) (found c i.value)
    ∙ list_followed_found c.by j (values_of (place_of i.value)) (values_of (c.by.to (place_of i.value))) (values_are c.by (place_of i.value) j.meaning)
rhs_found c (i ∷ k ∷ is) = each_found c (i ∷ k ∷ is)

-- left sides

assignable_found : (m : Renumber) (place : ℕ) (x : Meaning) → assignable (m.to place) x ≡ renumbered_found m.to (assignable place x)
unfolding assignable
assignable_found m place (Value k true) = refl
assignable_found m place (Value k false) = refl
assignable_found m place (TypeName t) = refl
assignable_found m place (Function s) = refl
assignable_found m place (BuiltinName b) = refl
assignable_found m place Package = refl
assignable_found m place (Results ts) = refl
assignable_found m place Broken = refl

pub operand_found : (c : Judging) (e : ExprTree) →
    judge_operand (new c.by) c.later (expr_by c.by.to e) ≡ renumbered_found c.by.to (judge_operand c.by.old c.locals e)
operand_found c e =
    let j = judge c.by.old c.locals e in
    ap2 (λ (place : ℕ) (z : Judged). followed z (assignable place)) (reports c.by e) (found c e)
    ∙ followed_found c.by j (assignable (place_of e)) (assignable (c.by.to (place_of e))) (assignable_found c.by (place_of e) j.meaning)

-- a left side that wants values of its own type
wanting_found : (m : Renumber) (j k : Judged) → k ≡ renumbered_found m.to j →
    left_side (Wants (own_type k.meaning)) k ≡ lefts_found m (left_side (Wants (own_type j.meaning)) j)
wanting_found m j k e = ap (λ (z : Judged). left_side (Wants (own_type z.meaning)) z) e

join_found : (m : Renumber) (a b : Lefts) → join_lefts (lefts_found m a) (lefts_found m b) ≡ lefts_found m (join_lefts a b)
join_found m a b = ap2 (λ (fs : List ℕ) (us : List Noted). record { targets = a.targets ++ b.targets; faults = fs; uses = us })
    (two m.to a.faults b.faults) (two (renumbered_noted m.to) a.uses b.uses)

assigned_one_found : (c : Judging) (e : ExprTree) →
    assigned_one (new c.by) c.later (expr_by c.by.to e) ≡ lefts_found c.by (assigned_one c.by.old c.locals e)
unfolding assigned_one expr_by
assigned_one_found c (Blank p) = refl
assigned_one_found c e = wanting_found c.by (judge_operand c.by.old c.locals e) _ (operand_found c e)

pub assigned_found : (c : Judging) (is : List (Item ExprTree)) →
    assigned (new c.by) c.later (exprs_by c.by.to is) ≡ lefts_found c.by (assigned c.by.old c.locals is)
unfolding assigned
assigned_found c [] = refl
assigned_found c (i ∷ is) =
    ap2 (λ (y z : Lefts). join_lefts y z) (assigned_one_found c i.value) (assigned_found c is)
    ∙ join_found c.by (assigned_one c.by.old c.locals i.value) (assigned c.by.old c.locals is)

own_stays : (m : Renumber) (p : ℕ) (b : Bound) → is_own (m.to p) (renumbered_bound m.to b) ≡ is_own p b
own_stays m p (Local d) = same_token m d p
own_stays m p (Means x) = refl
own_stays m p BrokenVariable = refl
own_stays m p BrokenFunction = refl
own_stays m p BrokenType = refl

declares_stays : (m : Renumber) (p : ℕ) → declares (new m) (m.to p) ≡ declares m.old p
declares_stays m p = ap (is_own (m.to p)) (m.binds p) ∙ own_stays m p (m.old.bound p)

no_name_found : (m : Renumber) (place : ℕ) (x : Meaning) → no_name (m.to place) x ≡ renumbered_found m.to (no_name place x)
unfolding no_name
no_name_found m place (Value k a) = refl
no_name_found m place (TypeName t) = refl
no_name_found m place (Function s) = refl
no_name_found m place (BuiltinName b) = refl
no_name_found m place Package = refl
no_name_found m place (Results ts) = refl
no_name_found m place Broken = refl

reassigned_found : (c : Judging) (p : ℕ) → reassigned (new c.by) c.later (c.by.to p) ≡ lefts_found c.by (reassigned c.by.old c.locals p)
unfolding expr_by
reassigned_found c p = wanting_found c.by (judge_value c.by.old c.locals (Name p)) _ (judged_value_found c (Name p))

defined_one_found : (c : Judging) (e : ExprTree) → defined_one (new c.by) c.later (expr_by c.by.to e) ≡ lefts_found c.by (defined_one c.by.old c.locals e)
unfolding defined_one expr_by
defined_one_found c (Blank p) = refl
defined_one_found c (Name p) =
    let none = left_side Takes (means Broken) in
    ap2 (λ (b : Bool) (z : Lefts). if b then none else z) (declares_stays c.by p) (reassigned_found c p)
    ∙ if_maps (lefts_found c.by) (declares c.by.old p) none (reassigned c.by.old c.locals p)
defined_one_found c e =
    let j = judge_value c.by.old c.locals e in
    ap (λ (z : Judged). left_side (Wants None) z)
    (ap2 (λ (place : ℕ) (z : Judged). followed z (no_name place)) (reports c.by e) (judged_value_found c e)
    ∙ followed_found c.by j (no_name (place_of e)) (no_name (c.by.to (place_of e))) (no_name_found c.by (place_of e) j.meaning))

pub defined_found : (c : Judging) (is : List (Item ExprTree)) →
    defined (new c.by) c.later (exprs_by c.by.to is) ≡ lefts_found c.by (defined c.by.old c.locals is)
unfolding defined
defined_found c [] = refl
defined_found c (i ∷ is) =
    ap2 (λ (y z : Lefts). join_lefts y z) (defined_one_found c i.value) (defined_found c is)
    ∙ join_found c.by (defined_one c.by.old c.locals i.value) (defined c.by.old c.locals is)

-- targets

nil_found : (m : Renumber) (place : ℕ) (k : Option ValueKind) → nil_refused (m.to place) k ≡ map m.to (nil_refused place k)
unfolding nil_refused
nil_found m place None = refl
nil_found m place (Some (Typed t)) = refl
nil_found m place (Some (Untyped b)) = refl
nil_found m place (Some Nil) = refl

refused_found : (m : Renumber) (place : ℕ) (k : Option ValueKind) (t : Target) → refused_at (new m) (m.to place) k t ≡ map m.to (refused_at m.old place k t)
unfolding refused_at
refused_found m place k (Wants None) = refl
refused_found m place k (Wants (Some t)) = misfit_found m place k t
refused_found m place k Takes = nil_found m place k

pub all_refused_found : (m : Renumber) (vs : List ListValue) (ts : List Target) →
    all_refused (new m) (list_values m vs) ts ≡ map m.to (all_refused m.old vs ts)
unfolding all_refused
all_refused_found m [] ts = refl
all_refused_found m (v ∷ vs) [] = refl
all_refused_found m (v ∷ vs) (t ∷ ts) =
    ap2 (λ (x y : List ℕ). x ++ y) (refused_found m v.place v.kind t) (all_refused_found m vs ts)
    ∙ two m.to (refused_at m.old v.place v.kind t) (all_refused m.old vs ts)

-- entries into targets

entered_found : (m : Renumber) (place : ℕ) (k : Option ValueKind) (t : Target) →
    entered_at (new m) (m.to place) k t ≡ renumbered_uses m.to (entered_at m.old place k t)
unfolding entered_at
entered_found m place k (Wants None) = refl
entered_found m place k (Wants (Some t)) = entering_found m place k t
entered_found m place k Takes = refl

pub all_entered_found : (m : Renumber) (vs : List ListValue) (ts : List Target) →
    all_entered (new m) (list_values m vs) ts ≡ renumbered_uses m.to (all_entered m.old vs ts)
unfolding all_entered
all_entered_found m [] ts = refl
all_entered_found m (v ∷ vs) [] = refl
all_entered_found m (v ∷ vs) (t ∷ ts) =
    ap2 (λ (x y : List Noted). x ++ y) (entered_found m v.place v.kind t) (all_entered_found m vs ts)
    ∙ two (renumbered_noted m.to) (entered_at m.old v.place v.kind t) (all_entered m.old vs ts)

pub given_enterings_found : (m : Renumber) (vs : List ListValue) (ts : List Target) →
    given_enterings (new m) (list_values m vs) ts ≡ renumbered_uses m.to (given_enterings m.old vs ts)
unfolding given_enterings
given_enterings_found m vs ts =
    ap2 (λ (b : Bool) (ns : List Noted). if b then ns else []) (ap (λ z. z == length ts) (length-map vs (list_value m))) (all_entered_found m vs ts)
    ∙ if_maps (map (renumbered_noted m.to)) (length vs == length ts) (all_entered m.old vs ts) []

pub fault_if_found : (m : Renumber) (test : Bool) (place : ℕ) → fault_if test (m.to place) ≡ map m.to (fault_if test place)
fault_if_found m test place = if_maps (map m.to) test (place ∷ []) []

-- values given where their count is right, else a fault if none is broken
pub counted : (m : Renumber) (place : ℕ) (vs : List ListValue) (ts : List Target) (test : Bool) →
    (if length (list_values m vs) == length ts then all_refused (new m) (list_values m vs) ts
    else fault_if (all_whole (list_values m vs) && test) (m.to place)) ≡
    map m.to (if length vs == length ts then all_refused m.old vs ts else fault_if (all_whole vs && test) place)
counted m place vs ts test =
    ap3 (λ (b : Bool) (fs gs : List ℕ). if b then fs else gs) (ap (λ z. z == length ts) (length-map vs (list_value m))) (all_refused_found m vs ts)
    (ap (λ z. fault_if (z && test) (m.to place)) (all_whole_stays m vs) ∙ fault_if_found m (all_whole vs && test) place)
    ∙ if_maps (map m.to) (length vs == length ts) (all_refused m.old vs ts) (fault_if (all_whole vs && test) place)

pub given_faults_found : (m : Renumber) (place : ℕ) (vs : List ListValue) (ts : List Target) →
    given_faults (new m) (m.to place) (list_values m vs) ts ≡ map m.to (given_faults m.old place vs ts)
unfolding given_faults
given_faults_found m place vs ts = counted m place vs ts (all_unbroken ts)

-- locals

inferred_types_stay : (m : Renumber) (vs : List ListValue) → inferred_types (list_values m vs) ≡ inferred_types vs
inferred_types_stay m [] = refl
inferred_types_stay m (v ∷ vs) = ap (λ (ts : List (Option PlainType)). inferred_type v.kind ∷ ts) (inferred_types_stay m vs)

inferred_stays : (m : Renumber) (count : ℕ) (vs : List ListValue) → inferred count (list_values m vs) ≡ inferred count vs
unfolding inferred
inferred_stays m count vs =
    ap2 (λ (c : Bool) (ts : List (Option PlainType)). if c then ts else []) (ap (λ z. z == count) (length-map vs (list_value m))) (inferred_types_stay m vs)

abbrev pub new_names : Renumber → List (Option ℕ) → List (Option ℕ)
new_names m ns = map (option_map m.to) ns

declared_are : (m : Renumber) (ls later : Locals) (n : Option ℕ) (t : Option PlainType) → AreRenumberedLocals m.to ls later →
    AreRenumberedLocals m.to (declared_if ls n t) (declared_if later (option_map m.to n) t)
declared_are m ls later None t l = l
declared_are m ls later (Some p) t l =
    λ token. ap2 (λ (b : Bool) (z : Option PlainType). if b then t else z) (same_token m token p) (l token)

pub with_locals_are : (m : Renumber) (ls later : Locals) (ns : List (Option ℕ)) (ts : List (Option PlainType)) → AreRenumberedLocals m.to ls later →
    AreRenumberedLocals m.to (with_locals ls ns ts) (with_locals later (new_names m ns) ts)
unfolding with_locals
with_locals_are m ls later [] ts l = l
with_locals_are m ls later (n ∷ ns) ts l =
    with_locals_are m (declared_if ls n (head_or_none ts)) (declared_if later (option_map m.to n) (head_or_none ts)) ns (tail_of ts)
    (declared_are m ls later n (head_or_none ts) l)

pub with_inferred_are : (m : Renumber) (ls later : Locals) (ns : List (Option ℕ)) (vs : List ListValue) → AreRenumberedLocals m.to ls later →
    AreRenumberedLocals m.to (with_inferred ls ns vs) (with_inferred later (new_names m ns) (list_values m vs))
with_inferred_are m ls later ns vs l = λ token.
    ap (λ (ts : List (Option PlainType)). with_locals later (new_names m ns) ts (m.to token))
    (ap (λ z. inferred z (list_values m vs)) (length-map ns (option_map m.to)) ∙ inferred_stays m (length ns) vs)
    ∙ with_locals_are m ls later ns (inferred (length ns) vs) l token

defined_name_found : (m : Renumber) (e : ExprTree) → defined_name (new m) (expr_by m.to e) ≡ option_map m.to (defined_name m.old e)
unfolding defined_name expr_by
defined_name_found m (Name p) =
    ap (λ (c : Bool). if c then Some (m.to p) else None) (declares_stays m p) ∙ if_maps (option_map m.to) (declares m.old p) (Some p) None
defined_name_found m e = refl

pub defined_names_found : (m : Renumber) (is : List (Item ExprTree)) → defined_names (new m) (exprs_by m.to is) ≡ new_names m (defined_names m.old is)
defined_names_found m [] = refl
defined_names_found m (i ∷ is) =
    ap2 (λ (n : Option ℕ) (ns : List (Option ℕ)). n ∷ ns) (defined_name_found m i.value) (defined_names_found m is)

pub named_found : (m : Renumber) (i : IdentTree) → named (ident_by m.to i) ≡ option_map m.to (named i)
unfolding named
named_found m (Named n) = refl
named_found m (Underscore n) = refl

pub all_named_found : (m : Renumber) (is : List (Item IdentTree)) → all_named (items_by m.to (ident_by m.to) is) ≡ new_names m (all_named is)
all_named_found m [] = refl
all_named_found m (i ∷ is) = ap2 (λ (n : Option ℕ) (ns : List (Option ℕ)). n ∷ ns) (named_found m i.value) (all_named_found m is)
