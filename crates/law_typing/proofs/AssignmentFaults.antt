-- Right sides as the check finds them, and the values that are refused.
use Rattle.std.proofs.Common.{ℕ, ◌≡◌, ◌==◌, Bool, true, false, ◌&&◌, if◌then◌else◌, ◌⊎◌, inl, inr, List, [], ◌∷◌, ◌++◌, map, length, Option, Some, None}
use Rattle.std.proofs.Common.{refl, sym, ap, ◌∙◌, subst, suc, true≢false, eq-eqb, eqb-true}
use Rattle.go_ast.specs.Tree.{Item, ExprTree}
use Rattle.types_expr.specs.Places.{place_of}
use Rattle.types_expr.specs.Types.{PlainType, ValueKind, Typed, Untyped, Nil, Meaning, Value, TypeName, Function, BuiltinName, Package, Results, Broken}
use Rattle.types_expr.specs.World.{World, Locals}
use Rattle.types_expr.specs.Operations.{fits}
use Rattle.types_expr.specs.Judge.{ListValue, judge, as_value, value_kind, is_whole, all_whole, misfit}
use Rattle.types_stmt.specs.Checked.{fault_if}
use Rattle.types_stmt.specs.Sides.{Target, Wants, rhs, judge_each, values_of, nil_refused, refused_at, all_refused, all_unbroken, given_faults}
use Rattle.types_stmt.specs.Statements.{returned}
use Rattle.law_typing.specs.Names.{IsNotBroken}
use Rattle.law_typing.specs.Meanings.{HasMeaning}
use Rattle.law_typing.specs.Faults.{IsNoValue}
use Rattle.law_typing.proofs.Tests.{and_first, and_second, and_both}
use Rattle.law_typing.proofs.Judgements.{value_whole, results_whole}
use Rattle.law_typing.proofs.Fitting.{fits_true, true_fits}
use Rattle.law_typing.proofs.Arguments.{whole_kind}
use Rattle.law_typing.proofs.Completeness.{complete}
use Rattle.law_typing.specs.Assignments.{own, by_default, Taker, Fresh, OfType, fresh, fitting}
use Rattle.law_typing.proofs.Assignments.{aim}
use Rattle.law_typing.specs.ExpressionFaults.{BreaksAt, ValueBreaksAt}
use Rattle.law_typing.specs.AssignmentFaults.{given_at, a_value, not_a_value, EachGives, none_left, one_more, SidesGive, nothing_given, a_call, one_given}
use Rattle.law_typing.specs.AssignmentFaults.{several_given, Refuses, refuses, RefusedInTurn, this_refused}
use Rattle.law_typing.specs.AssignmentFaults.{later_refused, AllHaveKinds, all_given, also_given, AllTake}
use Rattle.law_typing.specs.AssignmentFaults.{all_taken, also_taken, IsAssignmentFault, one_refused, wrong_count, IsReturnFault, result_refused, wrong_return}
use Rattle.law_typing.specs.SimpleFaults.{SingleBreaksAt, in_lone, gives_nothing, AnyBreaksAt, this_one, a_later_one, SidesBreakAt, alone, one_of_several}
use Rattle.law_typing.proofs.FaultLists.{AreExactly, none_told, both_told, told_as, At, at_place, nothing_at, fault_at, test_told, fault_told}
use Rattle.law_typing.proofs.ValueFaults.{meaning_is, meant_whole, gives_found, gives_only}
use Rattle.law_typing.proofs.ExpressionFaults.{expression_told, value_told}

-- what right sides give

each_found : (w : World) (locals : Locals) (is : List (Item ExprTree)) → EachGives w locals is (judge_each w locals is).values
unfolding judge_each
each_found w locals [] = none_left
each_found w locals (i ∷ is) = one_more (gives_found w locals i.value) (each_found w locals is)

each_only : (w : World) (locals : Locals) {is : List (Item ExprTree)} {vs : List ListValue} → EachGives w locals is vs → (judge_each w locals is).values ≡ vs
unfolding judge_each
each_only w locals none_left = refl
each_only w locals (one_more {i} {is} {k} {vs} g more) = ap (λ z. given_at (place_of i.value) z ∷ (judge_each w locals is).values) (gives_only w locals g)
    ∙ ap (λ z. given_at (place_of i.value) k ∷ z) (each_only w locals more)

lone_found : (w : World) (locals : Locals) (i : Item ExprTree) (m : Meaning) → (judge w locals i.value).meaning ≡ m → (IsNotBroken m →
    HasMeaning w locals i.value m) → SidesGive w locals (i ∷ []) (values_of (place_of i.value) m).values
unfolding values_of as_value value_kind
lone_found w locals i (Results ts) e h = a_call (h results_whole)
lone_found w locals i (Value k a) e h = one_given (λ ts r. let q : Value k a ≡ Results ts = sym e ∙ meaning_is w locals r in cc) (a_value (h value_whole))
lone_found w locals i (TypeName t) e h = one_given (λ ts r. let q : TypeName t ≡ Results ts = sym e ∙ meaning_is w locals r in cc)
    (not_a_value (λ k a v. let q : TypeName t ≡ Value k a = sym e ∙ meaning_is w locals v in cc))
lone_found w locals i (Function s) e h = one_given (λ ts r. let q : Function s ≡ Results ts = sym e ∙ meaning_is w locals r in cc)
    (not_a_value (λ k a v. let q : Function s ≡ Value k a = sym e ∙ meaning_is w locals v in cc))
lone_found w locals i (BuiltinName b) e h = one_given (λ ts r. let q : BuiltinName b ≡ Results ts = sym e ∙ meaning_is w locals r in cc)
    (not_a_value (λ k a v. let q : BuiltinName b ≡ Value k a = sym e ∙ meaning_is w locals v in cc))
lone_found w locals i Package e h = one_given (λ ts r. let q : Package ≡ Results ts = sym e ∙ meaning_is w locals r in cc)
    (not_a_value (λ k a v. let q : Package ≡ Value k a = sym e ∙ meaning_is w locals v in cc))
lone_found w locals i Broken e h = one_given (λ ts r. let q : Broken ≡ Results ts = sym e ∙ meaning_is w locals r in cc)
    (not_a_value (λ k a v. let q : Broken ≡ Value k a = sym e ∙ meaning_is w locals v in cc))

as_found : (w : World) (locals : Locals) (i : Item ExprTree) → SidesGive w locals (i ∷ []) (values_of (place_of i.value)
    (judge w locals i.value).meaning).values
as_found w locals i = lone_found w locals i (judge w locals i.value).meaning refl (λ n. complete w locals i.value n)

pub sides_found : (w : World) (locals : Locals) (is : List (Item ExprTree)) → SidesGive w locals is (rhs w locals is).values
unfolding rhs judge_each
sides_found w locals [] = nothing_given
sides_found w locals (i ∷ []) = as_found w locals i
sides_found w locals (i ∷ j ∷ is) = several_given (each_found w locals (i ∷ j ∷ is))

lone_only : (place : ℕ) (m : Meaning) → ((ts : List PlainType) → m ≡ Results ts → ⊥) → ((k : ValueKind) (a : Bool) → m ≡ Value k a → ⊥) →
    (values_of place m).values ≡ given_at place None ∷ []
unfolding values_of as_value value_kind
lone_only place (Value k a) n v = absurd (v k a refl)
lone_only place (Results ts) n v = absurd (n ts refl)
lone_only place (TypeName t) n v = refl
lone_only place (Function s) n v = refl
lone_only place (BuiltinName b) n v = refl
lone_only place Package n v = refl
lone_only place Broken n v = refl

means_as : (w : World) (locals : Locals) (e : ExprTree) (m : Meaning) → IsNotBroken m → (judge w locals e).meaning ≡ m → HasMeaning w locals e m
means_as w locals e m n h = subst (λ z. HasMeaning w locals e z) h (complete w locals e (subst (λ z. IsNotBroken z) (sym h) n))

given_of : (place : ℕ) {m : Meaning} {k : ValueKind} {a : Bool} → m ≡ Value k a → (values_of place m).values ≡ given_at place (Some k) ∷ []
unfolding values_of as_value value_kind
given_of place e = ap (λ m. (values_of place m).values) e

results_of : (place : ℕ) {m : Meaning} {ts : List PlainType} → m ≡ Results ts → (values_of place m).values ≡ map (λ t. given_at place (Some (Typed t))) ts
unfolding values_of
results_of place e = ap (λ m. (values_of place m).values) e

pub sides_only : (w : World) (locals : Locals) {is : List (Item ExprTree)} {vs : List ListValue} → SidesGive w locals is vs → (rhs w locals is).values ≡ vs
unfolding rhs judge_each
sides_only w locals nothing_given = refl
sides_only w locals (a_call {i} h) = results_of (place_of i.value) (meaning_is w locals h)
sides_only w locals (one_given {i} n (a_value h)) = given_of (place_of i.value) (meaning_is w locals h)
sides_only w locals (one_given {i} n (not_a_value v)) = lone_only (place_of i.value) (judge w locals i.value).meaning (λ ts e. n ts (means_as w locals i.value
    (Results ts) results_whole e)) (λ k a e. v k a (means_as w locals i.value (Value k a) value_whole e))
sides_only w locals (several_given e) = each_only w locals e

-- faults in right sides

pub any_told : (B : ExprTree → ℕ → Type 0) (i : Item ExprTree) (is : List (Item ExprTree)) {xs ys : List ℕ} → AreExactly xs (B i.value) →
    AreExactly ys (AnyBreaksAt B is) →
    AreExactly (xs ++ ys) (AnyBreaksAt B (i ∷ is))
any_told B i is {xs} {ys} a b = both_told xs ys a b (λ p h. this_one h) (λ p h. a_later_one h) (λ p h. any_cases h)
  where
    any_cases : {p : ℕ} → AnyBreaksAt B (i ∷ is) p → B i.value p ⊎ AnyBreaksAt B is p
    any_cases (this_one h) = inl h
    any_cases (a_later_one h) = inr h

pub no_expression : (B : ExprTree → ℕ → Type 0) → AreExactly [] (AnyBreaksAt B [])
no_expression B = none_told (λ p h. elim h [ ])

each_told : (w : World) (locals : Locals) (is : List (Item ExprTree)) → AreExactly (judge_each w locals is).faults (AnyBreaksAt (ValueBreaksAt w locals) is)
unfolding judge_each
each_told w locals [] = no_expression (ValueBreaksAt w locals)
each_told w locals (i ∷ is) = any_told (ValueBreaksAt w locals) i is (value_told w locals i.value) (each_told w locals is)

abbrev GivesNothing : Meaning → Type 0
GivesNothing m = IsNotBroken m × IsNoValue m × ((ts : List PlainType) → m ≡ Results ts → ⊥)

record IsNothing (w : World) (locals : Locals) (e : ExprTree) : Type 0 where
  meaning : Meaning
  means : HasMeaning w locals e meaning
  is_none : IsNoValue meaning
  no_call : (ts : List PlainType) → meaning ≡ Results ts → ⊥

values_told : (place : ℕ) (m : Meaning) {C : Type 0} → (GivesNothing m → C) → (C → GivesNothing m) → AreExactly (values_of place m).faults (At place C)
unfolding values_of as_value
values_told place (Value k a) f g = nothing_at place (λ c. let q = g c in q.1 k a refl)
values_told place (Results ts) f g = nothing_at place (λ c. let q = g c in q.2 ts refl)
values_told place (TypeName t) f g = fault_at place (f (λ h. cc, λ k a h. cc, λ ts h. cc))
values_told place (Function s) f g = fault_at place (f (λ h. cc, λ k a h. cc, λ ts h. cc))
values_told place (BuiltinName b) f g = fault_at place (f (λ h. cc, λ k a h. cc, λ ts h. cc))
values_told place Package f g = fault_at place (f (λ h. cc, λ k a h. cc, λ ts h. cc))
values_told place Broken f g = nothing_at place (λ c. let q = g c in q.0 refl)

nothing_is : (w : World) (locals : Locals) (e : ExprTree) → IsNothing w locals e → GivesNothing (judge w locals e).meaning
nothing_is w locals e c = let s = meaning_is w locals c.means in
    (meant_whole w locals c.means, subst (λ z. IsNoValue z) (sym s) c.is_none, λ ts h. c.no_call ts (sym s ∙ h))

lone_cases : {w : World} {locals : Locals} {e : ExprTree} {p : ℕ} → SingleBreaksAt w locals e p → BreaksAt w locals e p ⊎ At (place_of e) (IsNothing w
    locals e) p
lone_cases (in_lone b) = inl b
lone_cases (gives_nothing {m = m} h n c) = inr (refl, record { meaning = m; means = h; is_none = n; no_call = c })

lone_told : (w : World) (locals : Locals) (e : ExprTree) → AreExactly ((judge w locals e).faults ++ (values_of (place_of e) (judge w locals e).meaning).faults)
    (SingleBreaksAt w locals e)
lone_told w locals e = both_told (judge w locals e).faults (values_of (place_of e) (judge w locals e).meaning).faults (expression_told w locals e)
    (values_told (place_of e) (judge w locals e).meaning {C = IsNothing w locals e} (λ q. record {
      meaning = (judge w locals e).meaning;
      means = complete w locals e q.0;
      is_none = q.1;
      no_call = q.2;
    }) (λ c. nothing_is w locals e c)) (λ p b. in_lone b) (at_place (SingleBreaksAt w locals e) (λ c. gives_nothing c.means c.is_none c.no_call))
    (λ p b. lone_cases b)

alone_only : {w : World} {locals : Locals} {i : Item ExprTree} {p : ℕ} → SidesBreakAt w locals (i ∷ []) p → SingleBreaksAt w locals i.value p
alone_only (alone b) = b

several_only : {w : World} {locals : Locals} {i j : Item ExprTree} {is : List (Item ExprTree)} {p : ℕ} → SidesBreakAt w locals (i ∷ j ∷ is) p →
    AnyBreaksAt (ValueBreaksAt w locals) (i ∷ j ∷ is) p
several_only (one_of_several b) = b

pub sides_told : (w : World) (locals : Locals) (is : List (Item ExprTree)) → AreExactly (rhs w locals is).faults (SidesBreakAt w locals is)
unfolding rhs judge_each
sides_told w locals [] = none_told (λ p b. elim b [ ])
sides_told w locals (i ∷ []) = told_as (lone_told w locals i.value) (λ p b. alone b) (λ p b. alone_only b)
sides_told w locals (i ∷ j ∷ is) = told_as (each_told w locals (i ∷ j ∷ is)) (λ p b. one_of_several b) (λ p b. several_only b)

-- values that are refused

abbrev pub aim_of : Option Taker → Target
aim_of None = Wants None
aim_of (Some t) = aim t

own_refused : (w : World) (place : ℕ) (o : Option ValueKind) → AreExactly (nil_refused place o) (At place (Refuses w o (Some Fresh)))
unfolding nil_refused
own_refused w place None = nothing_at place (λ c. elim c [ ])
own_refused w place (Some (Typed t)) = nothing_at place (λ c. elim c [ refuses n ↦ n (fresh own) ])
own_refused w place (Some (Untyped b)) = nothing_at place (λ c. elim c [ refuses n ↦ n (fresh by_default) ])
own_refused w place (Some Nil) = fault_at place (refuses (λ t. elim t [ fresh g ↦ elim g [ ] ]))

type_refused : (w : World) (place : ℕ) (o : Option ValueKind) (t : PlainType) → AreExactly (misfit w place o t) (At place (Refuses w o (Some (OfType t))))
unfolding misfit
type_refused w place None t = nothing_at place (λ c. elim c [ ])
type_refused w place (Some k) t = test_told (fits w k t) place (λ e c. elim c [ refuses n ↦ n (fitting (true_fits w k t e)) ])
    (λ e. refuses (λ r. elim r [ fitting f ↦ true≢false (sym (fits_true w f) ∙ e) ]))

refused_told : (w : World) (place : ℕ) (o : Option ValueKind) (t : Option Taker) → AreExactly (refused_at w place o (aim_of t)) (At place (Refuses w o t))
unfolding refused_at
refused_told w place None None = nothing_at place (λ c. elim c [ ])
refused_told w place (Some k) None = nothing_at place (λ c. elim c [ ])
refused_told w place o (Some Fresh) = own_refused w place o
refused_told w place o (Some (OfType t)) = type_refused w place o t

refused_cases : {w : World} {v : ListValue} {vs : List ListValue} {t : Option Taker} {ts : List (Option Taker)} {p : ℕ} → RefusedInTurn w (v ∷ vs) (t ∷ ts) p →
    At v.place (Refuses w v.kind t) p ⊎ RefusedInTurn w vs ts p
refused_cases (this_refused r) = inl (refl, r)
refused_cases (later_refused r) = inr r

in_turn_told : (w : World) (vs : List ListValue) (ts : List (Option Taker)) → AreExactly (all_refused w vs (map aim_of ts)) (RefusedInTurn w vs ts)
unfolding all_refused
in_turn_told w [] ts = none_told (λ p b. elim b [ ])
in_turn_told w (v ∷ vs) [] = none_told (λ p b. elim b [ ])
in_turn_told w (v ∷ vs) (t ∷ ts) = both_told (refused_at w v.place v.kind (aim_of t)) (all_refused w vs (map aim_of ts)) (refused_told w v.place v.kind t)
    (in_turn_told w vs ts) (at_place (RefusedInTurn w (v ∷ vs) (t ∷ ts)) (λ c. this_refused c)) (λ p b. later_refused b) (λ p b. refused_cases b)

all_give : (vs : List ListValue) → all_whole vs ≡ true → AllHaveKinds vs
unfolding all_whole
all_give [] h = all_given
all_give (v ∷ vs) h = let q = whole_kind v.kind (and_first (is_whole v.kind) (all_whole vs) h) in
    also_given q.1 (all_give vs (and_second (is_whole v.kind) (all_whole vs) h))

give_all : {vs : List ListValue} → AllHaveKinds vs → all_whole vs ≡ true
unfolding all_whole
give_all all_given = refl
give_all (also_given {v} {vs} e more) = and_both (is_whole v.kind) (all_whole vs) (ap is_whole e) (give_all more)

all_take : (ts : List (Option Taker)) → all_unbroken (map aim_of ts) ≡ true → AllTake ts
all_take [] h = all_taken
all_take (None ∷ ts) h = absurd (true≢false (sym h))
all_take (Some Fresh ∷ ts) h = also_taken (all_take ts h)
all_take (Some (OfType t) ∷ ts) h = also_taken (all_take ts h)

take_all : {ts : List (Option Taker)} → AllTake ts → all_unbroken (map aim_of ts) ≡ true
take_all all_taken = refl
take_all (also_taken {t = Fresh} more) = take_all more
take_all (also_taken {t = OfType t} more) = take_all more

pub aims_length : (ts : List (Option Taker)) → length (map aim_of ts) ≡ length ts
aims_length [] = refl
aims_length (t ∷ ts) = ap suc (aims_length ts)

misgiven_right : {w : World} {place : ℕ} {vs : List ListValue} {ts : List (Option Taker)} {p : ℕ} → length vs ≡ length ts → IsAssignmentFault w place vs ts p →
    RefusedInTurn w vs ts p
misgiven_right e (one_refused f r) = r
misgiven_right e (wrong_count n g t) = absurd (n e)

misgiven_wrong : {w : World} {place : ℕ} {vs : List ListValue} {ts : List (Option Taker)} {p : ℕ} → (length vs ≡ length ts → ⊥) →
    IsAssignmentFault w place vs ts p →
    At place (AllHaveKinds vs × AllTake ts) p
misgiven_wrong n (one_refused e r) = absurd (n e)
misgiven_wrong n (wrong_count m g t) = (refl, (g, t))

misgiven_by : (w : World) (place : ℕ) (vs : List ListValue) (ts : List (Option Taker)) (c : Bool) → (length vs == length (map aim_of ts)) ≡ c →
    AreExactly (if c then all_refused w vs (map aim_of ts) else fault_if (all_whole vs && all_unbroken (map aim_of ts)) place) (IsAssignmentFault w place vs ts)
misgiven_by w place vs ts true h = let e = eqb-true (length vs) (length (map aim_of ts)) h ∙ aims_length ts in
    told_as (in_turn_told w vs ts) (λ p r. one_refused e r) (λ p b. misgiven_right e b)
misgiven_by w place vs ts false h = let n : length vs ≡ length ts → ⊥ = λ e. true≢false (sym (eq-eqb (length vs) (length (map aim_of ts))
    (e ∙ sym (aims_length ts))) ∙ h) in
    told_as (fault_told (all_whole vs && all_unbroken (map aim_of ts)) place {C = AllHaveKinds vs × AllTake ts} (λ t. (
      all_give vs (and_first (all_whole vs) (all_unbroken
          (map aim_of ts)) t),
      all_take ts (and_second (all_whole vs) (all_unbroken (map aim_of ts)) t),
    )) (λ f c. true≢false (sym (and_both (all_whole vs) (all_unbroken
    (map aim_of ts)) (give_all c.0) (take_all c.1)) ∙ f))) (at_place (IsAssignmentFault w place vs ts) (λ c. wrong_count n c.0 c.1)) (λ p b. misgiven_wrong n b)

pub misgiven_told : (w : World) (place : ℕ) (vs : List ListValue) (ts : List (Option Taker)) →
    AreExactly (given_faults w place vs (map aim_of ts)) (IsAssignmentFault w place vs ts)
unfolding given_faults
misgiven_told w place vs ts = misgiven_by w place vs ts (length vs == length (map aim_of ts)) refl

misreturned_right : {w : World} {place : ℕ} {vs : List ListValue} {ts : List (Option Taker)} {p : ℕ} → length vs ≡ length ts → IsReturnFault w place vs ts p →
    RefusedInTurn w vs ts p
misreturned_right e (result_refused f r) = r
misreturned_right e (wrong_return n g) = absurd (n e)

misreturned_wrong : {w : World} {place : ℕ} {vs : List ListValue} {ts : List (Option Taker)} {p : ℕ} → (length vs ≡ length ts → ⊥) →
    IsReturnFault w place vs ts p →
    At place (AllHaveKinds vs) p
misreturned_wrong n (result_refused e r) = absurd (n e)
misreturned_wrong n (wrong_return m g) = (refl, g)

misreturned_by : (w : World) (place : ℕ) (vs : List ListValue) (ts : List (Option Taker)) (c : Bool) → (length vs == length (map aim_of ts)) ≡ c →
    AreExactly (if c then all_refused w vs (map aim_of ts) else fault_if (all_whole vs) place) (IsReturnFault w place vs ts)
misreturned_by w place vs ts true h = let e = eqb-true (length vs) (length (map aim_of ts)) h ∙ aims_length ts in
    told_as (in_turn_told w vs ts) (λ p r. result_refused e r) (λ p b. misreturned_right e b)
misreturned_by w place vs ts false h = let n : length vs ≡ length ts → ⊥ = λ e. true≢false (sym (eq-eqb (length vs) (length (map aim_of ts))
    (e ∙ sym (aims_length ts))) ∙ h) in
    told_as (fault_told (all_whole vs) place {C = AllHaveKinds vs} (λ t. all_give vs t) (λ f c. true≢false (sym (give_all c) ∙ f)))
    (at_place (IsReturnFault w place vs ts) (λ c. wrong_return n c)) (λ p b. misreturned_wrong n b)

pub misreturned_told : (w : World) (place : ℕ) (vs : List ListValue) (ts : List (Option Taker)) →
    AreExactly (returned w place vs (map aim_of ts)) (IsReturnFault w place vs ts)
unfolding returned
misreturned_told w place vs ts = misreturned_by w place vs ts (length vs == length (map aim_of ts)) refl
