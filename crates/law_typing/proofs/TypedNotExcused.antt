-- A typed part is not excused, since the rules determine the locals after typed parts.
use Rattle.std.proofs.Common.{ℕ, ◌≡◌, Bool, List, [], ◌∷◌, Option, Some, None, refl, sym, ap, ◌∙◌, subst}
use Rattle.go_ast.specs.Tree.{Item, Group, TypeTree, ExprTree, SimpleTree, InitTree, StatementTree, BlockTree, StatementTrees, IfTree, ElseTree, ParamTree}
use Rattle.go_ast.specs.Tree.{ResultTree, FuncTree, FieldTree, MethodTree, BodyTree, DeclTree, FileTree}
use Rattle.types_expr.specs.Types.{PlainType, ValueKind}
use Rattle.types_expr.specs.World.{World, Locals}
use Rattle.types_stmt.specs.Checked.{FoundSoFar}
use Rattle.types_stmt.specs.Sides.{Wants}
use Rattle.types_stmt.specs.Simple.{check_simple, check_condition, check_local}
use Rattle.types_stmt.specs.Statements.{check_statement, check_block}
use Rattle.types_stmt.specs.Headers.{check_receiver, check_param}
use Rattle.types_stmt.specs.Declarations.{check_global, check_type, check_decl}
use Rattle.law_typing.specs.Names.{IsType}
use Rattle.law_typing.specs.BrokenUses.{UsesBroken, IsBrokenType}
use Rattle.law_typing.specs.IsFaultlessWith.{typed_targets}
use Rattle.law_typing.specs.Sequences.{PartRule, InTurn, no_item, then_item, InGroup, alone, together, IfPresent, absent, present, Excuse, ExcusedInTurn}
use Rattle.law_typing.specs.Sequences.{this_item, later_item, ExcusedInGroup, excused_alone, excused_together, ExcusedIfPresent, excused_present}
use Rattle.law_typing.specs.Assignments.{GiveKinds}
use Rattle.law_typing.specs.Simple.{ConditionIsTyped, a_condition, SimpleIsTyped, LocalIsTyped, of_type, of_type_with_values, of_values}
use Rattle.law_typing.specs.Statements.{InitIsTyped, an_init, HeaderIsTyped, endless, a_while, with_clauses, StatementIsTyped, nothing}
use Rattle.law_typing.specs.Statements.{a_declaration, a_simple, an_inner_block, a_choice, a_loop, a_break, a_continue, a_return, BlockIsTyped}
use Rattle.law_typing.specs.Statements.{a_block, StatementsAreTyped, no_more, one_more, IfIsTyped, an_if, ElseIsTyped, without_else, an_else_if}
use Rattle.law_typing.specs.Statements.{an_else}
use Rattle.law_typing.specs.Declarations.{ReceiverIsTyped, a_receiver, ParamIsTyped, a_param, AreTypes, no_type_left, also_type, AreResults}
use Rattle.law_typing.specs.Declarations.{none_written, one_written, several_written, FunctionIsTyped, a_function, GlobalIsTyped, without_values}
use Rattle.law_typing.specs.Declarations.{with_literals, FieldsAreTyped, no_field_left, also_field, BodyIsTyped, another_type, a_struct}
use Rattle.law_typing.specs.Declarations.{TypeIsTyped, a_definition_of, DeclIsTyped, variables, types, one_function, DeclsAreTyped, no_decl}
use Rattle.law_typing.specs.Declarations.{also_decl, FileIsTyped, a_file, AskedAreTyped, no_param_left, also_param, MethodsAreTyped, no_method_left}
use Rattle.law_typing.specs.Declarations.{also_method, an_interface}
use Rattle.law_typing.specs.Excused.{AnyUsesBroken, SimpleIsExcused, LocalIsExcused, of_broken_type, of_broken_value, of_nothing, InitIsExcused}
use Rattle.law_typing.specs.Excused.{in_init, HeaderIsExcused, in_while, in_first, in_test, in_post, StatementIsExcused, in_declaration, in_simple}
use Rattle.law_typing.specs.Excused.{in_inner, in_choice, in_header, in_loop, in_return, BlockIsExcused, in_block, StatementsAreExcused}
use Rattle.law_typing.specs.Excused.{this_statement, later_statement, IfIsExcused, before_condition, in_condition, in_then, in_otherwise}
use Rattle.law_typing.specs.Excused.{ElseIsExcused, in_else_if, in_else, ReceiverIsExcused, of_broken, ParamIsExcused, param_of_broken}
use Rattle.law_typing.specs.Excused.{AnyIsBrokenType, this_type, later_type, ResultIsExcused, one_broken, one_of_several, FunctionIsExcused}
use Rattle.law_typing.specs.Excused.{in_receiver, in_params, in_result, in_body, GlobalIsExcused, global_of_broken, FieldIsBroken, this_field}
use Rattle.law_typing.specs.Excused.{later_field, BodyIsBroken, other_broken, in_struct, TypeIsExcused, in_type_body, DeclIsExcused, in_variables}
use Rattle.law_typing.specs.Excused.{in_types, in_function, DeclsAreExcused, this_decl, later_decl, FileIsExcused, in_file, AskedIsBroken, this_param}
use Rattle.law_typing.specs.Excused.{later_param, MethodIsBroken, in_asked, in_asked_result, later_method, in_interface}
use Rattle.law_typing.proofs.Unbroken.{no_use, no_type, one_type}
use Rattle.law_typing.proofs.PartOutcomes.{IsAt}
use Rattle.law_typing.proofs.Simple.{simple_true, condition_true}
use Rattle.law_typing.proofs.Locals.{local_true}
use Rattle.law_typing.proofs.Statements.{AreTargets, statement_true, block_true}
use Rattle.law_typing.proofs.Headers.{receiver_true, param_true}
use Rattle.law_typing.proofs.Declarations.{global_true, type_spec_true, decl_true}
use Rattle.law_typing.proofs.SimpleNotExcused.{gives_unbroken, simple_not}

-- one outcome

abbrev pub start : Locals → FoundSoFar
start before = record { locals = before; faults = []; uses = [] }

at_start : (before : Locals) → IsAt (start before) before
at_start before = record { locals_are = refl; faultless = refl }

-- the rule R determines the locals after a part
abbrev LeadsToOne : {X : Type 0} → PartRule X → Type 0
LeadsToOne {X} R = (before after other : Locals) (x : X) → R before x after → R before x other → after ≡ other

-- the rule R types no part that is excused by E
abbrev Excludes : {X : Type 0} → PartRule X → Excuse X → Type 0
Excludes {X} R E = (before after : Locals) (x : X) → R before x after → E before x → ⊥

found_one : {X : Type 0} (R : PartRule X) (check : FoundSoFar → X → FoundSoFar) → ((s : FoundSoFar) (x : X) (after : Locals) → s.faults ≡ [] →
    R s.locals x after →
    IsAt (check s x) after) → LeadsToOne R
found_one R check f before after other x h k = let a = f (start before) x after refl h in let b = f (start before) x other refl k in
    sym a.locals_are ∙ b.locals_are

present_one : {X : Type 0} (R : PartRule X) → LeadsToOne R → {before after other : Locals} {o : Option X} → IfPresent X R before o after →
    IfPresent X R before o other → after ≡ other
present_one R f absent absent = refl
present_one R f (present {before} {after} {x} r) (present {after = other} q) = f before after other x r q

items_one : {X : Type 0} (R : PartRule X) → LeadsToOne R → {before after other : Locals} {is : List (Item X)} → InTurn X R before is after →
    InTurn X R before is other → after ≡ other
items_one R f no_item no_item = refl
items_one {X} R f (then_item {before} {inside} {i = i} {is = is} r more) (then_item {inside = inner} {after = other} q others) =
    items_one R f more (subst (λ z. InTurn X R z is other) (f before inner inside i.value q r) others)

-- parts in turn

present_not : {X : Type 0} (R : PartRule X) (E : Excuse X) → Excludes R E → {before after : Locals} {o : Option X} → IfPresent X R before o after →
    ExcusedIfPresent X E before o → ⊥
present_not R E f absent e = elim e [ ]
present_not R E f (present {before} {after} {x} r) (excused_present e) = f before after x r e

items_not : {X : Type 0} (R : PartRule X) (E : Excuse X) → LeadsToOne R → Excludes R E → {before after : Locals} {is : List (Item X)} →
    InTurn X R before is after → ExcusedInTurn X R E before is → ⊥
items_not R E o f no_item e = elim e [ ]
items_not R E o f (then_item {before} {inside} {i = i} r more) (this_item e) = f before inside i.value r e
items_not {X} R E o f (then_item {before} {inside} {i = i} {is = is} r more) (later_item {inside = inner} q e) =
    items_not R E o f more (subst (λ z. ExcusedInTurn X R E z is) (o before inner inside i.value q r) e)

group_not : {X : Type 0} (R : PartRule X) (E : Excuse X) → LeadsToOne R → Excludes R E → {before after : Locals} {g : Group X} →
    InGroup X R before g after → ExcusedInGroup X R E before g → ⊥
group_not R E o f (alone {before} {after} {x} r) (excused_alone e) = f before after x r e
group_not R E o f (together r) (excused_together e) = items_not R E o f r e

-- conditions, simple statements and declarations of locals

condition_one : (w : World) → LeadsToOne (ConditionIsTyped w)
condition_one w = found_one (ConditionIsTyped w) (check_condition w) (condition_true w)

condition_not : (w : World) → Excludes (ConditionIsTyped w) (UsesBroken w)
condition_not w before after x (a_condition h i) u = no_use w before u h

simple_one : (w : World) → LeadsToOne (SimpleIsTyped w)
simple_one w = found_one (SimpleIsTyped w) (check_simple w) (simple_true w)

simple_excludes : (w : World) → Excludes (SimpleIsTyped w) (SimpleIsExcused w)
simple_excludes w before after x r e = simple_not w r e

local_one : (w : World) → LeadsToOne (LocalIsTyped w)
local_one w = found_one (LocalIsTyped w) (check_local w) (local_true w)

same_one : {A : Type 0} {o : Option A} {x y : A} → o ≡ Some x → o ≡ Some y → x ≡ y
same_one e f = cc

none_or_one : {A : Type 0} {o : Option A} {x : A} → o ≡ None → o ≡ Some x → ⊥
none_or_one e f = cc

broken_type : (w : World) {o : Option TypeTree} {x y : TypeTree} {t : PlainType} → o ≡ Some x → o ≡ Some y → IsType w x t → IsBrokenType w y → ⊥
broken_type w {t = t} e f i b = no_type w b (subst (λ z. IsType w z t) (same_one e f) i)

broken_value : (w : World) (locals : Locals) {o : Option (ℕ × List (Item ExprTree))} {v u : ℕ × List (Item ExprTree)} {ks : List ValueKind} → o ≡ Some v →
    o ≡ Some u → GiveKinds w locals v.1 ks → AnyUsesBroken w locals u.1 → ⊥
broken_value w locals {ks = ks} e f g b = gives_unbroken w locals b (subst (λ (z : ℕ × List (Item ExprTree)). GiveKinds w locals z.1 ks) (same_one e f) g)

local_not : (w : World) → Excludes (LocalIsTyped w) (LocalIsExcused w)
local_not w before after l (of_type e f i d) (of_broken_type g b) = broken_type w e g i b
local_not w before after l (of_type e f i d) (of_broken_value g b) = none_or_one f g
local_not w before after l (of_type e f i d) (of_nothing g h) = none_or_one g e
local_not w before after l (of_type_with_values e f i g t d) (of_broken_type h b) = broken_type w e h i b
local_not w before after l (of_type_with_values e f i g t d) (of_broken_value h b) = broken_value w before f h g b
local_not w before after l (of_type_with_values e f i g t d) (of_nothing h k) = none_or_one h e
local_not w before after l (of_values e f g t d) (of_broken_type h b) = none_or_one e h
local_not w before after l (of_values e f g t d) (of_broken_value h b) = broken_value w before f h g b
local_not w before after l (of_values e f g t d) (of_nothing h k) = none_or_one k f

-- headers

init_one : (w : World) → LeadsToOne (InitIsTyped w)
init_one w before after other x (an_init r) (an_init q) = present_one (SimpleIsTyped w) (simple_one w) r q

init_not : (w : World) → Excludes (InitIsTyped w) (InitIsExcused w)
init_not w before after x (an_init r) (in_init e) = present_not (SimpleIsTyped w) (SimpleIsExcused w) (simple_excludes w) r e

entered : (w : World) {before after other : Locals} {o : Option SimpleTree} → IfPresent SimpleTree (SimpleIsTyped w) before o after →
    IfPresent SimpleTree (SimpleIsTyped w) before o other → after ≡ other
entered w r q = present_one (SimpleIsTyped w) (simple_one w) r q

tested : (w : World) {before after start other : Locals} {o : Option ExprTree} → IfPresent ExprTree (ConditionIsTyped w) before o after → before ≡ start →
    IfPresent ExprTree (ConditionIsTyped w) start o other → after ≡ other
tested w {other = other} {o = o} r e q = present_one (ConditionIsTyped w) (condition_one w) r (subst
    (λ z. IfPresent ExprTree (ConditionIsTyped w) z o other) (sym e) q)

posted : (w : World) {before after start other : Locals} {o : Option SimpleTree} → IfPresent SimpleTree (SimpleIsTyped w) before o after → before ≡ start →
    IfPresent SimpleTree (SimpleIsTyped w) start o other → after ≡ other
posted w {other = other} {o = o} r e q = entered w r (subst (λ z. IfPresent SimpleTree (SimpleIsTyped w) z o other) (sym e) q)

header_one : (w : World) → LeadsToOne (HeaderIsTyped w)
header_one w before after other x endless endless = refl
header_one w before after other x (a_while {e = e} r) (a_while q) = condition_one w before after other e r q
header_one w before after other x (with_clauses i c p) (with_clauses j d q) = posted w p (tested w c (entered w i j) d) q

header_not : (w : World) → Excludes (HeaderIsTyped w) (HeaderIsExcused w)
header_not w before after x endless e = elim e [ ]
header_not w before after x (a_while {e = e} r) (in_while u) = condition_not w before after e r u
header_not w before after x (with_clauses i c p) (in_first u) = present_not (SimpleIsTyped w) (SimpleIsExcused w) (simple_excludes w) i u
header_not w before after x (with_clauses {condition = condition} i c p) (in_test j u) =
    present_not (ConditionIsTyped w) (UsesBroken w) (condition_not w) c (subst (λ z. ExcusedIfPresent ExprTree (UsesBroken w) z condition) (entered w j i) u)
header_not w before after x (with_clauses {post = post} i c p) (in_post j d u) =
    present_not (SimpleIsTyped w) (SimpleIsExcused w) (simple_excludes w) p (subst (λ z. ExcusedIfPresent SimpleTree (SimpleIsExcused w) z post)
    (tested w d (entered w j i) c) u)

-- statements

conditioned : (w : World) {before entered other tested behind : Locals} {o : Option InitTree} {e : ExprTree} →
    IfPresent InitTree (InitIsTyped w) before o entered →
    IfPresent InitTree (InitIsTyped w) before o other → ConditionIsTyped w entered e tested → ConditionIsTyped w other e behind → tested ≡ behind
conditioned w {entered = a} {other = b} {tested = c} {behind = d} {e = e} i j r q = condition_one w b c d e (subst (λ z. ConditionIsTyped w z e c) (present_one
    (InitIsTyped w) (init_one w) i j) r) q

pub targets_are : (results : List PlainType) → AreTargets (typed_targets results) results
targets_are [] = refl
targets_are (t ∷ ts) = ap (λ z. Wants (Some t) ∷ z) (targets_are ts)

statement_at : (w : World) (results : List PlainType) (before after : Locals) (x : StatementTree) → StatementIsTyped w results before x after →
    (check_statement w (typed_targets results) (start before) x).locals ≡ after
statement_at w results before after x r = let a = statement_true w results (typed_targets results) (targets_are results) r (start before) (at_start before) in
    a.locals_are

pub statement_one : (w : World) (results : List PlainType) → LeadsToOne (StatementIsTyped w results)
statement_one w results before after other x h k = sym (statement_at w results before after x h) ∙ statement_at w results before other x k

block_at : (w : World) (results : List PlainType) (before after : Locals) (x : BlockTree) → BlockIsTyped w results before x after →
    (check_block w (typed_targets results) (start before) x).locals ≡ after
block_at w results before after x r = let a = block_true w results (typed_targets results) (targets_are results) r (start before) (at_start before) in
    a.locals_are

block_one : (w : World) (results : List PlainType) → LeadsToOne (BlockIsTyped w results)
block_one w results before after other x h k = sym (block_at w results before after x h) ∙ block_at w results before other x k

mutual
  pub statement_not : (w : World) (results : List PlainType) {before after : Locals} {x : StatementTree} → StatementIsTyped w results before x after →
      StatementIsExcused w results before x → ⊥
  statement_not w results nothing e = elim e [ ]
  statement_not w results a_break e = elim e [ ]
  statement_not w results a_continue e = elim e [ ]
  statement_not w results (a_declaration r) (in_declaration e) = group_not (LocalIsTyped w) (LocalIsExcused w) (local_one w) (local_not w) r e
  statement_not w results (a_simple r) (in_simple e) = simple_not w r e
  statement_not w results (an_inner_block r) (in_inner e) = block_not w results r e
  statement_not w results (a_choice r) (in_choice e) = if_not w results r e
  statement_not w results (a_loop {before} {entered = inside} {h = h} r b) (in_header e) = header_not w before inside h r e
  statement_not w results (a_loop {before} {entered = inside} {h = h} {b = x} r b) (in_loop {entered = inner} q e) =
      block_not w results b (subst (λ z. BlockIsExcused w results z x) (header_one w before inner inside h q r) e)
  statement_not w results (a_return {locals} g t) (in_return u) = gives_unbroken w locals u g

  pub block_not : (w : World) (results : List PlainType) {before after : Locals} {x : BlockTree} → BlockIsTyped w results before x after →
      BlockIsExcused w results before x → ⊥
  block_not w results (a_block r) (in_block e) = statements_not w results r e

  statements_not : (w : World) (results : List PlainType) {before after : Locals} {x : StatementTrees} → StatementsAreTyped w results before x after →
      StatementsAreExcused w results before x → ⊥
  statements_not w results no_more e = elim e [ ]
  statements_not w results (one_more r more) (this_statement e) = statement_not w results r e
  statements_not w results (one_more {before} {inside} {s = s} {rest = rest} r more) (later_statement {inside = inner} q e) =
      statements_not w results more (subst (λ z. StatementsAreExcused w results z rest) (statement_one w results before inner inside s q r) e)

  if_not : (w : World) (results : List PlainType) {before after : Locals} {x : IfTree} → IfIsTyped w results before x after →
      IfIsExcused w results before x → ⊥
  if_not w results (an_if i c b o) (before_condition u) = present_not (InitIsTyped w) (InitIsExcused w) (init_not w) i u
  if_not w results (an_if {entered = inside} {tested = behind} {e = e} i c b o) (in_condition j u) =
      condition_not w inside behind e c (subst (λ z. UsesBroken w z e) (present_one (InitIsTyped w) (init_one w) j i) u)
  if_not w results (an_if {b = x} i c b o) (in_then j d u) = block_not w results b (subst (λ z. BlockIsExcused w results z x) (conditioned w j i d c) u)
  if_not w results (an_if {tested = behind} {inside = inner} {b = x} {otherwise = y} i c b o) (in_otherwise {inside = last} j d k u) =
      else_not w results o (subst (λ z. ElseIsExcused w results z y) (block_one w results behind last inner x (subst
      (λ z. BlockIsTyped w results z x last) (conditioned w j i d c) k) b) u)

  else_not : (w : World) (results : List PlainType) {before after : Locals} {x : ElseTree} → ElseIsTyped w results before x after →
      ElseIsExcused w results before x → ⊥
  else_not w results without_else e = elim e [ ]
  else_not w results (an_else_if r) (in_else_if e) = if_not w results r e
  else_not w results (an_else r) (in_else e) = block_not w results r e

-- functions

receiver_one : (w : World) → LeadsToOne (ReceiverIsTyped w)
receiver_one w = found_one (ReceiverIsTyped w) (check_receiver w) (receiver_true w)

receiver_not : (w : World) → Excludes (ReceiverIsTyped w) (ReceiverIsExcused w)
receiver_not w before after r (a_receiver e n b d) (of_broken f) = cc

param_one : (w : World) → LeadsToOne (ParamIsTyped w)
param_one w = found_one (ParamIsTyped w) (check_param w) (param_true w)

param_not : (w : World) → Excludes (ParamIsTyped w) (ParamIsExcused w)
param_not w before after p (a_param i d) (param_of_broken b) = no_type w b i

types_one : (w : World) {is : List (Item TypeTree)} {ts us : List PlainType} → AreTypes w is ts → AreTypes w is us → ts ≡ us
types_one w no_type_left no_type_left = refl
types_one w (also_type {t = t} {ts = ts} i more) (also_type {t = u} {ts = us} j others) = ap (λ z. z ∷ ts) (one_type w i j)
    ∙ ap (λ z. u ∷ z) (types_one w more others)

results_one : (w : World) {r : ResultTree} {ts us : List PlainType} → AreResults w r ts → AreResults w r us → ts ≡ us
results_one w none_written none_written = refl
results_one w (one_written i) (one_written j) = ap (λ z. z ∷ []) (one_type w i j)
results_one w (several_written r) (several_written q) = types_one w r q

types_not : (w : World) {is : List (Item TypeTree)} {ts : List PlainType} → AreTypes w is ts → AnyIsBrokenType w is → ⊥
types_not w no_type_left e = elim e [ ]
types_not w (also_type i more) (this_type b) = no_type w b i
types_not w (also_type i more) (later_type b) = types_not w more b

result_not : (w : World) {r : ResultTree} {ts : List PlainType} → AreResults w r ts → ResultIsExcused w r → ⊥
result_not w none_written e = elim e [ ]
result_not w (one_written i) (one_broken b) = no_type w b i
result_not w (several_written r) (one_of_several b) = types_not w r b

pub function_not : (w : World) (is_init : Bool) {before after : Locals} {f : FuncTree} → FunctionIsTyped w is_init before f after →
    FunctionIsExcused w before f → ⊥
function_not w is_init (a_function r p rs k body) (in_receiver e) = present_not (ReceiverIsTyped w) (ReceiverIsExcused w) (receiver_not w) r e
function_not w is_init {f = f} (a_function r p rs k body) (in_params q e) = items_not (ParamIsTyped w) (ParamIsExcused w) (param_one w) (param_not w) p (subst
    (λ z. ExcusedInTurn ParamTree (ParamIsTyped w) (ParamIsExcused w) z f.params) (present_one (ReceiverIsTyped w) (receiver_one w) q r) e)
function_not w is_init (a_function r p rs k body) (in_result e) = result_not w rs e
function_not w is_init {f = f} (a_function {received = a} {entered = b} {ts = ts} r p rs k body) (in_body {entered = c} {ts = us} q s us_are e) =
    let same : c ≡ b = items_one (ParamIsTyped w) (param_one w) (subst (λ z. InTurn ParamTree (ParamIsTyped w) z f.params c)
    (present_one (ReceiverIsTyped w) (receiver_one w) q r) s) p in
    block_not w ts body (subst (λ z. BlockIsExcused w ts z f.body) same (subst (λ z. BlockIsExcused w z c f.body) (results_one w us_are rs) e))

-- declarations of a package

global_one : (w : World) → LeadsToOne (GlobalIsTyped w)
global_one w = found_one (GlobalIsTyped w) (check_global w) (global_true w)

global_not : (w : World) → Excludes (GlobalIsTyped w) (GlobalIsExcused w)
global_not w before after g (without_values i e) (global_of_broken b) = no_type w b i
global_not w before after g (with_literals i e l t) (global_of_broken b) = no_type w b i

fields_not : (w : World) {is : List (Item FieldTree)} → FieldsAreTyped w is → FieldIsBroken w is → ⊥
fields_not w no_field_left e = elim e [ ]
fields_not w (also_field i more) (this_field b) = no_type w b i
fields_not w (also_field i more) (later_field b) = fields_not w more b

asked_not : (w : World) {is : List (Item ParamTree)} → AskedAreTyped w is → AskedIsBroken w is → ⊥
asked_not w no_param_left e = elim e [ ]
asked_not w (also_param i more) (this_param b) = no_type w b i
asked_not w (also_param i more) (later_param b) = asked_not w more b

methods_not : (w : World) {is : List (Item MethodTree)} → MethodsAreTyped w is → MethodIsBroken w is → ⊥
methods_not w no_method_left e = elim e [ ]
methods_not w (also_method ps rs more) (in_asked b) = asked_not w ps b
methods_not w (also_method ps rs more) (in_asked_result b) = result_not w rs b
methods_not w (also_method ps rs more) (later_method b) = methods_not w more b

body_not : (w : World) {b : BodyTree} → BodyIsTyped w b → BodyIsBroken w b → ⊥
body_not w (another_type i) (other_broken b) = no_type w b i
body_not w (a_struct fs) (in_struct b) = fields_not w fs b
body_not w (an_interface ms) (in_interface b) = methods_not w ms b

type_spec_one : (w : World) → LeadsToOne (TypeIsTyped w)
type_spec_one w = found_one (TypeIsTyped w) (check_type w) (type_spec_true w)

type_spec_not : (w : World) → Excludes (TypeIsTyped w) (TypeIsExcused w)
type_spec_not w before after t (a_definition_of b) (in_type_body e) = body_not w b e

decl_at : (w : World) (is_init : ℕ → Bool) (before after : Locals) (d : DeclTree) → DeclIsTyped w is_init before d after →
    (check_decl w is_init (start before) d).locals ≡ after
decl_at w is_init before after d r = let a = decl_true w is_init (start before) (at_start before) r in a.locals_are

pub decl_not : (w : World) (is_init : ℕ → Bool) {before after : Locals} {d : DeclTree} → DeclIsTyped w is_init before d after → DeclIsExcused w before d → ⊥
decl_not w is_init (variables r) (in_variables e) = group_not (GlobalIsTyped w) (GlobalIsExcused w) (global_one w) (global_not w) r e
decl_not w is_init (types r) (in_types e) = group_not (TypeIsTyped w) (TypeIsExcused w) (type_spec_one w) (type_spec_not w) r e
decl_not w is_init (one_function {f = f} r) (in_function e) = function_not w (is_init f.name) r e

decls_not : (w : World) (is_init : ℕ → Bool) {before after : Locals} {ds : List DeclTree} → DeclsAreTyped w is_init before ds after →
    DeclsAreExcused w is_init before ds → ⊥
decls_not w is_init no_decl e = elim e [ ]
decls_not w is_init (also_decl r more) (this_decl e) = decl_not w is_init r e
decls_not w is_init (also_decl {before} {inside} {d = d} {ds = ds} r more) (later_decl {inside = inner} q e) =
    decls_not w is_init more (subst (λ z. DeclsAreExcused w is_init z ds) (sym (decl_at w is_init before inner d q) ∙ decl_at w is_init before inside d r) e)

pub file_not : (w : World) (is_init : ℕ → Bool) (f : FileTree) → FileIsTyped w is_init f → FileIsExcused w is_init f → ⊥
file_not w is_init f (a_file r) (in_file e) = decls_not w is_init r e
