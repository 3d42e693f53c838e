-- What is found of statements, functions and files moves.
use Rattle.std.proofs.Common.{ℕ, ◌≡◌, ◌==◌, Bool, true, false, ◌&&◌, if◌then◌else◌, List, [], ◌∷◌, ◌++◌, map, length, Option, Some, None, is_none, option_map}
use Rattle.std.proofs.Common.{refl, sym, ap, ◌∙◌}
use Rattle.std.specs.List.{Contains}
use Rattle.base_lemmas.proofs.Elements.{first_in, later_in}
use Rattle.go_ast.specs.Tree.{Item, TypeTree, ExprTree, InitTree, ForTree, forever, while, clauses, StatementTree, Empty, Var, Simple, Inner, If, For, Break}
use Rattle.go_ast.specs.Tree.{Continue, Return, BlockTree, block, StatementTrees, no_statement, statement, IfTree, if_tree, ElseTree, no_else, else_if}
use Rattle.go_ast.specs.Tree.{else_block, FuncTree, ReceiverTree, ParamTree, ResultTree, no_result, one_result, DeclTree, VarDecl, TypeDecl, FuncDecl}
use Rattle.go_ast.specs.Tree.{FileTree, GlobalTree, TypeSpecTree, BasicTree, Integer, String, FieldTree, BodyTree, Other, MethodTree}
use Rattle.go_ast.specs.Tree as tree
use Rattle.types_expr.specs.Types.{PlainType, BasicType, Defined, Pointer, Slice, takes_no_methods}
use Rattle.types_expr.specs.World.{no_locals, World}
use Rattle.types_expr.specs.Judge.{ListValue, JudgedList, TypeJudged, good_type, no_type_at, judge_type, named_type, Noted}
use Rattle.types_stmt.specs.Checked.{FoundSoFar, with_declared, with_found, fault_if, check_items}
use Rattle.types_stmt.specs.Sides.{Target, Wants, rhs, with_locals, named, all_refused, receiving, all_entered, given_enterings}
use Rattle.types_stmt.specs.Simple.{check_optional_simple, check_optional_condition, check_condition, check_local, written_locals}
use Rattle.types_stmt.specs.Statements.{returned, returning, check_return, check_init, check_for_header, check_statement, check_block, check_statements}
use Rattle.types_stmt.specs.Statements.{check_if, check_else}
use Rattle.types_stmt.specs.Headers.{may_receive, receiver_or_fault, received, receiver_base, starred, judge_receiver, check_receiver, check_optional_receiver}
use Rattle.types_stmt.specs.Headers.{check_param, ResultsJudged, with_result, judge_types, judge_results, is_empty_list, is_bad_init, check_signature}
use Rattle.types_stmt.specs.Headers.{check_function}
use Rattle.types_stmt.specs.Declarations.{literal_value, first_name, literal_faults, value_faults, global_faults, field_faults, body_faults, check_global}
use Rattle.types_stmt.specs.Declarations.{check_type, check_decl, check_decls, check_file}
use Rattle.types_stmt.specs.Declarations.{asked_faults, param_faults, global_enterings, literal_enterings, value_enterings}
use Rattle.law_changed_types.specs.MemberUses.{AgreesOnInit}
use Rattle.law_changed_types.specs.Moved.{moved_type, moved_locals, moved_target, moved_checked, moved_noted}
use Rattle.law_changed_types.specs.Moves.{StatementsMove, FilesMove}
use Rattle.law_changed_types.proofs.Moving.{Move, the_move, ap2, ap3, if_moves, of_first}
use Rattle.law_changed_types.proofs.TypesMove.{same_takes, giving_move}
use Rattle.law_changed_types.proofs.RulesMove.{moved_value, moved_values, moved_list, all_whole_stays, two_uses}
use Rattle.law_changed_types.proofs.LiteralsMove.{moved_written, named_type_moves, under_pointer, type_moves}
use Rattle.law_changed_types.proofs.SidesMove.{moved_targets, rhs_moves, counts_stay, all_refused_stay, with_locals_moves}
use Rattle.law_changed_types.proofs.SidesMove.{all_entered_move, given_enterings_move, none_moves}
use Rattle.law_changed_types.proofs.PartsMove.{IsMoved, unchecked, same_as, and_then, part, faulty, declared_after, items, group, same_receiving}
use Rattle.law_changed_types.proofs.SimpleMove.{condition, simple, optional_simple, optional_condition, local, written_locals_move, constant_moves}
use Rattle.law_changed_types.proofs.FileUses.{init_matters}

-- statements

returned_stays : (m : Move) (place : ℕ) (vs : List ListValue) (ts : List Target) →
    returned m.new place (moved_values m vs) (moved_targets m ts) ≡ returned m.old place vs ts
unfolding returned
returned_stays m place vs ts =
    ap3 (λ (c : Bool) (fs : List ℕ) (b : Bool). if c then fs else fault_if b place) (counts_stay m vs ts) (all_refused_stay m vs ts) (all_whole_stays m vs)

return_found : (m : Move) (s : FoundSoFar) (place : ℕ) (results : List Target) (es : List (Item ExprTree)) →
    IsMoved m s (check_return m.old s place results es) (check_return m.new (moved_checked m.path s) place (moved_targets m results) es)
unfolding check_return
return_found m s place results es =
    let r = rhs m.old s.locals es in
    let old = moved_checked m.path s in
    let x = giving_move (length r.values == length es) m in
    let entries = given_enterings x.old r.values results in
    part s s.locals (r.faults ++ returned x.old place r.values results) (r.uses ++ entries) (check_return m.new old place (moved_targets m results) es) (λ h.
    ap (λ (z : JudgedList). returning (receiving m.new es z.values) old place (moved_targets m results) z) (rhs_moves m s.locals es (of_first r.uses entries h))
    ∙ (ap (λ (z : World). returning z old place (moved_targets m results) (moved_list m r)) (same_receiving m es r.values)
    ∙ (ap2 (λ (z : List ℕ) (us : List Noted). with_found old (r.faults ++ z) us) (returned_stays x place r.values results)
    (ap (λ (us : List Noted). map (moved_noted m.path) r.uses ++ us) (given_enterings_move x r.values results) ∙ two_uses m r.uses entries)
    ∙ declared_after m s s.locals (moved_locals m.path s.locals) (r.faults ++ returned x.old place r.values results) (r.uses ++ entries) refl)))

init_found : (m : Move) (s : FoundSoFar) (i : Option InitTree) → IsMoved m s (check_init m.old s i) (check_init m.new (moved_checked m.path s) i)
init_found m s None = unchecked s
init_found m s (Some i) = optional_simple m s i.simple

for_header : (m : Move) (s : FoundSoFar) (h : ForTree) → IsMoved m s (check_for_header m.old s h) (check_for_header m.new (moved_checked m.path s) h)
unfolding check_for_header
for_header m s forever = unchecked s
for_header m s (while e) = condition m s e
for_header m s (clauses init p test q post) =
    let old = moved_checked m.path s in
    and_then (check_optional_condition m.old (check_optional_simple m.old s init) test)
    (check_optional_condition m.new (check_optional_simple m.new old init) test)
    (λ z. check_optional_simple m.old z post) (λ z. check_optional_simple m.new z post)
    (and_then (check_optional_simple m.old s init) (check_optional_simple m.new old init) (λ z. check_optional_condition m.old z test)
    (λ z. check_optional_condition m.new z test) (optional_simple m s init) (λ z. optional_condition m z test))
    (λ z. optional_simple m z post)

mutual
  unfolding check_statement

  statement_found : (m : Move) (results : List Target) (s : FoundSoFar) (x : StatementTree) →
      IsMoved m s (check_statement m.old results s x) (check_statement m.new (moved_targets m results) (moved_checked m.path s) x)
  statement_found m results s Empty = unchecked s
  statement_found m results s (Var p g) = group (check_local m.old) (check_local m.new) (λ z l. local m z l) s g
  statement_found m results s (Simple a) = simple m s a
  statement_found m results s (Inner b) = block_found m results s b
  statement_found m results s (If i) = if_found m results s i
  statement_found m results s (For p h b) =
      and_then (check_for_header m.old s h) (check_for_header m.new (moved_checked m.path s) h) (λ z. check_block m.old results z b)
      (λ z. check_block m.new (moved_targets m results) z b) (for_header m s h) (λ z. block_found m results z b)
  statement_found m results s (Break p) = unchecked s
  statement_found m results s (Continue p) = unchecked s
  statement_found m results s (Return p es) = return_found m s p results es

  block_found : (m : Move) (results : List Target) (s : FoundSoFar) (b : BlockTree) →
      IsMoved m s (check_block m.old results s b) (check_block m.new (moved_targets m results) (moved_checked m.path s) b)
  block_found m results s (block o ss c) = statements_found m results s ss

  statements_found : (m : Move) (results : List Target) (s : FoundSoFar) (ss : StatementTrees) →
      IsMoved m s (check_statements m.old results s ss) (check_statements m.new (moved_targets m results) (moved_checked m.path s) ss)
  statements_found m results s no_statement = unchecked s
  statements_found m results s (statement x p rest) =
      and_then (check_statement m.old results s x) (check_statement m.new (moved_targets m results) (moved_checked m.path s) x)
      (λ z. check_statements m.old results z rest) (λ z. check_statements m.new (moved_targets m results) z rest)
      (statement_found m results s x) (λ z. statements_found m results z rest)

  if_found : (m : Move) (results : List Target) (s : FoundSoFar) (i : IfTree) →
      IsMoved m s (check_if m.old results s i) (check_if m.new (moved_targets m results) (moved_checked m.path s) i)
  if_found m results s (if_tree p init e b otherwise) =
      let rs = moved_targets m results in
      let old = moved_checked m.path s in
      and_then (check_block m.old results (check_condition m.old (check_init m.old s init) e) b)
      (check_block m.new rs (check_condition m.new (check_init m.new old init) e) b)
      (λ z. check_else m.old results z otherwise) (λ z. check_else m.new rs z otherwise)
      (and_then (check_condition m.old (check_init m.old s init) e) (check_condition m.new (check_init m.new old init) e)
      (λ z. check_block m.old results z b) (λ z. check_block m.new rs z b)
      (and_then (check_init m.old s init) (check_init m.new old init) (λ z. check_condition m.old z e) (λ z. check_condition m.new z e)
      (init_found m s init) (λ z. condition m z e)) (λ z. block_found m results z b)) (λ z. else_found m results z otherwise)

  else_found : (m : Move) (results : List Target) (s : FoundSoFar) (x : ElseTree) →
      IsMoved m s (check_else m.old results s x) (check_else m.new (moved_targets m results) (moved_checked m.path s) x)
  else_found m results s no_else = unchecked s
  else_found m results s (else_if p i) = if_found m results s i
  else_found m results s (else_block p b) = block_found m results s b

pub statements_move : StatementsMove
statements_move g inj v w results s x h =
    let found = statement_found (the_move g inj v w h) results s x in
    found.same (record { each = λ u c. h.members u c })

-- receivers

may_receive_stays : (m : Move) (t : PlainType) → may_receive m.new (moved_type m.path t) ≡ may_receive m.old t
unfolding may_receive
may_receive_stays m (BasicType b) = refl
may_receive_stays m (Defined s) = ap (λ z. if z then false else true) (ap takes_no_methods (m.definition s) ∙ same_takes m (m.old.definition s))
may_receive_stays m (Pointer t) = refl
may_receive_stays m (Slice t) = refl

receiver_or_fault_moves : (m : Move) (place : ℕ) (t : Option PlainType) →
    receiver_or_fault m.new place (option_map (moved_type m.path) t) ≡ moved_written m (receiver_or_fault m.old place t)
unfolding receiver_or_fault
receiver_or_fault_moves m place None = refl
receiver_or_fault_moves m place (Some t) =
    if_moves (moved_written m) (may_receive m.old t) _ (good_type t) (no_type_at place) (may_receive_stays m t)

received_moves : (m : Move) (place : ℕ) (j : TypeJudged) → received m.new place (moved_written m j) ≡ moved_written m (received m.old place j)
received_moves m place j =
    ap (λ (z : TypeJudged). record { type_of = z.type_of; faults = j.faults ++ z.faults }) (receiver_or_fault_moves m place j.type_of)

receiver_base_moves : (m : Move) (place : ℕ) → receiver_base m.new place ≡ moved_written m (receiver_base m.old place)
unfolding receiver_base
receiver_base_moves m place = ap (received m.new place) (named_type_moves m place) ∙ received_moves m place (named_type (m.old.bound place) place)

starred_moves : (m : Move) (star : Option ℕ) (t : TypeJudged) → starred star (moved_written m t) ≡ moved_written m (starred star t)
starred_moves m None t = refl
starred_moves m (Some p) t = under_pointer m t

receiver_moves : (m : Move) (r : ReceiverTree) → judge_receiver m.new r ≡ moved_written m (judge_receiver m.old r)
unfolding judge_receiver
receiver_moves m r = ap (starred r.star) (receiver_base_moves m r.type_name) ∙ starred_moves m r.star (receiver_base m.old r.type_name)

receiver_found : (m : Move) (s : FoundSoFar) (r : Option ReceiverTree) →
    IsMoved m s (check_optional_receiver m.old s r) (check_optional_receiver m.new (moved_checked m.path s) r)
unfolding check_receiver
receiver_found m s None = unchecked s
receiver_found m s (Some r) =
    let t = judge_receiver m.old r in
    let old = moved_checked m.path s in
    let names : List (Option ℕ) = named r.name ∷ [] in
    part s (with_locals s.locals names (t.type_of ∷ [])) t.faults [] (check_receiver m.new old r) (λ h.
    ap (λ (z : TypeJudged). with_declared old (with_locals old.locals names (z.type_of ∷ [])) z.faults []) (receiver_moves m r)
    ∙ declared_after m s (with_locals s.locals names (t.type_of ∷ [])) _ t.faults [] (with_locals_moves m s.locals names (t.type_of ∷ [])))

-- parameters and results

param_found : (m : Move) (s : FoundSoFar) (p : ParamTree) → IsMoved m s (check_param m.old s p) (check_param m.new (moved_checked m.path s) p)
unfolding check_param
param_found m s p =
    let t = judge_type m.old p.type_use in
    let old = moved_checked m.path s in
    part s (written_locals s.locals p.names t.type_of) t.faults [] (check_param m.new old p) (λ h.
    ap (λ (z : TypeJudged). with_declared old (written_locals old.locals p.names z.type_of) z.faults []) (type_moves m p.type_use)
    ∙ declared_after m s (written_locals s.locals p.names t.type_of) _ t.faults [] (written_locals_move m s.locals p.names t.type_of))

abbrev moved_results : Move → ResultsJudged → ResultsJudged
moved_results m r = record { wanted = moved_targets m r.wanted; faults = r.faults }

types_move : (m : Move) (ts : List (Item TypeTree)) → judge_types m.new ts ≡ moved_results m (judge_types m.old ts)
unfolding judge_types
types_move m [] = refl
types_move m (i ∷ is) = ap2 (λ (t : TypeJudged) (rest : ResultsJudged). with_result t rest) (type_moves m i.value) (types_move m is)

results_move : (m : Move) (r : ResultTree) → judge_results m.new r ≡ moved_results m (judge_results m.old r)
unfolding judge_results
results_move m no_result = refl
results_move m (one_result t) = ap (λ (z : TypeJudged). with_result z (record { wanted = []; faults = [] })) (type_moves m t)
results_move m (tree.results o ts c) = types_move m ts

-- functions: whether one is `init` matters only where it has no receiver

no_init : (old new : Bool) → (new && false) ≡ (old && false)
no_init true true = refl
no_init true false = refl
no_init false true = refl
no_init false false = refl

empty_stays : (m : Move) (ts : List Target) → is_empty_list (moved_targets m ts) ≡ is_empty_list ts
empty_stays m [] = refl
empty_stays m (t ∷ ts) = refl

same_init : (m : Move) (old new : Bool) (f : FuncTree) (wanted : List Target) → (f.receiver ≡ None → new ≡ old) →
    is_bad_init new f (moved_targets m wanted) ≡ is_bad_init old f wanted
unfolding is_bad_init
same_init m old new f wanted e =
    ap (λ (z : Bool). new && (is_none f.receiver && (if is_empty_list f.params then (if z then false else true) else true))) (empty_stays m wanted)
    ∙ init_matters f.receiver old new (if is_empty_list f.params then (if is_empty_list wanted then false else true) else true) e

signature_found : (m : Move) (old new : Bool) (s : FoundSoFar) (f : FuncTree) → (f.receiver ≡ None → new ≡ old) →
    IsMoved m s (check_signature m.old old s f) (check_signature m.new new (moved_checked m.path s) f)
unfolding check_signature
signature_found m old new s f e =
    let r = judge_results m.old f.result in
    let before : Bool → ResultsJudged → List ℕ = λ i x. x.faults ++ fault_if (is_bad_init i f x.wanted) f.name in
    and_then (check_items (check_param m.old) (check_optional_receiver m.old s f.receiver) f.params)
    (check_items (check_param m.new) (check_optional_receiver m.new (moved_checked m.path s) f.receiver) f.params)
    (λ z. with_found z (before old r) []) (λ z. with_found z (before new (judge_results m.new f.result)) [])
    (and_then (check_optional_receiver m.old s f.receiver) (check_optional_receiver m.new (moved_checked m.path s) f.receiver)
    (λ z. check_items (check_param m.old) z f.params) (λ z. check_items (check_param m.new) z f.params) (receiver_found m s f.receiver)
    (λ z. items (check_param m.old) (check_param m.new) (λ y p. param_found m y p) z f.params))
    (λ z. faulty z (before old r) (before new (judge_results m.new f.result))
    (ap (before new) (results_move m f.result) ∙ ap (λ (b : Bool). r.faults ++ fault_if b f.name) (same_init m old new f r.wanted e)))

function_found : (m : Move) (old new : Bool) (s : FoundSoFar) (f : FuncTree) → (f.receiver ≡ None → new ≡ old) →
    IsMoved m s (check_function m.old old s f) (check_function m.new new (moved_checked m.path s) f)
unfolding check_function
function_found m old new s f e =
    let r = judge_results m.old f.result in
    let before = moved_checked m.path s in
    and_then (check_signature m.old old s f) (check_signature m.new new before f) (λ z. check_block m.old r.wanted z f.body)
    (λ z. check_block m.new (judge_results m.new f.result).wanted z f.body) (signature_found m old new s f e)
    (λ z. same_as (check_block m.new (moved_targets m r.wanted) (moved_checked m.path z) f.body) _
    (ap (λ (x : ResultsJudged). check_block m.new x.wanted (moved_checked m.path z) f.body) (results_move m f.result)) (block_found m r.wanted z f.body))

-- declarations and files

literal_stays : (m : Move) (b : BasicTree) → moved_value m (literal_value b) ≡ literal_value b
literal_stays m (Integer n) = refl
literal_stays m (String n) = refl

literals_stay : (m : Move) (is : List (Item BasicTree)) → map (λ i. literal_value i.value) is ≡ moved_values m (map (λ i. literal_value i.value) is)
literals_stay m [] = refl
literals_stay m (i ∷ is) = ap2 (λ (v : ListValue) (vs : List ListValue). v ∷ vs) (sym (literal_stays m i.value)) (literals_stay m is)

literal_faults_stay : (m : Move) (names : List (Item ℕ)) (t : Option PlainType) (literals : List (Item BasicTree)) →
    literal_faults m.new names (option_map (moved_type m.path) t) literals ≡ literal_faults m.old names t literals
unfolding literal_faults
literal_faults_stay m names t literals =
    let values = map (λ (i : Item BasicTree). literal_value i.value) literals in
    ap (λ (fs : List ℕ). if length literals == length names then fs else first_name names ∷ [])
    (ap2 (all_refused m.new) (literals_stay m literals) (constant_moves (moved_target m.path) (Wants t) names)
    ∙ all_refused_stay m values (map (λ i. Wants t) names))

value_faults_stay : (m : Move) (names : List (Item ℕ)) (t : Option PlainType) (v : Option (ℕ × List (Item BasicTree))) →
    value_faults m.new names (option_map (moved_type m.path) t) v ≡ value_faults m.old names t v
unfolding value_faults
value_faults_stay m names t None = refl
value_faults_stay m names t (Some v) = literal_faults_stay m names t v.1

-- entries of literals

literal_enterings_move : (m : Move) (names : List (Item ℕ)) (t : Option PlainType) (literals : List (Item BasicTree)) →
    literal_enterings m.new names (option_map (moved_type m.path) t) literals ≡ map (moved_noted m.path) (literal_enterings m.old names t literals)
unfolding literal_enterings
literal_enterings_move m names t literals =
    let values = map (λ (i : Item BasicTree). literal_value i.value) literals in
    let targets = map (λ (i : Item ℕ). Wants t) names in
    ap (λ (ns : List Noted). if length literals == length names then ns else [])
    (ap2 (all_entered m.new) (literals_stay m literals) (constant_moves (moved_target m.path) (Wants t) names) ∙ all_entered_move m values targets)
    ∙ none_moves m (length literals == length names) (all_entered m.old values targets)

value_enterings_move : (m : Move) (names : List (Item ℕ)) (t : Option PlainType) (v : Option (ℕ × List (Item BasicTree))) →
    value_enterings m.new names (option_map (moved_type m.path) t) v ≡ map (moved_noted m.path) (value_enterings m.old names t v)
unfolding value_enterings
value_enterings_move m names t None = refl
value_enterings_move m names t (Some v) = literal_enterings_move m names t v.1

global_enterings_move : (m : Move) (g : GlobalTree) → global_enterings m.new g ≡ map (moved_noted m.path) (global_enterings m.old g)
global_enterings_move m g =
    ap (λ (z : TypeJudged). value_enterings m.new g.names z.type_of g.values) (type_moves m g.type_use)
    ∙ value_enterings_move m g.names (judge_type m.old g.type_use).type_of g.values

global_faults_stay : (m : Move) (g : GlobalTree) → global_faults m.new g ≡ global_faults m.old g
unfolding global_faults
global_faults_stay m g =
    let t = judge_type m.old g.type_use in
    ap (λ (z : TypeJudged). z.faults ++ value_faults m.new g.names z.type_of g.values) (type_moves m g.type_use)
    ∙ ap (λ (fs : List ℕ). t.faults ++ fs) (value_faults_stay m g.names t.type_of g.values)

field_faults_stay : (m : Move) (is : List (Item FieldTree)) → field_faults m.new is ≡ field_faults m.old is
unfolding field_faults
field_faults_stay m [] = refl
field_faults_stay m (i ∷ is) =
    ap2 (λ (t : TypeJudged) (fs : List ℕ). t.faults ++ fs) (type_moves m i.value.type_use) (field_faults_stay m is)

param_faults_stay : (m : Move) (is : List (Item ParamTree)) → param_faults m.new is ≡ param_faults m.old is
unfolding param_faults
param_faults_stay m [] = refl
param_faults_stay m (i ∷ is) =
    ap2 (λ (t : TypeJudged) (fs : List ℕ). t.faults ++ fs) (type_moves m i.value.type_use) (param_faults_stay m is)

asked_faults_stay : (m : Move) (is : List (Item MethodTree)) → asked_faults m.new is ≡ asked_faults m.old is
unfolding asked_faults
asked_faults_stay m [] = refl
asked_faults_stay m (i ∷ is) = ap3 (λ (ps : List ℕ) (r : ResultsJudged) (fs : List ℕ). ps ++ (r.faults ++ fs)) (param_faults_stay m i.value.params)
    (results_move m i.value.result) (asked_faults_stay m is)

body_faults_stay : (m : Move) (b : BodyTree) → body_faults m.new b ≡ body_faults m.old b
unfolding body_faults
body_faults_stay m (Other t) = ap (λ (z : TypeJudged). z.faults) (type_moves m t)
body_faults_stay m (tree.Struct p o fs c) = field_faults_stay m fs
body_faults_stay m (tree.Interface p o ms c) = asked_faults_stay m ms

global_found : (m : Move) (s : FoundSoFar) (g : GlobalTree) → IsMoved m s (check_global m.old s g) (check_global m.new (moved_checked m.path s) g)
global_found m s g = part s s.locals (global_faults m.old g) (global_enterings m.old g) _ (λ h.
    ap2 (λ (fs : List ℕ) (us : List Noted). with_declared (moved_checked m.path s) (moved_locals m.path s.locals) fs us) (global_faults_stay m g)
    (global_enterings_move m g)
    ∙ declared_after m s s.locals (moved_locals m.path s.locals) (global_faults m.old g) (global_enterings m.old g) refl)

decl_found : (m : Move) (old new : ℕ → Bool) (s : FoundSoFar) (d : DeclTree) → AgreesOnInit old new d →
    IsMoved m s (check_decl m.old old s d) (check_decl m.new new (moved_checked m.path s) d)
unfolding check_decl
decl_found m old new s (VarDecl p g c) e =
    group (check_global m.old) (check_global m.new) (λ z x. global_found m z x) s g
decl_found m old new s (TypeDecl p g c) e =
    group (check_type m.old) (check_type m.new) (λ z x. faulty z (body_faults m.old x.body) (body_faults m.new x.body) (body_faults_stay m x.body)) s g
decl_found m old new s (FuncDecl p f c) e = function_found m (old f.name) (new f.name) s f e

decls_found : (m : Move) (old new : ℕ → Bool) (s : FoundSoFar) (ds : List DeclTree) →
    ((d : DeclTree) → Contains ds d → AgreesOnInit old new d) → IsMoved m s (check_decls m.old old s ds) (check_decls m.new new (moved_checked m.path s) ds)
unfolding check_decls
decls_found m old new s [] e = unchecked s
decls_found m old new s (d ∷ ds) e =
    and_then (check_decl m.old old s d) (check_decl m.new new (moved_checked m.path s) d) (λ z. check_decls m.old old z ds)
    (λ z. check_decls m.new new z ds) (decl_found m old new s d (e d (first_in d ds))) (λ z. decls_found m old new z ds (λ x c. e x (later_in d ds x c)))

pub files_move : FilesMove
unfolding check_file
files_move g inj v w old new f e h =
    let nothing : FoundSoFar = record { locals = no_locals; faults = []; uses = [] } in
    let found = decls_found (the_move g inj v w h) old new nothing f.decls e in
    found.same (record { each = λ u c. h.members u c })
