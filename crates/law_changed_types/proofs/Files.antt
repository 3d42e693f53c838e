-- What is found of statements, functions and files has the new numbers.
use Rattle.std.proofs.Common.{ℕ, ◌≡◌, ◌==◌, Bool, true, false, ◌&&◌, if◌then◌else◌, List, [], ◌∷◌, ◌++◌, map, length, Option, Some, None, is_none, option_map}
use Rattle.std.proofs.Common.{refl, sym, ap, ◌∙◌, subst}
use Rattle.std.proofs.lemmas.List.{length-map}
use Rattle.go_ast.specs.Tree.{Item, TypeTree, ExprTree, InitTree, ForTree, forever, while, clauses, StatementTree, Empty, Var, Simple, Inner, If, For, Break}
use Rattle.go_ast.specs.Tree.{Continue, Return, BlockTree, block, StatementTrees, no_statement, statement, IfTree, if_tree, ElseTree, no_else, else_if}
use Rattle.go_ast.specs.Tree.{else_block, FuncTree, ReceiverTree, ParamTree, ResultTree, no_result, one_result, DeclTree, VarDecl, TypeDecl, FuncDecl}
use Rattle.go_ast.specs.Tree.{FileTree, GlobalTree, TypeSpecTree, BasicTree, Integer, String, FieldTree, BodyTree, Other, MethodTree}
use Rattle.go_ast.specs.Tree as tree
use Rattle.types_expr.specs.Types.{PlainType}
use Rattle.types_expr.specs.World.{no_locals, World}
use Rattle.types_expr.specs.Judge.{ListValue, JudgedList, TypeJudged, all_whole, good_type, no_type_at, judge_type, named_type, Noted}
use Rattle.types_stmt.specs.Checked.{FoundSoFar, fault_if}
use Rattle.types_stmt.specs.Sides.{Target, Wants, rhs, with_locals, named, all_refused, receiving, all_entered, given_enterings}
use Rattle.types_stmt.specs.Simple.{check_local, written_locals}
use Rattle.types_stmt.specs.Statements.{returned, check_return, check_init, check_for_header, check_statement, check_block, check_statements}
use Rattle.types_stmt.specs.Statements.{check_if, check_else}
use Rattle.types_stmt.specs.Headers.{may_receive, receiver_or_fault, received, receiver_base, starred, judge_receiver, check_receiver, check_optional_receiver}
use Rattle.types_stmt.specs.Headers.{check_param, ResultsJudged, with_result, judge_types, judge_results, is_empty_list, is_bad_init, check_signature}
use Rattle.types_stmt.specs.Headers.{check_function}
use Rattle.types_stmt.specs.Declarations.{literal_value, first_name, literal_faults, value_faults, global_faults, field_faults, body_faults, check_global}
use Rattle.types_stmt.specs.Declarations.{check_type, check_decl, check_decls, check_file}
use Rattle.types_stmt.specs.Declarations.{asked_faults, param_faults, global_enterings, literal_enterings, value_enterings}
use Rattle.law_rename.specs.Renumbered.{items_by, ident_by, basic_by, type_by, exprs_by, values_by, local_by, init_by, for_by, statement_by, item_by, expr_by}
use Rattle.law_rename.specs.Renumbered.{block_by, statements_by, if_by, else_by, global_by, field_by, body_by, type_spec_by, receiver_by, param_by, result_by}
use Rattle.law_rename.specs.Renumbered.{func_by, decl_by, renumbered, method_by}
use Rattle.law_changed_types.specs.Renumbering.{IsRenumberedCheck, renumbered_noted, renumbered_uses}
use Rattle.law_changed_types.specs.Renumbers.{StatementsRenumber, FilesRenumber}
use Rattle.law_changed_types.proofs.Renumber.{Renumber, new, the_renumber, new_is, ap2, ap3, if_maps, two, giving_numbers, three}
use Rattle.law_changed_types.proofs.RenumberedTokensRules.{list_value, list_values, all_whole_stays}
use Rattle.law_changed_types.proofs.Literals.{type_found, written_found, named_type_found}
use Rattle.law_changed_types.proofs.Places.{names_begin}
use Rattle.law_changed_types.proofs.Sides.{rhs_found, all_refused_found, fault_if_found, named_found, with_locals_are, all_entered_found, given_enterings_found}
use Rattle.law_changed_types.proofs.RenumberedTokensParts.{Same, EachSame, judging, part, faulty, items, group, same_receiving}
use Rattle.law_changed_types.proofs.Simple.{constant, condition, simple, optional_simple, optional_condition, local, written_locals_are}

-- statements

returned_found : (m : Renumber) (place : ℕ) (vs : List ListValue) (ts : List Target) →
    returned (new m) (m.to place) (list_values m vs) ts ≡ map m.to (returned m.old place vs ts)
unfolding returned
returned_found m place vs ts =
    ap3 (λ (b : Bool) (fs gs : List ℕ). if b then fs else gs) (ap (λ z. z == length ts) (length-map vs (list_value m))) (all_refused_found m vs ts)
    (ap (λ z. fault_if z (m.to place)) (all_whole_stays m vs) ∙ fault_if_found m (all_whole vs) place)
    ∙ if_maps (map m.to) (length vs == length ts) (all_refused m.old vs ts) (fault_if (all_whole vs) place)

return_found : (m : Renumber) (s z : FoundSoFar) → Same m s z → (place : ℕ) (results : List Target) (es : List (Item ExprTree)) →
    Same m (check_return m.old s place results es) (check_return (new m) z (m.to place) results (exprs_by m.to es))
unfolding check_return
return_found m s z r place results es =
    let v = rhs m.old s.locals es in
    let same = rhs_found (judging m s z r) es in
    let x = giving_numbers (length v.values == length es) m in
    let sides = exprs_by m.to es in
    part m s z r s.locals z.locals r.locals (v.faults ++ returned x.old place v.values results) _
    (ap (λ (x : JudgedList). x.faults ++ returned (receiving (new m) sides x.values) (m.to place) x.values results) same
    ∙ (ap (λ (w : World). map m.to v.faults ++ returned w (m.to place) (list_values m v.values) results)
    (same_receiving m es sides v.values (length-map es (item_by m.to (expr_by m.to))))
    ∙ (ap (λ (fs : List ℕ). map m.to v.faults ++ fs) (returned_found x place v.values results)
    ∙ two m.to v.faults (returned x.old place v.values results)))) (v.uses ++ given_enterings x.old v.values results) _
    (ap (λ (x : JudgedList). x.uses ++ given_enterings (receiving (new m) sides x.values) x.values results) same
    ∙ (ap (λ (w : World). renumbered_uses m.to v.uses ++ given_enterings w (list_values m v.values) results)
    (same_receiving m es sides v.values (length-map es (item_by m.to (expr_by m.to))))
    ∙ (ap (λ (ns : List Noted). renumbered_uses m.to v.uses ++ ns) (given_enterings_found x v.values results)
    ∙ two (renumbered_noted m.to) v.uses (given_enterings x.old v.values results))))

init_found : (m : Renumber) (s z : FoundSoFar) → Same m s z → (i : Option InitTree) →
    Same m (check_init m.old s i) (check_init (new m) z (option_map (init_by m.to) i))
init_found m s z r None = r
init_found m s z r (Some i) = optional_simple m s z r i.simple

for_header : (m : Renumber) (s z : FoundSoFar) → Same m s z → (h : ForTree) → Same m (check_for_header m.old s h) (check_for_header (new m) z (for_by m.to h))
unfolding check_for_header
for_header m s z r forever = r
for_header m s z r (while e) = condition m s z r e
for_header m s z r (clauses init p test q post) =
    optional_simple m _ _ (optional_condition m _ _ (optional_simple m s z r init) test) post

mutual
  unfolding check_statement statement_by

  statement_found : (m : Renumber) (results : List Target) (s z : FoundSoFar) → Same m s z → (x : StatementTree) →
      Same m (check_statement m.old results s x) (check_statement (new m) results z (statement_by m.to x))
  statement_found m results s z r Empty = r
  statement_found m results s z r (Var p g) = group m (local_by m.to) (check_local m.old) (check_local (new m)) (local m) s z r g
  statement_found m results s z r (Simple a) = simple m s z r a
  statement_found m results s z r (Inner b) = block_found m results s z r b
  statement_found m results s z r (If i) = if_found m results s z r i
  statement_found m results s z r (For p h b) = block_found m results _ _ (for_header m s z r h) b
  statement_found m results s z r (Break p) = r
  statement_found m results s z r (Continue p) = r
  statement_found m results s z r (Return p es) = return_found m s z r p results es

  block_found : (m : Renumber) (results : List Target) (s z : FoundSoFar) → Same m s z → (b : BlockTree) →
      Same m (check_block m.old results s b) (check_block (new m) results z (block_by m.to b))
  block_found m results s z r (block o ss c) = statements_found m results s z r ss

  statements_found : (m : Renumber) (results : List Target) (s z : FoundSoFar) → Same m s z → (ss : StatementTrees) →
      Same m (check_statements m.old results s ss) (check_statements (new m) results z (statements_by m.to ss))
  statements_found m results s z r no_statement = r
  statements_found m results s z r (statement x p rest) = statements_found m results _ _ (statement_found m results s z r x) rest

  if_found : (m : Renumber) (results : List Target) (s z : FoundSoFar) → Same m s z → (i : IfTree) →
      Same m (check_if m.old results s i) (check_if (new m) results z (if_by m.to i))
  if_found m results s z r (if_tree p init e b otherwise) =
      else_found m results _ _ (block_found m results _ _ (condition m _ _ (init_found m s z r init) e) b) otherwise

  else_found : (m : Renumber) (results : List Target) (s z : FoundSoFar) → Same m s z → (x : ElseTree) →
      Same m (check_else m.old results s x) (check_else (new m) results z (else_by m.to x))
  else_found m results s z r no_else = r
  else_found m results s z r (else_if p i) = if_found m results s z r i
  else_found m results s z r (else_block p b) = block_found m results s z r b

pub statements_renumber : StatementsRenumber
statements_renumber t n v w h results s z r x =
    subst (λ y. IsRenumberedCheck t (check_statement v results s x) (check_statement y results z (statement_by t x))) (new_is t n v w h)
    (statement_found (the_renumber t n v w h) results s z r x)

-- receivers

receiver_or_fault_found : (m : Renumber) (place : ℕ) (t : Option PlainType) →
    receiver_or_fault (new m) (m.to place) t ≡ type_found m (receiver_or_fault m.old place t)
unfolding receiver_or_fault may_receive
receiver_or_fault_found m place None = refl
receiver_or_fault_found m place (Some t) = if_maps (type_found m) (may_receive m.old t) (good_type t) (no_type_at place)

received_found : (m : Renumber) (place : ℕ) (j : TypeJudged) → received (new m) (m.to place) (type_found m j) ≡ type_found m (received m.old place j)
received_found m place j =
    ap (λ (x : TypeJudged). record { type_of = x.type_of; faults = map m.to j.faults ++ x.faults }) (receiver_or_fault_found m place j.type_of)
    ∙ ap (λ (fs : List ℕ). record { type_of = (receiver_or_fault m.old place j.type_of).type_of; faults = fs })
    (two m.to j.faults (receiver_or_fault m.old place j.type_of).faults)

receiver_base_found : (m : Renumber) (place : ℕ) → receiver_base (new m) (m.to place) ≡ type_found m (receiver_base m.old place)
unfolding receiver_base
receiver_base_found m place =
    ap (received (new m) (m.to place)) (named_type_found m place) ∙ received_found m place (named_type (m.old.bound place) place)

starred_found : (m : Renumber) (star : Option ℕ) (t : TypeJudged) → starred (option_map m.to star) (type_found m t) ≡ type_found m (starred star t)
starred_found m None t = refl
starred_found m (Some p) t = refl

receiver_judged : (m : Renumber) (r : ReceiverTree) → judge_receiver (new m) (receiver_by m.to r) ≡ type_found m (judge_receiver m.old r)
unfolding judge_receiver
receiver_judged m r =
    ap (starred (option_map m.to r.star)) (receiver_base_found m r.type_name) ∙ starred_found m r.star (receiver_base m.old r.type_name)

receiver_found : (m : Renumber) (s z : FoundSoFar) → Same m s z → (r : Option ReceiverTree) →
    Same m (check_optional_receiver m.old s r) (check_optional_receiver (new m) z (option_map (receiver_by m.to) r))
unfolding check_receiver
receiver_found m s z a None = a
receiver_found m s z a (Some r) =
    let t = judge_receiver m.old r in
    let same = receiver_judged m r in
    part m s z a (with_locals s.locals (named r.name ∷ []) (t.type_of ∷ [])) _ (λ token.
    ap2 (λ (n : Option ℕ) (x : TypeJudged). with_locals z.locals (n ∷ []) (x.type_of ∷ []) (m.to token)) (named_found m r.name) same
    ∙ with_locals_are m s.locals z.locals (named r.name ∷ []) (t.type_of ∷ []) a.locals token) t.faults _ (ap (λ (x : TypeJudged). x.faults) same) [] _ refl

-- parameters and results

param_found : (m : Renumber) → EachSame m (param_by m.to) (check_param m.old) (check_param (new m))
unfolding check_param
param_found m s z r p =
    let t = judge_type m.old p.type_use in
    let same = written_found m p.type_use in
    part m s z r (written_locals s.locals p.names t.type_of) _ (λ token.
    ap (λ (x : TypeJudged). written_locals z.locals (items_by m.to (ident_by m.to) p.names) x.type_of (m.to token)) same
    ∙ written_locals_are m s.locals z.locals r.locals p.names t.type_of token) t.faults _ (ap (λ (x : TypeJudged). x.faults) same) [] _ refl

abbrev results_found : Renumber → ResultsJudged → ResultsJudged
results_found m r = record { wanted = r.wanted; faults = map m.to r.faults }

with_result_found : (m : Renumber) (t : TypeJudged) (rest : ResultsJudged) →
    with_result (type_found m t) (results_found m rest) ≡ results_found m (with_result t rest)
with_result_found m t rest = ap (λ (fs : List ℕ). record { wanted = Wants t.type_of ∷ rest.wanted; faults = fs }) (two m.to t.faults rest.faults)

types_are : (m : Renumber) (ts : List (Item TypeTree)) → judge_types (new m) (items_by m.to (type_by m.to) ts) ≡ results_found m (judge_types m.old ts)
unfolding judge_types
types_are m [] = refl
types_are m (i ∷ is) =
    ap2 (λ (t : TypeJudged) (rest : ResultsJudged). with_result t rest) (written_found m i.value) (types_are m is)
    ∙ with_result_found m (judge_type m.old i.value) (judge_types m.old is)

results_are : (m : Renumber) (r : ResultTree) → judge_results (new m) (result_by m.to r) ≡ results_found m (judge_results m.old r)
unfolding judge_results
results_are m no_result = refl
results_are m (one_result t) =
    ap (λ (x : TypeJudged). with_result x (record { wanted = []; faults = [] })) (written_found m t)
    ∙ with_result_found m (judge_type m.old t) (record { wanted = []; faults = [] })
results_are m (tree.results o ts c) = types_are m ts

-- functions

empty_stays : {X : Type 0} (m : Renumber) (h : X → X) (is : List (Item X)) → is_empty_list (items_by m.to h is) ≡ is_empty_list is
empty_stays m h [] = refl
empty_stays m h (i ∷ is) = refl

none_stays : {X : Type 0} (h : X → X) (x : Option X) → is_none (option_map h x) ≡ is_none x
none_stays h None = refl
none_stays h (Some x) = refl

same_init : (m : Renumber) (before after : Bool) (f : FuncTree) (wanted : List Target) → after ≡ before →
    is_bad_init after (func_by m.to f) wanted ≡ is_bad_init before f wanted
unfolding is_bad_init
same_init m before after f wanted e =
    ap3 (λ (a b c : Bool). a && (b && (if c then (if is_empty_list wanted then false else true) else true))) e
    (none_stays (receiver_by m.to) f.receiver) (empty_stays m (param_by m.to) f.params)

signature_found : (m : Renumber) (before after : Bool) (s z : FoundSoFar) → Same m s z → (f : FuncTree) → after ≡ before →
    Same m (check_signature m.old before s f) (check_signature (new m) after z (func_by m.to f))
unfolding check_signature
signature_found m before after s z r f e =
    let v = judge_results m.old f.result in
    let bad = fault_if (is_bad_init before f v.wanted) f.name in
    faulty m _ _ (items m (param_by m.to) (check_param m.old) (check_param (new m)) (param_found m) _ _ (receiver_found m s z r f.receiver) f.params)
    (v.faults ++ bad) _
    (ap (λ (x : ResultsJudged). x.faults ++ fault_if (is_bad_init after (func_by m.to f) x.wanted) (m.to f.name)) (results_are m f.result)
    ∙ (ap (λ (fs : List ℕ). map m.to v.faults ++ fs)
    (ap (λ (b : Bool). fault_if b (m.to f.name)) (same_init m before after f v.wanted e) ∙ fault_if_found m (is_bad_init before f v.wanted) f.name)
    ∙ two m.to v.faults bad))

function_found : (m : Renumber) (before after : Bool) (s z : FoundSoFar) → Same m s z → (f : FuncTree) → after ≡ before →
    Same m (check_function m.old before s f) (check_function (new m) after z (func_by m.to f))
unfolding check_function
function_found m before after s z r f e =
    let v = judge_results m.old f.result in
    subst (λ (x : ResultsJudged). Same m (check_function m.old before s f)
    (check_block (new m) x.wanted (check_signature (new m) after z (func_by m.to f)) (block_by m.to f.body)))
    (sym (results_are m f.result)) (block_found m v.wanted _ _ (signature_found m before after s z r f e) f.body)

-- declarations and files

literal_found : (m : Renumber) (b : BasicTree) → literal_value (basic_by m.to b) ≡ list_value m (literal_value b)
literal_found m (Integer n) = refl
literal_found m (String n) = refl

literals_found : (m : Renumber) (is : List (Item BasicTree)) →
    map (λ i. literal_value i.value) (items_by m.to (basic_by m.to) is) ≡ list_values m (map (λ i. literal_value i.value) is)
literals_found m [] = refl
literals_found m (i ∷ is) = ap2 (λ (v : ListValue) (vs : List ListValue). v ∷ vs) (literal_found m i.value) (literals_found m is)

literal_faults_found : (m : Renumber) (names : List (Item ℕ)) (t : Option PlainType) (literals : List (Item BasicTree)) →
    literal_faults (new m) (items_by m.to m.to names) t (items_by m.to (basic_by m.to) literals) ≡ map m.to (literal_faults m.old names t literals)
unfolding literal_faults
literal_faults_found m names t literals =
    let vs = map (λ (i : Item BasicTree). literal_value i.value) literals in
    let ts = map (λ (i : Item ℕ). Wants t) names in
    ap3 (λ (b : Bool) (fs gs : List ℕ). if b then fs else gs)
    (ap2 (λ x y. x == y) (length-map literals _) (length-map names _))
    (ap2 (all_refused (new m)) (literals_found m literals) (constant m m.to (Wants t) names) ∙ all_refused_found m vs ts)
    (ap (λ n. n ∷ []) (names_begin m names))
    ∙ if_maps (map m.to) (length literals == length names) (all_refused m.old vs ts) (first_name names ∷ [])

value_faults_found : (m : Renumber) (names : List (Item ℕ)) (t : Option PlainType) (v : Option (ℕ × List (Item BasicTree))) →
    value_faults (new m) (items_by m.to m.to names) t (option_map (values_by m.to (basic_by m.to)) v) ≡ map m.to (value_faults m.old names t v)
unfolding value_faults
value_faults_found m names t None = refl
value_faults_found m names t (Some v) = literal_faults_found m names t v.1

-- entries of literals

literal_enterings_found : (m : Renumber) (names : List (Item ℕ)) (t : Option PlainType) (literals : List (Item BasicTree)) →
    literal_enterings (new m) (items_by m.to m.to names) t (items_by m.to (basic_by m.to) literals) ≡
    renumbered_uses m.to (literal_enterings m.old names t literals)
unfolding literal_enterings
literal_enterings_found m names t literals =
    let vs = map (λ (i : Item BasicTree). literal_value i.value) literals in
    let ts = map (λ (i : Item ℕ). Wants t) names in
    ap2 (λ (b : Bool) (ns : List Noted). if b then ns else [])
    (ap2 (λ x y. x == y) (length-map literals _) (length-map names _))
    (ap2 (all_entered (new m)) (literals_found m literals) (constant m m.to (Wants t) names) ∙ all_entered_found m vs ts)
    ∙ if_maps (map (renumbered_noted m.to)) (length literals == length names) (all_entered m.old vs ts) []

value_enterings_found : (m : Renumber) (names : List (Item ℕ)) (t : Option PlainType) (v : Option (ℕ × List (Item BasicTree))) →
    value_enterings (new m) (items_by m.to m.to names) t (option_map (values_by m.to (basic_by m.to)) v) ≡
    renumbered_uses m.to (value_enterings m.old names t v)
unfolding value_enterings
value_enterings_found m names t None = refl
value_enterings_found m names t (Some v) = literal_enterings_found m names t v.1

global_enterings_found : (m : Renumber) (g : GlobalTree) → global_enterings (new m) (global_by m.to g) ≡ renumbered_uses m.to (global_enterings m.old g)
global_enterings_found m g =
    ap (λ (x : TypeJudged). value_enterings (new m) (items_by m.to m.to g.names) x.type_of (option_map (values_by m.to (basic_by m.to)) g.values))
    (written_found m g.type_use)
    ∙ value_enterings_found m g.names (judge_type m.old g.type_use).type_of g.values

global_faults_found : (m : Renumber) (g : GlobalTree) → global_faults (new m) (global_by m.to g) ≡ map m.to (global_faults m.old g)
unfolding global_faults
global_faults_found m g =
    let t = judge_type m.old g.type_use in
    let names = items_by m.to m.to g.names in
    let values = option_map (values_by m.to (basic_by m.to)) g.values in
    ap (λ (x : TypeJudged). x.faults ++ value_faults (new m) names x.type_of values) (written_found m g.type_use)
    ∙ (ap (λ (fs : List ℕ). map m.to t.faults ++ fs) (value_faults_found m g.names t.type_of g.values)
    ∙ two m.to t.faults (value_faults m.old g.names t.type_of g.values))

field_faults_found : (m : Renumber) (is : List (Item FieldTree)) →
    field_faults (new m) (items_by m.to (field_by m.to) is) ≡ map m.to (field_faults m.old is)
unfolding field_faults
field_faults_found m [] = refl
field_faults_found m (i ∷ is) =
    ap2 (λ (t : TypeJudged) (fs : List ℕ). t.faults ++ fs) (written_found m i.value.type_use) (field_faults_found m is)
    ∙ two m.to (judge_type m.old i.value.type_use).faults (field_faults m.old is)

param_faults_found : (m : Renumber) (is : List (Item ParamTree)) →
    param_faults (new m) (items_by m.to (param_by m.to) is) ≡ map m.to (param_faults m.old is)
unfolding param_faults
param_faults_found m [] = refl
param_faults_found m (i ∷ is) =
    ap2 (λ (t : TypeJudged) (fs : List ℕ). t.faults ++ fs) (written_found m i.value.type_use) (param_faults_found m is)
    ∙ two m.to (judge_type m.old i.value.type_use).faults (param_faults m.old is)

asked_faults_found : (m : Renumber) (is : List (Item MethodTree)) →
    asked_faults (new m) (items_by m.to (method_by m.to) is) ≡ map m.to (asked_faults m.old is)
unfolding asked_faults
asked_faults_found m [] = refl
asked_faults_found m (i ∷ is) =
    ap3 (λ (ps : List ℕ) (r : ResultsJudged) (fs : List ℕ). ps ++ (r.faults ++ fs)) (param_faults_found m i.value.params) (results_are m i.value.result)
    (asked_faults_found m is)
    ∙ three m.to (param_faults m.old i.value.params) (judge_results m.old i.value.result).faults (asked_faults m.old is)

body_faults_found : (m : Renumber) (b : BodyTree) → body_faults (new m) (body_by m.to b) ≡ map m.to (body_faults m.old b)
unfolding body_faults
body_faults_found m (Other t) = ap (λ (x : TypeJudged). x.faults) (written_found m t)
body_faults_found m (tree.Struct p o fs c) = field_faults_found m fs
body_faults_found m (tree.Interface p o ms c) = asked_faults_found m ms

decl_found : (m : Renumber) (before after : ℕ → Bool) → ((token : ℕ) → after (m.to token) ≡ before token) → (s z : FoundSoFar) → Same m s z → (d : DeclTree) →
    Same m (check_decl m.old before s d) (check_decl (new m) after z (decl_by m.to d))
unfolding check_decl
decl_found m before after e s z r (VarDecl p g c) =
    group m (global_by m.to) (check_global m.old) (check_global (new m)) (λ y w q x. part m y w q y.locals w.locals q.locals (global_faults m.old x) _
    (global_faults_found m x) (global_enterings m.old x) _ (global_enterings_found m x)) s z r g
decl_found m before after e s z r (TypeDecl p g c) =
    group m (type_spec_by m.to) (check_type m.old) (check_type (new m))
    (λ y w q x. faulty m y w q (body_faults m.old x.body) _ (body_faults_found m x.body)) s z r g
decl_found m before after e s z r (FuncDecl p f c) = function_found m (before f.name) (after (m.to f.name)) s z r f (e f.name)

decls_found : (m : Renumber) (before after : ℕ → Bool) → ((token : ℕ) → after (m.to token) ≡ before token) → (s z : FoundSoFar) → Same m s z →
    (ds : List DeclTree) → Same m (check_decls m.old before s ds) (check_decls (new m) after z (map (decl_by m.to) ds))
unfolding check_decls
decls_found m before after e s z r [] = r
decls_found m before after e s z r (d ∷ ds) =
    decls_found m before after e (check_decl m.old before s d) (check_decl (new m) after z (decl_by m.to d)) (decl_found m before after e s z r d) ds

pub files_renumber : FilesRenumber
unfolding check_file
files_renumber t n v w h before after e f =
    let nothing : FoundSoFar = record { locals = no_locals; faults = []; uses = [] } in
    subst (λ y. IsRenumberedCheck t (check_file v before f) (check_file y after (renumbered t f))) (new_is t n v w h)
    (decls_found (the_renumber t n v w h) before after e nothing nothing (record { locals = λ token. refl; faults = refl; uses = refl }) f.decls)
