-- What is found of statements, functions and files asks for the members of their uses alone.
use Rattle.std.proofs.Common.{ℕ, ◌≡◌, Bool, true, false, ◌&&◌, if◌then◌else◌, List, [], ◌∷◌, ◌++◌, Option, Some, None, is_none, refl, sym, ap, ◌∙◌}
use Rattle.std.specs.List.{Contains}
use Rattle.base_lemmas.proofs.Elements.{first_in, later_in}
use Rattle.go_ast.specs.Tree.{Item, ExprTree, InitTree, ForTree, forever, while, clauses, StatementTree, Empty, Var, Simple, Inner, If, For, Break}
use Rattle.go_ast.specs.Tree.{Continue, Return, BlockTree, block, StatementTrees, no_statement, statement, IfTree, if_tree, ElseTree, no_else, else_if}
use Rattle.go_ast.specs.Tree.{else_block, FuncTree, ReceiverTree, ParamTree, DeclTree, VarDecl, TypeDecl, FuncDecl, FileTree, GlobalTree, TypeSpecTree}
use Rattle.types_expr.specs.World.{World, no_locals}
use Rattle.types_expr.specs.Judge.{JudgedList, judge_type, imported_type}
use Rattle.types_stmt.specs.Checked.{FoundSoFar, with_found, fault_if, check_items}
use Rattle.types_stmt.specs.Sides.{Target, rhs, with_locals, named, receiving, given_enterings}
use Rattle.types_stmt.specs.Simple.{check_optional_simple, check_optional_condition, check_condition, check_local, written_locals}
use Rattle.types_stmt.specs.Statements.{returned, returning, check_return, check_init, check_for_header, check_statement, check_block, check_statements}
use Rattle.types_stmt.specs.Statements.{check_if, check_else}
use Rattle.types_stmt.specs.Headers.{ResultsJudged, judge_receiver, check_receiver, check_optional_receiver, check_param, judge_types, judge_results}
use Rattle.types_stmt.specs.Headers.{is_bad_init, check_signature, check_function, is_empty_list}
use Rattle.types_stmt.specs.Declarations.{global_faults, global_enterings, body_faults, check_global, check_type, check_decl, check_decls, check_file}
use Rattle.law_changed_types.specs.MemberUses.{AgreesOnInit, FilesAskForTheirUses}
use Rattle.law_changed_types.proofs.Agreement.{Members, with_members, of_first, only_members_differ, members_agree}
use Rattle.law_changed_types.proofs.StatementRules.{same_returning, same_results, same_receiver, same_param, same_global, same_type_spec}
use Rattle.law_changed_types.proofs.Settling.{IsSettled, unchecked, and_then, part, items, group}
use Rattle.law_changed_types.proofs.SimpleUses.{same_rhs, condition, simple, optional_simple, optional_condition, local}

-- statements

return_found : (v : World) (m : Members) (s : FoundSoFar) (place : ℕ) (results : List Target) (es : List (Item ExprTree)) →
    IsSettled v m s (check_return v s place results es) (check_return (with_members v m) s place results es)
unfolding check_return
return_found v m s place results es =
    let w = with_members v m in
    let r = rhs v s.locals es in
    let x = receiving v es r.values in
    let entries = given_enterings x r.values results in
    part s s.locals (r.faults ++ returned x place r.values results) (r.uses ++ entries) (check_return w s place results es) (λ h.
    ap (λ (z : JudgedList). returning (receiving w es z.values) s place results z) (same_rhs v m s.locals es (of_first r.uses entries h))
    ∙ same_returning x m s place results r)

init_found : (v : World) (m : Members) (s : FoundSoFar) (i : Option InitTree) → IsSettled v m s (check_init v s i) (check_init (with_members v m) s i)
init_found v m s None = unchecked s
init_found v m s (Some i) = optional_simple v m s i.simple

for_header : (v : World) (m : Members) (s : FoundSoFar) (h : ForTree) → IsSettled v m s (check_for_header v s h) (check_for_header (with_members v m) s h)
unfolding check_for_header
for_header v m s forever = unchecked s
for_header v m s (while e) = condition v m s e
for_header v m s (clauses init p test q post) =
    let w = with_members v m in
    and_then (check_optional_condition v (check_optional_simple v s init) test) (check_optional_condition w (check_optional_simple w s init) test)
    (λ z. check_optional_simple v z post) (λ z. check_optional_simple w z post)
    (and_then (check_optional_simple v s init) (check_optional_simple w s init) (λ z. check_optional_condition v z test)
    (λ z. check_optional_condition w z test) (optional_simple v m s init) (λ z. optional_condition v m z test))
    (λ z. optional_simple v m z post)

mutual
  unfolding check_statement

  statement_found : (v : World) (m : Members) (results : List Target) (s : FoundSoFar) (x : StatementTree) →
      IsSettled v m s (check_statement v results s x) (check_statement (with_members v m) results s x)
  statement_found v m results s Empty = unchecked s
  statement_found v m results s (Var p g) = group (check_local v) (check_local (with_members v m)) (λ z l. local v m z l) s g
  statement_found v m results s (Simple a) = simple v m s a
  statement_found v m results s (Inner b) = block_found v m results s b
  statement_found v m results s (If i) = if_found v m results s i
  statement_found v m results s (For p h b) =
      and_then (check_for_header v s h) (check_for_header (with_members v m) s h) (λ z. check_block v results z b)
      (λ z. check_block (with_members v m) results z b) (for_header v m s h) (λ z. block_found v m results z b)
  statement_found v m results s (Break p) = unchecked s
  statement_found v m results s (Continue p) = unchecked s
  statement_found v m results s (Return p es) = return_found v m s p results es

  block_found : (v : World) (m : Members) (results : List Target) (s : FoundSoFar) (b : BlockTree) →
      IsSettled v m s (check_block v results s b) (check_block (with_members v m) results s b)
  block_found v m results s (block o ss c) = statements_found v m results s ss

  statements_found : (v : World) (m : Members) (results : List Target) (s : FoundSoFar) (ss : StatementTrees) →
      IsSettled v m s (check_statements v results s ss) (check_statements (with_members v m) results s ss)
  statements_found v m results s no_statement = unchecked s
  statements_found v m results s (statement x p rest) =
      and_then (check_statement v results s x) (check_statement (with_members v m) results s x) (λ z. check_statements v results z rest)
      (λ z. check_statements (with_members v m) results z rest) (statement_found v m results s x) (λ z. statements_found v m results z rest)

  if_found : (v : World) (m : Members) (results : List Target) (s : FoundSoFar) (i : IfTree) →
      IsSettled v m s (check_if v results s i) (check_if (with_members v m) results s i)
  if_found v m results s (if_tree p init e b otherwise) =
      let w = with_members v m in
      and_then (check_block v results (check_condition v (check_init v s init) e) b) (check_block w results (check_condition w (check_init w s init) e) b)
      (λ z. check_else v results z otherwise) (λ z. check_else w results z otherwise)
      (and_then (check_condition v (check_init v s init) e) (check_condition w (check_init w s init) e)
      (λ z. check_block v results z b) (λ z. check_block w results z b)
      (and_then (check_init v s init) (check_init w s init) (λ z. check_condition v z e) (λ z. check_condition w z e) (init_found v m s init)
      (λ z. condition v m z e)) (λ z. block_found v m results z b)) (λ z. else_found v m results z otherwise)

  else_found : (v : World) (m : Members) (results : List Target) (s : FoundSoFar) (x : ElseTree) →
      IsSettled v m s (check_else v results s x) (check_else (with_members v m) results s x)
  else_found v m results s no_else = unchecked s
  else_found v m results s (else_if p i) = if_found v m results s i
  else_found v m results s (else_block p b) = block_found v m results s b

-- functions: whether one is `init` matters only where it has no receiver

no_init : (old new : Bool) → (new && false) ≡ (old && false)
no_init true true = refl
no_init true false = refl
no_init false true = refl
no_init false false = refl

pub init_matters : (r : Option ReceiverTree) (old new breaks : Bool) → (r ≡ None → new ≡ old) →
    (new && (is_none r && breaks)) ≡ (old && (is_none r && breaks))
init_matters None old new breaks e = ap (λ (z : Bool). z && breaks) (e refl)
init_matters (Some r) old new breaks e = no_init old new

same_init : (old new : Bool) (f : FuncTree) (wanted : List Target) → (f.receiver ≡ None → new ≡ old) → is_bad_init new f wanted ≡ is_bad_init old f wanted
unfolding is_bad_init
same_init old new f wanted e =
    init_matters f.receiver old new (if is_empty_list f.params then (if is_empty_list wanted then false else true) else true) e

receiver_found : (v : World) (m : Members) (s : FoundSoFar) (r : Option ReceiverTree) →
    IsSettled v m s (check_optional_receiver v s r) (check_optional_receiver (with_members v m) s r)
unfolding check_receiver
receiver_found v m s None = unchecked s
receiver_found v m s (Some r) =
    part s (with_locals s.locals (named r.name ∷ []) ((judge_receiver v r).type_of ∷ [])) (judge_receiver v r).faults []
    (check_receiver (with_members v m) s r) (λ h. same_receiver v m s (Some r))

param_found : (v : World) (m : Members) (s : FoundSoFar) (p : ParamTree) → IsSettled v m s (check_param v s p) (check_param (with_members v m) s p)
unfolding check_param
param_found v m s p =
    part s (written_locals s.locals p.names (judge_type v p.type_use).type_of) (judge_type v p.type_use).faults [] (check_param (with_members v m) s p)
    (λ h. same_param v m s p)

signature_found : (v : World) (m : Members) (old new : Bool) (s : FoundSoFar) (f : FuncTree) → (f.receiver ≡ None → new ≡ old) →
    IsSettled v m s (check_signature v old s f) (check_signature (with_members v m) new s f)
unfolding check_signature
signature_found v m old new s f e =
    let w = with_members v m in
    let F : (is_init : Bool) (r : ResultsJudged) → List ℕ = λ is_init r. r.faults ++ fault_if (is_bad_init is_init f r.wanted) f.name in
    and_then (check_items (check_param v) (check_optional_receiver v s f.receiver) f.params)
    (check_items (check_param w) (check_optional_receiver w s f.receiver) f.params)
    (λ z. with_found z (F old (judge_results v f.result)) []) (λ z. with_found z (F new (judge_results w f.result)) [])
    (and_then (check_optional_receiver v s f.receiver) (check_optional_receiver w s f.receiver) (λ z. check_items (check_param v) z f.params)
    (λ z. check_items (check_param w) z f.params) (receiver_found v m s f.receiver)
    (λ z. items (check_param v) (check_param w) (λ y p. param_found v m y p) z f.params))
    (λ z. part z z.locals (F old (judge_results v f.result)) [] (with_found z (F new (judge_results w f.result)) []) (λ h.
    ap (λ (y : ResultsJudged). with_found z (F new y) []) (same_results v m f.result)
    ∙ ap (λ (y : Bool). with_found z ((judge_results v f.result).faults ++ fault_if y f.name) [])
    (same_init old new f (judge_results v f.result).wanted e)))

function_found : (v : World) (m : Members) (old new : Bool) (s : FoundSoFar) (f : FuncTree) → (f.receiver ≡ None → new ≡ old) →
    IsSettled v m s (check_function v old s f) (check_function (with_members v m) new s f)
unfolding check_function judge_results judge_types judge_type imported_type
function_found v m old new s f e =
    let w = with_members v m in
    let results = (judge_results v f.result).wanted in
    and_then (check_signature v old s f) (check_signature w new s f) (λ z. check_block v results z f.body) (λ z. check_block w results z f.body)
    (signature_found v m old new s f e) (λ z. block_found v m results z f.body)

-- declarations and files

global_found : (v : World) (m : Members) (s : FoundSoFar) (g : GlobalTree) → IsSettled v m s (check_global v s g) (check_global (with_members v m) s g)
global_found v m s g = part s s.locals (global_faults v g) (global_enterings v g) (check_global (with_members v m) s g) (λ h. same_global v m s g)

type_found : (v : World) (m : Members) (s : FoundSoFar) (t : TypeSpecTree) → IsSettled v m s (check_type v s t) (check_type (with_members v m) s t)
type_found v m s t = part s s.locals (body_faults v t.body) [] (check_type (with_members v m) s t) (λ h. same_type_spec v m s t)

decl_found : (v : World) (m : Members) (old new : ℕ → Bool) (s : FoundSoFar) (d : DeclTree) → AgreesOnInit old new d →
    IsSettled v m s (check_decl v old s d) (check_decl (with_members v m) new s d)
unfolding check_decl
decl_found v m old new s (VarDecl p g c) e = group (check_global v) (check_global (with_members v m)) (λ z x. global_found v m z x) s g
decl_found v m old new s (TypeDecl p g c) e = group (check_type v) (check_type (with_members v m)) (λ z x. type_found v m z x) s g
decl_found v m old new s (FuncDecl p f c) e = function_found v m (old f.name) (new f.name) s f e

decls_found : (v : World) (m : Members) (old new : ℕ → Bool) (s : FoundSoFar) (ds : List DeclTree) →
    ((d : DeclTree) → Contains ds d → AgreesOnInit old new d) → IsSettled v m s (check_decls v old s ds) (check_decls (with_members v m) new s ds)
unfolding check_decls
decls_found v m old new s [] e = unchecked s
decls_found v m old new s (d ∷ ds) e =
    and_then (check_decl v old s d) (check_decl (with_members v m) new s d) (λ z. check_decls v old z ds) (λ z. check_decls (with_members v m) new z ds)
    (decl_found v m old new s d (e d (first_in d ds))) (λ z. decls_found v m old new z ds (λ x c. e x (later_in d ds x c)))

file_found : (v : World) (m : Members) (old new : ℕ → Bool) (f : FileTree) → ((d : DeclTree) → Contains f.decls d → AgreesOnInit old new d) →
    IsSettled v m (record { locals = no_locals; faults = []; uses = [] }) (check_file v old f) (check_file (with_members v m) new f)
unfolding check_file
file_found v m old new f e = decls_found v m old new (record { locals = no_locals; faults = []; uses = [] }) f.decls e

pub files_ask : FilesAskForTheirUses
files_ask v w old new f e h =
    let found = file_found v w.member old new f e in
    ap (λ (z : World). check_file z new f) (sym (only_members_differ v w h)) ∙ found.same (members_agree v w h)
