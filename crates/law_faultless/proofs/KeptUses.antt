-- Uses of members that were found stay, whatever statements stand behind them.
use Rattle.std.proofs.Common.{ℕ, Bool, List, [], ◌∷◌, Option, Some, None}
use Rattle.go_ast.specs.Tree.{Item, Group, single, several, IdentTree, TypeTree, ExprTree, StatementTree}
use Rattle.go_ast.specs.Tree.{BlockTree, StatementTrees, IfTree, ElseTree, DeclTree}
use Rattle.go_ast.specs.Tree as tree
use Rattle.types_expr.specs.World.{World}
use Rattle.types_stmt.specs.Checked.{FoundSoFar, check_items, check_group}
use Rattle.types_stmt.specs.Sides.{Target}
use Rattle.types_stmt.specs.Simple.{check_condition, check_step, check_update, check_expr_statement}
use Rattle.types_stmt.specs.Simple.{check_assign, check_define, check_simple, check_optional_simple}
use Rattle.types_stmt.specs.Simple.{check_optional_condition, check_typed_local, check_untyped_local, check_local_of, check_local}
use Rattle.types_stmt.specs.Statements.{check_return, check_init, check_for_header, check_statement, check_block, check_statements, check_if, check_else}
use Rattle.types_stmt.specs.Headers.{judge_results, check_optional_receiver, check_receiver, check_param, check_signature, check_function}
use Rattle.types_stmt.specs.Declarations.{global_enterings, check_global, check_type, check_decl, check_decls}
use Rattle.law_faultless.specs.Questions.{TokenQuestion}
use Rattle.law_faultless.proofs.Used.{Met, met_left}

-- what was met before a part is met behind it
abbrev pub Keeps : {X : Type 0} → TokenQuestion → (FoundSoFar → X → FoundSoFar) → Type 0
Keeps {X} q check = (s : FoundSoFar) (x : X) → Met q s.uses → Met q (check s x).uses

pub simple_keeps : (q : TokenQuestion) (w : World) → Keeps q (check_simple w)
unfolding check_simple check_expr_statement check_step check_update check_assign check_define
simple_keeps q w s (tree.Alone e) h = met_left q s.uses _ h
simple_keeps q w s (tree.Step e o p) h = met_left q s.uses _ h
simple_keeps q w s (tree.Update x o p y) h = met_left q s.uses _ h
simple_keeps q w s (tree.Assign xs p ys) h = met_left q s.uses _ h
simple_keeps q w s (tree.Define xs p ys) h = met_left q s.uses _ h

pub condition_keeps : (q : TokenQuestion) (w : World) → Keeps q (check_condition w)
unfolding check_condition
condition_keeps q w s e h = met_left q s.uses _ h

pub optional_keeps : (q : TokenQuestion) (w : World) → Keeps q (check_optional_simple w)
optional_keeps q w s None h = h
optional_keeps q w s (Some x) h = simple_keeps q w s x h

pub optional_condition_keeps : (q : TokenQuestion) (w : World) → Keeps q (check_optional_condition w)
optional_condition_keeps q w s None h = h
optional_condition_keeps q w s (Some e) h = condition_keeps q w s e h

local_of_keeps : (q : TokenQuestion) (w : World) (s : FoundSoFar) (names : List (Item IdentTree)) (t : Option TypeTree) (v : Option (ℕ × List (Item
    ExprTree))) →
    Met q s.uses → Met q (check_local_of w s names t v).uses
unfolding check_typed_local check_untyped_local
local_of_keeps q w s names (Some t) None h = met_left q s.uses _ h
local_of_keeps q w s names (Some t) (Some v) h = met_left q s.uses _ h
local_of_keeps q w s names None None h = met_left q s.uses _ h
local_of_keeps q w s names None (Some v) h = met_left q s.uses _ h

pub local_keeps : (q : TokenQuestion) (w : World) → Keeps q (check_local w)
unfolding check_local
local_keeps q w s l h = local_of_keeps q w s l.names l.type_use l.values h

pub items_keep : {X : Type 0} (q : TokenQuestion) (check : FoundSoFar → X → FoundSoFar) → Keeps q check → (is : List (Item X)) (s : FoundSoFar) → Met q s.uses →
    Met q (check_items check s is).uses
unfolding check_items
items_keep q check f [] s h = h
items_keep q check f (i ∷ is) s h = items_keep q check f is (check s i.value) (f s i.value h)

pub group_keeps : {X : Type 0} (q : TokenQuestion) (check : FoundSoFar → X → FoundSoFar) → Keeps q check → (g : Group X) (s : FoundSoFar) → Met q s.uses →
    Met q (check_group check s g).uses
unfolding check_group
group_keeps q check f (single x) s h = f s x h
group_keeps q check f (several o is c) s h = items_keep q check f is s h

pub init_keeps : (q : TokenQuestion) (w : World) → Keeps q (check_init w)
init_keeps q w s None h = h
init_keeps q w s (Some i) h = optional_keeps q w s i.simple h

pub header_keeps : (q : TokenQuestion) (w : World) → Keeps q (check_for_header w)
unfolding check_for_header
header_keeps q w s tree.forever h = h
header_keeps q w s (tree.while e) h = condition_keeps q w s e h
header_keeps q w s (tree.clauses init p condition r post) h =
    optional_keeps q w (check_optional_condition w (check_optional_simple w s init) condition) post
    (optional_condition_keeps q w (check_optional_simple w s init) condition (optional_keeps q w s init h))

mutual
  unfolding check_statement check_return

  pub statement_keeps : (q : TokenQuestion) (w : World) (results : List Target) (x : StatementTree) (s : FoundSoFar) → Met q s.uses →
      Met q (check_statement w results s x).uses
  statement_keeps q w results tree.Empty s h = h
  statement_keeps q w results (tree.Var p g) s h = group_keeps q (check_local w) (local_keeps q w) g s h
  statement_keeps q w results (tree.Simple x) s h = simple_keeps q w s x h
  statement_keeps q w results (tree.Inner b) s h = block_keeps q w results b s h
  statement_keeps q w results (tree.If i) s h = if_keeps q w results i s h
  statement_keeps q w results (tree.For p x b) s h = block_keeps q w results b (check_for_header w s x) (header_keeps q w s x h)
  statement_keeps q w results (tree.Break p) s h = h
  statement_keeps q w results (tree.Continue p) s h = h
  statement_keeps q w results (tree.Return p es) s h = met_left q s.uses _ h

  pub block_keeps : (q : TokenQuestion) (w : World) (results : List Target) (b : BlockTree) (s : FoundSoFar) → Met q s.uses →
      Met q (check_block w results s b).uses
  block_keeps q w results (tree.block o ss c) s h = statements_keep q w results ss s h

  pub statements_keep : (q : TokenQuestion) (w : World) (results : List Target) (ss : StatementTrees) (s : FoundSoFar) → Met q s.uses →
      Met q (check_statements w results s ss).uses
  statements_keep q w results tree.no_statement s h = h
  statements_keep q w results (tree.statement x p rest) s h = statements_keep q w results rest (check_statement w results s x)
      (statement_keeps q w results x s h)

  pub if_keeps : (q : TokenQuestion) (w : World) (results : List Target) (i : IfTree) (s : FoundSoFar) → Met q s.uses → Met q (check_if w results s i).uses
  if_keeps q w results (tree.if_tree p init e b otherwise) s h =
      else_keeps q w results otherwise (check_block w results (check_condition w (check_init w s init) e) b)
      (block_keeps q w results b (check_condition w (check_init w s init) e) (condition_keeps q w (check_init w s init) e (init_keeps q w s init h)))

  pub else_keeps : (q : TokenQuestion) (w : World) (results : List Target) (o : ElseTree) (s : FoundSoFar) → Met q s.uses →
      Met q (check_else w results s o).uses
  else_keeps q w results tree.no_else s h = h
  else_keeps q w results (tree.else_if p i) s h = if_keeps q w results i s h
  else_keeps q w results (tree.else_block p b) s h = block_keeps q w results b s h

receiver_keeps : (q : TokenQuestion) (w : World) → Keeps q (check_optional_receiver w)
unfolding check_receiver
receiver_keeps q w s None h = h
receiver_keeps q w s (Some r) h = met_left q s.uses [] h

param_keeps : (q : TokenQuestion) (w : World) → Keeps q (check_param w)
unfolding check_param
param_keeps q w s p h = met_left q s.uses [] h

pub function_keeps : (q : TokenQuestion) (w : World) (b : Bool) → Keeps q (check_function w b)
unfolding check_function check_signature
function_keeps q w b s f h =
    block_keeps q w (judge_results w f.result).wanted f.body (check_signature w b s f)
    (met_left q (check_items (check_param w) (check_optional_receiver w s f.receiver) f.params).uses []
    (items_keep q (check_param w) (param_keeps q w) f.params (check_optional_receiver w s f.receiver) (receiver_keeps q w s f.receiver h)))

global_keeps : (q : TokenQuestion) (w : World) → Keeps q (check_global w)
global_keeps q w s g h = met_left q s.uses (global_enterings w g) h

type_keeps : (q : TokenQuestion) (w : World) → Keeps q (check_type w)
type_keeps q w s t h = met_left q s.uses [] h

pub decls_keep : (q : TokenQuestion) (w : World) (is_init : ℕ → Bool) (ds : List DeclTree) (s : FoundSoFar) → Met q s.uses →
    Met q (check_decls w is_init s ds).uses
unfolding check_decls check_decl
decls_keep q w is_init [] s h = h
decls_keep q w is_init (tree.VarDecl p g c ∷ ds) s h = decls_keep q w is_init ds (check_group (check_global w) s g)
    (group_keeps q (check_global w) (global_keeps q w) g s h)
decls_keep q w is_init (tree.TypeDecl p g c ∷ ds) s h = decls_keep q w is_init ds (check_group (check_type w) s g)
    (group_keeps q (check_type w) (type_keeps q w) g s h)
decls_keep q w is_init (tree.FuncDecl p f c ∷ ds) s h = decls_keep q w is_init ds (check_function w (is_init f.name) s f)
    (function_keeps q w (is_init f.name) s f h)
