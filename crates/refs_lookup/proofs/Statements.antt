-- The uses of members in the statements and declarations of a file stand among its tokens.
use Rattle.std.proofs.Common.{ℕ, ◌≡◌, List, [], ◌∷◌, ◌++◌, Option, Some, None, Bool, true, false, append_assoc, sym, refl, subst}
use Rattle.std.proofs.Common.{if◌then◌else◌}
use Rattle.go_ast.specs.declared.syntax.Kind.{Kind}
use Rattle.go_ast.specs.declared.syntax.Kind.TheVariants as kind
use Rattle.go_ast.specs.declared.syntax.Token.{Token}
use Rattle.go_ast.specs.Flatten.{sign, sign_if, tokens_if, all_tokens, item_tokens, list_tokens, group_tokens, step_kind, update_kind, ident_tokens}
use Rattle.go_ast.specs.Flatten.{type_tokens, expr_tokens, exprs_tokens, value_tokens, simple_tokens, local_tokens, init_tokens, for_tokens}
use Rattle.go_ast.specs.Flatten.{statement_tokens, block_tokens, statements_tokens, if_tokens, else_tokens, global_tokens, type_spec_tokens}
use Rattle.go_ast.specs.Flatten.{receiver_tokens, param_tokens, result_tokens, func_tokens, imports_tokens, decl_tokens, flatten}
use Rattle.go_ast.specs.Tree.{Item, Group, single, several, IdentTree, TypeTree, ExprTree, Name, Blank, Paren, SimpleTree, Alone, Step, Update, Assign}
use Rattle.go_ast.specs.Tree.{Define, LocalTree, InitTree, ForTree, forever, while, clauses, StatementTree, Empty, Var, Simple, Inner, If, For, Break, Continue}
use Rattle.go_ast.specs.Tree.{Return, BlockTree, block, StatementTrees, no_statement, statement, IfTree, if_tree, ElseTree, no_else, else_if, else_block}
use Rattle.go_ast.specs.Tree.{ReceiverTree, ParamTree, FuncTree, GlobalTree, DeclTree, VarDecl, TypeDecl, FuncDecl, FileTree}
use Rattle.types_expr.specs.Places.{place_of}
use Rattle.types_expr.specs.Types.{Meaning, Value, Results, Broken}
use Rattle.types_expr.specs.World.{World, Locals}
use Rattle.types_expr.specs.Judge.{Noted, TypeJudged, judge, judge_value, judge_type, as_value, followed}
use Rattle.types_stmt.specs.Checked.{FoundSoFar, check_items, check_group}
use Rattle.types_stmt.specs.Sides.{Target, Lefts, values_of, judge_each, rhs, assignable, judge_operand, assigned_one, assigned, no_name, declares, reassigned}
use Rattle.types_stmt.specs.Sides.{Takes, defined_one, defined, receiving, given_enterings}
use Rattle.types_stmt.specs.Simple.{without_parentheses, check_condition, check_step, check_update}
use Rattle.types_stmt.specs.Simple.{check_expr_statement, check_assign, check_define, check_simple}
use Rattle.types_stmt.specs.Simple.{check_optional_simple, written_targets, name_targets, check_optional_condition}
use Rattle.types_stmt.specs.Simple.{check_typed_local, check_untyped_local, check_local_of, check_local}
use Rattle.types_stmt.specs.Statements.{check_return, check_init, check_for_header, check_statement, check_block, check_statements, check_if, check_else}
use Rattle.types_stmt.specs.Headers.{judge_results, check_optional_receiver, check_receiver, check_param, check_signature, check_function}
use Rattle.types_stmt.specs.Declarations.{global_enterings, check_global, check_type, check_decl, check_decls, check_file}
use Rattle.types_expr.proofs.NoteLists.{NotesNoMember}
use Rattle.types_stmt.proofs.NoMembers.{no_member_given, no_member_global}
use Rattle.refs_lookup.proofs.Picked.{Passes, pass_append, pass_none, pass_behind, pass_before, more_pass, walk_passes}
use Rattle.refs_lookup.proofs.Expressions.{UsesNone, expr_walks, value_uses}

-- lists of expressions

expr_pass : (w : World) (ls : Locals) (e : ExprTree) → Passes w (judge w ls e).uses (expr_tokens e)
expr_pass w ls e = walk_passes w (judge w ls e).uses (expr_tokens e) (judge w ls e).meaning (expr_walks w ls e)

value_pass : (w : World) (ls : Locals) (e : ExprTree) → Passes w (judge_value w ls e).uses (expr_tokens e)
value_pass w ls e =
    more_pass w (judge w ls e).uses (as_value (place_of e) (judge w ls e).meaning).uses (expr_tokens e) (value_uses (place_of e) (judge w ls e).meaning)
    (expr_pass w ls e)

each_pass : (w : World) (ls : Locals) (es : List (Item ExprTree)) → Passes w (judge_each w ls es).uses (exprs_tokens es)
unfolding judge_each all_tokens
each_pass w ls [] = pass_none w []
each_pass w ls (i ∷ is) =
    pass_append w (judge_value w ls i.value).uses (judge_each w ls is).uses (item_tokens kind.Comma expr_tokens i) (exprs_tokens is)
    (pass_behind w (judge_value w ls i.value).uses (expr_tokens i.value) (sign_if kind.Comma i.separator) (value_pass w ls i.value)) (each_pass w ls is)

values_uses : (place : ℕ) (m : Meaning) → NotesNoMember (values_of place m).uses
unfolding values_of
values_uses place (Results ts) = refl
values_uses place m = value_uses place m

one_pass : (w : World) (us : List Noted) (i : Item ExprTree) → Passes w us (expr_tokens i.value) → Passes w us (exprs_tokens (i ∷ []))
unfolding all_tokens
one_pass w us i p =
    pass_behind w us (item_tokens kind.Comma expr_tokens i) [] (pass_behind w us (expr_tokens i.value) (sign_if kind.Comma i.separator) p)

rights_pass : (w : World) (ls : Locals) (es : List (Item ExprTree)) → Passes w (rhs w ls es).uses (exprs_tokens es)
unfolding rhs
rights_pass w ls [] = each_pass w ls []
rights_pass w ls (i ∷ []) =
    one_pass w ((judge w ls i.value).uses ++ (values_of (place_of i.value) (judge w ls i.value).meaning).uses) i
    (more_pass w (judge w ls i.value).uses (values_of (place_of i.value) (judge w ls i.value).meaning).uses (expr_tokens i.value)
    (values_uses (place_of i.value) (judge w ls i.value).meaning) (expr_pass w ls i.value))
rights_pass w ls (i ∷ (j ∷ is)) = each_pass w ls (i ∷ (j ∷ is))

rights_entered : (w : World) (ls : Locals) (es : List (Item ExprTree)) (ns : List Noted) → NotesNoMember ns →
    Passes w ((rhs w ls es).uses ++ ns) (exprs_tokens es)
rights_entered w ls es ns none = more_pass w (rhs w ls es).uses ns (exprs_tokens es) none (rights_pass w ls es)

assignable_uses : (place : ℕ) (m : Meaning) → UsesNone (assignable place m)
unfolding assignable
assignable_uses place (Value k true) = refl
assignable_uses place Broken = refl
assignable_uses place m = refl

operand_pass : (w : World) (ls : Locals) (e : ExprTree) → Passes w (judge_operand w ls e).uses (expr_tokens e)
operand_pass w ls e =
    more_pass w (judge w ls e).uses (assignable (place_of e) (judge w ls e).meaning).uses (expr_tokens e)
    (assignable_uses (place_of e) (judge w ls e).meaning) (expr_pass w ls e)

assigned_pass : (w : World) (ls : Locals) (e : ExprTree) → Passes w (assigned_one w ls e).uses (expr_tokens e)
unfolding assigned_one
assigned_pass w ls (Blank p) = pass_none w (expr_tokens (Blank p))
assigned_pass w ls e = operand_pass w ls e

no_name_uses : (place : ℕ) (m : Meaning) → UsesNone (no_name place m)
unfolding no_name
no_name_uses place Broken = refl
no_name_uses place m = refl

lefts_if : (w : World) (b : Bool) (l r : Lefts) (ts : List Token) → Passes w l.uses ts → Passes w r.uses ts → Passes w (if b then l else r).uses ts
lefts_if w true l r ts p q = p
lefts_if w false l r ts p q = q

unnamed_pass : (w : World) (ls : Locals) (e : ExprTree) → Passes w (followed (judge_value w ls e) (no_name (place_of e))).uses (expr_tokens e)
unnamed_pass w ls e =
    more_pass w (judge_value w ls e).uses (no_name (place_of e) (judge_value w ls e).meaning).uses (expr_tokens e)
    (no_name_uses (place_of e) (judge_value w ls e).meaning)
    (value_pass w ls e)

defined_pass : (w : World) (ls : Locals) (e : ExprTree) → Passes w (defined_one w ls e).uses (expr_tokens e)
unfolding defined_one
defined_pass w ls (Blank p) = pass_none w (expr_tokens (Blank p))
defined_pass w ls (Name p) = lefts_if w (declares w p) _ (reassigned w ls p) (expr_tokens (Name p)) (pass_none w (expr_tokens (Name p))) (value_pass w ls
    (Name p))
defined_pass w ls e = unnamed_pass w ls e

lefts_pass : (w : World) (es : List (Item ExprTree)) (f : ExprTree → Lefts) → ((e : ExprTree) → Passes w (f e).uses (expr_tokens e)) →
    (i : Item ExprTree) (us : List Noted) → Passes w us (exprs_tokens es) → Passes w ((f i.value).uses ++ us) (exprs_tokens (i ∷ es))
unfolding all_tokens
lefts_pass w es f h i us p =
    pass_append w (f i.value).uses us (item_tokens kind.Comma expr_tokens i) (exprs_tokens es)
    (pass_behind w (f i.value).uses (expr_tokens i.value) (sign_if kind.Comma i.separator) (h i.value)) p

all_assigned : (w : World) (ls : Locals) (es : List (Item ExprTree)) → Passes w (assigned w ls es).uses (exprs_tokens es)
unfolding assigned
all_assigned w ls [] = pass_none w (exprs_tokens [])
all_assigned w ls (i ∷ is) = lefts_pass w is (assigned_one w ls) (assigned_pass w ls) i (assigned w ls is).uses (all_assigned w ls is)

all_defined : (w : World) (ls : Locals) (es : List (Item ExprTree)) → Passes w (defined w ls es).uses (exprs_tokens es)
unfolding defined
all_defined w ls [] = pass_none w (exprs_tokens [])
all_defined w ls (i ∷ is) = lefts_pass w is (defined_one w ls) (defined_pass w ls) i (defined w ls is).uses (all_defined w ls is)

-- what a step from one state to the next uses

abbrev Grows : World → FoundSoFar → FoundSoFar → List Token → Type 0
Grows w a b rs = (ts : List Token) → Passes w a.uses ts → Passes w b.uses (ts ++ rs)

grows_none : (w : World) (s : FoundSoFar) (rs : List Token) → Grows w s s rs
grows_none w s rs ts h = pass_behind w s.uses ts rs h

grows_then : (w : World) (a b c : FoundSoFar) (us vs : List Token) → Grows w a b us → Grows w b c vs → Grows w a c (us ++ vs)
grows_then w a b c us vs f g ts h = subst (λ xs. Passes w c.uses xs) (append_assoc ts us vs) (g (ts ++ us) (f ts h))

grows_after : (w : World) (a b : FoundSoFar) (us vs : List Token) → Grows w a b vs → Grows w a b (us ++ vs)
grows_after w a b us vs g = grows_then w a a b us vs (grows_none w a us) g

grows_before : (w : World) (a b : FoundSoFar) (us vs : List Token) → Grows w a b us → Grows w a b (us ++ vs)
grows_before w a b us vs f = grows_then w a b b us vs f (grows_none w b vs)

grows_behind : (w : World) (a b : FoundSoFar) (t : Token) (vs : List Token) → Grows w a b vs → Grows w a b (t ∷ vs)
grows_behind w a b t vs g = grows_after w a b (t ∷ []) vs g

items_grow : {X : Type 0} (w : World) (check : FoundSoFar → X → FoundSoFar) (k : Kind) (f : X → List Token) → ((s : FoundSoFar) (x : X) →
    Grows w s (check s x) (f x)) →
    (s : FoundSoFar) (xs : List (Item X)) → Grows w s (check_items check s xs) (list_tokens k f xs)
unfolding check_items all_tokens
items_grow w check k f h s [] = grows_none w s []
items_grow w check k f h s (i ∷ is) =
    grows_then w s (check s i.value) (check_items check (check s i.value) is) (item_tokens k f i) (list_tokens k f is)
    (grows_before w s (check s i.value) (f i.value) (sign_if k i.separator) (h s i.value)) (items_grow w check k f h (check s i.value) is)

group_grows : {X : Type 0} (w : World) (check : FoundSoFar → X → FoundSoFar) (f : X → List Token) → ((s : FoundSoFar) (x : X) → Grows w s (check s x) (f x)) →
    (s : FoundSoFar) (g : Group X) → Grows w s (check_group check s g) (group_tokens f g)
unfolding check_group group_tokens
group_grows w check f h s (single x) = h s x
group_grows w check f h s (several o xs c) =
    grows_behind w s (check_items check s xs) (sign kind.LeftParen o) (list_tokens kind.Semicolon f xs ++ (sign kind.RightParen c ∷ []))
    (grows_before w s (check_items check s xs) (list_tokens kind.Semicolon f xs) (sign kind.RightParen c ∷ []) (items_grow w check kind.Semicolon f h s xs))

-- simple statements

condition_grows : (w : World) (s : FoundSoFar) (e : ExprTree) → Grows w s (check_condition w s e) (expr_tokens e)
unfolding check_condition
condition_grows w s e ts h = pass_append w s.uses (judge_value w s.locals e).uses ts (expr_tokens e) h (value_pass w s.locals e)

inside_pass : (w : World) (ls : Locals) (e : ExprTree) → Passes w (judge w ls (without_parentheses e)).uses (expr_tokens e)
unfolding without_parentheses expr_tokens
inside_pass w ls (Paren o e c) = let us = (judge w ls (without_parentheses e)).uses in
    pass_before w us (sign kind.LeftParen o ∷ []) (expr_tokens e ++ (sign kind.RightParen c ∷ []))
    (pass_behind w us (expr_tokens e) (sign kind.RightParen c ∷ []) (inside_pass w ls e))
inside_pass w ls e = expr_pass w ls e

simple_grows : (w : World) (s : FoundSoFar) (x : SimpleTree) → Grows w s (check_simple w s x) (simple_tokens x)
unfolding check_simple check_step check_update check_expr_statement check_assign check_define simple_tokens
simple_grows w s (Alone e) = λ ts h. pass_append w s.uses (judge w s.locals (without_parentheses e)).uses ts (expr_tokens e) h (inside_pass w s.locals e)
simple_grows w s (Step e op p) = λ ts h.
    pass_append w s.uses (judge_operand w s.locals e).uses ts (expr_tokens e ++ (sign (step_kind op) p ∷ [])) h
    (pass_behind w (judge_operand w s.locals e).uses (expr_tokens e) (sign (step_kind op) p ∷ []) (operand_pass w s.locals e))
simple_grows w s (Update x op p y) = λ ts h.
    pass_append w s.uses ((judge_operand w s.locals x).uses ++ (judge_value w s.locals y).uses) ts
    (expr_tokens x ++ (sign (update_kind op) p ∷ expr_tokens y)) h
    (pass_append w (judge_operand w s.locals x).uses (judge_value w s.locals y).uses (expr_tokens x) (sign (update_kind op) p ∷ expr_tokens y)
    (operand_pass w s.locals x) (pass_before w (judge_value w s.locals y).uses (sign (update_kind op) p ∷ []) (expr_tokens y) (value_pass w s.locals y)))
simple_grows w s (Assign xs p ys) = λ ts h.
    let l = assigned w s.locals xs in
    let r = rhs w s.locals ys in
    let x = receiving w ys r.values in
    let entries = given_enterings x r.values l.targets in
    pass_append w s.uses (l.uses ++ (r.uses ++ entries)) ts (exprs_tokens xs ++ (sign kind.Assign p ∷ exprs_tokens ys)) h
    (pass_append w l.uses (r.uses ++ entries) (exprs_tokens xs) (sign kind.Assign p ∷ exprs_tokens ys) (all_assigned w s.locals xs)
    (pass_before w (r.uses ++ entries) (sign kind.Assign p ∷ []) (exprs_tokens ys)
    (rights_entered w s.locals ys entries (no_member_given x r.values l.targets))))
simple_grows w s (Define xs p ys) = λ ts h.
    let l = defined w s.locals xs in
    let r = rhs w s.locals ys in
    let x = receiving w ys r.values in
    let entries = given_enterings x r.values l.targets in
    pass_append w s.uses (l.uses ++ (r.uses ++ entries)) ts (exprs_tokens xs ++ (sign kind.Define p ∷ exprs_tokens ys)) h
    (pass_append w l.uses (r.uses ++ entries) (exprs_tokens xs) (sign kind.Define p ∷ exprs_tokens ys) (all_defined w s.locals xs)
    (pass_before w (r.uses ++ entries) (sign kind.Define p ∷ []) (exprs_tokens ys)
    (rights_entered w s.locals ys entries (no_member_given x r.values l.targets))))

optional_grows : (w : World) (s : FoundSoFar) (x : Option SimpleTree) → Grows w s (check_optional_simple w s x) (tokens_if simple_tokens x)
optional_grows w s None = grows_none w s []
optional_grows w s (Some x) = simple_grows w s x

optional_condition_grows : (w : World) (s : FoundSoFar) (e : Option ExprTree) → Grows w s (check_optional_condition w s e) (tokens_if expr_tokens e)
optional_condition_grows w s None = grows_none w s []
optional_condition_grows w s (Some e) = condition_grows w s e

written_grows : (w : World) (s : FoundSoFar) (names : List (Item IdentTree)) (t : TypeJudged) (v : Option (ℕ × List (Item ExprTree))) →
    Grows w s (check_typed_local w s names t v) (tokens_if (value_tokens expr_tokens) v)
unfolding check_typed_local
written_grows w s names t None = λ ts h. pass_append w s.uses [] ts [] h (pass_none w [])
written_grows w s names t (Some v) = λ ts h.
    let r = rhs w s.locals v.1 in
    let x = receiving w v.1 r.values in
    let entries = given_enterings x r.values (written_targets names t).targets in
    pass_append w s.uses (r.uses ++ entries) ts (value_tokens expr_tokens v) h
    (pass_before w (r.uses ++ entries) (sign kind.Assign v.0 ∷ []) (exprs_tokens v.1)
    (rights_entered w s.locals v.1 entries (no_member_given x r.values (written_targets names t).targets)))

unwritten_grows : (w : World) (s : FoundSoFar) (names : List (Item IdentTree)) (v : Option (ℕ × List (Item ExprTree))) →
    Grows w s (check_untyped_local w s names v) (tokens_if (value_tokens expr_tokens) v)
unfolding check_untyped_local
unwritten_grows w s names None = λ ts h. pass_append w s.uses [] ts [] h (pass_none w [])
unwritten_grows w s names (Some v) = λ ts h.
    let r = rhs w s.locals v.1 in
    let x = receiving w v.1 r.values in
    let entries = given_enterings x r.values (name_targets names Takes).targets in
    pass_append w s.uses (r.uses ++ entries) ts (value_tokens expr_tokens v) h
    (pass_before w (r.uses ++ entries) (sign kind.Assign v.0 ∷ []) (exprs_tokens v.1)
    (rights_entered w s.locals v.1 entries (no_member_given x r.values (name_targets names Takes).targets)))

local_of_grows : (w : World) (s : FoundSoFar) (names : List (Item IdentTree)) (t : Option TypeTree) (v : Option (ℕ × List (Item ExprTree))) →
    Grows w s (check_local_of w s names t v) (tokens_if (value_tokens expr_tokens) v)
local_of_grows w s names None v = unwritten_grows w s names v
local_of_grows w s names (Some t) v = written_grows w s names (judge_type w t) v

local_grows : (w : World) (s : FoundSoFar) (l : LocalTree) → Grows w s (check_local w s l) (local_tokens l)
unfolding check_local local_tokens
local_grows w s l =
    grows_after w s (check_local_of w s l.names l.type_use l.values) (list_tokens kind.Comma ident_tokens l.names)
    (tokens_if type_tokens l.type_use ++ tokens_if (value_tokens expr_tokens) l.values)
    (grows_after w s (check_local_of w s l.names l.type_use l.values) (tokens_if type_tokens l.type_use) (tokens_if (value_tokens expr_tokens) l.values)
    (local_of_grows w s l.names l.type_use l.values))

init_grows : (w : World) (s : FoundSoFar) (i : Option InitTree) → Grows w s (check_init w s i) (tokens_if init_tokens i)
unfolding init_tokens
init_grows w s None = grows_none w s []
init_grows w s (Some i) =
    grows_before w s (check_optional_simple w s i.simple) (tokens_if simple_tokens i.simple) (sign kind.Semicolon i.semicolon ∷ []) (optional_grows w s
    i.simple)

header_grows : (w : World) (s : FoundSoFar) (f : ForTree) → Grows w s (check_for_header w s f) (for_tokens f)
unfolding check_for_header for_tokens
header_grows w s forever = grows_none w s []
header_grows w s (while e) = condition_grows w s e
header_grows w s (clauses init p condition q post) =
    let a = check_optional_simple w s init in
    let b = check_optional_condition w a condition in
    let c = check_optional_simple w b post in
    grows_then w s a c (tokens_if simple_tokens init)
    (sign kind.Semicolon p ∷ (tokens_if expr_tokens condition ++ (sign kind.Semicolon q ∷ tokens_if simple_tokens post))) (optional_grows w s init)
    (grows_behind w a c (sign kind.Semicolon p) (tokens_if expr_tokens condition ++ (sign kind.Semicolon q ∷ tokens_if simple_tokens post))
    (grows_then w a b c (tokens_if expr_tokens condition) (sign kind.Semicolon q ∷ tokens_if simple_tokens post) (optional_condition_grows w a condition)
    (grows_behind w b c (sign kind.Semicolon q) (tokens_if simple_tokens post) (optional_grows w b post))))

return_grows : (w : World) (s : FoundSoFar) (place : ℕ) (results : List Target) (es : List (Item ExprTree)) →
    Grows w s (check_return w s place results es) (exprs_tokens es)
unfolding check_return
return_grows w s place results es = λ ts h.
    let r = rhs w s.locals es in
    let x = receiving w es r.values in
    let entries = given_enterings x r.values results in
    pass_append w s.uses (r.uses ++ entries) ts (exprs_tokens es) h (rights_entered w s.locals es entries (no_member_given x r.values results))

mutual
  unfolding check_statement check_block check_statements check_if check_else statement_tokens block_tokens statements_tokens if_tokens else_tokens

  statement_grows : (w : World) (results : List Target) (s : FoundSoFar) (x : StatementTree) → Grows w s (check_statement w results s x) (statement_tokens x)
  statement_grows w results s Empty = grows_none w s []
  statement_grows w results s (Var p g) =
      grows_behind w s (check_group (check_local w) s g) (sign kind.Var p) (group_tokens local_tokens g)
      (group_grows w (check_local w) local_tokens (local_grows w) s g)
  statement_grows w results s (Simple a) = simple_grows w s a
  statement_grows w results s (Inner b) = block_grows w results s b
  statement_grows w results s (If i) = if_grows w results s i
  statement_grows w results s (For p f b) =
      let a = check_for_header w s f in
      let c = check_block w results a b in
      grows_behind w s c (sign kind.For p) (for_tokens f ++ block_tokens b)
      (grows_then w s a c (for_tokens f) (block_tokens b) (header_grows w s f) (block_grows w results a b))
  statement_grows w results s (Break p) = grows_none w s (sign kind.Break p ∷ [])
  statement_grows w results s (Continue p) = grows_none w s (sign kind.Continue p ∷ [])
  statement_grows w results s (Return p es) =
      grows_behind w s (check_return w s p results es) (sign kind.Return p) (exprs_tokens es) (return_grows w s p results es)

  block_grows : (w : World) (results : List Target) (s : FoundSoFar) (b : BlockTree) → Grows w s (check_block w results s b) (block_tokens b)
  block_grows w results s (block o ss c) =
      let a = check_statements w results s ss in
      grows_behind w s a (sign kind.LeftBrace o) (statements_tokens ss ++ (sign kind.RightBrace c ∷ []))
      (grows_before w s a (statements_tokens ss) (sign kind.RightBrace c ∷ []) (statements_grow w results s ss))

  statements_grow : (w : World) (results : List Target) (s : FoundSoFar) (ss : StatementTrees) → Grows w s (check_statements w results s ss)
      (statements_tokens ss)
  statements_grow w results s no_statement = grows_none w s []
  statements_grow w results s (statement x p rest) =
      let a = check_statement w results s x in
      let b = check_statements w results a rest in
      grows_then w s a b (statement_tokens x) (sign_if kind.Semicolon p ++ statements_tokens rest) (statement_grows w results s x)
      (grows_after w a b (sign_if kind.Semicolon p) (statements_tokens rest) (statements_grow w results a rest))

  if_grows : (w : World) (results : List Target) (s : FoundSoFar) (i : IfTree) → Grows w s (check_if w results s i) (if_tokens i)
  if_grows w results s (if_tree p init e x rest) =
      let a = check_init w s init in
      let b = check_condition w a e in
      let c = check_block w results b x in
      let d = check_else w results c rest in
      grows_behind w s d (sign kind.If p) (tokens_if init_tokens init ++ (expr_tokens e ++ (block_tokens x ++ else_tokens rest)))
      (grows_then w s a d (tokens_if init_tokens init) (expr_tokens e ++ (block_tokens x ++ else_tokens rest)) (init_grows w s init)
      (grows_then w a b d (expr_tokens e) (block_tokens x ++ else_tokens rest) (condition_grows w a e)
      (grows_then w b c d (block_tokens x) (else_tokens rest) (block_grows w results b x) (else_grows w results c rest))))

  else_grows : (w : World) (results : List Target) (s : FoundSoFar) (x : ElseTree) → Grows w s (check_else w results s x) (else_tokens x)
  else_grows w results s no_else = grows_none w s []
  else_grows w results s (else_if p i) = grows_behind w s (check_if w results s i) (sign kind.Else p) (if_tokens i) (if_grows w results s i)
  else_grows w results s (else_block p b) = grows_behind w s (check_block w results s b) (sign kind.Else p) (block_tokens b) (block_grows w results s b)

-- functions, declarations and files

noted : (w : World) (a b : FoundSoFar) (rs : List Token) → b.uses ≡ a.uses ++ [] → Grows w a b rs
noted w a b rs e ts h = subst (λ us. Passes w us (ts ++ rs)) (sym e) (pass_append w a.uses [] ts rs h (pass_none w rs))

receiver_grows : (w : World) (s : FoundSoFar) (r : Option ReceiverTree) → Grows w s (check_optional_receiver w s r) (tokens_if receiver_tokens r)
unfolding check_receiver
receiver_grows w s None = grows_none w s []
receiver_grows w s (Some r) = noted w s (check_receiver w s r) (receiver_tokens r) refl

param_grows : (w : World) (s : FoundSoFar) (p : ParamTree) → Grows w s (check_param w s p) (param_tokens p)
unfolding check_param
param_grows w s p = noted w s (check_param w s p) (param_tokens p) refl

function_grows : (w : World) (is_init : Bool) (s : FoundSoFar) (f : FuncTree) → Grows w s (check_function w is_init s f) (func_tokens f)
unfolding check_function check_signature func_tokens
function_grows w is_init s f =
    let a = check_optional_receiver w s f.receiver in
    let b = check_items (check_param w) a f.params in
    let c = check_signature w is_init s f in
    let d = check_function w is_init s f in
    let results = result_tokens f.result in
    let params = list_tokens kind.Comma param_tokens f.params in
    let rest = sign kind.RightParen f.rparen ∷ (results ++ block_tokens f.body) in
    grows_then w s a d (tokens_if receiver_tokens f.receiver) (sign kind.Name f.name ∷ (sign kind.LeftParen f.lparen ∷ (params ++ rest)))
    (receiver_grows w s f.receiver)
    (grows_after w a d (sign kind.Name f.name ∷ (sign kind.LeftParen f.lparen ∷ [])) (params ++ rest)
    (grows_then w a b d params rest (items_grow w (check_param w) kind.Comma param_tokens (param_grows w) a f.params)
    (grows_then w b c d (sign kind.RightParen f.rparen ∷ results) (block_tokens f.body) (noted w b c (sign kind.RightParen f.rparen ∷ results) refl)
    (block_grows w (judge_results w f.result).wanted c f.body))))

global_grows : (w : World) (s : FoundSoFar) (g : GlobalTree) → Grows w s (check_global w s g) (global_tokens g)
global_grows w s g ts h = more_pass w s.uses (global_enterings w g) (ts ++ global_tokens g) (no_member_global w g) (pass_behind w s.uses ts (global_tokens g) h)

decl_grows : (w : World) (is_init : ℕ → Bool) (s : FoundSoFar) (d : DeclTree) → Grows w s (check_decl w is_init s d) (decl_tokens d)
unfolding check_decl decl_tokens
decl_grows w is_init s (VarDecl k g c) =
    let a = check_group (check_global w) s g in
    grows_behind w s a (sign kind.Var k) (group_tokens global_tokens g ++ (sign kind.Semicolon c ∷ []))
    (grows_before w s a (group_tokens global_tokens g) (sign kind.Semicolon c ∷ [])
    (group_grows w (check_global w) global_tokens (λ x y. global_grows w x y) s g))
decl_grows w is_init s (TypeDecl k g c) =
    let a = check_group (check_type w) s g in
    grows_behind w s a (sign kind.TypeWord k) (group_tokens type_spec_tokens g ++ (sign kind.Semicolon c ∷ []))
    (grows_before w s a (group_tokens type_spec_tokens g) (sign kind.Semicolon c ∷ [])
    (group_grows w (check_type w) type_spec_tokens (λ x y. noted w x (check_type w x y) (type_spec_tokens y) refl) s g))
decl_grows w is_init s (FuncDecl k f c) =
    let a = check_function w (is_init f.name) s f in
    grows_behind w s a (sign kind.Func k) (func_tokens f ++ (sign kind.Semicolon c ∷ []))
    (grows_before w s a (func_tokens f) (sign kind.Semicolon c ∷ []) (function_grows w (is_init f.name) s f))

decls_grow : (w : World) (is_init : ℕ → Bool) (s : FoundSoFar) (ds : List DeclTree) → Grows w s (check_decls w is_init s ds) (all_tokens decl_tokens ds)
unfolding check_decls all_tokens
decls_grow w is_init s [] = grows_none w s []
decls_grow w is_init s (d ∷ ds) =
    let a = check_decl w is_init s d in
    grows_then w s a (check_decls w is_init a ds) (decl_tokens d) (all_tokens decl_tokens ds) (decl_grows w is_init s d) (decls_grow w is_init a ds)

pub file_pass : (w : World) (is_init : ℕ → Bool) (f : FileTree) → Passes w (check_file w is_init f).uses (flatten f)
unfolding check_file flatten
file_pass w is_init f =
    let header = sign kind.Package f.keyword ∷ (sign kind.Name f.name ∷ (sign kind.Semicolon f.semicolon ∷ [])) in
    let imports = all_tokens imports_tokens f.imports in
    subst (λ xs. Passes w (check_file w is_init f).uses xs) (append_assoc header imports (all_tokens decl_tokens f.decls))
    (decls_grow w is_init _ f.decls (header ++ imports) (pass_none w (header ++ imports)))
