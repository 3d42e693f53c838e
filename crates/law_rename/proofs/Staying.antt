-- A tree whose tokens keep their numbers stays, and so do its identifiers.
use Rattle.std.proofs.Common.{ℕ, ◌≡◌, List, [], ◌∷◌, Option, Some, None, map, refl, sym, ap, ◌∙◌}
use Rattle.std.specs.Prelude.{option_map}
use Rattle.go_scope.specs.Site.{TokenSpellings}
use Rattle.go_scope.specs.FileSites.{file_sites}
use Rattle.go_ast.specs.Tree.{Item, Group, single, several, IdentTree, Named, Underscore, BasicTree, Integer, String, TypeTree, Local, Imported, Pointer}
use Rattle.go_ast.specs.Tree.{Slice, ExprTree, Number, Text, Name, Blank, Composite, Paren, Prefix, Address, Chain, Binary, OperandTrees, no_operand}
use Rattle.go_ast.specs.Tree.{operand, LinkTrees, no_link, selector, index, call, ArgumentTrees, no_argument, argument, LiteralTree, literal, ElementTrees}
use Rattle.go_ast.specs.Tree.{no_element, element, SimpleTree, Alone, Step, Update, Assign, Define, LocalTree, InitTree, ForTree, forever, while, clauses}
use Rattle.go_ast.specs.Tree.{StatementTree, Empty, Var, Simple, Inner, If, For, Break, Continue, Return, BlockTree, block, StatementTrees, no_statement}
use Rattle.go_ast.specs.Tree.{statement, IfTree, if_tree, ElseTree, no_else, else_if, else_block, ImportTree, GlobalTree, FieldTree, MethodTree, BodyTree}
use Rattle.go_ast.specs.Tree.{Other, Struct, Interface, TypeSpecTree, ReceiverTree, ParamTree, ResultTree, no_result, one_result, results, FuncTree}
use Rattle.go_ast.specs.Tree.{ImportsTree, DeclTree, VarDecl, TypeDecl, FuncDecl, FileTree}
use Rattle.law_rename.specs.Renumbered.{items_by, group_by, ident_by, basic_by, type_by, key_by, expr_by, operands_by, links_by}
use Rattle.law_rename.specs.Renumbered.{arguments_by, literal_by, elements_by, exprs_by, simple_by, values_by, local_by, init_by, for_by, statement_by}
use Rattle.law_rename.specs.Renumbered.{block_by, statements_by, if_by, else_by, import_by, global_by, field_by, body_by, type_spec_by, receiver_by}
use Rattle.law_rename.specs.Renumbered.{param_by, result_by, method_by, func_by, imports_by, decl_by, renumbered}
use Rattle.law_rename.specs.MovedSites.{moved_site}
use Rattle.law_rename.proofs.MovedFiles.{file_moved}

-- each number of a token as it is
abbrev itself : ℕ → ℕ
itself n = n

option_stays : {X : Type 0} (F : X → X) → ((x : X) → F x ≡ x) → (o : Option X) → option_map F o ≡ o
option_stays F each None = refl
option_stays F each (Some x) = ap Some (each x)

number_stays : (o : Option ℕ) → option_map itself o ≡ o
number_stays None = refl
number_stays (Some n) = refl

list_stays : {X : Type 0} (F : X → X) → ((x : X) → F x ≡ x) → (xs : List X) → map F xs ≡ xs
list_stays F each [] = refl
list_stays F each (x ∷ xs) = λ i. each x i ∷ list_stays F each xs i

items_stay : {X : Type 0} (F : X → X) → ((x : X) → F x ≡ x) → (xs : List (Item X)) → items_by itself F xs ≡ xs
items_stay F each [] = refl
items_stay F each (x ∷ xs) =
    let value = each x.value in
    let separator = number_stays x.separator in
    let rest = items_stay F each xs in
    λ i. record { value = value i; separator = separator i } ∷ rest i

group_stays : {X : Type 0} (F : X → X) → ((x : X) → F x ≡ x) → (x : Group X) → group_by itself F x ≡ x
group_stays F each (single x) = ap single (each x)
group_stays F each (several o xs c) = ap (λ ys. several o ys c) (items_stay F each xs)

ident_stays : (x : IdentTree) → ident_by itself x ≡ x
ident_stays (Named n) = refl
ident_stays (Underscore n) = refl

basic_stays : (x : BasicTree) → basic_by itself x ≡ x
basic_stays (Integer n) = refl
basic_stays (String n) = refl

type_stays : (t : TypeTree) → type_by itself t ≡ t
unfolding type_by
type_stays (Local n) = refl
type_stays (Imported p d n) = refl
type_stays (Pointer s t) = ap (Pointer s) (type_stays t)
type_stays (Slice o c t) = ap (Slice o c) (type_stays t)

key_stays : (k : Option (ℕ × ℕ)) → key_by itself k ≡ k
key_stays None = refl
key_stays (Some k) = refl

mutual
  unfolding expr_by operands_by links_by arguments_by literal_by elements_by

  expr_stays : (e : ExprTree) → expr_by itself e ≡ e
  expr_stays (Number n) = refl
  expr_stays (Text n) = refl
  expr_stays (Name n) = refl
  expr_stays (Blank n) = refl
  expr_stays (Composite l) = ap Composite (literal_stays l)
  expr_stays (Paren o e c) = ap (λ x. Paren o x c) (expr_stays e)
  expr_stays (Prefix op p e) = ap (Prefix op p) (expr_stays e)
  expr_stays (Address p l) = ap (Address p) (literal_stays l)
  expr_stays (Chain e ls) = λ i. Chain (expr_stays e i) (links_stay ls i)
  expr_stays (Binary e os) = λ i. Binary (expr_stays e i) (operands_stay os i)

  operands_stay : (os : OperandTrees) → operands_by itself os ≡ os
  operands_stay no_operand = refl
  operands_stay (operand op p e os) = λ i. operand op p (expr_stays e i) (operands_stay os i)

  links_stay : (ls : LinkTrees) → links_by itself ls ≡ ls
  links_stay no_link = refl
  links_stay (selector d n ls) = ap (selector d n) (links_stay ls)
  links_stay (index o e c ls) = λ i. index o (expr_stays e i) c (links_stay ls i)
  links_stay (call o xs c ls) = λ i. call o (arguments_stay xs i) c (links_stay ls i)

  arguments_stay : (xs : ArgumentTrees) → arguments_by itself xs ≡ xs
  arguments_stay no_argument = refl
  arguments_stay (argument e comma rest) = λ i. argument (expr_stays e i) (number_stays comma i) (arguments_stay rest i)

  literal_stays : (l : LiteralTree) → literal_by itself l ≡ l
  literal_stays (literal t o es c) = λ i. literal (type_stays t i) o (elements_stay es i) c

  elements_stay : (es : ElementTrees) → elements_by itself es ≡ es
  elements_stay no_element = refl
  elements_stay (element key e comma rest) = λ i. element (key_stays key i) (expr_stays e i) (number_stays comma i) (elements_stay rest i)

exprs_stay : (es : List (Item ExprTree)) → exprs_by itself es ≡ es
exprs_stay es = items_stay (expr_by itself) expr_stays es

simple_stays : (s : SimpleTree) → simple_by itself s ≡ s
simple_stays (Alone e) = ap Alone (expr_stays e)
simple_stays (Step e op p) = ap (λ x. Step x op p) (expr_stays e)
simple_stays (Update e op p f) = λ i. Update (expr_stays e i) op p (expr_stays f i)
simple_stays (Assign es p fs) = λ i. Assign (exprs_stay es i) p (exprs_stay fs i)
simple_stays (Define es p fs) = λ i. Define (exprs_stay es i) p (exprs_stay fs i)

values_stay : {X : Type 0} (F : X → X) → ((x : X) → F x ≡ x) → (v : ℕ × List (Item X)) → values_by itself F v ≡ v
values_stay F each v = let rest = items_stay F each v.1 in λ i. (v.0, rest i)

local_stays : (l : LocalTree) → local_by itself l ≡ l
local_stays l =
    let names = items_stay (ident_by itself) ident_stays l.names in
    let type_use = option_stays (type_by itself) type_stays l.type_use in
    let values = option_stays (values_by itself (expr_by itself)) (values_stay (expr_by itself) expr_stays) l.values in
    λ i. record { names = names i; type_use = type_use i; values = values i }

init_stays : (t : InitTree) → init_by itself t ≡ t
init_stays t = let simple = option_stays (simple_by itself) simple_stays t.simple in λ i. record { simple = simple i; semicolon = t.semicolon }

for_stays : (f : ForTree) → for_by itself f ≡ f
for_stays forever = refl
for_stays (while e) = ap while (expr_stays e)
for_stays (clauses init s condition t post) =
    let first = option_stays (simple_by itself) simple_stays init in
    let test = option_stays (expr_by itself) expr_stays condition in
    let last = option_stays (simple_by itself) simple_stays post in
    λ i. clauses (first i) s (test i) t (last i)

mutual
  unfolding statement_by block_by statements_by if_by else_by

  statement_stays : (s : StatementTree) → statement_by itself s ≡ s
  statement_stays Empty = refl
  statement_stays (Var p v) = ap (Var p) (group_stays (local_by itself) local_stays v)
  statement_stays (Simple s) = ap Simple (simple_stays s)
  statement_stays (Inner b) = ap Inner (block_stays b)
  statement_stays (If x) = ap If (if_stays x)
  statement_stays (For p f b) = λ i. For p (for_stays f i) (block_stays b i)
  statement_stays (Break p) = refl
  statement_stays (Continue p) = refl
  statement_stays (Return p es) = ap (Return p) (exprs_stay es)

  block_stays : (b : BlockTree) → block_by itself b ≡ b
  block_stays (block o ss c) = ap (λ x. block o x c) (statements_stay ss)

  statements_stay : (ss : StatementTrees) → statements_by itself ss ≡ ss
  statements_stay no_statement = refl
  statements_stay (statement s semicolon rest) = λ i. statement (statement_stays s i) (number_stays semicolon i) (statements_stay rest i)

  if_stays : (x : IfTree) → if_by itself x ≡ x
  if_stays (if_tree p init e b rest) =
      λ i. if_tree p (option_stays (init_by itself) init_stays init i) (expr_stays e i) (block_stays b i) (else_stays rest i)

  else_stays : (e : ElseTree) → else_by itself e ≡ e
  else_stays no_else = refl
  else_stays (else_if p x) = ap (else_if p) (if_stays x)
  else_stays (else_block p b) = ap (else_block p) (block_stays b)

import_stays : (x : ImportTree) → import_by itself x ≡ x
import_stays x = let name = number_stays x.name in λ i. record { name = name i; path = x.path }

global_stays : (v : GlobalTree) → global_by itself v ≡ v
global_stays v =
    let names = items_stay itself (λ n. refl) v.names in
    let type_use = type_stays v.type_use in
    let values = option_stays (values_by itself (basic_by itself)) (values_stay (basic_by itself) basic_stays) v.values in
    λ i. record { names = names i; type_use = type_use i; values = values i }

field_stays : (f : FieldTree) → field_by itself f ≡ f
field_stays f =
    let names = items_stay itself (λ n. refl) f.names in
    let type_use = type_stays f.type_use in
    λ i. record { names = names i; type_use = type_use i }

param_stays : (p : ParamTree) → param_by itself p ≡ p
param_stays p =
    let names = items_stay (ident_by itself) ident_stays p.names in
    let type_use = type_stays p.type_use in
    λ i. record { names = names i; type_use = type_use i }

result_stays : (r : ResultTree) → result_by itself r ≡ r
result_stays no_result = refl
result_stays (one_result t) = ap one_result (type_stays t)
result_stays (results o ts c) = ap (λ xs. results o xs c) (items_stay (type_by itself) type_stays ts)

method_stays : (m : MethodTree) → method_by itself m ≡ m
method_stays m =
    let params = items_stay (param_by itself) param_stays m.params in
    let result = result_stays m.result in
    λ i. record { name = m.name; lparen = m.lparen; params = params i; rparen = m.rparen; result = result i }

body_stays : (b : BodyTree) → body_by itself b ≡ b
body_stays (Other t) = ap Other (type_stays t)
body_stays (Struct s o fs c) = ap (λ xs. Struct s o xs c) (items_stay (field_by itself) field_stays fs)
body_stays (Interface p o ms c) = ap (λ xs. Interface p o xs c) (items_stay (method_by itself) method_stays ms)

type_spec_stays : (t : TypeSpecTree) → type_spec_by itself t ≡ t
type_spec_stays t = let body = body_stays t.body in λ i. record { name = t.name; body = body i }

receiver_stays : (r : ReceiverTree) → receiver_by itself r ≡ r
receiver_stays r =
    let name = ident_stays r.name in
    let star = number_stays r.star in
    let comma = number_stays r.comma in
    λ i. record { lparen = r.lparen; name = name i; star = star i; type_name = r.type_name; comma = comma i; rparen = r.rparen }

func_stays : (f : FuncTree) → func_by itself f ≡ f
func_stays f =
    let receiver = option_stays (receiver_by itself) receiver_stays f.receiver in
    let params = items_stay (param_by itself) param_stays f.params in
    let result = result_stays f.result in
    let body = block_stays f.body in
    λ i. record {
      receiver = receiver i;
      name = f.name;
      lparen = f.lparen;
      params = params i;
      rparen = f.rparen;
      result = result i;
      body = body i;
    }

imports_stay : (x : ImportsTree) → imports_by itself x ≡ x
imports_stay x =
    let imports = group_stays (import_by itself) import_stays x.imports in λ i. record { keyword = x.keyword; imports = imports i; semicolon = x.semicolon }

decl_stays : (d : DeclTree) → decl_by itself d ≡ d
decl_stays (VarDecl k v s) = ap (λ x. VarDecl k x s) (group_stays (global_by itself) global_stays v)
decl_stays (TypeDecl k v s) = ap (λ x. TypeDecl k x s) (group_stays (type_spec_by itself) type_spec_stays v)
decl_stays (FuncDecl k f s) = ap (λ x. FuncDecl k x s) (func_stays f)

pub tree_stays : (f : FileTree) → renumbered itself f ≡ f
tree_stays f =
    let imports = list_stays (imports_by itself) imports_stay f.imports in
    let decls = list_stays (decl_by itself) decl_stays f.decls in
    λ i. record { keyword = f.keyword; name = f.name; semicolon = f.semicolon; imports = imports i; decls = decls i }

pub file_stays : (move : ℕ → ℕ → ℕ) (rank : ℕ) (spell : ℕ → List ℕ) (f : FileTree) → ((n : ℕ) → move rank n ≡ n) →
    map (moved_site move) (file_sites (record { rank = rank; spell = spell }) f) ≡ file_sites (record { rank = rank; spell = spell }) f
file_stays move rank spell f stays =
    let s : TokenSpellings = record { rank = rank; spell = spell } in
    let same : move rank ≡ itself = λ i n. stays n i in
    sym (file_moved move rank spell spell f (λ n. ap spell (stays n)))
    ∙ ap (λ (g : ℕ → ℕ). file_sites s (renumbered g f)) same ∙ ap (file_sites s) (tree_stays f)
