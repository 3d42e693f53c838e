-- Trees whose token indices are replaced by the values of a function `g`.
use Rattle.std.specs.Prelude.{ℕ, List, Option, None, Some, map, option_map}
use Rattle.go_ast.specs.declared.syntax.Token.{Token}
use Rattle.go_ast.specs.Tree.{Item, Group, single, several, IdentTree, Named, Underscore, BasicTree, Integer, String, TypeTree, Local, Imported, Pointer}
use Rattle.go_ast.specs.Tree.{Slice, ExprTree, Number, Text, Name, Blank, Composite, Paren, Prefix, Address, Chain, Binary, OperandTrees, no_operand}
use Rattle.go_ast.specs.Tree.{operand, LinkTrees, no_link, selector, index, call, ArgumentTrees, no_argument, argument, LiteralTree, literal, ElementTrees}
use Rattle.go_ast.specs.Tree.{no_element, element, SimpleTree, Alone, Step, Update, Assign, Define, LocalTree, InitTree, ForTree, forever, while, clauses}
use Rattle.go_ast.specs.Tree.{StatementTree, Empty, Var, Simple, Inner, If, For, Break, Continue, Return, BlockTree, block, StatementTrees, no_statement}
use Rattle.go_ast.specs.Tree.{statement, IfTree, if_tree, ElseTree, no_else, else_if, else_block, ImportTree, GlobalTree, FieldTree, MethodTree, BodyTree}
use Rattle.go_ast.specs.Tree.{Other, Struct, Interface, TypeSpecTree, ReceiverTree, ParamTree, ResultTree, no_result, one_result, results, FuncTree}
use Rattle.go_ast.specs.Tree.{ImportsTree, DeclTree, VarDecl, TypeDecl, FuncDecl, FileTree}

-- The token with its index changed by `g`. The definitions from here to `decl_by` do this for each kind of tree.
abbrev pub numbered : (ℕ → ℕ) → Token → Token
numbered g t = record { kind = t.kind; place = g t.place }

abbrev pub item_by : {X : Type 0} → (ℕ → ℕ) → (X → X) → Item X → Item X
item_by g f i = record { value = f i.value; separator = option_map g i.separator }

abbrev pub items_by : {X : Type 0} → (ℕ → ℕ) → (X → X) → List (Item X) → List (Item X)
items_by g f xs = map (item_by g f) xs

abbrev pub group_by : {X : Type 0} → (ℕ → ℕ) → (X → X) → Group X → Group X
group_by g f (single x) = single (f x)
group_by g f (several o xs c) = several (g o) (items_by g f xs) (g c)

abbrev pub ident_by : (ℕ → ℕ) → IdentTree → IdentTree
ident_by g (Named n) = Named (g n)
ident_by g (Underscore n) = Underscore (g n)

abbrev pub basic_by : (ℕ → ℕ) → BasicTree → BasicTree
basic_by g (Integer n) = Integer (g n)
basic_by g (String n) = String (g n)

unfoldable pub type_by : (ℕ → ℕ) → TypeTree → TypeTree
type_by g (Local n) = Local (g n)
type_by g (Imported p d n) = Imported (g p) (g d) (g n)
type_by g (Pointer s t) = Pointer (g s) (type_by g t)
type_by g (Slice o c t) = Slice (g o) (g c) (type_by g t)

abbrev pub key_by : (ℕ → ℕ) → Option (ℕ × ℕ) → Option (ℕ × ℕ)
key_by g None = None
key_by g (Some k) = Some (g k.0, g k.1)

unfoldable mutual
  pub expr_by : (ℕ → ℕ) → ExprTree → ExprTree
  expr_by g (Number n) = Number (g n)
  expr_by g (Text n) = Text (g n)
  expr_by g (Name n) = Name (g n)
  expr_by g (Blank n) = Blank (g n)
  expr_by g (Composite l) = Composite (literal_by g l)
  expr_by g (Paren o e c) = Paren (g o) (expr_by g e) (g c)
  expr_by g (Prefix op p e) = Prefix op (g p) (expr_by g e)
  expr_by g (Address p l) = Address (g p) (literal_by g l)
  expr_by g (Chain e ls) = Chain (expr_by g e) (links_by g ls)
  expr_by g (Binary e os) = Binary (expr_by g e) (operands_by g os)

  pub operands_by : (ℕ → ℕ) → OperandTrees → OperandTrees
  operands_by g no_operand = no_operand
  operands_by g (operand op p e os) = operand op (g p) (expr_by g e) (operands_by g os)

  pub links_by : (ℕ → ℕ) → LinkTrees → LinkTrees
  links_by g no_link = no_link
  links_by g (selector d n ls) = selector (g d) (g n) (links_by g ls)
  links_by g (index o e c ls) = index (g o) (expr_by g e) (g c) (links_by g ls)
  links_by g (call o xs c ls) = call (g o) (arguments_by g xs) (g c) (links_by g ls)

  pub arguments_by : (ℕ → ℕ) → ArgumentTrees → ArgumentTrees
  arguments_by g no_argument = no_argument
  arguments_by g (argument e comma rest) = argument (expr_by g e) (option_map g comma) (arguments_by g rest)

  pub literal_by : (ℕ → ℕ) → LiteralTree → LiteralTree
  literal_by g (literal t o es c) = literal (type_by g t) (g o) (elements_by g es) (g c)

  pub elements_by : (ℕ → ℕ) → ElementTrees → ElementTrees
  elements_by g no_element = no_element
  elements_by g (element key e comma rest) = element (key_by g key) (expr_by g e) (option_map g comma) (elements_by g rest)

abbrev pub exprs_by : (ℕ → ℕ) → List (Item ExprTree) → List (Item ExprTree)
exprs_by g es = items_by g (expr_by g) es

abbrev pub simple_by : (ℕ → ℕ) → SimpleTree → SimpleTree
simple_by g (Alone e) = Alone (expr_by g e)
simple_by g (Step e op p) = Step (expr_by g e) op (g p)
simple_by g (Update e op p f) = Update (expr_by g e) op (g p) (expr_by g f)
simple_by g (Assign es p fs) = Assign (exprs_by g es) (g p) (exprs_by g fs)
simple_by g (Define es p fs) = Define (exprs_by g es) (g p) (exprs_by g fs)

-- `=` and the values behind it, with token indices changed by `g`.
abbrev pub values_by : {X : Type 0} → (ℕ → ℕ) → (X → X) → ℕ × List (Item X) → ℕ × List (Item X)
values_by g f v = (g v.0, items_by g f v.1)

abbrev pub local_by : (ℕ → ℕ) → LocalTree → LocalTree
local_by g l = record {
  names = items_by g (ident_by g) l.names;
  type_use = option_map (type_by g) l.type_use;
  values = option_map (values_by g (expr_by g)) l.values;
}

abbrev pub init_by : (ℕ → ℕ) → InitTree → InitTree
init_by g i = record { simple = option_map (simple_by g) i.simple; semicolon = g i.semicolon }

abbrev pub for_by : (ℕ → ℕ) → ForTree → ForTree
for_by g forever = forever
for_by g (while e) = while (expr_by g e)
for_by g (clauses init s condition t post) =
    clauses (option_map (simple_by g) init) (g s) (option_map (expr_by g) condition) (g t) (option_map (simple_by g) post)

unfoldable mutual
  pub statement_by : (ℕ → ℕ) → StatementTree → StatementTree
  statement_by g Empty = Empty
  statement_by g (Var p v) = Var (g p) (group_by g (local_by g) v)
  statement_by g (Simple s) = Simple (simple_by g s)
  statement_by g (Inner b) = Inner (block_by g b)
  statement_by g (If i) = If (if_by g i)
  statement_by g (For p f b) = For (g p) (for_by g f) (block_by g b)
  statement_by g (Break p) = Break (g p)
  statement_by g (Continue p) = Continue (g p)
  statement_by g (Return p es) = Return (g p) (exprs_by g es)

  pub block_by : (ℕ → ℕ) → BlockTree → BlockTree
  block_by g (block o ss c) = block (g o) (statements_by g ss) (g c)

  pub statements_by : (ℕ → ℕ) → StatementTrees → StatementTrees
  statements_by g no_statement = no_statement
  statements_by g (statement s semicolon rest) = statement (statement_by g s) (option_map g semicolon) (statements_by g rest)

  pub if_by : (ℕ → ℕ) → IfTree → IfTree
  if_by g (if_tree p init e b rest) = if_tree (g p) (option_map (init_by g) init) (expr_by g e) (block_by g b) (else_by g rest)

  pub else_by : (ℕ → ℕ) → ElseTree → ElseTree
  else_by g no_else = no_else
  else_by g (else_if p i) = else_if (g p) (if_by g i)
  else_by g (else_block p b) = else_block (g p) (block_by g b)

abbrev pub import_by : (ℕ → ℕ) → ImportTree → ImportTree
import_by g i = record { name = option_map g i.name; path = g i.path }

abbrev pub global_by : (ℕ → ℕ) → GlobalTree → GlobalTree
global_by g v = record {
  names = items_by g g v.names;
  type_use = type_by g v.type_use;
  values = option_map (values_by g (basic_by g)) v.values;
}

abbrev pub field_by : (ℕ → ℕ) → FieldTree → FieldTree
field_by g f = record { names = items_by g g f.names; type_use = type_by g f.type_use }

abbrev pub param_by : (ℕ → ℕ) → ParamTree → ParamTree
param_by g p = record { names = items_by g (ident_by g) p.names; type_use = type_by g p.type_use }

abbrev pub result_by : (ℕ → ℕ) → ResultTree → ResultTree
result_by g no_result = no_result
result_by g (one_result t) = one_result (type_by g t)
result_by g (results o ts c) = results (g o) (items_by g (type_by g) ts) (g c)

abbrev pub method_by : (ℕ → ℕ) → MethodTree → MethodTree
method_by g m = record {
  name = g m.name;
  lparen = g m.lparen;
  params = items_by g (param_by g) m.params;
  rparen = g m.rparen;
  result = result_by g m.result;
}

abbrev pub body_by : (ℕ → ℕ) → BodyTree → BodyTree
body_by g (Other t) = Other (type_by g t)
body_by g (Struct s o fs c) = Struct (g s) (g o) (items_by g (field_by g) fs) (g c)
body_by g (Interface i o ms c) = Interface (g i) (g o) (items_by g (method_by g) ms) (g c)

abbrev pub type_spec_by : (ℕ → ℕ) → TypeSpecTree → TypeSpecTree
type_spec_by g t = record { name = g t.name; body = body_by g t.body }

abbrev pub receiver_by : (ℕ → ℕ) → ReceiverTree → ReceiverTree
receiver_by g r = record {
  lparen = g r.lparen;
  name = ident_by g r.name;
  star = option_map g r.star;
  type_name = g r.type_name;
  comma = option_map g r.comma;
  rparen = g r.rparen;
}

abbrev pub func_by : (ℕ → ℕ) → FuncTree → FuncTree
func_by g f = record {
  receiver = option_map (receiver_by g) f.receiver;
  name = g f.name;
  lparen = g f.lparen;
  params = items_by g (param_by g) f.params;
  rparen = g f.rparen;
  result = result_by g f.result;
  body = block_by g f.body;
}

abbrev pub imports_by : (ℕ → ℕ) → ImportsTree → ImportsTree
imports_by g i = record { keyword = g i.keyword; imports = group_by g (import_by g) i.imports; semicolon = g i.semicolon }

abbrev pub decl_by : (ℕ → ℕ) → DeclTree → DeclTree
decl_by g (VarDecl k v s) = VarDecl (g k) (group_by g (global_by g) v) (g s)
decl_by g (TypeDecl k v s) = TypeDecl (g k) (group_by g (type_spec_by g) v) (g s)
decl_by g (FuncDecl k f s) = FuncDecl (g k) (func_by g f) (g s)

-- The tree of a file with all token indices changed by `g`.
abbrev pub renumbered : (ℕ → ℕ) → FileTree → FileTree
renumbered g f = record {
  keyword = g f.keyword;
  name = g f.name;
  semicolon = g f.semicolon;
  imports = map (imports_by g) f.imports;
  decls = map (decl_by g) f.decls;
}
