-- A tree with the numbers of its tokens changed is as the grammar has it, where the tree is.
use Rattle.std.proofs.Common.{ℕ, ◌≡◌, ◌<◌, List, [], ◌∷◌, Option, Some, None, map, refl, sym, ap, ◌∙◌, subst, inl, inr, ⊎_elim}
use Rattle.std.specs.Prelude.{◌≢◌, Bool, false, true, IsSome, option_map}
use Rattle.std.specs.List.{All, AllByRecursion}
use Rattle.std.proofs.lemmas.List.Elements.{All-from_recursion, recursion_from_All}
use Rattle.base_lemmas.proofs.Tests.{none_from_map}
use Rattle.go_ast.specs.Tree.{Item, Group, single, several, TypeTree, Local, Imported, Pointer}
use Rattle.go_ast.specs.Tree.{Slice, ExprTree, Number, Text, Name, Blank, Composite, Paren, Prefix, Address, Chain, Binary, OperandTrees, no_operand}
use Rattle.go_ast.specs.Tree.{operand, LinkTrees, no_link, selector, index, call, ArgumentTrees, no_argument, argument, LiteralTree, literal, ElementTrees}
use Rattle.go_ast.specs.Tree.{no_element, element, SimpleTree, Alone, Step, Update, Assign, Define, LocalTree, InitTree, ForTree, forever, while, clauses}
use Rattle.go_ast.specs.Tree.{StatementTree, Empty, Var, Simple, Inner, If, For, Break, Continue, Return, BlockTree, block, StatementTrees, no_statement}
use Rattle.go_ast.specs.Tree.{statement, IfTree, if_tree, ElseTree, no_else, else_if, else_block, GlobalTree, MethodTree, BodyTree, Other}
use Rattle.go_ast.specs.Tree.{Struct, Interface, ParamTree, ResultTree, no_result, one_result, results, FuncTree, DeclTree}
use Rattle.go_ast.specs.Tree.{VarDecl, TypeDecl, FuncDecl, FileTree}
use Rattle.go_ast.specs.WellFormed.{IsNonEmpty, IsSeparated, IsJoined, IsList, IsOpenList, IsGroup, IsNoneOr, Any, strength, strength_of, is_operand}
use Rattle.go_ast.specs.WellFormed.{is_binary_tree, IsLiteralType, IsExpr, AreOperands, AreLinks, AreArguments, IsLiteral, AreElements, IsUnnamed}
use Rattle.go_ast.specs.WellFormed.{HasNoNamedLiteral, HaveNoNamedLiteral, IsExprIn, IsSimple, IsPost, IsInit, IsFor, IsLocal, IsStatement, IsBlock}
use Rattle.go_ast.specs.WellFormed.{AreStatements, IsIf, IsElse, IsGlobal, IsField, IsMethodSpec, IsBody, IsTypeSpec, IsParam, IsResult, IsFunc, IsImports}
use Rattle.go_ast.specs.WellFormed.{IsDecl, IsFile}
use Rattle.law_rename.specs.Renumbered.{item_by, items_by, group_by, ident_by, basic_by, type_by, expr_by, operands_by, links_by}
use Rattle.law_rename.specs.Renumbered.{arguments_by, literal_by, elements_by, simple_by, values_by, local_by, init_by, for_by, statement_by}
use Rattle.law_rename.specs.Renumbered.{block_by, statements_by, if_by, else_by, import_by, global_by, field_by, body_by, type_spec_by}
use Rattle.law_rename.specs.Renumbered.{param_by, result_by, method_by, func_by, imports_by, decl_by, renumbered}

mapped : {X : Type 0} (P : X → Type 0) (by : X → X) → ((x : X) → P x → P (by x)) → (xs : List X) → AllByRecursion P xs → AllByRecursion P (map by xs)
mapped P by each [] w = tt
mapped P by each (x ∷ xs) w = (each x w.0, mapped P by each xs w.1)

pub all_kept : {X : Type 0} (P : X → Type 0) (by : X → X) → ((x : X) → P x → P (by x)) → (xs : List X) → All P xs → All P (map by xs)
all_kept P by each xs w = All-from_recursion P (map by xs) (mapped P by each xs (recursion_from_All P xs w))

module _ (g : ℕ → ℕ) where
  some_kept : (o : Option ℕ) → IsSome o → IsSome (option_map g o)
  some_kept None w = w
  some_kept (Some p) w = refl

  non_empty : {X : Type 0} (by : X → X) (xs : List (Item X)) → IsNonEmpty xs → IsNonEmpty (items_by g by xs)
  non_empty by [] w = w
  non_empty by (x ∷ xs) w = tt

  joined_kept : {X : Type 0} (by : X → X) (xs : List (Item X)) → IsJoined xs → IsJoined (items_by g by xs)
  joined_kept by [] w = tt
  joined_kept by (x ∷ []) w = ap (option_map g) w
  joined_kept by (x ∷ (y ∷ ys)) w = (some_kept x.separator w.0, joined_kept by (y ∷ ys) w.1)

  separated_kept : {X : Type 0} (by : X → X) (xs : List (Item X)) → IsSeparated xs → IsSeparated (items_by g by xs)
  separated_kept by [] w = tt
  separated_kept by (x ∷ xs) w = ((λ none. ap (items_by g by) (w.0 (none_from_map g x.separator none))), separated_kept by xs w.1)

  list_kept : {X : Type 0} (P : X → Type 0) (by : X → X) → ((x : X) → P x → P (by x)) → (xs : List (Item X)) → IsList P xs → IsList P (items_by g by xs)
  list_kept P by each xs w = record {
    some = non_empty by xs w.some;
    joined = joined_kept by xs w.joined;
    each = all_kept (λ x. P x.value) (item_by g by) (λ i is. each i.value is) xs w.each;
  }

  open_kept : {X : Type 0} (P : X → Type 0) (by : X → X) → ((x : X) → P x → P (by x)) → (xs : List (Item X)) → IsOpenList P xs →
      IsOpenList P (items_by g by xs)
  open_kept P by each xs w = record {
    separated = separated_kept by xs w.separated;
    each = all_kept (λ x. P x.value) (item_by g by) (λ i is. each i.value is) xs w.each;
  }

  group_kept : {X : Type 0} (P : X → Type 0) (by : X → X) → ((x : X) → P x → P (by x)) → (x : Group X) → IsGroup P x → IsGroup P (group_by g by x)
  group_kept P by each (single x) w = each x w
  group_kept P by each (several o xs c) w = open_kept P by each xs w

  perhaps_kept : {X : Type 0} (P : X → Type 0) (by : X → X) → ((x : X) → P x → P (by x)) → (o : Option X) → IsNoneOr P o → IsNoneOr P (option_map by o)
  perhaps_kept P by each None w = tt
  perhaps_kept P by each (Some x) w = each x w

  strength_kept : (e : ExprTree) → strength_of (expr_by g e) ≡ strength_of e
  unfolding expr_by operands_by
  strength_kept (Binary e no_operand) = refl
  strength_kept (Binary e (operand op p f os)) = refl
  strength_kept _ = refl

  operand_kept : (e : ExprTree) → is_operand (expr_by g e) ≡ is_operand e
  unfolding expr_by
  operand_kept (Number n) = refl
  operand_kept (Text n) = refl
  operand_kept (Name n) = refl
  operand_kept (Blank n) = refl
  operand_kept (Composite l) = refl
  operand_kept (Paren o e c) = refl
  operand_kept (Prefix op p e) = refl
  operand_kept (Address p l) = refl
  operand_kept (Chain e ls) = refl
  operand_kept (Binary e os) = refl

  binary_kept : (e : ExprTree) → is_binary_tree (expr_by g e) ≡ is_binary_tree e
  unfolding expr_by
  binary_kept (Number n) = refl
  binary_kept (Text n) = refl
  binary_kept (Name n) = refl
  binary_kept (Blank n) = refl
  binary_kept (Composite l) = refl
  binary_kept (Paren o e c) = refl
  binary_kept (Prefix op p e) = refl
  binary_kept (Address p l) = refl
  binary_kept (Chain e ls) = refl
  binary_kept (Binary e os) = refl

  some_links : (ls : LinkTrees) → ls ≢ no_link → links_by g ls ≢ no_link
  unfolding links_by
  some_links no_link w = w
  some_links (selector d n ls) w = λ same. cc
  some_links (index o e c ls) w = λ same. cc
  some_links (call o xs c ls) w = λ same. cc

  literal_type : (t : TypeTree) → IsLiteralType t → IsLiteralType (type_by g t)
  unfolding type_by
  literal_type (Local n) w = tt
  literal_type (Imported p d n) w = tt
  literal_type (Pointer s t) w = w
  literal_type (Slice o c t) w = tt

  mutual
    unfolding IsExpr AreOperands AreLinks AreArguments IsLiteral AreElements expr_by operands_by links_by arguments_by literal_by elements_by

    expr_kept : (e : ExprTree) → IsExpr e → IsExpr (expr_by g e)
    expr_kept (Number n) w = tt
    expr_kept (Text n) w = tt
    expr_kept (Name n) w = tt
    expr_kept (Blank n) w = tt
    expr_kept (Composite l) w = literal_kept l w
    expr_kept (Paren o e c) w = expr_kept e w
    expr_kept (Prefix op p e) w = (binary_kept e ∙ w.0, expr_kept e w.1)
    expr_kept (Address p l) w = literal_kept l w
    expr_kept (Chain e ls) w = (operand_kept e ∙ w.0, some_links ls w.1, expr_kept e w.2, links_kept ls w.3)
    expr_kept (Binary e no_operand) w = w
    expr_kept (Binary e (operand op p f os)) w = (
      subst (λ (k : ℕ). strength op < k) (sym (strength_kept e)) w.0,
      expr_kept e w.1,
      operands_kept (strength op) (operand op p f os) w.2,
    )

    operands_kept : (k : ℕ) (os : OperandTrees) → AreOperands k os → AreOperands k (operands_by g os)
    operands_kept k no_operand w = tt
    operands_kept k (operand op p e os) w =
        (w.0, subst (λ (n : ℕ). k < n) (sym (strength_kept e)) w.1, expr_kept e w.2, operands_kept k os w.3)

    links_kept : (ls : LinkTrees) → AreLinks ls → AreLinks (links_by g ls)
    links_kept no_link w = tt
    links_kept (selector d n ls) w = links_kept ls w
    links_kept (index o e c ls) w = (expr_kept e w.0, links_kept ls w.1)
    links_kept (call o xs c ls) w = (arguments_kept xs w.0, links_kept ls w.1)

    arguments_kept : (xs : ArgumentTrees) → AreArguments xs → AreArguments (arguments_by g xs)
    arguments_kept no_argument w = tt
    arguments_kept (argument e comma rest) w =
        ((λ none. ap (arguments_by g) (w.0 (none_from_map g comma none))), expr_kept e w.1, arguments_kept rest w.2)

    literal_kept : (l : LiteralTree) → IsLiteral l → IsLiteral (literal_by g l)
    literal_kept (literal t o es c) w = (literal_type t w.0, elements_kept es w.1)

    elements_kept : (es : ElementTrees) → AreElements es → AreElements (elements_by g es)
    elements_kept no_element w = tt
    elements_kept (element key e comma rest) w =
        ((λ none. ap (elements_by g) (w.0 (none_from_map g comma none))), expr_kept e w.1, elements_kept rest w.2)

  unnamed_literal : (l : LiteralTree) → IsUnnamed l → IsUnnamed (literal_by g l)
  unfolding literal_by type_by
  unnamed_literal (literal (Local n) b es d) w = w
  unnamed_literal (literal (Imported p q n) b es d) w = w
  unnamed_literal (literal (Pointer s t) b es d) w = w
  unnamed_literal (literal (Slice o c t) b es d) w = tt

  mutual
    unfolding HasNoNamedLiteral HaveNoNamedLiteral expr_by operands_by

    unnamed_kept : (e : ExprTree) → HasNoNamedLiteral e → HasNoNamedLiteral (expr_by g e)
    unnamed_kept (Number n) w = tt
    unnamed_kept (Text n) w = tt
    unnamed_kept (Name n) w = tt
    unnamed_kept (Blank n) w = tt
    unnamed_kept (Composite l) w = unnamed_literal l w
    unnamed_kept (Paren o e c) w = tt
    unnamed_kept (Prefix op p e) w = unnamed_kept e w
    unnamed_kept (Address p l) w = unnamed_literal l w
    unnamed_kept (Chain e ls) w = unnamed_kept e w
    unnamed_kept (Binary e os) w = (unnamed_kept e w.0, unnamed_operands os w.1)

    unnamed_operands : (os : OperandTrees) → HaveNoNamedLiteral os → HaveNoNamedLiteral (operands_by g os)
    unnamed_operands no_operand w = tt
    unnamed_operands (operand op p e os) w = (unnamed_kept e w.0, unnamed_operands os w.1)

  in_kept : (h : Bool) (e : ExprTree) → IsExprIn h e → IsExprIn h (expr_by g e)
  in_kept h e w = record { grouped = expr_kept e w.grouped; unnamed = λ is. unnamed_kept e (w.unnamed is) }

  simple_kept : (h : Bool) (s : SimpleTree) → IsSimple h s → IsSimple h (simple_by g s)
  simple_kept h (Alone e) w = in_kept h e w
  simple_kept h (Step e op p) w = in_kept h e w
  simple_kept h (Update e op p f) w = (in_kept h e w.0, in_kept h f w.1)
  simple_kept h (Assign es p fs) w =
      (list_kept (IsExprIn h) (expr_by g) (in_kept h) es w.0, list_kept (IsExprIn h) (expr_by g) (in_kept h) fs w.1)
  simple_kept h (Define es p fs) w =
      (list_kept (IsExprIn h) (expr_by g) (in_kept h) es w.0, list_kept (IsExprIn h) (expr_by g) (in_kept h) fs w.1)

  post_kept : (s : SimpleTree) → IsPost s → IsPost (simple_by g s)
  post_kept (Alone e) w = simple_kept true (Alone e) w
  post_kept (Step e op p) w = simple_kept true (Step e op p) w
  post_kept (Update e op p f) w = simple_kept true (Update e op p f) w
  post_kept (Assign es p fs) w = simple_kept true (Assign es p fs) w
  post_kept (Define es p fs) w = w

  init_kept : (i : InitTree) → IsInit i → IsInit (init_by g i)
  init_kept i w = perhaps_kept (IsSimple true) (simple_by g) (simple_kept true) i.simple w

  for_kept : (f : ForTree) → IsFor f → IsFor (for_by g f)
  for_kept forever w = tt
  for_kept (while e) w = in_kept true e w
  for_kept (clauses init s condition t post) w = (
    perhaps_kept (IsSimple true) (simple_by g) (simple_kept true) init w.0,
    perhaps_kept (IsExprIn true) (expr_by g) (in_kept true) condition w.1,
    perhaps_kept IsPost (simple_by g) post_kept post w.2,
  )

  local_kept : (l : LocalTree) → IsLocal l → IsLocal (local_by g l)
  local_kept l w = record {
    names = list_kept Any (ident_by g) (λ x is. tt) l.names w.names;
    told = λ none has. w.told (none_from_map (type_by g) l.type_use none) (none_from_map (values_by g (expr_by g)) l.values has);
    values = perhaps_kept (λ v. IsList (IsExprIn false) v.1) (values_by g (expr_by g))
        (λ v is. list_kept (IsExprIn false) (expr_by g) (in_kept false) v.1 is) l.values w.values;
  }

  some_statements : (ss : StatementTrees) → ss ≢ no_statement → statements_by g ss ≢ no_statement
  unfolding statements_by
  some_statements no_statement w = w
  some_statements (statement s semicolon rest) w = λ same. cc

  mutual
    unfolding IsStatement IsBlock AreStatements IsIf IsElse statement_by block_by statements_by if_by else_by

    statement_kept : (s : StatementTree) → IsStatement s → IsStatement (statement_by g s)
    statement_kept Empty w = tt
    statement_kept (Var p v) w = group_kept IsLocal (local_by g) local_kept v w
    statement_kept (Simple s) w = simple_kept false s w
    statement_kept (Inner b) w = block_kept b w
    statement_kept (If i) w = if_kept i w
    statement_kept (For p f b) w = (for_kept f w.0, block_kept b w.1)
    statement_kept (Break p) w = tt
    statement_kept (Continue p) w = tt
    statement_kept (Return p es) w = ⊎_elim
        (λ (none : es ≡ []). inl (ap (items_by g (expr_by g)) none))
        (λ (some : IsList (IsExprIn false) es). inr (list_kept (IsExprIn false) (expr_by g) (in_kept false) es some)) w

    block_kept : (b : BlockTree) → IsBlock b → IsBlock (block_by g b)
    block_kept (block o ss c) w = (some_statements ss w.0, statements_kept ss w.1)

    statements_kept : (ss : StatementTrees) → AreStatements ss → AreStatements (statements_by g ss)
    statements_kept no_statement w = tt
    statements_kept (statement s None rest) w = (statement_kept s w.0, ap (statements_by g) w.1)
    statements_kept (statement s (Some p) rest) w = (statement_kept s w.0, some_statements rest w.1, statements_kept rest w.2)

    if_kept : (i : IfTree) → IsIf i → IsIf (if_by g i)
    if_kept (if_tree p init e b rest) w =
        (perhaps_kept IsInit (init_by g) init_kept init w.0, in_kept true e w.1, block_kept b w.2, else_kept rest w.3)

    else_kept : (e : ElseTree) → IsElse e → IsElse (else_by g e)
    else_kept no_else w = tt
    else_kept (else_if p i) w = if_kept i w
    else_kept (else_block p b) w = block_kept b w

  global_kept : (v : GlobalTree) → IsGlobal v → IsGlobal (global_by g v)
  global_kept v w = record {
    names = list_kept Any g (λ x is. tt) v.names w.names;
    values = perhaps_kept (λ u. IsList Any u.1) (values_by g (basic_by g)) (λ u is. list_kept Any (basic_by g) (λ x is. tt) u.1 is) v.values w.values;
  }

  result_kept : (r : ResultTree) → IsResult r → IsResult (result_by g r)
  result_kept no_result w = tt
  result_kept (one_result t) w = tt
  result_kept (results o ts c) w = open_kept Any (type_by g) (λ x is. tt) ts w

  params_kept : (ps : List (Item ParamTree)) → IsOpenList IsParam ps → IsOpenList IsParam (items_by g (param_by g) ps)
  params_kept ps w = open_kept IsParam (param_by g) (λ p is. list_kept Any (ident_by g) (λ x is. tt) p.names is) ps w

  method_kept : (m : MethodTree) → IsMethodSpec m → IsMethodSpec (method_by g m)
  method_kept m w = record { params = params_kept m.params w.params; result = result_kept m.result w.result }

  body_kept : (b : BodyTree) → IsBody b → IsBody (body_by g b)
  body_kept (Other t) w = tt
  body_kept (Struct s o fs c) w = open_kept IsField (field_by g) (λ f is. list_kept Any g (λ x is. tt) f.names is) fs w
  body_kept (Interface i o ms c) w = open_kept IsMethodSpec (method_by g) method_kept ms w

  func_kept : (f : FuncTree) → IsFunc f → IsFunc (func_by g f)
  func_kept f w = record {
    params = params_kept f.params w.params;
    result = result_kept f.result w.result;
    body = block_kept f.body w.body;
  }

  decl_kept : (d : DeclTree) → IsDecl d → IsDecl (decl_by g d)
  decl_kept (VarDecl k v s) w = group_kept IsGlobal (global_by g) global_kept v w
  decl_kept (TypeDecl k v s) w = group_kept IsTypeSpec (type_spec_by g) (λ t is. body_kept t.body is) v w
  decl_kept (FuncDecl k f s) w = func_kept f w

  pub file_kept : (f : FileTree) → IsFile f → IsFile (renumbered g f)
  file_kept f w = record {
    imports = all_kept IsImports (imports_by g) (λ i is. group_kept Any (import_by g) (λ x is. tt) i.imports is) f.imports w.imports;
    decls = all_kept IsDecl (decl_by g) decl_kept f.decls w.decls;
  }
