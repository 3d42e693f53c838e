-- The values that the rules of the grammar build: of each part, from the tokens and parts of its rule.
use Rattle.std.proofs.Common.{ℕ, true, false, List, [], ◌∷◌, Option, Some, None}
use Rattle.go_ast.specs.declared.syntax.Kind.{Kind}
use Rattle.go_ast.specs.declared.syntax.Kind.TheVariants as kind
use Rattle.go_ast.specs.declared.syntax.Token.{Token}
use Rattle.go_ast.specs.declared.syntax.BinaryOp.{BinaryOp}
use Rattle.go_ast.specs.declared.syntax.BinaryOp.TheVariants as binary
use Rattle.go_ast.specs.declared.syntax.PrefixOp.{PrefixOp}
use Rattle.go_ast.specs.declared.syntax.PrefixOp.TheVariants as prefix
use Rattle.go_ast.specs.declared.syntax.StepOp.{StepOp}
use Rattle.go_ast.specs.declared.syntax.StepOp.TheVariants as step
use Rattle.go_ast.specs.declared.syntax.UpdateOp.{UpdateOp}
use Rattle.go_ast.specs.declared.syntax.UpdateOp.TheVariants as update
use Rattle.go_ast.specs.Grammar.{GrammarSymbol, One, Opening, Close, A, Part, Rule, rules, Item as Sort, ImportItem, GlobalItem, TypeItem, LocalItem, File}
use Rattle.go_ast.specs.Grammar.{Imports, Tops, GroupOf, Items, MoreItems, Single, MoreNames, GlobalValues, MoreLiterals, TypeBody, Fields, MoreFields}
use Rattle.go_ast.specs.Grammar.{Methods, MoreMethods}
use Rattle.go_ast.specs.Grammar.{MoreIdents, LocalRest, LocalValues, FuncHead, ReceiverStar, ReceiverEnd, Signature, Params, MoreParams, Result, Types}
use Rattle.go_ast.specs.Grammar.{MoreTypes, Block, MoreStatements, Statement, ReturnValues, Expressions, MoreExpressions, SimpleRest, IfHead, IfAfter}
use Rattle.go_ast.specs.Grammar.{IfBody, ElsePart, ElseBody, ForHead, ForAfter, ForRest, ForCondition, ForPost, TypeUse, AfterTypeName, Expression}
use Rattle.go_ast.specs.Grammar.{Binaries, Unary, Operand, AfterName, AfterSelector, Links, Arguments, MoreArguments, Address as AddressPart}
use Rattle.go_ast.specs.Grammar.{AfterLiteralName, Elements, ElementList, MoreElements, Element, AfterKey}
use Rattle.go_ast.specs.Tree.{Item, Group, single, several, IdentTree, Named, Underscore, BasicTree, Integer, String, TypeTree, Local, Imported, Pointer}
use Rattle.go_ast.specs.Tree.{Slice, ExprTree, Number, Text, Name, Blank, Composite, Paren, Prefix, Address, Chain, OperandTrees, no_operand, operand}
use Rattle.go_ast.specs.Tree.{LinkTrees, no_link, selector, index, call, ArgumentTrees, no_argument, argument, LiteralTree, literal, ElementTrees}
use Rattle.go_ast.specs.Tree.{no_element, element, SimpleTree, Alone, Step, Update, Assign, Define, LocalTree, ForTree, forever, while, clauses}
use Rattle.go_ast.specs.Tree.{StatementTree, Empty, Var, Simple, Inner, If, For, Break, Continue, Return, BlockTree, block, StatementTrees, no_statement}
use Rattle.go_ast.specs.Tree.{statement, IfTree, if_tree, ElseTree, no_else, else_if, else_block, ImportTree, GlobalTree, FieldTree, BodyTree, Other}
use Rattle.go_ast.specs.Tree.{Struct, Interface, MethodTree, TypeSpecTree, ReceiverTree, ParamTree}
use Rattle.go_ast.specs.Tree.{ResultTree, no_result, one_result, results, FuncTree, ImportsTree, DeclTree}
use Rattle.go_ast.specs.Tree.{VarDecl, TypeDecl, FuncDecl, FileTree}
use Rattle.go_parser.proofs.Tables.{symbols_of}
use Rattle.go_parser.proofs.Precedence.{grouped}

-- the value of a token, by its kind

abbrev pub binary_op : Kind → BinaryOp
binary_op kind.Star = binary.Multiply
binary_op kind.Slash = binary.Divide
binary_op kind.Percent = binary.Remainder
binary_op kind.Plus = binary.Add
binary_op kind.Minus = binary.Subtract
binary_op kind.Equal = binary.Equal
binary_op kind.NotEqual = binary.NotEqual
binary_op kind.Less = binary.Less
binary_op kind.LessEqual = binary.LessEqual
binary_op kind.Greater = binary.Greater
binary_op kind.GreaterEqual = binary.GreaterEqual
binary_op kind.AndAnd = binary.And
binary_op _ = binary.Or

abbrev pub prefix_op : Kind → PrefixOp
prefix_op kind.Plus = prefix.Plus
prefix_op kind.Minus = prefix.Minus
prefix_op kind.Not = prefix.Not
prefix_op _ = prefix.Deref

abbrev pub step_op : Kind → StepOp
step_op kind.Increment = step.Increment
step_op _ = step.Decrement

abbrev pub update_op : Kind → UpdateOp
update_op kind.AddAssign = update.Add
update_op kind.SubAssign = update.Subtract
update_op kind.MulAssign = update.Multiply
update_op kind.DivAssign = update.Divide
update_op _ = update.Remainder

abbrev leaf_at : Kind → ℕ → ExprTree
leaf_at kind.Blank p = Blank p
leaf_at kind.Number p = Number p
leaf_at _ p = Text p

abbrev pub leaf : Token → ExprTree
leaf t = leaf_at t.kind t.place

abbrev ident_at : Kind → ℕ → IdentTree
ident_at kind.Name p = Named p
ident_at _ p = Underscore p

abbrev pub ident : Token → IdentTree
ident t = ident_at t.kind t.place

abbrev basic_at : Kind → ℕ → BasicTree
basic_at kind.Number p = Integer p
basic_at _ p = String p

abbrev pub basic : Token → BasicTree
basic t = basic_at t.kind t.place

abbrev set_at : Kind → ℕ → List (Item ExprTree) → List (Item ExprTree) → SimpleTree
set_at kind.Assign p es fs = Assign es p fs
set_at _ p es fs = Define es p fs

abbrev pub set_by : Token → List (Item ExprTree) → List (Item ExprTree) → SimpleTree
set_by t es fs = set_at t.kind t.place es fs

-- an item with its separator, and the last item

abbrev pub parted : {X : Type 0} → X → Token → Item X
parted x t = record { value = x; separator = Some t.place }

abbrev pub last_item : {X : Type 0} → X → Item X
last_item x = record { value = x; separator = None }

abbrev pub chain : ExprTree → LinkTrees → ExprTree
chain e no_link = e
chain e (selector d n ls) = Chain e (selector d n ls)
chain e (index o f c ls) = Chain e (index o f c ls)
chain e (call o xs c ls) = Chain e (call o xs c ls)

-- the values

abbrev pub ItemOf : Sort → Type 0
ItemOf ImportItem = ImportTree
ItemOf GlobalItem = GlobalTree
ItemOf TypeItem = TypeSpecTree
ItemOf LocalItem = LocalTree

-- a list up to its closing bracket, and that bracket
abbrev pub Closed : Type 0 → Type 0
Closed X = List (Item X) × ℕ

abbrev pub Value : Part → Type 0
Value File = FileTree
Value Imports = List ImportsTree × List DeclTree
Value Tops = List DeclTree
Value (GroupOf i) = Group (ItemOf i)
Value (Items i) = Closed (ItemOf i)
Value (MoreItems i) = ItemOf i → Closed (ItemOf i)
Value (Single i) = ItemOf i
Value MoreNames = ℕ → List (Item ℕ)
Value GlobalValues = Option (ℕ × List (Item BasicTree))
Value MoreLiterals = BasicTree → List (Item BasicTree)
Value TypeBody = BodyTree
Value Fields = Closed FieldTree
Value MoreFields = FieldTree → Closed FieldTree
Value Methods = Closed MethodTree
Value MoreMethods = MethodTree → Closed MethodTree
Value MoreIdents = IdentTree → List (Item IdentTree)
Value LocalRest = Option TypeTree × Option (ℕ × List (Item ExprTree))
Value LocalValues = Option (ℕ × List (Item ExprTree))
Value FuncHead = FuncTree
Value ReceiverStar = Option ℕ
Value ReceiverEnd = Option ℕ × ℕ
Value Signature = Option ReceiverTree → ℕ → FuncTree
Value Params = Closed ParamTree
Value MoreParams = ParamTree → Closed ParamTree
Value Result = ResultTree
Value Types = Closed TypeTree
Value MoreTypes = TypeTree → Closed TypeTree
Value Block = BlockTree
Value MoreStatements = StatementTree → StatementTrees
Value Statement = StatementTree
Value ReturnValues = List (Item ExprTree)
Value (Expressions h) = List (Item ExprTree)
Value (MoreExpressions h) = ExprTree → List (Item ExprTree)
Value (SimpleRest s) = ExprTree → SimpleTree
Value IfHead = ℕ → IfTree
Value IfAfter = ExprTree → ℕ → IfTree
Value IfBody = BlockTree × ElseTree
Value ElsePart = ElseTree
Value ElseBody = ℕ → ElseTree
Value ForHead = ForTree × BlockTree
Value ForAfter = ExprTree → ForTree × BlockTree
Value ForRest = Option SimpleTree → ForTree × BlockTree
Value ForCondition = Option ExprTree
Value ForPost = Option SimpleTree
Value TypeUse = TypeTree
Value AfterTypeName = ℕ → TypeTree
Value (Expression h) = ExprTree
Value (Binaries h) = OperandTrees
Value (Unary h) = ExprTree
Value (Operand h) = ExprTree
Value (AfterName h) = ℕ → ExprTree
Value (AfterSelector h) = ℕ → ℕ → ℕ → ExprTree
Value (Links h) = LinkTrees
Value Arguments = ArgumentTrees × ℕ
Value MoreArguments = ExprTree → ArgumentTrees × ℕ
Value (AddressPart h) = LiteralTree
Value AfterLiteralName = ℕ → LiteralTree
Value Elements = TypeTree → LiteralTree
Value ElementList = ElementTrees × ℕ
Value MoreElements = Option (ℕ × ℕ) → ExprTree → ElementTrees × ℕ
Value Element = Option (ℕ × ℕ) × ExprTree
Value AfterKey = ℕ → Option (ℕ × ℕ) × ExprTree

-- a function of a rule's tokens and parts
abbrev pub Takes : List GrammarSymbol → Type 0 → Type 0
Takes [] V = V
Takes (One c ∷ ss) V = Token → Takes ss V
Takes (Opening c ∷ ss) V = Token → Takes ss V
Takes (Close ∷ ss) V = Takes ss V
Takes (A p ∷ ss) V = Value p → Takes ss V

-- a function for each rule
abbrev pub Makers : Type 0 → List Rule → Type 0
Makers V [] = Unit {0}
Makers V (r ∷ rs) = Takes (symbols_of r) V × Makers V rs

abbrev pub makers : (p : Part) → Makers (Value p) (rules p)
makers File = (λ k n s more. record { keyword = k.place; name = n.place; semicolon = s.place; imports = more.0; decls = more.1 }, tt)
makers Imports = (
  λ k g s more. (record { keyword = k.place; imports = g; semicolon = s.place } ∷ more.0, more.1),
  (λ tops. ([], tops), tt),
)
makers Tops = (
  λ k g s more. VarDecl k.place g s.place ∷ more,
  (
    λ k g s more. TypeDecl k.place g s.place ∷ more,
    (
      λ k f s more. FuncDecl k.place f s.place ∷ more,
      ([], tt),
    ),
  ),
)
makers (GroupOf i) = (λ o xs. several o.place xs.0 xs.1, (λ x. single x, tt))
makers (Items i) = (λ c. ([], c.place), (λ x more. more x, tt))
makers (MoreItems i) = (λ s more x. (parted x s ∷ more.0, more.1), (λ c x. (last_item x ∷ [], c.place), tt))
makers (Single ImportItem) = (λ n path. record { name = Some n.place; path = path.place }, (λ path. record { name = None; path = path.place }, tt))
makers (Single GlobalItem) = (λ n more t vs. record { names = more n.place; type_use = t; values = vs }, tt)
makers (Single TypeItem) = (λ n b. record { name = n.place; body = b }, tt)
makers (Single LocalItem) = (λ n more rest. record { names = more (ident n); type_use = rest.0; values = rest.1 }, tt)
makers MoreNames = (λ s n more x. parted x s ∷ more n.place, (λ x. last_item x ∷ [], tt))
makers GlobalValues = (λ s v more. Some (s.place, more (basic v)), (None, tt))
makers MoreLiterals = (λ s v more x. parted x s ∷ more (basic v), (λ x. last_item x ∷ [], tt))
makers TypeBody = (λ s o fs. Struct s.place o.place fs.0 fs.1, (λ i o ms. Interface i.place o.place ms.0 ms.1, (λ t. Other t, tt)))
makers Fields = (λ c. ([], c.place), (λ n more t rest. rest (record { names = more n.place; type_use = t }), tt))
makers MoreFields = (λ s more x. (parted x s ∷ more.0, more.1), (λ c x. (last_item x ∷ [], c.place), tt))
makers Methods = (
  λ c. ([], c.place),
  (λ n o ps r rest. rest (record { name = n.place; lparen = o.place; params = ps.0; rparen = ps.1; result = r }), tt),
)
makers MoreMethods = (λ s more x. (parted x s ∷ more.0, more.1), (λ c x. (last_item x ∷ [], c.place), tt))
makers MoreIdents = (λ s n more x. parted x s ∷ more (ident n), (λ x. last_item x ∷ [], tt))
makers LocalRest = (λ s es. (None, Some (s.place, es)), (λ t vs. (Some t, vs), tt))
makers LocalValues = (λ s es. Some (s.place, es), (None, tt))
makers FuncHead = (
  λ o x star t end n sig. sig (Some (record { lparen = o.place; name = ident x; star = star; type_name = t.place; comma = end.0; rparen = end.1 })) n.place,
  (λ n sig. sig None n.place, tt),
)
makers ReceiverStar = (λ s. Some s.place, (None, tt))
makers ReceiverEnd = (λ s c. (Some s.place, c.place), (λ c. (None, c.place), tt))
makers Signature = (
  λ o ps r b receiver n. record { receiver = receiver; name = n; lparen = o.place; params = ps.0; rparen = ps.1; result = r; body = b },
  tt,
)
makers Params = (λ c. ([], c.place), (λ n more t rest. rest (record { names = more (ident n); type_use = t }), tt))
makers MoreParams = (λ s more x. (parted x s ∷ more.0, more.1), (λ c x. (last_item x ∷ [], c.place), tt))
makers Result = (λ o ts. results o.place ts.0 ts.1, (λ t. one_result t, (no_result, tt)))
makers Types = (λ c. ([], c.place), (λ t more. more t, tt))
makers MoreTypes = (λ s more x. (parted x s ∷ more.0, more.1), (λ c x. (last_item x ∷ [], c.place), tt))
makers Block = (λ o s more c. block o.place (more s) c.place, tt)
makers MoreStatements = (λ semi s more x. statement x (Some semi.place) (more s), (λ x. statement x None no_statement, tt))
makers Statement = (
  λ k g. Var k.place g,
  (
    λ b. Inner b,
    (
      λ k head. If (head k.place),
      (
        λ k f. For k.place f.0 f.1,
        (
          λ k. Break k.place,
          (
            λ k. Continue k.place,
            (
              λ k es. Return k.place es,
              (
                λ e rest. Simple (rest e),
                (Empty, tt),
              ),
            ),
          ),
        ),
      ),
    ),
  ),
)
makers ReturnValues = (λ es. es, ([], tt))
makers (Expressions h) = (λ e more. more e, tt)
makers (MoreExpressions h) = (λ s e more x. parted x s ∷ more e, (λ x. last_item x ∷ [], tt))
makers (SimpleRest s) = (
  λ t e. Step e (step_op t.kind) t.place,
  (
    λ t f e. Update e (update_op t.kind) t.place f,
    (
      λ t fs e. set_by t (last_item e ∷ []) fs,
      (
        λ comma es t fs e. set_by t (parted e comma ∷ es) fs,
        (λ e. Alone e, tt),
      ),
    ),
  ),
)
makers IfHead = (
  λ s e body p. if_tree p (Some (record { simple = None; semicolon = s.place })) e body.0 body.1,
  (λ e after. after e, tt),
)
makers IfAfter = (
  λ body e p. if_tree p None e body.0 body.1,
  (λ rest s condition body e p. if_tree p (Some (record { simple = Some (rest e); semicolon = s.place })) condition body.0 body.1, tt),
)
makers IfBody = (λ b rest. (b, rest), tt)
makers ElsePart = (λ k body. body k.place, (no_else, tt))
makers ElseBody = (λ k head p. else_if p (head k.place), (λ b p. else_block p b, tt))
makers ForHead = (λ b. (forever, b), (λ rest. rest None, (λ e after. after e, tt)))
makers ForAfter = (λ b e. (while e, b), (λ simple rest e. rest (Some (simple e)), tt))
makers ForRest = (λ s condition t post b init. (clauses init s.place condition t.place post, b), tt)
makers ForCondition = (λ e. Some e, (None, tt))
makers ForPost = (λ e rest. Some (rest e), (None, tt))
makers TypeUse = (λ s t. Pointer s.place t, (λ o c t. Slice o.place c.place t, (λ n after. after n.place, tt)))
makers AfterTypeName = (λ d n p. Imported p d.place n.place, (λ n. Local n, tt))
makers (Expression h) = (λ u os. grouped u os, tt)
makers (Binaries h) = (λ t u os. operand (binary_op t.kind) t.place u os, (no_operand, tt))
makers (Unary h) = (λ n after. after n.place, (λ u. u, tt))
makers (Operand h) = (
  λ t u. Prefix (prefix_op t.kind) t.place u,
  (
    λ t l. Address t.place l,
    (
      λ t ls. chain (leaf t) ls,
      (
        λ o e c ls. chain (Paren o.place e c.place) ls,
        (λ o c t es ls. chain (Composite (es (Slice o.place c.place t))) ls, tt),
      ),
    ),
  ),
)
makers (AfterName true) = (
  λ d n after x. after x d.place n.place,
  (
    λ o e c ls x. Chain (Name x) (index o.place e c.place ls),
    (
      λ o xs ls x. Chain (Name x) (call o.place xs.0 xs.1 ls),
      (λ x. Name x, tt),
    ),
  ),
)
makers (AfterName false) = (
  λ es ls x. chain (Composite (es (Local x))) ls,
  (
    λ d n after x. after x d.place n.place,
    (
      λ o e c ls x. Chain (Name x) (index o.place e c.place ls),
      (
        λ o xs ls x. Chain (Name x) (call o.place xs.0 xs.1 ls),
        (λ x. Name x, tt),
      ),
    ),
  ),
)
makers (AfterSelector true) = (
  λ d n ls x e m. Chain (Name x) (selector e m (selector d.place n.place ls)),
  (
    λ o f c ls x e m. Chain (Name x) (selector e m (index o.place f c.place ls)),
    (
      λ o xs ls x e m. Chain (Name x) (selector e m (call o.place xs.0 xs.1 ls)),
      (λ x e m. Chain (Name x) (selector e m no_link), tt),
    ),
  ),
)
makers (AfterSelector false) = (
  λ es ls x e m. chain (Composite (es (Imported x e m))) ls,
  (
    λ d n ls x e m. Chain (Name x) (selector e m (selector d.place n.place ls)),
    (
      λ o f c ls x e m. Chain (Name x) (selector e m (index o.place f c.place ls)),
      (
        λ o xs ls x e m. Chain (Name x) (selector e m (call o.place xs.0 xs.1 ls)),
        (λ x e m. Chain (Name x) (selector e m no_link), tt),
      ),
    ),
  ),
)
makers (Links h) = (
  λ d n ls. selector d.place n.place ls,
  (
    λ o e c ls. index o.place e c.place ls,
    (
      λ o xs ls. call o.place xs.0 xs.1 ls,
      (no_link, tt),
    ),
  ),
)
makers Arguments = (λ c. (no_argument, c.place), (λ e more. more e, tt))
makers MoreArguments = (λ s more e. (argument e (Some s.place) more.0, more.1), (λ c e. (argument e None no_argument, c.place), tt))
makers (AddressPart true) = (λ o c t es. es (Slice o.place c.place t), tt)
makers (AddressPart false) = (λ n after. after n.place, (λ o c t es. es (Slice o.place c.place t), tt))
makers AfterLiteralName = (λ d n es x. es (Imported x d.place n.place), (λ es x. es (Local x), tt))
makers Elements = (λ o list t. literal t o.place list.0 list.1, tt)
makers ElementList = (λ c. (no_element, c.place), (λ x more. more x.0 x.1, tt))
makers MoreElements = (λ s more key e. (element key e (Some s.place) more.0, more.1), (λ c key e. (element key e None no_element, c.place), tt))
makers Element = (λ n after. after n.place, (λ u os. (None, grouped u os), tt))
makers AfterKey = (λ c e n. (Some (n, c.place), e), (λ after os n. (None, grouped (after n) os), tt))
