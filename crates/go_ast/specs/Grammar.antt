-- The grammar of the Go subset: the rules for each part of a file.
use Rattle.std.specs.Prelude.{◌||◌, ℕ, Bool, true, false, List, [], ◌∷◌, Option, Some, None, cond, nat_eq}
use Rattle.go_ast.specs.declared.syntax.Kind.{Kind}
use Rattle.go_ast.specs.declared.syntax.Kind.TheVariants.{Name, Blank, Number, Text, LeftParen, RightParen, LeftBracket, RightBracket, LeftBrace}
use Rattle.go_ast.specs.declared.syntax.Kind.TheVariants.{RightBrace, Comma, Dot, Colon, Semicolon, Plus, Minus, Star, Slash, Percent, Equal, NotEqual}
use Rattle.go_ast.specs.declared.syntax.Kind.TheVariants.{Less, LessEqual, Greater, GreaterEqual, AndAnd, OrOr, Not, Ampersand, Assign, Define, AddAssign}
use Rattle.go_ast.specs.declared.syntax.Kind.TheVariants.{SubAssign, MulAssign, DivAssign, RemAssign, Increment, Decrement, If, Else, For, Break, Continue}
use Rattle.go_ast.specs.declared.syntax.Kind.TheVariants.{Return, Var, Package, Import, Func, TypeWord, Struct, Interface, Other}
use Rattle.go_ast.specs.declared.syntax.BinaryOp.{BinaryOp}
use Rattle.go_ast.specs.declared.syntax.BinaryOp.TheVariants as binary
use Rattle.go_ast.specs.declared.syntax.PrefixOp.{PrefixOp}
use Rattle.go_ast.specs.declared.syntax.PrefixOp.TheVariants as prefix

-- a number for each kind of token
abbrev pub number_of : Kind → ℕ
number_of Name = 0
number_of Blank = 1
number_of Number = 2
number_of Text = 3
number_of LeftParen = 4
number_of RightParen = 5
number_of LeftBracket = 6
number_of RightBracket = 7
number_of LeftBrace = 8
number_of RightBrace = 9
number_of Comma = 10
number_of Dot = 11
number_of Colon = 12
number_of Semicolon = 13
number_of Plus = 14
number_of Minus = 15
number_of Star = 16
number_of Slash = 17
number_of Percent = 18
number_of Equal = 19
number_of NotEqual = 20
number_of Less = 21
number_of LessEqual = 22
number_of Greater = 23
number_of GreaterEqual = 24
number_of AndAnd = 25
number_of OrOr = 26
number_of Not = 27
number_of Ampersand = 28
number_of Assign = 29
number_of Define = 30
number_of AddAssign = 31
number_of SubAssign = 32
number_of MulAssign = 33
number_of DivAssign = 34
number_of RemAssign = 35
number_of Increment = 36
number_of Decrement = 37
number_of If = 38
number_of Else = 39
number_of For = 40
number_of Break = 41
number_of Continue = 42
number_of Return = 43
number_of Var = 44
number_of Package = 45
number_of Import = 46
number_of Func = 47
number_of TypeWord = 48
number_of Struct = 49
number_of Interface = 50
number_of Other = 51

-- the binary operator that a token of this kind is, if any
abbrev pub binary_of : Kind → Option BinaryOp
binary_of Star = Some binary.Multiply
binary_of Slash = Some binary.Divide
binary_of Percent = Some binary.Remainder
binary_of Plus = Some binary.Add
binary_of Minus = Some binary.Subtract
binary_of Equal = Some binary.Equal
binary_of NotEqual = Some binary.NotEqual
binary_of Less = Some binary.Less
binary_of LessEqual = Some binary.LessEqual
binary_of Greater = Some binary.Greater
binary_of GreaterEqual = Some binary.GreaterEqual
binary_of AndAnd = Some binary.And
binary_of OrOr = Some binary.Or
binary_of _ = None

-- the prefix operator that a token of this kind is, if any
abbrev pub prefix_of : Kind → Option PrefixOp
prefix_of Plus = Some prefix.Plus
prefix_of Minus = Some prefix.Minus
prefix_of Not = Some prefix.Not
prefix_of Star = Some prefix.Deref
prefix_of _ = None

abbrev pub is_some : {A : Type 0} → Option A → Bool
is_some None = false
is_some (Some x) = true

-- the specs that a group in parentheses may contain: of imports, package-level variables, types or local variables
pub data Item : Type 0 where
  ImportItem : Item
  GlobalItem : Item
  TypeItem : Item
  LocalItem : Item

-- The position of a simple statement: `Plain` by itself, `Head` in the header of an `if` or a `for`, `Post` as the last clause of a `for`.
-- The last clause is no `:=`.
pub data Setting : Type 0 where
  Plain : Setting
  Head : Setting
  Post : Setting

-- the statement is in the header of an `if` or a `for`
abbrev pub in_head : Setting → Bool
in_head Plain = false
in_head Head = true
in_head Post = true

-- The parts of a file, each with its own rules. The flag of an expression part is true in the header of an `if` or a `for`, outside
-- brackets. There, no composite literal begins with a name:
--
--   if x == T{} {
pub data Part : Type 0 where
  File : Part
  Imports : Part
  Tops : Part
  GroupOf : Item → Part
  Items : Item → Part
  MoreItems : Item → Part
  Single : Item → Part
  MoreNames : Part
  GlobalValues : Part
  MoreLiterals : Part
  TypeBody : Part
  Fields : Part
  MoreFields : Part
  Methods : Part
  MoreMethods : Part
  MoreIdents : Part
  LocalRest : Part
  LocalValues : Part
  FuncHead : Part
  ReceiverStar : Part
  ReceiverEnd : Part
  Signature : Part
  Params : Part
  MoreParams : Part
  Result : Part
  Types : Part
  MoreTypes : Part
  Block : Part
  MoreStatements : Part
  Statement : Part
  ReturnValues : Part
  Expressions : Bool → Part
  MoreExpressions : Bool → Part
  SimpleRest : Setting → Part
  IfHead : Part
  IfAfter : Part
  IfBody : Part
  ElsePart : Part
  ElseBody : Part
  ForHead : Part
  ForAfter : Part
  ForRest : Part
  ForCondition : Part
  ForPost : Part
  TypeUse : Part
  AfterTypeName : Part
  Expression : Bool → Part
  Binaries : Bool → Part
  Unary : Bool → Part
  Operand : Bool → Part
  AfterName : Bool → Part
  AfterSelector : Bool → Part
  Links : Bool → Part
  Arguments : Part
  MoreArguments : Part
  Address : Bool → Part
  AfterLiteralName : Part
  Elements : Part
  ElementList : Part
  MoreElements : Part
  Element : Part
  AfterKey : Part

-- the symbols of a rule: a token of a class, a token of a class that opens a level of nesting, the end of that level, a part
pub data GrammarSymbol : Type 0 where
  One : (Kind → Bool) → GrammarSymbol
  Opening : (Kind → Bool) → GrammarSymbol
  Close : GrammarSymbol
  A : Part → GrammarSymbol

-- j is the kind k
abbrev pub is : Kind → Kind → Bool
is k j = nat_eq (number_of k) (number_of j)

abbrev pub is_binary : Kind → Bool
is_binary k = is_some (binary_of k)

abbrev pub is_prefix : Kind → Bool
is_prefix k = is_some (prefix_of k)

-- a token of this kind is an operand by itself, and no name
abbrev pub is_leaf : Kind → Bool
is_leaf Blank = true
is_leaf Number = true
is_leaf Text = true
is_leaf _ = false

-- the kind k is in the list
abbrev pub one_of : List Kind → Kind → Bool
one_of [] k = false
one_of (j ∷ js) k = is j k || one_of js k

abbrev pub is_ident : Kind → Bool
is_ident = one_of (Name ∷ Blank ∷ [])

abbrev pub is_literal : Kind → Bool
is_literal = one_of (Number ∷ Text ∷ [])

abbrev pub is_step : Kind → Bool
is_step = one_of (Increment ∷ Decrement ∷ [])

abbrev pub is_update : Kind → Bool
is_update = one_of (AddAssign ∷ SubAssign ∷ MulAssign ∷ DivAssign ∷ RemAssign ∷ [])

-- a token of this kind may assign to a list of expressions, at this position of a statement
abbrev pub may_set : Setting → Kind → Bool
may_set Plain = one_of (Assign ∷ Define ∷ [])
may_set Head = one_of (Assign ∷ Define ∷ [])
may_set Post = is Assign

-- a type may begin with a token of this kind
abbrev pub begins_type : Kind → Bool
begins_type = one_of (Name ∷ Star ∷ LeftBracket ∷ [])

-- an operand that is no name may begin with a token of this kind
abbrev pub begins_operand : Kind → Bool
begins_operand k = is_prefix k || (is_leaf k || one_of (Ampersand ∷ LeftParen ∷ LeftBracket ∷ []) k)

-- an expression may begin with a token of this kind
abbrev pub begins_expression : Kind → Bool
begins_expression k = is Name k || begins_operand k

-- the kind k passes the test c, and h is false
abbrev pub unless : Bool → (Kind → Bool) → Kind → Bool
unless h c k = cond (c k) (cond h false true) false

-- A rule of a part. The first rule whose test the next token passes is selected; `Otherwise` has no test.
pub data Rule : Type 0 where
  Begins : (Kind → Bool) → List GrammarSymbol → Rule
  Otherwise : List GrammarSymbol → Rule

-- the rule of a selector, followed by a part
abbrev pub selector : Part → Rule
selector then = Begins (is Dot) (One (is Dot) ∷ One (is Name) ∷ A then ∷ [])

-- the rule of an index, followed by a part
abbrev pub index : Part → Rule
index then = Begins (is LeftBracket) (Opening (is LeftBracket) ∷ A (Expression false) ∷ One (is RightBracket) ∷ Close ∷ A then ∷ [])

-- the rule of a call, followed by a part
abbrev pub call : Part → Rule
call then = Begins (is LeftParen) (Opening (is LeftParen) ∷ A Arguments ∷ Close ∷ A then ∷ [])

-- the other rules, preceded outside a header by that of a composite literal whose type's name has been read
abbrev pub or_literal : Bool → List Rule → List Rule
or_literal h others = cond h others (Begins (is LeftBrace) (A Elements ∷ A (Links h) ∷ []) ∷ others)

-- the symbols of a slice type, followed by others
abbrev pub slice_type : List GrammarSymbol → List GrammarSymbol
slice_type then = Opening (is LeftBracket) ∷ One (is RightBracket) ∷ A TypeUse ∷ Close ∷ then

-- the empty rule
abbrev pub nothing : Rule
nothing = Otherwise []

-- the rules of each part
abbrev pub rules : Part → List Rule
rules File = Otherwise (One (is Package) ∷ One (is Name) ∷ One (is Semicolon) ∷ A Imports ∷ []) ∷ []
rules Imports =
    Begins (is Import) (One (is Import) ∷ A (GroupOf ImportItem) ∷ One (is Semicolon) ∷ A Imports ∷ []) ∷
    Otherwise (A Tops ∷ []) ∷ []
rules Tops =
    Begins (is Var) (One (is Var) ∷ A (GroupOf GlobalItem) ∷ One (is Semicolon) ∷ A Tops ∷ []) ∷
    Begins (is TypeWord) (One (is TypeWord) ∷ A (GroupOf TypeItem) ∷ One (is Semicolon) ∷ A Tops ∷ []) ∷
    Begins (is Func) (One (is Func) ∷ A FuncHead ∷ One (is Semicolon) ∷ A Tops ∷ []) ∷
    nothing ∷ []
rules (GroupOf i) =
    Begins (is LeftParen) (Opening (is LeftParen) ∷ A (Items i) ∷ Close ∷ []) ∷
    Otherwise (A (Single i) ∷ []) ∷ []
rules (Items i) =
    Begins (is RightParen) (One (is RightParen) ∷ []) ∷
    Otherwise (A (Single i) ∷ A (MoreItems i) ∷ []) ∷ []
rules (MoreItems i) =
    Begins (is Semicolon) (One (is Semicolon) ∷ A (Items i) ∷ []) ∷
    Otherwise (One (is RightParen) ∷ []) ∷ []
rules (Single ImportItem) =
    Begins (is Name) (One (is Name) ∷ One (is Text) ∷ []) ∷
    Otherwise (One (is Text) ∷ []) ∷ []
rules (Single GlobalItem) = Otherwise (One (is Name) ∷ A MoreNames ∷ A TypeUse ∷ A GlobalValues ∷ []) ∷ []
rules (Single TypeItem) = Otherwise (One (is Name) ∷ A TypeBody ∷ []) ∷ []
rules (Single LocalItem) = Otherwise (One is_ident ∷ A MoreIdents ∷ A LocalRest ∷ []) ∷ []
rules MoreNames = Begins (is Comma) (One (is Comma) ∷ One (is Name) ∷ A MoreNames ∷ []) ∷ nothing ∷ []
rules GlobalValues = Begins (is Assign) (One (is Assign) ∷ One is_literal ∷ A MoreLiterals ∷ []) ∷ nothing ∷ []
rules MoreLiterals = Begins (is Comma) (One (is Comma) ∷ One is_literal ∷ A MoreLiterals ∷ []) ∷ nothing ∷ []
rules TypeBody =
    Begins (is Struct) (One (is Struct) ∷ Opening (is LeftBrace) ∷ A Fields ∷ Close ∷ []) ∷
    Begins (is Interface) (One (is Interface) ∷ Opening (is LeftBrace) ∷ A Methods ∷ Close ∷ []) ∷
    Otherwise (A TypeUse ∷ []) ∷ []
rules Fields =
    Begins (is RightBrace) (One (is RightBrace) ∷ []) ∷
    Otherwise (One (is Name) ∷ A MoreNames ∷ A TypeUse ∷ A MoreFields ∷ []) ∷ []
rules MoreFields =
    Begins (is Semicolon) (One (is Semicolon) ∷ A Fields ∷ []) ∷
    Otherwise (One (is RightBrace) ∷ []) ∷ []
rules Methods =
    Begins (is RightBrace) (One (is RightBrace) ∷ []) ∷
    Otherwise (One (is Name) ∷ Opening (is LeftParen) ∷ A Params ∷ Close ∷ A Result ∷ A MoreMethods ∷ []) ∷ []
rules MoreMethods =
    Begins (is Semicolon) (One (is Semicolon) ∷ A Methods ∷ []) ∷
    Otherwise (One (is RightBrace) ∷ []) ∷ []
rules MoreIdents = Begins (is Comma) (One (is Comma) ∷ One is_ident ∷ A MoreIdents ∷ []) ∷ nothing ∷ []
rules LocalRest =
    Begins (is Assign) (One (is Assign) ∷ A (Expressions false) ∷ []) ∷
    Otherwise (A TypeUse ∷ A LocalValues ∷ []) ∷ []
rules LocalValues = Begins (is Assign) (One (is Assign) ∷ A (Expressions false) ∷ []) ∷ nothing ∷ []
rules FuncHead =
    Begins (is LeftParen) (Opening (is LeftParen) ∷ One is_ident ∷ A ReceiverStar ∷ One (is Name) ∷ A ReceiverEnd ∷ Close ∷ One (is Name) ∷ A Signature ∷ []) ∷
    Otherwise (One (is Name) ∷ A Signature ∷ []) ∷ []
rules ReceiverStar = Begins (is Star) (One (is Star) ∷ []) ∷ nothing ∷ []
rules ReceiverEnd =
    Begins (is Comma) (One (is Comma) ∷ One (is RightParen) ∷ []) ∷
    Otherwise (One (is RightParen) ∷ []) ∷ []
rules Signature = Otherwise (Opening (is LeftParen) ∷ A Params ∷ Close ∷ A Result ∷ A Block ∷ []) ∷ []
rules Params =
    Begins (is RightParen) (One (is RightParen) ∷ []) ∷
    Otherwise (One is_ident ∷ A MoreIdents ∷ A TypeUse ∷ A MoreParams ∷ []) ∷ []
rules MoreParams =
    Begins (is Comma) (One (is Comma) ∷ A Params ∷ []) ∷
    Otherwise (One (is RightParen) ∷ []) ∷ []
rules Result =
    Begins (is LeftParen) (Opening (is LeftParen) ∷ A Types ∷ Close ∷ []) ∷
    Begins begins_type (A TypeUse ∷ []) ∷
    nothing ∷ []
rules Types =
    Begins (is RightParen) (One (is RightParen) ∷ []) ∷
    Otherwise (A TypeUse ∷ A MoreTypes ∷ []) ∷ []
rules MoreTypes =
    Begins (is Comma) (One (is Comma) ∷ A Types ∷ []) ∷
    Otherwise (One (is RightParen) ∷ []) ∷ []
rules Block = Otherwise (Opening (is LeftBrace) ∷ A Statement ∷ A MoreStatements ∷ One (is RightBrace) ∷ Close ∷ []) ∷ []
rules MoreStatements = Begins (is Semicolon) (One (is Semicolon) ∷ A Statement ∷ A MoreStatements ∷ []) ∷ nothing ∷ []
rules Statement =
    Begins (is Var) (One (is Var) ∷ A (GroupOf LocalItem) ∷ []) ∷
    Begins (is LeftBrace) (A Block ∷ []) ∷
    Begins (is If) (One (is If) ∷ A IfHead ∷ []) ∷
    Begins (is For) (One (is For) ∷ A ForHead ∷ []) ∷
    Begins (is Break) (One (is Break) ∷ []) ∷
    Begins (is Continue) (One (is Continue) ∷ []) ∷
    Begins (is Return) (One (is Return) ∷ A ReturnValues ∷ []) ∷
    Begins begins_expression (A (Expression false) ∷ A (SimpleRest Plain) ∷ []) ∷
    nothing ∷ []
rules ReturnValues = Begins begins_expression (A (Expressions false) ∷ []) ∷ nothing ∷ []
rules (Expressions h) = Otherwise (A (Expression h) ∷ A (MoreExpressions h) ∷ []) ∷ []
rules (MoreExpressions h) = Begins (is Comma) (One (is Comma) ∷ A (Expression h) ∷ A (MoreExpressions h) ∷ []) ∷ nothing ∷ []
rules (SimpleRest s) =
    Begins is_step (One is_step ∷ []) ∷
    Begins is_update (One is_update ∷ A (Expression (in_head s)) ∷ []) ∷
    Begins (may_set s) (One (may_set s) ∷ A (Expressions (in_head s)) ∷ []) ∷
    Begins (is Comma) (One (is Comma) ∷ A (Expressions (in_head s)) ∷ One (may_set s) ∷ A (Expressions (in_head s)) ∷ []) ∷
    nothing ∷ []
rules IfHead =
    Begins (is Semicolon) (One (is Semicolon) ∷ A (Expression true) ∷ A IfBody ∷ []) ∷
    Otherwise (A (Expression true) ∷ A IfAfter ∷ []) ∷ []
rules IfAfter =
    Begins (is LeftBrace) (A IfBody ∷ []) ∷
    Otherwise (A (SimpleRest Head) ∷ One (is Semicolon) ∷ A (Expression true) ∷ A IfBody ∷ []) ∷ []
rules IfBody = Otherwise (A Block ∷ A ElsePart ∷ []) ∷ []
rules ElsePart = Begins (is Else) (One (is Else) ∷ A ElseBody ∷ []) ∷ nothing ∷ []
rules ElseBody =
    Begins (is If) (Opening (is If) ∷ A IfHead ∷ Close ∷ []) ∷
    Otherwise (A Block ∷ []) ∷ []
rules ForHead =
    Begins (is LeftBrace) (A Block ∷ []) ∷
    Begins (is Semicolon) (A ForRest ∷ []) ∷
    Otherwise (A (Expression true) ∷ A ForAfter ∷ []) ∷ []
rules ForAfter =
    Begins (is LeftBrace) (A Block ∷ []) ∷
    Otherwise (A (SimpleRest Head) ∷ A ForRest ∷ []) ∷ []
rules ForRest = Otherwise (One (is Semicolon) ∷ A ForCondition ∷ One (is Semicolon) ∷ A ForPost ∷ A Block ∷ []) ∷ []
rules ForCondition = Begins begins_expression (A (Expression true) ∷ []) ∷ nothing ∷ []
rules ForPost = Begins begins_expression (A (Expression true) ∷ A (SimpleRest Post) ∷ []) ∷ nothing ∷ []
rules TypeUse =
    Begins (is Star) (Opening (is Star) ∷ A TypeUse ∷ Close ∷ []) ∷
    Begins (is LeftBracket) (slice_type []) ∷
    Otherwise (One (is Name) ∷ A AfterTypeName ∷ []) ∷ []
rules AfterTypeName =
    Begins (is Dot) (One (is Dot) ∷ One (is Name) ∷ []) ∷
    nothing ∷ []
rules (Expression h) =
    Otherwise (A (Unary h) ∷ A (Binaries h) ∷ []) ∷ []
rules (Binaries h) =
    Begins is_binary (One is_binary ∷ A (Unary h) ∷ A (Binaries h) ∷ []) ∷
    nothing ∷ []
rules (Unary h) =
    Begins (is Name) (One (is Name) ∷ A (AfterName h) ∷ []) ∷
    Otherwise (A (Operand h) ∷ []) ∷ []
rules (Operand h) =
    Begins is_prefix (Opening is_prefix ∷ A (Unary h) ∷ Close ∷ []) ∷
    Begins (is Ampersand) (Opening (is Ampersand) ∷ A (Address h) ∷ Close ∷ []) ∷
    Begins is_leaf (One is_leaf ∷ A (Links h) ∷ []) ∷
    Begins (is LeftParen) (Opening (is LeftParen) ∷ A (Expression false) ∷ One (is RightParen) ∷ Close ∷ A (Links h) ∷ []) ∷
    Otherwise (slice_type (A Elements ∷ A (Links h) ∷ [])) ∷ []
rules (AfterName h) =
    or_literal h (selector (AfterSelector h) ∷ index (Links h) ∷ call (Links h) ∷ nothing ∷ [])
rules (AfterSelector h) =
    or_literal h (selector (Links h) ∷ index (Links h) ∷ call (Links h) ∷ nothing ∷ [])
rules (Links h) =
    selector (Links h) ∷ index (Links h) ∷ call (Links h) ∷
    nothing ∷ []
rules Arguments =
    Begins (is RightParen) (One (is RightParen) ∷ []) ∷
    Otherwise (A (Expression false) ∷ A MoreArguments ∷ []) ∷ []
rules MoreArguments =
    Begins (is Comma) (One (is Comma) ∷ A Arguments ∷ []) ∷
    Otherwise (One (is RightParen) ∷ []) ∷ []
rules (Address true) =
    Otherwise (slice_type (A Elements ∷ [])) ∷ []
rules (Address false) =
    Begins (is Name) (One (is Name) ∷ A AfterLiteralName ∷ []) ∷
    Otherwise (slice_type (A Elements ∷ [])) ∷ []
rules AfterLiteralName =
    Begins (is Dot) (One (is Dot) ∷ One (is Name) ∷ A Elements ∷ []) ∷
    Otherwise (A Elements ∷ []) ∷ []
rules Elements =
    Otherwise (Opening (is LeftBrace) ∷ A ElementList ∷ Close ∷ []) ∷ []
rules ElementList =
    Begins (is RightBrace) (One (is RightBrace) ∷ []) ∷
    Otherwise (A Element ∷ A MoreElements ∷ []) ∷ []
rules MoreElements =
    Begins (is Comma) (One (is Comma) ∷ A ElementList ∷ []) ∷
    Otherwise (One (is RightBrace) ∷ []) ∷ []
rules Element =
    Begins (is Name) (One (is Name) ∷ A AfterKey ∷ []) ∷
    Otherwise (A (Operand false) ∷ A (Binaries false) ∷ []) ∷ []
rules AfterKey =
    Begins (is Colon) (One (is Colon) ∷ A (Expression false) ∷ []) ∷
    Otherwise (A (AfterName false) ∷ A (Binaries false) ∷ []) ∷ []
