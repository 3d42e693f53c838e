-- The first sets and follow sets of the grammar, and the parts that may be empty. Computation over the rules shows that they are right, and
-- that the next token selects each rule.
use Rattle.std.proofs.Common.{◌≡◌, Bool, true, false, List, [], ◌∷◌, cond, refl}
use Rattle.std.specs.Prelude.{◌&&◌, ◌||◌}
use Rattle.go_ast.specs.declared.syntax.Kind.{Kind}
use Rattle.go_ast.specs.declared.syntax.Kind.TheVariants as kind
use Rattle.go_ast.specs.Grammar.{GrammarSymbol, One, Opening, Close, A, Part, Rule, Begins}
use Rattle.go_ast.specs.Grammar.{Otherwise, rules, is, is_binary, is_ident, is_step, is_update, may_set}
use Rattle.go_ast.specs.Grammar.{one_of, begins_type, begins_operand, begins_expression, unless, Item, ImportItem, GlobalItem, TypeItem, LocalItem}
use Rattle.go_ast.specs.Grammar.{Setting, Plain, Head, Post, File, Imports, Tops, GroupOf, Items, MoreItems, Single, MoreNames, GlobalValues, MoreLiterals}
use Rattle.go_ast.specs.Grammar.{TypeBody, Fields, MoreFields, Methods, MoreMethods, MoreIdents}
use Rattle.go_ast.specs.Grammar.{LocalRest, LocalValues, FuncHead, ReceiverStar, ReceiverEnd, Signature, Params}
use Rattle.go_ast.specs.Grammar.{MoreParams, Result, Types, MoreTypes, Block, MoreStatements, Statement, ReturnValues, Expressions, MoreExpressions}
use Rattle.go_ast.specs.Grammar.{SimpleRest, IfHead, IfAfter, IfBody, ElsePart, ElseBody, ForHead, ForAfter, ForRest, ForCondition, ForPost, TypeUse}
use Rattle.go_ast.specs.Grammar.{AfterTypeName, Expression, Binaries, Unary, Operand, AfterName, AfterSelector, Links, Arguments, MoreArguments, Address}
use Rattle.go_ast.specs.Grammar.{AfterLiteralName, Elements, ElementList, MoreElements, Element, AfterKey}
use Rattle.go_parser.proofs.KindTests.{kinds}

abbrev pub nullable : Part → Bool
nullable AfterTypeName = true
nullable (Binaries h) = true
nullable (AfterName h) = true
nullable (AfterSelector h) = true
nullable (Links h) = true
nullable AfterKey = true
nullable Imports = true
nullable Tops = true
nullable MoreNames = true
nullable GlobalValues = true
nullable MoreLiterals = true
nullable MoreIdents = true
nullable LocalValues = true
nullable ReceiverStar = true
nullable Result = true
nullable MoreStatements = true
nullable Statement = true
nullable ReturnValues = true
nullable (MoreExpressions h) = true
nullable (SimpleRest s) = true
nullable ElsePart = true
nullable ForCondition = true
nullable ForPost = true
nullable _ = false

abbrev pub begins_link : Kind → Bool
begins_link = one_of (kind.Dot ∷ kind.LeftBracket ∷ kind.LeftParen ∷ [])

abbrev pub begins_item : Item → Kind → Bool
begins_item ImportItem = one_of (kind.Name ∷ kind.Text ∷ [])
begins_item GlobalItem = is kind.Name
begins_item TypeItem = is kind.Name
begins_item LocalItem = is_ident

abbrev pub first : Part → Kind → Bool
first File = is kind.Package
first Imports = one_of (kind.Import ∷ kind.Var ∷ kind.TypeWord ∷ kind.Func ∷ [])
first Tops = one_of (kind.Var ∷ kind.TypeWord ∷ kind.Func ∷ [])
first (GroupOf i) = λ k. is kind.LeftParen k || begins_item i k
first (Items i) = λ k. is kind.RightParen k || begins_item i k
first (MoreItems i) = one_of (kind.Semicolon ∷ kind.RightParen ∷ [])
first (Single i) = begins_item i
first MoreNames = is kind.Comma
first GlobalValues = is kind.Assign
first MoreLiterals = is kind.Comma
first TypeBody = λ k. one_of (kind.Struct ∷ kind.Interface ∷ []) k || begins_type k
first Fields = one_of (kind.RightBrace ∷ kind.Name ∷ [])
first MoreFields = one_of (kind.RightBrace ∷ kind.Semicolon ∷ [])
first Methods = one_of (kind.RightBrace ∷ kind.Name ∷ [])
first MoreMethods = one_of (kind.RightBrace ∷ kind.Semicolon ∷ [])
first MoreIdents = is kind.Comma
first LocalRest = λ k. is kind.Assign k || begins_type k
first LocalValues = is kind.Assign
first FuncHead = one_of (kind.LeftParen ∷ kind.Name ∷ [])
first ReceiverStar = is kind.Star
first ReceiverEnd = one_of (kind.Comma ∷ kind.RightParen ∷ [])
first Signature = is kind.LeftParen
first Params = λ k. is kind.RightParen k || is_ident k
first MoreParams = one_of (kind.Comma ∷ kind.RightParen ∷ [])
first Result = λ k. is kind.LeftParen k || begins_type k
first Types = λ k. is kind.RightParen k || begins_type k
first MoreTypes = one_of (kind.Comma ∷ kind.RightParen ∷ [])
first Block = is kind.LeftBrace
first MoreStatements = is kind.Semicolon
first Statement = λ k. one_of (kind.Var ∷ kind.LeftBrace ∷ kind.If ∷ kind.For ∷ kind.Break ∷ kind.Continue ∷ kind.Return ∷ []) k || begins_expression k
first ReturnValues = begins_expression
first (Expressions h) = begins_expression
first (MoreExpressions h) = is kind.Comma
first (SimpleRest s) = λ k. is_step k || (is_update k || (may_set s k || is kind.Comma k))
first IfHead = λ k. is kind.Semicolon k || begins_expression k
first IfAfter = λ k. one_of (kind.LeftBrace ∷ kind.Semicolon ∷ kind.Comma ∷ []) k || (is_step k || (is_update k || may_set Head k))
first IfBody = is kind.LeftBrace
first ElsePart = is kind.Else
first ElseBody = one_of (kind.If ∷ kind.LeftBrace ∷ [])
first ForHead = λ k. one_of (kind.LeftBrace ∷ kind.Semicolon ∷ []) k || begins_expression k
first ForAfter = λ k. one_of (kind.LeftBrace ∷ kind.Semicolon ∷ kind.Comma ∷ []) k || (is_step k || (is_update k || may_set Head k))
first ForRest = is kind.Semicolon
first ForCondition = begins_expression
first ForPost = begins_expression
first TypeUse = one_of (kind.Name ∷ kind.Star ∷ kind.LeftBracket ∷ [])
first AfterTypeName = is kind.Dot
first (Expression h) = begins_expression
first (Binaries h) = is_binary
first (Unary h) = begins_expression
first (Operand h) = begins_operand
first (AfterName h) = λ k. begins_link k || unless h (is kind.LeftBrace) k
first (AfterSelector h) = λ k. begins_link k || unless h (is kind.LeftBrace) k
first (Links h) = begins_link
first Arguments = λ k. is kind.RightParen k || begins_expression k
first MoreArguments = one_of (kind.Comma ∷ kind.RightParen ∷ [])
first (Address h) = λ k. is kind.LeftBracket k || unless h (is kind.Name) k
first AfterLiteralName = one_of (kind.Dot ∷ kind.LeftBrace ∷ [])
first Elements = is kind.LeftBrace
first ElementList = λ k. is kind.RightBrace k || begins_expression k
first MoreElements = one_of (kind.Comma ∷ kind.RightBrace ∷ [])
first Element = begins_expression
first AfterKey = λ k. begins_link k || (one_of (kind.Colon ∷ kind.LeftBrace ∷ []) k || is_binary k)

abbrev pub ends_statement : Kind → Bool
ends_statement = one_of (kind.Semicolon ∷ kind.RightBrace ∷ [])

abbrev pub ends_item : Kind → Bool
ends_item = one_of (kind.Semicolon ∷ kind.RightParen ∷ [])

-- a statement, or an item of a group in a block, is followed by one of these
abbrev pub ends_either : Kind → Bool
ends_either = one_of (kind.Semicolon ∷ kind.RightBrace ∷ kind.RightParen ∷ [])

abbrev pub follows_list : Bool → Kind → Bool
follows_list h k = one_of (kind.Semicolon ∷ kind.Assign ∷ kind.Define ∷ []) k
    || cond h (is kind.LeftBrace k) (one_of (kind.RightBrace ∷ kind.RightParen ∷ []) k)

abbrev pub follows_expression : Bool → Kind → Bool
follows_expression h k = is kind.Comma k || (is_step k || (is_update k || (follows_list h k || cond h false (is kind.RightBracket k))))

abbrev pub follows_simple : Setting → Kind → Bool
follows_simple Plain = ends_statement
follows_simple Head = is kind.Semicolon
follows_simple Post = is kind.LeftBrace

abbrev pub follow : Part → Kind → Bool
follow File = λ k. false
follow Imports = λ k. false
follow Tops = λ k. false
follow (GroupOf LocalItem) = ends_statement
follow (GroupOf i) = is kind.Semicolon
follow (Single LocalItem) = ends_either
follow (Single i) = ends_item
follow MoreNames = begins_type
follow GlobalValues = ends_item
follow MoreLiterals = ends_item
follow TypeBody = ends_item
follow MoreIdents = λ k. is kind.Assign k || begins_type k
follow LocalRest = ends_either
follow LocalValues = ends_either
follow ReceiverStar = is kind.Name
follow FuncHead = is kind.Semicolon
follow Signature = is kind.Semicolon
follow Result = one_of (kind.LeftBrace ∷ kind.Semicolon ∷ kind.RightBrace ∷ [])
follow Block = λ k. is kind.Else k || ends_statement k
follow MoreStatements = is kind.RightBrace
follow Statement = ends_statement
follow ReturnValues = ends_statement
follow (Expressions h) = follows_list h
follow (MoreExpressions h) = follows_list h
follow (SimpleRest s) = follows_simple s
follow IfHead = ends_statement
follow IfAfter = ends_statement
follow IfBody = ends_statement
follow ElsePart = ends_statement
follow ElseBody = ends_statement
follow ForHead = ends_statement
follow ForAfter = ends_statement
follow ForRest = ends_statement
follow ForCondition = is kind.Semicolon
follow ForPost = is kind.LeftBrace
follow TypeUse = λ k. one_of (kind.LeftBrace ∷ kind.Comma ∷ kind.Assign ∷ []) k || ends_either k
follow AfterTypeName = λ k. one_of (kind.LeftBrace ∷ kind.Comma ∷ kind.Assign ∷ []) k || ends_either k
follow (Expression h) = follows_expression h
follow (Binaries h) = follows_expression h
follow (Unary h) = λ k. is_binary k || follows_expression h k
follow (Operand h) = λ k. is_binary k || follows_expression h k
follow (AfterName h) = λ k. is_binary k || follows_expression h k
follow (AfterSelector h) = λ k. is_binary k || follows_expression h k
follow (Links h) = λ k. is_binary k || follows_expression h k
follow Element = one_of (kind.Comma ∷ kind.RightBrace ∷ [])
follow AfterKey = one_of (kind.Comma ∷ kind.RightBrace ∷ [])
follow _ = λ k. true

abbrev pub firsts : List GrammarSymbol → Kind → Bool
firsts [] k = false
firsts (One c ∷ ss) k = c k
firsts (Opening c ∷ ss) k = c k
firsts (Close ∷ ss) k = firsts ss k
firsts (A p ∷ ss) k = first p k || (nullable p && firsts ss k)

abbrev pub nullables : List GrammarSymbol → Bool
nullables [] = true
nullables (One c ∷ ss) = false
nullables (Opening c ∷ ss) = false
nullables (Close ∷ ss) = nullables ss
nullables (A p ∷ ss) = nullable p && nullables ss

abbrev pub implies : Bool → Bool → Bool
implies a b = cond a b true

-- the tokens before which a rule of the part may be applied
abbrev pub looks : Part → List GrammarSymbol → Kind → Bool
looks p then k = firsts then k || (nullables then && follow p k)

abbrev pub followed : Part → List GrammarSymbol → Kind → Bool
followed p [] k = true
followed p (One c ∷ ss) k = followed p ss k
followed p (Opening c ∷ ss) k = followed p ss k
followed p (Close ∷ ss) k = followed p ss k
followed p (A q ∷ ss) k = implies (looks p ss k) (follow q k) && followed p ss k

abbrev pub symbols_of : Rule → List GrammarSymbol
symbols_of (Begins c then) = then
symbols_of (Otherwise then) = then

abbrev pub rule_fits : Part → List GrammarSymbol → Kind → Bool
rule_fits p then k = implies (firsts then k) (first p k) && (implies (nullables then) (nullable p) && followed p then k)

abbrev pub rules_fit : Part → List Rule → Kind → Bool
rules_fit p [] k = true
rules_fit p (r ∷ rs) k = rule_fits p (symbols_of r) k && rules_fit p rs k

abbrev pub none_looks : Part → List Rule → Kind → Bool
none_looks p [] k = true
none_looks p (r ∷ rs) k = implies (looks p (symbols_of r) k) false && none_looks p rs k

-- of these rules the next token selects the only one that may be applied
abbrev pub decides : Part → List Rule → Kind → Bool
decides p [] k = true
decides p (Begins c then ∷ rs) k = implies (looks p then k) (c k) && (implies (c k) (none_looks p rs k) && decides p rs k)
decides p (Otherwise then ∷ rs) k = none_looks p rs k

abbrev pub every : {X : Type 0} → (X → Bool) → List X → Bool
every f [] = true
every f (x ∷ xs) = f x && every f xs

abbrev pub sound : Part → Kind → Bool
sound p k = rules_fit p (rules p) k && decides p (rules p) k

pub checked : (p : Part) → every (sound p) kinds ≡ true
checked File = refl
checked Imports = refl
checked Tops = refl
checked (GroupOf ImportItem) = refl
checked (GroupOf GlobalItem) = refl
checked (GroupOf TypeItem) = refl
checked (GroupOf LocalItem) = refl
checked (Items ImportItem) = refl
checked (Items GlobalItem) = refl
checked (Items TypeItem) = refl
checked (Items LocalItem) = refl
checked (MoreItems ImportItem) = refl
checked (MoreItems GlobalItem) = refl
checked (MoreItems TypeItem) = refl
checked (MoreItems LocalItem) = refl
checked (Single ImportItem) = refl
checked (Single GlobalItem) = refl
checked (Single TypeItem) = refl
checked (Single LocalItem) = refl
checked MoreNames = refl
checked GlobalValues = refl
checked MoreLiterals = refl
checked TypeBody = refl
checked Fields = refl
checked MoreFields = refl
checked Methods = refl
checked MoreMethods = refl
checked MoreIdents = refl
checked LocalRest = refl
checked LocalValues = refl
checked FuncHead = refl
checked ReceiverStar = refl
checked ReceiverEnd = refl
checked Signature = refl
checked Params = refl
checked MoreParams = refl
checked Result = refl
checked Types = refl
checked MoreTypes = refl
checked Block = refl
checked MoreStatements = refl
checked Statement = refl
checked ReturnValues = refl
checked (Expressions true) = refl
checked (Expressions false) = refl
checked (MoreExpressions true) = refl
checked (MoreExpressions false) = refl
checked (SimpleRest Plain) = refl
checked (SimpleRest Head) = refl
checked (SimpleRest Post) = refl
checked IfHead = refl
checked IfAfter = refl
checked IfBody = refl
checked ElsePart = refl
checked ElseBody = refl
checked ForHead = refl
checked ForAfter = refl
checked ForRest = refl
checked ForCondition = refl
checked ForPost = refl
checked TypeUse = refl
checked AfterTypeName = refl
checked (Expression true) = refl
checked (Expression false) = refl
checked (Binaries true) = refl
checked (Binaries false) = refl
checked (Unary true) = refl
checked (Unary false) = refl
checked (Operand true) = refl
checked (Operand false) = refl
checked (AfterName true) = refl
checked (AfterName false) = refl
checked (AfterSelector true) = refl
checked (AfterSelector false) = refl
checked (Links true) = refl
checked (Links false) = refl
checked Arguments = refl
checked MoreArguments = refl
checked (Address true) = refl
checked (Address false) = refl
checked AfterLiteralName = refl
checked Elements = refl
checked ElementList = refl
checked MoreElements = refl
checked Element = refl
checked AfterKey = refl
