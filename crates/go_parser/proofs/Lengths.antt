-- Each type and each expression has at least one token, so fewer tokens are left after it.
use Rattle.std.proofs.Common.{ℕ, ◌≡◌, ◌≤◌, ◌<◌, ◌+◌, ap, List, [], ◌∷◌, ◌++◌, length, length-append, arith, Option, Some, None}
use Rattle.go_ast.specs.declared.syntax.Kind.{Kind}
use Rattle.go_ast.specs.declared.syntax.Kind.TheVariants as kind
use Rattle.go_ast.specs.declared.syntax.Token.{Token}
use Rattle.go_ast.specs.declared.tree.Expr.{Expr}
use Rattle.go_ast.specs.declared.tree.Element.{Element}
use Rattle.go_ast.specs.Tree.{TypeTree, Local, Imported, Pointer, Slice, ExprTree, Number, Text, Name, Blank, Composite, Paren, Prefix, Address, Chain}
use Rattle.go_ast.specs.Tree.{Binary, LiteralTree, literal}
use Rattle.go_ast.specs.Flatten.{sign, sign_if, type_tokens, expr_tokens, literal_tokens, link_tokens, operand_tokens, element_tokens, key_tokens, prefix_kind}
use Rattle.go_ast.specs.View.{expr_view, key_view}
use Rattle.go_parser.specs.Spelling.{expr_spelled, element_spelled}
use Rattle.go_ast.specs.Grammar.{GrammarSymbol}
use Rattle.go_parser.specs.Parsing.{Separates, Read, Leads}

pub length_of : (a b : List Token) → length (a ++ b) ≡ length a + length b
length_of a b = length-append a b

pub some_left : (a b : List Token) → 1 ≤ length a → 1 ≤ length (a ++ b)
some_left a b h = omega (arith, length_of a b, h)

pub some_right : (a b : List Token) → 1 ≤ length b → 1 ≤ length (a ++ b)
some_right a b h = omega (arith, length_of a b, h)

pub some_here : (t : Token) (ts : List Token) → 1 ≤ length (t ∷ ts)
some_here t ts = omega arith

pub type_tree_some : (t : TypeTree) → 1 ≤ length (type_tokens t)
unfolding type_tokens
type_tree_some (Local n) = some_here (sign kind.Name n) []
type_tree_some (Imported p d n) = some_here (sign kind.Name p) (sign kind.Dot d ∷ sign kind.Name n ∷ [])
type_tree_some (Pointer s t) = some_here (sign kind.Star s) (type_tokens t)
type_tree_some (Slice o c t) = some_here (sign kind.LeftBracket o) (sign kind.RightBracket c ∷ type_tokens t)

literal_tree_some : (l : LiteralTree) → 1 ≤ length (literal_tokens l)
unfolding literal_tokens
literal_tree_some (literal t o es c) = some_left (type_tokens t) (sign kind.LeftBrace o ∷ (element_tokens es ++ (sign kind.RightBrace c ∷ [])))
    (type_tree_some t)

pub expr_tree_some : (e : ExprTree) → 1 ≤ length (expr_tokens e)
unfolding expr_tokens
expr_tree_some (Number n) = some_here (sign kind.Number n) []
expr_tree_some (Text n) = some_here (sign kind.Text n) []
expr_tree_some (Name n) = some_here (sign kind.Name n) []
expr_tree_some (Blank n) = some_here (sign kind.Blank n) []
expr_tree_some (Composite l) = literal_tree_some l
expr_tree_some (Paren o e c) = some_here (sign kind.LeftParen o) (expr_tokens e ++ (sign kind.RightParen c ∷ []))
expr_tree_some (Prefix op p e) = some_here (sign (prefix_kind op) p) (expr_tokens e)
expr_tree_some (Address p l) = some_here (sign kind.Ampersand p) (literal_tokens l)
expr_tree_some (Chain e ls) = some_left (expr_tokens e) (link_tokens ls) (expr_tree_some e)
expr_tree_some (Binary e os) = some_left (expr_tokens e) (operand_tokens os) (expr_tree_some e)

pub expr_some : (e : Expr) → 1 ≤ length (expr_spelled e)
expr_some e = expr_tree_some (expr_view e)

pub element_some : (e : Element) → 1 ≤ length (element_spelled e)
element_some e = some_right (key_tokens (key_view e.key)) (expr_spelled e.value ++ sign_if kind.Comma e.comma)
    (some_left (expr_spelled e.value) (sign_if kind.Comma e.comma) (expr_some e.value))

-- the tokens that are left after others

behind_no_longer : (a ts rest : List Token) → ts ≡ a ++ rest → length rest ≤ length ts
behind_no_longer a ts rest e = let l = ap length e in omega (arith, l, length_of a rest)

behind_shorter : (a ts rest : List Token) → 1 ≤ length a → ts ≡ a ++ rest → length rest < length ts
behind_shorter a ts rest h e = let l = ap length e in omega (arith, l, h, length_of a rest)

pub read_no_longer : {ss : List GrammarSymbol} {a : List Token} {d e : ℕ} {ts rest : List Token} → Read ss a d ts e rest → length rest ≤ length ts
read_no_longer {a = a} {ts = ts} {rest = rest} r = behind_no_longer a ts rest r.text

pub read_shorter : {ss : List GrammarSymbol} {a : List Token} {d e : ℕ} {ts rest : List Token} → 1 ≤ length a → Read ss a d ts e rest → length rest < length ts
read_shorter {a = a} {ts = ts} {rest = rest} h r = behind_shorter a ts rest h r.text

pub leads_no_longer : {x y : List GrammarSymbol} {a : List Token} {d e : ℕ} {ts rest : List Token} → Leads x y a d ts e rest → length rest ≤ length ts
leads_no_longer {a = a} {ts = ts} {rest = rest} r = behind_no_longer a ts rest r.text

pub leads_shorter : {x y : List GrammarSymbol} {a : List Token} {d e : ℕ} {ts rest : List Token} → 1 ≤ length a → Leads x y a d ts e rest →
    length rest < length ts
leads_shorter {a = a} {ts = ts} {rest = rest} h r = behind_shorter a ts rest h r.text

pub separator_no_longer : (k : Kind) (s : Option ℕ) (ts rest : List Token) → Separates k s ts rest → length rest ≤ length ts
separator_no_longer k None ts rest h = let l = ap length h.1 in omega (arith, l)
separator_no_longer k (Some p) ts rest h = let l = ap length h in omega (arith, l)
