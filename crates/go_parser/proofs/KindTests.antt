-- Tests on kinds of tokens.
use Rattle.std.proofs.Common.{◌≡◌, true, List, [], ◌∷◌, get_or, ap, sym, ◌∙◌, eq-eqb, refl}
use Rattle.go_ast.specs.declared.syntax.Kind.{Kind}
use Rattle.go_ast.specs.declared.syntax.Kind.TheVariants.{Name, Blank, Number, Text, LeftParen, RightParen, LeftBracket, RightBracket, LeftBrace}
use Rattle.go_ast.specs.declared.syntax.Kind.TheVariants.{RightBrace, Comma, Dot, Colon, Semicolon, Plus, Minus, Star, Slash, Percent, Equal, NotEqual}
use Rattle.go_ast.specs.declared.syntax.Kind.TheVariants.{Less, LessEqual, Greater, GreaterEqual, AndAnd, OrOr, Not, Ampersand, Assign, Define, AddAssign}
use Rattle.go_ast.specs.declared.syntax.Kind.TheVariants.{SubAssign, MulAssign, DivAssign, RemAssign, Increment, Decrement, If, Else, For, Break, Continue}
use Rattle.go_ast.specs.declared.syntax.Kind.TheVariants.{Return, Var, Package, Import, Func, TypeWord, Struct, Interface, Other}
use Rattle.std.proofs.lemmas.Bool.{eqb-true}
use Rattle.go_ast.specs.Grammar.{number_of, is}

abbrev pub kinds : List Kind
kinds = Name ∷ Blank ∷ Number ∷ Text ∷ LeftParen ∷ RightParen ∷ LeftBracket ∷ RightBracket ∷ LeftBrace ∷ RightBrace ∷ Comma ∷ Dot ∷ Colon ∷ Semicolon ∷ Plus
    ∷ Minus ∷ Star ∷ Slash ∷ Percent ∷ Equal ∷ NotEqual ∷ Less ∷ LessEqual ∷ Greater ∷ GreaterEqual ∷ AndAnd ∷ OrOr ∷ Not ∷ Ampersand ∷ Assign ∷ Define ∷
    AddAssign ∷ SubAssign ∷ MulAssign ∷ DivAssign ∷ RemAssign ∷ Increment ∷ Decrement ∷ If ∷ Else ∷ For ∷ Break ∷ Continue ∷ Return ∷ Var ∷ Package ∷ Import
    ∷ Func ∷ TypeWord ∷ Struct ∷ Interface ∷ Other ∷ []

pub at_number : (k : Kind) → get_or kinds (number_of k) Name ≡ k
at_number Name = refl
at_number Blank = refl
at_number Number = refl
at_number Text = refl
at_number LeftParen = refl
at_number RightParen = refl
at_number LeftBracket = refl
at_number RightBracket = refl
at_number LeftBrace = refl
at_number RightBrace = refl
at_number Comma = refl
at_number Dot = refl
at_number Colon = refl
at_number Semicolon = refl
at_number Plus = refl
at_number Minus = refl
at_number Star = refl
at_number Slash = refl
at_number Percent = refl
at_number Equal = refl
at_number NotEqual = refl
at_number Less = refl
at_number LessEqual = refl
at_number Greater = refl
at_number GreaterEqual = refl
at_number AndAnd = refl
at_number OrOr = refl
at_number Not = refl
at_number Ampersand = refl
at_number Assign = refl
at_number Define = refl
at_number AddAssign = refl
at_number SubAssign = refl
at_number MulAssign = refl
at_number DivAssign = refl
at_number RemAssign = refl
at_number Increment = refl
at_number Decrement = refl
at_number If = refl
at_number Else = refl
at_number For = refl
at_number Break = refl
at_number Continue = refl
at_number Return = refl
at_number Var = refl
at_number Package = refl
at_number Import = refl
at_number Func = refl
at_number TypeWord = refl
at_number Struct = refl
at_number Interface = refl
at_number Other = refl

pub one_number : (j k : Kind) → number_of j ≡ number_of k → j ≡ k
one_number j k e = sym (at_number j) ∙ (ap (λ n. get_or kinds n Name) e ∙ at_number k)

pub is_itself : (k : Kind) → is k k ≡ true
is_itself k = eq-eqb (number_of k) (number_of k) refl

pub is_only : (k j : Kind) → is k j ≡ true → j ≡ k
is_only k j e = sym (one_number k j (eqb-true (number_of k) (number_of j) e))
