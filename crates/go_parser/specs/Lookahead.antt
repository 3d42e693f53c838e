-- Tests of the next tokens that decide how to parse.
use Rattle.std.specs.Prelude.{List, [], ◌∷◌, Bool, ◌&&◌, ◌||◌}
use Rattle.go_ast.specs.declared.syntax.Token.{Token}
use Rattle.go_ast.specs.declared.syntax.Kind.TheVariants.{LeftBrace, Dot, Name, Colon}
use Rattle.go_ast.specs.Grammar.{is}
use Rattle.go_parser.specs.Machine.{at}

-- the tokens after the first
abbrev pub the_rest : List Token → List Token
the_rest [] = []
the_rest (t ∷ ts) = ts

-- after the first token, a name, comes `{`, or `.`, a name and `{`: a composite literal begins
abbrev pub names_literal : List Token → Bool
names_literal ts = at (is LeftBrace) (the_rest ts) ||
    (at (is Dot) (the_rest ts) && (at (is Name) (the_rest (the_rest ts)) && at (is LeftBrace) (the_rest (the_rest (the_rest ts)))))

-- a name and a colon come next
abbrev pub begins_key : List Token → Bool
begins_key ts = at (is Name) ts && at (is Colon) (the_rest ts)
