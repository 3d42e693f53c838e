-- The kinds of the tokens at which identifiers stand, and the string literals of imports.
use Rattle.std.specs.Prelude.{Bool, true, false}
use Rattle.go_ast.specs.declared.syntax.Kind.{Kind}
use Rattle.go_ast.specs.declared.syntax.Kind.TheVariants as kind

-- Whether a kind is that of an identifier token, `_` among them.
abbrev pub is_ident_token : Kind → Bool
is_ident_token kind.Name = true
is_ident_token kind.Blank = true
is_ident_token _ = false

-- Whether a kind is that of an identifier token, `_` or a string. Before the first declaration of a file, each string is that of an import.
abbrev pub is_header_name : Kind → Bool
is_header_name kind.Name = true
is_header_name kind.Blank = true
is_header_name kind.Text = true
is_header_name _ = false
