-- The tokens of a file that are identifiers or string literals of imports, by the kinds of tokens alone.
use Rattle.std.specs.Prelude.{Bool, true, false, List, [], ◌∷◌, filter, if◌then◌else◌}
use Rattle.go_ast.specs.declared.syntax.Kind.{Kind}
use Rattle.go_ast.specs.declared.syntax.Kind.TheVariants as kind
use Rattle.go_ast.specs.declared.syntax.Token.{Token}
use Rattle.go_scope.specs.IdentifierTokens.{is_ident_token, is_header_name}

-- Whether a kind is that of a keyword with which a top-level declaration begins: `var`, `type` or `func`.
abbrev pub begins_declaration : Kind → Bool
begins_declaration kind.Var = true
begins_declaration kind.TypeWord = true
begins_declaration kind.Func = true
begins_declaration _ = false

-- The identifier tokens among tokens.
abbrev pub names_among : List Token → List Token
names_among ts = filter (λ t. is_ident_token t.kind) ts

-- The identifier tokens of a file, and the strings before its first declaration.
unfoldable pub identifiers_among : List Token → List Token
identifiers_among [] = []
identifiers_among (t ∷ ts) =
    if begins_declaration t.kind then names_among ts else (if is_header_name t.kind then t ∷ identifiers_among ts else identifiers_among ts)
