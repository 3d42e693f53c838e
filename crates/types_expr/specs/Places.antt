-- The tokens at which expressions and types begin and report their faults. A token is given by its index in the file.
use Rattle.std.specs.Prelude.{ℕ}
use Rattle.go_ast.specs.Tree.{TypeTree, ExprTree, Number, Text, Name, Blank, Composite, Paren, Prefix, Address, Chain, Binary, LinkTrees, no_link}
use Rattle.go_ast.specs.Tree.{selector, index, call, LiteralTree, literal}
use Rattle.go_ast.specs.Tree.{Local as LocalType, Imported as ImportedType, Pointer as PointerType, Slice as SliceType}

-- the first token of a written type
abbrev pub first_of_type : TypeTree → ℕ
first_of_type (LocalType n) = n
first_of_type (ImportedType p d n) = p
first_of_type (PointerType s t) = s
first_of_type (SliceType o c t) = o

abbrev pub first_of_literal : LiteralTree → ℕ
first_of_literal (literal t o es c) = first_of_type t

-- the first token of an expression
unfoldable pub first_token : ExprTree → ℕ
first_token (Number p) = p
first_token (Text p) = p
first_token (Name p) = p
first_token (Blank p) = p
first_token (Composite l) = first_of_literal l
first_token (Paren o e c) = o
first_token (Prefix op p e) = p
first_token (Address p l) = p
first_token (Chain e ls) = first_token e
first_token (Binary e os) = first_token e

-- The token at which a chain with these links reports its faults: the name after the last dot if it ends in a selector, else `start`, its
-- first token. Without these links the chain reports them at `here`.
unfoldable pub place_of_links : (start here : ℕ) → LinkTrees → ℕ
place_of_links start here no_link = here
place_of_links start here (selector d n rest) = place_of_links start n rest
place_of_links start here (index o e c rest) = place_of_links start start rest
place_of_links start here (call o xs c rest) = place_of_links start start rest

-- the token at which a chain reports its faults that begins at `start` and ends in the first of these links
abbrev pub place_after_link : (start : ℕ) → LinkTrees → ℕ
place_after_link start no_link = start
place_after_link start (selector d n rest) = n
place_after_link start (index o e c rest) = start
place_after_link start (call o args c rest) = start

-- The token at which an expression reports its own faults: the name after the dot of a selection, else its first token.
unfoldable pub place_of : ExprTree → ℕ
place_of (Chain e ls) = place_of_links (first_token e) (first_token e) ls
place_of e = first_token e
