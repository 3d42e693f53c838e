-- The tokens of a file that declare fields and methods, also those that an interface asks for.
use Rattle.std.specs.Prelude.{ℕ, List, [], ◌∷◌, Option, Some, None, map}
use Rattle.std.specs.List.{flat_map}
use Rattle.go_ast.specs.Tree.{Group, single, several, FieldTree, BodyTree, Other, Struct, Interface, ReceiverTree, DeclTree, VarDecl, TypeDecl}
use Rattle.go_ast.specs.Tree.{FuncDecl, FileTree}

-- The tokens that `f` gives for the specs of a declaration, with or without parentheses.
abbrev pub in_group : {X : Type 0} → (X → List ℕ) → Group X → List ℕ
in_group f (single x) = f x
in_group f (several o xs c) = flat_map (λ i. f i.value) xs

-- The tokens of the names of a field declaration.
abbrev pub field_name_tokens : FieldTree → List ℕ
field_name_tokens f = map (λ i. i.value) f.names

-- The tokens that declare the fields of a struct, or the methods that an interface asks for; none where a definition writes another type.
abbrev pub body_members : BodyTree → List ℕ
body_members (Other t) = []
body_members (Struct p o fs c) = flat_map (λ i. field_name_tokens i.value) fs
body_members (Interface p o ms c) = flat_map (λ i. i.value.name ∷ []) ms

-- The token of a function's name if it has a receiver, and so is a method.
abbrev pub method_name : Option ReceiverTree → ℕ → List ℕ
method_name None n = []
method_name (Some r) n = n ∷ []

-- The tokens that declare fields and methods in a top-level declaration.
abbrev pub decl_members : DeclTree → List ℕ
decl_members (VarDecl k g s) = []
decl_members (TypeDecl k g s) = in_group (λ t. body_members t.body) g
decl_members (FuncDecl k f s) = method_name f.receiver f.name

-- The tokens of a file that declare fields and methods.
abbrev pub member_names : FileTree → List ℕ
member_names f = flat_map decl_members f.decls
