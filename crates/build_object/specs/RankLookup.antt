-- Lookups by rank that go over the files of a package.
use Rattle.std.specs.Prelude.{ℕ, ◌≡◌, ◌+◌, List, [], length, MatchResult, Option, Result, Some, slice_get}
use Rattle.std.specs.List.{flat_map}
use Rattle.go_ast.specs.Tree.{DeclTree, VarDecl, TypeDecl, FuncDecl, TypeSpecTree}
use Rattle.go_ast.specs.SourceFile.{SourceFile}
use Rattle.types_declared.specs.Files.{group_items}
use Rattle.types_declared.specs.Package.{placed_type}
use Rattle.build_object.specs.Lines.{FunctionName}
use Rattle.build_object.specs.Names.{body_positions, asked_names_in}

-- `result` is the item of the list with this rank. If the list is too short, it is the rank that is left behind the list.
abbrev pub FindsRank : {X Y : Type 0} → (X → Y) → List Y → ℕ → Result X ℕ → Type 0
FindsRank view list rank result = MatchResult result (λ x. slice_get list rank ≡ Some (view x)) (λ rest. rank ≡ length list + rest)

-- The positions of fields in their structs.

-- The positions of the fields of a type definition.
abbrev pub spec_positions : TypeSpecTree → List ℕ
spec_positions s = body_positions s.body

-- The positions of the fields of a declaration.
abbrev pub decl_positions : DeclTree → List ℕ
decl_positions (VarDecl p g s) = []
decl_positions (TypeDecl p g s) = flat_map spec_positions (group_items g)
decl_positions (FuncDecl p f s) = []

-- The positions of the fields of a file.
abbrev pub file_positions : SourceFile → List ℕ
file_positions f = flat_map decl_positions f.tree.decls

-- The names of the methods that interfaces ask for.

-- For each member that a declaration writes, its name in objects if an interface asks for it.
abbrev pub decl_asked : (path : List ℕ) → List SourceFile → (file : ℕ) → DeclTree → List (Option FunctionName)
decl_asked path files file (VarDecl p g s) = []
decl_asked path files file (TypeDecl p g s) = flat_map (λ t. asked_names_in path files (placed_type file t)) (group_items g)
decl_asked path files file (FuncDecl p f s) = []

-- The same for a file with its rank.
abbrev pub file_asked : (path : List ℕ) → List SourceFile → ℕ × SourceFile → List (Option FunctionName)
file_asked path files f = flat_map (decl_asked path files f.0) f.1.tree.decls
