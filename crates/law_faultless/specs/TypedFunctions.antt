-- The functions of a file, each with the locals before it.
use Rattle.std.specs.Prelude.{ℕ, Bool, List, ◌∷◌}
use Rattle.go_ast.specs.Tree.{FuncTree, DeclTree}
use Rattle.go_ast.specs.Tree as tree
use Rattle.types_expr.specs.World.{World, Locals}
use Rattle.law_typing.specs.Declarations.{DeclIsTyped, FunctionIsTyped}

-- The function is among these declarations, and is typed behind those before it. The first `Locals` are those before the declarations, the
-- last those before the function.
pub data IsFunctionIn (w : World) (is_init : ℕ → Bool) : Locals → List DeclTree → FuncTree → Locals → Type 0 where
  this_function : {before after : Locals} {p c : ℕ} {f : FuncTree} {ds : List DeclTree} → FunctionIsTyped w (is_init f.name) before f after →
      IsFunctionIn w is_init before (tree.FuncDecl p f c ∷ ds) f before
  later_function : {before inside at : Locals} {d : DeclTree} {ds : List DeclTree} {f : FuncTree} → DeclIsTyped w is_init before d inside →
      IsFunctionIn w is_init inside ds f at → IsFunctionIn w is_init before (d ∷ ds) f at
