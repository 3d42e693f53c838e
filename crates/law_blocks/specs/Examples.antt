-- Worked examples: the ranges of small texts.
use Rattle.std.specs.Prelude.{ℕ, ◌≡◌, List, [], ◌∷◌, Some, None, refl}
use Rattle.go_ast.specs.Flatten.{simple_tokens, expr_tokens, all_tokens}
use Rattle.go_ast.specs.Tree.{Item, Named, Local, Name, Define, Simple, If, block, no_statement, statement, if_tree}
use Rattle.go_ast.specs.Tree.{no_else, no_result, DeclTree, FuncDecl, TypeDecl, single, Interface, Empty}
use Rattle.law_blocks.specs.Ranges.{Range, BlockRange, statement_blocks, braced_blocks, statements_blocks, if_blocks, else_blocks, statement_specs}
use Rattle.law_blocks.specs.Ranges.{braced_specs, statements_specs, if_specs, else_specs, decl_blocks, decl_specs}

abbrev only : {X : Type 0} → X → List (Item X)
only x = record { value = x; separator = None } ∷ []

abbrev range : ℕ → ℕ → Range
range a b = record { first = a; last = b }

abbrev blocked : ℕ → ℕ → ℕ → BlockRange
blocked a b c = record { first = a; from = b; last = c }

-- `func f(x int) { y := x; if z := y; z { } }`, from token 0 on
abbrev text : DeclTree
text = FuncDecl 0 (record {
  receiver = None;
  name = 1;
  lparen = 2;
  params = only (record { names = only (Named 3); type_use = Local 4 });
  rparen = 5;
  result = no_result;
  body = block 6 (statement (Simple (Define (only (Name 7)) 8 (only (Name 9)))) (Some 10)
      (statement (If (if_tree 11 (Some (record { simple = Some (Define (only (Name 12)) 13 (only (Name 14))); semicolon = 15 })) (Name 16)
      (block 17 (statement Empty None no_statement) 18) no_else)) None no_statement)) 19;
}) 20

-- the function from its parameters on, with the body's braces; the `if` from its keyword to the token after it; the braces of the `if`
blocks_of_text : decl_blocks text ≡ blocked 2 6 19 ∷ blocked 11 11 19 ∷ blocked 17 17 18 ∷ []
unfolding statements_blocks statement_blocks if_blocks braced_blocks else_blocks
blocks_of_text = refl

-- the parameters to the body; `y := x` to its semicolon; `z := y` to its semicolon
specs_of_text : decl_specs text ≡ range 2 6 ∷ range 7 10 ∷ range 12 15 ∷ []
unfolding braced_specs statements_specs statement_specs if_specs else_specs simple_tokens expr_tokens all_tokens
specs_of_text = refl

-- `type I interface { m(x int) }`, from token 0 on
abbrev asking : DeclTree
asking = TypeDecl 0 (single (record {
  name = 1;
  body = Interface 2 3 (only (record {
    name = 4;
    lparen = 5;
    params = only (record { names = only (Named 6); type_use = Local 7 });
    rparen = 8;
    result = no_result;
  })) 9;
})) 10

-- the parameters of `m`, between its parentheses
blocks_of_asking : decl_blocks asking ≡ blocked 5 5 8 ∷ []
blocks_of_asking = refl

-- the scope of `x` begins at the closing parenthesis, where the block ends
specs_of_asking : decl_specs asking ≡ range 5 8 ∷ []
specs_of_asking = refl
