-- Worked examples: the identifiers of small trees, with their numbers and roles.
use Rattle.std.proofs.Common.{ℕ, ◌≡◌, List, [], ◌∷◌, Some, None, map, refl}
use Rattle.std.specs.Prelude.{codes}
use Rattle.go_scope.specs.declared.model.Block.TheVariants as blocks
use Rattle.go_scope.specs.declared.model.Role.{Role}
use Rattle.go_scope.specs.declared.model.Role.TheVariants.{Use, Declaring, LeftName, NotLexical}
use Rattle.go_scope.specs.declared.model.Purpose.TheVariants as purpose
use Rattle.go_scope.specs.Site.{Site, TokenSpellings}
use Rattle.go_scope.specs.ExpressionSites.{type_sites, expr_sites, literal_sites, element_sites, link_sites, argument_sites}
use Rattle.go_scope.specs.StatementSites.{simple_sites, local_sites, separated_sites, group_sites, init_sites, for_sites, statement_sites, block_sites}
use Rattle.go_scope.specs.StatementSites.{statements_sites, if_sites, else_sites}
use Rattle.go_scope.specs.FileSites.{func_sites, param_sites, result_sites, receiver_sites, import_sites, imports_sites}
use Rattle.go_ast.specs.declared.syntax.StepOp.TheVariants as step
use Rattle.go_ast.specs.Tree.{Item, single, several, Named, Local, Imported, Number, Name, Blank, Composite, Chain, no_link, selector, call, no_argument}
use Rattle.go_ast.specs.Tree.{literal, no_element, element, Alone, Step, Define, Assign, clauses, Empty, Var, Simple, If, For, block, no_statement}
use Rattle.go_ast.specs.Tree.{statement, if_tree, else_block, no_result}

-- the number and the role of an identifier
abbrev mark : Site → ℕ × Role
mark x = (x.place.index, x.role)

abbrev marks : List Site → List (ℕ × Role)
marks xs = map mark xs

-- a file of rank 0 in which all tokens are called `init`
abbrev source : TokenSpellings
source = record { rank = 0; spell = λ i. codes "init" }

abbrev only : {X : Type 0} → X → List (Item X)
only x = record { value = x; separator = None } ∷ []

-- `{ x := x; x }`, from token 0 on: the scope of the new x begins after the statement
pub define_example : marks (block_sites source (block 0
    (statement (Simple (Define (only (Name 1)) 2 (only (Name 3)))) (Some 4) (statement (Simple (Alone (Name 5))) None no_statement)) 6)) ≡
    (1, LeftName (blocks.Inner 0 0 6) 4) ∷ (3, Use) ∷ (5, Use) ∷ []
unfolding block_sites statements_sites statement_sites simple_sites expr_sites
define_example = refl

-- `{ _, x := f() }`: a `_` declares nothing, and the scope of the last statement's x is empty
pub blank_example : marks (block_sites source (block 0
    (statement (Simple (Define (record { value = Blank 1; separator = Some 2 } ∷ record { value = Name 3; separator = None } ∷ []) 4
    (only (Chain (Name 5) (call 6 no_argument 7 no_link))))) None no_statement) 8)) ≡
    (1, NotLexical purpose.Blank) ∷ (3, LeftName (blocks.Inner 0 0 8) 8) ∷ (5, Use) ∷ []
unfolding block_sites statements_sites statement_sites simple_sites expr_sites link_sites argument_sites
blank_example = refl

-- `{ var ( a int ; b = a ) ; }`: the scope of each variable of a group begins at the token after its spec
pub var_example : marks (block_sites source (block 0 (statement (Var 1 (several 2
    (record { value = record { names = only (Named 3); type_use = Some (Local 4); values = None }; separator = Some 5 } ∷
    record { value = record { names = only (Named 6); type_use = None; values = Some (7, only (Name 8)) }; separator = None } ∷ []) 9)) (Some 10)
    (statement Empty None no_statement)) 11)) ≡
    (3, Declaring (blocks.Inner 0 0 11) 5) ∷ (4, Use) ∷ (6, Declaring (blocks.Inner 0 0 11) 9) ∷ (8, Use) ∷ []
unfolding block_sites statements_sites statement_sites group_sites separated_sites local_sites expr_sites type_sites
var_example = refl

-- `{ if x := 1; x { } else { x } }`: header and branches share the block of the `if`
pub if_example : marks (block_sites source (block 0
    (statement (If (if_tree 1 (Some (record { simple = Some (Define (only (Name 2)) 3 (only (Number 4))); semicolon = 5 })) (Name 6)
    (block 7 (statement Empty None no_statement) 8) (else_block 9 (block 10 (statement (Simple (Alone (Name 11))) None no_statement) 12)))) None
    no_statement) 13)) ≡
    (2, LeftName (blocks.Inner 0 1 13) 5) ∷ (6, Use) ∷ (11, Use) ∷ []
unfolding block_sites statements_sites statement_sites if_sites else_sites init_sites simple_sites expr_sites
if_example = refl

-- `{ for i := 0; i; i++ { var i int } }`: the body is a block inside that of the `for`
pub for_example : marks (block_sites source (block 0
    (statement (For 1 (clauses (Some (Define (only (Name 2)) 3 (only (Number 4)))) 5 (Some (Name 6)) 7 (Some (Step (Name 8) step.Increment 9)))
    (block 10 (statement (Var 11 (single (record { names = only (Named 12); type_use = Some (Local 13); values = None }))) None no_statement) 14)) None
    no_statement) 15)) ≡
    (2, LeftName (blocks.Inner 0 1 15) 5) ∷ (6, Use) ∷ (8, Use) ∷ (12, Declaring (blocks.Inner 0 10 14) 14) ∷ (13, Use) ∷ []
unfolding block_sites statements_sites statement_sites for_sites group_sites local_sites simple_sites expr_sites type_sites
for_example = refl

-- `_ = p.T { k : v } . f`: a composite literal key and a name after a dot are no lexical uses
pub literal_example : marks (simple_sites source (blocks.Inner 0 0 20) 13 (Assign (only (Blank 1)) 2 (only (Chain (Composite (literal (Imported 3 4 5) 6
    (element (Some (7, 8)) (Name 9) None no_element) 10)) (selector 11 12 no_link))))) ≡
    (1, NotLexical purpose.Blank) ∷ (3, Use) ∷ (5, NotLexical purpose.Selected) ∷ (7, NotLexical purpose.Key) ∷ (9, Use) ∷ (12, NotLexical purpose.Selected)
    ∷ []
unfolding simple_sites expr_sites literal_sites element_sites link_sites type_sites
literal_example = refl

-- `func init(x int) { }` declares no name of the package, and the scope of its parameter begins with the body
pub init_example : marks (func_sites source (record {
  receiver = None;
  name = 1;
  lparen = 2;
  params = only (record { names = only (Named 3); type_use = Local 4 });
  rparen = 5;
  result = no_result;
  body = block 6 (statement Empty None no_statement) 7;
})) ≡
    (1, NotLexical purpose.InitFunction) ∷ (3, Declaring (blocks.Inner 0 6 7) 6) ∷ (4, Use) ∷ []
unfolding func_sites param_sites result_sites block_sites statements_sites statement_sites type_sites
init_example = refl

-- `func (t *T) m() { t }`: a method is a member, and the scope of its receiver begins with the body
pub method_example : marks (func_sites source (record {
  receiver = Some (record { lparen = 1; name = Named 2; star = Some 3; type_name = 4; comma = None; rparen = 5 });
  name = 6;
  lparen = 7;
  params = [];
  rparen = 8;
  result = no_result;
  body = block 9 (statement (Simple (Alone (Name 10))) None no_statement) 11;
})) ≡
    (2, Declaring (blocks.Inner 0 9 11) 9) ∷ (4, Use) ∷ (6, NotLexical purpose.Member) ∷ (10, Use) ∷ []
unfolding func_sites receiver_sites param_sites result_sites block_sites statements_sites statement_sites simple_sites expr_sites
method_example = refl

-- `import ( k "a" ; "b" )`: the scope of an import's name is its file, and the literal of an import without a name declares nothing yet
pub import_example : marks (imports_sites source (record {
  keyword = 0;
  imports = several 1 (record { value = record { name = Some 2; path = 3 }; separator = Some 4 } ∷
      record { value = record { name = None; path = 5 }; separator = None } ∷ []) 6;
  semicolon = 7;
})) ≡
    (2, Declaring (blocks.File 0) 0) ∷ (3, NotLexical purpose.ImportPath) ∷ (5, NotLexical purpose.UnnamedImport) ∷ []
unfolding imports_sites import_sites group_sites separated_sites
import_example = refl
