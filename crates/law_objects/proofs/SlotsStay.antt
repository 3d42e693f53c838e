-- What code asks of worlds beside members is the same in worlds that differ in their members alone: slots and types.
use Rattle.std.proofs.Common.{ℕ, ◌≡◌, ◌++◌, Option, Some, None, refl, ap}
use Rattle.std.proofs.Math.Path.{ap₂}
use Rattle.go_ast.specs.Tree.{BodyTree, FuncTree, SimpleTree, InitTree, ForTree, StatementTree, BlockTree, StatementTrees, IfTree, ElseTree}
use Rattle.go_ast.specs.Tree as tree
use Rattle.types_expr.specs.World.{World}
use Rattle.types_expr.specs.Judge.{judge_type, imported_type}
use Rattle.types_stmt.specs.Sides.{defined_name}
use Rattle.build_object.specs.Lines.{FunctionName}
use Rattle.build_object.specs.Objects.{definition_of, parameters_of, results_of}
use Rattle.build_object.specs.Slots.{simple_places, optional_places, init_places, header_places, statement_places, block_places, statements_places}
use Rattle.build_object.specs.Slots.{if_places, else_places, receiver_places, parameter_places, slots_of}
use Rattle.law_changed_types.proofs.Agreement.{Members, with_members}

module _ (v : World) (m : Members) where
  abbrev x : World
  x = with_members v m

  pub same_definition : (asks : ℕ → Option FunctionName) (b : BodyTree) → definition_of x asks b ≡ definition_of v asks b
  unfolding definition_of judge_type imported_type
  same_definition asks (tree.Other t) = refl
  same_definition asks (tree.Struct k o fs c) = refl
  same_definition asks (tree.Interface k o ms c) = refl

  pub same_parameters : (f : FuncTree) → parameters_of x f ≡ parameters_of v f
  unfolding judge_type imported_type
  same_parameters f = refl

  pub same_results : (f : FuncTree) → results_of x f ≡ results_of v f
  unfolding judge_type imported_type
  same_results f = refl

  simple : (a : SimpleTree) → simple_places x a ≡ simple_places v a
  unfolding simple_places defined_name
  simple (tree.Alone e) = refl
  simple (tree.Step e o p) = refl
  simple (tree.Update a o p b) = refl
  simple (tree.Assign ls p rs) = refl
  simple (tree.Define ls p rs) = refl

  optional : (a : Option SimpleTree) → optional_places x a ≡ optional_places v a
  optional None = refl
  optional (Some a) = simple a

  init : (a : Option InitTree) → init_places x a ≡ init_places v a
  init None = refl
  init (Some a) = optional a.simple

  header : (a : ForTree) → header_places x a ≡ header_places v a
  unfolding header_places
  header tree.forever = refl
  header (tree.while e) = refl
  header (tree.clauses a p c q b) = ap₂ (λ k l. k ++ l) (optional a) (optional b)

  mutual
    unfolding statement_places

    statement : (a : StatementTree) → statement_places x a ≡ statement_places v a
    statement tree.Empty = refl
    statement (tree.Var p g) = refl
    statement (tree.Simple a) = simple a
    statement (tree.Inner b) = block b
    statement (tree.If i) = choice i
    statement (tree.For p h b) = ap₂ (λ k l. k ++ l) (header h) (block b)
    statement (tree.Break p) = refl
    statement (tree.Continue p) = refl
    statement (tree.Return p es) = refl

    block : (b : BlockTree) → block_places x b ≡ block_places v b
    block (tree.block o ss c) = statements ss

    statements : (ss : StatementTrees) → statements_places x ss ≡ statements_places v ss
    statements tree.no_statement = refl
    statements (tree.statement a p rest) = ap₂ (λ k l. k ++ l) (statement a) (statements rest)

    choice : (i : IfTree) → if_places x i ≡ if_places v i
    choice (tree.if_tree p i e b otherwise) = ap₂ (λ k l. k ++ l) (init i) (ap₂ (λ k l. k ++ l) (block b) (other otherwise))

    other : (o : ElseTree) → else_places x o ≡ else_places v o
    other tree.no_else = refl
    other (tree.else_if p i) = choice i
    other (tree.else_block p b) = block b

  pub same_slots : (f : FuncTree) → slots_of x f ≡ slots_of v f
  same_slots f = ap (λ k. receiver_places f.receiver ++ (parameter_places f.params ++ k)) (block f.body)
