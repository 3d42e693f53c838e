-- Small statements that keep the typing rules, and some that do not.
use Rattle.std.proofs.Common.{◌==◌, if◌then◌else◌, [], ◌∷◌, false, Some, None, refl}
use Rattle.go_ast.specs.declared.syntax.StepOp.TheVariants as step
use Rattle.go_ast.specs.Tree.{Item, ExprTree, SimpleTree}
use Rattle.go_ast.specs.Tree as tree
use Rattle.types_expr.specs.declared.types.Basic.TheVariants as basic
use Rattle.types_expr.specs.Types.{PlainType, BasicType, Struct, Nil, Broken}
use Rattle.types_expr.specs.World.{World, Locals, Local, Means, no_locals, declared}
use Rattle.law_typing.specs.Fits.{identical}
use Rattle.law_typing.specs.Operators.{by_type}
use Rattle.law_typing.specs.Names.{a_local}
use Rattle.law_typing.specs.Meanings.{number, name}
use Rattle.law_typing.specs.Assignments.{DefaultsTo, by_default, fresh, fitting, none_given, also_given, no_expression, also_value, values, no_name}
use Rattle.law_typing.specs.Assignments.{new_local}
use Rattle.law_typing.specs.Simple.{SimpleIsTyped, no_definition, a_new_name, a_definition, a_step}
use Rattle.law_typing.specs.Statements.{StatementIsTyped, a_simple, a_return, BlockIsTyped, a_block, no_more, one_more}

-- the names at tokens 0 and 6 are those of a local that is declared at token 0
abbrev world : World
world = record {
  bound = λ p. if p == 0 then Local 0 else
      (if p == 6 then Local 0 else Means Broken);
  member = λ n t. None;
  definition = λ s. Struct s;
  implements = λ t s. false;
}

abbrev int : PlainType
int = BasicType basic.Int

abbrev item : ExprTree → Item ExprTree
item e = record { value = e; separator = None }

abbrev with_int : Locals
with_int = declared no_locals 0 (Some int)

-- `x := 1` declares an int
abbrev definition_tree : SimpleTree
definition_tree = tree.Define (item (tree.Name 0) ∷ []) 1 (item (tree.Number 2) ∷ [])

definition : SimpleIsTyped world no_locals definition_tree with_int
definition = a_definition (a_new_name refl refl no_definition) (values (also_value number no_expression)) (also_given (fresh by_default) none_given)
    (new_local by_default no_name)

-- after it, `x++` is typed
increment : SimpleIsTyped world with_int (tree.Step (tree.Name 6) step.Increment 7) with_int
increment = a_step (name (a_local refl refl)) (by_type refl)

-- `{ x := 1; return x }` is typed in a function with the result int
block : BlockIsTyped world (int ∷ []) no_locals (tree.block 10 (tree.statement (tree.Simple definition_tree) (Some 3) (tree.statement (tree.Return 5 (item
    (tree.Name 6) ∷ [])) None tree.no_statement)) 11) with_int
block = a_block (one_more (a_simple definition) (one_more (a_return (values (also_value (name (a_local refl refl)) no_expression)) (also_given
    (fitting identical) none_given)) no_more))

-- `x := nil` is not typed
no_nil : (t : PlainType) → DefaultsTo Nil t → ⊥
no_nil t g = elim g [ ]

-- `return` without a value is not typed in a function with a result
no_return : (w : World) (before after : Locals) → StatementIsTyped w (int ∷ []) before (tree.Return 0 []) after → ⊥
no_return w before after (a_return (values no_expression) t) = elim t [ ]
