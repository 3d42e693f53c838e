-- Computed examples of marks: stray `break` statements, and `:=` statements.
use Rattle.std.proofs.Common.{◌≡◌, false, List, [], ◌∷◌, refl}
use Rattle.std.specs.Prelude.{Some, None}
use Rattle.go_ast.specs.Tree.{Item, ExprTree, Name, Number, Define, forever, clauses, StatementTree, If, For, Break, Continue, BlockTree, block}
use Rattle.go_ast.specs.Tree.{no_statement, statement, if_tree, no_else}
use Rattle.base_files.specs.declared.fault_kind.FaultKind.TheVariants as kind
use Rattle.types_declared.specs.declared.states.ImportState.TheVariants as states
use Rattle.types_declared.specs.States.{import_fault}
use Rattle.types_resolve.specs.StatementMarks.{Defines, Stray, statement_marks, statements_marks, block_marks, if_marks, else_marks, simple_marks, for_marks}

abbrev lone : StatementTree → BlockTree
lone s = block 10 (statement s None no_statement) 20

-- `break` outside a `for`
break_alone : statement_marks false (Break 5) ≡ Stray 5 ∷ []
unfolding statement_marks
break_alone = refl

-- `for { break }`
break_in_for : statement_marks false (For 3 forever (lone (Break 11))) ≡ []
unfolding statement_marks statements_marks block_marks for_marks
break_in_for = refl

-- `for { if x { continue } }`
continue_in_if_in_for : statement_marks false (For 3 forever (lone (If (if_tree 11 None (Name 12) (lone (Continue 14)) no_else)))) ≡ []
unfolding statement_marks statements_marks block_marks if_marks else_marks for_marks
continue_in_if_in_for = refl

-- `if x { break }`
break_in_if : statement_marks false (If (if_tree 3 None (Name 4) (lone (Break 11)) no_else)) ≡ Stray 11 ∷ []
unfolding statement_marks statements_marks block_marks if_marks else_marks
break_in_if = refl

abbrev one : ExprTree → List (Item ExprTree)
one e = record { value = e; separator = None } ∷ []

-- `for i := 1; ; { break }`
define_in_header : statement_marks false (For 3 (clauses (Some (Define (one (Name 4)) 5 (one (Number 6)))) 7 None 8 None) (lone (Break 11))) ≡ Defines
    (one (Name 4)) 5 ∷ []
unfolding statement_marks statements_marks block_marks simple_marks for_marks
define_in_header = refl

-- the fault of each state of an imported path
missing_is : import_fault states.Missing ≡ Some kind.Missing
missing_is = refl

good_is : import_fault states.Good ≡ None
good_is = refl
