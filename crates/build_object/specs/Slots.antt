-- The slots of a function: its receiver, its parameters, and the locals that its body declares, in the order of the file. Each is known by
-- the token that declares it.
use Rattle.std.specs.Prelude.{ℕ, List, [], ◌∷◌, ◌++◌, Option, Some, None, option_to_list}
use Rattle.std.specs.List.{flat_map}
use Rattle.go_ast.specs.Tree.{Item, SimpleTree, Alone, Step, Update, Assign, Define, LocalTree, InitTree, ForTree, forever, while, clauses}
use Rattle.go_ast.specs.Tree.{StatementTree, Empty, Var, Simple, Inner, If, For, Break, Continue, Return, BlockTree, block, StatementTrees, no_statement}
use Rattle.go_ast.specs.Tree.{statement, IfTree, if_tree, ElseTree, no_else, else_if, else_block, ReceiverTree, ParamTree, FuncTree}
use Rattle.types_expr.specs.World.{World}
use Rattle.types_declared.specs.Files.{group_items}
use Rattle.types_stmt.specs.Sides.{named, ident_place, defined_name}

-- The token of the receiver, also where it is blank.
abbrev pub receiver_places : Option ReceiverTree → List ℕ
receiver_places None = []
receiver_places (Some r) = ident_place r.name ∷ []

-- The tokens of the parameters, blank ones too.
abbrev pub parameter_places : List (Item ParamTree) → List ℕ
parameter_places ps = flat_map (λ i. flat_map (λ n. ident_place n.value ∷ []) i.value.names) ps

-- The tokens of the locals that a `var` line declares. A `_` declares none.
abbrev pub local_places : LocalTree → List ℕ
local_places l = flat_map (λ i. option_to_list (named i.value)) l.names

-- The tokens of the locals that a simple statement declares.
unfoldable pub simple_places : World → SimpleTree → List ℕ
simple_places w (Alone e) = []
simple_places w (Step e o p) = []
simple_places w (Update x o p y) = []
simple_places w (Assign xs p ys) = []
simple_places w (Define xs p ys) = flat_map (λ i. option_to_list (defined_name w i.value)) xs

-- The tokens of the locals that an optional simple statement declares.
abbrev pub optional_places : World → Option SimpleTree → List ℕ
optional_places w None = []
optional_places w (Some a) = simple_places w a

-- The tokens of the locals that are declared before the condition of an `if`.
abbrev pub init_places : World → Option InitTree → List ℕ
init_places w None = []
init_places w (Some i) = optional_places w i.simple

-- The tokens of the locals that the header of a `for` declares.
unfoldable pub header_places : World → ForTree → List ℕ
header_places w forever = []
header_places w (while e) = []
header_places w (clauses init p condition q post) = optional_places w init ++ optional_places w post

unfoldable mutual
  -- The tokens of the locals that a statement declares, also in its blocks.
  pub statement_places : World → StatementTree → List ℕ
  statement_places w Empty = []
  statement_places w (Var p g) = flat_map local_places (group_items g)
  statement_places w (Simple a) = simple_places w a
  statement_places w (Inner b) = block_places w b
  statement_places w (If i) = if_places w i
  statement_places w (For p h b) = header_places w h ++ block_places w b
  statement_places w (Break p) = []
  statement_places w (Continue p) = []
  statement_places w (Return p es) = []

  -- The tokens of the locals that a block declares.
  pub block_places : World → BlockTree → List ℕ
  block_places w (block o ss c) = statements_places w ss

  -- The tokens of the locals that a list of statements declares.
  pub statements_places : World → StatementTrees → List ℕ
  statements_places w no_statement = []
  statements_places w (statement a p rest) = statement_places w a ++ statements_places w rest

  -- The tokens of the locals that an `if` declares.
  pub if_places : World → IfTree → List ℕ
  if_places w (if_tree p init e b otherwise) = init_places w init ++ (block_places w b ++ else_places w otherwise)

  -- The tokens of the locals that the code behind an `else` declares.
  pub else_places : World → ElseTree → List ℕ
  else_places w no_else = []
  else_places w (else_if p i) = if_places w i
  else_places w (else_block p b) = block_places w b

-- The slots of a function: for each, the token of its declaration.
abbrev pub slots_of : World → FuncTree → List ℕ
slots_of w f = receiver_places f.receiver ++ (parameter_places f.params ++ block_places w f.body)
