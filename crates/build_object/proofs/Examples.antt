-- Whole objects, and the code of each form, by computation.
use Rattle.std.proofs.Common.{ℕ, ◌≡◌, ◌==◌, ◌||◌, [], ◌∷◌, ◌++◌, List, Option, Some, None, Bool, true, false, refl, map, if◌then◌else◌}
use Rattle.std.specs.Prelude.{codes}
use Rattle.std.specs.Fmt.{digits}
use Rattle.std.specs.List.{flat_map}
use Rattle.go_ast.specs.declared.syntax.BinaryOp.TheVariants as op
use Rattle.go_ast.specs.declared.syntax.PrefixOp.TheVariants as prefix
use Rattle.go_ast.specs.declared.syntax.StepOp.TheVariants as step
use Rattle.go_ast.specs.declared.syntax.UpdateOp.TheVariants as update
use Rattle.go_ast.specs.Tree as tree
use Rattle.go_ast.specs.Tree.{ExprTree, Number, Text, Name, Blank, Composite, Paren, Prefix, Address, Chain, Binary, no_operand, operand, LinkTrees}
use Rattle.go_ast.specs.Tree.{no_link, selector, index, call, ArgumentTrees, no_argument, argument, literal, no_element, element}
use Rattle.go_ast.specs.Tree.{StatementTree, StatementTrees, no_statement, statement, BlockTree, block}
use Rattle.types_expr.specs.declared.types.Basic.TheVariants as basic
use Rattle.types_expr.specs.declared.types.Builtin.TheVariants as builtin
use Rattle.types_expr.specs.declared.symbol.Symbol.{Symbol}
use Rattle.types_expr.specs.Types.{PlainType, BasicType, Defined, Pointer, Slice, Struct, Typed, Untyped, Nil, Value, TypeName, AFieldOf}
use Rattle.types_expr.specs.Types.{Function, BuiltinName, Package, Broken}
use Rattle.types_expr.specs.World.{Bound, Means, Member, AField, AMethod}
use Rattle.types_expr.specs.World.{Local as LocalName}
use Rattle.types_expr.specs.Judge.{judge_type, named_type}
use Rattle.types_stmt.specs.Sides.{ident_place, defined_name}
use Rattle.build_object.specs.Lines.{GlobalName, Method}
use Rattle.build_object.specs.Lines.{Plain as PlainFunction}
use Rattle.build_object.specs.Lines.{pops}
use Rattle.build_object.specs.Source.{Source}
use Rattle.build_object.specs.Operands.{bound_name, named_meaning, member_operand, typed_selector, selected_by, calling, left_by_call}
use Rattle.build_object.specs.Expressions.{operand_of, operations, linked, argument_lines, argument_count, element_count, literal_lines, keyed_lines}
use Rattle.build_object.specs.Expressions.{bare_lines, typed_literal, value_lines, address_lines}
use Rattle.build_object.specs.Statements.{from_last, set_left, target_lines, simple_lines, zeros, first_values, local_lines, statement_lines, block_lines}
use Rattle.build_object.specs.Statements.{statements_lines, if_lines, else_lines, body_lines}
use Rattle.build_object.specs.Slots.{simple_places, header_places, statement_places, block_places, statements_places}
use Rattle.build_object.specs.Names.{body_positions, is_named_init}
use Rattle.build_object.specs.Objects.{Object, variable_declarations, declared_by, declared_in, names_behind_all, declared_from, object_of}
use Rattle.build_object.specs.Text.{function_text, type_text, operator_text, words_of, ended, code_text}
use Rattle.build_object.specs.ObjectText.{declaration_text, object_text}

abbrev int : PlainType
int = BasicType basic.Int

abbrev here : List ℕ → GlobalName
here name = record { path = codes "a"; name = name }

abbrev no_names : Symbol → Option GlobalName
no_names s = None

abbrev lines : List (List ℕ) → List ℕ
lines ls = flat_map ended ls

abbrev item : {X : Type 0} → X → tree.Item X
item x = record { value = x; separator = None }

-- a block of these statements; the places of its braces and semicolons do not matter
abbrev body : StatementTrees → BlockTree
body ss = block 90 ss 91

abbrev do_then : StatementTree → StatementTrees → StatementTrees
do_then s rest = statement s (Some 92) rest

-- `package a`, `var x int`, `func F(y int) int { return x + y }`, its tokens numbered from 0
abbrev first_bound : ℕ → Bound
first_bound n =
    if n == 5 || (n == 11 || n == 13) then Means (TypeName int) else
    (if n == 4 || n == 16 then Means (Value (Typed int) true) else (if n == 10 || n == 18 then LocalName 10 else Means Broken))

abbrev first_source : Source
first_source = record {
  world = record { bound = first_bound; member = λ n t. None; definition = λ s. Struct s; implements = λ t s. false };
  before = λ n. None;
  entered = λ n. None;
  global = λ n. if n == 4 || n == 16 then Some (here (codes "x")) else (if n == 8 then Some (here (codes "F")) else None);
  asks = λ n. None;
  truth = λ n. false;
  number = λ n. None;
  text = λ n. None;
  function = λ s. None;
  position = λ s. None;
  asked = λ s. None;
}

abbrev first_tree : tree.FileTree
first_tree = record {
  keyword = 0;
  name = 1;
  semicolon = 2;
  imports = [];
  decls = tree.VarDecl 3 (tree.single (record { names = item 4 ∷ []; type_use = tree.Local 5; values = None })) 6
      ∷ tree.FuncDecl 7 (record {
        receiver = None;
        name = 8;
        lparen = 9;
        params = item (record { names = item (tree.Named 10) ∷ []; type_use = tree.Local 11 }) ∷ [];
        rparen = 12;
        result = tree.one_result (tree.Local 13);
        body = block 14 (statement (tree.Return 15 (item (Binary (Name 16) (operand op.Add 17 (Name 18) no_operand)) ∷ [])) (Some 19) no_statement) 20;
      }) 21 ∷ [];
}

abbrev first_object : Object
first_object = object_of (first_source ∷ []) (codes "a") (codes "a") [] (PlainFunction (here (codes "F")) ∷ []) (first_tree ∷ [])

pub first_text : object_text no_names first_object ≡ lines
    (codes "object a a" ∷ codes "var a#x int" ∷ codes "func a#F (int) (int) 1 5" ∷ codes "global a#x" ∷ codes "local 0" ∷ codes "op +" ∷ codes "ret 1" ∷
    codes "end" ∷ [])
unfolding operand_of operations bound_name named_meaning statement_lines block_lines statements_lines statement_places block_places statements_places
    ident_place judge_type named_type variable_declarations declared_by declared_in names_behind_all declared_from function_text type_text operator_text
    words_of
    declaration_text digits
first_text = refl

-- `package a`, `func S(n int) int { t := 0; for i := 1; i <= n; i++ { t += i }; return t }`: 5 is n, 10 t, 14 i
abbrev second_bound : ℕ → Bound
second_bound n =
    if n == 6 || n == 8 then Means (TypeName int) else (if n == 5 || n == 19 then LocalName 5 else (if n == 10 || (n == 24 || n == 30) then LocalName 10
    else (if n == 14 || (n == 17 || (n == 21 || n == 26)) then LocalName 14 else Means Broken)))

abbrev second_source : Source
second_source = record {
  world = record { bound = second_bound; member = λ n t. None; definition = λ s. Struct s; implements = λ t s. false };
  before = λ n. None;
  entered = λ n. None;
  global = λ n. None;
  asks = λ n. None;
  truth = λ n. false;
  number = λ n. if n == 12 then Some 0 else (if n == 16 then Some 1 else None);
  text = λ n. None;
  function = λ s. None;
  position = λ s. None;
  asked = λ s. None;
}

abbrev second_for : StatementTree
second_for = tree.For 13 (tree.clauses (Some (tree.Define (item (Name 14) ∷ []) 15 (item (Number 16) ∷ []))) 93
    (Some (Binary (Name 17) (operand op.LessEqual 18 (Name 19) no_operand))) 20 (Some (tree.Step (Name 21) step.Increment 22)))
    (body (do_then (tree.Simple (tree.Update (Name 24) update.Add 25 (Name 26))) no_statement))

abbrev second_tree : tree.FileTree
second_tree = record {
  keyword = 0;
  name = 1;
  semicolon = 2;
  imports = [];
  decls = tree.FuncDecl 3 (record {
    receiver = None;
    name = 4;
    lparen = 94;
    params = item (record { names = item (tree.Named 5) ∷ []; type_use = tree.Local 6 }) ∷ [];
    rparen = 7;
    result = tree.one_result (tree.Local 8);
    body = body (do_then (tree.Simple (tree.Define (item (Name 10) ∷ []) 11 (item (Number 12) ∷ [])))
        (do_then second_for (do_then (tree.Return 29 (item (Name 30) ∷ [])) no_statement)));
  }) 95 ∷ [];
}

abbrev second_object : Object
second_object = object_of (second_source ∷ []) (codes "a") (codes "a") [] (PlainFunction (here (codes "S")) ∷ []) (second_tree ∷ [])

pub second_text : object_text no_names second_object ≡ lines
    (codes "object a a" ∷ codes "func a#S (int) (int) 3 24" ∷ codes "int 0" ∷ codes "set 1" ∷ codes "int 1" ∷ codes "set 2" ∷ codes "local 2" ∷ codes "local 0"
    ∷ codes "op <=" ∷ codes "jz 13" ∷ codes "addrlocal 1" ∷ codes "dup" ∷ codes "load" ∷ codes "local 2" ∷ codes "op +" ∷ codes "assign 1" ∷ codes
    "addrlocal 2" ∷ codes "dup" ∷ codes "load" ∷ codes "int 1" ∷ codes "op +"
    ∷ codes "assign 1" ∷ codes "jump -17" ∷ codes "local 1" ∷ codes "ret 1" ∷ codes "end" ∷ [])
unfolding operand_of operations bound_name named_meaning simple_lines set_left from_last statement_lines block_lines statements_lines simple_places
    header_places statement_places block_places statements_places ident_place defined_name judge_type named_type declared_by declared_in names_behind_all
    declared_from function_text type_text operator_text words_of declaration_text digits
second_text = refl

-- The code of each form of expression, by the token that it begins with.
--
--   10  a local s of slot 0
--   11  a local p of slot 1, a pointer to the struct T
--   12  a local t of slot 2, a T
--   13  a package-level variable
--   14  true
--   15  false
--   16  nil
--   20  a function f with two results
--   21  the type T
--   22  the package b
--   23  the variable X of b
--   30  len, 31 append, 32 print, 33 panic
--   40  the field 1 of T behind t, 41 behind p
--   42  the method m() of T behind t, 43 behind p
--   44  the method q() of *T behind t, 45 behind p
--   46  the key of the field 1
--   50  the integer 7
--   51  the string "hi"
--   60  the type int
abbrev struct_t : Symbol
struct_t = record { «package» = codes "a"; rank = 0 }

abbrev form_bound : ℕ → Bound
form_bound n =
    if n == 10 || (n == 11 || n == 12) then LocalName n else
    (if n == 13 || n == 23 then Means (Value (Typed int) true) else
    (if n == 14 || n == 15 then Means (Value (Untyped basic.Bool) false) else (if n == 16 then Means (Value Nil false)
    else (if n == 20 then Means (Function (record { parameters = []; results = int ∷ int ∷ [] })) else
    (if n == 21 then Means (TypeName (Defined struct_t)) else (if n == 22 then Means Package
    else (if n == 30 then Means (BuiltinName builtin.Len) else
    (if n == 31 then Means (BuiltinName builtin.Append) else
    (if n == 32 then Means (BuiltinName builtin.Print) else (if n == 33 then Means (BuiltinName builtin.Panic)
    else (if n == 60 then Means (TypeName int) else Means Broken)))))))))))

abbrev member_symbol : ℕ → Symbol
member_symbol n = record { «package» = codes "a"; rank = n }

abbrev form_member : ℕ → Option Member
form_member n =
    if n == 40 || (n == 41 || n == 46) then Some (AField (member_symbol 5) (AFieldOf int)) else
    (if n == 42 || n == 43 then Some (AMethod (member_symbol 6) false (record { parameters = []; results = int ∷ [] }))
    else (if n == 44 || n == 45 then Some (AMethod (member_symbol 7) true (record { parameters = []; results = [] })) else None))

abbrev forms : Source
forms = record {
  world = record { bound = form_bound; member = λ n t. form_member n; definition = λ s. Struct s; implements = λ t s. false };
  before = λ n. if n == 41 || (n == 43 || n == 45) then Some (Pointer (Defined struct_t)) else
      (if n == 40 || (n == 42 || (n == 44 || n == 46)) then Some (Defined struct_t) else None);
  entered = λ n. None;
  asks = λ n. None;
  global = λ n. if n == 13 then Some (here (codes "v")) else
      (if n == 20 then Some (here (codes "f")) else (if n == 23 then Some (record { path = codes "b"; name = codes "X" }) else None));
  truth = λ n. n == 14;
  number = λ n. Some 7;
  text = λ n. Some (codes "hi");
  function = λ s. if s.rank == 6 then Some (Method (here (codes "T")) (codes "m")) else Some (Method (here (codes "T")) (codes "q"));
  position = λ s. Some 1;
  asked = λ s. None;
}

abbrev form_slots : List ℕ
form_slots = 10 ∷ 11 ∷ 12 ∷ []

abbrev t_name : Symbol → Option GlobalName
t_name s = Some (here (codes "T"))

abbrev dot : ℕ → LinkTrees → LinkTrees
dot n rest = selector 99 n rest

abbrev called : ArgumentTrees → LinkTrees
called xs = call 99 xs 99 no_link

abbrev at_index : ExprTree → LinkTrees
at_index e = index 99 e 99 no_link

abbrev one : ExprTree → ArgumentTrees
one e = argument e None no_argument

abbrev two : ExprTree → ExprTree → ArgumentTrees
two a b = argument a None (one b)

abbrev texts_of : List ExprTree → List (List ℕ)
texts_of es = map (λ e. code_text t_name (value_lines forms form_slots e)) es

abbrev addresses_of : List ExprTree → List (List ℕ)
addresses_of es = map (λ e. code_text t_name (address_lines forms form_slots e)) es

abbrev value_forms : List (ExprTree × List (List ℕ))
value_forms =
    (Number 50, codes "int 7" ∷ []) ∷
    (Text 51, codes "str x6869" ∷ []) ∷
    (Name 14, codes "bool 1" ∷ []) ∷
    (Name 15, codes "bool 0" ∷ []) ∷
    (Name 16, codes "nil" ∷ []) ∷
    (Name 11, codes "local 1" ∷ []) ∷
    (Name 13, codes "global a#v" ∷ []) ∷
    (Chain (Name 22) (dot 23 no_link), codes "global b#X" ∷ []) ∷
    (Chain (Name 12) (dot 40 no_link), codes "local 2" ∷ codes "field 1" ∷ []) ∷
    (Chain (Name 11) (dot 41 no_link), codes "local 1" ∷ codes "ptrfield 1" ∷ []) ∷
    (Chain (Name 10) (at_index (Number 50)), codes "local 0" ∷ codes "int 7" ∷ codes "index" ∷ []) ∷
    (Prefix prefix.Deref 99 (Name 11), codes "local 1" ∷ codes "load" ∷ []) ∷
    (Prefix prefix.Minus 99 (Number 50), codes "int 7" ∷ codes "neg" ∷ []) ∷
    (Prefix prefix.Not 99 (Name 14), codes "bool 1" ∷ codes "not" ∷ []) ∷
    (Prefix prefix.Plus 99 (Paren 99 (Number 50) 99), codes "int 7" ∷ []) ∷
    (Chain (Name 60) (called (one (Number 50))), codes "int 7" ∷ []) ∷
    (Binary (Name 10) (operand op.Remainder 99 (Number 50) no_operand), codes "local 0" ∷ codes "int 7" ∷ codes "op %" ∷ []) ∷
    (Binary (Name 14) (operand op.And 99 (Name 15) no_operand), codes "bool 1" ∷ codes "dup" ∷ codes "jz 2" ∷ codes "pop" ∷ codes "bool 0" ∷ []) ∷ (
      Binary (Name 14) (operand op.Or 99 (Name 15) (operand op.Or 99 (Name 14) no_operand)),
      codes "bool 1" ∷ codes "dup" ∷ codes "jnz 2" ∷ codes "pop" ∷ codes "bool 0" ∷ codes "dup" ∷ codes "jnz 2" ∷ codes "pop" ∷ codes "bool 1" ∷ [],
    ) ∷
    (Chain (Name 20) (called (two (Name 10) (Number 50))), codes "local 0" ∷ codes "int 7" ∷ codes "call a#f 2" ∷ []) ∷
    -- a method by value, of a value and through a pointer; a method by pointer, of a pointer and of a value
    (Chain (Name 12) (dot 42 (called no_argument)), codes "local 2" ∷ codes "call a#T#m 1" ∷ []) ∷
    (Chain (Name 11) (dot 43 (called no_argument)), codes "local 1" ∷ codes "load" ∷ codes "call a#T#m 1" ∷ []) ∷
    (Chain (Name 11) (dot 45 (called no_argument)), codes "local 1" ∷ codes "call a#T#q 1" ∷ []) ∷
    (Chain (Paren 99 (Name 12) 99) (dot 44 (called (one (Number 50)))), codes "addrlocal 2" ∷ codes "int 7" ∷ codes "call a#T#q 2" ∷ []) ∷
    (Chain (Name 30) (called (one (Name 10))), codes "local 0" ∷ codes "builtin len 1" ∷ []) ∷ (
      Composite (literal (tree.Local 21) 99 (element (Some (46, 99)) (Number 50) None no_element) 99),
      codes "zero a#T" ∷ codes "int 7" ∷ codes "with 1" ∷ [],
    ) ∷ (
      Composite (literal (tree.Slice 99 99 (tree.Local 60)) 99 (element None (Number 50) (Some 99) (element None (Name 10) None no_element)) 99),
      codes "int 7" ∷ codes "local 0" ∷ codes "slice 2" ∷ [],
    ) ∷
    (Address 99 (literal (tree.Local 21) 99 no_element 99), codes "zero a#T" ∷ codes "new" ∷ []) ∷ []

pub values_by_form : texts_of (map (λ f. f.0) value_forms) ≡ map (λ f. lines f.1) value_forms
unfolding operand_of operations linked argument_lines argument_count element_count literal_lines keyed_lines bare_lines typed_literal bound_name
    named_meaning member_operand typed_selector selected_by calling left_by_call judge_type named_type function_text type_text operator_text words_of digits
values_by_form = refl

abbrev address_forms : List (ExprTree × List (List ℕ))
address_forms =
    (Name 11, codes "addrlocal 1" ∷ []) ∷
    (Name 13, codes "addrglobal a#v" ∷ []) ∷
    (Chain (Name 12) (dot 40 no_link), codes "addrlocal 2" ∷ codes "addrfield 1" ∷ []) ∷
    (Chain (Name 11) (dot 41 no_link), codes "local 1" ∷ codes "addrfield 1" ∷ []) ∷
    (Chain (Name 10) (at_index (Number 50)), codes "local 0" ∷ codes "int 7" ∷ codes "addrindex" ∷ []) ∷
    (Prefix prefix.Deref 99 (Name 11), codes "local 1" ∷ []) ∷
    (Paren 99 (Name 12) 99, codes "addrlocal 2" ∷ []) ∷ []

pub addresses_by_form : addresses_of (map (λ f. f.0) address_forms) ≡ map (λ f. lines f.1) address_forms
unfolding operand_of linked bound_name named_meaning member_operand typed_selector selected_by words_of digits
addresses_by_form = refl

-- statements of a function with one result
abbrev code_of : StatementTree → List ℕ
code_of s = code_text t_name (body_lines forms form_slots 1 (body (do_then s no_statement)))

abbrev exit_if : StatementTree → StatementTree
exit_if s = tree.If (tree.if_tree 99 None (Name 14) (body (do_then s no_statement)) tree.no_else)

abbrev statement_forms : List (StatementTree × List (List ℕ))
statement_forms =
    -- `var x, _ = 7, s`, `var x int`
    (
      tree.Var 99 (tree.single (record {
        names = item (tree.Named 11) ∷ item (tree.Underscore 99) ∷ [];
        type_use = None;
        values =
            Some (99, item (Number 50) ∷ item (Name 10) ∷ []);
      })),
      codes "int 7" ∷ codes "local 0" ∷ codes "pop" ∷ codes "set 1" ∷ [],
    ) ∷ (
      tree.Var 99 (tree.single (record { names = item (tree.Named 11) ∷ item (tree.Named 12) ∷ []; type_use = Some (tree.Local 60); values = None })),
      codes "zero int" ∷ codes "zero int" ∷ codes "set 2" ∷ codes "set 1" ∷ [],
    ) ∷
    -- `_, p := f()`
    (
      tree.Simple (tree.Define (item (Blank 99) ∷ item (Name 11) ∷ []) 99 (item (Chain (Name 20) (called no_argument)) ∷ [])),
      codes "call a#f 0" ∷ codes "set 1" ∷ codes "pop" ∷ [],
    ) ∷
    -- `_, s = 7, p`
    (
      tree.Simple (tree.Assign (item (Blank 99) ∷ item (Name 10) ∷ []) 99 (item (Number 50) ∷ item (Name 11) ∷ [])),
      codes "blank" ∷ codes "addrlocal 0" ∷ codes "int 7" ∷ codes "local 1" ∷ codes "assign 2" ∷ [],
    ) ∷
    -- `s %= 7`, `s--`
    (
      tree.Simple (tree.Update (Name 10) update.Remainder 99 (Number 50)),
      codes "addrlocal 0" ∷ codes "dup" ∷ codes "load" ∷ codes "int 7" ∷ codes "op %" ∷ codes "assign 1" ∷ [],
    ) ∷ (
      tree.Simple (tree.Step (Name 10) step.Decrement 99),
      codes "addrlocal 0" ∷ codes "dup" ∷ codes "load" ∷ codes "int 1" ∷ codes "op -" ∷ codes "assign 1" ∷ [],
    ) ∷
    -- `f()`, `print(7)`
    (tree.Simple (tree.Alone (Chain (Name 20) (called no_argument))), codes "call a#f 0" ∷ codes "pop" ∷ codes "pop" ∷ []) ∷
    (tree.Simple (tree.Alone (Chain (Name 32) (called (one (Number 50))))), codes "int 7" ∷ codes "builtin print 1" ∷ []) ∷
    -- an `if` with and without `else`
    (exit_if (tree.Return 99 []), codes "bool 1" ∷ codes "jz 1" ∷ codes "ret 1" ∷ []) ∷ (
      tree.If (tree.if_tree 99 None (Name 14) (body (do_then (tree.Return 99 []) no_statement))
          (tree.else_block 99 (body (do_then tree.Empty no_statement)))),
      codes "bool 1" ∷ codes "jz 2" ∷ codes "ret 1" ∷ codes "jump 0" ∷ [],
    ) ∷
    -- loops without a condition and with one, and the ways out of them
    (
      tree.For 99 tree.forever (body (do_then (exit_if (tree.Break 99)) (do_then (tree.Continue 99) no_statement))),
      codes "bool 1" ∷ codes "jz 1" ∷ codes "jump 2" ∷ codes "jump 0" ∷ codes "jump -5" ∷ [],
    ) ∷
    (tree.For 99 (tree.while (Name 15)) (body (do_then tree.Empty no_statement)), codes "bool 0" ∷ codes "jz 1" ∷ codes "jump -3" ∷ []) ∷ (
      tree.For 99 (tree.clauses None 99 None 99 (Some (tree.Step (Name 10) step.Increment 99)))
          (body (do_then (exit_if (tree.Continue 99)) (do_then (tree.Break 99) no_statement))),
      codes "bool 1" ∷ codes "jz 1" ∷ codes "jump 1" ∷ codes "jump 7" ∷ codes "addrlocal 0" ∷ codes "dup" ∷ codes "load" ∷ codes "int 1" ∷ codes "op +" ∷
          codes "assign 1" ∷ codes "jump -11" ∷ [],
    ) ∷ []

pub statements_by_form : map (λ f. code_of f.0) statement_forms ≡ map (λ f. lines (f.1 ++ (codes "end" ∷ []))) statement_forms
unfolding operand_of operations linked argument_lines argument_count bound_name named_meaning calling left_by_call pops from_last set_left target_lines
    simple_lines zeros first_values local_lines statement_lines block_lines statements_lines if_lines else_lines judge_type named_type function_text
    type_text operator_text words_of digits
statements_by_form = refl

-- `struct { a, b int; c int }`, and names of functions
pub struct_positions : body_positions (tree.Struct 0 1
    (item (record { names = item 2 ∷ item 3 ∷ []; type_use = tree.Local 4 }) ∷ item (record { names = item 5 ∷ []; type_use = tree.Local 6 }) ∷ []) 7) ≡ 0 ∷
    1 ∷ 2 ∷ []
struct_positions = refl

pub init_is_named : is_named_init None (codes "init") ≡ true
init_is_named = refl

pub others_are_not : is_named_init None (codes "inits") ≡ false
others_are_not = refl
