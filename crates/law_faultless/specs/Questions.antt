-- The questions that the code of an expression asks beside its tree: values of literals, meanings of names, and members.
use Rattle.std.specs.Prelude.{ℕ, Bool, List, Option, Some}
use Rattle.go_ast.specs.declared.syntax.BinaryOp.{BinaryOp}
use Rattle.go_ast.specs.declared.syntax.PrefixOp.{PrefixOp}
use Rattle.go_ast.specs.Tree.{TypeTree, ExprTree, LinkTrees, OperandTrees, ArgumentTrees, LiteralTree, ElementTrees}
use Rattle.go_ast.specs.Tree as tree
use Rattle.types_expr.specs.Types.{PlainType, ValueKind, Typed, Meaning, Value, Package}
use Rattle.types_expr.specs.World.{World, Locals}
use Rattle.law_typing.specs.Names.{IsType}
use Rattle.law_typing.specs.Links.{SelectsMember, Indexes, CallGives}
use Rattle.law_typing.specs.Meanings.{HasMeaning, AreValues}

-- A question about the token with a number. `OfInteger` and `OfText`: the value of the integer or the string. `OfName`: the meaning of the
-- name. `OfExport`: the meaning of the selector of a qualified identifier.
--
-- `OfMember`: the member that the selector, or the key of a composite literal, names in this type. `OfDeclared`: the slot of the local
-- declared there. `OfLeft`: the slot of the local to which a left name of `:=` is bound.
pub data TokenQuestion : Type 0 where
  OfInteger : ℕ → TokenQuestion
  OfText : ℕ → TokenQuestion
  OfName : ℕ → TokenQuestion
  OfExport : ℕ → TokenQuestion
  OfMember : ℕ → PlainType → TokenQuestion
  OfDeclared : ℕ → TokenQuestion
  OfLeft : ℕ → TokenQuestion

mutual
  -- The code of an expression asks the question, where `locals` are in scope.
  pub data Asks (w : World) (locals : Locals) : ExprTree → TokenQuestion → Type 0 where
    for_integer : {p : ℕ} → Asks w locals (tree.Number p) (OfInteger p)
    for_text : {p : ℕ} → Asks w locals (tree.Text p) (OfText p)
    for_name : {p : ℕ} → Asks w locals (tree.Name p) (OfName p)
    in_composite : {l : LiteralTree} {q : TokenQuestion} → LiteralAsks w locals l q → Asks w locals (tree.Composite l) q
    in_paren : {o c : ℕ} {e : ExprTree} {q : TokenQuestion} → Asks w locals e q → Asks w locals (tree.Paren o e c) q
    in_prefix : {o : PrefixOp} {p : ℕ} {e : ExprTree} {q : TokenQuestion} → Asks w locals e q → Asks w locals (tree.Prefix o p e) q
    in_address : {p : ℕ} {l : LiteralTree} {q : TokenQuestion} → LiteralAsks w locals l q → Asks w locals (tree.Address p l) q
    in_chain : {e : ExprTree} {links : LinkTrees} {q : TokenQuestion} → Asks w locals e q → Asks w locals (tree.Chain e links) q
    in_links : {e : ExprTree} {links : LinkTrees} {m : Meaning} {q : TokenQuestion} → HasMeaning w locals e m → LinksAsk w locals m links q →
        Asks w locals (tree.Chain e links) q
    in_binary : {e : ExprTree} {rest : OperandTrees} {q : TokenQuestion} → Asks w locals e q → Asks w locals (tree.Binary e rest) q
    in_operands : {e : ExprTree} {rest : OperandTrees} {q : TokenQuestion} → OperandsAsk w locals rest q → Asks w locals (tree.Binary e rest) q

  -- The code of links asks the question, where the meaning before them is m.
  pub data LinksAsk (w : World) (locals : Locals) : Meaning → LinkTrees → TokenQuestion → Type 0 where
    for_member : {d n : ℕ} {rest : LinkTrees} {t : PlainType} {a : Bool} → LinksAsk w locals (Value (Typed t) a) (tree.selector d n rest) (OfMember n t)
    for_export : {d n : ℕ} {rest : LinkTrees} → LinksAsk w locals Package (tree.selector d n rest) (OfExport n)
    behind_selector : {d n : ℕ} {rest : LinkTrees} {m s : Meaning} {q : TokenQuestion} → SelectsMember w locals m n s → LinksAsk w locals s rest q →
        LinksAsk w locals m (tree.selector d n rest) q
    in_index : {o c : ℕ} {e : ExprTree} {rest : LinkTrees} {m : Meaning} {q : TokenQuestion} → Asks w locals e q → LinksAsk w locals m (tree.index o e c rest) q
    behind_index : {o c : ℕ} {e : ExprTree} {rest : LinkTrees} {m s : Meaning} {k : ValueKind} {a : Bool} {q : TokenQuestion} →
        HasMeaning w locals e (Value k a) →
        Indexes w m k s → LinksAsk w locals s rest q → LinksAsk w locals m (tree.index o e c rest) q
    in_arguments : {o c : ℕ} {xs : ArgumentTrees} {rest : LinkTrees} {m : Meaning} {q : TokenQuestion} → ArgumentsAsk w locals xs q →
        LinksAsk w locals m (tree.call o xs c rest) q
    behind_call : {o c : ℕ} {xs : ArgumentTrees} {rest : LinkTrees} {m s : Meaning} {ks : List ValueKind} {q : TokenQuestion} → AreValues w locals xs ks →
        CallGives w m ks s → LinksAsk w locals s rest q → LinksAsk w locals m (tree.call o xs c rest) q

  -- The code of one of the operands behind the first asks the question.
  pub data OperandsAsk (w : World) (locals : Locals) : OperandTrees → TokenQuestion → Type 0 where
    in_operand : {o : BinaryOp} {p : ℕ} {e : ExprTree} {rest : OperandTrees} {q : TokenQuestion} → Asks w locals e q →
        OperandsAsk w locals (tree.operand o p e rest) q
    in_later_operand : {o : BinaryOp} {p : ℕ} {e : ExprTree} {rest : OperandTrees} {q : TokenQuestion} → OperandsAsk w locals rest q →
        OperandsAsk w locals (tree.operand o p e rest) q

  -- The code of one of the arguments asks the question.
  pub data ArgumentsAsk (w : World) (locals : Locals) : ArgumentTrees → TokenQuestion → Type 0 where
    in_argument : {e : ExprTree} {c : Option ℕ} {rest : ArgumentTrees} {q : TokenQuestion} → Asks w locals e q →
        ArgumentsAsk w locals (tree.argument e c rest) q
    in_later_argument : {e : ExprTree} {c : Option ℕ} {rest : ArgumentTrees} {q : TokenQuestion} → ArgumentsAsk w locals rest q →
        ArgumentsAsk w locals (tree.argument e c rest) q

  -- The code of a composite literal asks the question.
  pub data LiteralAsks (w : World) (locals : Locals) : LiteralTree → TokenQuestion → Type 0 where
    in_elements : {x : TypeTree} {o c : ℕ} {es : ElementTrees} {t : PlainType} {q : TokenQuestion} → IsType w x t → ElementsAsk w locals t es q →
        LiteralAsks w locals (tree.literal x o es c) q

  -- The code of the elements of a composite literal of type t asks the question.
  pub data ElementsAsk (w : World) (locals : Locals) : PlainType → ElementTrees → TokenQuestion → Type 0 where
    for_key : {t : PlainType} {key : ℕ × ℕ} {e : ExprTree} {c : Option ℕ} {rest : ElementTrees} →
        ElementsAsk w locals t (tree.element (Some key) e c rest) (OfMember key.0 t)
    in_element : {t : PlainType} {key : Option (ℕ × ℕ)} {e : ExprTree} {c : Option ℕ} {rest : ElementTrees} {q : TokenQuestion} → Asks w locals e q →
        ElementsAsk w locals t (tree.element key e c rest) q
    in_later_element : {t : PlainType} {key : Option (ℕ × ℕ)} {e : ExprTree} {c : Option ℕ} {rest : ElementTrees} {q : TokenQuestion} →
        ElementsAsk w locals t rest q →
        ElementsAsk w locals t (tree.element key e c rest) q
