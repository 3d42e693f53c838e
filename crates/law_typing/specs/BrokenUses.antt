-- Where an expression uses something broken: `_`, a name without a meaning, a broken type or a broken method. Such an expression has no
-- meaning, and need not have a fault of its own.
use Rattle.std.specs.Prelude.{◌≡◌, ℕ, Bool, List, Option, Some}
use Rattle.go_ast.specs.declared.syntax.BinaryOp.{BinaryOp}
use Rattle.go_ast.specs.declared.syntax.PrefixOp.{PrefixOp}
use Rattle.go_ast.specs.Tree.{TypeTree, ExprTree, LinkTrees, OperandTrees, ArgumentTrees, LiteralTree, ElementTrees}
use Rattle.go_ast.specs.Tree as tree
use Rattle.types_expr.specs.declared.symbol.Symbol.{Symbol}
use Rattle.types_expr.specs.Types.{PlainType, ValueKind, Typed, Meaning, Value, Package}
use Rattle.types_expr.specs.World.{World, Locals, Means, BrokenType, ABrokenMethod}
use Rattle.law_typing.specs.Names.{NameMeans, IsType}
use Rattle.law_typing.specs.Links.{SelectsMember, Indexes, CallGives}
use Rattle.law_typing.specs.Meanings.{HasMeaning, AreValues}

-- a written type names a type definition that is broken
pub data IsBrokenType (w : World) : TypeTree → Type 0 where
  named : {n : ℕ} → w.bound n ≡ BrokenType → IsBrokenType w (tree.Local n)
  imported : {p d n : ℕ} → w.bound p ≡ Means Package → w.bound n ≡ BrokenType → IsBrokenType w (tree.Imported p d n)
  pointer : {s : ℕ} {x : TypeTree} → IsBrokenType w x → IsBrokenType w (tree.Pointer s x)
  slice : {o c : ℕ} {x : TypeTree} → IsBrokenType w x → IsBrokenType w (tree.Slice o c x)

-- The selector at token `name`, after an operand of this meaning, selects something broken: a method with a broken signature, or a
-- package's name without a meaning.
pub data SelectsBroken (w : World) (locals : Locals) : Meaning → ℕ → Type 0 where
  a_method : {t : PlainType} {a : Bool} {name : ℕ} {s : Symbol} → w.member name t ≡ Some (ABrokenMethod s) → SelectsBroken w locals (Value (Typed t) a) name
  of_package : {name : ℕ} → ((m : Meaning) → NameMeans w locals name m → ⊥) → SelectsBroken w locals Package name

mutual
  -- the expression uses something broken
  pub data UsesBroken (w : World) (locals : Locals) : ExprTree → Type 0 where
    blank : {p : ℕ} → UsesBroken w locals (tree.Blank p)
    a_name : {p : ℕ} → ((m : Meaning) → NameMeans w locals p m → ⊥) → UsesBroken w locals (tree.Name p)
    in_composite : {l : LiteralTree} → LiteralUsesBroken w locals l → UsesBroken w locals (tree.Composite l)
    in_address : {p : ℕ} {l : LiteralTree} → LiteralUsesBroken w locals l → UsesBroken w locals (tree.Address p l)
    in_paren : {o c : ℕ} {e : ExprTree} → UsesBroken w locals e → UsesBroken w locals (tree.Paren o e c)
    in_prefix : {o : PrefixOp} {p : ℕ} {e : ExprTree} → UsesBroken w locals e → UsesBroken w locals (tree.Prefix o p e)
    in_chain : {e : ExprTree} {links : LinkTrees} → UsesBroken w locals e → UsesBroken w locals (tree.Chain e links)
    in_links : {e : ExprTree} {links : LinkTrees} {m : Meaning} → HasMeaning w locals e m → LinksUseBroken w locals m links →
        UsesBroken w locals (tree.Chain e links)
    in_binary : {e : ExprTree} {rest : OperandTrees} → UsesBroken w locals e → UsesBroken w locals (tree.Binary e rest)
    in_operands : {e : ExprTree} {rest : OperandTrees} → OperandsUseBroken w locals rest → UsesBroken w locals (tree.Binary e rest)

  -- links, after an operand of this meaning, use something broken
  pub data LinksUseBroken (w : World) (locals : Locals) : Meaning → LinkTrees → Type 0 where
    selected : {d n : ℕ} {rest : LinkTrees} {m : Meaning} → SelectsBroken w locals m n → LinksUseBroken w locals m (tree.selector d n rest)
    in_index : {o c : ℕ} {e : ExprTree} {rest : LinkTrees} {m : Meaning} → UsesBroken w locals e → LinksUseBroken w locals m (tree.index o e c rest)
    in_call : {o c : ℕ} {arguments : ArgumentTrees} {rest : LinkTrees} {m : Meaning} → ArgumentsUseBroken w locals arguments →
        LinksUseBroken w locals m (tree.call o arguments c rest)
    behind_selector : {d n : ℕ} {rest : LinkTrees} {m s : Meaning} → SelectsMember w locals m n s → LinksUseBroken w locals s rest →
        LinksUseBroken w locals m (tree.selector d n rest)
    behind_index : {o c : ℕ} {e : ExprTree} {rest : LinkTrees} {m s : Meaning} {k : ValueKind} {a : Bool} → HasMeaning w locals e (Value k a) →
        Indexes w m k s →
        LinksUseBroken w locals s rest →
        LinksUseBroken w locals m (tree.index o e c rest)
    behind_call : {o c : ℕ} {arguments : ArgumentTrees} {rest : LinkTrees} {m s : Meaning} {ks : List ValueKind} → AreValues w locals arguments ks →
        CallGives w m ks s → LinksUseBroken w locals s rest →
        LinksUseBroken w locals m (tree.call o arguments c rest)

  -- one of the operands uses something broken
  pub data OperandsUseBroken (w : World) (locals : Locals) : OperandTrees → Type 0 where
    this_operand : {o : BinaryOp} {p : ℕ} {e : ExprTree} {rest : OperandTrees} → UsesBroken w locals e → OperandsUseBroken w locals (tree.operand o p e rest)
    other_operand : {o : BinaryOp} {p : ℕ} {e : ExprTree} {rest : OperandTrees} → OperandsUseBroken w locals rest →
        OperandsUseBroken w locals (tree.operand o p e rest)

  -- one of the arguments uses something broken
  pub data ArgumentsUseBroken (w : World) (locals : Locals) : ArgumentTrees → Type 0 where
    this_argument : {e : ExprTree} {c : Option ℕ} {rest : ArgumentTrees} → UsesBroken w locals e → ArgumentsUseBroken w locals (tree.argument e c rest)
    other_argument : {e : ExprTree} {c : Option ℕ} {rest : ArgumentTrees} → ArgumentsUseBroken w locals rest →
        ArgumentsUseBroken w locals (tree.argument e c rest)

  -- the literal uses something broken
  pub data LiteralUsesBroken (w : World) (locals : Locals) : LiteralTree → Type 0 where
    of_broken_type : {x : TypeTree} {o c : ℕ} {es : ElementTrees} → IsBrokenType w x → LiteralUsesBroken w locals (tree.literal x o es c)
    in_elements : {x : TypeTree} {o c : ℕ} {es : ElementTrees} {t : PlainType} → IsType w x t → ElementsUseBroken w locals t es →
        LiteralUsesBroken w locals (tree.literal x o es c)

  -- the elements of a literal of this type use something broken
  pub data ElementsUseBroken (w : World) (locals : Locals) : PlainType → ElementTrees → Type 0 where
    a_key : {t : PlainType} {key : ℕ × ℕ} {e : ExprTree} {c : Option ℕ} {rest : ElementTrees} {s : Symbol} → w.member key.0 t ≡ Some (ABrokenMethod s) →
        ElementsUseBroken w locals t (tree.element (Some key) e c rest)
    this_value : {t : PlainType} {key : Option (ℕ × ℕ)} {e : ExprTree} {c : Option ℕ} {rest : ElementTrees} → UsesBroken w locals e →
        ElementsUseBroken w locals t (tree.element key e c rest)
    other_element : {t : PlainType} {key : Option (ℕ × ℕ)} {e : ExprTree} {c : Option ℕ} {rest : ElementTrees} → ElementsUseBroken w locals t rest →
        ElementsUseBroken w locals t (tree.element key e c rest)
