-- The meanings of expressions: the typing rules of the language, one constructor for each. An expression that breaks a rule, or uses
-- something broken, has no meaning.
use Rattle.std.specs.Prelude.{◌≡◌, ℕ, Bool, false, List, [], ◌∷◌, Option, Some, None}
use Rattle.go_ast.specs.declared.syntax.BinaryOp.{BinaryOp}
use Rattle.go_ast.specs.declared.syntax.PrefixOp.{PrefixOp}
use Rattle.go_ast.specs.Tree.{TypeTree, ExprTree, LinkTrees, OperandTrees, ArgumentTrees, LiteralTree, ElementTrees}
use Rattle.go_ast.specs.Tree as tree
use Rattle.types_expr.specs.declared.types.Basic.TheVariants as basic
use Rattle.types_expr.specs.declared.symbol.Symbol.{Symbol}
use Rattle.types_expr.specs.Types.{PlainType, Pointer, SliceOf, Struct, ValueKind, Typed, Untyped, Meaning, Value, AFieldOf}
use Rattle.types_expr.specs.World.{World, Locals, AField, underlying}
use Rattle.law_typing.specs.Fits.{FitsType}
use Rattle.law_typing.specs.Operators.{Operates, Prefixes}
use Rattle.law_typing.specs.Names.{NameMeans, IsType}
use Rattle.law_typing.specs.Links.{SelectsMember, Indexes, CallGives}

-- no earlier key named the field of this rank: it is not in the list
pub data IsNew (rank : ℕ) : List ℕ → Type 0 where
  first : IsNew rank []
  after : {other : ℕ} {others : List ℕ} → (rank ≡ other → ⊥) → IsNew rank others → IsNew rank (other ∷ others)

mutual
  -- expression e has this meaning
  pub data HasMeaning (w : World) (locals : Locals) : ExprTree → Meaning → Type 0 where
    number : {p : ℕ} → HasMeaning w locals (tree.Number p) (Value (Untyped basic.Int) false)
    text : {p : ℕ} → HasMeaning w locals (tree.Text p) (Value (Untyped basic.String) false)
    name : {p : ℕ} {m : Meaning} → NameMeans w locals p m → HasMeaning w locals (tree.Name p) m
    composite : {l : LiteralTree} {t : PlainType} → IsLiteralOf w locals l t → HasMeaning w locals (tree.Composite l) (Value (Typed t) false)
    paren : {o c : ℕ} {e : ExprTree} {k : ValueKind} {a : Bool} → HasMeaning w locals e (Value k a) → HasMeaning w locals (tree.Paren o e c) (Value k a)
    prefix : {o : PrefixOp} {p : ℕ} {e : ExprTree} {k : ValueKind} {a : Bool} {m : Meaning} → HasMeaning w locals e (Value k a) → Prefixes w o k m →
        HasMeaning w locals (tree.Prefix o p e) m
    address : {p : ℕ} {l : LiteralTree} {t : PlainType} → IsLiteralOf w locals l t → HasMeaning w locals (tree.Address p l) (Value (Typed (Pointer t)) false)
    chain : {e : ExprTree} {links : LinkTrees} {m r : Meaning} → HasMeaning w locals e m → LinksMean w locals m links r →
        HasMeaning w locals (tree.Chain e links) r
    binary : {e : ExprTree} {rest : OperandTrees} {k : ValueKind} {a : Bool} {r : Meaning} → HasMeaning w locals e (Value k a) →
        OperandsMean w locals (Value k a) rest r →
        HasMeaning w locals (tree.Binary e rest) r

  -- an operand of the first meaning, followed by these links, has the second meaning
  pub data LinksMean (w : World) (locals : Locals) : Meaning → LinkTrees → Meaning → Type 0 where
    no_link : {m : Meaning} → LinksMean w locals m tree.no_link m
    selector : {d n : ℕ} {rest : LinkTrees} {m s r : Meaning} → SelectsMember w locals m n s → LinksMean w locals s rest r →
        LinksMean w locals m (tree.selector d n rest) r
    index : {o c : ℕ} {e : ExprTree} {rest : LinkTrees} {m s r : Meaning} {k : ValueKind} {a : Bool} → HasMeaning w locals e (Value k a) → Indexes w m k s →
        LinksMean w locals s rest r →
        LinksMean w locals m (tree.index o e c rest) r
    call : {o c : ℕ} {arguments : ArgumentTrees} {rest : LinkTrees} {m s r : Meaning} {ks : List ValueKind} → AreValues w locals arguments ks →
        CallGives w m ks s →
        LinksMean w locals s rest r →
        LinksMean w locals m (tree.call o arguments c rest) r

  -- a value of the first meaning, followed by these operators and operands, combines from left to right to the second meaning
  pub data OperandsMean (w : World) (locals : Locals) : Meaning → OperandTrees → Meaning → Type 0 where
    no_operand : {m : Meaning} → OperandsMean w locals m tree.no_operand m
    operand : {o : BinaryOp} {p : ℕ} {e : ExprTree} {rest : OperandTrees} {j k l : ValueKind} {a b : Bool} {r : Meaning} → HasMeaning w locals e (Value k b) →
        Operates w o j k l →
        OperandsMean w locals (Value l false) rest r → OperandsMean w locals (Value j a) (tree.operand o p e rest) r

  -- each argument is a value, of the kind at its position
  pub data AreValues (w : World) (locals : Locals) : ArgumentTrees → List ValueKind → Type 0 where
    no_argument : AreValues w locals tree.no_argument []
    argument : {e : ExprTree} {c : Option ℕ} {rest : ArgumentTrees} {k : ValueKind} {a : Bool} {ks : List ValueKind} → HasMeaning w locals e (Value k a) →
        AreValues w locals rest ks →
        AreValues w locals (tree.argument e c rest) (k ∷ ks)

  -- the literal is one of type t: a struct's, with keys, or a slice's, without keys
  pub data IsLiteralOf (w : World) (locals : Locals) : LiteralTree → PlainType → Type 0 where
    struct_literal : {x : TypeTree} {o c : ℕ} {es : ElementTrees} {t : PlainType} {s : Symbol} → IsType w x t → underlying w t ≡ Struct s →
        AreFields w locals t [] es →
        IsLiteralOf w locals (tree.literal x o es c) t
    slice_literal : {x : TypeTree} {o c : ℕ} {es : ElementTrees} {t u : PlainType} → IsType w x t → underlying w t ≡ SliceOf u → AreElements w locals u es →
        IsLiteralOf w locals (tree.literal x o es c) t

  -- The elements of a literal of struct type t are typed, after keys that named the fields of these ranks. Each has a key that is a new
  -- field, and a value that fits the field.
  pub data AreFields (w : World) (locals : Locals) : PlainType → List ℕ → ElementTrees → Type 0 where
    no_field : {t : PlainType} {named : List ℕ} → AreFields w locals t named tree.no_element
    field : {t u : PlainType} {named : List ℕ} {key : ℕ × ℕ} {e : ExprTree} {c : Option ℕ} {rest : ElementTrees} {s : Symbol} {k : ValueKind} {a : Bool} →
        w.member key.0 t ≡ Some (AField s (AFieldOf u)) → IsNew s.rank named → HasMeaning w locals e (Value k a) → FitsType w k u →
        AreFields w locals t (s.rank ∷ named) rest →
        AreFields w locals t named (tree.element (Some key) e c rest)

  -- the elements of a slice literal are typed: none has a key, and each is a value that fits the element type
  pub data AreElements (w : World) (locals : Locals) : PlainType → ElementTrees → Type 0 where
    no_element : {u : PlainType} → AreElements w locals u tree.no_element
    element : {u : PlainType} {e : ExprTree} {c : Option ℕ} {rest : ElementTrees} {k : ValueKind} {a : Bool} → HasMeaning w locals e (Value k a) →
        FitsType w k u →
        AreElements w locals u rest →
        AreElements w locals u (tree.element None e c rest)
