-- The tokens at which an expression breaks a typing rule, though the parts of the broken part break none. There is one constructor for each
-- way to break a rule, and one for each part in which a fault can be. The meaning of a chain or operation is followed part by part; after a
-- part without a meaning, no rule on meanings applies.
use Rattle.std.specs.Prelude.{◌≡◌, ℕ, Bool, List, [], ◌∷◌, Option, Some, None}
use Rattle.go_ast.specs.declared.syntax.BinaryOp.{BinaryOp}
use Rattle.go_ast.specs.declared.syntax.PrefixOp.{PrefixOp}
use Rattle.go_ast.specs.Tree.{TypeTree, ExprTree, LinkTrees, OperandTrees, ArgumentTrees, LiteralTree, ElementTrees}
use Rattle.go_ast.specs.Tree as tree
use Rattle.types_expr.specs.declared.types.Basic.TheVariants as basic
use Rattle.types_expr.specs.declared.symbol.Symbol.{Symbol}
use Rattle.types_expr.specs.Places.{first_token, first_of_type, place_of}
use Rattle.types_expr.specs.Types.{PlainType, SliceOf, Struct, ValueKind, Meaning, Value}
use Rattle.types_expr.specs.World.{World, Locals, underlying}
use Rattle.law_typing.specs.Fits.{FitsType}
use Rattle.law_typing.specs.Operators.{IsBasic, Operates, Prefixes}
use Rattle.law_typing.specs.Names.{IsType}
use Rattle.law_typing.specs.Links.{SelectsMember, Indexes, CallGives}
use Rattle.law_typing.specs.Meanings.{HasMeaning, AreValues}
use Rattle.law_typing.specs.BrokenUses.{SelectsBroken}
use Rattle.law_typing.specs.Faults.{IsNoValue, IsNoOperand, IsNoCallee, IsNoType, Misfits, IsKey, IsBrokenKey, HasUnkeyed}
use Rattle.law_typing.specs.AssignmentFaults.{GivesKind}

-- m is the meaning of expression e, none where e has no meaning
pub data MeaningIs (w : World) (locals : Locals) (e : ExprTree) : Option Meaning → Type 0 where
  meant : {m : Meaning} → HasMeaning w locals e m → MeaningIs w locals e (Some m)
  unmeant : ((m : Meaning) → HasMeaning w locals e m → ⊥) → MeaningIs w locals e None

-- The meanings of an operand before and after one more link, where R relates the two. There is none after the link where R gives none, or
-- where there was none before it.
pub data NextMeaning (R : Meaning → Meaning → Type 0) : Option Meaning → Option Meaning → Type 0 where
  leads : {m s : Meaning} → R m s → NextMeaning R (Some m) (Some s)
  leads_nowhere : {m : Meaning} → ((s : Meaning) → R m s → ⊥) → NextMeaning R (Some m) None
  from_nowhere : NextMeaning R None None

-- the selector at token n, after an operand that means m, means s
abbrev pub SelectsBy : World → Locals → ℕ → Meaning → Meaning → Type 0
SelectsBy w locals n m s = SelectsMember w locals m n s

-- the index e, after an operand that means m, gives an expression that means s
pub data IndexedBy (w : World) (locals : Locals) (e : ExprTree) (m s : Meaning) : Type 0 where
  by_index : {k : ValueKind} {a : Bool} → HasMeaning w locals e (Value k a) → Indexes w m k s → IndexedBy w locals e m s

-- the call of an operand that means m with arguments xs means s
pub data CalledWith (w : World) (locals : Locals) (xs : ArgumentTrees) (m s : Meaning) : Type 0 where
  by_values : {ks : List ValueKind} → AreValues w locals xs ks → CallGives w m ks s → CalledWith w locals xs m s

-- the kinds of an operation before and after one more operator o with its operand e; none where it has no kind
pub data NextKind (w : World) (locals : Locals) (o : BinaryOp) (e : ExprTree) : Option ValueKind → Option ValueKind → Type 0 where
  operates : {j k l : ValueKind} {a : Bool} → HasMeaning w locals e (Value k a) → Operates w o j k l → NextKind w locals o e (Some j) (Some l)
  operates_on_nothing : {j : ValueKind} → ((k l : ValueKind) (a : Bool) → HasMeaning w locals e (Value k a) → Operates w o j k l → ⊥) →
      NextKind w locals o e (Some j) None
  nothing_operated : NextKind w locals o e None None

-- The elements, in a literal of type t where earlier keys named the fields of ranks `named`, are whole. Each is a value. A key is a field
-- that no earlier key named, and its value fits it.
pub data AreWhole (w : World) (locals : Locals) (t : PlainType) : List ℕ → ElementTrees → Type 0 where
  no_element_left : {named : List ℕ} → AreWhole w locals t named tree.no_element
  whole_value : {named : List ℕ} {e : ExprTree} {c : Option ℕ} {rest : ElementTrees} {k : ValueKind} {a : Bool} → HasMeaning w locals e (Value k a) →
      AreWhole w locals t named rest → AreWhole w locals t named (tree.element None e c rest)
  whole_field : {named : List ℕ} {key : ℕ × ℕ} {e : ExprTree} {c : Option ℕ} {rest : ElementTrees} {s : Symbol} {u : PlainType} {k : ValueKind} {a : Bool} →
      IsKey w t named key.0 s u → HasMeaning w locals e (Value k a) → FitsType w k u → AreWhole w locals t (s.rank ∷ named) rest →
      AreWhole w locals t named (tree.element (Some key) e c rest)

mutual
  -- the expression breaks a rule at this token
  pub data BreaksAt (w : World) (locals : Locals) : ExprTree → ℕ → Type 0 where
    in_composite : {l : LiteralTree} {p : ℕ} → LiteralBreaksAt w locals l p → BreaksAt w locals (tree.Composite l) p
    in_address : {q p : ℕ} {l : LiteralTree} → LiteralBreaksAt w locals l p → BreaksAt w locals (tree.Address q l) p
    in_paren : {o c p : ℕ} {e : ExprTree} → ValueBreaksAt w locals e p → BreaksAt w locals (tree.Paren o e c) p
    in_prefix : {o : PrefixOp} {q p : ℕ} {e : ExprTree} → ValueBreaksAt w locals e p → BreaksAt w locals (tree.Prefix o q e) p
    no_prefix : {o : PrefixOp} {q : ℕ} {e : ExprTree} {k : ValueKind} {a : Bool} → HasMeaning w locals e (Value k a) → ((m : Meaning) → Prefixes w o k m → ⊥) →
        BreaksAt w locals (tree.Prefix o q e) q
    in_chain : {e : ExprTree} {links : LinkTrees} {p : ℕ} → BreaksAt w locals e p → BreaksAt w locals (tree.Chain e links) p
    in_links : {e : ExprTree} {links : LinkTrees} {m : Option Meaning} {p : ℕ} → MeaningIs w locals e m →
        LinksBreakAt w locals (first_token e) (place_of e) m links p → BreaksAt w locals (tree.Chain e links) p
    in_binary : {e : ExprTree} {rest : OperandTrees} {p : ℕ} → ValueBreaksAt w locals e p → BreaksAt w locals (tree.Binary e rest) p
    in_operands : {e : ExprTree} {rest : OperandTrees} {k : Option ValueKind} {p : ℕ} → GivesKind w locals e k →
        OperandsBreakAt w locals (first_token e) k rest p → BreaksAt w locals (tree.Binary e rest) p

  -- the expression, where a value is required, breaks a rule at this token: a part of it does, or it is no value
  pub data ValueBreaksAt (w : World) (locals : Locals) : ExprTree → ℕ → Type 0 where
    in_value : {e : ExprTree} {p : ℕ} → BreaksAt w locals e p → ValueBreaksAt w locals e p
    no_value : {e : ExprTree} {m : Meaning} → HasMeaning w locals e m → IsNoValue m → ValueBreaksAt w locals e (place_of e)

  -- Links break a rule at the last token. The chain begins at the first token, and the operand before the links has the given meaning and
  -- reports its faults at the second.
  pub data LinksBreakAt (w : World) (locals : Locals) : ℕ → ℕ → Option Meaning → LinkTrees → ℕ → Type 0 where
    no_member : {start place d n : ℕ} {rest : LinkTrees} {k : ValueKind} {a : Bool} → ((s : Meaning) → SelectsMember w locals (Value k a) n s → ⊥) →
        (SelectsBroken w locals (Value k a) n → ⊥) → LinksBreakAt w locals start place (Some (Value k a)) (tree.selector d n rest) n
    no_selection : {start place d n : ℕ} {rest : LinkTrees} {m : Meaning} → IsNoOperand m →
        LinksBreakAt w locals start place (Some m) (tree.selector d n rest) place
    behind_selector : {start place d n p : ℕ} {rest : LinkTrees} {m s : Option Meaning} → NextMeaning (SelectsBy w locals n) m s →
        LinksBreakAt w locals start n s rest p → LinksBreakAt w locals start place m (tree.selector d n rest) p
    not_indexed : {start place o c : ℕ} {e : ExprTree} {rest : LinkTrees} {m : Meaning} → IsNoValue m →
        LinksBreakAt w locals start place (Some m) (tree.index o e c rest) place
    in_index : {start place o c p : ℕ} {e : ExprTree} {rest : LinkTrees} {m : Option Meaning} → ValueBreaksAt w locals e p →
        LinksBreakAt w locals start place m (tree.index o e c rest) p
    no_int : {start place o c : ℕ} {e : ExprTree} {rest : LinkTrees} {m : Option Meaning} {k : ValueKind} {a : Bool} → HasMeaning w locals e (Value k a) →
        (IsBasic w k basic.Int → ⊥) → LinksBreakAt w locals start place m (tree.index o e c rest) (place_of e)
    no_slice : {start place o c : ℕ} {e : ExprTree} {rest : LinkTrees} {j k : ValueKind} {a b : Bool} → HasMeaning w locals e (Value k a) →
        IsBasic w k basic.Int →
        ((s : Meaning) → Indexes w (Value j b) k s → ⊥) → LinksBreakAt w locals start place (Some (Value j b)) (tree.index o e c rest) start
    behind_index : {start place o c p : ℕ} {e : ExprTree} {rest : LinkTrees} {m s : Option Meaning} → NextMeaning (IndexedBy w locals e) m s →
        LinksBreakAt w locals start start s rest p → LinksBreakAt w locals start place m (tree.index o e c rest) p
    not_called : {start place o c : ℕ} {xs : ArgumentTrees} {rest : LinkTrees} {m : Meaning} → IsNoCallee m →
        LinksBreakAt w locals start place (Some m) (tree.call o xs c rest) place
    in_arguments : {start place o c p : ℕ} {xs : ArgumentTrees} {rest : LinkTrees} {m : Option Meaning} → ArgumentsBreakAt w locals xs p →
        LinksBreakAt w locals start place m (tree.call o xs c rest) p
    misfit : {start place o c p : ℕ} {xs : ArgumentTrees} {rest : LinkTrees} {m : Meaning} → Misfits w locals m xs p →
        LinksBreakAt w locals start place (Some m) (tree.call o xs c rest) p
    no_call : {start place o c : ℕ} {xs : ArgumentTrees} {rest : LinkTrees} {m : Meaning} {ks : List ValueKind} → (IsNoCallee m → ⊥) →
        AreValues w locals xs ks →
        ((s : Meaning) → CallGives w m ks s → ⊥) → ((p : ℕ) → Misfits w locals m xs p → ⊥) →
        LinksBreakAt w locals start place (Some m) (tree.call o xs c rest) start
    behind_call : {start place o c p : ℕ} {xs : ArgumentTrees} {rest : LinkTrees} {m s : Option Meaning} → NextMeaning (CalledWith w locals xs) m s →
        LinksBreakAt w locals start start s rest p → LinksBreakAt w locals start place m (tree.call o xs c rest) p

  -- Operators and operands break a rule at the last token. The operation begins at the first token, and its part before them has the given
  -- kind.
  pub data OperandsBreakAt (w : World) (locals : Locals) : ℕ → Option ValueKind → OperandTrees → ℕ → Type 0 where
    in_operand : {start q p : ℕ} {o : BinaryOp} {e : ExprTree} {rest : OperandTrees} {k : Option ValueKind} → ValueBreaksAt w locals e p →
        OperandsBreakAt w locals start k (tree.operand o q e rest) p
    no_operation : {start q : ℕ} {o : BinaryOp} {e : ExprTree} {rest : OperandTrees} {j k : ValueKind} {a : Bool} → HasMeaning w locals e (Value k a) →
        ((l : ValueKind) → Operates w o j k l → ⊥) → OperandsBreakAt w locals start (Some j) (tree.operand o q e rest) start
    behind_operation : {start q p : ℕ} {o : BinaryOp} {e : ExprTree} {rest : OperandTrees} {k l : Option ValueKind} → NextKind w locals o e k l →
        OperandsBreakAt w locals start l rest p → OperandsBreakAt w locals start k (tree.operand o q e rest) p

  -- one of the arguments breaks a rule at this token
  pub data ArgumentsBreakAt (w : World) (locals : Locals) : ArgumentTrees → ℕ → Type 0 where
    in_this : {e : ExprTree} {c : Option ℕ} {rest : ArgumentTrees} {p : ℕ} → ValueBreaksAt w locals e p → ArgumentsBreakAt w locals (tree.argument e c rest) p
    in_other : {e : ExprTree} {c : Option ℕ} {rest : ArgumentTrees} {p : ℕ} → ArgumentsBreakAt w locals rest p →
        ArgumentsBreakAt w locals (tree.argument e c rest) p

  -- the literal breaks a rule at this token
  pub data LiteralBreaksAt (w : World) (locals : Locals) : LiteralTree → ℕ → Type 0 where
    in_type : {x : TypeTree} {o c p : ℕ} {es : ElementTrees} → IsNoType w x p → LiteralBreaksAt w locals (tree.literal x o es c) p
    in_untyped : {x : TypeTree} {o c p : ℕ} {es : ElementTrees} → ((t : PlainType) → IsType w x t → ⊥) → ValuesBreakAt w locals es p →
        LiteralBreaksAt w locals (tree.literal x o es c) p
    in_elements : {x : TypeTree} {o c p : ℕ} {es : ElementTrees} {t : PlainType} → IsType w x t → ElementsBreakAt w locals t [] es p →
        LiteralBreaksAt w locals (tree.literal x o es c) p
    unkeyed : {x : TypeTree} {o c : ℕ} {es : ElementTrees} {t : PlainType} {s : Symbol} → IsType w x t → underlying w t ≡ Struct s →
        AreWhole w locals t [] es → HasUnkeyed es → LiteralBreaksAt w locals (tree.literal x o es c) (first_of_type x)
    no_literal : {x : TypeTree} {o c : ℕ} {es : ElementTrees} {t : PlainType} → IsType w x t → AreWhole w locals t [] es →
        ((s : Symbol) → underlying w t ≡ Struct s → ⊥) → ((u : PlainType) → underlying w t ≡ SliceOf u → ⊥) →
        LiteralBreaksAt w locals (tree.literal x o es c) (first_of_type x)

  -- the value of an element, in a literal whose type is broken, breaks a rule at this token
  pub data ValuesBreakAt (w : World) (locals : Locals) : ElementTrees → ℕ → Type 0 where
    this_element : {key : Option (ℕ × ℕ)} {e : ExprTree} {c : Option ℕ} {rest : ElementTrees} {p : ℕ} → ValueBreaksAt w locals e p →
        ValuesBreakAt w locals (tree.element key e c rest) p
    other_element : {key : Option (ℕ × ℕ)} {e : ExprTree} {c : Option ℕ} {rest : ElementTrees} {p : ℕ} → ValuesBreakAt w locals rest p →
        ValuesBreakAt w locals (tree.element key e c rest) p

  -- an element, in a literal of the given type where earlier keys named the fields of the given ranks, breaks a rule at this token
  pub data ElementsBreakAt (w : World) (locals : Locals) : PlainType → List ℕ → ElementTrees → ℕ → Type 0 where
    in_element : {t : PlainType} {named : List ℕ} {key : Option (ℕ × ℕ)} {e : ExprTree} {c : Option ℕ} {rest : ElementTrees} {p : ℕ} →
        ValueBreaksAt w locals e p →
        ElementsBreakAt w locals t named (tree.element key e c rest) p
    no_key : {t : PlainType} {named : List ℕ} {key : ℕ × ℕ} {e : ExprTree} {c : Option ℕ} {rest : ElementTrees} →
        ((s : Symbol) (u : PlainType) → IsKey w t named key.0 s u → ⊥) → (IsBrokenKey w t key.0 → ⊥) →
        ElementsBreakAt w locals t named (tree.element (Some key) e c rest) key.0
    field_misfit : {t : PlainType} {named : List ℕ} {key : ℕ × ℕ} {e : ExprTree} {c : Option ℕ} {rest : ElementTrees} {s : Symbol} {u : PlainType} {k :
        ValueKind}
        {a : Bool} →
        IsKey w t named key.0 s u → HasMeaning w locals e (Value k a) → (FitsType w k u → ⊥) →
        ElementsBreakAt w locals t named (tree.element (Some key) e c rest) (place_of e)
    element_misfit : {t : PlainType} {named : List ℕ} {key : Option
        (ℕ × ℕ)} {e : ExprTree} {c : Option ℕ} {rest : ElementTrees} {u : PlainType} {k : ValueKind} {a : Bool} →
        underlying w t ≡ SliceOf u → HasMeaning w locals e (Value k a) → (FitsType w k u → ⊥) →
        ElementsBreakAt w locals t named (tree.element key e c rest) (place_of e)
    behind_value : {t : PlainType} {named : List ℕ} {e : ExprTree} {c : Option ℕ} {rest : ElementTrees} {p : ℕ} → ElementsBreakAt w locals t named rest p →
        ElementsBreakAt w locals t named (tree.element None e c rest) p
    behind_field : {t : PlainType} {named : List ℕ} {key : ℕ × ℕ} {e : ExprTree} {c : Option ℕ} {rest : ElementTrees} {s : Symbol} {u : PlainType} {p : ℕ} →
        IsKey w t named key.0 s u → ElementsBreakAt w locals t (s.rank ∷ named) rest p → ElementsBreakAt w locals t named (tree.element (Some key) e c rest) p
    behind_no_field : {t : PlainType} {named : List ℕ} {key : ℕ × ℕ} {e : ExprTree} {c : Option ℕ} {rest : ElementTrees} {p : ℕ} →
        ((s : Symbol) (u : PlainType) → IsKey w t named key.0 s u → ⊥) → ElementsBreakAt w locals t named rest p →
        ElementsBreakAt w locals t named (tree.element (Some key) e c rest) p
