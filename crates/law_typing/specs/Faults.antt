-- Where the judgement of an expression may find a fault: at a part that breaks a rule, though its own parts break none. There is one
-- constructor for each way to break a rule, and one for each part in which a fault can be. `HasFault` holds at each token that is found,
-- and at others; `BreaksAt` is exact.
use Rattle.std.specs.Prelude.{◌≡◌, ℕ, Bool, false, List, [], ◌∷◌, Option, Some, None}
use Rattle.go_ast.specs.declared.syntax.BinaryOp.{BinaryOp}
use Rattle.go_ast.specs.declared.syntax.PrefixOp.{PrefixOp}
use Rattle.go_ast.specs.Tree.{TypeTree, ExprTree, LinkTrees, OperandTrees, ArgumentTrees, LiteralTree, ElementTrees}
use Rattle.go_ast.specs.Tree as tree
use Rattle.types_expr.specs.declared.types.Basic.TheVariants as basic
use Rattle.types_expr.specs.declared.types.Builtin.TheVariants as builtin
use Rattle.types_expr.specs.declared.symbol.Symbol.{Symbol}
use Rattle.types_expr.specs.Places.{first_token, first_of_type, place_of}
use Rattle.types_expr.specs.Types.{PlainType, SliceOf, Struct, ValueKind, Typed, Signature, Meaning, Value, TypeName, Function, BuiltinName, Package, Results}
use Rattle.types_expr.specs.Types.{AFieldOf}
use Rattle.types_expr.specs.World.{World, Locals, Local, Means, BrokenVariable, BrokenType, AField, ABrokenMethod, underlying}
use Rattle.law_typing.specs.Fits.{FitsType}
use Rattle.law_typing.specs.Operators.{IsBasic, Operates, Prefixes}
use Rattle.law_typing.specs.Names.{IsType}
use Rattle.law_typing.specs.Links.{SelectsMember, Indexes, CallGives}
use Rattle.law_typing.specs.Meanings.{IsNew, HasMeaning, AreValues}
use Rattle.law_typing.specs.BrokenUses.{SelectsBroken}

-- m is not the meaning of a value: it is that of a type, a function, a builtin, a package, or a call without exactly one result
abbrev pub IsNoValue : Meaning → Type 0
IsNoValue m = (k : ValueKind) (a : Bool) → m ≡ Value k a → ⊥

-- Types

-- the name at token `name`, where a type is written, denotes neither a type nor a broken type
pub record NamesNoType (w : World) (name : ℕ) : Type 0 where
  pub no_type : (t : PlainType) → w.bound name ≡ Means (TypeName t) → ⊥
  pub unbroken : w.bound name ≡ BrokenType → ⊥

-- the name at token `name`, before the dot of a qualified type, denotes a variable or another value
pub data NamesValue (w : World) (name : ℕ) : Type 0 where
  a_local : {place : ℕ} → w.bound name ≡ Local place → NamesValue w name
  a_value : {k : ValueKind} {a : Bool} → w.bound name ≡ Means (Value k a) → NamesValue w name
  a_broken_variable : w.bound name ≡ BrokenVariable → NamesValue w name

-- A written type denotes no type, which is a fault at this token. In `p.n` it is n where p is a package or a value, and p where it is
-- anything else.
pub data IsNoType (w : World) : TypeTree → ℕ → Type 0 where
  by_name : {n : ℕ} → NamesNoType w n → IsNoType w (tree.Local n) n
  behind_package : {p d n : ℕ} → w.bound p ≡ Means Package → NamesNoType w n → IsNoType w (tree.Imported p d n) n
  behind_value : {p d n : ℕ} → NamesValue w p → IsNoType w (tree.Imported p d n) n
  no_package : {p d n : ℕ} → (w.bound p ≡ Means Package → ⊥) → (NamesValue w p → ⊥) → IsNoType w (tree.Imported p d n) p
  in_pointer : {s p : ℕ} {x : TypeTree} → IsNoType w x p → IsNoType w (tree.Pointer s x) p
  in_slice : {o c p : ℕ} {x : TypeTree} → IsNoType w x p → IsNoType w (tree.Slice o c x) p

-- Arguments that do not fit

-- an argument that is a value does not fit the type at its position; this is its token
pub data IsMisfit (w : World) (locals : Locals) : ArgumentTrees → List PlainType → ℕ → Type 0 where
  this_argument : {e : ExprTree} {c : Option ℕ} {rest : ArgumentTrees} {t : PlainType} {ts : List PlainType} {k : ValueKind} {a : Bool} →
      HasMeaning w locals e (Value k a) → (FitsType w k t → ⊥) →
      IsMisfit w locals (tree.argument e c rest) (t ∷ ts) (place_of e)
  other_argument : {e : ExprTree} {c : Option ℕ} {rest : ArgumentTrees} {t : PlainType} {ts : List PlainType} {p : ℕ} → IsMisfit w locals rest ts p →
      IsMisfit w locals (tree.argument e c rest) (t ∷ ts) p

-- an argument that is a value does not fit type t; this is its token
pub data IsMisfitOf (w : World) (locals : Locals) (t : PlainType) : ArgumentTrees → ℕ → Type 0 where
  this_value : {e : ExprTree} {c : Option ℕ} {rest : ArgumentTrees} {k : ValueKind} {a : Bool} → HasMeaning w locals e (Value k a) → (FitsType w k t → ⊥) →
      IsMisfitOf w locals t (tree.argument e c rest) (place_of e)
  other_value : {e : ExprTree} {c : Option ℕ} {rest : ArgumentTrees} {p : ℕ} → IsMisfitOf w locals t rest p → IsMisfitOf w locals t (tree.argument e c rest) p

-- there are as many arguments as types
pub data AreAsMany : ArgumentTrees → List PlainType → Type 0 where
  no_more : AreAsMany tree.no_argument []
  one_more : {e : ExprTree} {c : Option ℕ} {rest : ArgumentTrees} {t : PlainType} {ts : List PlainType} → AreAsMany rest ts →
      AreAsMany (tree.argument e c rest) (t ∷ ts)

-- A call of an operand of this meaning has an argument, at this token, that does not fit: a function's with the right count, or one of
-- `append` that does not fit the elements of the slice.
pub data Misfits (w : World) (locals : Locals) : Meaning → ArgumentTrees → ℕ → Type 0 where
  no_fit : {s : Signature} {xs : ArgumentTrees} {p : ℕ} → AreAsMany xs s.parameters → IsMisfit w locals xs s.parameters p → Misfits w locals (Function s) xs p
  no_element : {e : ExprTree} {c : Option ℕ} {xs : ArgumentTrees} {t u : PlainType} {a : Bool} {p : ℕ} → HasMeaning w locals e (Value (Typed t) a) →
      underlying w t ≡ SliceOf u → IsMisfitOf w locals u xs p →
      Misfits w locals (BuiltinName builtin.Append) (tree.argument e c xs) p

-- Expressions

-- m is the meaning neither of a value nor of a package: no selector may follow it
abbrev pub IsNoOperand : Meaning → Type 0
IsNoOperand m = IsNoValue m × (m ≡ Package → ⊥)

-- the name of a package, or a call without exactly one result: neither may be called
pub data IsNoCallee : Meaning → Type 0 where
  a_package : IsNoCallee Package
  a_call : {ts : List PlainType} → IsNoCallee (Results ts)

-- a meaning of operand e, or none, for an operand whose meaning is left open
pub data MeaningOrNone (w : World) (locals : Locals) (e : ExprTree) : Option Meaning → Type 0 where
  meant : {m : Meaning} → HasMeaning w locals e m → MeaningOrNone w locals e (Some m)
  unmeant : MeaningOrNone w locals e None

-- the key at token `key` of a struct literal is a field with symbol and type, which no earlier key named
pub data IsKey (w : World) (t : PlainType) (named : List ℕ) (key : ℕ) : Symbol → PlainType → Type 0 where
  of_field : {owner s : Symbol} {u : PlainType} → underlying w t ≡ Struct owner → w.member key t ≡ Some (AField s (AFieldOf u)) → IsNew s.rank named →
      IsKey w t named key s u

-- the key at token `key` of a struct literal is a method whose signature is broken
pub data IsBrokenKey (w : World) (t : PlainType) (key : ℕ) : Type 0 where
  of_method : {owner s : Symbol} → underlying w t ≡ Struct owner → w.member key t ≡ Some (ABrokenMethod s) → IsBrokenKey w t key

-- each element is a value
pub data HaveValues (w : World) (locals : Locals) : ElementTrees → Type 0 where
  no_value_left : HaveValues w locals tree.no_element
  one_value_more : {key : Option (ℕ × ℕ)} {e : ExprTree} {c : Option ℕ} {rest : ElementTrees} {k : ValueKind} {a : Bool} → HasMeaning w locals e (Value k a) →
      HaveValues w locals rest →
      HaveValues w locals (tree.element key e c rest)

-- an element has no key
pub data HasUnkeyed : ElementTrees → Type 0 where
  this_unkeyed : {e : ExprTree} {c : Option ℕ} {rest : ElementTrees} → HasUnkeyed (tree.element None e c rest)
  other_unkeyed : {key : Option (ℕ × ℕ)} {e : ExprTree} {c : Option ℕ} {rest : ElementTrees} → HasUnkeyed rest → HasUnkeyed (tree.element key e c rest)

mutual
  -- the expression has a fault at this token
  pub data HasFault (w : World) (locals : Locals) : ExprTree → ℕ → Type 0 where
    in_composite : {l : LiteralTree} {p : ℕ} → LiteralHasFault w locals l p → HasFault w locals (tree.Composite l) p
    in_address : {q p : ℕ} {l : LiteralTree} → LiteralHasFault w locals l p → HasFault w locals (tree.Address q l) p
    in_paren : {o c p : ℕ} {e : ExprTree} → ValueHasFault w locals e p → HasFault w locals (tree.Paren o e c) p
    in_prefix : {o : PrefixOp} {q p : ℕ} {e : ExprTree} → ValueHasFault w locals e p → HasFault w locals (tree.Prefix o q e) p
    no_prefix : {o : PrefixOp} {q : ℕ} {e : ExprTree} {k : ValueKind} {a : Bool} → HasMeaning w locals e (Value k a) → ((m : Meaning) → Prefixes w o k m → ⊥) →
        HasFault w locals (tree.Prefix o q e) q
    in_chain : {e : ExprTree} {links : LinkTrees} {p : ℕ} → HasFault w locals e p → HasFault w locals (tree.Chain e links) p
    in_links : {e : ExprTree} {links : LinkTrees} {m : Option Meaning} {p : ℕ} → MeaningOrNone w locals e m →
        LinksHaveFault w locals (first_token e) (place_of e) m links p → HasFault w locals (tree.Chain e links) p
    in_binary : {e : ExprTree} {rest : OperandTrees} {p : ℕ} → ValueHasFault w locals e p → HasFault w locals (tree.Binary e rest) p
    in_operands : {e : ExprTree} {rest : OperandTrees} {m : Option Meaning} {p : ℕ} → MeaningOrNone w locals e m →
        OperandsHaveFault w locals (first_token e) m rest p → HasFault w locals (tree.Binary e rest) p

  -- the expression, where a value is required, has a fault at this token: a part of it has one, or it is no value
  pub data ValueHasFault (w : World) (locals : Locals) : ExprTree → ℕ → Type 0 where
    in_value : {e : ExprTree} {p : ℕ} → HasFault w locals e p → ValueHasFault w locals e p
    no_value : {e : ExprTree} {m : Meaning} → HasMeaning w locals e m → IsNoValue m → ValueHasFault w locals e (place_of e)

  -- Links have a fault at the last token. The chain begins at the first token, and the operand before the links has the given meaning and
  -- reports its faults at the second.
  pub data LinksHaveFault (w : World) (locals : Locals) : ℕ → ℕ → Option Meaning → LinkTrees → ℕ → Type 0 where
    no_member : {start place d n : ℕ} {rest : LinkTrees} {k : ValueKind} {a : Bool} → ((s : Meaning) → SelectsMember w locals (Value k a) n s → ⊥) →
        (SelectsBroken w locals (Value k a) n → ⊥) →
        LinksHaveFault w locals start place (Some (Value k a)) (tree.selector d n rest) n
    no_selection : {start place d n : ℕ} {rest : LinkTrees} {m : Meaning} → IsNoOperand m →
        LinksHaveFault w locals start place (Some m) (tree.selector d n rest) place
    behind_selector : {start place d n p : ℕ} {rest : LinkTrees} {m s : Meaning} → SelectsMember w locals m n s →
        LinksHaveFault w locals start n (Some s) rest p →
        LinksHaveFault w locals start place (Some m) (tree.selector d n rest) p
    behind_no_selector : {start place d n p : ℕ} {rest : LinkTrees} {m : Option Meaning} → LinksHaveFault w locals start n None rest p →
        LinksHaveFault w locals start place m (tree.selector d n rest) p
    not_indexed : {start place o c : ℕ} {e : ExprTree} {rest : LinkTrees} {m : Meaning} → IsNoValue m →
        LinksHaveFault w locals start place (Some m) (tree.index o e c rest) place
    in_index : {start place o c p : ℕ} {e : ExprTree} {rest : LinkTrees} {m : Option Meaning} → ValueHasFault w locals e p →
        LinksHaveFault w locals start place m (tree.index o e c rest) p
    no_int : {start place o c : ℕ} {e : ExprTree} {rest : LinkTrees} {m : Option Meaning} {k : ValueKind} {a : Bool} → HasMeaning w locals e (Value k a) →
        (IsBasic w k basic.Int → ⊥) →
        LinksHaveFault w locals start place m (tree.index o e c rest) (place_of e)
    no_slice : {start place o c : ℕ} {e : ExprTree} {rest : LinkTrees} {j k : ValueKind} {a b : Bool} → HasMeaning w locals e (Value k a) →
        IsBasic w k basic.Int →
        ((s : Meaning) → Indexes w (Value j b) k s → ⊥) →
        LinksHaveFault w locals start place (Some (Value j b)) (tree.index o e c rest) start
    behind_index : {start place o c p : ℕ} {e : ExprTree} {rest : LinkTrees} {m s : Meaning} {k : ValueKind} {a : Bool} → HasMeaning w locals e (Value k a) →
        Indexes w m k s → LinksHaveFault w locals start start (Some s) rest p →
        LinksHaveFault w locals start place (Some m) (tree.index o e c rest) p
    behind_no_index : {start place o c p : ℕ} {e : ExprTree} {rest : LinkTrees} {m : Option Meaning} → LinksHaveFault w locals start start None rest p →
        LinksHaveFault w locals start place m (tree.index o e c rest) p
    not_called : {start place o c : ℕ} {xs : ArgumentTrees} {rest : LinkTrees} {m : Meaning} → IsNoCallee m →
        LinksHaveFault w locals start place (Some m) (tree.call o xs c rest) place
    in_arguments : {start place o c p : ℕ} {xs : ArgumentTrees} {rest : LinkTrees} {m : Option Meaning} → ArgumentsHaveFault w locals xs p →
        LinksHaveFault w locals start place m (tree.call o xs c rest) p
    misfit : {start place o c p : ℕ} {xs : ArgumentTrees} {rest : LinkTrees} {m : Meaning} → Misfits w locals m xs p →
        LinksHaveFault w locals start place (Some m) (tree.call o xs c rest) p
    no_call : {start place o c : ℕ} {xs : ArgumentTrees} {rest : LinkTrees} {m : Meaning} {ks : List ValueKind} → AreValues w locals xs ks →
        ((s : Meaning) → CallGives w m ks s → ⊥) → ((p : ℕ) → Misfits w locals m xs p → ⊥) →
        LinksHaveFault w locals start place (Some m) (tree.call o xs c rest) start
    behind_call : {start place o c p : ℕ} {xs : ArgumentTrees} {rest : LinkTrees} {m s : Meaning} {ks : List ValueKind} → AreValues w locals xs ks →
        CallGives w m ks s → LinksHaveFault w locals start start (Some s) rest p →
        LinksHaveFault w locals start place (Some m) (tree.call o xs c rest) p
    behind_no_call : {start place o c p : ℕ} {xs : ArgumentTrees} {rest : LinkTrees} {m : Option Meaning} →
        LinksHaveFault w locals start start None rest p → LinksHaveFault w locals start place m (tree.call o xs c rest) p

  -- Operators and operands have a fault at the last token. The operation begins at the first token, and its part before them has the given
  -- meaning.
  pub data OperandsHaveFault (w : World) (locals : Locals) : ℕ → Option Meaning → OperandTrees → ℕ → Type 0 where
    in_operand : {start q p : ℕ} {o : BinaryOp} {e : ExprTree} {rest : OperandTrees} {m : Option Meaning} → ValueHasFault w locals e p →
        OperandsHaveFault w locals start m (tree.operand o q e rest) p
    no_operation : {start q : ℕ} {o : BinaryOp} {e : ExprTree} {rest : OperandTrees} {j k : ValueKind} {a b : Bool} → HasMeaning w locals e (Value k b) →
        ((l : ValueKind) → Operates w o j k l → ⊥) →
        OperandsHaveFault w locals start (Some (Value j a)) (tree.operand o q e rest) start
    behind_operation : {start q p : ℕ} {o : BinaryOp} {e : ExprTree} {rest : OperandTrees} {j k l : ValueKind} {a b : Bool} →
        HasMeaning w locals e (Value k b) →
        Operates w o j k l →
        OperandsHaveFault w locals start (Some (Value l false)) rest p → OperandsHaveFault w locals start (Some (Value j a)) (tree.operand o q e rest) p
    behind_no_operation : {start q p : ℕ} {o : BinaryOp} {e : ExprTree} {rest : OperandTrees} {m : Option Meaning} →
        OperandsHaveFault w locals start None rest p →
        OperandsHaveFault w locals start m (tree.operand o q e rest) p

  -- one of the arguments has a fault at this token
  pub data ArgumentsHaveFault (w : World) (locals : Locals) : ArgumentTrees → ℕ → Type 0 where
    in_this : {e : ExprTree} {c : Option ℕ} {rest : ArgumentTrees} {p : ℕ} → ValueHasFault w locals e p → ArgumentsHaveFault w locals (tree.argument e c rest) p
    in_other : {e : ExprTree} {c : Option ℕ} {rest : ArgumentTrees} {p : ℕ} → ArgumentsHaveFault w locals rest p →
        ArgumentsHaveFault w locals (tree.argument e c rest) p

  -- the literal has a fault at this token
  pub data LiteralHasFault (w : World) (locals : Locals) : LiteralTree → ℕ → Type 0 where
    in_type : {x : TypeTree} {o c p : ℕ} {es : ElementTrees} → IsNoType w x p → LiteralHasFault w locals (tree.literal x o es c) p
    in_untyped : {x : TypeTree} {o c p : ℕ} {es : ElementTrees} → ValuesHaveFault w locals es p → LiteralHasFault w locals (tree.literal x o es c) p
    in_elements : {x : TypeTree} {o c p : ℕ} {es : ElementTrees} {t : PlainType} → IsType w x t → ElementsHaveFault w locals t [] es p →
        LiteralHasFault w locals (tree.literal x o es c) p
    unkeyed : {x : TypeTree} {o c : ℕ} {es : ElementTrees} {t : PlainType} {s : Symbol} → IsType w x t → underlying w t ≡ Struct s →
        HaveValues w locals es → HasUnkeyed es → LiteralHasFault w locals (tree.literal x o es c) (first_of_type x)
    no_literal : {x : TypeTree} {o c : ℕ} {es : ElementTrees} {t : PlainType} → IsType w x t → HaveValues w locals es →
        ((s : Symbol) → underlying w t ≡ Struct s → ⊥) → ((u : PlainType) → underlying w t ≡ SliceOf u → ⊥) →
        LiteralHasFault w locals (tree.literal x o es c) (first_of_type x)

  -- the value of an element, in a literal whose type is broken, has a fault at this token
  pub data ValuesHaveFault (w : World) (locals : Locals) : ElementTrees → ℕ → Type 0 where
    this_element : {key : Option (ℕ × ℕ)} {e : ExprTree} {c : Option ℕ} {rest : ElementTrees} {p : ℕ} → ValueHasFault w locals e p →
        ValuesHaveFault w locals (tree.element key e c rest) p
    other_element : {key : Option (ℕ × ℕ)} {e : ExprTree} {c : Option ℕ} {rest : ElementTrees} {p : ℕ} → ValuesHaveFault w locals rest p →
        ValuesHaveFault w locals (tree.element key e c rest) p

  -- an element, in a literal of the given type where earlier keys named the fields of the given ranks, has a fault at this token
  pub data ElementsHaveFault (w : World) (locals : Locals) : PlainType → List ℕ → ElementTrees → ℕ → Type 0 where
    in_element : {t : PlainType} {named : List ℕ} {key : Option (ℕ × ℕ)} {e : ExprTree} {c : Option ℕ} {rest : ElementTrees} {p : ℕ} →
        ValueHasFault w locals e p →
        ElementsHaveFault w locals t named (tree.element key e c rest) p
    no_key : {t : PlainType} {named : List ℕ} {key : ℕ × ℕ} {e : ExprTree} {c : Option ℕ} {rest : ElementTrees} →
        ((s : Symbol) (u : PlainType) → IsKey w t named key.0 s u → ⊥) → (IsBrokenKey w t key.0 → ⊥) →
        ElementsHaveFault w locals t named (tree.element (Some key) e c rest) key.0
    field_misfit : {t u : PlainType} {named : List ℕ} {key : ℕ × ℕ} {e : ExprTree} {c : Option ℕ} {rest : ElementTrees} {s : Symbol} {k : ValueKind} {a :
        Bool} →
        IsKey w t named key.0 s u → HasMeaning w locals e (Value k a) →
        (FitsType w k u → ⊥) → ElementsHaveFault w locals t named (tree.element (Some key) e c rest) (place_of e)
    element_misfit : {t u : PlainType} {named : List ℕ} {key : Option (ℕ × ℕ)} {e : ExprTree} {c : Option ℕ} {rest : ElementTrees} {k : ValueKind} {a : Bool} →
        underlying w t ≡ SliceOf u → HasMeaning w locals e (Value k a) →
        (FitsType w k u → ⊥) → ElementsHaveFault w locals t named (tree.element key e c rest) (place_of e)
    behind_field : {t u : PlainType} {named : List ℕ} {key : ℕ × ℕ} {e : ExprTree} {c : Option ℕ} {rest : ElementTrees} {s : Symbol} {p : ℕ} →
        IsKey w t named key.0 s u →
        ElementsHaveFault w locals t (s.rank ∷ named) rest p → ElementsHaveFault w locals t named (tree.element (Some key) e c rest) p
    behind_element : {t : PlainType} {named : List ℕ} {key : Option (ℕ × ℕ)} {e : ExprTree} {c : Option ℕ} {rest : ElementTrees} {p : ℕ} →
        ElementsHaveFault w locals t named rest p →
        ElementsHaveFault w locals t named (tree.element key e c rest) p
