-- The rules of giving values to targets (new names, variables and results), and the locals that new names declare.
use Rattle.std.specs.Prelude.{ℕ, Bool, List, [], ◌∷◌, Option, Some, None, map}
use Rattle.go_ast.specs.Tree.{Item, ExprTree}
use Rattle.types_expr.specs.declared.types.Basic.{Basic}
use Rattle.types_expr.specs.Types.{PlainType, BasicType, ValueKind, Typed, Untyped, Value, Results}
use Rattle.types_expr.specs.World.{World, Locals, declared}
use Rattle.law_typing.specs.Fits.{FitsType}
use Rattle.law_typing.specs.Meanings.{HasMeaning}

-- a name without a written type takes type t from a value of kind k: the value's own type, or the default type of a constant; nil gives
-- none
pub data DefaultsTo : ValueKind → PlainType → Type 0 where
  own : {t : PlainType} → DefaultsTo (Typed t) t
  by_default : {b : Basic} → DefaultsTo (Untyped b) (BasicType b)

-- A target of a value: `Fresh`, a new name or `_`, has no type of its own. A variable, a name with a written type, or a result has one.
pub data Taker : Type 0 where
  Fresh : Taker
  OfType : PlainType → Taker

-- a target takes a value of kind k: a new name can have it, or it fits the target's type
pub data TakesValue (w : World) : ValueKind → Taker → Type 0 where
  fresh : {k : ValueKind} {t : PlainType} → DefaultsTo k t → TakesValue w k Fresh
  fitting : {k : ValueKind} {t : PlainType} → FitsType w k t → TakesValue w k (OfType t)

-- there are as many values as targets, and each value is taken by the target at its position
pub data TakenInTurn (w : World) : List ValueKind → List Taker → Type 0 where
  none_given : TakenInTurn w [] []
  also_given : {k : ValueKind} {t : Taker} {ks : List ValueKind} {ts : List Taker} → TakesValue w k t → TakenInTurn w ks ts → TakenInTurn w (k ∷ ks) (t ∷ ts)

-- each expression is one value, of the kind at its position
pub data AreEachValues (w : World) (locals : Locals) : List (Item ExprTree) → List ValueKind → Type 0 where
  no_expression : AreEachValues w locals [] []
  also_value : {i : Item ExprTree} {is : List (Item ExprTree)} {k : ValueKind} {a : Bool} {ks : List ValueKind} → HasMeaning w locals i.value (Value k a) →
      AreEachValues w locals is ks → AreEachValues w locals (i ∷ is) (k ∷ ks)

-- right sides or returned expressions give values of these kinds: one each; or they are a single call, which gives its results
pub data GiveKinds (w : World) (locals : Locals) : List (Item ExprTree) → List ValueKind → Type 0 where
  values : {is : List (Item ExprTree)} {ks : List ValueKind} → AreEachValues w locals is ks → GiveKinds w locals is ks
  results : {i : Item ExprTree} {ts : List PlainType} → HasMeaning w locals i.value (Results ts) → GiveKinds w locals (i ∷ []) (map Typed ts)

-- Names declare locals whose types they take from values: the locals before, the names, the kinds of the values, the locals after. A name
-- is given by its token, and is none where it declares no local.
pub data Declare : Locals → List (Option ℕ) → List ValueKind → Locals → Type 0 where
  no_name : {before : Locals} → Declare before [] [] before
  no_local : {before after : Locals} {k : ValueKind} {ns : List (Option ℕ)} {ks : List ValueKind} → Declare before ns ks after →
      Declare before (None ∷ ns) (k ∷ ks) after
  new_local : {before after : Locals} {p : ℕ} {k : ValueKind} {t : PlainType} {ns : List (Option ℕ)} {ks : List ValueKind} → DefaultsTo k t →
      Declare (declared before p (Some t)) ns ks after →
      Declare before (Some p ∷ ns) (k ∷ ks) after

-- names declare locals of the written type t: the locals before, the names, the locals after
pub data DeclareAs (t : PlainType) : Locals → List (Option ℕ) → Locals → Type 0 where
  no_name_left : {before : Locals} → DeclareAs t before [] before
  not_named : {before after : Locals} {ns : List (Option ℕ)} → DeclareAs t before ns after → DeclareAs t before (None ∷ ns) after
  named : {before after : Locals} {p : ℕ} {ns : List (Option ℕ)} → DeclareAs t (declared before p (Some t)) ns after → DeclareAs t before (Some p ∷ ns) after
