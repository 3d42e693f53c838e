-- Values given to targets where parts may be broken: the values that right sides give, the targets on the left, and the tokens at which a
-- value is refused.
use Rattle.std.specs.Prelude.{◌≡◌, ℕ, Bool, true, List, [], ◌∷◌, Option, Some, None, map, length, option_map}
use Rattle.go_ast.specs.Tree.{Item, ExprTree}
use Rattle.go_ast.specs.Tree as tree
use Rattle.types_expr.specs.Places.{place_of}
use Rattle.types_expr.specs.Types.{PlainType, ValueKind, Typed, Value, Results}
use Rattle.types_expr.specs.World.{World, Locals}
use Rattle.types_expr.specs.Judge.{ListValue}
use Rattle.law_typing.specs.Meanings.{HasMeaning}
use Rattle.types_stmt.specs.Sides.{Target, Wants}
use Rattle.law_typing.specs.Assignments.{Taker, Fresh, OfType, TakesValue}
use Rattle.law_typing.specs.Excused.{IsBlank, IsDeclaredName}

-- Right sides

-- a value of kind k, none where it is broken, that reports its faults at `place`
abbrev pub given_at : ℕ → Option ValueKind → ListValue
given_at place k = record { place = place; kind = k }

-- k is the kind of the value of expression e, none where e is no value
pub data GivesKind (w : World) (locals : Locals) (e : ExprTree) : Option ValueKind → Type 0 where
  a_value : {k : ValueKind} {a : Bool} → HasMeaning w locals e (Value k a) → GivesKind w locals e (Some k)
  not_a_value : ((k : ValueKind) (a : Bool) → HasMeaning w locals e (Value k a) → ⊥) → GivesKind w locals e None

-- each expression gives the value at its position
pub data EachGives (w : World) (locals : Locals) : List (Item ExprTree) → List ListValue → Type 0 where
  none_left : EachGives w locals [] []
  one_more : {i : Item ExprTree} {is : List (Item ExprTree)} {k : Option ValueKind} {vs : List ListValue} → GivesKind w locals i.value k →
      EachGives w locals is vs →
      EachGives w locals (i ∷ is) (given_at (place_of i.value) k ∷ vs)

-- Right sides or returned expressions give these values. A single call with several results, or with none, gives these, each at the place
-- of the call.
pub data SidesGive (w : World) (locals : Locals) : List (Item ExprTree) → List ListValue → Type 0 where
  nothing_given : SidesGive w locals [] []
  a_call : {i : Item ExprTree} {ts : List PlainType} → HasMeaning w locals i.value (Results ts) →
      SidesGive w locals (i ∷ []) (map (λ t. given_at (place_of i.value) (Some (Typed t))) ts)
  one_given : {i : Item ExprTree} {k : Option ValueKind} → ((ts : List PlainType) → HasMeaning w locals i.value (Results ts) → ⊥) →
      GivesKind w locals i.value k →
      SidesGive w locals (i ∷ []) (given_at (place_of i.value) k ∷ [])
  several_given : {i j : Item ExprTree} {is : List (Item ExprTree)} {vs : List ListValue} → EachGives w locals (i ∷ j ∷ is) vs →
      SidesGive w locals (i ∷ j ∷ is) vs

-- Left sides

-- a left side of `=` as a target: `_`, or a variable; none for anything else
pub data AssignedTakes (w : World) (locals : Locals) (e : ExprTree) : Option Taker → Type 0 where
  a_blank : IsBlank e → AssignedTakes w locals e (Some Fresh)
  a_variable : {t : PlainType} → HasMeaning w locals e (Value (Typed t) true) → AssignedTakes w locals e (Some (OfType t))
  no_variable : (IsBlank e → ⊥) → ((t : PlainType) → HasMeaning w locals e (Value (Typed t) true) → ⊥) → AssignedTakes w locals e None

-- the expression is a name that denotes a value of type t
pub data NamesValueOf (w : World) (locals : Locals) : ExprTree → PlainType → Type 0 where
  an_old_name : {p : ℕ} {t : PlainType} {a : Bool} → HasMeaning w locals (tree.Name p) (Value (Typed t) a) → NamesValueOf w locals (tree.Name p) t

-- a left side of `:=` as a target: `_`, a new name, or the name of a value; none for anything else
pub data DefinedTakes (w : World) (locals : Locals) (e : ExprTree) : Option Taker → Type 0 where
  an_underscore : IsBlank e → DefinedTakes w locals e (Some Fresh)
  a_new_name : IsDeclaredName w e → DefinedTakes w locals e (Some Fresh)
  a_known_name : {t : PlainType} → (IsDeclaredName w e → ⊥) → NamesValueOf w locals e t → DefinedTakes w locals e (Some (OfType t))
  no_name : (IsBlank e → ⊥) → (IsDeclaredName w e → ⊥) → ((t : PlainType) → NamesValueOf w locals e t → ⊥) → DefinedTakes w locals e None

-- each left side is the target at its position, where R gives the target of one
pub data EachTakes (R : ExprTree → Option Taker → Type 0) : List (Item ExprTree) → List (Option Taker) → Type 0 where
  no_side : EachTakes R [] []
  one_side : {i : Item ExprTree} {is : List (Item ExprTree)} {t : Option Taker} {ts : List (Option Taker)} → R i.value t → EachTakes R is ts →
      EachTakes R (i ∷ is) (t ∷ ts)

-- a target of type t, none where that is broken
abbrev pub taker_of : Option PlainType → Option Taker
taker_of t = option_map OfType t

-- the targets of returned values: the results of a function, whose types are none where they are broken
abbrev pub as_targets : List (Option PlainType) → List Target
as_targets results = map (λ t. Wants t) results

-- Values that are refused

-- the target does not take the value; neither is broken
pub data Refuses (w : World) : Option ValueKind → Option Taker → Type 0 where
  refuses : {k : ValueKind} {t : Taker} → (TakesValue w k t → ⊥) → Refuses w (Some k) (Some t)

-- one of the values, at this token, is refused by the target at its position
pub data RefusedInTurn (w : World) : List ListValue → List (Option Taker) → ℕ → Type 0 where
  this_refused : {v : ListValue} {vs : List ListValue} {t : Option Taker} {ts : List (Option Taker)} → Refuses w v.kind t →
      RefusedInTurn w (v ∷ vs) (t ∷ ts) v.place
  later_refused : {v : ListValue} {vs : List ListValue} {t : Option Taker} {ts : List (Option Taker)} {p : ℕ} → RefusedInTurn w vs ts p →
      RefusedInTurn w (v ∷ vs) (t ∷ ts) p

-- none of the values is broken
pub data AllHaveKinds : List ListValue → Type 0 where
  all_given : AllHaveKinds []
  also_given : {v : ListValue} {vs : List ListValue} {k : ValueKind} → v.kind ≡ Some k → AllHaveKinds vs → AllHaveKinds (v ∷ vs)

-- none of the targets is broken
pub data AllTake : List (Option Taker) → Type 0 where
  all_taken : AllTake []
  also_taken : {t : Taker} {ts : List (Option Taker)} → AllTake ts → AllTake (Some t ∷ ts)

-- Values given to left sides break a rule at this token: one of them is refused; or their count is wrong and no part is broken, which is a
-- fault at `place`, where the first left side begins.
pub data IsAssignmentFault (w : World) (place : ℕ) (vs : List ListValue) (ts : List (Option Taker)) : ℕ → Type 0 where
  one_refused : {p : ℕ} → length vs ≡ length ts → RefusedInTurn w vs ts p → IsAssignmentFault w place vs ts p
  wrong_count : (length vs ≡ length ts → ⊥) → AllHaveKinds vs → AllTake ts → IsAssignmentFault w place vs ts place

-- Values returned as results break a rule at this token: one of them is refused; or their count is wrong and none is broken, which is a
-- fault at `place`, where the `return` is.
pub data IsReturnFault (w : World) (place : ℕ) (vs : List ListValue) (ts : List (Option Taker)) : ℕ → Type 0 where
  result_refused : {p : ℕ} → length vs ≡ length ts → RefusedInTurn w vs ts p → IsReturnFault w place vs ts p
  wrong_return : (length vs ≡ length ts → ⊥) → AllHaveKinds vs → IsReturnFault w place vs ts place
