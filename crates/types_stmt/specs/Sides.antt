-- The two sides of assignments and local declarations: the values of the right sides, the targets on the left, and the faults where values
-- do not go with targets.
use Rattle.std.specs.Prelude.{ℕ, ◌==◌, Bool, true, false, ◌&&◌, if◌then◌else◌, List, [], ◌∷◌, ◌++◌, Option, Some, None, length, map}
use Rattle.std.specs.List.{list_all}
use Rattle.go_ast.specs.Tree.{Item, IdentTree, Named, Underscore, ExprTree, Name, Blank}
use Rattle.types_expr.specs.Types.{PlainType, BasicType, ValueKind, Typed, Untyped, Nil, Meaning, Value, Results, Broken}
use Rattle.types_expr.specs.World.{World, Bound, Local, Locals, declared, giving}
use Rattle.types_expr.specs.Places.{place_of, first_token}
use Rattle.types_expr.specs.Judge.{Judged, Noted, ListValue, JudgedList, judge, judge_value, as_value, value_kind, value_before, misfit, entering, means, wrong}
use Rattle.types_expr.specs.Judge.{followed, all_whole}
use Rattle.types_stmt.specs.Checked.{fault_if}

-- Right sides: a single call with several results, or with none, gives these as its values, each at the place of the call

-- a result of type t of a call that reports its faults at `place`
abbrev pub result_at : ℕ → PlainType → ListValue
result_at place t = record { place = place; kind = Some (Typed t) }

-- the results of a call that reports its faults at `place`
abbrev pub results_at : ℕ → List PlainType → List ListValue
results_at place ts = map (result_at place) ts

-- the single value of an expression that reports its faults at `place`
abbrev pub one_value : ℕ → Judged → JudgedList
one_value place j = record { values = record { place = place; kind = value_kind j.meaning } ∷ []; faults = j.faults; uses = j.uses }

-- the values of a single right side that means m: the results of a call, or one value
unfoldable pub values_of : ℕ → Meaning → JudgedList
values_of place (Results ts) = record { values = results_at place ts; faults = []; uses = [] }
values_of place m = one_value place (as_value place m)

-- the judgement j of an expression, followed by that of a rule for its meaning, which gives a list of values
abbrev pub list_followed : Judged → (Meaning → JudgedList) → JudgedList
list_followed j rule = record { values = (rule j.meaning).values; faults = j.faults ++ (rule j.meaning).faults; uses = j.uses ++ (rule j.meaning).uses }

-- the judgement of expressions where each has to be one value
unfoldable pub judge_each : World → Locals → List (Item ExprTree) → JudgedList
judge_each w ls [] = record { values = []; faults = []; uses = [] }
judge_each w ls (i ∷ is) = value_before (place_of i.value) (judge_value w ls i.value) (judge_each w ls is)

-- the judgement of right sides: a single call may give several values
unfoldable pub rhs : World → Locals → List (Item ExprTree) → JudgedList
rhs w ls (i ∷ []) = list_followed (judge w ls i.value) (values_of (place_of i.value))
rhs w ls is = judge_each w ls is

-- The world as the targets of values see it, where these right sides give them. Where there are as many values as right sides, each is that
-- of an expression of its own. Else they are the results of one call, of which only those of an interface type enter interfaces.
abbrev pub receiving : {X Y : Type 0} → World → List X → List Y → World
receiving w sides values = giving (length values == length sides) w

-- A target of a value: a left side, or a result. A new name or `_` takes a value of any type. Any other target wants one that fits its own
-- type, which is none where it is broken.
pub data Target : Type 0 where
  Takes : Target
  Wants : Option PlainType → Target

-- whether a target is not broken
abbrev pub is_unbroken : Target → Bool
is_unbroken Takes = true
is_unbroken (Wants None) = false
is_unbroken (Wants (Some t)) = true

-- whether no target is broken
abbrev pub all_unbroken : List Target → Bool
all_unbroken ts = list_all is_unbroken ts

-- a fault where nil is given to a new name or `_`: nil has no type that they could take (`x := nil`)
unfoldable pub nil_refused : ℕ → Option ValueKind → List ℕ
nil_refused place (Some Nil) = place ∷ []
nil_refused place k = []

-- a fault at `place`, where the value stands, if its target refuses it
unfoldable pub refused_at : World → ℕ → Option ValueKind → Target → List ℕ
refused_at w place k (Wants None) = []
refused_at w place k (Wants (Some t)) = misfit w place k t
refused_at w place k Takes = nil_refused place k

-- the faults of the values that the targets at their positions refuse
unfoldable pub all_refused : World → List ListValue → List Target → List ℕ
all_refused w [] ts = []
all_refused w (v ∷ vs) [] = []
all_refused w (v ∷ vs) (t ∷ ts) = refused_at w v.place v.kind t ++ all_refused w vs ts

-- the entry of the value at `place` into the type of its target
unfoldable pub entered_at : World → ℕ → Option ValueKind → Target → List Noted
entered_at w place k (Wants (Some t)) = entering w place k t
entered_at w place k t = []

-- the entries of the values into the types of the targets at their positions
unfoldable pub all_entered : World → List ListValue → List Target → List Noted
all_entered w [] ts = []
all_entered w (v ∷ vs) [] = []
all_entered w (v ∷ vs) (t ∷ ts) = entered_at w v.place v.kind t ++ all_entered w vs ts

-- the entries of values given to targets; under a wrong count none enters
unfoldable pub given_enterings : World → List ListValue → List Target → List Noted
given_enterings w vs ts = if length vs == length ts then all_entered w vs ts else []

-- The faults of values given to targets. A wrong count is a fault at `place`, where no part is broken. Under a wrong count no value is
-- compared with a target.
unfoldable pub given_faults : World → ℕ → List ListValue → List Target → List ℕ
given_faults w place vs ts = if length vs == length ts then all_refused w vs ts else fault_if (all_whole vs && all_unbroken ts) place

-- the judgement of left sides: their targets, faults and uses of members
pub record Lefts : Type 0 where
  pub targets : List Target
  pub faults : List ℕ
  pub uses : List Noted

-- the judgement of one left side
abbrev pub left_side : Target → Judged → Lefts
left_side t j = record { targets = t ∷ []; faults = j.faults; uses = j.uses }

-- left sides, followed by others
abbrev pub join_lefts : Lefts → Lefts → Lefts
join_lefts a b = record { targets = a.targets ++ b.targets; faults = a.faults ++ b.faults; uses = a.uses ++ b.uses }

-- an operand that is assigned: any that is not addressable is a fault at `place`
unfoldable pub assignable : ℕ → Meaning → Judged
assignable place (Value k true) = means (Value k true)
assignable place Broken = means Broken
assignable place m = wrong place

-- the judgement of an expression that is assigned
abbrev pub judge_operand : World → Locals → ExprTree → Judged
judge_operand w ls e = followed (judge w ls e) (assignable (place_of e))

-- the type of a value, none for one without a type
unfoldable pub own_type : Meaning → Option PlainType
own_type (Value (Typed t) a) = Some t
own_type m = None

-- the judgement of a left side of `=`
unfoldable pub assigned_one : World → Locals → ExprTree → Lefts
assigned_one w ls (Blank p) = left_side Takes (means Broken)
assigned_one w ls e = left_side (Wants (own_type (judge_operand w ls e).meaning)) (judge_operand w ls e)

-- the judgement of the left sides of `=`
unfoldable pub assigned : World → Locals → List (Item ExprTree) → Lefts
assigned w ls [] = record { targets = []; faults = []; uses = [] }
assigned w ls (i ∷ is) = join_lefts (assigned_one w ls i.value) (assigned w ls is)

-- whether the name at token p is bound to the local that it declares itself
abbrev pub is_own : ℕ → Bound → Bool
is_own p (Local d) = d == p
is_own p b = false

-- whether the name at token p, on the left of `:=`, declares a local
abbrev pub declares : World → ℕ → Bool
declares w p = is_own p (w.bound p)

-- a left side of `:=` that is no identifier: a fault at `place`, unless it is broken already
unfoldable pub no_name : ℕ → Meaning → Judged
no_name place Broken = means Broken
no_name place m = wrong place

-- a name on the left of `:=` that declares nothing, and so is assigned: the second x here
--   x := 1
--   x, y := 2, 3
abbrev pub reassigned : World → Locals → ℕ → Lefts
reassigned w ls p = left_side (Wants (own_type (judge_value w ls (Name p)).meaning)) (judge_value w ls (Name p))

-- the judgement of a left side of `:=`
unfoldable pub defined_one : World → Locals → ExprTree → Lefts
defined_one w ls (Blank p) = left_side Takes (means Broken)
defined_one w ls (Name p) = if declares w p then left_side Takes (means Broken) else reassigned w ls p
defined_one w ls e = left_side (Wants None) (followed (judge_value w ls e) (no_name (place_of e)))

-- the judgement of the left sides of `:=`
unfoldable pub defined : World → Locals → List (Item ExprTree) → Lefts
defined w ls [] = record { targets = []; faults = []; uses = [] }
defined w ls (i ∷ is) = join_lefts (defined_one w ls i.value) (defined w ls is)

-- Locals: declared names, each by its token, with their types at the same positions. A name is none where it declares nothing: `_`, or a
-- name that is assigned. A type is none where it is broken.

-- the default type of a value's kind (Go specification, "Constants"); nil has none
unfoldable pub default_type : ValueKind → Option PlainType
default_type (Typed t) = Some t
default_type (Untyped b) = Some (BasicType b)
default_type Nil = None

-- the type that a local takes from a value, none where the value is broken
unfoldable pub inferred_type : Option ValueKind → Option PlainType
inferred_type None = None
inferred_type (Some k) = default_type k

-- the types that locals take from values
abbrev pub inferred_types : List ListValue → List (Option PlainType)
inferred_types vs = map (λ v. inferred_type v.kind) vs

-- the types that `count` locals without a written type take from values; none under a wrong count, so that all are broken
unfoldable pub inferred : ℕ → List ListValue → List (Option PlainType)
inferred count vs = if length vs == count then inferred_types vs else []

-- the first type of a list, none of an empty one
abbrev pub head_or_none : List (Option PlainType) → Option PlainType
head_or_none [] = None
head_or_none (t ∷ ts) = t

-- the list without its first type
abbrev pub tail_of : List (Option PlainType) → List (Option PlainType)
tail_of [] = []
tail_of (t ∷ ts) = ts

-- the locals, with one more if there is a name
abbrev pub declared_if : Locals → Option ℕ → Option PlainType → Locals
declared_if ls None t = ls
declared_if ls (Some p) t = declared ls p t

-- the locals, with those of the given names, each of the type at its position; broken where the types have run out
unfoldable pub with_locals : Locals → List (Option ℕ) → List (Option PlainType) → Locals
with_locals ls [] ts = ls
with_locals ls (n ∷ ns) ts = with_locals (declared_if ls n (head_or_none ts)) ns (tail_of ts)

-- the locals, with those of the given names, each of the type that it takes from the value at its position
abbrev pub with_inferred : Locals → List (Option ℕ) → List ListValue → Locals
with_inferred ls ns vs = with_locals ls ns (inferred (length ns) vs)

-- the name that a left side of `:=` declares, by its token
unfoldable pub defined_name : World → ExprTree → Option ℕ
defined_name w (Name p) = if declares w p then Some p else None
defined_name w e = None

-- the names that the left sides of `:=` declare
abbrev pub defined_names : World → List (Item ExprTree) → List (Option ℕ)
defined_names w is = map (λ i. defined_name w i.value) is

-- the name that an identifier in a declaration declares; `_` declares none
unfoldable pub named : IdentTree → Option ℕ
named (Named n) = Some n
named (Underscore n) = None

-- the names that identifiers in a declaration declare
abbrev pub all_named : List (Item IdentTree) → List (Option ℕ)
all_named is = map (λ i. named i.value) is

-- the token of an identifier
unfoldable pub ident_place : IdentTree → ℕ
ident_place (Named n) = n
ident_place (Underscore n) = n

-- the first token of a list of expressions
unfoldable pub first_of_exprs : List (Item ExprTree) → ℕ
first_of_exprs [] = 0
first_of_exprs (i ∷ is) = first_token i.value

-- the token of the first of several identifiers
unfoldable pub first_of_idents : List (Item IdentTree) → ℕ
first_of_idents [] = 0
first_of_idents (i ∷ is) = ident_place i.value
