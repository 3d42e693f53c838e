-- A move of packages gives them other paths. The symbols of types, members and meanings change their package with it; nothing else does.
use Rattle.std.specs.Prelude.{ℕ, ◌≡◌, List, option_map, map}
use Rattle.types_expr.specs.declared.symbol.Symbol.{Symbol}
use Rattle.types_expr.specs.Types.{PlainType, BasicType, Defined, Pointer, Slice, Underlying, Plain}
use Rattle.types_expr.specs.Types.{PointerTo, SliceOf, Struct, Interface, ValueKind, Typed, Untyped, Nil}
use Rattle.types_expr.specs.Types.{Signature, Meaning, Value, TypeName, Function, BuiltinName, Package, Results, Broken, WrittenAs, AFieldOf, AMethodOf}
use Rattle.types_expr.specs.World.{Bound, Local, Means, BrokenVariable, BrokenFunction, BrokenType, Member, AField, AMethod, ABrokenMethod, Locals}
use Rattle.types_expr.specs.Judge.{MemberUse, Entering, Noted, OfMember, OfEntering, Judged}
use Rattle.types_stmt.specs.Checked.{FoundSoFar}
use Rattle.types_stmt.specs.Sides.{Target, Takes, Wants}

-- The path of each package after the move. Where a package comes to a path that was free, the map may swap the two.
abbrev pub PathMap : Type 0
PathMap = List ℕ → List ℕ

-- no two packages come to one path
abbrev pub IsInjective : PathMap → Type 0
IsInjective g = (a b : List ℕ) → g a ≡ g b → a ≡ b

-- a symbol keeps its rank
abbrev pub moved_symbol : PathMap → Symbol → Symbol
moved_symbol g s = record { «package» = g s.package; rank = s.rank }

abbrev pub moved_type : PathMap → PlainType → PlainType
moved_type g (BasicType b) = BasicType b
moved_type g (Defined s) = Defined (moved_symbol g s)
moved_type g (Pointer t) = Pointer (moved_type g t)
moved_type g (Slice t) = Slice (moved_type g t)

abbrev pub moved_underlying : PathMap → Underlying → Underlying
moved_underlying g (Plain b) = Plain b
moved_underlying g (PointerTo t) = PointerTo (moved_type g t)
moved_underlying g (SliceOf t) = SliceOf (moved_type g t)
moved_underlying g (Struct s) = Struct (moved_symbol g s)
moved_underlying g (Interface s) = Interface (moved_symbol g s)

abbrev pub moved_kind : PathMap → ValueKind → ValueKind
moved_kind g (Typed t) = Typed (moved_type g t)
moved_kind g (Untyped b) = Untyped b
moved_kind g Nil = Nil

abbrev pub moved_signature : PathMap → Signature → Signature
moved_signature g s = record { parameters = map (moved_type g) s.parameters; results = map (moved_type g) s.results }

abbrev pub moved_form : PathMap → WrittenAs → WrittenAs
moved_form g (AFieldOf t) = AFieldOf (moved_type g t)
moved_form g (AMethodOf s) = AMethodOf (moved_signature g s)

abbrev pub moved_meaning : PathMap → Meaning → Meaning
moved_meaning g (Value k a) = Value (moved_kind g k) a
moved_meaning g (TypeName t) = TypeName (moved_type g t)
moved_meaning g (Function s) = Function (moved_signature g s)
moved_meaning g (BuiltinName b) = BuiltinName b
moved_meaning g Package = Package
moved_meaning g (Results ts) = Results (map (moved_type g) ts)
moved_meaning g Broken = Broken

-- a local stays bound to its token
abbrev pub moved_bound : PathMap → Bound → Bound
moved_bound g (Local token) = Local token
moved_bound g (Means m) = Means (moved_meaning g m)
moved_bound g BrokenVariable = BrokenVariable
moved_bound g BrokenFunction = BrokenFunction
moved_bound g BrokenType = BrokenType

abbrev pub moved_member : PathMap → Member → Member
moved_member g (AField s form) = AField (moved_symbol g s) (moved_form g form)
moved_member g (AMethod s on_pointer signature) = AMethod (moved_symbol g s) on_pointer (moved_signature g signature)
moved_member g (ABrokenMethod s) = ABrokenMethod (moved_symbol g s)

abbrev pub moved_locals : PathMap → Locals → Locals
moved_locals g locals = λ token. option_map (moved_type g) (locals token)

-- a use of a member keeps its token
abbrev pub moved_use : PathMap → MemberUse → MemberUse
moved_use g u = record { place = u.place; before = moved_type g u.before; member = option_map (moved_symbol g) u.member }

abbrev pub moved_entering : PathMap → Entering → Entering
moved_entering g e = record { place = e.place; own = moved_type g e.own }

abbrev pub moved_noted : PathMap → Noted → Noted
moved_noted g (OfMember u) = OfMember (moved_use g u)
moved_noted g (OfEntering e) = OfEntering (moved_entering g e)

-- What is found of an expression: the faults stay, the meaning, the uses and the entries are moved.
abbrev pub moved_found : PathMap → Judged → Judged
moved_found g j = record { meaning = moved_meaning g j.meaning; faults = j.faults; uses = map (moved_noted g) j.uses }

-- a target of a value
abbrev pub moved_target : PathMap → Target → Target
moved_target g Takes = Takes
moved_target g (Wants t) = Wants (option_map (moved_type g) t)

-- What is found of statements and files: the faults stay, the types of locals, the uses and the entries are moved.
abbrev pub moved_checked : PathMap → FoundSoFar → FoundSoFar
moved_checked g s = record { locals = moved_locals g s.locals; faults = s.faults; uses = map (moved_noted g) s.uses }
