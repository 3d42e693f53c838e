-- The names to which an object gives a name of its own: variables and functions of packages.
use Rattle.types_expr.specs.Types.{Typed, Untyped, Nil, Meaning, Value, TypeName, Function, BuiltinName, Package, Results, Broken}

-- The meaning is that of a variable or a function of a package.
abbrev pub MeansGlobal : Meaning → Type 0
MeansGlobal (Value (Typed t) a) = Unit {0}
MeansGlobal (Value (Untyped b) a) = ⊥
MeansGlobal (Value Nil a) = ⊥
MeansGlobal (TypeName t) = ⊥
MeansGlobal (Function f) = Unit {0}
MeansGlobal (BuiltinName b) = ⊥
MeansGlobal Package = ⊥
MeansGlobal (Results ts) = ⊥
MeansGlobal Broken = ⊥
