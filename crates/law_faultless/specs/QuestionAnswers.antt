-- The answers to the questions that code asks: where all are known, no line of the code is left out.
use Rattle.std.specs.Prelude.{ℕ, suc, ◌≡◌, ⊤, List, length, Option, Some, None}
use Rattle.types_expr.specs.declared.symbol.Symbol.{Symbol}
use Rattle.types_expr.specs.Types.{Typed, Untyped, Nil, Signature, Meaning, Value, TypeName, Function, BuiltinName, Package, Results, Broken}
use Rattle.types_expr.specs.Types.{WrittenAs, AFieldOf, AMethodOf}
use Rattle.types_expr.specs.World.{Bound, Local, Means, BrokenVariable, BrokenFunction, BrokenType, Member, AField, AMethod, ABrokenMethod}
use Rattle.build_object.specs.Lines.{FunctionName}
use Rattle.build_object.specs.Source.{Source}
use Rattle.build_object.specs.Numbering.{slot_of}
use Rattle.build_object.specs.Operands.{plain_function}
use Rattle.law_faultless.specs.Stack.{Arity}
use Rattle.law_faultless.specs.Questions.{TokenQuestion, OfInteger, OfText, OfName, OfExport, OfMember, OfDeclared, OfLeft}

-- The optional value is there.
abbrev pub IsKnown : {X : Type 0} → Option X → Type 0
IsKnown {X} o = (x : X) × (o ≡ Some x)

-- The arity of a function with this signature and no receiver: its parameters and its results.
abbrev pub plain_arity : Signature → Arity
plain_arity f = record { parameters = length f.parameters; results = length f.results }

-- The arity of a method with this signature: its receiver counts as a parameter.
abbrev pub method_arity : Signature → Arity
method_arity f = record { parameters = suc (length f.parameters); results = length f.results }

-- The function has a name in objects, and the arity of this name is `own`.
abbrev pub IsNamedWith : (arity : FunctionName → Arity) → Option FunctionName → Arity → Type 0
IsNamedWith arity name own = (f : FunctionName) × ((name ≡ Some f) × (arity f ≡ own))

-- The code of a name with this meaning is known. A variable of a package has a name in objects, and a function also its arity. A name never
-- means the results of a call.
abbrev pub MeaningIsKnown : (arity : FunctionName → Arity) → Source → ℕ → Meaning → Type 0
MeaningIsKnown arity s n (Value (Typed t) a) = IsKnown (s.global n)
MeaningIsKnown arity s n (Value (Untyped b) a) = ⊤
MeaningIsKnown arity s n (Value Nil a) = ⊤
MeaningIsKnown arity s n (TypeName t) = ⊤
MeaningIsKnown arity s n (Function f) = IsNamedWith arity (plain_function (s.global n)) (plain_arity f)
MeaningIsKnown arity s n (BuiltinName b) = ⊤
MeaningIsKnown arity s n Package = ⊤
MeaningIsKnown arity s n (Results ts) = ⊥
MeaningIsKnown arity s n Broken = ⊤

-- The code of the name at token n is known. A local has one of the slots, and any other name has a known meaning.
abbrev pub NameIsKnown : (arity : FunctionName → Arity) → Source → (slots : List ℕ) → ℕ → Bound → Type 0
NameIsKnown arity s slots n (Local place) = IsKnown (slot_of slots place)
NameIsKnown arity s slots n (Means m) = MeaningIsKnown arity s n m
NameIsKnown arity s slots n BrokenVariable = ⊤
NameIsKnown arity s slots n BrokenFunction = ⊤
NameIsKnown arity s slots n BrokenType = ⊤

-- The code of a written member is known: the position of a field, or the name of a method that an interface asks for with its arity.
abbrev pub WrittenIsKnown : (arity : FunctionName → Arity) → Source → Symbol → WrittenAs → Type 0
WrittenIsKnown arity s f (AFieldOf t) = IsKnown (s.position f)
WrittenIsKnown arity s f (AMethodOf signature) = IsNamedWith arity (s.asked f) (method_arity signature)

-- The code of a member is known: the position of a field in its struct, or the name of a method with its arity.
abbrev pub MemberIsKnown : (arity : FunctionName → Arity) → Source → Option Member → Type 0
MemberIsKnown arity s None = ⊤
MemberIsKnown arity s (Some (AField f form)) = WrittenIsKnown arity s f form
MemberIsKnown arity s (Some (AMethod m on_pointer signature)) = IsNamedWith arity (s.function m) (method_arity signature)
MemberIsKnown arity s (Some (ABrokenMethod m)) = ⊤

-- The question has an answer. `slots` are the tokens at which the parameters and locals of the function are declared.
abbrev pub IsAnswered : (arity : FunctionName → Arity) → Source → (slots : List ℕ) → TokenQuestion → Type 0
IsAnswered arity s slots (OfInteger n) = IsKnown (s.number n)
IsAnswered arity s slots (OfText n) = IsKnown (s.text n)
IsAnswered arity s slots (OfName n) = NameIsKnown arity s slots n (s.world.bound n)
IsAnswered arity s slots (OfExport n) = NameIsKnown arity s slots n (s.world.bound n) × (s.world.bound n ≡ Means Package → ⊥)
IsAnswered arity s slots (OfMember n t) = (s.before n ≡ Some t) × MemberIsKnown arity s (s.world.member n t)
IsAnswered arity s slots (OfDeclared n) = IsKnown (slot_of slots n)
IsAnswered arity s slots (OfLeft n) = (place : ℕ) × ((s.world.bound n ≡ Local place) × IsKnown (slot_of slots place))
