-- The part of a question that the file of a function leaves open.
use Rattle.std.specs.Prelude.{ℕ, ◌≡◌, ⊤, List, Some}
use Rattle.types_expr.specs.Types.{Meaning, Value, TypeName, Function, BuiltinName, Package, Results, Broken}
use Rattle.types_expr.specs.World.{Bound, Local, Means, BrokenVariable, BrokenFunction, BrokenType}
use Rattle.build_object.specs.Lines.{GlobalName, FunctionName, Plain}
use Rattle.build_object.specs.Source.{Source}
use Rattle.build_object.specs.Numbering.{slot_of}
use Rattle.law_faultless.specs.Stack.{Arity}
use Rattle.law_faultless.specs.Questions.{TokenQuestion, OfInteger, OfText, OfName, OfExport, OfMember, OfDeclared, OfLeft}
use Rattle.law_faultless.specs.QuestionAnswers.{IsKnown, plain_arity, MemberIsKnown}

-- If the name at token n means a function, its name in objects has the arity of the function. A name never means the results of a call.
abbrev pub HasArity : (arity : FunctionName → Arity) → Source → ℕ → Meaning → Type 0
HasArity arity s n (Value k a) = ⊤
HasArity arity s n (TypeName t) = ⊤
HasArity arity s n (Function f) = (g : GlobalName) → s.global n ≡ Some g → arity (Plain g) ≡ plain_arity f
HasArity arity s n (BuiltinName b) = ⊤
HasArity arity s n Package = ⊤
HasArity arity s n (Results ts) = ⊥
HasArity arity s n Broken = ⊤

-- If the name at token n is a local, the local has one of the function's slots. If it means a function, its name in objects has the arity
-- of the function.
abbrev pub NameIsSettled : (arity : FunctionName → Arity) → Source → (slots : List ℕ) → ℕ → Bound → Type 0
NameIsSettled arity s slots n (Local place) = IsKnown (slot_of slots place)
NameIsSettled arity s slots n (Means m) = HasArity arity s n m
NameIsSettled arity s slots n BrokenVariable = ⊤
NameIsSettled arity s slots n BrokenFunction = ⊤
NameIsSettled arity s slots n BrokenType = ⊤

-- The part of the question that the file leaves open has an answer. The file alone answers questions of literals and of declared locals.
abbrev pub OpenIsKnown : (arity : FunctionName → Arity) → Source → (slots : List ℕ) → TokenQuestion → Type 0
OpenIsKnown arity s slots (OfInteger n) = ⊤
OpenIsKnown arity s slots (OfText n) = ⊤
OpenIsKnown arity s slots (OfName n) = NameIsSettled arity s slots n (s.world.bound n)
OpenIsKnown arity s slots (OfExport n) = NameIsSettled arity s slots n (s.world.bound n) × (s.world.bound n ≡ Means Package → ⊥)
OpenIsKnown arity s slots (OfMember n t) = MemberIsKnown arity s (s.world.member n t)
OpenIsKnown arity s slots (OfDeclared n) = ⊤
OpenIsKnown arity s slots (OfLeft n) = (place : ℕ) × ((s.world.bound n ≡ Local place) × IsKnown (slot_of slots place))
