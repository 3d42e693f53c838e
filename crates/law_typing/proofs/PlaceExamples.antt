-- Small statements that break a rule, with the token; and a statement after a local of unknown type, which breaks none.
use Rattle.std.proofs.Common.{ℕ, ◌≡◌, ◌==◌, if◌then◌else◌, Bool, true, false, [], ◌∷◌, Option, Some, None, sym, true≢false}
use Rattle.go_ast.specs.declared.syntax.StepOp.TheVariants as step
use Rattle.go_ast.specs.Tree as tree
use Rattle.types_expr.specs.declared.types.Basic.TheVariants as basic
use Rattle.types_expr.specs.Places.{place_of, first_token}
use Rattle.types_expr.specs.Types.{PlainType, BasicType, Struct, ValueKind, Value, Meaning, Broken}
use Rattle.types_expr.specs.World.{World, Locals, Local, Means, no_locals, declared}
use Rattle.law_typing.specs.Names.{a_local, a_bound}
use Rattle.law_typing.specs.Meanings.{HasMeaning, number, name}
use Rattle.law_typing.specs.AssignmentFaults.{nothing_given, all_given, wrong_return}
use Rattle.law_typing.specs.SimpleFaults.{in_operand, not_assignable, SimpleBreaksAt, in_step, no_step}
use Rattle.law_typing.specs.StatementFaults.{StatementBreaksAt, no_return}

-- the name at token 6 is that of a local that is declared at token 0
abbrev world : World
world = record { bound = λ p. if p == 6 then Local 0 else Means Broken; member = λ n t. None; definition = λ s. Struct s; implements = λ t s. false }

constant : {j k : ValueKind} → Value j false ≡ Value k true → ⊥
constant h = let q : false ≡ true = cc in true≢false (sym q)

-- `2++` breaks its rule at the number
step_of_number : SimpleBreaksAt world no_locals (tree.Step (tree.Number 2) step.Increment 3) 2
unfolding place_of first_token
step_of_number = in_step (not_assignable number (λ k h. constant h))

-- `return` in a function with a result breaks its rule at itself
no_value_returned : (before : Locals) → StatementBreaksAt world (Some (BasicType basic.Int) ∷ []) before (tree.Return 7 []) 7
no_value_returned before = no_return nothing_given (wrong_return (λ e. cc) all_given)

-- after a declaration of x whose type is not known, `x++` breaks no rule
abbrev nothing : Option PlainType
nothing = None

unknown : (b : Bool) (t : PlainType) → (if b then nothing else nothing) ≡ Some t → ⊥
unknown true t h = cc
unknown false t h = cc

nameless : {m : Meaning} → HasMeaning world (declared no_locals 0 None) (tree.Name 6) m → ⊥
nameless (name (a_local {declaration = d} {t = t} e f)) = unknown (d == 0) t f
nameless (name (a_bound e n)) = cc

step_of_unknown : (p : ℕ) → SimpleBreaksAt world (declared no_locals 0 None) (tree.Step (tree.Name 6) step.Increment 7) p → ⊥
step_of_unknown p (in_step (in_operand b)) = elim b [ ]
step_of_unknown p (in_step (not_assignable h n)) = nameless h
step_of_unknown p (no_step h n) = nameless h
