-- Code that is not balanced: from an empty stack nothing is taken; a line that is left out is missed; a jump that leads to another
-- height is refused.
use Rattle.std.proofs.Common.{ℕ, ◌≡◌, ◌+◌, ◌≤◌, true, [], ◌∷◌, arith}
use Rattle.types_expr.specs.Types.{PlainType}
use Rattle.build_object.specs.Lines.{FunctionName, Integer, Truth, Pop, JumpUnless, Zero}
use Rattle.law_faultless.specs.Stack.{Arity, IsBalanced}

nothing_to_drop : (arity : FunctionName → Arity) (n : ℕ) → IsBalanced arity 0 (Pop ∷ []) n → ⊥
nothing_to_drop arity n b =
    let begins : b.at 0 ≡ 0 = b.begins in
    let enough : 1 ≤ b.at 0 = b.runs.0.enough in
    omega arith

-- a struct with a value that is not set in it
field_not_set : (arity : FunctionName → Arity) (t : PlainType) → IsBalanced arity 0 (Zero t ∷ Integer 1 ∷ []) 1 → ⊥
field_not_set arity t b =
    let begins : b.at 0 ≡ 0 = b.begins in
    let first : b.at 1 + 0 ≡ b.at 0 + 1 = b.runs.0.left in
    let second : b.at 2 + 0 ≡ b.at 1 + 1 = b.runs.1.0.left in
    let ends : b.at 2 ≡ 1 = b.ends 0 in
    omega arith

uneven_jump : (arity : FunctionName → Arity) (n : ℕ) → IsBalanced arity 0 (Truth true ∷ JumpUnless 1 ∷ Integer 1 ∷ []) n → ⊥
uneven_jump arity n b =
    let over : b.at 3 ≡ b.at 2 = b.runs.1.0.1 in
    let third : b.at 3 + 0 ≡ b.at 2 + 1 = b.runs.1.1.0.left in
    omega arith
