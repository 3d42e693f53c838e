-- Grouping operators by precedence: a list of operands with the operators between them, read from left to right.
use Rattle.std.proofs.Common.{ℕ, ◌≡◌, ◌<◌, ◌≤◌, cond, refl, sym, ◌∙◌, ap, subst, arith, ltb}
use Rattle.std.proofs.lemmas.Bool.{lt-ltb, le-ltb}
use Rattle.go_ast.specs.declared.syntax.BinaryOp.{BinaryOp}
use Rattle.go_ast.specs.declared.syntax.BinaryOp.TheVariants as binary
use Rattle.go_ast.specs.Tree.{ExprTree, Number, Text, Name, Blank, Composite, Paren, Prefix, Address, Chain, Binary, OperandTrees, no_operand, operand}
use Rattle.go_ast.specs.WellFormed.{strength, strength_of, IsExpr, AreOperands}

abbrev pub one_operand : BinaryOp → ℕ → ExprTree → OperandTrees
one_operand op p u = operand op p u no_operand

-- e with operators os and one more operator with its operand: after all of os, or inside os, as `joined` has it
abbrev pub join_binary : ExprTree → OperandTrees → OperandTrees → BinaryOp → ℕ → ExprTree → ExprTree
join_binary e no_operand joined op p u = Binary (Binary e no_operand) (one_operand op p u)
join_binary e (operand op₁ p₁ f rest) joined op p u =
    cond (ltb (strength op) (strength op₁)) (Binary (Binary e (operand op₁ p₁ f rest)) (one_operand op p u)) (Binary e joined)

-- an operand f, those after it, and one more: inside the last operand, or after it
abbrev pub join_operands : BinaryOp → ℕ → ExprTree → OperandTrees → ExprTree → OperandTrees → BinaryOp → ℕ → ExprTree → OperandTrees
join_operands op₁ p₁ f no_operand deeper joined op p u =
    cond (ltb (strength op₁) (strength op)) (one_operand op₁ p₁ deeper) (operand op₁ p₁ f (one_operand op p u))
join_operands op₁ p₁ f (operand op₂ p₂ g rest) deeper joined op p u = operand op₁ p₁ f joined

-- a tree with one more operator and its operand, placed as deep to the right as the operator binds strongly
abbrev mutual
  pub join : ExprTree → BinaryOp → ℕ → ExprTree → ExprTree
  join (Binary e os) op p u = join_binary e os (join_last os op p u) op p u
  join t op p u = Binary t (one_operand op p u)

  pub join_last : OperandTrees → BinaryOp → ℕ → ExprTree → OperandTrees
  join_last no_operand op p u = one_operand op p u
  join_last (operand op₁ p₁ f rest) op p u = join_operands op₁ p₁ f rest (join f op p u) (join_last rest op p u) op p u

abbrev pub grouped : ExprTree → OperandTrees → ExprTree
grouped t no_operand = t
grouped t (operand op p u rest) = grouped (join t op p u) rest

-- a tree's first operand, and the operators after it in order, followed by those of os
abbrev pub head_of : ExprTree → ExprTree
head_of (Binary e os) = head_of e
head_of t = t

abbrev mutual
  pub tail_of : ExprTree → OperandTrees → OperandTrees
  tail_of (Binary e rest) os = tail_of e (spread rest os)
  tail_of t os = os

  pub spread : OperandTrees → OperandTrees → OperandTrees
  spread no_operand os = os
  spread (operand op p e rest) os = operand op p (head_of e) (tail_of e (spread rest os))

abbrev behind : OperandTrees → OperandTrees → OperandTrees
behind no_operand os = os
behind (operand op p e rest) os = operand op p e (behind rest os)

behind-behind : (a b c : OperandTrees) → behind (behind a b) c ≡ behind a (behind b c)
behind-behind no_operand b c = refl
behind-behind (operand op p e rest) b c = ap (λ x. operand op p e x) (behind-behind rest b c)

-- all operators have one precedence
abbrev Alike : ℕ → OperandTrees → Type 0
Alike k no_operand = Unit {0}
Alike k (operand op p e rest) = (strength op ≡ k) × Alike k rest

-- all operators have one precedence, and there is at least one
abbrev Alikes : ℕ → OperandTrees → Type 0
Alikes k no_operand = ⊥
Alikes k (operand op p e rest) = Alike k (operand op p e rest)

alike_behind : (k : ℕ) (a b : OperandTrees) → Alike k a → Alike k b → Alike k (behind a b)
alike_behind k no_operand b x y = y
alike_behind k (operand op p e rest) b x y = (x.0, alike_behind k rest b x.1 y)

-- joining

join_weaker : (t : ExprTree) (op : BinaryOp) (p : ℕ) (u : ExprTree) → strength op < strength_of t → join t op p u ≡ Binary t (one_operand op p u)
join_weaker (Binary e no_operand) op p u h = refl
join_weaker (Binary e (operand op₁ p₁ f rest)) op p u h =
    ap (λ b. cond b (Binary (Binary e (operand op₁ p₁ f rest)) (one_operand op p u)) (Binary e (join_last (operand op₁ p₁ f rest) op p u)))
    (lt-ltb (strength op) (strength op₁) h)
join_weaker (Number n) op p u h = refl
join_weaker (Text n) op p u h = refl
join_weaker (Name n) op p u h = refl
join_weaker (Blank n) op p u h = refl
join_weaker (Composite l) op p u h = refl
join_weaker (Paren o e c) op p u h = refl
join_weaker (Prefix x y e) op p u h = refl
join_weaker (Address y l) op p u h = refl
join_weaker (Chain e ls) op p u h = refl

-- an operator that binds no weaker than those of a binary expression is placed among them
join_among : (k : ℕ) (e : ExprTree) (os : OperandTrees) (op : BinaryOp) (p : ℕ) (u : ExprTree) → Alikes k os → k ≤ strength op →
    join (Binary e os) op p u ≡ Binary e (join_last os op p u)
join_among k e no_operand op p u a h = absurd a
join_among k e (operand op₁ p₁ f rest) op p u a h =
    ap (λ b. cond b (Binary (Binary e (operand op₁ p₁ f rest)) (one_operand op p u)) (Binary e (join_last (operand op₁ p₁ f rest) op p u)))
    (le-ltb (strength op) (strength op₁) (subst (λ n. n ≤ strength op) (sym a.0) h))

-- an operator of equal precedence is placed after them
join_equal : (k : ℕ) (os : OperandTrees) (op : BinaryOp) (p : ℕ) (u : ExprTree) → Alike k os → strength op ≡ k →
    join_last os op p u ≡ behind os (one_operand op p u)
join_equal k no_operand op p u a h = refl
join_equal k (operand op₁ p₁ f no_operand) op p u a h =
    ap (λ b. cond b (one_operand op₁ p₁ (join f op p u)) (operand op₁ p₁ f (one_operand op p u))) (le-ltb (strength op₁) (strength op) (omega (arith, a.0, h)))
join_equal k (operand op₁ p₁ f (operand op₂ p₂ g rest)) op p u a h = ap (λ x. operand op₁ p₁ f x) (join_equal k (operand op₂ p₂ g rest) op p u a.1 h)

-- an operator of higher precedence is placed in the last operand
join_stronger : (k : ℕ) (os : OperandTrees) (op₁ : BinaryOp) (p₁ : ℕ) (f : ExprTree) (op : BinaryOp) (p : ℕ) (u : ExprTree) → strength op₁ ≡ k →
    k < strength op →
    join_last (behind os (one_operand op₁ p₁ f)) op p u ≡ behind os (one_operand op₁ p₁ (join f op p u))
join_stronger k no_operand op₁ p₁ f op p u a h =
    ap (λ b. cond b (one_operand op₁ p₁ (join f op p u)) (operand op₁ p₁ f (one_operand op p u))) (lt-ltb (strength op₁) (strength op) (omega (arith, a, h)))
join_stronger k (operand op₂ p₂ g no_operand) op₁ p₁ f op p u a h = ap (λ x. operand op₂ p₂ g x) (join_stronger k no_operand op₁ p₁ f op p u a h)
join_stronger k (operand op₂ p₂ g (operand op₃ p₃ i rest)) op₁ p₁ f op p u a h =
    ap (λ x. operand op₂ p₂ g x) (join_stronger k (operand op₃ p₃ i rest) op₁ p₁ f op p u a h)

-- Where operators stronger than k go into the hole of a tree, a whole tree of such operators goes there.
abbrev Joins : ℕ → (ExprTree → ExprTree) → Type 0
Joins k hole = (op : BinaryOp) (p : ℕ) (u g : ExprTree) → k < strength op → join (hole g) op p u ≡ hole (join g op p u)

alikes_last : (n : ℕ) (os : OperandTrees) (op : BinaryOp) (p : ℕ) (g : ExprTree) → strength op ≡ n → Alike n os → Alikes n (behind os (one_operand op p g))
alikes_last n no_operand op p g e a = (e, tt)
alikes_last n (operand op₁ p₁ f rest) op p g e a = (a.0, alike_behind n rest (one_operand op p g) a.1 (e, tt))

alikes_alike : (n : ℕ) (os : OperandTrees) → Alikes n os → Alike n os
alikes_alike n no_operand a = absurd a
alikes_alike n (operand op p e rest) a = a

last_joins : (k n : ℕ) (hole : ExprTree → ExprTree) → Joins k hole → (e : ExprTree) (os : OperandTrees) (op₁ : BinaryOp) (p₁ : ℕ) →
    strength op₁ ≡ n → k < n → Alike n os → Joins n (λ g. hole (Binary e (behind os (one_operand op₁ p₁ g))))
last_joins k n hole j e os op₁ p₁ same less a op p u g h =
    j op p u (Binary e (behind os (one_operand op₁ p₁ g))) (omega (arith, less, h))
    ∙ ap hole (join_among n e (behind os (one_operand op₁ p₁ g)) op p u (alikes_last n os op₁ p₁ g same a) (omega (arith, h))
    ∙ ap (λ x. Binary e x) (join_stronger n os op₁ p₁ g op p u same h))

behind-none : (os : OperandTrees) → behind os no_operand ≡ os
behind-none no_operand = refl
behind-none (operand op p e rest) = ap (λ x. operand op p e x) (behind-none rest)

mutual
  unfolding IsExpr

  in_hole : (t : ExprTree) → IsExpr t → (k : ℕ) (hole : ExprTree → ExprTree) → Joins k hole → k < strength_of t → (os : OperandTrees) →
      grouped (hole (head_of t)) (tail_of t os) ≡ grouped (hole t) os
  in_hole (Binary e no_operand) w k hole j less os = absurd w
  in_hole (Binary e (operand op p f rest)) w k hole j less os =
      in_hole e w.1 k hole j (omega (arith, less, w.0)) (operand op p (head_of f) (tail_of f (spread rest os)))
      ∙ (ap (λ x. grouped x (tail_of f (spread rest os))) (j op p (head_of f) e less ∙ ap hole (join_weaker e op p (head_of f) w.0))
      ∙ (in_hole f w.2.2 (strength op) (λ g. hole (Binary e (one_operand op p g))) (last_joins k (strength op) hole j e no_operand op p refl less tt) w.2.1
      (spread rest os)
      ∙ in_hole_all rest (strength op) w.2.3 k hole j less e (one_operand op p f) (refl, tt) os))
  in_hole (Number n) w k hole j less os = refl
  in_hole (Text n) w k hole j less os = refl
  in_hole (Name n) w k hole j less os = refl
  in_hole (Blank n) w k hole j less os = refl
  in_hole (Composite l) w k hole j less os = refl
  in_hole (Paren o e c) w k hole j less os = refl
  in_hole (Prefix x y e) w k hole j less os = refl
  in_hole (Address y l) w k hole j less os = refl
  in_hole (Chain e ls) w k hole j less os = refl

  in_hole_all : (rest : OperandTrees) (n : ℕ) → AreOperands n rest → (k : ℕ) (hole : ExprTree → ExprTree) → Joins k hole → k < n →
      (e : ExprTree) (before : OperandTrees) → Alikes n before → (os : OperandTrees) →
      grouped (hole (Binary e before)) (spread rest os) ≡ grouped (hole (Binary e (behind before rest))) os
  in_hole_all no_operand n w k hole j less e before a os = ap (λ x. grouped (hole (Binary e x)) os) (sym (behind-none before))
  in_hole_all (operand op p f rest) n w k hole j less e before a os =
      ap (λ x. grouped x (tail_of f (spread rest os))) (j op p (head_of f) (Binary e before) (omega (arith, less, w.0))
      ∙ ap hole (join_among n e before op p (head_of f) a (omega (arith, w.0)) ∙
      ap (λ x. Binary e x) (join_equal n before op p (head_of f) (alikes_alike n before a) w.0)))
      ∙ (in_hole f w.2 n (λ g. hole (Binary e (behind before (one_operand op p g))))
      (last_joins k n hole j e before op p w.0 less (alikes_alike n before a)) w.1 (spread rest os)
      ∙ (in_hole_all rest n w.3 k hole j less e (behind before (one_operand op p f)) (alikes_last n before op p f w.0 (alikes_alike n before a)) os
      ∙ ap (λ x. grouped (hole (Binary e x)) os) (behind-behind before (one_operand op p f) rest)))

strength_positive : (op : BinaryOp) → 0 < strength op
strength_positive binary.Multiply = omega arith
strength_positive binary.Divide = omega arith
strength_positive binary.Remainder = omega arith
strength_positive binary.Add = omega arith
strength_positive binary.Subtract = omega arith
strength_positive binary.Equal = omega arith
strength_positive binary.NotEqual = omega arith
strength_positive binary.Less = omega arith
strength_positive binary.LessEqual = omega arith
strength_positive binary.Greater = omega arith
strength_positive binary.GreaterEqual = omega arith
strength_positive binary.And = omega arith
strength_positive binary.Or = omega arith

tree_positive : (t : ExprTree) → IsExpr t → 0 < strength_of t
unfolding IsExpr
tree_positive (Binary e no_operand) w = absurd w
tree_positive (Binary e (operand op p f rest)) w = strength_positive op
tree_positive (Number n) w = omega arith
tree_positive (Text n) w = omega arith
tree_positive (Name n) w = omega arith
tree_positive (Blank n) w = omega arith
tree_positive (Composite l) w = omega arith
tree_positive (Paren o e c) w = omega arith
tree_positive (Prefix x y e) w = omega arith
tree_positive (Address y l) w = omega arith
tree_positive (Chain e ls) w = omega arith

-- The operands and operators of a tree, read from left to right, are grouped as they are in the tree.
pub grouped-tail_of : (t : ExprTree) → IsExpr t → grouped (head_of t) (tail_of t no_operand) ≡ t
grouped-tail_of t w = in_hole t w 0 (λ x. x) (λ op p u g h. refl) (tree_positive t w) no_operand
