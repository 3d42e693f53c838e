-- The operand behind the last of some links, and the lines of tests and operators.
use Rattle.std.proofs.Common.{ℕ, Option, Some, None, true, false, drop, ◌≡◌, ◌+◌, ◌-◌, ◌<◌, ◌≤◌, ◌∷◌, ◌++◌, [], List, ap, sym, ◌∙◌, refl, Bool, ◌==◌, ◌&&◌}
use Rattle.std.proofs.Common.{zero, suc, take, take_all, length, get_or, arith, append_assoc}
use Rattle.go_ast.specs.declared.syntax.BinaryOp.{BinaryOp}
use Rattle.go_ast.specs.declared.syntax.BinaryOp.TheVariants as op
use Rattle.go_ast.specs.declared.syntax.PrefixOp.{PrefixOp}
use Rattle.go_ast.specs.declared.syntax.PrefixOp.TheVariants as prefix
use Rattle.go_ast.specs.declared.tree.Expr.{Expr}
use Rattle.go_ast.specs.declared.tree.Expr.TheVariants as expr
use Rattle.go_ast.specs.declared.tree.Operand as operand
use Rattle.go_ast.specs.declared.tree.CompositeLit.{CompositeLit, out-CompositeLit}
use Rattle.go_ast.specs.declared.tree.Link.{Link}
use Rattle.go_ast.specs.declared.tree.Link.TheVariants as link
use Rattle.go_ast.specs.Tree.{no_link}
use Rattle.go_ast.specs.View.{type_view, expr_view, link_view, literal_view}
use Rattle.types_expr.specs.Lists.{links_in, operands_in, elements_in}
use Rattle.types_expr.specs.Types.{PlainType, is_struct}
use Rattle.types_expr.specs.World.{underlying}
use Rattle.types_expr.specs.Judge.{judge_type}
use Rattle.types_expr.proofs.Items.{next_item}
use Rattle.build_object.specs.declared.code.Code.{Code}
use Rattle.build_object.specs.Lines.{CodeLine, Duplicate, Pop, JumpUnless, Operate, Zero, MakeSlice}
use Rattle.build_object.specs.LineView.{lines_in, Puts}
use Rattle.build_object.specs.Source.{Source}
use Rattle.build_object.specs.Operands.{Mode, Values, CodeOperand, name_operand, qualifies, selected, operated, left_by_call, value_count, prefixed}
use Rattle.build_object.specs.Expressions.{operand_of, operations, linked, one_link, keyed_lines, bare_lines, literal_lines, literal_code, typed_literal}
use Rattle.build_object.specs.Expressions.{value_lines}
use Rattle.build_object.specs.Making.{before_link, test_lines, AppliesLines}
use Rattle.build_object.proofs.Putting.{puts_length}
use Rattle.build_object.proofs.Modes.{linked_end, known_before, link_at}
use Rattle.build_object.proofs.Trees.{selector_here, index_here, call_here, chain_here, named_chain_here, prefix_here, operations_step, literal_here}

pub stands_at_once : (s : Source) (slots : List ℕ) (links : List Link) (n : ℕ) (o : CodeOperand) → n ≡ 0 → linked s slots o (links_in (take n links)) ≡ o
stands_at_once s slots links n o none = ap (λ k. linked s slots o (links_in (take k links))) none ∙ linked_end s slots o

pub link_before : (s : Source) (slots : List ℕ) (links : List Link) (n last : ℕ) (x : Link) (o : CodeOperand) → n ≡ last + 1 → last < length links →
    x ≡ get_or links last x →
    linked s slots o (links_in (take n links)) ≡ one_link s slots (link_view x no_link) (linked s slots o (links_in (take last links)))
link_before s slots links n last x o size lt is = ap (λ k. linked s slots o (links_in (take k links))) size ∙ link_at s slots links last x o lt is

pub selector_stands : (s : Source) (slots : List ℕ) (links : List Link) (n last : ℕ) (x : Link) (d token : ℕ) (head r : Mode) (q : Bool) →
    n ≡ last + 1 → last < length links → x ≡ get_or links last x → x ≡ link.Selector d token → q ≡ (last == 0 && qualifies head) →
    ((o : CodeOperand) → qualifies o.mode ≡ q → (selected s slots token o).mode ≡ r) →
    (o : CodeOperand) → before_link o.mode ≡ before_link head → (linked s slots o (links_in (take n links))).mode ≡ r
selector_stands s slots links n last x d token head r q size lt is form known rule o same =
    ap (λ p. p.mode) (link_before s slots links n last x o size lt is ∙ selector_here s slots d token _ form)
    ∙ rule (linked s slots o (links_in (take last links))) (known_before s slots links last head o lt same ∙ sym known)

pub index_stands : (s : Source) (slots : List ℕ) (links : List Link) (n last : ℕ) (x : Link) (b : ℕ) (e : _) (c : ℕ) (o : CodeOperand) →
    n ≡ last + 1 → last < length links → x ≡ get_or links last x → x ≡ link.Index b e c → (linked s slots o (links_in (take n links))).mode ≡ Values 1
index_stands s slots links n last x b e c o size lt is form =
    ap (λ p. p.mode) (link_before s slots links n last x o size lt is ∙ index_here s slots b e c _ form e.value refl)

pub call_stands : (s : Source) (slots : List ℕ) (links : List Link) (n last : ℕ) (x : Link) (b : ℕ) (xs : _) (c : ℕ) (o : CodeOperand) →
    n ≡ last + 1 → last < length links → x ≡ get_or links last x → x ≡ link.Call b c xs →
    (linked s slots o (links_in (take n links))).mode ≡ Values (left_by_call (linked s slots o (links_in (take last links))).mode)
call_stands s slots links n last x b xs c o size lt is form =
    ap (λ p. p.mode) (link_before s slots links n last x o size lt is ∙ call_here s slots b xs c _ form xs.items refl)

-- tests

pub test_default : (o : BinaryOp) (n : ℕ) → (o ≡ op.Or → ⊥) → test_lines o n ≡ Duplicate ∷ JumpUnless (suc n) ∷ Pop ∷ []
test_default op.Multiply n h = refl
test_default op.Divide n h = refl
test_default op.Remainder n h = refl
test_default op.Add n h = refl
test_default op.Subtract n h = refl
test_default op.Equal n h = refl
test_default op.NotEqual n h = refl
test_default op.Less n h = refl
test_default op.LessEqual n h = refl
test_default op.Greater n h = refl
test_default op.GreaterEqual n h = refl
test_default op.And n h = refl
test_default op.Or n h = absurd (h refl)

pub test_passed : {l : CodeLine} {old new : Code} (len end : ℕ) → end ≤ length (lines_in old) → len ≡ length (lines_in new) → Puts (l ∷ []) old new →
    len - end ≡ suc (length (lines_in old) - end)
test_passed len end below size p = let h = puts_length p in omega arith

-- operators

pub operate_default : (o : BinaryOp) (a b : List CodeLine) → (o ≡ op.And → ⊥) → (o ≡ op.Or → ⊥) → operated o a b ≡ a ++ (b ++ (Operate o ∷ []))
operate_default op.Multiply a b g h = refl
operate_default op.Divide a b g h = refl
operate_default op.Remainder a b g h = refl
operate_default op.Add a b g h = refl
operate_default op.Subtract a b g h = refl
operate_default op.Equal a b g h = refl
operate_default op.NotEqual a b g h = refl
operate_default op.Less a b g h = refl
operate_default op.LessEqual a b g h = refl
operate_default op.Greater a b g h = refl
operate_default op.GreaterEqual a b g h = refl
operate_default op.And a b g h = absurd (g refl)
operate_default op.Or a b g h = absurd (h refl)

pub goes_operate : (o : BinaryOp) {b : List CodeLine} {old mid new : Code} → (o ≡ op.And → ⊥) → (o ≡ op.Or → ⊥) → Puts (Operate o ∷ []) old mid →
    Puts b mid new → AppliesLines (λ a. operated o a b) old new
goes_operate o {b} {old} {mid} {new} g h p q = record {
  on = λ a.
      ap (λ z. z ++ lines_in old) (operate_default o a b g h) ∙ (append_assoc a (b ++ (Operate o ∷ [])) (lines_in old)
      ∙ ap (λ z. a ++ z) (append_assoc b (Operate o ∷ []) (lines_in old) ∙ (ap (λ z. b ++ z) (sym p.put) ∙ sym q.put)));
}

-- so many lines were put since then
pub lines_since : {b : List CodeLine} {old new : Code} (end : ℕ) → end ≡ length (lines_in old) → Puts b old new → length (lines_in new) - end ≡ length b
lines_since end was p = let h = puts_length p in omega arith

pub goes_test : (o : BinaryOp) {b : List CodeLine} {old mid new : Code} (n : ℕ) → ((a : List CodeLine) → operated o a b ≡ a ++ (test_lines o (length b) ++ b)) →
    n ≡ length b →
    Puts b old mid → Puts (test_lines o n) mid new → AppliesLines (λ a. operated o a b) old new
goes_test o {b} {old} {mid} {new} n form size p q = record {
  on = λ a.
      ap (λ z. z ++ lines_in old) (form a ∙ ap (λ k. a ++ (test_lines o k ++ b)) (sym size)) ∙ (append_assoc a (test_lines o n ++ b) (lines_in old)
      ∙ ap (λ z. a ++ z) (append_assoc (test_lines o n) b (lines_in old) ∙ (ap (λ z. test_lines o n ++ z) (sym p.put) ∙ sym q.put)));
}

-- more operators before others

pub goes_before : {rule : List CodeLine → List CodeLine} {step : List CodeLine → List CodeLine} {old mid new : Code} → AppliesLines rule old mid →
    AppliesLines step mid new →
    AppliesLines (λ a. rule (step a)) old new
goes_before {rule} {step} g h = record { on = λ a. g.on (step a) ∙ h.on a }

pub goes_rule : {rule other : List CodeLine → List CodeLine} {old new : Code} → ((a : List CodeLine) → rule a ≡ other a) → AppliesLines other old new →
    AppliesLines rule old new
goes_rule {rule} {other} {old} e g = record { on = λ a. ap (λ z. z ++ lines_in old) (e a) ∙ g.on a }

pub goes_nowhere : {rule : List CodeLine → List CodeLine} (code : Code) → ((a : List CodeLine) → rule a ≡ a) → AppliesLines rule code code
goes_nowhere code e = record { on = λ a. ap (λ z. z ++ lines_in code) (e a) }

prefixed_stands : (o : PrefixOp) (a : List CodeLine) → Values 1 ≡ (prefixed o a).mode
prefixed_stands prefix.Plus a = refl
prefixed_stands prefix.Minus a = refl
prefixed_stands prefix.Not a = refl
prefixed_stands prefix.Deref a = refl

-- the standing of chains

no_items : {X : Type 0} (xs : List X) → length xs ≡ 0 → xs ≡ []
no_items [] e = refl
no_items (x ∷ xs) e = let no : ⊥ = omega arith in absurd no

pub chain_alone : (s : Source) (slots : List ℕ) {e : Expr} (b : _) (links : _) → e ≡ expr.Chain b links → (x : Expr) → x ≡ b.value → length links.items ≡ 0 →
    (stands : Mode) → (operand_of s slots (expr_view x)).mode ≡ stands → (operand_of s slots (expr_view e)).mode ≡ Values (value_count stands)
chain_alone s slots b links is x hx none stands known =
    ap (λ p. p.mode) (chain_here s slots b links is x [] hx (sym (no_items links.items none)))
    ∙ (ap (λ p. Values (value_count p.mode)) (linked_end s slots (operand_of s slots (expr_view x))) ∙ ap (λ k. Values (value_count k)) known)

pub named_alone : (s : Source) (slots : List ℕ) {e : Expr} (n : ℕ) (links : _) → e ≡ expr.NamedChain n links → length links.items ≡ 0 →
    (stands : Mode) → (name_operand s slots n).mode ≡ stands → (operand_of s slots (expr_view e)).mode ≡ Values (value_count stands)
named_alone s slots n links is none stands known =
    ap (λ p. p.mode) (named_chain_here s slots n links is [] (sym (no_items links.items none)))
    ∙ (ap (λ p. Values (value_count p.mode)) (linked_end s slots (name_operand s slots n)) ∙ ap (λ k. Values (value_count k)) known)

pub named_behind : (s : Source) (slots : List ℕ) {e : Expr} (n : ℕ) (links : _) → e ≡ expr.NamedChain n links → (xs : List Link) → xs ≡ links.items →
    (last : ℕ) → length links.items ≡ last + 1 → (head : Mode) → (name_operand s slots n).mode ≡ head → (k : ℕ) →
    ((o : CodeOperand) → before_link o.mode ≡ before_link head → value_count (linked s slots o (links_in (take (last + 1) xs))).mode ≡ k) →
    (operand_of s slots (expr_view e)).mode ≡ Values k
named_behind s slots n links is xs hxs last size head known k rule =
    let all : take (last + 1) xs ≡ xs = take_all (last + 1) xs (let h = ap length hxs ∙ size in omega arith) in
    ap (λ p. p.mode) (named_chain_here s slots n links is xs hxs)
    ∙ (ap (λ ys. Values (value_count (linked s slots (name_operand s slots n) (links_in ys)).mode)) (sym all) ∙
    ap Values (rule (name_operand s slots n) (ap before_link known)))

pub chain_behind : (s : Source) (slots : List ℕ) {e : Expr} (b : _) (links : _) → e ≡ expr.Chain b links → (x : Expr) → x ≡ b.value → (xs : List Link) →
    xs ≡ links.items →
    (last : ℕ) → length links.items ≡ last + 1 → (head : Mode) → (operand_of s slots (expr_view x)).mode ≡ head → (k : ℕ) →
    ((o : CodeOperand) → before_link o.mode ≡ before_link head → value_count (linked s slots o (links_in (take (last + 1) xs))).mode ≡ k) →
    (operand_of s slots (expr_view e)).mode ≡ Values k
chain_behind s slots b links is x hx xs hxs last size head known k rule =
    let all : take (last + 1) xs ≡ xs = take_all (last + 1) xs (let h = ap length hxs ∙ size in omega arith) in
    ap (λ p. p.mode) (chain_here s slots b links is x xs hx hxs)
    ∙ (ap (λ ys. Values (value_count (linked s slots (operand_of s slots (expr_view x)) (links_in ys)).mode)) (sym all) ∙
    ap Values (rule (operand_of s slots (expr_view x)) (ap before_link known)))

pub prefix_stands : (s : Source) (slots : List ℕ) {e : Expr} (o : PrefixOp) (p : ℕ) (b : _) → e ≡ expr.Prefix o p b →
    Values 1 ≡ (operand_of s slots (expr_view e)).mode
prefix_stands s slots o p b is = prefixed_stands o _ ∙ sym (ap (λ q. q.mode) (prefix_here s slots o p b is b.value refl))

-- operators behind others, in a loop whose numbers fall
pub operations_turn : (s : Source) (slots : List ℕ) (xs : List operand.Operand) (i : ℕ) (x : operand.Operand) {old mid new : Code} → 0 < i →
    i - 1 < length xs → x ≡ get_or xs (i - 1) x →
    AppliesLines (λ a. operations s slots a (operands_in (drop i xs))) old mid →
    AppliesLines (λ a. operated x.op a (value_lines s slots (expr_view x.value))) mid new →
    AppliesLines (λ a. operations s slots a (operands_in (drop (i - 1) xs))) old new
operations_turn s slots xs i x some lt is g h =
    let e : i - 1 + 1 ≡ i = omega arith in
    goes_rule (λ a. ap (λ ys. operations s slots a (operands_in ys)) (next_item xs (i - 1) x lt is) ∙ (operations_step s slots a x (drop (i - 1 + 1) xs)
    ∙ ap (λ k. operations s slots (operated x.op a (value_lines s slots (expr_view x.value))) (operands_in (drop k xs))) e)) (goes_before g h)

-- composite literals

literal_as : (s : Source) (slots : List ℕ) (l : CompositeLit) (t : Option PlainType) →
    (judge_type s.world (type_view (out-CompositeLit l).literal_type)).type_of ≡ t →
    literal_lines s slots (literal_view l) ≡ typed_literal s t (keyed_lines s slots (elements_in (out-CompositeLit l).elements.items))
    (bare_lines s slots (elements_in (out-CompositeLit l).elements.items)) (length (out-CompositeLit l).elements.items)
literal_as s slots l t e = literal_here s slots l ∙
    ap (λ k. typed_literal s k (keyed_lines s slots (elements_in (out-CompositeLit l).elements.items))
    (bare_lines s slots (elements_in (out-CompositeLit l).elements.items)) (length (out-CompositeLit l).elements.items)) e

pub literal_broken : (s : Source) (slots : List ℕ) (l : CompositeLit) → (judge_type s.world (type_view (out-CompositeLit l).literal_type)).type_of ≡ None →
    literal_lines s slots (literal_view l) ≡ []
unfolding typed_literal
literal_broken s slots l e = literal_as s slots l None e

pub literal_keyed : (s : Source) (slots : List ℕ) (l : CompositeLit) (t : PlainType) →
    (judge_type s.world (type_view (out-CompositeLit l).literal_type)).type_of ≡ Some t →
    true ≡ is_struct (underlying s.world t) → literal_lines s slots (literal_view l) ≡ Zero t ∷ keyed_lines s slots
    (elements_in (out-CompositeLit l).elements.items)
unfolding typed_literal
literal_keyed s slots l t e struct = literal_as s slots l (Some t) e ∙
    ap (λ b. literal_code b t (keyed_lines s slots (elements_in (out-CompositeLit l).elements.items))
    (bare_lines s slots (elements_in (out-CompositeLit l).elements.items)) (length (out-CompositeLit l).elements.items)) (sym struct)

pub literal_bare : (s : Source) (slots : List ℕ) (l : CompositeLit) (t : PlainType) →
    (judge_type s.world (type_view (out-CompositeLit l).literal_type)).type_of ≡ Some t →
    false ≡ is_struct (underlying s.world t) → literal_lines s slots (literal_view l) ≡ bare_lines s slots (elements_in (out-CompositeLit l).elements.items)
    ++ (MakeSlice (length (out-CompositeLit l).elements.items) ∷ [])
unfolding typed_literal
literal_bare s slots l t e slice = literal_as s slots l (Some t) e ∙
    ap (λ b. literal_code b t (keyed_lines s slots (elements_in (out-CompositeLit l).elements.items))
    (bare_lines s slots (elements_in (out-CompositeLit l).elements.items)) (length (out-CompositeLit l).elements.items)) (sym slice)

-- the item of a number, read twice
pub same_item : {X : Type 0} (xs : List X) (n : ℕ) (a b : X) → n < length xs → get_or xs n a ≡ get_or xs n b
same_item [] n a b lt = let no : ⊥ = omega arith in absurd no
same_item (x ∷ xs) zero a b lt = refl
same_item (x ∷ xs) (suc n) a b lt = same_item xs n a b (omega arith)
