-- Expressions: the judgement finds a fault at exactly the tokens where a rule is broken.
use Rattle.std.proofs.Common.{ℕ, ◌≡◌, Bool, true, false, ◌⊎◌, inl, inr, List, [], ◌++◌, Option, Some, None, refl, sym, ap, ◌∙◌, subst, true≢false}
use Rattle.go_ast.specs.declared.syntax.BinaryOp.{BinaryOp}
use Rattle.go_ast.specs.declared.syntax.PrefixOp.{PrefixOp}
use Rattle.go_ast.specs.Tree.{TypeTree, ExprTree, LinkTrees, OperandTrees, ArgumentTrees, LiteralTree, ElementTrees}
use Rattle.go_ast.specs.Tree as tree
use Rattle.types_expr.specs.declared.symbol.Symbol.{Symbol}
use Rattle.types_expr.specs.Places.{first_token, first_of_type, place_of}
use Rattle.types_expr.specs.Types.{PlainType, Underlying, Plain, PointerTo, SliceOf, Struct, Interface}
use Rattle.types_expr.specs.Types.{ValueKind, Typed, Untyped, Nil, Meaning, Value, TypeName, Function}
use Rattle.types_expr.specs.Types.{BuiltinName, Package, Results, Broken, element_of}
use Rattle.types_expr.specs.World.{World, Locals, underlying}
use Rattle.types_expr.specs.Operations.{prefixed}
use Rattle.types_expr.specs.Judge.{Judged, TypeJudged, Seen, followed, means_or_wrong, select, index_rule, call_rule, call_of, operation, prefix_of}
use Rattle.types_expr.specs.Judge.{address_of, value_kind, misfit_if, key_at, key_faults, wanted_after_key, seen_with, literal_result, literal_meaning, judge}
use Rattle.types_expr.specs.Judge.{judge_value, judge_links, judge_operands, judge_arguments, judge_literal, judge_elements, judge_type}
use Rattle.types_stmt.specs.Sides.{judge_operand}
use Rattle.law_typing.specs.Operators.{Prefixes}
use Rattle.law_typing.specs.Names.{IsNotBroken, IsType}
use Rattle.law_typing.specs.Meanings.{HasMeaning}
use Rattle.law_typing.specs.Faults.{IsNoType, IsKey, IsBrokenKey, HasUnkeyed}
use Rattle.law_typing.proofs.Naming.{type_true, true_type}
use Rattle.law_typing.proofs.Operating.{prefixes_true, true_prefixes}
use Rattle.law_typing.proofs.Elements.{is_taken}
use Rattle.law_typing.proofs.BrokenRules.{whole_or_broken}
use Rattle.law_typing.proofs.Completeness.{complete, has_value, value_was}
use Rattle.law_typing.proofs.RuleFaults.{status, whole_status}
use Rattle.law_typing.proofs.Values.{value_true}
use Rattle.law_typing.specs.ExpressionFaults.{MeaningIs, meant, unmeant, NextMeaning, SelectsBy}
use Rattle.law_typing.specs.ExpressionFaults.{IndexedBy, CalledWith, NextKind, AreWhole, BreaksAt, in_composite}
use Rattle.law_typing.specs.ExpressionFaults.{in_address, in_paren, in_prefix, no_prefix, in_chain}
use Rattle.law_typing.specs.ExpressionFaults.{in_links, in_binary, in_operands, ValueBreaksAt, LinksBreakAt}
use Rattle.law_typing.specs.ExpressionFaults.{no_member, no_selection, behind_selector, not_indexed, in_index, no_int, no_slice, behind_index, not_called}
use Rattle.law_typing.specs.ExpressionFaults.{in_arguments, misfit, no_call, behind_call, OperandsBreakAt, in_operand, no_operation, behind_operation}
use Rattle.law_typing.specs.ExpressionFaults.{ArgumentsBreakAt, in_this, in_other, LiteralBreaksAt, in_type, in_untyped, in_elements, unkeyed, no_literal}
use Rattle.law_typing.specs.ExpressionFaults.{ValuesBreakAt, this_element, other_element, ElementsBreakAt, in_element, no_key, field_misfit, element_misfit}
use Rattle.law_typing.specs.ExpressionFaults.{behind_value, behind_field, behind_no_field}
use Rattle.law_typing.specs.SimpleFaults.{OperandBreaksAt}
use Rattle.law_typing.proofs.FaultLists.{HasToken, holds_left, holds_right, holds_cases, AreExactly, none_told}
use Rattle.law_typing.proofs.FaultLists.{both_told, told_as, At, at_place, nothing_at, fault_at}
use Rattle.law_typing.proofs.FaultLists.{none_some}
use Rattle.law_typing.proofs.TypeFaults.{type_told}
use Rattle.law_typing.proofs.ValueFaults.{meaning_is, meant_whole, gives_found, gives_only, value_from, operand_from}
use Rattle.law_typing.proofs.LinkFaults.{next_found, next_only, selects_rule, SelectorBreaks, misses, no_operand, selector_told, indexes_rule, IndexBreaks}
use Rattle.law_typing.proofs.LinkFaults.{no_value_there, inside, no_int_there, no_slice_there, index_told}
use Rattle.law_typing.proofs.CallFaults.{calls_rule, CallBreaks, cannot_be_called, a_misfit, wrong_call, call_told, IsNoOperation, operation_told}
use Rattle.law_typing.proofs.CallFaults.{operated_found, operated_once}
use Rattle.law_typing.proofs.ElementFaults.{IsFieldMisfit, IsElementMisfit, slice_told, key_told, misfit_told, Behind, behind_one, behind_none, behind_told}
use Rattle.law_typing.proofs.ElementFaults.{elements_whole, whole_elements, has_unkeyed, unkeyed_is}

-- The faults `after` are those of `before`, and one at each token of which B holds.
record AddsWhere (before after : List ℕ) (B : ℕ → Type 0) : Type 0 where
  stays : (p : ℕ) → HasToken before p → HasToken after p
  found : (p : ℕ) → HasToken after p → HasToken before p ⊎ B p
  stands : (p : ℕ) → B p → HasToken after p

adds_none : (faults : List ℕ) {B : ℕ → Type 0} → ((p : ℕ) → B p → ⊥) → AddsWhere faults faults B
adds_none faults n = record { stays = λ p h. h; found = λ p h. inl h; stands = λ p b. absurd (n p b) }

adds_more : (before added : List ℕ) {B : ℕ → Type 0} → AreExactly added B → AddsWhere before (before ++ added) B
adds_more before added t = record {
  stays = λ p h. holds_left before added p h;
  found = λ p h. elim (holds_cases before added p h) [ inl a ↦ inl a | inr b ↦ inr (t.found p b) ];
  stands = λ p b. holds_right before added p (t.stands p b);
}

adds_then : {a b c : List ℕ} {A C B : ℕ → Type 0} → AddsWhere a b A → AddsWhere b c C → ((p : ℕ) → A p → B p) → ((p : ℕ) → C p → B p) → ((p : ℕ) → B p →
    A p ⊎ C p) →
    AddsWhere a c B
adds_then x y f g h = record {
  stays = λ p q. y.stays p (x.stays p q);
  found = λ p q. elim (y.found p q) [ inl r ↦ elim (x.found p r) [ inl s ↦ inl s | inr t ↦ inr (f p t) ] | inr s ↦ inr (g p s) ];
  stands = λ p q. elim (h p q) [ inl r ↦ y.stays p (x.stands p r) | inr r ↦ y.stands p r ];
}

adds_told : {a c : List ℕ} {A C B : ℕ → Type 0} → AreExactly a A → AddsWhere a c C → ((p : ℕ) → A p → B p) → ((p : ℕ) → C p → B p) → ((p : ℕ) → B p →
    A p ⊎ C p) →
    AreExactly c B
adds_told t y f g h = record {
  found = λ p q. elim (y.found p q) [ inl r ↦ f p (t.found p r) | inr s ↦ g p s ];
  stands = λ p q. elim (h p q) [ inl r ↦ y.stays p (t.stands p r) | inr r ↦ y.stands p r ];
}

-- operands

stands_by : (w : World) (locals : Locals) (e : ExprTree) → IsNotBroken (judge w locals e).meaning ⊎ ((judge w locals e).meaning ≡ Broken) →
    MeaningIs w locals e (status (judge w locals e).meaning)
stands_by w locals e (inl n) = subst (λ z. MeaningIs w locals e z) (sym (whole_status (judge w locals e).meaning n)) (meant (complete w locals e n))
stands_by w locals e (inr b) = subst (λ z. MeaningIs w locals e (status z)) (sym b) (unmeant (λ m h. meant_whole w locals h b))

stands_found : (w : World) (locals : Locals) (e : ExprTree) → MeaningIs w locals e (status (judge w locals e).meaning)
stands_found w locals e = stands_by w locals e (whole_or_broken (judge w locals e).meaning)

unmeant_status : (w : World) (locals : Locals) (e : ExprTree) → ((m : Meaning) → HasMeaning w locals e m → ⊥) → None ≡ status (judge w locals e).meaning
unmeant_status w locals e n = elim (whole_or_broken (judge w locals e).meaning) [
  | inl x ↦ absurd (n (judge w locals e).meaning (complete w locals e x))
  | inr b ↦ sym (ap status b)
]

stands_only : (w : World) (locals : Locals) {e : ExprTree} {m : Option Meaning} → MeaningIs w locals e m → m ≡ status (judge w locals e).meaning
stands_only w locals {e} (meant {m = m} h) = ap (λ z. Some z) (sym (meaning_is w locals h)) ∙ sym (whole_status (judge w locals e).meaning
    (meant_whole w locals h))
stands_only w locals {e} (unmeant n) = unmeant_status w locals e n

-- links

no_link_breaks : {w : World} {locals : Locals} {start place p : ℕ} {q : Option Meaning} {links : LinkTrees} → LinksBreakAt w locals start place q links p →
    links ≡ tree.no_link → ⊥
no_link_breaks (no_member f g) e = cc
no_link_breaks (no_selection i) e = cc
no_link_breaks (behind_selector x b) e = cc
no_link_breaks (not_indexed v) e = cc
no_link_breaks (in_index b) e = cc
no_link_breaks (no_int v n) e = cc
no_link_breaks (no_slice v i n) e = cc
no_link_breaks (behind_index x b) e = cc
no_link_breaks (not_called c) e = cc
no_link_breaks (in_arguments b) e = cc
no_link_breaks (misfit m) e = cc
no_link_breaks (no_call n a c m) e = cc
no_link_breaks (behind_call x b) e = cc

-- links after a first one break a rule at token p, where R relates the meanings before and after the first
record IsBehind (w : World) (locals : Locals) (start place : ℕ) (R : Meaning → Meaning → Type 0) (q : Option Meaning) (rest : LinkTrees) (p : ℕ) : Type 0 where
  state : Option Meaning
  next : NextMeaning R q state
  breaks : LinksBreakAt w locals start place state rest p

behind_as : {w : World} {locals : Locals} {start place : ℕ} {R : Meaning → Meaning → Type 0} {q s : Option Meaning} {rest : LinkTrees} {p : ℕ} →
    ((x : Option Meaning) →
    NextMeaning R q x → x ≡ s) → IsBehind w locals start place R q rest p → LinksBreakAt w locals start place s rest p
behind_as {w} {locals} {start} {place} {rest = rest} {p = p} f b = subst (λ z. LinksBreakAt w locals start place z rest p) (f b.state b.next) b.breaks

selector_cases : {w : World} {locals : Locals} {start place d n p : ℕ} {q : Option Meaning} {rest : LinkTrees} →
    LinksBreakAt w locals start place q (tree.selector d n rest) p →
    SelectorBreaks w locals place n q p ⊎ IsBehind w locals start n (SelectsBy w locals n) q rest p
selector_cases (no_member f g) = inl (misses f g)
selector_cases (no_selection i) = inl (no_operand i)
selector_cases (behind_selector {s = s} x b) = inr (record { state = s; next = x; breaks = b })

selector_breaks : {w : World} {locals : Locals} {place n p : ℕ} {q : Option Meaning} (start d : ℕ) (rest : LinkTrees) → SelectorBreaks w locals place n q p →
    LinksBreakAt w locals start place q (tree.selector d n rest) p
selector_breaks start d rest (misses f g) = no_member f g
selector_breaks start d rest (no_operand i) = no_selection i

index_cases : {w : World} {locals : Locals} {start place o c : ℕ} {e : ExprTree} {p : ℕ} {q : Option Meaning} {rest : LinkTrees} →
    LinksBreakAt w locals start place q (tree.index o e c rest) p → IndexBreaks w locals start place e q p ⊎
    IsBehind w locals start start (IndexedBy w locals e) q rest p
index_cases (not_indexed v) = inl (no_value_there v)
index_cases (in_index b) = inl (inside b)
index_cases (no_int v n) = inl (no_int_there v n)
index_cases (no_slice v i n) = inl (no_slice_there v i n)
index_cases (behind_index {s = s} x b) = inr (record { state = s; next = x; breaks = b })

index_breaks : {w : World} {locals : Locals} {start place : ℕ} {e : ExprTree} {p : ℕ} {q : Option Meaning} (o c : ℕ) (rest : LinkTrees) →
    IndexBreaks w locals start place e q p → LinksBreakAt w locals start place q (tree.index o e c rest) p
index_breaks o c rest (no_value_there v) = not_indexed v
index_breaks o c rest (inside b) = in_index b
index_breaks o c rest (no_int_there v n) = no_int v n
index_breaks o c rest (no_slice_there v i n) = no_slice v i n

call_cases : {w : World} {locals : Locals} {start place o c p : ℕ} {xs : ArgumentTrees} {q : Option Meaning} {rest : LinkTrees} →
    LinksBreakAt w locals start place q (tree.call o xs c rest) p → (ArgumentsBreakAt w locals xs p ⊎ CallBreaks w locals start place xs q p) ⊎
    IsBehind w locals start start (CalledWith w locals xs) q rest p
call_cases (not_called c) = inl (inr (cannot_be_called c))
call_cases (in_arguments b) = inl (inl b)
call_cases (misfit m) = inl (inr (a_misfit m))
call_cases (no_call n a c m) = inl (inr (wrong_call n a c m))
call_cases (behind_call {s = s} x b) = inr (record { state = s; next = x; breaks = b })

call_breaks : {w : World} {locals : Locals} {start place p : ℕ} {xs : ArgumentTrees} {q : Option Meaning} (o c : ℕ) (rest : LinkTrees) →
    CallBreaks w locals start place xs q p → LinksBreakAt w locals start place q (tree.call o xs c rest) p
call_breaks o c rest (cannot_be_called x) = not_called x
call_breaks o c rest (a_misfit m) = misfit m
call_breaks o c rest (wrong_call n a g m) = no_call n a g m

-- operators

no_operand_breaks : {w : World} {locals : Locals} {start p : ℕ} {q : Option ValueKind} {rest : OperandTrees} → OperandsBreakAt w locals start q rest p →
    rest ≡ tree.no_operand → ⊥
no_operand_breaks (in_operand b) e = cc
no_operand_breaks (no_operation v n) e = cc
no_operand_breaks (behind_operation x b) e = cc

record IsBehindOperation (w : World) (locals : Locals) (start : ℕ) (o : BinaryOp) (e : ExprTree) (q : Option ValueKind) (rest : OperandTrees) (p : ℕ) : Type
    0 where
  state : Option ValueKind
  next : NextKind w locals o e q state
  breaks : OperandsBreakAt w locals start state rest p

operand_cases : {w : World} {locals : Locals} {start x p : ℕ} {o : BinaryOp} {e : ExprTree} {q : Option ValueKind} {rest : OperandTrees} →
    OperandsBreakAt w locals start q (tree.operand o x e rest) p → (ValueBreaksAt w locals e p ⊎ At start (IsNoOperation w locals o e q) p) ⊎
    IsBehindOperation w locals start o e q rest p
operand_cases (in_operand b) = inl (inl b)
operand_cases (no_operation {j = j} {k = k} {a = a} v n) = inl (inr
    (refl, record { left = j; known = refl; right = k; addressable = a; means = v; is_none = n }))
operand_cases (behind_operation {l = l} x b) = inr (record { state = l; next = x; breaks = b })

operation_breaks : {w : World} {locals : Locals} {start : ℕ} {o : BinaryOp} {e : ExprTree} {q : Option ValueKind} (x : ℕ) (rest : OperandTrees) →
    IsNoOperation w locals o e q →
    OperandsBreakAt w locals start q (tree.operand o x e rest) start
operation_breaks {w} {locals} {start} {o} {e} x rest c = subst (λ z. OperandsBreakAt w locals start z (tree.operand o x e rest) start) (sym c.known)
    (no_operation c.means c.is_none)

operand_breaks : {w : World} {locals : Locals} {start p : ℕ} {o : BinaryOp} {e : ExprTree} {q : Option ValueKind} (x : ℕ) (rest : OperandTrees) →
    ValueBreaksAt w locals e p ⊎
    At start (IsNoOperation w locals o e q) p → OperandsBreakAt w locals start q (tree.operand o x e rest) p
operand_breaks x rest (inl b) = in_operand b
operand_breaks {w} {locals} {start} {p} {o} {e} {q} x rest (inr a) = at_place (OperandsBreakAt w locals start q (tree.operand o x e rest))
    (operation_breaks x rest) p a

behind_operator : {w : World} {locals : Locals} {start : ℕ} {o : BinaryOp} {e : ExprTree} {q s : Option ValueKind} {rest : OperandTrees} {p : ℕ} →
    NextKind w locals o e q s →
    IsBehindOperation w locals start o e q rest p → OperandsBreakAt w locals start s rest p
behind_operator {w} {locals} {start} {rest = rest} {p = p} n b = subst (λ z. OperandsBreakAt w locals start z rest p) (operated_once w locals b.next n) b.breaks

-- arguments

argument_cases : {w : World} {locals : Locals} {e : ExprTree} {c : Option ℕ} {rest : ArgumentTrees} {p : ℕ} →
    ArgumentsBreakAt w locals (tree.argument e c rest) p →
    ValueBreaksAt w locals e p ⊎ ArgumentsBreakAt w locals rest p
argument_cases (in_this b) = inl b
argument_cases (in_other b) = inr b

-- prefix operators

record IsNoPrefix (w : World) (locals : Locals) (o : PrefixOp) (e : ExprTree) : Type 0 where
  kind : ValueKind
  addressable : Bool
  means : HasMeaning w locals e (Value kind addressable)
  is_none : (m : Meaning) → Prefixes w o kind m → ⊥

prefix_by : (w : World) (o : PrefixOp) (q : ℕ) (k : ValueKind) (r : Option Meaning) → prefixed w o k ≡ r → {C : Type 0} → (((m : Meaning) → Prefixes w o k m →
    ⊥) → C) → (C →
    (m : Meaning) → Prefixes w o k m → ⊥) → AreExactly (means_or_wrong r q).faults (At q C)
prefix_by w o q k None e f g = fault_at q (f (λ m h. none_some e (prefixes_true w h)))
prefix_by w o q k (Some m) e f g = nothing_at q (λ c. g c m (true_prefixes w o k m e))

abbrev CannotPrefix : World → PrefixOp → Meaning → Type 0
CannotPrefix w o m = (k : ValueKind) × (a : Bool) × (m ≡ Value k a) × ((r : Meaning) → Prefixes w o k r → ⊥)

kind_in : {j k : ValueKind} {a b : Bool} → Value j a ≡ Value k b → j ≡ k
kind_in e = cc

prefix_at : (w : World) (o : PrefixOp) (q : ℕ) (m : Meaning) {C : Type 0} → (CannotPrefix w o m → C) → (C → CannotPrefix w o m) →
    AreExactly (prefix_of w o q m).faults (At q C)
unfolding prefix_of
prefix_at w o q (Value k a) f g = prefix_by w o q k (prefixed w o k) refl (λ n. f (k, a, refl, n)) (λ c r h. let x = g c in x.3 r (subst
    (λ z. Prefixes w o z r) (kind_in x.2) h))
prefix_at w o q (TypeName t) f g = nothing_at q (λ c. let x = g c in let z : TypeName t ≡ Value x.0 x.1 = x.2 in cc)
prefix_at w o q (Function s) f g = nothing_at q (λ c. let x = g c in let z : Function s ≡ Value x.0 x.1 = x.2 in cc)
prefix_at w o q (BuiltinName b) f g = nothing_at q (λ c. let x = g c in let z : BuiltinName b ≡ Value x.0 x.1 = x.2 in cc)
prefix_at w o q Package f g = nothing_at q (λ c. let x = g c in let z : Package ≡ Value x.0 x.1 = x.2 in cc)
prefix_at w o q (Results ts) f g = nothing_at q (λ c. let x = g c in let z : Results ts ≡ Value x.0 x.1 = x.2 in cc)
prefix_at w o q Broken f g = nothing_at q (λ c. let x = g c in let z : Broken ≡ Value x.0 x.1 = x.2 in cc)

cannot_prefix : {w : World} {locals : Locals} {o : PrefixOp} {e : ExprTree} → IsNoPrefix w locals o e → CannotPrefix w o (judge_value w locals e).meaning
cannot_prefix {w} {locals} {e = e} c = let x = value_true w locals e c.means in (c.kind, c.addressable, x.meaning, c.is_none)

prefix_told : (w : World) (locals : Locals) (o : PrefixOp) (q : ℕ) (e : ExprTree) → AreExactly (prefix_of w o q (judge_value w locals e).meaning).faults
    (At q (IsNoPrefix w locals o e))
prefix_told w locals o q e = prefix_at w o q (judge_value w locals e).meaning (λ x. record {
  kind = x.0;
  addressable = x.1;
  means = has_value (λ z. complete w locals e z) (value_was (place_of e) (judge w locals e).meaning x.2);
  is_none = x.3;
}) (λ c. cannot_prefix c)

prefix_cases : {w : World} {locals : Locals} {o : PrefixOp} {q p : ℕ} {e : ExprTree} → BreaksAt w locals (tree.Prefix o q e) p → ValueBreaksAt w locals e p ⊎
    At q (IsNoPrefix w locals o e) p
prefix_cases (in_prefix b) = inl b
prefix_cases (no_prefix {k = k} {a = a} h n) = inr (refl, record { kind = k; addressable = a; means = h; is_none = n })

address_silent : (m : Meaning) → (address_of m).faults ≡ []
unfolding address_of
address_silent (Value (Typed t) a) = refl
address_silent (Value (Untyped b) a) = refl
address_silent (Value Nil a) = refl
address_silent (TypeName t) = refl
address_silent (Function s) = refl
address_silent (BuiltinName b) = refl
address_silent Package = refl
address_silent (Results ts) = refl
address_silent Broken = refl

silent_behind : (xs ys : List ℕ) {B : ℕ → Type 0} → ys ≡ [] → AreExactly xs B → AreExactly (xs ++ ys) B
silent_behind xs ys {B} e t = both_told xs ys {C = λ p. ⊥} t (subst (λ z. AreExactly z (λ p. ⊥)) (sym e) (none_told (λ p n. n))) (λ p b. b) (λ p n. absurd n)
    (λ p b. inl b)

-- forms of one part

composite_only : {w : World} {locals : Locals} {l : LiteralTree} {p : ℕ} → BreaksAt w locals (tree.Composite l) p → LiteralBreaksAt w locals l p
composite_only (in_composite b) = b

address_only : {w : World} {locals : Locals} {q p : ℕ} {l : LiteralTree} → BreaksAt w locals (tree.Address q l) p → LiteralBreaksAt w locals l p
address_only (in_address b) = b

paren_only : {w : World} {locals : Locals} {o c p : ℕ} {e : ExprTree} → BreaksAt w locals (tree.Paren o e c) p → ValueBreaksAt w locals e p
paren_only (in_paren b) = b

chain_cases : (w : World) (locals : Locals) {e : ExprTree} {links : LinkTrees} {p : ℕ} → BreaksAt w locals (tree.Chain e links) p → BreaksAt w locals e p ⊎
    LinksBreakAt w locals (first_token e) (place_of e) (status (judge w locals e).meaning) links p
chain_cases w locals (in_chain b) = inl b
chain_cases w locals (in_links {e} {links} {p = p} s b) = inr (subst (λ z. LinksBreakAt w locals (first_token e) (place_of e) z links p)
    (stands_only w locals s) b)

binary_cases : (w : World) (locals : Locals) {e : ExprTree} {rest : OperandTrees} {p : ℕ} → BreaksAt w locals (tree.Binary e rest) p →
    ValueBreaksAt w locals e p ⊎
    OperandsBreakAt w locals (first_token e) (value_kind (judge_value w locals e).meaning) rest p
binary_cases w locals (in_binary b) = inl b
binary_cases w locals (in_operands {e} {rest} {p = p} g b) = inr (subst (λ z. OperandsBreakAt w locals (first_token e) z rest p) (sym
    (gives_only w locals g)) b)

-- literals

abbrev InElements : World → Locals → Option PlainType → ElementTrees → ℕ → Type 0
InElements w locals None es p = ValuesBreakAt w locals es p
InElements w locals (Some t) es p = ElementsBreakAt w locals t [] es p

abbrev IsUnkeyed : World → Locals → PlainType → ElementTrees → Type 0
IsUnkeyed w locals t es = (s : Symbol) × (underlying w t ≡ Struct s) × AreWhole w locals t [] es × HasUnkeyed es

abbrev IsNoLiteral : World → Locals → PlainType → ElementTrees → Type 0
IsNoLiteral w locals t es = AreWhole w locals t [] es × ((s : Symbol) → underlying w t ≡ Struct s → ⊥) × ((u : PlainType) → underlying w t ≡ SliceOf u → ⊥)

abbrev Ends : World → Locals → Option PlainType → ElementTrees → Type 0
Ends w locals None es = ⊥
Ends w locals (Some t) es = IsUnkeyed w locals t es ⊎ IsNoLiteral w locals t es

no_slice_of : {x : Underlying} {s : Symbol} → x ≡ Struct s → (u : PlainType) → x ≡ SliceOf u → ⊥
no_slice_of e u f = let c = sym e ∙ f in cc

plain_no_struct : {x v : Underlying} → x ≡ v → ((s : Symbol) → v ≡ Struct s → ⊥) → (s : Symbol) → x ≡ Struct s → ⊥
plain_no_struct e n s f = n s (sym e ∙ f)

plain_no_slice : {x v : Underlying} → x ≡ v → ((u : PlainType) → v ≡ SliceOf u → ⊥) → (u : PlainType) → x ≡ SliceOf u → ⊥
plain_no_slice e n u f = n u (sym e ∙ f)

whole_is : (w : World) (locals : Locals) (t : PlainType) (es : ElementTrees) → ((u : PlainType) → underlying w t ≡ SliceOf u → ⊥) → AreWhole w locals t [] es →
    (judge_elements w locals (Some t) (is_taken []) es).whole ≡ true
whole_is w locals t es n h = let x = elements_whole w locals n h in x.whole

struct_ends : (w : World) (locals : Locals) (start : ℕ) (t : PlainType) (es : ElementTrees) (s : Symbol) → underlying w t ≡ Struct s → (whole keyless : Bool) →
    (judge_elements w locals (Some t) (is_taken []) es).whole ≡ whole → (judge_elements w locals (Some t) (is_taken []) es).unkeyed ≡ keyless →
    AreExactly (literal_result start t (Struct s) whole keyless).faults (At start (Ends w locals (Some t) es))
struct_ends w locals start t es s i true true h k = fault_at start (inl (s, i, whole_elements w locals t [] es h, has_unkeyed w locals t (is_taken []) es k))
struct_ends w locals start t es s i true false h k = nothing_at start (λ c. elim c [
  | inl x ↦ true≢false (sym (unkeyed_is w locals t (is_taken []) x.3) ∙ k)
  | inr x ↦ x.1 s i
])
struct_ends w locals start t es s i false keyless h k = nothing_at start (λ c. elim c [
  | inl x ↦ true≢false (sym (whole_is w locals t es (no_slice_of i) x.2) ∙ h)
  | inr x ↦ x.1 s i
])

slice_ends : (w : World) (locals : Locals) (start : ℕ) (t : PlainType) (es : ElementTrees) (u : PlainType) → underlying w t ≡ SliceOf u →
    (whole keyless : Bool) →
    AreExactly (literal_result start t (SliceOf u) whole keyless).faults (At start (Ends w locals (Some t) es))
slice_ends w locals start t es u i true keyless = nothing_at start (λ c. elim c [ inl x ↦ no_slice_of x.1 u i | inr x ↦ x.2 u i ])
slice_ends w locals start t es u i false keyless = nothing_at start (λ c. elim c [ inl x ↦ no_slice_of x.1 u i | inr x ↦ x.2 u i ])

other_none : (w : World) (locals : Locals) (t : PlainType) (es : ElementTrees) → ((s : Symbol) → underlying w t ≡ Struct s → ⊥) → ((u : PlainType) →
    underlying w t ≡ SliceOf u → ⊥) →
    (judge_elements w locals (Some t) (is_taken []) es).whole ≡ false → Ends w locals (Some t) es → ⊥
other_none w locals t es n m h c = elim c [
  | inl x ↦ n x.0 x.1
  | inr x ↦ true≢false (sym (whole_is w locals t es m x.0) ∙ h)
]

ends_by : (w : World) (locals : Locals) (start : ℕ) (t : PlainType) (es : ElementTrees) (v : Underlying) → underlying w t ≡ v → (whole keyless : Bool) →
    (judge_elements w locals (Some t) (is_taken []) es).whole ≡ whole → (judge_elements w locals (Some t) (is_taken []) es).unkeyed ≡ keyless →
    AreExactly (literal_result start t v whole keyless).faults (At start (Ends w locals (Some t) es))
ends_by w locals start t es (Struct s) i whole keyless h k = struct_ends w locals start t es s i whole keyless h k
ends_by w locals start t es (SliceOf u) i whole keyless h k = slice_ends w locals start t es u i whole keyless
ends_by w locals start t es (Plain b) i true keyless h k = fault_at start (inr (
  whole_elements w locals t [] es h,
  plain_no_struct i
      (λ s c. cc),
  plain_no_slice i (λ u c. cc),
))
ends_by w locals start t es (Plain b) i false keyless h k = nothing_at start (other_none w locals t es (plain_no_struct i (λ s c. cc)) (plain_no_slice i
    (λ u c. cc)) h)
ends_by w locals start t es (PointerTo y) i true keyless h k = fault_at start (inr (
  whole_elements w locals t [] es h,
  plain_no_struct i
      (λ s c. cc),
  plain_no_slice i (λ u c. cc),
))
ends_by w locals start t es (PointerTo y) i false keyless h k = nothing_at start (other_none w locals t es (plain_no_struct i (λ s c. cc)) (plain_no_slice i
    (λ u c. cc)) h)
ends_by w locals start t es (Interface y) i true keyless h k =
    fault_at start (inr (whole_elements w locals t [] es h, plain_no_struct i (λ s c. cc), plain_no_slice i (λ u c. cc)))
ends_by w locals start t es (Interface y) i false keyless h k =
    nothing_at start (other_none w locals t es (plain_no_struct i (λ s c. cc)) (plain_no_slice i (λ u c. cc)) h)

ends_told : (w : World) (locals : Locals) (start : ℕ) (o : Option PlainType) (es : ElementTrees) → AreExactly (literal_meaning w start o
    (judge_elements w locals o (is_taken []) es).whole (judge_elements w locals o (is_taken []) es).unkeyed).faults (At start (Ends w locals o es))
ends_told w locals start None es = nothing_at start (λ c. c)
ends_told w locals start (Some t) es = ends_by w locals start t es (underlying w t) refl (judge_elements w locals (Some t) (is_taken []) es).whole
    (judge_elements w locals (Some t) (is_taken []) es).unkeyed refl refl

type_known : (w : World) (x : TypeTree) {o : Option PlainType} {t : PlainType} → (judge_type w x).type_of ≡ o → IsType w x t → o ≡ Some t
type_known w x e i = sym e ∙ ap (λ (z : TypeJudged). z.type_of) (type_true w i)

abbrev LiteralParts : World → Locals → TypeTree → Option PlainType → ElementTrees → ℕ → Type 0
LiteralParts w locals x o es p = (IsNoType w x p ⊎ InElements w locals o es p) ⊎ At (first_of_type x) (Ends w locals o es) p

elements_at : (w : World) (locals : Locals) (o : Option PlainType) {t : PlainType} (es : ElementTrees) (p : ℕ) → o ≡ Some t →
    ElementsBreakAt w locals t [] es p →
    InElements w locals o es p
elements_at w locals o es p e b = subst (λ z. InElements w locals z es p) (sym e) b

ends_at : (w : World) (locals : Locals) (o : Option PlainType) {t : PlainType} (es : ElementTrees) → o ≡ Some t → Ends w locals (Some t) es → Ends w locals o es
ends_at w locals o es e c = subst (λ z. Ends w locals z es) (sym e) c

untyped_at : (w : World) (locals : Locals) (x : TypeTree) (o : Option PlainType) (es : ElementTrees) (p : ℕ) → (judge_type w x).type_of ≡ o →
    ((t : PlainType) → IsType w x t → ⊥) →
    ValuesBreakAt w locals es p → InElements w locals o es p
untyped_at w locals x None es p e n b = b
untyped_at w locals x (Some t) es p e n b = absurd (n t (true_type w x t e))

literal_cases : (w : World) (locals : Locals) {x : TypeTree} {b c p : ℕ} {es : ElementTrees} (o : Option PlainType) → (judge_type w x).type_of ≡ o →
    LiteralBreaksAt w locals (tree.literal x b es c) p → LiteralParts w locals x o es p
literal_cases w locals o e (in_type h) = inl (inl h)
literal_cases w locals {p = p} o e (in_untyped {x} {es = es} n h) = inl (inr (untyped_at w locals x o es p e n h))
literal_cases w locals {p = p} o e (in_elements {x} {es = es} i h) = inl (inr (elements_at w locals o es p (type_known w x e i) h))
literal_cases w locals o e (unkeyed {x} {es = es} {s = s} i u h k) = inr (refl, ends_at w locals o es (type_known w x e i) (inl (s, u, h, k)))
literal_cases w locals o e (no_literal {x} {es = es} i h n m) = inr (refl, ends_at w locals o es (type_known w x e i) (inr (h, n, m)))

in_elements_of : (w : World) (locals : Locals) (x : TypeTree) (b : ℕ) (es : ElementTrees) (c p : ℕ) (o : Option PlainType) → (judge_type w x).type_of ≡ o →
    InElements w locals o es p → LiteralBreaksAt w locals (tree.literal x b es c) p
in_elements_of w locals x b es c p None e h = in_untyped (λ t i. none_some e (ap (λ (z : TypeJudged). z.type_of) (type_true w i))) h
in_elements_of w locals x b es c p (Some t) e h = in_elements (true_type w x t e) h

ends_of : (w : World) (locals : Locals) (x : TypeTree) (b : ℕ) (es : ElementTrees) (c : ℕ) (o : Option PlainType) → (judge_type w x).type_of ≡ o →
    Ends w locals o es →
    LiteralBreaksAt w locals (tree.literal x b es c) (first_of_type x)
ends_of w locals x b es c None e n = absurd n
ends_of w locals x b es c (Some t) e (inl y) = unkeyed (true_type w x t e) y.1 y.2 y.3
ends_of w locals x b es c (Some t) e (inr y) = no_literal (true_type w x t e) y.0 y.1 y.2

literal_by : (w : World) (locals : Locals) (x : TypeTree) (b : ℕ) (es : ElementTrees) (c : ℕ) (o : Option PlainType) → (judge_type w x).type_of ≡ o →
    AreExactly (judge_elements w locals o (is_taken []) es).faults (InElements w locals o es) →
    AreExactly (((judge_type w x).faults ++ (judge_elements w locals o (is_taken []) es).faults) ++ (literal_meaning w (first_of_type x) o
    (judge_elements w locals o (is_taken []) es).whole (judge_elements w locals o (is_taken []) es).unkeyed).faults) (LiteralBreaksAt w locals
    (tree.literal x b es c))
literal_by w locals x b es c o e t = let E = judge_elements w locals o (is_taken []) es in
    both_told ((judge_type w x).faults ++ E.faults) (literal_meaning w
    (first_of_type x) o E.whole E.unkeyed).faults {A = λ p. IsNoType w x p ⊎ InElements w locals o es p}
    (both_told (judge_type w x).faults E.faults (type_told w x) t (λ p h. inl h) (λ p h. inr h) (λ p h. h)) (ends_told w locals (first_of_type x) o es)
    (λ p h. elim h [ inl y ↦ in_type y | inr y ↦ in_elements_of w locals x b es c p o e y ])
    (at_place (LiteralBreaksAt w locals (tree.literal x b es c)) (ends_of w locals x b es c o e)) (λ p h. literal_cases w locals o e h)

value_cases : {w : World} {locals : Locals} {key : Option (ℕ × ℕ)} {e : ExprTree} {c : Option ℕ} {rest : ElementTrees} {p : ℕ} →
    ValuesBreakAt w locals (tree.element key e c rest) p → ValueBreaksAt w locals e p ⊎ ValuesBreakAt w locals rest p
value_cases (this_element b) = inl b
value_cases (other_element b) = inr b

abbrev Unkeyed : World → Locals → PlainType → List ℕ → ExprTree → ElementTrees → ℕ → Type 0
Unkeyed w locals t named e rest p = At (place_of e) (IsElementMisfit w locals t e) p ⊎ ElementsBreakAt w locals t named rest p

unkeyed_cases : {w : World} {locals : Locals} {t : PlainType} {named : List ℕ} {e : ExprTree} {c : Option ℕ} {rest : ElementTrees} {p : ℕ} →
    ElementsBreakAt w locals t named (tree.element None e c rest) p → ValueBreaksAt w locals e p ⊎ Unkeyed w locals t named e rest p
unkeyed_cases (in_element b) = inl b
unkeyed_cases (element_misfit {u = u} {k = k} {a = a} i h n) = inr (inl
    (refl, record { type = u; slice = i; kind = k; addressable = a; means = h; is_none = n }))
unkeyed_cases (behind_value b) = inr (inr b)

unkeyed_breaks : {w : World} {locals : Locals} {t : PlainType} {named : List ℕ} {e : ExprTree} {rest : ElementTrees} {p : ℕ} (c : Option ℕ) →
    Unkeyed w locals t named e rest p → ElementsBreakAt w locals t named (tree.element None e c rest) p
unkeyed_breaks {w} {locals} {t} {named} {e} {rest} {p} c (inl a) = at_place (ElementsBreakAt w locals t named (tree.element None e c rest))
    (λ x. element_misfit x.slice x.means x.is_none) p a
unkeyed_breaks c (inr b) = behind_value b

abbrev NoKey : World → PlainType → List ℕ → ℕ → Type 0
NoKey w t named key = ((s : Symbol) (u : PlainType) → IsKey w t named key s u → ⊥) × (IsBrokenKey w t key → ⊥)

abbrev Keyed : World → Locals → PlainType → List ℕ → ℕ × ℕ → ExprTree → ElementTrees → ℕ → Type 0
Keyed w locals t named key e rest p = At (place_of e) (IsFieldMisfit w locals t named key.0 e ⊎ IsElementMisfit w locals t e) p ⊎ Behind w locals t named
    key.0 rest p

keyed_cases : {w : World} {locals : Locals} {t : PlainType} {named : List ℕ} {key : ℕ × ℕ} {e : ExprTree} {c : Option ℕ} {rest : ElementTrees} {p : ℕ} →
    ElementsBreakAt w locals t named (tree.element (Some key) e c rest) p → At key.0 (NoKey w t named key.0) p ⊎ (ValueBreaksAt w locals e p ⊎
    Keyed w locals t named key e rest p)
keyed_cases (in_element b) = inr (inl b)
keyed_cases (no_key n m) = inl (refl, (n, m))
keyed_cases (field_misfit {s = s} {u = u} {k = k} {a = a} f h n) = inr (inr (inl (
  refl,
  inl (record {
    symbol = s;
    type = u;
    is_key = f;
    kind = k;
    addressable = a;
    means = h;
    is_none = n;
  }),
)))
keyed_cases (element_misfit {u = u} {k = k} {a = a} i h n) = inr (inr (inl (
  refl,
  inr
      (record { type = u; slice = i; kind = k; addressable = a; means = h; is_none = n }),
)))
keyed_cases (behind_field f b) = inr (inr (inr (behind_one f b)))
keyed_cases (behind_no_field n b) = inr (inr (inr (behind_none n b)))

misfit_breaks : {w : World} {locals : Locals} {t : PlainType} {named : List ℕ} {key : ℕ × ℕ} {e : ExprTree} (c : Option ℕ) (rest : ElementTrees) →
    IsFieldMisfit w locals t named key.0 e ⊎ IsElementMisfit w locals t e → ElementsBreakAt w locals t named (tree.element (Some key) e c rest) (place_of e)
misfit_breaks c rest (inl x) = field_misfit x.is_key x.means x.is_none
misfit_breaks c rest (inr x) = element_misfit x.slice x.means x.is_none

keyed_breaks : {w : World} {locals : Locals} {t : PlainType} {named : List ℕ} {key : ℕ × ℕ} {e : ExprTree} {rest : ElementTrees} {p : ℕ} (c : Option ℕ) →
    Keyed w locals t named key e rest p → ElementsBreakAt w locals t named (tree.element (Some key) e c rest) p
keyed_breaks {w} {locals} {t} {named} {key} {e} {rest} {p} c (inl a) = at_place (ElementsBreakAt w locals t named (tree.element (Some key) e c rest))
    (misfit_breaks c rest) p a
keyed_breaks c (inr (behind_one f b)) = behind_field f b
keyed_breaks c (inr (behind_none n b)) = behind_no_field n b

parts_by : (w : World) (locals : Locals) (o : Option PlainType) (es : ElementTrees) → AreExactly (judge_elements w locals None (is_taken []) es).faults
    (ValuesBreakAt w locals es) → ((t : PlainType) → AreExactly (judge_elements w locals (Some t) (is_taken []) es).faults (ElementsBreakAt w locals t [] es)) →
    AreExactly (judge_elements w locals o (is_taken []) es).faults (InElements w locals o es)
parts_by w locals None es v f = v
parts_by w locals (Some t) es v f = f t

elements_none : {w : World} {locals : Locals} {t : PlainType} {named : List ℕ} {es : ElementTrees} {p : ℕ} → ElementsBreakAt w locals t named es p →
    es ≡ tree.no_element → ⊥
elements_none (in_element b) e = cc
elements_none (no_key n m) e = cc
elements_none (field_misfit f h n) e = cc
elements_none (element_misfit i h n) e = cc
elements_none (behind_value b) e = cc
elements_none (behind_field f b) e = cc
elements_none (behind_no_field n b) e = cc

-- all forms

mutual
  unfolding judge

  pub expression_told : (w : World) (locals : Locals) (e : ExprTree) → AreExactly (judge w locals e).faults (BreaksAt w locals e)
  expression_told w locals (tree.Number p) = none_told (λ q b. elim b [ ])
  expression_told w locals (tree.Text p) = none_told (λ q b. elim b [ ])
  expression_told w locals (tree.Name p) = none_told (λ q b. elim b [ ])
  expression_told w locals (tree.Blank p) = none_told (λ q b. elim b [ ])
  expression_told w locals (tree.Composite l) = told_as (literal_told w locals l) (λ p b. in_composite b) (λ p b. composite_only b)
  expression_told w locals (tree.Paren o e c) = told_as (value_from w locals e (expression_told w locals e)) (λ p b. in_paren b) (λ p b. paren_only b)
  expression_told w locals (tree.Prefix o q e) = both_told (judge_value w locals e).faults (prefix_of w o q (judge_value w locals e).meaning).faults
      (value_from w locals e (expression_told w locals e)) (prefix_told w locals o q e) (λ p b. in_prefix b)
      (at_place (BreaksAt w locals (tree.Prefix o q e)) (λ c. no_prefix c.means c.is_none)) (λ p b. prefix_cases b)
  expression_told w locals (tree.Address q l) = silent_behind (judge_literal w locals l).faults (address_of (judge_literal w locals l).meaning).faults
      (address_silent (judge_literal w locals l).meaning) (told_as (literal_told w locals l) (λ p b. in_address b) (λ p b. address_only b))
  expression_told w locals (tree.Chain e links) = adds_told (expression_told w locals e) (links_told w locals links (first_token e) (place_of e)
      (judge w locals e))
      (λ p b. in_chain b) (λ p b. in_links (stands_found w locals e) b) (λ p b. chain_cases w locals b)
  expression_told w locals (tree.Binary e rest) = adds_told (value_from w locals e (expression_told w locals e))
      (operands_told w locals rest (first_token e) (judge_value w locals e)) (λ p b. in_binary b) (λ p b. in_operands (gives_found w locals e) b)
      (λ p b. binary_cases w locals b)

  links_told : (w : World) (locals : Locals) (links : LinkTrees) (start place : ℕ) (j : Judged) →
      AddsWhere j.faults (judge_links w locals start place j links).faults
      (LinksBreakAt w locals start place (status j.meaning) links)
  links_told w locals tree.no_link start place j = adds_none j.faults (λ p b. no_link_breaks b refl)
  links_told w locals (tree.selector d n rest) start place j = let r = (select w locals place n j.meaning).meaning in
      adds_then (adds_more j.faults (select w locals place n j.meaning).faults (selector_told w locals place n j.meaning))
      (links_told w locals rest start n (followed j (select w locals place n))) (λ p b. selector_breaks start d rest b)
      (λ p b. behind_selector (next_found (SelectsBy w locals n) j.meaning r (selects_rule w locals place n j.meaning)) b)
      (λ p b. elim (selector_cases b) [
        | inl a ↦ inl a
        | inr x ↦ inr (behind_as (λ y h. next_only (SelectsBy w locals n) j.meaning r (selects_rule w locals place n j.meaning) refl h) x)
      ])
  links_told w locals (tree.index o e c rest) start place j = let V = judge_value w locals e in
      let r = (index_rule w start place e V j.meaning).meaning in
      adds_then (adds_more j.faults (index_rule w start place e V j.meaning).faults (index_told w locals start place e j.meaning
      (value_from w locals e (expression_told w locals e)))) (links_told w locals rest start start (followed j (index_rule w start place e V)))
      (λ p b. index_breaks o c rest b) (λ p b. behind_index (next_found (IndexedBy w locals e) j.meaning r (indexes_rule w locals start place e j.meaning)) b)
      (λ p b. elim (index_cases b) [
        | inl a ↦ inl a
        | inr x ↦ inr (behind_as (λ y h. next_only (IndexedBy w locals e) j.meaning r (indexes_rule w locals start place e j.meaning) refl h) x)
      ])
  links_told w locals (tree.call o xs c rest) start place j = let A = judge_arguments w locals xs in
      let r = (call_rule w start place A j.meaning).meaning in
      adds_then {A = λ p. ArgumentsBreakAt w locals xs p ⊎ CallBreaks w locals start place xs (status j.meaning) p} (adds_more j.faults
      (call_rule w start place A j.meaning).faults (both_told A.faults (call_of w start place A.values j.meaning).faults (arguments_told w locals xs)
      (call_told w locals start place xs j.meaning) (λ p b. inl b) (λ p b. inr b) (λ p b. b)))
      (links_told w locals rest start start (followed j (call_rule w start place A)))
      (λ p b. elim b [ inl a ↦ in_arguments a | inr a ↦ call_breaks o c rest a ])
      (λ p b. behind_call (next_found (CalledWith w locals xs) j.meaning r (calls_rule w locals start place xs j.meaning)) b)
      (λ p b. elim (call_cases b) [
        | inl a ↦ inl a
        | inr x ↦ inr (behind_as (λ y h. next_only (CalledWith w locals xs) j.meaning r (calls_rule w locals start place xs j.meaning) refl h) x)
      ])

  operands_told : (w : World) (locals : Locals) (rest : OperandTrees) (start : ℕ) (j : Judged) → AddsWhere j.faults (judge_operands w locals start j
      rest).faults
      (OperandsBreakAt w locals start (value_kind j.meaning) rest)
  operands_told w locals tree.no_operand start j = adds_none j.faults (λ p b. no_operand_breaks b refl)
  operands_told w locals (tree.operand o x e rest) start j = let V = judge_value w locals e in
      adds_then {A = λ p. ValueBreaksAt w locals e p ⊎ At start (IsNoOperation w locals o e (value_kind j.meaning)) p} (adds_more j.faults
      (V.faults ++ (operation w o start j.meaning V.meaning).faults) (both_told V.faults (operation w o start j.meaning V.meaning).faults
      (value_from w locals e (expression_told w locals e)) (operation_told w locals o start e j.meaning) (λ p b. inl b) (λ p b. inr b) (λ p b. b)))
      (operands_told w locals rest start (followed j (λ a. followed V (operation w o start a)))) (λ p b. operand_breaks x rest b)
      (λ p b. behind_operation (operated_found w locals o start e j.meaning) b)
      (λ p b. elim (operand_cases b) [ inl a ↦ inl a | inr y ↦ inr (behind_operator (operated_found w locals o start e j.meaning) y) ])

  arguments_told : (w : World) (locals : Locals) (xs : ArgumentTrees) → AreExactly (judge_arguments w locals xs).faults (ArgumentsBreakAt w locals xs)
  arguments_told w locals tree.no_argument = none_told (λ p b. elim b [ ])
  arguments_told w locals (tree.argument e c rest) = both_told (judge_value w locals e).faults (judge_arguments w locals rest).faults
      (value_from w locals e (expression_told w locals e)) (arguments_told w locals rest) (λ p b. in_this b) (λ p b. in_other b) (λ p b. argument_cases b)

  literal_told : (w : World) (locals : Locals) (l : LiteralTree) → AreExactly (judge_literal w locals l).faults (LiteralBreaksAt w locals l)
  literal_told w locals (tree.literal x b es c) = literal_by w locals x b es c (judge_type w x).type_of refl (parts_by w locals (judge_type w x).type_of es
      (values_told w locals es (is_taken [])) (λ t. elements_told w locals es t []))

  values_told : (w : World) (locals : Locals) (es : ElementTrees) (seen : Seen) →
      AreExactly (judge_elements w locals None seen es).faults (ValuesBreakAt w locals es)
  values_told w locals tree.no_element seen = none_told (λ p b. elim b [ ])
  values_told w locals (tree.element key e c rest) seen = both_told (judge_value w locals e).faults (judge_elements w locals None seen rest).faults
      (value_from w locals e (expression_told w locals e)) (values_told w locals rest seen) (λ p b. this_element b) (λ p b. other_element b)
      (λ p b. value_cases b)

  elements_told : (w : World) (locals : Locals) (es : ElementTrees) (t : PlainType) (named : List ℕ) →
      AreExactly (judge_elements w locals (Some t) (is_taken named) es).faults (ElementsBreakAt w locals t named es)
  elements_told w locals tree.no_element t named = none_told (λ p b. elements_none b refl)
  elements_told w locals (tree.element None e c rest) t named = let V = judge_value w locals e in
      let M = misfit_if w (place_of e) (value_kind V.meaning) (element_of (underlying w t)) in
      let E = judge_elements w locals (Some t) (is_taken named) rest in
      both_told V.faults (M ++ E.faults) {C = Unkeyed w locals t named e rest} (value_from w locals e (expression_told w locals e)) (both_told M E.faults
      (slice_told w locals t e) (elements_told w locals rest t named) (λ p b. inl b) (λ p b. inr b) (λ p b. b)) (λ p b. in_element b)
      (λ p b. unkeyed_breaks c b)
      (λ p b. unkeyed_cases b)
  elements_told w locals (tree.element (Some key) e c rest) t named = let V = judge_value w locals e in
      let K = key_at w (is_taken named) t key.0 in
      let M = misfit_if w (place_of e) (value_kind V.meaning) (wanted_after_key K (underlying w t)) in
      let E = judge_elements w locals (Some t) (seen_with K (is_taken named)) rest in
      both_told (key_faults K key.0) (V.faults ++ (M ++ E.faults)) {C = λ p. ValueBreaksAt w locals e p ⊎ Keyed w locals t named key e rest p}
      (key_told w t named key.0) (both_told V.faults (M ++ E.faults) {C = Keyed w locals t named key e rest} (value_from w locals e
      (expression_told w locals e))
      (both_told M E.faults (misfit_told w locals t named key.0 e) (behind_told w locals t named key.0 rest (λ ranks. elements_told w locals rest t ranks))
      (λ p b. inl b) (λ p b. inr b) (λ p b. b)) (λ p b. inl b) (λ p b. inr b) (λ p b. b))
      (at_place (ElementsBreakAt w locals t named (tree.element (Some key) e c rest)) (λ x. no_key x.0 x.1))
      (λ p b. elim b [ inl v ↦ in_element v | inr k ↦ keyed_breaks c k ]) (λ p b. keyed_cases b)

pub value_told : (w : World) (locals : Locals) (e : ExprTree) → AreExactly (judge_value w locals e).faults (ValueBreaksAt w locals e)
value_told w locals e = value_from w locals e (expression_told w locals e)

pub operand_told : (w : World) (locals : Locals) (e : ExprTree) → AreExactly (judge_operand w locals e).faults (OperandBreaksAt w locals e)
operand_told w locals e = operand_from w locals e (expression_told w locals e)
