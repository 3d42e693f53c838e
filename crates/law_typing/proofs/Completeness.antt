-- An expression that the judgement gives a meaning, not broken, has this meaning by the rules.
use Rattle.std.proofs.Common.{ℕ, ◌≡◌, Bool, true, false, List, [], ◌∷◌, Option, Some, None, refl, sym, ap, ◌∙◌, subst, true≢false}
use Rattle.go_ast.specs.declared.syntax.BinaryOp.{BinaryOp}
use Rattle.go_ast.specs.declared.syntax.PrefixOp.{PrefixOp}
use Rattle.go_ast.specs.Tree.{ExprTree, LinkTrees, OperandTrees, ArgumentTrees, LiteralTree, ElementTrees}
use Rattle.go_ast.specs.Tree as tree
use Rattle.types_expr.specs.declared.symbol.Symbol.{Symbol}
use Rattle.types_expr.specs.Places.{first_token, first_of_type, place_of}
use Rattle.types_expr.specs.Types.{PlainType, Pointer, SliceOf, Struct, ValueKind, Typed, Meaning}
use Rattle.types_expr.specs.Types.{Value, TypeName, Function, BuiltinName, Package, Results, Broken}
use Rattle.types_expr.specs.Types.{element_of}
use Rattle.types_expr.specs.World.{World, Locals, underlying}
use Rattle.types_expr.specs.Operations.{operate, prefixed}
use Rattle.types_expr.specs.Judge.{Judged, means_or_wrong, value_or_wrong, followed, value_at, value_kind, select, index_rule, index_of, as_value, call_rule}
use Rattle.types_expr.specs.Judge.{operation, operation_on, prefix_of, address_of, judge, judge_links, judge_operands, judge_arguments, judge_literal}
use Rattle.types_expr.specs.Judge.{judge_elements, judge_type, judge_key, is_whole_key, key_at}
use Rattle.types_expr.specs.Judge.{key_in, seen_with, wanted_after_key, no_key, none_seen, misfit_if}
use Rattle.types_expr.specs.Judge.{FieldKey, Seen}
use Rattle.law_typing.specs.Operators.{Operates, Prefixes}
use Rattle.law_typing.specs.Names.{IsNotBroken}
use Rattle.law_typing.specs.Links.{Indexes}
use Rattle.law_typing.specs.Links.{element as slice_element}
use Rattle.law_typing.specs.Meanings.{HasMeaning, number, text, name, composite, paren, prefix, address, chain, binary, LinksMean, no_link, selector, index}
use Rattle.law_typing.specs.Meanings.{call, OperandsMean, no_operand, operand, AreValues, no_argument, argument, AreFields, no_field, field, AreElements}
use Rattle.law_typing.specs.Meanings.{no_element, element}
use Rattle.law_typing.proofs.Judgements.{value_whole, only_value, value_kept, known_kind}
use Rattle.law_typing.proofs.Naming.{true_name}
use Rattle.law_typing.proofs.Operating.{true_operates, true_prefixes}
use Rattle.law_typing.proofs.Selecting.{true_selects, true_indexes}
use Rattle.law_typing.proofs.Arguments.{AreOf, silent_fit}
use Rattle.law_typing.proofs.Calling.{true_calls}
use Rattle.law_typing.proofs.Elements.{is_taken, free_new, IsFieldKey, whole_key, whole_element, IsLiteralFound, literal_found}

pub whole_as : {m n : Meaning} → m ≡ n → IsNotBroken n → IsNotBroken m
whole_as e n h = n (sym e ∙ h)

-- a part whose judged meaning is a value is one by the rules
pub has_value : {w : World} {locals : Locals} {e : ExprTree} {m : Meaning} {k : ValueKind} {a : Bool} → (IsNotBroken m → HasMeaning w locals e m) →
    m ≡ Value k a →
    HasMeaning w locals e (Value k a)
has_value {w} {locals} {e} f h = subst (λ z. HasMeaning w locals e z) h (f (whole_as h value_whole))

pub value_was : (place : ℕ) (m : Meaning) {k : ValueKind} {a : Bool} → (as_value place m).meaning ≡ Value k a → m ≡ Value k a
unfolding as_value
value_was place (Value k a) h = h
value_was place (TypeName t) h = cc
value_was place (Function s) h = cc
value_was place (BuiltinName b) h = cc
value_was place Package h = cc
value_was place (Results ts) h = cc
value_was place Broken h = cc

-- a prefix operator
record IsPrefixed (w : World) (o : PrefixOp) (m r : Meaning) : Type 0 where
  kind : ValueKind
  addressable : Bool
  value : m ≡ Value kind addressable
  prefixes : Prefixes w o kind r

prefix_chosen : (w : World) (o : PrefixOp) (p : ℕ) (k : ValueKind) (a : Bool) (r : Option Meaning) → prefixed w o k ≡ r →
    IsNotBroken (means_or_wrong r p).meaning →
    IsPrefixed w o (Value k a) (means_or_wrong r p).meaning
prefix_chosen w o p k a None e n = absurd (n refl)
prefix_chosen w o p k a (Some m) e n = record { kind = k; addressable = a; value = refl; prefixes = true_prefixes w o k m e }

prefix_found : (w : World) (o : PrefixOp) (p place : ℕ) (m : Meaning) → IsNotBroken (prefix_of w o p (as_value place m).meaning).meaning →
    IsPrefixed w o m (prefix_of w o p (as_value place m).meaning).meaning
unfolding prefix_of as_value
prefix_found w o p place (Value k a) n = prefix_chosen w o p k a (prefixed w o k) refl n
prefix_found w o p place (TypeName t) n = absurd (n refl)
prefix_found w o p place (Function s) n = absurd (n refl)
prefix_found w o p place (BuiltinName b) n = absurd (n refl)
prefix_found w o p place Package n = absurd (n refl)
prefix_found w o p place (Results ts) n = absurd (n refl)
prefix_found w o p place Broken n = absurd (n refl)

-- a binary operator
pub record IsOperation (w : World) (o : BinaryOp) (m n r : Meaning) : Type 0 where
  pub left : ValueKind
  pub left_addressable : Bool
  pub right : ValueKind
  pub right_addressable : Bool
  pub result : ValueKind
  pub left_value : m ≡ Value left left_addressable
  pub right_value : n ≡ Value right right_addressable
  pub operates : Operates w o left right result
  pub found : r ≡ Value result false

operation_chosen : (w : World) (o : BinaryOp) (start : ℕ) (j k : ValueKind) (a b : Bool) (r : Option ValueKind) → operate w o j k ≡ r →
    IsNotBroken (value_or_wrong r start).meaning →
    IsOperation w o (Value j a) (Value k b) (value_or_wrong r start).meaning
operation_chosen w o start j k a b None e n = absurd (n refl)
operation_chosen w o start j k a b (Some l) e n = record {
  left = j;
  left_addressable = a;
  right = k;
  right_addressable = b;
  result = l;
  left_value = refl;
  right_value = refl;
  operates =
      true_operates w o j k l e;
  found = refl;
}

known_operation : (w : World) (o : BinaryOp) (start : ℕ) (m n : Meaning) (x y : Option ValueKind) → value_kind m ≡ x → value_kind n ≡ y →
    IsNotBroken (operation_on w o start x y).meaning → IsOperation w o m n (operation_on w o start x y).meaning
known_operation w o start m n None y e f h = absurd (h refl)
known_operation w o start m n (Some j) None e f h = absurd (h refl)
known_operation w o start m n (Some j) (Some k) e f h = let a = known_kind m j e in let b = known_kind n k f in
    subst (λ z. IsOperation w o z n (operation_on w o start (Some j) (Some k)).meaning) (sym a.1)
    (subst (λ z. IsOperation w o (Value j a.0) z (operation_on w o start (Some j) (Some k)).meaning) (sym b.1)
    (operation_chosen w o start j k a.0 b.0 (operate w o j k) refl h))

pub operation_found : (w : World) (o : BinaryOp) (start : ℕ) (m n : Meaning) → IsNotBroken (operation w o start m n).meaning →
    IsOperation w o m n (operation w o start m n).meaning
unfolding operation
operation_found w o start m n h = known_operation w o start m n (value_kind m) (value_kind n) refl refl h

-- the address of a literal
address_whole : (m : Meaning) → IsNotBroken (address_of m).meaning → IsNotBroken m
unfolding address_of
address_whole (Value k a) n = value_whole
address_whole (TypeName t) n = absurd (n refl)
address_whole (Function s) n = absurd (n refl)
address_whole (BuiltinName b) n = absurd (n refl)
address_whole Package n = absurd (n refl)
address_whole (Results ts) n = absurd (n refl)
address_whole Broken n = absurd (n refl)

address_found : {m : Meaning} {t : PlainType} → m ≡ Value (Typed t) false → (address_of m).meaning ≡ Value (Typed (Pointer t)) false
unfolding address_of
address_found e = ap (λ z. (address_of z).meaning) e

indexes_whole : {w : World} {m r : Meaning} {k : ValueKind} → Indexes w m k r → IsNotBroken m
indexes_whole (slice_element e i) = value_whole

combined : (w : World) (locals : Locals) (o : BinaryOp) (p : ℕ) (e : ExprTree) (rest : OperandTrees) (m n s r : Meaning) (q : IsOperation w o m n s) →
    HasMeaning w locals e (Value q.right q.right_addressable) →
    OperandsMean w locals s rest r → OperandsMean w locals m (tree.operand o p e rest) r
combined w locals o p e rest m n s r q v c =
    subst (λ z. OperandsMean w locals z (tree.operand o p e rest) r) (sym q.left_value)
    (operand v q.operates (subst (λ z. OperandsMean w locals z rest r) q.found c))

-- an element of a struct literal
field_element : (w : World) (locals : Locals) (t : PlainType) (named : List ℕ) (key : ℕ × ℕ) (e : ExprTree) (c : Option ℕ) (rest : ElementTrees)
    (m : Meaning) (k : ValueKind) (a : Bool) →
    IsFieldKey (underlying w t) (is_taken named) (w.member key.0 t) (key_at w (is_taken named) t key.0) → (IsNotBroken m → HasMeaning w locals e m) →
    m ≡ Value k a →
    misfit_if w (place_of e) (Some k) (wanted_after_key (key_at w (is_taken named) t key.0) (underlying w t)) ≡ [] →
    ((rank : ℕ) (u : PlainType) → key_at w (is_taken named) t key.0 ≡ FieldKey rank u → AreFields w locals t (rank ∷ named) rest) →
    AreFields w locals t named (tree.element (Some key) e c rest)
field_element w locals t named key e c rest m k a f h v silent more =
    field f.is_field (free_new f.symbol.rank named f.is_free) (has_value h v)
    (silent_fit w (place_of e) (Some k) k f.type_of refl
    (ap (λ z. misfit_if w (place_of e) (Some k) (wanted_after_key z (underlying w t))) (sym f.is_key) ∙ silent))
    (more f.symbol.rank f.type_of f.is_key)

no_slice_key : {A : Type 0} (w : World) (t u : PlainType) → underlying w t ≡ SliceOf u → (seen : Seen) (n : ℕ) → is_whole_key (key_at w seen t n) ≡ true → A
no_slice_key w t u i seen n h = absurd (true≢false (sym h ∙ ap (λ z. is_whole_key (key_in z seen (w.member n t))) i))

pub only_indexed : (w : World) (start here place : ℕ) (m i : Meaning) → IsNotBroken (index_of w start place (as_value here m).meaning i).meaning → IsNotBroken m
only_indexed w start here place m i n = let f = true_indexes w start here place m i n in indexes_whole f.3

mutual
  unfolding judge

  pub complete : (w : World) (locals : Locals) (e : ExprTree) → IsNotBroken (judge w locals e).meaning → HasMeaning w locals e (judge w locals e).meaning
  complete w locals (tree.Number p) n = number
  complete w locals (tree.Text p) n = text
  complete w locals (tree.Name p) n = name (true_name w locals p n)
  complete w locals (tree.Blank p) n = absurd (n refl)
  complete w locals (tree.Composite l) n = let f = complete_literal w locals l n in
      subst (λ z. HasMeaning w locals (tree.Composite l) z) (sym f.found) (composite f.is_literal)
  complete w locals (tree.Paren o e c) n = let v = only_value (place_of e) (judge w locals e).meaning n in
      subst (λ z. HasMeaning w locals (tree.Paren o e c) z) (sym (value_kept (place_of e) v.2)) (paren (has_value (λ q. complete w locals e q) v.2))
  complete w locals (tree.Prefix o p e) n = let f = prefix_found w o p (place_of e) (judge w locals e).meaning n in
      prefix (has_value (λ q. complete w locals e q) f.value) f.prefixes
  complete w locals (tree.Address p l) n = let f = complete_literal w locals l (address_whole (judge_literal w locals l).meaning n) in
      subst (λ z. HasMeaning w locals (tree.Address p l) z) (sym (address_found f.found)) (address f.is_literal)
  complete w locals (tree.Chain e links) n = let f = complete_links w locals links (first_token e) (place_of e) (judge w locals e) n in
      chain (complete w locals e f.0) f.1
  complete w locals (tree.Binary e rest) n = let f = complete_operands w locals rest (first_token e) (value_at e (judge w locals e)) n in
      let v = only_value (place_of e) (judge w locals e).meaning f.0 in
      binary (has_value (λ q. complete w locals e q) v.2)
      (subst (λ z. OperandsMean w locals z rest (judge_operands w locals (first_token e) (value_at e (judge w locals e)) rest).meaning)
      (value_kept (place_of e) v.2) f.1)

  complete_links : (w : World) (locals : Locals) (links : LinkTrees) (start place : ℕ) (j : Judged) →
      IsNotBroken (judge_links w locals start place j links).meaning →
      IsNotBroken j.meaning × LinksMean w locals j.meaning links (judge_links w locals start place j links).meaning
  complete_links w locals tree.no_link start place j n = (n, no_link)
  complete_links w locals (tree.selector d x rest) start place j n = let more = complete_links w locals rest start x (followed j (select w locals place x)) n in
      let s = true_selects w locals place x j.meaning more.0 in
      (s.0, selector s.1 more.1)
  complete_links w locals (tree.index o e c rest) start place j n = let more =
      complete_links w locals rest start start (followed j (index_rule w start place e (value_at e (judge w locals e)))) n in
      let i = true_indexes w start place (place_of e) j.meaning (value_at e (judge w locals e)).meaning more.0 in (
        only_indexed w start place (place_of e) j.meaning (value_at e (judge w locals e)).meaning more.0,
        index (has_value (λ q. complete w locals e q) (value_was (place_of e) (judge w locals e).meaning i.2)) i.3 more.1,
      )
  complete_links w locals (tree.call o xs c rest) start place j n = let more =
      complete_links w locals rest start start (followed j (call_rule w start place (judge_arguments w locals xs))) n in
      let s = true_calls w start place (judge_arguments w locals xs).values j.meaning more.0 in
      (s.0, call (complete_arguments w locals xs s.1.0 s.1.1) s.1.2 more.1)

  complete_operands : (w : World) (locals : Locals) (rest : OperandTrees) (start : ℕ) (j : Judged) → IsNotBroken (judge_operands w locals start j
      rest).meaning →
      IsNotBroken j.meaning × OperandsMean w locals j.meaning rest (judge_operands w locals start j rest).meaning
  complete_operands w locals tree.no_operand start j n = (n, no_operand)
  complete_operands w locals (tree.operand o p e rest) start j n =
      let more = complete_operands w locals rest start (followed j (λ a. followed (value_at e (judge w locals e)) (operation w o start a))) n in
      let q = operation_found w o start j.meaning (value_at e (judge w locals e)).meaning more.0 in (
        whole_as q.left_value value_whole,
        combined w locals o p e rest j.meaning (value_at e (judge w locals e)).meaning
            (operation w o start j.meaning (value_at e (judge w locals e)).meaning).meaning
            (judge_operands w locals start j (tree.operand o p e rest)).meaning q
            (has_value (λ z. complete w locals e z) (value_was (place_of e) (judge w locals e).meaning q.right_value)) more.1,
      )

  pub complete_arguments : (w : World) (locals : Locals) (xs : ArgumentTrees) (ks : List ValueKind) → AreOf (judge_arguments w locals xs).values ks →
      AreValues w locals xs ks
  complete_arguments w locals tree.no_argument [] a = no_argument
  complete_arguments w locals tree.no_argument (k ∷ ks) a = absurd a
  complete_arguments w locals (tree.argument e c rest) [] a = absurd a
  complete_arguments w locals (tree.argument e c rest) (k ∷ ks) a = let v = known_kind (value_at e (judge w locals e)).meaning k a.0 in
      argument (has_value (λ q. complete w locals e q) (value_was (place_of e) (judge w locals e).meaning v.1)) (complete_arguments w locals rest ks a.1)

  pub complete_literal : (w : World) (locals : Locals) (l : LiteralTree) → IsNotBroken (judge_literal w locals l).meaning →
      IsLiteralFound w locals l (judge_literal w locals l).meaning
  complete_literal w locals (tree.literal x o es c) n =
      literal_found w locals x o es c (first_of_type x) (judge_type w x).type_of refl n (λ t s e h u. complete_fields w locals es t [] s e h u)
      (λ t u e h. complete_elements w locals es t none_seen u e h)

  complete_fields : (w : World) (locals : Locals) (es : ElementTrees) (t : PlainType) (named : List ℕ) (s : Symbol) → underlying w t ≡ Struct s →
      (judge_elements w locals (Some t) (is_taken named) es).whole ≡ true →
      (judge_elements w locals (Some t) (is_taken named) es).unkeyed ≡ false → AreFields w locals t named es
  complete_fields w locals tree.no_element t named s i h u = no_field
  complete_fields w locals (tree.element None e c rest) t named s i h u = absurd (true≢false u)
  complete_fields w locals (tree.element (Some key) e c rest) t named s i h u =
      let x = whole_element w (judge_key w t key.0 (key_at w (is_taken named) t key.0)) (place_of e) (value_at e (judge w locals e))
      (judge_elements w locals (Some t) (seen_with (key_at w (is_taken named) t key.0) (is_taken named)) rest) h in
      field_element w locals t named key e c rest (judge w locals e).meaning x.kind x.addressable
      (whole_key (underlying w t) (is_taken named) (w.member key.0 t) x.key) (λ q. complete w locals e q)
      (value_was (place_of e) (judge w locals e).meaning x.value) x.silent
      (λ rank v k. complete_fields w locals rest t (rank ∷ named) s i
      (ap (λ z. (judge_elements w locals (Some t) (seen_with z (is_taken named)) rest).whole) (sym k) ∙ x.others)
      (ap (λ z. (judge_elements w locals (Some t) (seen_with z (is_taken named)) rest).unkeyed) (sym k) ∙ u))

  complete_elements : (w : World) (locals : Locals) (es : ElementTrees) (t : PlainType) (seen : Seen) (u : PlainType) → underlying w t ≡ SliceOf u →
      (judge_elements w locals (Some t) seen es).whole ≡ true → AreElements w locals u es
  complete_elements w locals tree.no_element t seen u i h = no_element
  complete_elements w locals (tree.element (Some key) e c rest) t seen u i h =
      let x = whole_element w (judge_key w t key.0 (key_at w seen t key.0)) (place_of e) (value_at e (judge w locals e))
      (judge_elements w locals (Some t) (seen_with (key_at w seen t key.0) seen) rest) h in
      no_slice_key w t u i seen key.0 x.key
  complete_elements w locals (tree.element None e c rest) t seen u i h =
      let x = whole_element w (no_key w t) (place_of e) (value_at e (judge w locals e)) (judge_elements w locals (Some t) seen rest) h in
      element (has_value (λ q. complete w locals e q) (value_was (place_of e) (judge w locals e).meaning x.value))
      (silent_fit w (place_of e) (Some x.kind) x.kind u refl (ap (λ z. misfit_if w (place_of e) (Some x.kind) (element_of z)) (sym i) ∙ x.silent))
      (complete_elements w locals rest t seen u i x.others)
