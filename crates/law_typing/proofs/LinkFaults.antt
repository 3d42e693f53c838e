-- Links after an operand: their meanings, and the tokens where they break a rule.
use Rattle.std.proofs.Common.{ℕ, ◌≡◌, Bool, true, false, if◌then◌else◌, ◌⊎◌, inl, inr, [], ◌∷◌, ◌++◌, Option, Some, None, refl, sym, ap, ◌∙◌, subst, true≢false}
use Rattle.go_ast.specs.Tree.{ExprTree}
use Rattle.types_expr.specs.declared.types.Basic.TheVariants as basic
use Rattle.types_expr.specs.Places.{place_of}
use Rattle.types_expr.specs.Types.{PlainType, SliceOf, ValueKind, Typed, Untyped, Nil, Meaning}
use Rattle.types_expr.specs.Types.{Value, TypeName, Function, BuiltinName, Package, Results, Broken}
use Rattle.types_expr.specs.World.{World, Locals, underlying}
use Rattle.types_expr.specs.Operations.{class_of, is_int, element_of_kind}
use Rattle.types_expr.specs.Judge.{as_value, value_kind, means_or_wrong, member_meaning, select, select_member, bad_index, indexed, index_of, element_meaning}
use Rattle.types_expr.specs.Judge.{index_rule, judge, judge_value}
use Rattle.law_typing.specs.Operators.{IsBasic}
use Rattle.law_typing.specs.Names.{IsNotBroken}
use Rattle.law_typing.specs.Links.{SelectsMember, Indexes, element}
use Rattle.law_typing.specs.Meanings.{HasMeaning}
use Rattle.law_typing.specs.BrokenUses.{SelectsBroken, a_method, of_package}
use Rattle.law_typing.specs.Faults.{IsNoValue, IsNoOperand}
use Rattle.law_typing.proofs.Tests.{none_is_some}
use Rattle.law_typing.proofs.Judgements.{value_whole, value_kept}
use Rattle.law_typing.proofs.Classes.{class_true, is_of_int}
use Rattle.law_typing.proofs.Selecting.{selects_true, true_selects, indexes_true, true_indexes}
use Rattle.law_typing.proofs.BrokenRules.{no_fault, whole_or_broken, select_or_broken}
use Rattle.law_typing.proofs.Completeness.{complete, has_value, value_was, only_indexed}
use Rattle.law_typing.proofs.RuleFaults.{status, whole_status, index_each, no_slice_here}
use Rattle.law_typing.proofs.PartFaults.{element_slice}
use Rattle.law_typing.proofs.Values.{value_true}
use Rattle.law_typing.specs.ExpressionFaults.{NextMeaning, leads, leads_nowhere, from_nowhere, SelectsBy, IndexedBy, by_index, ValueBreaksAt}
use Rattle.law_typing.proofs.FaultLists.{HasToken, AreExactly, none_told, both_told, At, at_place, some_same, none_some}
use Rattle.law_typing.proofs.TypeFaults.{each_holds}
use Rattle.law_typing.proofs.ValueFaults.{as_value_told}

-- meanings that are not broken

pub status_is : (m : Meaning) {n : Meaning} → status m ≡ Some n → m ≡ n
status_is (Value k a) h = some_same h
status_is (TypeName t) h = some_same h
status_is (Function s) h = some_same h
status_is (BuiltinName b) h = some_same h
status_is Package h = some_same h
status_is (Results ts) h = some_same h
status_is Broken h = none_is_some _ h

pub status_whole : (m : Meaning) {n : Meaning} → status m ≡ Some n → IsNotBroken m
status_whole m h e = none_some (ap status e) h

pub status_none : (m : Meaning) → status m ≡ None → m ≡ Broken
status_none m h = elim (whole_or_broken m) [ inl n ↦ absurd (none_some h (whole_status m n)) | inr e ↦ e ]

-- the rule R relates m to r, where r is not broken, and m to nothing else
pub record IsRule (R : Meaning → Meaning → Type 0) (m r : Meaning) : Type 0 where
  pub only : (s : Meaning) → R m s → (r ≡ s) × IsNotBroken s
  pub holds : IsNotBroken r → IsNotBroken m × R m r

pub next_found : (R : Meaning → Meaning → Type 0) (m r : Meaning) → IsRule R m r → NextMeaning R (status m) (status r)
next_found R m r f = elim (whole_or_broken r) [
  | inl n ↦ let q = f.holds n in subst (λ z. NextMeaning R z (status r)) (sym (whole_status m q.0)) (subst (λ z. NextMeaning R (Some m) z) (sym
      (whole_status r n))
      (leads q.1))
  | inr b ↦ subst (λ z. NextMeaning R (status m) (status z)) (sym b) (elim (whole_or_broken m) [
    | inl n ↦ subst (λ z. NextMeaning R z None) (sym (whole_status m n)) (leads_nowhere (λ s h. let q = f.only s h in q.1 (sym q.0 ∙ b)))
    | inr c ↦ subst (λ z. NextMeaning R (status z) None) (sym c) from_nowhere
  ])
]

nowhere : (R : Meaning → Meaning → Type 0) (m r : Meaning) → IsRule R m r → ((s : Meaning) → R m s → ⊥) → None ≡ status r
nowhere R m r f n = elim (whole_or_broken r) [ inl x ↦ let q = f.holds x in absurd (n r q.1) | inr b ↦ sym (ap status b) ]

pub next_only : (R : Meaning → Meaning → Type 0) (m r : Meaning) → IsRule R m r → {q s : Option Meaning} → status m ≡ q → NextMeaning R q s → s ≡ status r
next_only R m r f e (leads {s = y} h) = let x = f.only y (subst (λ z. R z y) (sym (status_is m e)) h) in sym (whole_status y x.1) ∙ ap status (sym x.0)
next_only R m r f e (leads_nowhere n) = nowhere R m r f (λ s h. n s (subst (λ z. R z s) (status_is m e) h))
next_only R m r f e from_nowhere = elim (whole_or_broken r) [
  | inl x ↦ let q = f.holds x in absurd (q.0 (status_none m e))
  | inr b ↦ sym (ap status b)
]

-- selectors

pub selects_rule : (w : World) (locals : Locals) (place n : ℕ) (m : Meaning) → IsRule (SelectsBy w locals n) m (select w locals place n m).meaning
selects_rule w locals place n m = record {
  only = λ s h. let a = selects_true w locals place h in (a.meaning, a.whole);
  holds = λ x. true_selects w locals place n m x;
}

-- a selector after an operand of a given meaning breaks a rule at this token
pub data SelectorBreaks (w : World) (locals : Locals) (place n : ℕ) : Option Meaning → ℕ → Type 0 where
  misses : {k : ValueKind} {a : Bool} → ((s : Meaning) → SelectsMember w locals (Value k a) n s → ⊥) → (SelectsBroken w locals (Value k a) n → ⊥) →
      SelectorBreaks w locals place n (Some (Value k a)) n
  no_operand : {m : Meaning} → IsNoOperand m → SelectorBreaks w locals place n (Some m) place

broken_silent : (w : World) (locals : Locals) (place : ℕ) {m : Meaning} {name : ℕ} → SelectsBroken w locals m name → (select w locals place name m).faults ≡ []
unfolding select select_member
broken_silent w locals place (a_method {t} {a} {name} e) = ap (λ z. (means_or_wrong (member_meaning w t a z) name).faults) e
broken_silent w locals place (of_package n) = refl

value_place : {w : World} {locals : Locals} {place n p : ℕ} {k : ValueKind} {a : Bool} → SelectorBreaks w locals place n (Some (Value k a)) p → n ≡ p
value_place (misses f g) = refl
value_place {k = k} {a = a} (no_operand i) = absurd (i.0 k a refl)

value_misses : (w : World) (locals : Locals) (place n : ℕ) (k : ValueKind) (a : Bool) → (select w locals place n (Value k a)).faults ≡ n ∷ [] →
    AreExactly (n ∷ []) (SelectorBreaks w locals place n (Some (Value k a)))
value_misses w locals place n k a e = record {
  found = λ p h. elim h [
    | inl q ↦ subst (λ z. SelectorBreaks w locals place n (Some (Value k a)) z) q (misses (λ s x. let t = selects_true w locals place x in
        no_fault (sym e ∙ t.faultless)) (λ x. no_fault (sym e ∙ broken_silent w locals place x)))
    | inr x ↦ absurd x
  ];
  stands = λ p b. inl (value_place b);
}

silent_hits : {w : World} {locals : Locals} {place n p : ℕ} {k : ValueKind} {a : Bool} → (select w locals place n (Value k a)).faults ≡ [] →
    SelectorBreaks w locals place n (Some (Value k a)) p → ⊥
silent_hits {w} {locals} {place} {n} {k = k} {a = a} e (misses f g) = elim (select_or_broken w locals place n (Value k a) value_whole e) [
  | inl q ↦ let s = true_selects w locals place n (Value k a) q in f (select w locals place n (Value k a)).meaning s.1
  | inr u ↦ g u
]
silent_hits {k = k} {a = a} e (no_operand i) = i.0 k a refl

member_told : (w : World) (locals : Locals) (place n : ℕ) (t : PlainType) (a : Bool) (r : Option Meaning) → member_meaning w t a (w.member n t) ≡ r →
    AreExactly (means_or_wrong r n).faults (SelectorBreaks w locals place n (Some (Value (Typed t) a)))
unfolding select select_member
member_told w locals place n t a None e = value_misses w locals place n (Typed t) a (ap (λ z. (means_or_wrong z n).faults) e)
member_told w locals place n t a (Some x) e = none_told (λ p b. silent_hits (ap (λ z. (means_or_wrong z n).faults) e) b)

other_place : {w : World} {locals : Locals} {place n p : ℕ} {m : Meaning} → IsNoValue m → SelectorBreaks w locals place n (Some m) p → place ≡ p
other_place v (misses {k = k} {a = a} f g) = absurd (v k a refl)
other_place v (no_operand i) = refl

no_operand_told : (w : World) (locals : Locals) (place n : ℕ) (m : Meaning) → IsNoOperand m → AreExactly (place ∷ []) (SelectorBreaks w locals place n (Some m))
no_operand_told w locals place n m i = record {
  found = λ p h. elim h [ inl q ↦ subst (λ z. SelectorBreaks w locals place n (Some m) z) q (no_operand i) | inr x ↦ absurd x ];
  stands = λ p b. inl (other_place i.0 b);
}

package_fine : {w : World} {locals : Locals} {place n p : ℕ} → SelectorBreaks w locals place n (Some Package) p → ⊥
package_fine (no_operand i) = i.1 refl

pub selector_told : (w : World) (locals : Locals) (place n : ℕ) (m : Meaning) →
    AreExactly (select w locals place n m).faults (SelectorBreaks w locals place n (status m))
unfolding select select_member
selector_told w locals place n (Value (Typed t) a) = member_told w locals place n t a (member_meaning w t a (w.member n t)) refl
selector_told w locals place n (Value (Untyped b) a) = value_misses w locals place n (Untyped b) a refl
selector_told w locals place n (Value Nil a) = value_misses w locals place n Nil a refl
selector_told w locals place n (TypeName t) = no_operand_told w locals place n (TypeName t) ((λ k a h. cc), (λ h. cc))
selector_told w locals place n (Function s) = no_operand_told w locals place n (Function s) ((λ k a h. cc), (λ h. cc))
selector_told w locals place n (BuiltinName b) = no_operand_told w locals place n (BuiltinName b) ((λ k a h. cc), (λ h. cc))
selector_told w locals place n Package = none_told (λ p b. package_fine b)
selector_told w locals place n (Results ts) = no_operand_told w locals place n (Results ts) ((λ k a h. cc), (λ h. cc))
selector_told w locals place n Broken = none_told (λ p b. elim b [ ])

-- indexes

indexes_value : {w : World} {m s : Meaning} {k : ValueKind} → Indexes w m k s → (j : ValueKind) × (b : Bool) × (m ≡ Value j b)
indexes_value (element {t} {a = a} e i) = (Typed t, a, refl)

indexed_only : (w : World) (locals : Locals) (start place : ℕ) (e : ExprTree) (m s : Meaning) → IndexedBy w locals e m s →
    (index_of w start (place_of e) (as_value place m).meaning (judge_value w locals e).meaning).meaning ≡ s × IsNotBroken s
indexed_only w locals start place e m s (by_index {k} {a} h i) = let v = indexes_value i in
    let t = indexes_true w start (place_of e) a i in
    let x = value_true w locals e h in (
      ap (λ z. (index_of w start (place_of e) z (judge_value w locals e).meaning).meaning) (value_kept place v.2 ∙ sym v.2)
          ∙ (ap (λ z. (index_of w start (place_of e) m z).meaning) x.meaning ∙ t.meaning),
      t.whole,
    )

pub indexes_rule : (w : World) (locals : Locals) (start place : ℕ) (e : ExprTree) (m : Meaning) →
    IsRule (IndexedBy w locals e) m (index_rule w start place e (judge_value w locals e) m).meaning
indexes_rule w locals start place e m = record {
  only = λ s h. indexed_only w locals start place e m s h;
  holds = λ n. let i = true_indexes w start place (place_of e) m (judge_value w locals e).meaning n in (
    only_indexed w start place (place_of e) m (judge_value w locals e).meaning n,
    by_index (has_value (λ q. complete w locals e q) (value_was (place_of e) (judge w locals e).meaning i.2)) i.3,
  );
}

pub data IndexBreaks (w : World) (locals : Locals) (start place : ℕ) (e : ExprTree) : Option Meaning → ℕ → Type 0 where
  no_value_there : {m : Meaning} → IsNoValue m → IndexBreaks w locals start place e (Some m) place
  inside : {m : Option Meaning} {p : ℕ} → ValueBreaksAt w locals e p → IndexBreaks w locals start place e m p
  no_int_there : {m : Option Meaning} {k : ValueKind} {a : Bool} → HasMeaning w locals e (Value k a) → (IsBasic w k basic.Int → ⊥) →
      IndexBreaks w locals start place e m (place_of e)
  no_slice_there : {j k : ValueKind} {a b : Bool} → HasMeaning w locals e (Value k a) → IsBasic w k basic.Int → ((s : Meaning) → Indexes w (Value j b) k s →
      ⊥) →
      IndexBreaks w locals start place e (Some (Value j b)) start

record IsKnownNoValue (m : Meaning) : Type 0 where
  meaning : Meaning
  known : status m ≡ Some meaning
  is_none : IsNoValue meaning

record IsNoInt (w : World) (locals : Locals) (e : ExprTree) : Type 0 where
  kind : ValueKind
  addressable : Bool
  means : HasMeaning w locals e (Value kind addressable)
  is_none : IsBasic w kind basic.Int → ⊥

record IsNoSlice (w : World) (locals : Locals) (e : ExprTree) (m : Meaning) : Type 0 where
  operand : ValueKind
  variable : Bool
  known : status m ≡ Some (Value operand variable)
  kind : ValueKind
  addressable : Bool
  means : HasMeaning w locals e (Value kind addressable)
  is_int : IsBasic w kind basic.Int
  is_none : (s : Meaning) → Indexes w (Value operand variable) kind s → ⊥

int_index : (w : World) (start place : ℕ) (m : Meaning) (b : Bool) → b ≡ false → HasToken (indexed w start (if b then [] else (place ∷ [])) true m).faults place
unfolding indexed
int_index w start place m true e = absurd (true≢false e)
int_index w start place m false e = inl refl

not_int : (w : World) (k : ValueKind) → (IsBasic w k basic.Int → ⊥) → (b : Bool) → is_int (class_of w k) ≡ b → b ≡ false
not_int w k n true e = absurd (n (is_of_int w k e))
not_int w k n false e = refl

no_int_stands : (w : World) (start place : ℕ) (m i : Meaning) {k : ValueKind} {a : Bool} → i ≡ Value k a → (IsBasic w k basic.Int → ⊥) →
    HasToken (index_of w start place m i).faults place
unfolding index_of bad_index value_kind
no_int_stands w start place m i {k} {a} e n = subst (λ z. HasToken (index_of w start place m z).faults place) (sym e) (int_index w start place m (is_int
    (class_of w k))
    (not_int w k n (is_int (class_of w k)) refl))

slice_of_kind : (w : World) (j : ValueKind) (u : PlainType) → element_of_kind w j ≡ Some u → (t : PlainType) × (j ≡ Typed t) × (underlying w t ≡ SliceOf u)
slice_of_kind w (Typed t) u e = (t, refl, element_slice (underlying w t) u e)
slice_of_kind w (Untyped b) u e = none_is_some u e
slice_of_kind w Nil u e = none_is_some u e

no_element_of : (w : World) (start : ℕ) (j k : ValueKind) (b : Bool) → IsBasic w k basic.Int → ((s : Meaning) → Indexes w (Value j b) k s → ⊥) →
    (o : Option PlainType) →
    element_of_kind w j ≡ o → HasToken (element_meaning o start).faults start
no_element_of w start j k b i n None e = inl refl
no_element_of w start j k b i n (Some u) e = let q = slice_of_kind w j u e in absurd (n (Value (Typed u) true) (subst (λ z. Indexes w (Value z b) k (Value
    (Typed u) true))
    (sym q.1) (element q.2 i)))

slice_index : (w : World) (start place : ℕ) (j k : ValueKind) (b : Bool) (c : Bool) → c ≡ true → HasToken (element_meaning (element_of_kind w j)
    start).faults start →
    HasToken (indexed w start (if c then [] else (place ∷ [])) true (Value j b)).faults start
unfolding indexed
slice_index w start place j k b true e h = h
slice_index w start place j k b false e h = absurd (true≢false (sym e))

no_slice_stands : (w : World) (start place : ℕ) (m i : Meaning) {j k : ValueKind} {a b : Bool} → m ≡ Value j b → i ≡ Value k a → IsBasic w k basic.Int →
    ((s : Meaning) → Indexes w (Value j b) k s → ⊥) → HasToken (index_of w start place m i).faults start
unfolding index_of bad_index value_kind
no_slice_stands w start place m i {j} {k} {a} {b} e f t n = subst (λ z. HasToken (index_of w start place z i).faults start) (sym e) (subst
    (λ z. HasToken (index_of w start place (Value j b) z).faults start) (sym f) (slice_index w start place j k b (is_int (class_of w k)) (ap is_int
    (class_true w t))
    (no_element_of w start j k b t n (element_of_kind w j) refl)))

int_stands : (w : World) (locals : Locals) (start : ℕ) (e : ExprTree) (m : Meaning) → IsNoInt w locals e →
    HasToken (index_of w start (place_of e) m (judge_value w locals e).meaning).faults (place_of e)
int_stands w locals start e m c = let x = value_true w locals e c.means in no_int_stands w start (place_of e) m
    (judge_value w locals e).meaning x.meaning c.is_none

slice_stands : (w : World) (locals : Locals) (start place : ℕ) (e : ExprTree) (m : Meaning) → IsNoSlice w locals e m →
    HasToken (index_of w start (place_of e) (as_value place m).meaning (judge_value w locals e).meaning).faults start
slice_stands w locals start place e m c = let x = value_true w locals e c.means in
    no_slice_stands w start (place_of e) (as_value place m).meaning (judge_value w locals e).meaning (value_kept place
    (status_is m c.known)) x.meaning c.is_int c.is_none

index_ends : (w : World) (locals : Locals) (start place : ℕ) (e : ExprTree) (m : Meaning) →
    AreExactly (index_of w start (place_of e) (as_value place m).meaning (judge_value w locals e).meaning).faults
    (λ p. At (place_of e) (IsNoInt w locals e) p ⊎ At start (IsNoSlice w locals e m) p)
index_ends w locals start place e m = let V = (judge_value w locals e).meaning in
    let M = (as_value place m).meaning in record {
      found = each_holds (λ p. At (place_of e) (IsNoInt w locals e) p ⊎ At start (IsNoSlice w locals e m) p) (index_of w start (place_of e) M V).faults
          (index_each (λ p. At (place_of e) (IsNoInt w locals e) p ⊎ At start (IsNoSlice w locals e m) p) w start (place_of e) M V
          (λ k a h n. inl (
            refl,
            record {
              kind = k;
              addressable = a;
              means = has_value (λ q. complete w locals e q) (value_was (place_of e) (judge w locals e).meaning h);
              is_none = n;
            },
          )) (λ j k b a h i t none. inr (
            refl,
            record {
              operand = j;
              variable = b;
              known = ap status (value_was place m h);
              kind = k;
              addressable = a;
              means = has_value (λ q. complete w locals e q) (value_was (place_of e) (judge w locals e).meaning i);
              is_int = t;
              is_none = λ s x. no_slice_here x j b refl none;
            },
          )));
      stands = λ p b. elim b [
        | inl c ↦ subst (λ z. HasToken (index_of w start (place_of e) M V).faults z) c.0 (int_stands w locals start e M c.1)
        | inr c ↦ subst (λ z. HasToken (index_of w start (place_of e) M V).faults z) c.0 (slice_stands w locals start place e m c.1)
      ];
    }

index_cases : {w : World} {locals : Locals} {start place : ℕ} {e : ExprTree} (m : Meaning) {q : Option Meaning} {p : ℕ} → status m ≡ q →
    IndexBreaks w locals start place e q p → At place (IsKnownNoValue m) p ⊎ (ValueBreaksAt w locals e p ⊎ (At (place_of e) (IsNoInt w locals e) p ⊎
    At start (IsNoSlice w locals e m) p))
index_cases m h (no_value_there {m = n} v) = inl (refl, record { meaning = n; known = h; is_none = v })
index_cases m h (inside b) = inr (inl b)
index_cases m h (no_int_there {k = k} {a = a} v n) = inr (inr (inl (refl, record { kind = k; addressable = a; means = v; is_none = n })))
index_cases m h (no_slice_there {j = j} {k = k} {a = a} {b = b} v t n) = inr (inr (inr (
  refl,
  record {
    operand = j;
    variable = b;
    known = h;
    kind = k;
    addressable = a;
    means = v;
    is_int = t;
    is_none = n;
  },
)))

index_breaks : (w : World) (locals : Locals) (start place : ℕ) (e : ExprTree) (m : Meaning) (p : ℕ) → (ValueBreaksAt w locals e p ⊎
    (At (place_of e) (IsNoInt w locals e) p ⊎ At start (IsNoSlice w locals e m) p)) → IndexBreaks w locals start place e (status m) p
index_breaks w locals start place e m p (inl b) = inside b
index_breaks w locals start place e m p (inr (inl c)) = at_place (IndexBreaks w locals start place e (status m)) (λ x. no_int_there x.means x.is_none) p c
index_breaks w locals start place e m p (inr (inr c)) = at_place (IndexBreaks w locals start place e (status m)) (λ x. subst
    (λ z. IndexBreaks w locals start place e z start) (sym x.known) (no_slice_there x.means x.is_int x.is_none)) p c

known_no_value : (m : Meaning) → IsKnownNoValue m → IsNotBroken m × IsNoValue m
known_no_value m c = (status_whole m c.known, subst (λ z. IsNoValue z) (sym (status_is m c.known)) c.is_none)

pub index_told : (w : World) (locals : Locals) (start place : ℕ) (e : ExprTree) (m : Meaning) →
    AreExactly (judge_value w locals e).faults (ValueBreaksAt w locals e) →
    AreExactly (index_rule w start place e (judge_value w locals e) m).faults (IndexBreaks w locals start place e (status m))
index_told w locals start place e m v = let V = judge_value w locals e in
    let I = index_of w start (place_of e) (as_value place m).meaning V.meaning in
    both_told (as_value place m).faults (V.faults ++ I.faults) (as_value_told place m {C = IsKnownNoValue m} (λ n q. record {
      meaning = m;
      known = whole_status m n;
      is_none = q;
    }) (λ c. known_no_value m c)) (both_told V.faults I.faults {B = λ p. ValueBreaksAt w locals e p ⊎ (At (place_of e) (IsNoInt w locals e) p ⊎ At start
    (IsNoSlice w locals e m) p)}
    v (index_ends w locals start place e m) (λ p b. inl b) (λ p b. inr b) (λ p b. b)) (at_place (IndexBreaks w locals start place e (status m))
    (λ c. subst (λ z. IndexBreaks w locals start place e z place) (sym c.known) (no_value_there c.is_none))) (λ p b. index_breaks w locals start place e m p b)
    (λ p b. index_cases m refl b)
