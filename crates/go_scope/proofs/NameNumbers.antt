-- Numbers for names, found one after another. Declarations and bindings by numbers are those by names.
use Rattle.std.proofs.Common.{rules, ℕ, zero, suc, ◌≡◌, ◌+◌, ◌<◌, inl, inr, List, [], ◌∷◌, length, Bool, true, false, Option, Some, None, ap, sym}
use Rattle.std.proofs.Common.{◌∙◌, refl}
use Rattle.std.proofs.Common.{subst, arith}
use Rattle.std.specs.Prelude.{◌↔◌, slice_index_or}
use Rattle.std.proofs.lemmas.Bool.{cases_order}
use Rattle.indexmap.specs.IndexMap.{IndexMap, get}
use Rattle.go_scope.specs.contracts.numbering.NameBytesPartialEq.TheImpl as equal
use Rattle.go_scope.specs.declared.model.Identifier.{Identifier}
use Rattle.go_scope.specs.declared.model.Role.{Role}
use Rattle.go_scope.specs.declared.model.Role.TheVariants.{Use, Declaring, LeftName, Implied, NotLexical}
use Rattle.go_scope.specs.declared.numbering.NameBytes.{NameBytes}
use Rattle.go_scope.specs.Bindings.{Layout, Names, Declares, Counts, BindsAt, IsBoundTo, use_bound, own, is_use, is_left_name, may_declare}
use Rattle.go_scope.specs.ByToken.{IsFirstBelow}
use Rattle.go_scope.specs.Contents.{IsBinding, AreBound}
use Rattle.go_scope.specs.Numbering.{is_lexical, IsLexical, HasName, AreFirsts, numerals, Distinguish}
use Rattle.go_scope.specs.Table.{layout_of, names_of, IsFirstOf}
use Rattle.go_scope.proofs.TokenRows.{widen, widen_found}

-- one more number, where an earlier identifier has the name
still : (P : ℕ → Type 0) (n v : ℕ) (o : Option ℕ) → v < n → P v → IsFirstBelow P n o → IsFirstBelow P (n + 1) o
still P n v None lt p h = absurd (h v lt p)
still P n v (Some u) lt p h = widen_found P n u h

module _ (l : Layout) (names : Names) (u : ℕ) (own : List ℕ) (is : names u ≡ own) where
  -- one more identifier, whose name is known
  later_by : (key : List ℕ) (first : ℕ) (o : Option ℕ) (b : Bool) → (b ≡ true → own ≡ key) × (own ≡ key → b ≡ true) → IsFirstOf (HasName l names own) u first →
      IsFirstBelow (HasName l names key) u o → IsFirstBelow (HasName l names key) (u + 1) o
  later_by key first o true d f h = still (HasName l names key) u first o f.within (f.holds.0, f.holds.1 ∙ d.0 refl) h
  later_by key first o false d f h = widen (HasName l names key) u o (λ has. let t : false ≡ true = d.1 (sym is ∙ has.1) in cc) h

equal_bytes : (x y : NameBytes) → equal.ghosts.eq x y ≡ true ↔ (x.bytes.now ≡ y.bytes.now)
equal_bytes x y = search rules

module _ {S : Type 0} (l : Layout) (names : Names) (u : ℕ) (firsts : IndexMap NameBytes ℕ S) (name : NameBytes) (is : name.bytes.now ≡ names u)
    (h : AreFirsts l names u firsts) where
  found_here : (first : ℕ) → get equal.ghosts.eq firsts name ≡ Some first → IsFirstOf (HasName l names name.bytes.now) u first
  found_here first e = let P : Option ℕ → Type 0 = λ o. IsFirstBelow (HasName l names name.bytes.now) u o in subst P e (h name)

  -- the name is entered
  pub firsts_later : (first : ℕ) → get equal.ghosts.eq firsts name ≡ Some first → AreFirsts l names (u + 1) firsts
  firsts_later first e key =
      later_by l names u name.bytes.now (sym is) key.bytes.now first (get equal.ghosts.eq firsts key) (equal.ghosts.eq name key) (equal_bytes name key)
      (found_here first e) (h key)

  pub number_later : (first : ℕ) → get equal.ghosts.eq firsts name ≡ Some first → IsFirstOf (HasName l names (names u)) (u + 1) first
  number_later first e =
      let P : List ℕ → Type 0 = λ n. IsFirstOf (HasName l names n) (u + 1) first in
      subst P is (widen_found (HasName l names name.bytes.now) u first (found_here first e))

-- a name that is not looked up is not entered
pub firsts_skip : {S : Type 0} (l : Layout) (names : Names) (u : ℕ) (firsts : IndexMap NameBytes ℕ S) → (IsLexical l u → ⊥) → AreFirsts l names u firsts →
    AreFirsts l names (u + 1) firsts
firsts_skip l names u firsts none h key = widen (HasName l names key.bytes.now) u (get equal.ghosts.eq firsts key) (λ has. none has.0) (h key)

-- two names have the same number exactly if they are equal
pub told_apart : (l : Layout) (names : Names) (d e x y : ℕ) → IsFirstOf (HasName l names (names d)) (d + 1) x →
    IsFirstOf (HasName l names (names e)) (e + 1) y → (x ≡ y) ↔ (names d ≡ names e)
told_apart l names d e x y f g = (
  (λ same. sym f.holds.1 ∙ ap names same ∙ g.holds.1),
  (λ same. elim (cases_order x y) [
    | inl z ↦ z
    | inr o ↦ elim o [
      | inl less ↦ absurd (g.first x less (f.holds.0, f.holds.1 ∙ same))
      | inr more ↦ absurd (f.first y more (g.holds.0, g.holds.1 ∙ sym same))
    ]
  ]),
)

lexical_in_range : (xs : List Identifier) (d : ℕ) → IsLexical (layout_of xs) d → d < length xs
lexical_in_range [] d m = cc
lexical_in_range (x ∷ xs) zero m = omega arith
lexical_in_range (x ∷ xs) (suc d) m = let less : d < length xs = lexical_in_range xs d m in omega arith

-- two names that are looked up are equal in m exactly if they are equal in n
abbrev pub Agree : Layout → Names → Names → Type 0
Agree l m n = (d e : ℕ) → IsLexical l d → IsLexical l e → (m d ≡ m e) ↔ (n d ≡ n e)

abbrev pub head_of : List ℕ → ℕ
head_of [] = 0
head_of (n ∷ ns) = n

pub numbers_agree : (xs : List Identifier) (numbers : List ℕ) → Distinguish (layout_of xs) (names_of xs) (length xs) numbers →
    Agree (layout_of xs) (numerals numbers) (names_of xs)
numbers_agree xs numbers h d e dl el =
    let t = h d e (lexical_in_range xs d dl) (lexical_in_range xs e el) dl el in
    ((λ same. t.0 (ap head_of same)), (λ same. ap (λ n. n ∷ []) (t.1 same)))

may_lexical : (r : Role) → may_declare r ≡ true → is_lexical r ≡ true
may_lexical Use m = refl
may_lexical (Declaring b s) m = refl
may_lexical (LeftName b s) m = refl
may_lexical (Implied b s) m = refl
may_lexical (NotLexical p) m = m

use_lexical : (r : Role) → is_use r ≡ true → is_lexical r ≡ true
use_lexical Use m = refl
use_lexical (Declaring b s) m = refl
use_lexical (LeftName b s) m = refl
use_lexical (Implied b s) m = refl
use_lexical (NotLexical p) m = m

left_lexical : (r : Role) → is_left_name r ≡ true → is_lexical r ≡ true
left_lexical Use m = refl
left_lexical (Declaring b s) m = refl
left_lexical (LeftName b s) m = refl
left_lexical (Implied b s) m = refl
left_lexical (NotLexical p) m = m

agree_back : (l : Layout) (m n : Names) → Agree l m n → Agree l n m
agree_back l m n a d e dl el = let t = a d e dl el in (t.1, t.0)

declares_agree : (l : Layout) (m n : Names) → Agree l m n → (d : ℕ) → Declares l m d → Declares l n d
declares_agree l m n a d x = record {
  may = x.may;
  is_new = λ left e me se ne he. x.is_new left e me se ((a e d (may_lexical (l.role e) me) (may_lexical (l.role d) x.may)).1 ne) he;
}

counts_agree : (l : Layout) (m n : Names) → Agree l m n → (d : ℕ) → Counts l m d → Counts l n d
counts_agree l m n a d x = record {
  declares = declares_agree l m n a d x.declares;
  first = λ e de ne p. x.first e (declares_agree l n m (agree_back l m n a) e de)
      ((a e d (may_lexical (l.role e) de.may) (may_lexical (l.role d) x.declares.may)).1 ne) p;
}

binds_agree : (l : Layout) (m n : Names) → Agree l m n → (u d : ℕ) → IsLexical l u → BindsAt l m (m u) u d → BindsAt l n (n u) u d
binds_agree l m n a u d ul x = record {
  counts = counts_agree l m n a d x.counts;
  named = (a d u (may_lexical (l.role d) x.counts.declares.may) ul).0 x.named;
  in_scope = x.in_scope;
  innermost = λ e ce ne he i. x.innermost e (counts_agree l n m (agree_back l m n a) e ce)
      ((a e u (may_lexical (l.role e) ce.declares.may) ul).1 ne) he i;
}

bound_agree : (l : Layout) (m n : Names) → Agree l m n → (u d : ℕ) → IsBoundTo l m u d → IsBoundTo l n u d
bound_agree l m n a u d (use_bound (inl i) x) = use_bound (inl i) (binds_agree l m n a u d (use_lexical (l.role u) i) x)
bound_agree l m n a u d (use_bound (inr i) x) =
    use_bound (inr (i.0, λ y. i.1 (declares_agree l n m (agree_back l m n a) u y))) (binds_agree l m n a u d (left_lexical (l.role u) i.0) x)
bound_agree l m n a u d (own p c) = own p (counts_agree l m n a d c)

binding_agree : (l : Layout) (m n : Names) → Agree l m n → (u : ℕ) (bound : Option ℕ) → IsBinding l m u bound → IsBinding l n u bound
binding_agree l m n a u None h = λ d b. h d (bound_agree l n m (agree_back l m n a) u d b)
binding_agree l m n a u (Some d) h = bound_agree l m n a u d h

-- declarations and bindings by numbers are those by names
pub found_by_names : (xs : List Identifier) (numbers : List ℕ) (k : ℕ) (declaring : List Bool) (bound : List (Option ℕ)) →
    Distinguish (layout_of xs) (names_of xs) (length xs) numbers → AreBound (layout_of xs) (numerals numbers) k declaring bound →
    AreBound (layout_of xs) (names_of xs) k declaring bound
found_by_names xs numbers k declaring bound apart h =
    let l = layout_of xs in
    let m = numerals numbers in
    let n = names_of xs in
    let a = numbers_agree xs numbers apart in
    record {
      marks = record {
        sized = h.marks.sized;
        exact = λ d x lt. (
          (λ t. declares_agree l m n a d ((h.marks.exact d x lt).0 t)),
          (λ y. (h.marks.exact d x lt).1 (declares_agree l n m (agree_back l m n a) d y)),
        );
      };
      bindings = record {
        sized = h.bindings.sized;
        each = λ u x lt. binding_agree l m n a u (slice_index_or bound u x) (h.bindings.each u x lt);
      };
    }
