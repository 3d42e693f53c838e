-- A search among the operators or keywords that begin with the right byte finds what a search among all does.
use Rattle.std.proofs.Common.{◌≡◌, ℕ, zero, suc, ◌<◌, ◌≤◌, List, [], ◌∷◌, Bool, true, false, cond, eqb, ltb, Option, Some, None, refl, sym, ap, ◌∙◌, subst}
use Rattle.std.proofs.Common.{length, take, get_or, arith, ⊎_elim, get_or-take, eq-eqb, ltb-true, lt-ltb}
use Rattle.std.specs.Prelude.{slice_index, nat_eq, find, filter, IfSome}
use Rattle.std.specs.List.{starts_with}
use Rattle.std.specs.Str.{bytes_eq}
use Rattle.std.specs.Cmp.Lexicographic.{same_text}
use Rattle.std.proofs.lemmas.Bool.{cases_lt, false≢true}
use Rattle.go_scanner.specs.declared.operators.Operator.{Operator}
use Rattle.go_scanner.specs.declared.keywords.Keyword.{Keyword}
use Rattle.go_scanner.specs.Operators.{operator_spelling, all_operators, operators_with, may_join}
use Rattle.go_scanner.specs.Keywords.{keyword_spelling, all_keywords, keywords_with, may_begin}
use Rattle.go_scanner.proofs.IntegerLemmas.{by_test}
use Rattle.go_scanner.proofs.TableLemmas.{each_operator, each_keyword, operator_listed, operator_same}

find_filtered : {X : Type 0} (p q : X → Bool) (xs : List X) → ((x : X) → p x ≡ true → q x ≡ true) → find p (filter q xs) ≡ find p xs
find_filtered p q [] passes = refl
find_filtered p q (x ∷ xs) passes =
    let rest = find_filtered p q xs passes in
    by_test (q x)
    (λ yes. rw yes (ap (λ r. cond (p x) (Some x) r) rest))
    (λ other. by_test (p x) (λ is. absurd (false≢true (sym other ∙ passes x is))) (λ not. rw (other, not) rest))

find_nothing : {X : Type 0} (p : X → Bool) (xs : List X) → ((x : X) → p x ≡ false) → None ≡ find p xs
find_nothing p [] fails = refl
find_nothing p (x ∷ xs) fails = rw (fails x) (find_nothing p xs fails)

operator_first : (bytes : List ℕ) (o : Operator) → starts_with nat_eq bytes (operator_spelling o) ≡ true →
    slice_index (operator_spelling o) 0 ≡ slice_index bytes 0
operator_first bytes o begins =
    let some : 0 < length (operator_spelling o) = ltb-true 0 (length (operator_spelling o))
    (each_operator (λ o. ltb 0 (length (operator_spelling o))) refl o) in
    let spelled : operator_spelling o ≡ take (length (operator_spelling o)) bytes = same_text _ _ (sym begins) in
    ap (λ l. slice_index l 0) spelled ∙ get_or-take (length (operator_spelling o)) bytes 0 0 some

keyword_first : (bytes : List ℕ) (k : Keyword) → bytes_eq (keyword_spelling k) bytes ≡ true → slice_index (keyword_spelling k) 0 ≡ slice_index bytes 0
keyword_first bytes k is = let spelled : keyword_spelling k ≡ bytes = same_text _ _ (sym is) in ap (λ l. slice_index l 0) spelled

pub operator_among : (bytes : List ℕ) (few : List Operator) (first : ℕ) (r : Option Operator) → first ≡ slice_index bytes 0 →
    operators_with first few ≡ operators_with first all_operators
    → r ≡ find (λ o. starts_with nat_eq bytes (operator_spelling o)) few → r ≡ find (λ o. starts_with nat_eq bytes (operator_spelling o)) all_operators
operator_among bytes few first r first_is same found =
    let p : Operator → Bool = λ o. starts_with nat_eq bytes (operator_spelling o) in
    let q : Operator → Bool = λ o. eqb (slice_index (operator_spelling o) 0) first in
    let passes : (o : Operator) → p o ≡ true → q o ≡ true = λ o begins.
    eq-eqb (slice_index (operator_spelling o) 0) first (operator_first bytes o begins ∙ sym first_is) in
    found ∙ sym (find_filtered p q few passes) ∙ ap (find p) same ∙ find_filtered p q all_operators passes

pub keyword_among : (bytes : List ℕ) (few : List Keyword) (first : ℕ) (r : Option Keyword) → first ≡ slice_index bytes 0 →
    keywords_with first few ≡ keywords_with first all_keywords
    → r ≡ find (λ k. bytes_eq (keyword_spelling k) bytes) few → r ≡ find (λ k. bytes_eq (keyword_spelling k) bytes) all_keywords
keyword_among bytes few first r first_is same found =
    let p : Keyword → Bool = λ k. bytes_eq (keyword_spelling k) bytes in
    let q : Keyword → Bool = λ k. eqb (slice_index (keyword_spelling k) 0) first in
    let passes : (k : Keyword) → p k ≡ true → q k ≡ true = λ k is.
    eq-eqb (slice_index (keyword_spelling k) 0) first (keyword_first bytes k is ∙ sym first_is) in
    found ∙ sym (find_filtered p q few passes) ∙ ap (find p) same ∙ find_filtered p q all_keywords passes

pub no_keyword : (bytes : List ℕ) (first second : ℕ) → first ≡ slice_index bytes 0 → second ≡ slice_index bytes 1 → may_begin first second ≡ false →
    None ≡ find (λ k. bytes_eq (keyword_spelling k) bytes) all_keywords
no_keyword bytes first second first_is second_is never =
    find_nothing (λ k. bytes_eq (keyword_spelling k) bytes) all_keywords
    (λ k. by_test (bytes_eq (keyword_spelling k) bytes)
    (λ is.
    let spelled : keyword_spelling k ≡ bytes = same_text _ _ (sym is) in
    let begins : may_begin (slice_index bytes 0) (slice_index bytes 1) ≡ true =
    subst (λ l. may_begin (slice_index l 0) (slice_index l 1) ≡ true) spelled
    (each_keyword (λ k. may_begin (slice_index (keyword_spelling k) 0) (slice_index (keyword_spelling k) 1)) refl k) in
    absurd (false≢true (sym never ∙ (rw (first_is, second_is) begins))))
    (λ not. not))

-- an element that is the only one to pass a test is the first that does
find_only : {X : Type 0} (p : X → Bool) (xs : List X) (i : ℕ) (x : X) → ((y : X) → p y ≡ true → y ≡ x) → p x ≡ true → i < length xs → get_or xs i x ≡ x →
    find p xs ≡ Some x
find_only p [] i x only is fits at = absurd (omega arith)
find_only p (y ∷ ys) zero x only is fits at = rw (subst (λ z. p z ≡ true) (sym at) is) (ap Some at)
find_only p (y ∷ ys) (suc i) x only is fits at =
    by_test (p y) (λ yes. rw yes (ap Some (only y yes))) (λ not. rw not (find_only p ys i x only is (omega arith) at))

list_of_one : (l : List ℕ) → 0 < length l → length l ≤ 1 → l ≡ slice_index l 0 ∷ []
list_of_one [] some short = absurd (omega (arith, some))
list_of_one (b ∷ []) some short = refl
list_of_one (b ∷ (c ∷ l)) some short = absurd (omega (arith, short))

-- where no operator of more bytes may begin, each operator that does is the first byte
operator_short : (bytes : List ℕ) (first second : ℕ) (o : Operator) → first ≡ slice_index bytes 0 → second ≡ slice_index bytes 1 →
    may_join first second ≡ false → starts_with nat_eq bytes (operator_spelling o) ≡ true → operator_spelling o ≡ first ∷ []
operator_short bytes first second o first_is second_is apart begins =
    let n = length (operator_spelling o) in
    let some : 0 < n = ltb-true 0 n (each_operator (λ o. ltb 0 (length (operator_spelling o))) refl o) in
    let spelled : operator_spelling o ≡ take n bytes = same_text _ _ (sym begins) in
    let first_of : slice_index (operator_spelling o) 0 ≡ first = operator_first bytes o begins ∙ sym first_is in
    ⊎_elim
    (λ (more : 1 < n).
    let second_of : slice_index (operator_spelling o) 1 ≡ second = ap (λ l. slice_index l 1) spelled ∙ get_or-take n bytes 1 0 more ∙ sym second_is in
    let joins : may_join (slice_index (operator_spelling o) 0) (slice_index (operator_spelling o) 1) ≡ true =
    rw (lt-ltb 1 n more) at (each_operator
    (λ o. cond (ltb 1 (length (operator_spelling o))) (may_join (slice_index (operator_spelling o) 0) (slice_index (operator_spelling o) 1)) true) refl o) in
    absurd (false≢true (sym apart ∙ (rw (first_of, second_of) at joins))))
    (λ (short : n ≤ 1). list_of_one (operator_spelling o) some short ∙ ap (λ b. b ∷ []) first_of)
    (cases_lt 1 n)

begins_short : (bytes : List ℕ) (first : ℕ) → 0 < first → first ≡ slice_index bytes 0 → starts_with nat_eq bytes (first ∷ []) ≡ true
begins_short [] first some is = absurd (omega (arith, some, is))
begins_short (b ∷ bytes) first some is = rw (eq-eqb first b is) refl

operator_alone : (bytes : List ℕ) (first second : ℕ) (o : Operator) → first ≡ slice_index bytes 0 → second ≡ slice_index bytes 1 →
    may_join first second ≡ false → operator_spelling o ≡ first ∷ [] →
    find (λ o. starts_with nat_eq bytes (operator_spelling o)) all_operators ≡ Some o
operator_alone bytes first second o first_is second_is apart spelled =
    let at = operator_listed o in
    let some : 0 < first = omega (
      arith,
      ltb-true 0 (slice_index (operator_spelling o) 0)
          (each_operator (λ o. ltb 0 (slice_index (operator_spelling o) 0)) refl o),
      ap (λ l. slice_index l 0) spelled,
    ) in
    find_only (λ o. starts_with nat_eq bytes (operator_spelling o)) all_operators at.place o
    (λ x begins. operator_same x o (operator_short bytes first second x first_is second_is apart begins ∙ sym spelled))
    (ap (starts_with nat_eq bytes) spelled ∙ begins_short bytes first some first_is) at.fits at.is

pub short_found : (bytes : List ℕ) (first second : ℕ) (r : Option Operator) → first ≡ slice_index bytes 0 → second ≡ slice_index bytes 1 →
    may_join first second ≡ false → IfSome r (λ o. operator_spelling o ≡ first ∷ []) →
    IfSome r (λ o. find (λ o. starts_with nat_eq bytes (operator_spelling o)) all_operators ≡ Some o)
short_found bytes first second None first_is second_is apart spelled = tt
short_found bytes first second (Some o) first_is second_is apart spelled = operator_alone bytes first second o first_is second_is apart spelled
