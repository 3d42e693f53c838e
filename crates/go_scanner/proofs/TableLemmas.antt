-- Facts computed from the tables of operators and keywords.
use Rattle.std.proofs.Common.{cond, eqb, sym, ap, ◌∙◌}
use Rattle.go_scanner.specs.Operators.{operator_spelling}
use Rattle.go_scanner.specs.Keywords.{keyword_spelling}
use Rattle.std.proofs.Common.{◌≡◌, ℕ, zero, suc, ◌<◌, List, [], ◌∷◌, Bool, true, ◌&&◌, refl, subst, length, get_or, arith, lit<}
use Rattle.std.specs.Prelude.{nat_le}
use Rattle.std.specs.List.{list_all}
use borrow.Author.Tests.{eqb-true}
use Rattle.std.specs.Str.{bytes_eq}
use Rattle.std.proofs.lemmas.List.{get_or_default}
use Rattle.std.proofs.lemmas.Bool.{and_parts}
use Rattle.go_scanner.specs.declared.operators.Operator.{Operator}
use Rattle.go_scanner.specs.declared.operators.Operator.TheVariants as op
use Rattle.go_scanner.specs.declared.keywords.Keyword.{Keyword}
use Rattle.go_scanner.specs.declared.keywords.Keyword.TheVariants as kw
use Rattle.go_scanner.specs.Operators.{all_operators}
use Rattle.go_scanner.specs.Keywords.{all_keywords}

-- a list has an element at some place
pub record Listed {X : Type 0} (xs : List X) (x : X) : Type 0 where
  pub place : ℕ
  pub is : get_or xs place x ≡ x
  pub fits : place < length xs

pub operator_listed : (o : Operator) → Listed all_operators o
operator_listed op.ShiftLeftAssign = record { place = 0; is = refl; fits = lit< tt }
operator_listed op.ShiftRightAssign = record { place = 1; is = refl; fits = lit< tt }
operator_listed op.Ellipsis = record { place = 2; is = refl; fits = lit< tt }
operator_listed op.AndNotAssign = record { place = 3; is = refl; fits = lit< tt }
operator_listed op.AddAssign = record { place = 4; is = refl; fits = lit< tt }
operator_listed op.AndAssign = record { place = 5; is = refl; fits = lit< tt }
operator_listed op.LogicalAnd = record { place = 6; is = refl; fits = lit< tt }
operator_listed op.Equal = record { place = 7; is = refl; fits = lit< tt }
operator_listed op.NotEqual = record { place = 8; is = refl; fits = lit< tt }
operator_listed op.SubtractAssign = record { place = 9; is = refl; fits = lit< tt }
operator_listed op.OrAssign = record { place = 10; is = refl; fits = lit< tt }
operator_listed op.LogicalOr = record { place = 11; is = refl; fits = lit< tt }
operator_listed op.LessEqual = record { place = 12; is = refl; fits = lit< tt }
operator_listed op.MultiplyAssign = record { place = 13; is = refl; fits = lit< tt }
operator_listed op.XorAssign = record { place = 14; is = refl; fits = lit< tt }
operator_listed op.Arrow = record { place = 15; is = refl; fits = lit< tt }
operator_listed op.GreaterEqual = record { place = 16; is = refl; fits = lit< tt }
operator_listed op.ShiftLeft = record { place = 17; is = refl; fits = lit< tt }
operator_listed op.DivideAssign = record { place = 18; is = refl; fits = lit< tt }
operator_listed op.Increment = record { place = 19; is = refl; fits = lit< tt }
operator_listed op.Define = record { place = 20; is = refl; fits = lit< tt }
operator_listed op.ShiftRight = record { place = 21; is = refl; fits = lit< tt }
operator_listed op.RemainderAssign = record { place = 22; is = refl; fits = lit< tt }
operator_listed op.Decrement = record { place = 23; is = refl; fits = lit< tt }
operator_listed op.AndNot = record { place = 24; is = refl; fits = lit< tt }
operator_listed op.Add = record { place = 25; is = refl; fits = lit< tt }
operator_listed op.And = record { place = 26; is = refl; fits = lit< tt }
operator_listed op.LeftParen = record { place = 27; is = refl; fits = lit< tt }
operator_listed op.RightParen = record { place = 28; is = refl; fits = lit< tt }
operator_listed op.Subtract = record { place = 29; is = refl; fits = lit< tt }
operator_listed op.Or = record { place = 30; is = refl; fits = lit< tt }
operator_listed op.Less = record { place = 31; is = refl; fits = lit< tt }
operator_listed op.LeftBracket = record { place = 32; is = refl; fits = lit< tt }
operator_listed op.RightBracket = record { place = 33; is = refl; fits = lit< tt }
operator_listed op.Multiply = record { place = 34; is = refl; fits = lit< tt }
operator_listed op.Xor = record { place = 35; is = refl; fits = lit< tt }
operator_listed op.Greater = record { place = 36; is = refl; fits = lit< tt }
operator_listed op.LeftBrace = record { place = 37; is = refl; fits = lit< tt }
operator_listed op.RightBrace = record { place = 38; is = refl; fits = lit< tt }
operator_listed op.Divide = record { place = 39; is = refl; fits = lit< tt }
operator_listed op.Assign = record { place = 40; is = refl; fits = lit< tt }
operator_listed op.Comma = record { place = 41; is = refl; fits = lit< tt }
operator_listed op.Semicolon = record { place = 42; is = refl; fits = lit< tt }
operator_listed op.Remainder = record { place = 43; is = refl; fits = lit< tt }
operator_listed op.Not = record { place = 44; is = refl; fits = lit< tt }
operator_listed op.Period = record { place = 45; is = refl; fits = lit< tt }
operator_listed op.Colon = record { place = 46; is = refl; fits = lit< tt }
operator_listed op.Tilde = record { place = 47; is = refl; fits = lit< tt }

pub keyword_listed : (k : Keyword) → Listed all_keywords k
keyword_listed kw.Break = record { place = 0; is = refl; fits = lit< tt }
keyword_listed kw.Case = record { place = 1; is = refl; fits = lit< tt }
keyword_listed kw.Chan = record { place = 2; is = refl; fits = lit< tt }
keyword_listed kw.Const = record { place = 3; is = refl; fits = lit< tt }
keyword_listed kw.Continue = record { place = 4; is = refl; fits = lit< tt }
keyword_listed kw.Default = record { place = 5; is = refl; fits = lit< tt }
keyword_listed kw.Defer = record { place = 6; is = refl; fits = lit< tt }
keyword_listed kw.Else = record { place = 7; is = refl; fits = lit< tt }
keyword_listed kw.Fallthrough = record { place = 8; is = refl; fits = lit< tt }
keyword_listed kw.For = record { place = 9; is = refl; fits = lit< tt }
keyword_listed kw.Func = record { place = 10; is = refl; fits = lit< tt }
keyword_listed kw.Go = record { place = 11; is = refl; fits = lit< tt }
keyword_listed kw.Goto = record { place = 12; is = refl; fits = lit< tt }
keyword_listed kw.If = record { place = 13; is = refl; fits = lit< tt }
keyword_listed kw.Import = record { place = 14; is = refl; fits = lit< tt }
keyword_listed kw.Interface = record { place = 15; is = refl; fits = lit< tt }
keyword_listed kw.Map = record { place = 16; is = refl; fits = lit< tt }
keyword_listed kw.Package = record { place = 17; is = refl; fits = lit< tt }
keyword_listed kw.Range = record { place = 18; is = refl; fits = lit< tt }
keyword_listed kw.Return = record { place = 19; is = refl; fits = lit< tt }
keyword_listed kw.Select = record { place = 20; is = refl; fits = lit< tt }
keyword_listed kw.Struct = record { place = 21; is = refl; fits = lit< tt }
keyword_listed kw.Switch = record { place = 22; is = refl; fits = lit< tt }
keyword_listed kw.«Type» = record { place = 23; is = refl; fits = lit< tt }
keyword_listed kw.Var = record { place = 24; is = refl; fits = lit< tt }

-- a test of all elements, for one element
pub all_listed : {X : Type 0} (p : X → Bool) (xs : List X) (i : ℕ) (x : X) → list_all p xs ≡ true → i < length xs → get_or xs i x ≡ x → p x ≡ true
all_listed p [] i x all fits is = absurd (omega arith)
all_listed p (y ∷ ys) zero x all fits is = subst (λ z. p z ≡ true) is (and_parts (p y) (list_all p ys) all).0
all_listed p (y ∷ ys) (suc i) x all fits is = all_listed p ys i x (and_parts (p y) (list_all p ys) all).1 (omega arith) is

pub each_operator : (p : Operator → Bool) → list_all p all_operators ≡ true → (o : Operator) → p o ≡ true
each_operator p all o = let at = operator_listed o in all_listed p all_operators at.place o all at.fits at.is

pub each_keyword : (p : Keyword → Bool) → list_all p all_keywords ≡ true → (k : Keyword) → p k ≡ true
each_keyword p all k = let at = keyword_listed k in all_listed p all_keywords at.place k all at.fits at.is

-- the lengths don't rise
abbrev pub descends : {X : Type 0} → (X → ℕ) → List X → Bool
descends key [] = true
descends key (x ∷ xs) = list_all (λ y. nat_le (key y) (key x)) xs && descends key xs

-- the first place of a spelling in a table
abbrev pub place_of : {X : Type 0} → (X → List ℕ) → List X → List ℕ → ℕ
place_of key [] bs = 0
place_of key (x ∷ xs) bs = cond (bytes_eq (key x) bs) 0 (suc (place_of key xs bs))

operator_places : list_all (λ o. eqb (place_of operator_spelling all_operators (operator_spelling o)) (operator_listed o).place) all_operators ≡ true
unfolding operator_listed
operator_places = refl

keyword_places : list_all (λ k. eqb (place_of keyword_spelling all_keywords (keyword_spelling k)) (keyword_listed k).place) all_keywords ≡ true
unfolding keyword_listed
keyword_places = refl

-- each spelling is of one operator, and of one keyword
pub operator_same : (o q : Operator) → operator_spelling o ≡ operator_spelling q → o ≡ q
operator_same o q same =
    let place = λ (x : Operator). eqb-true _ _ (each_operator
    (λ x. eqb (place_of operator_spelling all_operators (operator_spelling x)) (operator_listed x).place) operator_places x) in
    let places : (operator_listed o).place ≡ (operator_listed q).place = sym (place o) ∙ ap (place_of operator_spelling all_operators) same ∙ place q in
    sym (operator_listed o).is ∙ ap (λ i. get_or all_operators i o) places ∙
    get_or_default all_operators (operator_listed q).place o q (operator_listed q).fits ∙ (operator_listed q).is

pub keyword_same : (k j : Keyword) → keyword_spelling k ≡ keyword_spelling j → k ≡ j
keyword_same k j same =
    let place = λ (x : Keyword). eqb-true _ _ (each_keyword
    (λ x. eqb (place_of keyword_spelling all_keywords (keyword_spelling x)) (keyword_listed x).place) keyword_places x) in
    let places : (keyword_listed k).place ≡ (keyword_listed j).place = sym (place k) ∙ ap (place_of keyword_spelling all_keywords) same ∙ place j in
    sym (keyword_listed k).is ∙ ap (λ i. get_or all_keywords i k) places ∙
    get_or_default all_keywords (keyword_listed j).place k j (keyword_listed j).fits ∙ (keyword_listed j).is
