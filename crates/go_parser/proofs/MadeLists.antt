-- Lists with separators, as the grammar derives them, whatever their items are.
use Rattle.std.proofs.Common.{ℕ, ◌≡◌, List, [], ◌∷◌, ◌++◌, Option, Some, None, refl, sym, ◌∙◌, subst, append_assoc, arith, suc}
use Rattle.std.specs.List.{All}
use Rattle.std.specs.Option.{IsSome}
use Rattle.go_ast.specs.declared.syntax.Kind.{Kind}
use Rattle.go_ast.specs.declared.syntax.Kind.TheVariants as kind
use Rattle.go_ast.specs.declared.syntax.Token.{Token}
use Rattle.go_ast.specs.Grammar.{GrammarSymbol, Close, A, Item as Sort, GroupOf, Items, MoreItems, Single}
use Rattle.go_ast.specs.Language.{tested, untested, below}
use Rattle.go_ast.specs.Tree.{Item, Group, single, several}
use Rattle.go_ast.specs.Flatten.{sign, sign_if, all_tokens, list_tokens, group_tokens}
use Rattle.go_ast.specs.WellFormed.{IsSeparated, IsJoined, IsGroup}
use Rattle.go_parser.proofs.Predictive.{no}
use Rattle.go_parser.proofs.Values.{Closed, ItemOf}
use Rattle.go_parser.proofs.OneValue.{Values}
use Rattle.go_parser.proofs.Made.{Made, one, opens, closes, rule, along}
use Rattle.go_parser.proofs.FormedParts.{head_of, tail_of}

pub apart : (a b c d : List Token) → ((a ++ b) ++ c) ++ d ≡ a ++ (b ++ (c ++ d))
apart a b c d = append_assoc (a ++ b) c d ∙ append_assoc a b (c ++ d)

abbrev pub with_separator : {X : Type 0} → X → Option ℕ → Item X
with_separator x s = record { value = x; separator = s }

-- the items that may follow one with or without a separator, in a list whose last item has no separator
abbrev pub Behind : {X : Type 0} → Option ℕ → List (Item X) → Type 0
Behind s [] = s ≡ None
Behind s (y ∷ ys) = IsSome s × IsJoined (y ∷ ys)

pub behind_item : {X : Type 0} (x : Item X) (xs : List (Item X)) → IsJoined (x ∷ xs) → Behind x.separator xs
behind_item x [] j = j
behind_item x (y ∷ ys) j = j

some_no : (p : ℕ) → Some p ≡ None → ⊥
some_no p e = cc

-- M: the items after an item are derived, as a function of that item
pub joined_more : {X : Type 0} (P : X → Type 0) (f : X → List Token) (M : (X → List (Item X)) → List Token → Type 0) (ts : List Token) →
    M (λ x. with_separator x None ∷ []) ts →
    ((p : ℕ) (y : X) → P y → (g : X → List (Item X)) (us : List Token) → M g us → M (λ x. with_separator x (Some p) ∷ g y) (sign kind.Comma p ∷ (f y ++ us))) →
    (s : Option ℕ) (xs : List (Item X)) → Behind s xs → All (λ x. P x.value) xs →
    M (λ x. with_separator x s ∷ xs) (sign_if kind.Comma s ++ (list_tokens kind.Comma f xs ++ ts))
unfolding all_tokens
joined_more P f M ts end more None [] b a = end
joined_more P f M ts end more (Some p) [] b a = absurd (some_no p b)
joined_more P f M ts end more None (y ∷ ys) b a = absurd (no b.0)
joined_more P f M ts end more (Some p) (y ∷ ys) b a =
    subst (λ us. M (λ x. with_separator x (Some p) ∷ (y ∷ ys)) (sign kind.Comma p ∷ us))
    (sym (apart (f y.value) (sign_if kind.Comma y.separator) (list_tokens kind.Comma f ys) ts))
    (more p y.value (head_of (λ x. P x.value) y ys a) (λ x. with_separator x y.separator ∷ ys) _
    (joined_more P f M ts end more y.separator ys (behind_item y ys b.1) (tail_of (λ x. P x.value) y ys a)))

-- after an item of a list in brackets: its separator and the rest of the list, or the end
open_more : {X : Type 0} (f : X → List Token) (k : Kind) (c : ℕ) (M : Closed X → List Token → Type 0) (N : (X → Closed X) → List Token → Type 0)
    (ts : List Token) →
    ((p : ℕ) (xs : List (Item X)) (us : List Token) → M (xs, c) us → N (λ x. (with_separator x (Some p) ∷ xs, c)) (sign k p ∷ us)) →
    N (λ x. (with_separator x None ∷ [], c)) ts →
    (s : Option ℕ) (xs : List (Item X)) → (s ≡ None → xs ≡ []) → M (xs, c) (list_tokens k f xs ++ ts) →
    N (λ x. (with_separator x s ∷ xs, c)) (sign_if k s ++ (list_tokens k f xs ++ ts))
unfolding all_tokens
open_more f k c M N ts more last (Some p) xs q m = more p xs _ m
open_more f k c M N ts more last None xs q m =
    subst (λ ys. N (λ x. (with_separator x None ∷ ys, c)) (list_tokens k f ys ++ ts)) (sym (q refl)) last

-- M: the rest of a list is derived, up to its bracket; N: the rest after an item is derived
pub open_list : {X : Type 0} (P : X → Type 0) (f : X → List Token) (k : Kind) (c : ℕ) (M : Closed X → List Token → Type 0)
    (N : (X → Closed X) → List Token → Type 0) (ts : List Token) →
    M ([], c) ts →
    ((x : X) → P x → (g : X → Closed X) (us : List Token) → N g us → M (g x) (f x ++ us)) →
    ((p : ℕ) (xs : List (Item X)) (us : List Token) → M (xs, c) us → N (λ x. (with_separator x (Some p) ∷ xs, c)) (sign k p ∷ us)) →
    N (λ x. (with_separator x None ∷ [], c)) ts →
    (xs : List (Item X)) → IsSeparated xs → All (λ x. P x.value) xs → M (xs, c) (list_tokens k f xs ++ ts)
unfolding all_tokens
open_list P f k c M N ts empty item more last [] s a = empty
open_list P f k c M N ts empty item more last (x ∷ xs) s a =
    subst (λ us. M (x ∷ xs, c) us) (sym (apart (f x.value) (sign_if k x.separator) (list_tokens k f xs) ts))
    (item x.value (head_of (λ x. P x.value) x xs a) (λ y. (with_separator y x.separator ∷ xs, c)) _
    (open_more f k c M N ts more last x.separator xs s.0 (open_list P f k c M N ts empty item more last xs s.1 (tail_of (λ x. P x.value) x xs a))))

-- a group in parentheses, or one item
pub made_group : (i : Sort) (P : ItemOf i → Type 0) (f : ItemOf i → List Token) →
    ((x : ItemOf i) → P x → (ss : List GrammarSymbol) (vs : Values ss) (ts : List Token) → Made ss vs ts → Made (A (Single i) ∷ ss) (x, vs) (f x ++ ts)) →
    (g : Group (ItemOf i)) → IsGroup P g → {ss : List GrammarSymbol} {vs : Values ss} {ts : List Token} → Made ss vs ts →
    Made (A (GroupOf i) ∷ ss) (g, vs) (group_tokens f g ++ ts)
unfolding group_tokens
made_group i P f make (single x) w m = rule (below untested) (make x w _ _ _ m) refl
made_group i P f make (several o xs c) w {ss = ss} {vs = vs} {ts = ts} m =
    rule tested (opens refl (along (append_assoc (list_tokens kind.Semicolon f xs) (sign kind.RightParen c ∷ []) ts)
    (open_list P f kind.Semicolon c
    (λ r us. Made (A (Items i) ∷ Close ∷ ss) (r, vs) us) (λ g us. Made (A (MoreItems i) ∷ Close ∷ ss) (g, vs) us) (sign kind.RightParen c ∷ ts)
    (rule tested (one refl (closes m)) refl)
    (λ x h g us n. rule (below untested) (make x h _ _ _ n) refl)
    (λ p ys us n. rule tested (one refl n) refl)
    (rule (below untested) (one refl (closes m)) refl)
    xs w.separated w.each))) refl
