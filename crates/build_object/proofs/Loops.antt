-- Loops that go over a list from its front or from its end.
use Rattle.std.proofs.Common.{ℕ, ◌≡◌, ◌+◌, ◌-◌, ◌<◌, ◌≤◌, ◌∷◌, ◌++◌, [], List, ap, sym, ◌∙◌, refl, append_assoc, append-nil, length, drop, take, map}
use Rattle.std.proofs.Common.{get_or, arith, zero, suc}
use Rattle.std.proofs.Math.ListN.{drop_of_length-le}
use Rattle.std.proofs.lemmas.List.{map-append, take_more}
use Rattle.go_ast.specs.Tree.{Item}
use Rattle.types_expr.proofs.Items.{next_item}
use Rattle.build_object.proofs.Links.{same_item}
use Rattle.build_object.specs.Statements.{from_last}
use Rattle.build_object.specs.declared.code.Code.{Code}
use Rattle.build_object.specs.Lines.{CodeLine}
use Rattle.build_object.specs.LineView.{Puts}
use Rattle.build_object.proofs.Putting.{puts_as, puts_then}

-- From the front: what was added so far, with what the rest adds, is the whole. F: what a list adds, f: what an item adds.

pub rest_step : {X Y : Type 0} (F : List X → List Y) (f : X → List Y) → ((x : X) (xs : List X) → F (x ∷ xs) ≡ f x ++ F xs) →
    (total now new : List Y) (xs : List X) (i : ℕ) (x : X) →
    i < length xs → x ≡ get_or xs i x → now ++ F (drop i xs) ≡ total → new ≡ now ++ f x → new ++ F (drop (i + 1) xs) ≡ total
rest_step F f step total now new xs i x lt is h e =
    ap (λ z. z ++ F (drop (i + 1) xs)) e ∙ (append_assoc now (f x) (F (drop (i + 1) xs))
    ∙ (ap (λ z. now ++ z) (sym (ap F (next_item xs i x lt is) ∙ step x (drop (i + 1) xs))) ∙ h))

pub rest_end : {X Y : Type 0} (F : List X → List Y) → F [] ≡ [] → (total now : List Y) (xs : List X) (i : ℕ) → length xs ≤ i →
    now ++ F (drop i xs) ≡ total → now ≡ total
rest_end F none total now xs i h e = sym (append-nil now) ∙ (ap (λ z. now ++ z) (sym (ap F (drop_of_length-le xs h) ∙ none)) ∙ e)

-- From the end: the lines of the items behind were put.

pub back_step : {X : Type 0} (F : List X → List CodeLine) (f : X → List CodeLine) → ((x : X) (xs : List X) → F (x ∷ xs) ≡ f x ++ F xs) →
    {old mid new : Code} (xs : List X) (i : ℕ) (x : X) →
    i < length xs → x ≡ get_or xs i x → Puts (F (drop (i + 1) xs)) old mid → Puts (f x) mid new → Puts (F (drop i xs)) old new
back_step F f step xs i x lt is p q = puts_as (ap F (next_item xs i x lt is) ∙ step x (drop (i + 1) xs)) (puts_then p q)

-- the same in a loop whose numbers fall
pub back_turn : {X : Type 0} (F : List X → List CodeLine) (f : X → List CodeLine) → ((x : X) (xs : List X) → F (x ∷ xs) ≡ f x ++ F xs) →
    {old mid new : Code} (xs : List X) (i : ℕ) (x : X) →
    0 < i → i - 1 < length xs → x ≡ get_or xs (i - 1) x → Puts (F (drop i xs)) old mid → Puts (f x) mid new → Puts (F (drop (i - 1) xs)) old new
back_turn F f step xs i x some lt is p q = let e : i - 1 + 1 ≡ i = omega arith in
    back_step F f step xs (i - 1) x lt is (puts_as (ap (λ k. F (drop k xs)) e) p) q

pub back_end : {X : Type 0} (xs : List X) (i : ℕ) → i ≤ 0 → drop i xs ≡ xs
back_end xs i none = let e : i ≡ 0 = omega arith in ap (λ k. drop k xs) e

pub back_start : {X : Type 0} (xs : List X) (i : ℕ) → length xs ≤ i → drop i xs ≡ []
back_start xs i all = drop_of_length-le xs all

-- What is done for a list from its last item on, put in a loop from its front

pub from_last_none : {Y : Type 0} (f : Y → List CodeLine) → from_last f [] ≡ []
unfolding from_last
from_last_none f = refl

from_last_more : {Y : Type 0} (f : Y → List CodeLine) (xs : List (Item Y)) (x : Item Y) → from_last f (xs ++ (x ∷ [])) ≡ f x.value ++ from_last f xs
unfolding from_last
from_last_more f [] x = sym (append-nil (f x.value))
from_last_more f (y ∷ ys) x = ap (λ z. z ++ f y.value) (from_last_more f ys x) ∙ append_assoc (f x.value) (from_last f ys) (f y.value)

pub taken_step : {X Y : Type 0} (f : Y → List CodeLine) (view : X → Item Y) {old mid new : Code} (xs : List X) (i : ℕ) (x : X) → i < length xs →
    x ≡ get_or xs i x →
    Puts (from_last f (map view (take i xs))) old mid → Puts (f (view x).value) mid new → Puts (from_last f (map view (take (i + 1) xs))) old new
taken_step f view xs i x lt is p q =
    puts_as (ap (λ ys. from_last f (map view ys)) (take_more xs i x lt ∙ ap (λ y. take i xs ++ (y ∷ [])) (sym is)) ∙
    (ap (from_last f) (map-append view (take i xs) (x ∷ [])) ∙ from_last_more f (map view (take i xs)) (view x))) (puts_then p q)

-- the item of a number without a name

pub taken_at : {X Y : Type 0} (f : Y → List CodeLine) (view : X → Item Y) {old mid new : Code} (xs : List X) (i : ℕ) (d : X) → i < length xs →
    Puts (from_last f (map view (take i xs))) old mid → Puts (f (view (get_or xs i d)).value) mid new → Puts (from_last f (map view (take (i + 1) xs))) old new
taken_at f view xs i d lt p q = taken_step f view xs i (get_or xs i d) lt (same_item xs i d (get_or xs i d) lt) p q

item_at : {X : Type 0} (xs : List X) (n : ℕ) → n < length xs → (x : X) × (x ≡ get_or xs n x)
item_at [] n lt = let no : ⊥ = omega arith in absurd no
item_at (x ∷ xs) zero lt = (x, refl)
item_at (x ∷ xs) (suc n) lt = item_at xs n (omega arith)

-- the same lines for each item
pub back_alike : {X : Type 0} (F : List X → List CodeLine) (z : List CodeLine) → ((x : X) (xs : List X) → F (x ∷ xs) ≡ z ++ F xs) →
    {old mid new : Code} (xs : List X) (i : ℕ) →
    0 < i → i - 1 < length xs → Puts (F (drop i xs)) old mid → Puts z mid new → Puts (F (drop (i - 1) xs)) old new
back_alike F z step xs i some lt p q = let it = item_at xs (i - 1) lt in back_turn F (λ x. z) step xs i it.0 some lt it.1 p q

pub rest_at : {X Y : Type 0} (F : List X → List Y) (f : X → List Y) → ((x : X) (xs : List X) → F (x ∷ xs) ≡ f x ++ F xs) →
    (total now new : List Y) (xs : List X) (i : ℕ) (d : X) →
    i < length xs → now ++ F (drop i xs) ≡ total → new ≡ now ++ f (get_or xs i d) → new ++ F (drop (i + 1) xs) ≡ total
rest_at F f step total now new xs i d lt h e = rest_step F f step total now new xs i (get_or xs i d) lt (same_item xs i d (get_or xs i d) lt) h e

-- A list that is made item by item from its end, where each item adds an equal list.
pub rest_alike : {X Y : Type 0} (F : List X → List Y) (z : List Y) → ((x : X) (xs : List X) → F (x ∷ xs) ≡ z ++ F xs) →
    (total now new : List Y) (xs : List X) (i : ℕ) →
    i < length xs → now ++ F (drop i xs) ≡ total → new ≡ now ++ z → new ++ F (drop (i + 1) xs) ≡ total
rest_alike F z step total now new xs i lt h e = let it = item_at xs i lt in rest_step F (λ x. z) step total now new xs i it.0 lt it.1 h e
