-- Lists that grow at their end, step by step.
use Rattle.std.proofs.Common.{ℕ, suc, ◌≡◌, ◌+◌, ◌<◌, List, [], ◌∷◌, ◌++◌, length, take, get_or, ap, subst, sym, ◌∙◌, append_assoc, append-nil, arith}
use Rattle.std.specs.Prelude.{map, Result, OnOk}
use Rattle.std.specs.List.{flat_map, enumerate_from}
use Rattle.std.proofs.Math.Seq.{take-suc, take-length}
use Rattle.std.proofs.Math.ListN.{get_or-map, length-map}
use Rattle.std.proofs.lemmas.List.{map-append}
use Rattle.std.proofs.lemmas.List.FromFn.{length-enumerate_from, get_or-enumerate_from}
use Rattle.std.proofs.lemmas.Grind.{flat_map-append}
use Rattle.std.proofs.lemmas.Result.{on_ok_weaker}
use Rattle.types_declared.specs.Appending.{Appends}

pub appends_none : {X Y : Type 0} (f : X → Y) (a : List X) → Appends f a a []
appends_none f a = record { added = sym (append-nil (map f a)) }

pub appends_as : {X Y : Type 0} (f : X → Y) (a b : List X) (xs ys : List Y) → Appends f a b xs → xs ≡ ys → Appends f a b ys
appends_as f a b xs ys h e = record { added = h.added ∙ ap (λ z. map f a ++ z) e }

appends_then : {X Y : Type 0} (f : X → Y) (a b c : List X) (xs ys : List Y) → Appends f a b xs → Appends f b c ys → Appends f a c (xs ++ ys)
appends_then f a b c xs ys h k = record { added = k.added ∙ ap (λ z. z ++ ys) h.added ∙ append_assoc (map f a) xs ys }

-- one item is pushed
pub appends_one : {X Y : Type 0} (f : X → Y) (a b : List X) (x : X) → b ≡ a ++ (x ∷ []) → Appends f a b (f x ∷ [])
appends_one f a b x e = record { added = ap (map f) e ∙ map-append f a (x ∷ []) }

-- The values appended for the items of a list before a loop's index

parts_take : {X Y : Type 0} (g : X → List Y) (xs : List X) (i : ℕ) (x : X) → i < length xs →
    flat_map g (take i xs) ++ g (get_or xs i x) ≡ flat_map g (take (i + 1) xs)
parts_take g xs i x lt =
    ap (λ z. flat_map g (take i xs) ++ z) (sym (append-nil (g (get_or xs i x)))) ∙
    sym (flat_map-append g (take i xs) (get_or xs i x ∷ [])) ∙ sym (ap (flat_map g) (take-suc xs i x lt)) ∙
    ap (λ k. flat_map g (take k xs)) (let e : suc i ≡ i + 1 = omega arith in e)

parts_all : {X Y : Type 0} (g : X → List Y) (xs : List X) (i : ℕ) → i ≡ length xs → flat_map g (take i xs) ≡ flat_map g xs
parts_all g xs i e = ap (λ k. flat_map g (take k xs)) e ∙ ap (flat_map g) (take-length xs)

pub appends_step : {X Y Z : Type 0} (f : X → Y) (a b c : List X) (g : Z → List Y) (zs : List Z) (i : ℕ) (d : Z) → i < length zs →
    Appends f a b (flat_map g (take i zs)) → Appends f b c (g (get_or zs i d)) → Appends f a c (flat_map g (take (i + 1) zs))
appends_step f a b c g zs i d lt h k =
    appends_as f a c (flat_map g (take i zs) ++ g (get_or zs i d)) (flat_map g (take (i + 1) zs))
    (appends_then f a b c (flat_map g (take i zs)) (g (get_or zs i d)) h k)
    (parts_take g zs i d lt)

-- the loop appends for the item at its index
pub appends_next : {X Y Z : Type 0} (f : X → Y) (a b c : List X) (g : Z → List Y) (zs : List Z) (i : ℕ) (z : Z) → i < length zs → z ≡ get_or zs i z →
    Appends f a b (flat_map g (take i zs)) → Appends f b c (g z) → Appends f a c (flat_map g (take (i + 1) zs))
appends_next f a b c g zs i z lt e h k = appends_step f a b c g zs i z lt h (subst (λ y. Appends f b c (g y)) e k)

pub appends_all : {X Y Z : Type 0} (f : X → Y) (a b : List X) (g : Z → List Y) (zs : List Z) (i : ℕ) → i ≡ length zs →
    Appends f a b (flat_map g (take i zs)) → Appends f a b (flat_map g zs)
appends_all f a b g zs i e h = appends_as f a b (flat_map g (take i zs)) (flat_map g zs) h (parts_all g zs i e)

-- a call appends equal values
pub call_appends : {E X Y : Type 0} (f : X → Y) (a b : List X) (xs ys : List Y) (r : Result (Unit {0}) E) → OnOk r (Appends f a b xs) → xs ≡ ys →
    OnOk r (Appends f a b ys)
call_appends f a b xs ys r k e = on_ok_weaker r (λ q. appends_as f a b xs ys q e) k

-- Files with their ranks, before a loop's index

pub next_ranked : {V Y : Type 0} (v : V → Y) (vs : List V) (i : ℕ) (x : V) → i < length vs → x ≡ get_or vs i x →
    (i, v x) ≡ get_or (enumerate_from 0 (map v vs)) i (i, v x)
next_ranked v vs i x lt e =
    let short : i < length (map v vs) = rw (length-map vs v) lt in
    sym (get_or-enumerate_from 0 (map v vs) i (i, v x) short ∙ ap (λ k. (k, get_or (map v vs) i (v x))) (let z : 0 + i ≡ i = omega arith in z) ∙
    ap (λ y. (i, y)) (get_or-map v vs i x ∙ ap v (sym e)))

pub short_ranked : {V Y : Type 0} (v : V → Y) (vs : List V) → length (enumerate_from 0 (map v vs)) ≡ length vs
short_ranked v vs = length-enumerate_from 0 (map v vs) ∙ length-map vs v

-- appended to an empty list
pub from_none : {X Y : Type 0} (f : X → Y) (a b : List X) (xs : List Y) → a ≡ [] → Appends f a b xs → map f b ≡ xs
from_none f a b xs e h = h.added ∙ ap (λ z. map f z ++ xs) e
