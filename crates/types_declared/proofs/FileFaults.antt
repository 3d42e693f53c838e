-- The faults of a package's files, added file by file.
use Rattle.std.proofs.Common.{ℕ, ◌≡◌, ◌+◌, ◌<◌, List, [], ◌∷◌, ◌++◌, length, take, get_or, ap, subst, sym, ◌∙◌, arith, refl}
use Rattle.std.specs.Prelude.{map}
use Rattle.std.specs.List.{flat_map, enumerate_from}
use Rattle.std.proofs.lemmas.List.FromFn.{length-enumerate_from, get_or-enumerate_from}
use Rattle.std.proofs.Math.ListN.{get_or-map, length-map}
use Rattle.types_declared.specs.declared.fault.Fault.{Fault}
use Rattle.types_declared.specs.Listing.{AddsEach}
use Rattle.types_declared.proofs.ItemFaults.{each_next, each_all}

at_rank : {Y : Type 0} (ys : List Y) (i : ℕ) (y : Y) → i < length ys → y ≡ get_or ys i y → get_or (enumerate_from 0 ys) i (i, y) ≡ (i, y)
at_rank ys i y lt e =
    get_or-enumerate_from 0 ys i (i, y) lt ∙ ap (λ k. (k, get_or ys i y)) (let z : 0 + i ≡ i = omega arith in z) ∙ ap (λ v. (i, v)) (sym e)

pub next_ranked : {X Y : Type 0} (Q : X → Fault → Type 0) (a b c : List Fault) (g : ℕ × Y → List X) (ys : List Y) (i : ℕ) (y : Y) → i < length ys →
    y ≡ get_or ys i y →
    AddsEach Q a b (flat_map g (take i (enumerate_from 0 ys))) → AddsEach Q b c (g (i, y)) → AddsEach Q a c (flat_map g (take (i + 1) (enumerate_from 0 ys)))
next_ranked Q a b c g ys i y lt e h k =
    let short : i < length (enumerate_from 0 ys) = rw (length-enumerate_from 0 ys) lt in
    each_next Q a b c g (enumerate_from 0 ys) i (i, y) short h (subst (λ r. AddsEach Q b c (g r)) (sym (at_rank ys i y lt e)) k)

pub all_ranked : {X Y : Type 0} (Q : X → Fault → Type 0) (a b : List Fault) (g : ℕ × Y → List X) (ys : List Y) (i : ℕ) → i ≡ length ys →
    AddsEach Q a b (flat_map g (take i (enumerate_from 0 ys))) → AddsEach Q a b (flat_map g (enumerate_from 0 ys))
all_ranked Q a b g ys i e h = each_all Q a b g (enumerate_from 0 ys) i (e ∙ sym (length-enumerate_from 0 ys)) h

-- the faults of the next of the program's files are added
pub next_file : {V X Y : Type 0} (Q : X → Fault → Type 0) (a b c : List Fault) (g : ℕ × Y → List X) (v : V → Y) (vs : List V) (i : ℕ) (x : V) →
    i < length vs → x ≡ get_or vs i x →
    AddsEach Q a b (flat_map g (take i (enumerate_from 0 (map v vs)))) → AddsEach Q b c (g (i, v x)) →
    AddsEach Q a c (flat_map g (take (i + 1) (enumerate_from 0 (map v vs))))
next_file Q a b c g v vs i x lt e h k =
    let short : i < length (map v vs) = rw (length-map vs v) lt in
    next_ranked Q a b c g (map v vs) i (v x) short (ap v e ∙ sym (get_or-map v vs i x)) h k

pub all_files : {V X Y : Type 0} (Q : X → Fault → Type 0) (a b : List Fault) (g : ℕ × Y → List X) (v : V → Y) (vs : List V) (i : ℕ) → i ≡ length vs →
    AddsEach Q a b (flat_map g (take i (enumerate_from 0 (map v vs)))) → AddsEach Q a b (flat_map g (enumerate_from 0 (map v vs)))
all_files Q a b g v vs i e h = all_ranked Q a b g (map v vs) i (e ∙ sym (length-map vs v)) h

-- mapping each item to a list of itself gives the list
pub flat_map-single : {X : Type 0} (xs : List X) → flat_map (λ x. x ∷ []) xs ≡ xs
flat_map-single [] = refl
flat_map-single (x ∷ xs) = ap (λ z. x ∷ z) (flat_map-single xs)

map-append : {X Y : Type 0} (f : X → Y) (xs ys : List X) → map f (xs ++ ys) ≡ map f xs ++ map f ys
map-append f [] ys = refl
map-append f (x ∷ xs) ys = ap (λ z. f x ∷ z) (map-append f xs ys)

-- mapping commutes with collecting the parts of views
pub map-flat_map-map : {X Y Z V : Type 0} (f : Y → Z) (g : X → List Y) (h : V → X) (vs : List V) →
    map f (flat_map g (map h vs)) ≡ flat_map (λ v. map f (g (h v))) vs
map-flat_map-map f g h [] = refl
map-flat_map-map f g h (v ∷ vs) = map-append f (g (h v)) (flat_map g (map h vs)) ∙ ap (λ z. map f (g (h v)) ++ z) (map-flat_map-map f g h vs)
