-- Identifiers that are appended to a list, one part after another.
use Rattle.std.proofs.Common.{ℕ, ◌≡◌, ◌+◌, ◌<◌, List, [], ◌∷◌, ◌++◌, length, take, get_or, ap, sym, ◌∙◌, append_assoc, append-nil, arith, suc}
use Rattle.std.specs.Prelude.{map, Result, OnOk}
use Rattle.std.specs.List.{flat_map}
use Rattle.std.proofs.Math.Seq.{take-suc, take-length}
use Rattle.std.proofs.lemmas.Grind.{flat_map-append}
use Rattle.std.proofs.lemmas.Result.{on_ok_weaker}
use Rattle.go_scope.specs.declared.model.Identifier.{Identifier}
use Rattle.go_scope.specs.Site.{Site}
use Rattle.go_scope.specs.IdentifierViews.{site_of, AddsTo}

pub adds_none : (a : List Identifier) → AddsTo a a []
adds_none a = record { added = sym (append-nil (map site_of a)) }

pub adds_as : {a b : List Identifier} {x y : List Site} → AddsTo a b x → x ≡ y → AddsTo a b y
adds_as {a = a} {b = b} h e = record { added = h.added ∙ ap (λ z. map site_of a ++ z) e }

pub adds_then : {a b c : List Identifier} {x y : List Site} → AddsTo a b x → AddsTo b c y → AddsTo a c (x ++ y)
adds_then {a = a} {b = b} {c = c} {x = x} {y = y} h k = record { added = k.added ∙ ap (λ z. z ++ y) h.added ∙ append_assoc (map site_of a) x y }

-- a call that adds the rest
pub then_adds : {E : Type 0} {a b : List Identifier} {x z : List Site} (c : List Identifier) (y : List Site) (r : Result (Unit {0}) E) → AddsTo a b x →
    OnOk r (AddsTo b c y) → x ++ y ≡ z → OnOk r (AddsTo a c z)
then_adds c y r h k e = on_ok_weaker r (λ q. adds_as (adds_then h q) e) k

pub call_adds : {E : Type 0} {x y : List Site} (a b : List Identifier) (r : Result (Unit {0}) E) → OnOk r (AddsTo a b x) → x ≡ y → OnOk r (AddsTo a b y)
call_adds a b r k e = on_ok_weaker r (λ q. adds_as q e) k

pub two_then_adds : {E : Type 0} {a b d : List Identifier} {x y w : List Site} (c : List Identifier) (z : List Site) (r : Result (Unit {0}) E) →
    AddsTo a b x → AddsTo b d y → OnOk r (AddsTo d c z) → x ++ (y ++ z) ≡ w → OnOk r (AddsTo a c w)
two_then_adds {x = x} {y = y} c z r h k l e = then_adds c z r (adds_then h k) l (append_assoc x y z ∙ e)

pub three_then_adds : {E : Type 0} {a b d f : List Identifier} {x y z w : List Site} (c : List Identifier) (v : List Site) (r : Result (Unit {0}) E) →
    AddsTo a b x → AddsTo b d y → AddsTo d f z → OnOk r (AddsTo f c v) → x ++ (y ++ (z ++ v)) ≡ w → OnOk r (AddsTo a c w)
three_then_adds {x = x} {y = y} {z = z} c v r h k l m e = two_then_adds c v r h (adds_then k l) m (ap (λ u. x ++ u) (append_assoc y z v) ∙ e)

pub four_then_adds : {E : Type 0} {a b d f g : List Identifier} {x y z v w : List Site} (c : List Identifier) (k : List Site) (r : Result (Unit {0}) E) →
    AddsTo a b x → AddsTo b d y → AddsTo d f z → AddsTo f g v → OnOk r (AddsTo g c k) → x ++ (y ++ (z ++ (v ++ k))) ≡ w → OnOk r (AddsTo a c w)
four_then_adds {x = x} {y = y} {z = z} {v = v} c k r h i j l m e =
    three_then_adds c k r h i (adds_then j l) m (ap (λ u. x ++ (y ++ u)) (append_assoc z v k) ∙ e)

-- a loop over items

pub each_none : {X : Type 0} (f : X → List Site) (xs : List X) (a : List Identifier) → AddsTo a a (flat_map f (take 0 xs))
each_none f xs a = adds_none a

flat_map-take : {X : Type 0} (f : X → List Site) (xs : List X) (i : ℕ) (d : X) → i < length xs →
    flat_map f (take i xs) ++ f (get_or xs i d) ≡ flat_map f (take (i + 1) xs)
flat_map-take f xs i d lt =
    ap (λ z. flat_map f (take i xs) ++ z) (sym (append-nil (f (get_or xs i d)))) ∙ sym (flat_map-append f (take i xs) (get_or xs i d ∷ [])) ∙
    sym (ap (flat_map f) (take-suc xs i d lt)) ∙ ap (λ k. flat_map f (take k xs)) (let e : suc i ≡ i + 1 = omega arith in e)

pub each_next : {X : Type 0} {a b c : List Identifier} (f : X → List Site) (xs : List X) (i : ℕ) (d : X) → i < length xs →
    AddsTo a b (flat_map f (take i xs)) → AddsTo b c (f (get_or xs i d)) → AddsTo a c (flat_map f (take (i + 1) xs))
each_next f xs i d lt h k = adds_as (adds_then h k) (flat_map-take f xs i d lt)

-- one more item of a loop that read it
pub each_step : {X : Type 0} {a b c : List Identifier} (f : X → List Site) (xs : List X) (i : ℕ) (x : X) → i < length xs → x ≡ get_or xs i x →
    AddsTo a b (flat_map f (take i xs)) → AddsTo b c (f x) → AddsTo a c (flat_map f (take (i + 1) xs))
each_step f xs i x lt is h k = each_next f xs i x lt h (adds_as k (ap f is))

pub each_all : {X : Type 0} {a b : List Identifier} (f : X → List Site) (xs : List X) (i : ℕ) → i ≡ length xs → AddsTo a b (flat_map f (take i xs)) →
    AddsTo a b (flat_map f xs)
each_all f xs i e h = adds_as h (ap (λ k. flat_map f (take k xs)) e ∙ ap (flat_map f) (take-length xs))
