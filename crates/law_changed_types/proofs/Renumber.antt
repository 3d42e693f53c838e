-- New numbers of tokens as the lemmas take them: the definitions of the new world are the old ones.
use Rattle.std.proofs.Common.{ℕ, ◌≡◌, ◌==◌, Bool, true, false, if◌then◌else◌, List, ◌++◌, map, Option, refl, sym, ap, ◌∙◌}
use Rattle.std.proofs.Math.Path.{fun_ext}
use Rattle.std.proofs.lemmas.List.{map-append}
use Rattle.std.proofs.lemmas.Bool.{eqb-true, eq-eqb}
use Rattle.types_expr.specs.Types.{PlainType}
use Rattle.types_expr.specs.World.{World, Bound, Member, giving}
use Rattle.law_changed_types.specs.Renumbering.{IsRenumbering, IsRenumberedWorld, renumbered_bound}

-- New numbers, the old world, and what the new world binds and has as members.
pub record Renumber : Type 0 where
  pub to : ℕ → ℕ
  pub numbers : IsRenumbering to
  pub old : World
  pub bound : ℕ → Bound
  pub member : ℕ → PlainType → Option Member
  pub binds : (token : ℕ) → bound (to token) ≡ renumbered_bound to (old.bound token)
  pub has : (token : ℕ) (before : PlainType) → member (to token) before ≡ old.member token before

-- the new world
abbrev pub new : Renumber → World
new m = record { bound = m.bound; member = m.member; definition = m.old.definition; implements = m.old.implements }

abbrev pub the_renumber : (t : ℕ → ℕ) → IsRenumbering t → (v w : World) → IsRenumberedWorld t v w → Renumber
the_renumber t n v w h = record { to = t; numbers = n; old = v; bound = w.bound; member = w.member; binds = h.bound; has = h.member }

pub new_is : (t : ℕ → ℕ) (n : IsRenumbering t) (v w : World) (h : IsRenumberedWorld t v w) → new (the_renumber t n v w h) ≡ w
new_is t n v w h =
    ap (λ z. record { bound = w.bound; member = w.member; definition = z; implements = v.implements }) (sym (fun_ext h.definition))
    ∙ ap (λ z. record { bound = w.bound; member = w.member; definition = w.definition; implements = z })
    (sym (fun_ext (λ u. fun_ext (λ s. h.implements u s))))

-- new numbers in the worlds as the targets of values see them
abbrev pub giving_numbers : (own : Bool) → Renumber → Renumber
giving_numbers own m =
    record { to = m.to; numbers = m.numbers; old = giving own m.old; bound = m.bound; member = m.member; binds = m.binds; has = m.has }

-- equal arguments

pub ap2 : {A B C : Type 0} (f : A → B → C) {a c : A} {b d : B} → a ≡ c → b ≡ d → f a b ≡ f c d
ap2 f {c = c} {b = b} e h = ap (λ z. f z b) e ∙ ap (λ z. f c z) h

pub ap3 : {A B C D : Type 0} (f : A → B → C → D) {a d : A} {b e : B} {c k : C} → a ≡ d → b ≡ e → c ≡ k → f a b c ≡ f d e k
ap3 f {d = d} {b = b} {c = c} x y z = ap (λ u. f u b c) x ∙ ap2 (f d) y z

-- a choice between two values of a function
pub if_maps : {A B : Type 0} (f : A → B) (t : Bool) (x y : A) → (if t then f x else f y) ≡ f (if t then x else y)
if_maps f true x y = refl
if_maps f false x y = refl

-- faults and uses one after the other

pub two : {A B : Type 0} (f : A → B) (a b : List A) → map f a ++ map f b ≡ map f (a ++ b)
two f a b = sym (map-append f a b)

pub three : {A B : Type 0} (f : A → B) (a b c : List A) → map f a ++ (map f b ++ map f c) ≡ map f (a ++ (b ++ c))
three f a b c = ap (λ z. map f a ++ z) (two f b c) ∙ two f a (b ++ c)

pub four : {A B : Type 0} (f : A → B) (a b c d : List A) → map f a ++ (map f b ++ (map f c ++ map f d)) ≡ map f (a ++ (b ++ (c ++ d)))
four f a b c d = ap (λ z. map f a ++ z) (three f b c d) ∙ two f a (b ++ (c ++ d))

same_answers : (s t : Bool) → (s ≡ true → t ≡ true) → (t ≡ true → s ≡ true) → s ≡ t
same_answers true t f g = sym (f refl)
same_answers false true f g = g refl
same_answers false false f g = refl

-- two tokens are one exactly if their new numbers are
pub same_token : (m : Renumber) (a b : ℕ) → (m.to a == m.to b) ≡ (a == b)
same_token m a b =
    same_answers (m.to a == m.to b) (a == b) (λ e. eq-eqb a b (m.numbers.injective a b (eqb-true (m.to a) (m.to b) e)))
    (λ e. eq-eqb (m.to a) (m.to b) (ap m.to (eqb-true a b e)))
