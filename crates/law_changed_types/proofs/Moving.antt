-- A move as the lemmas take it, and the members that it moves.
use Rattle.std.proofs.Common.{ℕ, ◌≡◌, Bool, true, false, if◌then◌else◌, List, ◌∷◌, ◌++◌, option_map, ap, ◌∙◌}
use Rattle.std.specs.List.{Contains}
use Rattle.base_lemmas.proofs.Elements.{first_in}
use Rattle.types_expr.specs.declared.symbol.Symbol.{Symbol}
use Rattle.types_expr.specs.Types.{PlainType}
use Rattle.types_expr.specs.World.{World}
use Rattle.types_expr.specs.Judge.{MemberUse, Noted, OfMember}
use Rattle.law_changed_types.proofs.Agreement.{AreIn, in_first, in_second}
use Rattle.law_changed_types.specs.Moved.{PathMap, IsInjective, moved_symbol, moved_type, moved_underlying, moved_bound, moved_member}
use Rattle.law_changed_types.specs.Moves.{IsMovedWorld}

-- A move, and the worlds before and after it, but for their members.
pub record Move : Type 0 where
  pub path : PathMap
  pub injective : IsInjective path
  pub old : World
  pub new : World
  pub bound : (token : ℕ) → new.bound token ≡ moved_bound path (old.bound token)
  pub definition : (s : Symbol) → new.definition (moved_symbol path s) ≡ moved_underlying path (old.definition s)
  pub implements : (t : PlainType) (s : Symbol) → new.implements (moved_type path t) (moved_symbol path s) ≡ old.implements t s

-- the new world has the moved members at some uses
pub record Moves (m : Move) (uses : List Noted) : Type 0 where
  pub each : (u : MemberUse) → Contains uses (OfMember u) →
      m.new.member u.place (moved_type m.path u.before) ≡ option_map (moved_member m.path) (m.old.member u.place u.before)

pub of_part : {m : Move} {b : List Noted} (a : List Noted) → AreIn a b → Moves m b → Moves m a
of_part a inside h = record { each = λ u c. h.each u (inside (OfMember u) c) }

pub of_first : {m : Move} (a b : List Noted) → Moves m (a ++ b) → Moves m a
of_first a b h = of_part a (in_first a b) h

pub of_second : {m : Move} (a b : List Noted) → Moves m (a ++ b) → Moves m b
of_second a b h = of_part b (in_second a b) h

pub at_first : {m : Move} (u : MemberUse) (rest : List Noted) → Moves m (OfMember u ∷ rest) →
    m.new.member u.place (moved_type m.path u.before) ≡ option_map (moved_member m.path) (m.old.member u.place u.before)
at_first u rest h = h.each u (first_in (OfMember u) rest)

abbrev pub the_move : {uses : List Noted} (g : PathMap) → IsInjective g → (v w : World) → IsMovedWorld g uses v w → Move
the_move g inj v w h = record { path = g; injective = inj; old = v; new = w; bound = h.bound; definition = h.definition; implements = h.implements }

-- equal arguments

pub ap2 : {A B C : Type 0} (f : A → B → C) {a c : A} {b d : B} → a ≡ c → b ≡ d → f a b ≡ f c d
ap2 f {c = c} {b = b} e h = ap (λ z. f z b) e ∙ ap (λ z. f c z) h

pub ap3 : {A B C D : Type 0} (f : A → B → C → D) {a d : A} {b e : B} {c k : C} → a ≡ d → b ≡ e → c ≡ k → f a b c ≡ f d e k
ap3 f {d = d} {b = b} {c = c} x y z = ap (λ u. f u b c) x ∙ ap2 (f d) y z

-- a choice between moved values
pub if_moves : {A B : Type 0} (f : A → B) (t u : Bool) (x y : A) → u ≡ t → (if u then f x else f y) ≡ f (if t then x else y)
if_moves f true u x y e = ap (λ z. if z then f x else f y) e
if_moves f false u x y e = ap (λ z. if z then f x else f y) e
