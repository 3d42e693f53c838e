-- The tokens of a file get other numbers, as where a token is inserted among them. What judging finds of the file gets the new numbers.
use Rattle.std.specs.Prelude.{ℕ, ◌≡◌, List, map}
use Rattle.types_expr.specs.World.{World, Bound, Local, Means, BrokenVariable, BrokenFunction, BrokenType, Locals}
use Rattle.types_expr.specs.Types.{PlainType}
use Rattle.types_expr.specs.declared.symbol.Symbol.{Symbol}
use Rattle.types_expr.specs.Judge.{MemberUse, Entering, Noted, OfMember, OfEntering, Judged}
use Rattle.types_stmt.specs.Checked.{FoundSoFar}

-- No two tokens come to one number, and the first token stays the first.
pub record IsRenumbering (t : ℕ → ℕ) : Type 0 where
  pub injective : (a b : ℕ) → t a ≡ t b → a ≡ b
  pub first : t 0 ≡ 0

-- A local is bound to its token's new number.
abbrev pub renumbered_bound : (ℕ → ℕ) → Bound → Bound
renumbered_bound t (Local token) = Local (t token)
renumbered_bound t (Means m) = Means m
renumbered_bound t BrokenVariable = BrokenVariable
renumbered_bound t BrokenFunction = BrokenFunction
renumbered_bound t BrokenType = BrokenType

-- A use of a member is at its token's new number.
abbrev pub renumbered_use : (ℕ → ℕ) → MemberUse → MemberUse
renumbered_use t u = record { place = t u.place; before = u.before; member = u.member }

abbrev pub renumbered_entering : (ℕ → ℕ) → Entering → Entering
renumbered_entering t e = record { place = t e.place; own = e.own }

abbrev pub renumbered_noted : (ℕ → ℕ) → Noted → Noted
renumbered_noted t (OfMember u) = OfMember (renumbered_use t u)
renumbered_noted t (OfEntering e) = OfEntering (renumbered_entering t e)

abbrev pub renumbered_uses : (ℕ → ℕ) → List Noted → List Noted
renumbered_uses t us = map (renumbered_noted t) us

-- What is found of an expression: the meaning stays; the faults, uses and entries are at the new numbers.
abbrev pub renumbered_found : (ℕ → ℕ) → Judged → Judged
renumbered_found t j = record { meaning = j.meaning; faults = map t j.faults; uses = renumbered_uses t j.uses }

-- Each local has its type at its token's new number.
abbrev pub AreRenumberedLocals : (ℕ → ℕ) → Locals → Locals → Type 0
AreRenumberedLocals t old new = (token : ℕ) → new (t token) ≡ old token

-- What is found of statements and files: types of locals, faults, uses and entries are at the new numbers.
pub record IsRenumberedCheck (t : ℕ → ℕ) (old new : FoundSoFar) : Type 0 where
  pub locals : AreRenumberedLocals t old.locals new.locals
  pub faults : new.faults ≡ map t old.faults
  pub uses : new.uses ≡ renumbered_uses t old.uses

-- The world w is v with the new numbers: at a token's new number names are bound alike, the same members are found for each type, and the same
-- types implement the same interfaces.
pub record IsRenumberedWorld (t : ℕ → ℕ) (v w : World) : Type 0 where
  pub bound : (token : ℕ) → w.bound (t token) ≡ renumbered_bound t (v.bound token)
  pub definition : (s : Symbol) → w.definition s ≡ v.definition s
  pub implements : (t : PlainType) (s : Symbol) → w.implements t s ≡ v.implements t s
  pub member : (token : ℕ) (before : PlainType) → w.member (t token) before ≡ v.member token before
