-- Views of `CheckedBody` and `Target`, and relations that say what one call adds to what was found.
use Rattle.std.specs.Prelude.{ℕ, ◌≡◌, ◌==◌, Bool, List, ◌++◌, option_map, map, codes}
use Rattle.std.specs.Cmp.Lexicographic.{pointwise}
use Rattle.types_expr.specs.declared.world.World.{World}
use Rattle.types_expr.specs.WorldView.{name_in, token_spelling}
use Rattle.types_expr.specs.declared.found.FoundInFile.{FoundInFile}
use Rattle.types_expr.specs.World.{Locals}
use Rattle.types_expr.specs.View.{type_of}
use Rattle.types_expr.specs.Found.{noted_of, locals_of}
use Rattle.types_stmt.specs.declared.sides.Target.{Target}
use Rattle.types_stmt.specs.declared.sides.Target.TheVariants as target
use Rattle.types_stmt.specs.declared.checked.CheckedBody.{CheckedBody}
use Rattle.types_expr.specs.Judge as judge
use Rattle.types_stmt.specs.Checked as pure
use Rattle.types_stmt.specs.Sides as sides
use Rattle.types_stmt.specs.Headers.{ResultsJudged}

-- the plain value of some locals and of what was found
abbrev pub checked_with : Locals → FoundInFile → pure.FoundSoFar
checked_with ls f = record { locals = ls; faults = f.faults.items; uses = map noted_of f.uses.items }

-- the plain value of a `CheckedBody`
abbrev pub checked_of : CheckedBody → pure.FoundSoFar
checked_of s = checked_with (locals_of s.locals) s.found

unfoldable pub target_of : Target → sides.Target
target_of target.Takes = sides.Takes
target_of (target.Wants t) = sides.Wants (option_map type_of t)

-- A call appended the faults and member uses of the left sides l, and returned their targets.
pub record AddsLefts (l : sides.Lefts) (old new : FoundInFile) (ts : List sides.Target) : Type 0 where
  pub targets : ts ≡ l.targets
  pub faults : new.faults.items ≡ old.faults.items ++ l.faults
  pub uses : map noted_of new.uses.items ≡ map noted_of old.uses.items ++ l.uses

-- A call appended the faults of the results j, and returned them as targets.
pub record AddsResults (j : ResultsJudged) (old new : FoundInFile) (ts : List sides.Target) : Type 0 where
  pub wanted : ts ≡ j.wanted
  pub faults : new.faults.items ≡ old.faults.items ++ j.faults
  pub uses : new.uses.items ≡ old.uses.items

-- A call appended faults at `places` and no member use.
pub record AddsFaultsAt (places : List ℕ) (old new : FoundInFile) : Type 0 where
  pub faults : new.faults.items ≡ old.faults.items ++ places
  pub uses : new.uses.items ≡ old.uses.items

-- A call appended faults at `places` and these entries.
pub record AddsGiven (places : List ℕ) (enterings : List judge.Noted) (old new : FoundInFile) : Type 0 where
  pub faults : new.faults.items ≡ old.faults.items ++ places
  pub uses : map noted_of new.uses.items ≡ map noted_of old.uses.items ++ enterings

-- whether the name at a token is `init`
abbrev pub is_init_in : World → ℕ → Bool
is_init_in w place = pointwise ◌==◌ (token_spelling (name_in w place)) (codes "init")
