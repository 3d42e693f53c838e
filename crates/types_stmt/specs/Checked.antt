-- What a check has found after some statements or declarations, and how it grows from one to the next.
use Rattle.std.specs.Prelude.{ℕ, Bool, if◌then◌else◌, List, [], ◌∷◌, ◌++◌}
use Rattle.go_ast.specs.Tree.{Item, Group, single, several}
use Rattle.types_expr.specs.World.{Locals}
use Rattle.types_expr.specs.Judge.{Judged, Noted}

-- the types of the locals declared so far, and the faults and member uses and entries found so far
pub record FoundSoFar : Type 0 where
  pub locals : Locals
  pub faults : List ℕ
  pub uses : List Noted

-- s, after a part that changes the locals to `locals` and has these faults and member uses and entries
abbrev pub with_declared : FoundSoFar → Locals → List ℕ → List Noted → FoundSoFar
with_declared s locals faults uses = record { locals = locals; faults = s.faults ++ faults; uses = s.uses ++ uses }

-- s, after a part that declares no local and has these faults and member uses and entries
abbrev pub with_found : FoundSoFar → List ℕ → List Noted → FoundSoFar
with_found s faults uses = with_declared s s.locals faults uses

-- s, after an expression judged as j, with more faults behind its own
abbrev pub with_judged : FoundSoFar → Judged → List ℕ → FoundSoFar
with_judged s j faults = with_found s (j.faults ++ faults) j.uses

-- a fault at `place`, if `test` is true
abbrev pub fault_if : Bool → ℕ → List ℕ
fault_if test place = if test then place ∷ [] else []

-- the check of the items of a list in turn
unfoldable pub check_items : {X : Type 0} → (FoundSoFar → X → FoundSoFar) → FoundSoFar → List (Item X) → FoundSoFar
check_items check s [] = s
check_items check s (i ∷ is) = check_items check (check s i.value) is

-- the check of one declaration, or of all in parentheses: `var x int`, `var ( .. )`
unfoldable pub check_group : {X : Type 0} → (FoundSoFar → X → FoundSoFar) → FoundSoFar → Group X → FoundSoFar
check_group check s (single x) = check s x
check_group check s (several o xs c) = check_items check s xs
