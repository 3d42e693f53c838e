-- The inverses of a history, and how its cursor moves over them. In each list the nearest inverse is the last.
use Rattle.std.specs.Prelude.{◌≡◌, ℕ, ◌-◌, ◌≤◌, ⊤, List, [], ◌∷◌, ◌++◌, length, drop}
use Rattle.base_files.specs.Workspace.{Workspace}
use Rattle.base_files.specs.declared.refusal.Refusal.{Refusal}
use Rattle.base_files.specs.declared.refusal.Refusal.TheVariants.{Memory}
use Rattle.base_edits.specs.EditSet.{FileChanges, edited}
use Rattle.base_edits.specs.Fits.{Fits}

-- The inverses of a history: those that undo applies and those that redo applies, how many it may have, and for how many more it has room.
pub record Inverses : Type 0 where
  pub behind : List FileChanges
  pub ahead : List FileChanges
  pub depth : ℕ
  pub spare : ℕ

-- the files to which all inverses of a list lead, the nearest applied first
abbrev pub walked : Workspace → List FileChanges → Workspace
walked w [] = w
walked w (far ∷ near) = edited far (walked w near)

-- each inverse fits the files to which the nearer ones lead
abbrev pub CanWalk : Workspace → List FileChanges → Type 0
CanWalk w [] = ⊤
CanWalk w (far ∷ near) = Fits far (walked w near) × CanWalk w near

-- the history's inverses lead from these files, in both directions
pub record StandsAt (h : Inverses) (w : Workspace) : Type 0 where
  pub behind : CanWalk w h.behind
  pub ahead : CanWalk w h.ahead

-- the last `count` items of a list, or all where there are fewer
abbrev pub latest : {X : Type 0} → ℕ → List X → List X
latest count xs = drop (length xs - count) xs

-- the item is the last of the list
abbrev pub IsLast : List FileChanges → FileChanges → Type 0
IsLast ways way = (rest : List FileChanges) × (ways ≡ rest ++ way ∷ [])

-- the history has room for one inverse at least, and is otherwise as before
pub record HasSpare (old new : Inverses) : Type 0 where
  pub behind : new.behind ≡ old.behind
  pub ahead : new.ahead ≡ old.ahead
  pub depth : new.depth ≡ old.depth
  pub room : 1 ≤ new.spare

-- The cursor moves back over the nearest inverse behind. `redo` is the nearest ahead after that.
pub record StepsBack (old : Inverses) (redo : FileChanges) (new : Inverses) : Type 0 where
  pub way : FileChanges
  pub behind : old.behind ≡ new.behind ++ way ∷ []
  pub ahead : new.ahead ≡ old.ahead ++ redo ∷ []
  pub depth : new.depth ≡ old.depth
  pub spare : new.spare ≡ old.spare

-- The cursor moves forth over the nearest inverse ahead. `undo` is the nearest behind after that.
pub record StepsForth (old : Inverses) (undo : FileChanges) (new : Inverses) : Type 0 where
  pub way : FileChanges
  pub ahead : old.ahead ≡ new.ahead ++ way ∷ []
  pub behind : new.behind ≡ old.behind ++ undo ∷ []
  pub depth : new.depth ≡ old.depth
  pub spare : new.spare ≡ old.spare

-- why the cursor does not move over the inverses of a list: there is none, which is refused so, or else memory is wanting
abbrev pub RefusesMove : Refusal → List FileChanges → Refusal → Type 0
RefusesMove none [] why = why ≡ none
RefusesMove none (way ∷ ways) why = why ≡ Memory
