-- Rows of inverses with one more or fewer, and what a move of the cursor leaves.
use Rattle.std.proofs.Common.{◌≡◌, ℕ, suc, zero, List, [], ◌∷◌, ◌++◌, drop, refl, sym, ap, subst, ◌∙◌}
use Rattle.std.proofs.lemmas.List.{same_from_push}
use Rattle.base_files.specs.Workspace.{Workspace}
use Rattle.base_edits.specs.EditSet.{FileChanges, edited}
use Rattle.base_edits.specs.Fits.{Fits}
use Rattle.base_edits.specs.Inverse.{IsInverse}
use Rattle.history_inverses.specs.Inverses.{Inverses, CanWalk, IsLast, StandsAt, StepsBack, StepsForth, walked}

-- ---- one inverse more, the nearest
pub walked_push : (w : Workspace) (ways : List FileChanges) (way : FileChanges) → walked w (ways ++ way ∷ []) ≡ walked (edited way w) ways
walked_push w [] way = refl
walked_push w (far ∷ near) way = ap (edited far) (walked_push w near way)

pub can_push : (w : Workspace) (ways : List FileChanges) (way : FileChanges) → Fits way w → CanWalk (edited way w) ways → CanWalk w (ways ++ way ∷ [])
can_push w [] way fits can = (fits, tt)
can_push w (far ∷ near) way fits can = (subst (Fits far) (sym (walked_push w near way)) can.0, can_push w near way fits can.1)

pub can_pop : (w : Workspace) (ways : List FileChanges) (way : FileChanges) → CanWalk w (ways ++ way ∷ []) → Fits way w × CanWalk (edited way w) ways
can_pop w [] way can = (can.0, tt)
can_pop w (far ∷ near) way can =
    let rest = can_pop w near way can.1 in
    (rest.0, (subst (Fits far) (walked_push w near way) can.0, rest.1))

-- the farthest inverses go
pub can_drop : (count : ℕ) (w : Workspace) (ways : List FileChanges) → CanWalk w ways → CanWalk w (drop count ways)
can_drop zero w ways can = can
can_drop (suc count) w [] can = tt
can_drop (suc count) w (far ∷ near) can = can_drop count w near can.1

-- ---- the cursor moves
module _ (w v : Workspace) (way turned : FileChanges) (made : v ≡ edited way w) (back : IsInverse turned v w) where
  -- the nearest inverse of one list is applied, and what takes it back stands at the end of the other
  gone : (ways : List FileChanges) → CanWalk w (ways ++ way ∷ []) → CanWalk v ways
  gone ways can = subst (λ (x : Workspace). CanWalk x ways) (sym made) (can_pop w ways way can).1

  come : (ways : List FileChanges) → CanWalk w ways → CanWalk v (ways ++ turned ∷ [])
  come ways can = can_push v ways turned back.fits (subst (λ (x : Workspace). CanWalk x ways) (sym back.back) can)

pub fits_last : (w : Workspace) (ways : List FileChanges) (way : FileChanges) → IsLast ways way → CanWalk w ways → Fits way w
fits_last w ways way last can = (can_pop w last.0 way (subst (CanWalk w) last.1 can)).0

-- the nearest of a list is one inverse
pub one_last : (ways rest : List FileChanges) (way other : FileChanges) → IsLast ways way → ways ≡ rest ++ other ∷ [] → way ≡ other
one_last ways rest way other last is = (same_from_push last.0 rest way other (sym last.1 ∙ is)).1

pub stands_back : (old new : Inverses) (redo : FileChanges) (w v : Workspace) → StandsAt old w → (s : StepsBack old redo new) → v ≡ edited s.way w →
    IsInverse redo v w → StandsAt new v
stands_back old new redo w v stands s made back = record {
  behind = gone w v s.way redo made back new.behind (subst (CanWalk w) s.behind stands.behind);
  ahead = subst (CanWalk v) (sym s.ahead) (come w v s.way redo made back old.ahead stands.ahead);
}

pub stands_forth : (old new : Inverses) (undo : FileChanges) (w v : Workspace) → StandsAt old w → (s : StepsForth old undo new) → v ≡ edited s.way w →
    IsInverse undo v w → StandsAt new v
stands_forth old new undo w v stands s made back = record {
  behind = subst (CanWalk v) (sym s.behind) (come w v s.way undo made back old.behind stands.behind);
  ahead = gone w v s.way undo made back new.ahead (subst (CanWalk w) s.ahead stands.ahead);
}

-- after a change, of whose files `way` makes those before
pub can_change : (count : ℕ) (w v : Workspace) (ways : List FileChanges) (way : FileChanges) → IsInverse way v w → CanWalk w ways →
    CanWalk v (drop count (ways ++ way ∷ []))
can_change count w v ways way back can =
    can_drop count v (ways ++ way ∷ []) (can_push v ways way back.fits (subst (λ (x : Workspace). CanWalk x ways) (sym back.back) can))
