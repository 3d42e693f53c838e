-- The states at rest on each side of the cursor, where it moves to a neighbour.
use Rattle.std.proofs.Common.{◌≡◌, List, [], ◌∷◌, ◌++◌, sym, ap, subst, ◌∙◌}
use Rattle.base_files.specs.Workspace.{Workspace}
use Rattle.base_edits.specs.EditSet.{FileChanges, edited}
use Rattle.base_edits.specs.Inverse.{IsInverse}
use Rattle.history_machine.specs.declared.resting.Resting.{Resting}
use Rattle.history_machine.specs.Resting.{IsRestOf, RestsOn, woken}
use Rattle.history_machine.specs.State.{State}
use Rattle.history_book.specs.Histories.{AreAtRest, resting_states}
use Rattle.history_book.proofs.AtRest.{rest_pop, rest_push, states_push}

-- the side that the cursor goes to: its nearest state wakes, with the files v that the inverse `way` makes of w
module _ (w v : Workspace) (way : FileChanges) (made : v ≡ edited way w) (ways : List FileChanges) (rests : List Resting) (rest : Resting)
    (are : AreAtRest w (ways ++ way ∷ []) (rests ++ rest ∷ [])) where
  pub wakes : RestsOn v rest
  wakes = subst (λ (x : Workspace). RestsOn x rest) (sym made) (rest_pop w ways rests way rest are).0

  pub side_gone : AreAtRest v ways rests
  side_gone = subst (λ (x : Workspace). AreAtRest x ways rests) (sym made) (rest_pop w ways rests way rest are).1

  pub states_gone : resting_states w (ways ++ way ∷ []) (rests ++ rest ∷ []) ≡ resting_states v ways rests ++ woken v rest ∷ []
  states_gone =
      states_push w ways rests way rest (rest_pop w ways rests way rest are).1
      ∙ ap (λ (x : Workspace). resting_states x ways rests ++ woken x rest ∷ []) (sym made)

-- the side that the cursor comes from: the state that was current rests there, and `turned` leads from the files v back to its own
module _ (left : State) (v : Workspace) (turned : FileChanges) (back : IsInverse turned v left.files) (ways : List FileChanges) (rests : List Resting)
    (rest : Resting) (kept : IsRestOf left rest) (are : AreAtRest left.files ways rests) where
  at_turned : AreAtRest (edited turned v) ways rests
  at_turned = subst (λ (x : Workspace). AreAtRest x ways rests) (sym back.back) are

  pub side_come : AreAtRest v (ways ++ turned ∷ []) (rests ++ rest ∷ [])
  side_come = rest_push v ways rests turned rest (subst (λ (x : Workspace). RestsOn x rest) (sym back.back) kept.rests) at_turned

  pub states_come : resting_states v (ways ++ turned ∷ []) (rests ++ rest ∷ []) ≡ resting_states left.files ways rests ++ left ∷ []
  states_come =
      states_push v ways rests turned rest at_turned
      ∙ ap (λ (x : Workspace). resting_states x ways rests ++ woken x rest ∷ []) back.back
      ∙ ap (λ (s : State). resting_states left.files ways rests ++ s ∷ []) kept.state_is
