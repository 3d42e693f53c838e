-- States at rest, with one more or fewer of them.
use Rattle.std.proofs.Common.{◌≡◌, ℕ, suc, zero, List, [], ◌∷◌, ◌++◌, length, drop, refl, sym, ap, subst}
use Rattle.base_files.specs.Workspace.{Workspace}
use Rattle.base_edits.specs.EditSet.{FileChanges, edited}
use Rattle.history_inverses.proofs.Walks.{walked_push}
use Rattle.history_machine.specs.declared.resting.Resting.{Resting}
use Rattle.history_machine.specs.Resting.{RestsOn, woken}
use Rattle.history_book.specs.Histories.{AreAtRest, resting_states}

-- ---- one state more, the nearest
pub rest_push : (w : Workspace) (ways : List FileChanges) (rests : List Resting) (way : FileChanges) (rest : Resting) → RestsOn (edited way w) rest →
    AreAtRest (edited way w) ways rests → AreAtRest w (ways ++ way ∷ []) (rests ++ rest ∷ [])
rest_push w [] [] way rest on are = (on, tt)
rest_push w [] (r ∷ rests) way rest on are = absurd are
rest_push w (far ∷ near) [] way rest on are = absurd are
rest_push w (far ∷ near) (r ∷ rests) way rest on are = (
  subst (λ (x : Workspace). RestsOn (edited far x) r) (sym (walked_push w near way)) are.0,
  rest_push w near rests way rest on are.1,
)

none_rests : (w : Workspace) (ways : List FileChanges) (way : FileChanges) → AreAtRest w (ways ++ way ∷ []) [] → ⊥
none_rests w [] way are = are
none_rests w (far ∷ near) way are = are

none_ways : (w : Workspace) (rests : List Resting) (rest : Resting) → AreAtRest w [] (rests ++ rest ∷ []) → ⊥
none_ways w [] rest are = are
none_ways w (r ∷ rests) rest are = are

pub rest_pop : (w : Workspace) (ways : List FileChanges) (rests : List Resting) (way : FileChanges) (rest : Resting) →
    AreAtRest w (ways ++ way ∷ []) (rests ++ rest ∷ []) → RestsOn (edited way w) rest × AreAtRest (edited way w) ways rests
rest_pop w [] [] way rest are = (are.0, tt)
rest_pop w [] (r ∷ rests) way rest are = absurd (none_ways w rests rest are.1)
rest_pop w (far ∷ near) [] way rest are = absurd (none_rests w near way are.1)
rest_pop w (far ∷ near) (r ∷ rests) way rest are =
    let more = rest_pop w near rests way rest are.1 in
    (more.0, (subst (λ (x : Workspace). RestsOn (edited far x) r) (walked_push w near way) are.0, more.1))

pub states_push : (w : Workspace) (ways : List FileChanges) (rests : List Resting) (way : FileChanges) (rest : Resting) →
    AreAtRest (edited way w) ways rests →
    resting_states w (ways ++ way ∷ []) (rests ++ rest ∷ []) ≡ resting_states (edited way w) ways rests ++ woken (edited way w) rest ∷ []
states_push w [] [] way rest are = refl
states_push w [] (r ∷ rests) way rest are = absurd are
states_push w (far ∷ near) [] way rest are = absurd are
states_push w (far ∷ near) (r ∷ rests) way rest are = λ i. woken (edited far (walked_push w near way i)) r ∷ states_push w near rests way rest are.1 i

-- ---- the oldest states go
pub rest_drop : (count : ℕ) (w : Workspace) (ways : List FileChanges) (rests : List Resting) → AreAtRest w ways rests →
    AreAtRest w (drop count ways) (drop count rests)
rest_drop zero w ways rests are = are
rest_drop (suc count) w [] [] are = tt
rest_drop (suc count) w [] (r ∷ rests) are = absurd are
rest_drop (suc count) w (far ∷ near) [] are = absurd are
rest_drop (suc count) w (far ∷ near) (r ∷ rests) are = rest_drop count w near rests are.1

pub states_drop : (count : ℕ) (w : Workspace) (ways : List FileChanges) (rests : List Resting) → AreAtRest w ways rests →
    resting_states w (drop count ways) (drop count rests) ≡ drop count (resting_states w ways rests)
states_drop zero w ways rests are = refl
states_drop (suc count) w [] [] are = refl
states_drop (suc count) w [] (r ∷ rests) are = absurd are
states_drop (suc count) w (far ∷ near) [] are = absurd are
states_drop (suc count) w (far ∷ near) (r ∷ rests) are = states_drop count w near rests are.1

-- ---- as many states as inverses
pub as_many : (w : Workspace) (ways : List FileChanges) (rests : List Resting) → AreAtRest w ways rests → length ways ≡ length rests
as_many w [] [] are = refl
as_many w [] (r ∷ rests) are = absurd are
as_many w (far ∷ near) [] are = absurd are
as_many w (far ∷ near) (r ∷ rests) are = ap suc (as_many w near rests are.1)

pub states_many : (w : Workspace) (ways : List FileChanges) (rests : List Resting) → AreAtRest w ways rests →
    length (resting_states w ways rests) ≡ length rests
states_many w [] [] are = refl
states_many w [] (r ∷ rests) are = absurd are
states_many w (far ∷ near) [] are = absurd are
states_many w (far ∷ near) (r ∷ rests) are = ap suc (states_many w near rests are.1)
