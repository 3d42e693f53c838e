-- The states after an undo and a redo.
use Rattle.std.proofs.Common.{◌≡◌, ℕ, ◌+◌, ◌≤◌, List, [], ◌∷◌, ◌++◌, length, arith, refl, sym, ap, subst, ◌∙◌}
use Rattle.std.proofs.lemmas.List.{length_push}
use Rattle.base_files.specs.Workspace.{Workspace}
use Rattle.base_edits.specs.EditSet.{FileChanges, edited}
use Rattle.base_edits.specs.Inverse.{IsInverse}
use Rattle.history_inverses.specs.Inverses.{StepsBack, StepsForth}
use Rattle.history_inverses.proofs.Walks.{one_last, stands_back, stands_forth}
use Rattle.history_machine.specs.declared.resting.Resting.{Resting}
use Rattle.history_machine.specs.Resting.{RestsOn, woken}
use Rattle.history_machine.specs.State.{State}
use Rattle.history_book.specs.declared.states.Moving.{Moving}
use Rattle.history_book.specs.declared.states.States.{States}
use Rattle.history_book.specs.Histories.{AreAtRest, HasMove, IsOneStepOn, KeepStates, resting_states}
use Rattle.history_book.proofs.Sides.{wakes, side_gone, side_come, states_gone, states_come}

-- what is kept at rest of both lists, with the nearest of each set apart
apart : (w : Workspace) (ways front : List FileChanges) (rests left : List Resting) (way : FileChanges) (rest : Resting) → ways ≡ front ++ way ∷ [] →
    rests ≡ left ++ rest ∷ [] → AreAtRest w ways rests → AreAtRest w (front ++ way ∷ []) (left ++ rest ∷ [])
apart w ways front rests left way rest e1 e2 are = subst (AreAtRest w (front ++ way ∷ [])) e2 (subst (λ (x : List FileChanges). AreAtRest w x rests) e1 are)

-- the state that wakes rests on the files that are made for it
pub can_wake : (w v : Workspace) (ways front : List FileChanges) (rests left : List Resting) (way : FileChanges) (rest : Resting) → v ≡ edited way w →
    ways ≡ front ++ way ∷ [] → rests ≡ left ++ rest ∷ [] → AreAtRest w ways rests → RestsOn v rest
can_wake w v ways front rests left way rest made e1 e2 are = wakes w v way made front left rest (apart w ways front rests left way rest e1 e2 are)

moved_count : (a b c d n : ℕ) → a ≡ c + 1 → d ≡ b + 1 → a + b ≤ n → c + d ≤ n
moved_count a b c d n e1 e2 le = omega arith

moved_count_forth : (a b c d n : ℕ) → b ≡ d + 1 → c ≡ a + 1 → a + b ≤ n → c + d ≤ n
moved_count_forth a b c d n e1 e2 le = omega arith

module _ (old new : States) (keeps : KeepStates old) (moving : Moving) (waking : Resting) (current : new.current ≡ woken moving.files waking)
    (next : new.next ≡ old.next) (visit : new.visit ≡ old.visit + 1) (begun : new.begun ≡ old.begun) where
  files_now : new.current.files ≡ moving.files
  files_now = ap (λ (s : State). s.files) current

  awake : woken new.current.files waking ≡ new.current
  awake = ap (λ (x : Workspace). woken x waking) files_now ∙ sym current

  module _ (steps : StepsBack old.ways moving.turned new.ways) (has : HasMove old.ways.behind old.current moving)
      (earlier : old.earlier.items ≡ new.earlier.items ++ waking ∷ []) (later : new.later.items ≡ old.later.items ++ moving.rest ∷ []) where
    made_back : new.current.files ≡ edited steps.way old.current.files
    made_back = files_now ∙ has.2.files ∙
        ap (λ (x : FileChanges). edited x old.current.files) (one_last old.ways.behind new.ways.behind has.0 steps.way has.1 steps.behind)

    turned_back : IsInverse moving.turned new.current.files old.current.files
    turned_back = subst (λ (x : Workspace). IsInverse moving.turned x old.current.files) (sym files_now) has.2.turned

    at_rest : AreAtRest old.current.files (new.ways.behind ++ steps.way ∷ []) (new.earlier.items ++ waking ∷ [])
    at_rest = apart old.current.files old.ways.behind new.ways.behind old.earlier.items new.earlier.items steps.way waking steps.behind earlier keeps.earlier

    come_back : resting_states new.current.files new.ways.ahead new.later.items ≡
        resting_states old.current.files old.ways.ahead old.later.items ++ old.current ∷ []
    come_back =
        (λ i. resting_states new.current.files (steps.ahead i) (later i))
        ∙ states_come old.current new.current.files moving.turned turned_back old.ways.ahead old.later.items moving.rest has.2.rest keeps.later

    gone_back : resting_states old.current.files old.ways.behind old.earlier.items ≡
        resting_states new.current.files new.ways.behind new.earlier.items ++ new.current ∷ []
    gone_back =
        (λ i. resting_states old.current.files (steps.behind i) (earlier i))
        ∙ states_gone old.current.files new.current.files steps.way made_back new.ways.behind new.earlier.items waking at_rest
        ∙ ap (λ (s : State). resting_states new.current.files new.ways.behind new.earlier.items ++ s ∷ []) awake

    pub goes_back : IsOneStepOn new old old new
    goes_back limits out = (
      record { visit = visit; out = refl },
      record { limits = refl; earlier = gone_back; later = come_back; next = next; begun = begun },
    )

    pub keeps_back : KeepStates new
    keeps_back = record {
      stands = stands_back old.ways new.ways moving.turned old.current.files new.current.files keeps.stands steps made_back turned_back;
      earlier = side_gone old.current.files new.current.files steps.way made_back new.ways.behind new.earlier.items waking at_rest;
      later = subst (AreAtRest new.current.files new.ways.ahead) (sym later)
          (subst (λ (x : List FileChanges). AreAtRest new.current.files x (old.later.items ++ moving.rest ∷ [])) (sym steps.ahead)
          (side_come old.current new.current.files moving.turned turned_back old.ways.ahead old.later.items moving.rest has.2.rest keeps.later));
      count = subst (λ (n : ℕ). length new.earlier.items + length new.later.items ≤ n) (sym steps.depth)
          (moved_count (length old.earlier.items) (length old.later.items) (length new.earlier.items) (length new.later.items) old.ways.depth
          (ap length earlier ∙ length_push new.earlier.items waking) (ap length later ∙ length_push old.later.items moving.rest) keeps.count);
    }

  module _ (steps : StepsForth old.ways moving.turned new.ways) (has : HasMove old.ways.ahead old.current moving)
      (later : old.later.items ≡ new.later.items ++ waking ∷ []) (earlier : new.earlier.items ≡ old.earlier.items ++ moving.rest ∷ []) where
    made_forth : new.current.files ≡ edited steps.way old.current.files
    made_forth = files_now ∙ has.2.files ∙
        ap (λ (x : FileChanges). edited x old.current.files) (one_last old.ways.ahead new.ways.ahead has.0 steps.way has.1 steps.ahead)

    turned_forth : IsInverse moving.turned new.current.files old.current.files
    turned_forth = subst (λ (x : Workspace). IsInverse moving.turned x old.current.files) (sym files_now) has.2.turned

    at_rest_ahead : AreAtRest old.current.files (new.ways.ahead ++ steps.way ∷ []) (new.later.items ++ waking ∷ [])
    at_rest_ahead = apart old.current.files old.ways.ahead new.ways.ahead old.later.items new.later.items steps.way waking steps.ahead later keeps.later

    come_forth : resting_states new.current.files new.ways.behind new.earlier.items ≡
        resting_states old.current.files old.ways.behind old.earlier.items ++ old.current ∷ []
    come_forth =
        (λ i. resting_states new.current.files (steps.behind i) (earlier i))
        ∙ states_come old.current new.current.files moving.turned turned_forth old.ways.behind old.earlier.items moving.rest has.2.rest keeps.earlier

    gone_forth : resting_states old.current.files old.ways.ahead old.later.items ≡
        resting_states new.current.files new.ways.ahead new.later.items ++ new.current ∷ []
    gone_forth =
        (λ i. resting_states old.current.files (steps.ahead i) (later i))
        ∙ states_gone old.current.files new.current.files steps.way made_forth new.ways.ahead new.later.items waking at_rest_ahead
        ∙ ap (λ (s : State). resting_states new.current.files new.ways.ahead new.later.items ++ s ∷ []) awake

    pub goes_forth : IsOneStepOn old new old new
    goes_forth limits out = (
      record { visit = visit; out = refl },
      record { limits = refl; earlier = come_forth; later = gone_forth; next = sym next; begun = sym begun },
    )

    pub keeps_forth : KeepStates new
    keeps_forth = record {
      stands = stands_forth old.ways new.ways moving.turned old.current.files new.current.files keeps.stands steps made_forth turned_forth;
      earlier = subst (AreAtRest new.current.files new.ways.behind) (sym earlier)
          (subst (λ (x : List FileChanges). AreAtRest new.current.files x (old.earlier.items ++ moving.rest ∷ [])) (sym steps.behind)
          (side_come old.current new.current.files moving.turned turned_forth old.ways.behind old.earlier.items moving.rest has.2.rest keeps.earlier));
      later = side_gone old.current.files new.current.files steps.way made_forth new.ways.ahead new.later.items waking at_rest_ahead;
      count = subst (λ (n : ℕ). length new.earlier.items + length new.later.items ≤ n) (sym steps.depth)
          (moved_count_forth (length old.earlier.items) (length old.later.items) (length new.earlier.items) (length new.later.items) old.ways.depth
          (ap length later ∙ length_push new.later.items waking) (ap length earlier ∙ length_push old.earlier.items moving.rest) keeps.count);
    }
