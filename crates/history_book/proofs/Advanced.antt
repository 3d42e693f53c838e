-- The states after a change.
use Rattle.std.proofs.Common.{◌≡◌, ℕ, ◌+◌, ◌-◌, ◌≤◌, List, [], ◌∷◌, ◌++◌, length, drop, arith, sym, ap, subst, ◌∙◌}
use Rattle.std.proofs.lemmas.List.{length-drop}
use Rattle.base_files.specs.declared.limits.Limits.{Limits}
use Rattle.base_edits.specs.EditSet.{FileChanges}
use Rattle.base_edits.specs.Inverse.{IsInverse}
use Rattle.history_inverses.specs.Inverses.{Inverses, CanWalk, latest}
use Rattle.history_inverses.proofs.Walks.{can_change}
use Rattle.history_machine.specs.declared.resting.Resting.{Resting}
use Rattle.history_machine.specs.Machine.{newest}
use Rattle.history_machine.specs.Resting.{IsRestOf}
use Rattle.history_machine.specs.State.{State}
use Rattle.history_book.specs.declared.states.States.{States}
use Rattle.history_book.specs.Histories.{AreAtRest, GainsState, KeepStates, resting_states}
use Rattle.history_book.proofs.AtRest.{as_many, rest_drop, states_drop, states_many}
use Rattle.history_book.proofs.Sides.{side_come, states_come}

-- the latest of a list are at most so many
pub few_left : (most : ℕ) (rests : List Resting) → length (drop (length rests - most) rests) ≤ most
few_left most rests = few (length rests) most (length (drop (length rests - most) rests)) (length-drop (length rests - most) rests)
  where
    few : (n u d : ℕ) → d ≡ n - (n - u) → d ≤ u
    few n u d e = omega arith

few_states : (a b c u n : ℕ) → a ≡ c → b ≡ 0 → c ≤ u → u ≡ n → a + b ≤ n
few_states a b c u n e1 e2 le e3 = omega arith

-- a state more, and the oldest gone where there are more than the history keeps
module _ (old new : States) (keeps : KeepStates old) (next : State) (back : FileChanges) (leads : IsInverse back next.files old.current.files)
    (rest : Resting) (kept : IsRestOf old.current rest) (ways_before : Inverses) (behind_before : ways_before.behind ≡ old.ways.behind)
    (depth_before : ways_before.depth ≡ old.ways.depth)
    (behind : new.ways.behind ≡ latest ways_before.depth (ways_before.behind ++ back ∷ [])) (ahead : new.ways.ahead ≡ [])
    (depth : new.ways.depth ≡ ways_before.depth) (current : new.current ≡ next)
    (limits : Limits) (limit : old.ways.depth ≡ limits.undo_depth)
    (earlier : new.earlier.items ≡ latest limits.undo_depth (old.earlier.items ++ rest ∷ [])) (later : new.later.items ≡ []) where
  abbrev ways : List FileChanges
  ways = old.ways.behind ++ back ∷ []

  abbrev rests : List Resting
  rests = old.earlier.items ++ rest ∷ []

  abbrev gone : ℕ
  gone = length rests - limits.undo_depth

  all_rest : AreAtRest next.files ways rests
  all_rest = side_come old.current next.files back leads old.ways.behind old.earlier.items rest kept keeps.earlier

  behind_is : new.ways.behind ≡ drop gone ways
  behind_is = behind ∙ (λ i. drop (length (behind_before i ++ back ∷ []) - (depth_before ∙ limit) i) (behind_before i ++ back ∷ [])) ∙
      ap (λ (n : ℕ). drop (n - limits.undo_depth) ways) (as_many next.files ways rests all_rest)

  earlier_now : resting_states new.current.files new.ways.behind new.earlier.items ≡
      newest limits.undo_depth (resting_states old.current.files old.ways.behind old.earlier.items ++ old.current ∷ [])
  earlier_now =
      (λ i. resting_states (current i).files (behind_is i) (earlier i))
      ∙ states_drop gone next.files ways rests all_rest
      ∙ ap (λ (n : ℕ). drop (n - limits.undo_depth) (resting_states next.files ways rests)) (sym (states_many next.files ways rests all_rest))
      ∙ ap (newest limits.undo_depth) (states_come old.current next.files back leads old.ways.behind old.earlier.items rest kept keeps.earlier)

  later_now : resting_states new.current.files new.ways.ahead new.later.items ≡ []
  later_now = λ i. resting_states new.current.files (ahead i) new.later.items

  numbered : next.number ≡ old.next → next ≡ record { number = old.next; files = next.files; finished = next.finished }
  numbered number = λ k. record { number = number k; files = next.files; finished = next.finished }

  pub gains_state : next.number ≡ old.next → new.next ≡ old.next + 1 → new.visit ≡ old.visit + 1 → new.begun ≡ old.begun →
      GainsState limits old next new
  gains_state number rises visit begun out = λ i. record {
    limits = limits;
    earlier = earlier_now i;
    current = (current ∙ numbered number) i;
    later = later_now i;
    next = rises i;
    visit = visit i;
    begun = begun i;
    out = out;
  }

  pub keeps_gained : length (drop gone rests) ≤ limits.undo_depth → KeepStates new
  keeps_gained few = record {
    stands = record {
      behind = subst (CanWalk new.current.files) (sym behind_is)
          (subst (λ (s : State). CanWalk s.files (drop gone ways)) (sym current)
          (can_change gone old.current.files next.files old.ways.behind back leads keeps.stands.behind));
      ahead = subst (CanWalk new.current.files) (sym ahead) tt;
    };
    earlier = subst (λ (s : State). AreAtRest s.files new.ways.behind new.earlier.items) (sym current)
        (subst (λ (x : List FileChanges). AreAtRest next.files x new.earlier.items) (sym behind_is)
        (subst (AreAtRest next.files (drop gone ways)) (sym earlier) (rest_drop gone next.files ways rests all_rest)));
    later = subst (λ (x : List FileChanges). AreAtRest new.current.files x new.later.items) (sym ahead)
        (subst (AreAtRest new.current.files []) (sym later) tt);
    count = few_states (length new.earlier.items) (length new.later.items) (length (drop gone rests)) limits.undo_depth new.ways.depth
        (ap length earlier) (ap length later) few (sym limit ∙ sym depth_before ∙ sym depth);
  }
