-- Lists of states at rest that got room, and what a move asks of them.
use Rattle.std.proofs.Common.{◌≡◌, ℕ, ◌+◌, ◌<◌, ◌≤◌, Global, Vec, Option, Some, Result, Ok, Err, List, [], ◌∷◌, ◌++◌, length, arith, refl, sym, ap, subst, ◌∙◌}
use Rattle.std.specs.Prelude.{option_to_list}
use Rattle.std.proofs.lemmas.List.{length_push}
use Rattle.std.specs.Result.{IsErrAnd}
use Rattle.base_files.specs.Workspace.{Workspace}
use Rattle.base_files.specs.declared.refusal.Refusal.{Refusal}
use Rattle.base_files.specs.declared.refusal.Refusal.TheVariants.{Memory}
use Rattle.base_files.specs.declared.limits.Limits.{Limits}
use Rattle.base_edits.specs.EditSet.{FileChanges}
use Rattle.build_unit.specs.Jobs.{JobsOut}
use Rattle.history_inverses.specs.Inverses.{IsLast}
use Rattle.history_machine.specs.declared.event.Event.{Event}
use Rattle.history_machine.specs.declared.event.Reply.TheVariants.{Refused}
use Rattle.history_machine.specs.declared.resting.Resting.{Resting}
use Rattle.history_machine.specs.Machine.{Content}
use Rattle.history_machine.specs.Step.{AnswersOrLacks, BringsJob, done}
use Rattle.history_book.specs.declared.states.States.{States}
use Rattle.history_book.specs.Histories.{AreAtRest, KeepStates, content_of, resting_states}
use Rattle.history_book.proofs.AtRest.{as_many}

module _ (s : States) (other : Vec Resting Global) where
  module _ (same : other.items ≡ s.later.items) where
    pub keeps_later : KeepStates s → KeepStates (record s { later = other })
    keeps_later keeps = record {
      stands = keeps.stands;
      earlier = keeps.earlier;
      later = subst (AreAtRest s.current.files s.ways.ahead) (sym same) keeps.later;
      count = subst (λ (rests : List Resting). length s.earlier.items + length rests ≤ s.ways.depth) (sym same) keeps.count;
    }

    pub content_later : (limits : Limits) (out : JobsOut) → content_of (record s { later = other }) limits out ≡ content_of s limits out
    content_later limits out = λ i. record {
      limits = limits;
      earlier = resting_states s.current.files s.ways.behind s.earlier.items;
      current = s.current;
      later = resting_states s.current.files s.ways.ahead (same i);
      next = s.next;
      visit = s.visit;
      begun = s.begun;
      out = out;
    }

  module _ (same : other.items ≡ s.earlier.items) where
    pub keeps_earlier : KeepStates s → KeepStates (record s { earlier = other })
    keeps_earlier keeps = record {
      stands = keeps.stands;
      earlier = subst (AreAtRest s.current.files s.ways.behind) (sym same) keeps.earlier;
      later = keeps.later;
      count = subst (λ (rests : List Resting). length rests + length s.later.items ≤ s.ways.depth) (sym same) keeps.count;
    }

    pub content_earlier : (limits : Limits) (out : JobsOut) → content_of (record s { earlier = other }) limits out ≡ content_of s limits out
    content_earlier limits out = λ i. record {
      limits = limits;
      earlier = resting_states s.current.files s.ways.behind (same i);
      current = s.current;
      later = resting_states s.current.files s.ways.ahead s.later.items;
      next = s.next;
      visit = s.visit;
      begun = s.begun;
      out = out;
    }

-- where there is an inverse, a state rests
pub some_rest : (w : Workspace) (ways : List FileChanges) (rests : List Resting) (way : FileChanges) → IsLast ways way → AreAtRest w ways rests →
    0 < length rests
some_rest w ways rests way last are = above (length last.0) (length ways) (length rests) (ap length last.1 ∙ length_push last.0 way) (as_many w ways rests are)
  where
    above : (a b c : ℕ) → b ≡ a + 1 → b ≡ c → 0 < c
    above a b c e1 e2 = omega arith

-- where no state rests, none is in the content
pub none_awake : (w : Workspace) (ways : List FileChanges) (rests : List Resting) → rests ≡ [] → resting_states w ways rests ≡ []
none_awake w [] rests none = refl
none_awake w (way ∷ ways) rests none = ap (λ (x : List Resting). resting_states w (way ∷ ways) x) none

-- the state that was taken from the end
pub taken_last : (xs ys : List Resting) (o : Option Resting) (x : Resting) → xs ≡ ys ++ option_to_list o → o ≡ Some x → xs ≡ ys ++ x ∷ []
taken_last xs ys o x is some = is ∙ ap (λ (p : Option Resting). ys ++ option_to_list p) some

-- want of memory for a move leaves everything as it was
pub lacking_room : (old new : Content) (event : Event) (r : Result ℕ Refusal) → (BringsJob event → ⊥) → IsErrAnd r (λ n. n ≡ Memory) → new ≡ old →
    AnswersOrLacks old event (done r) new
lacking_room old new event (Ok number) alone lacks same = absurd lacks
lacking_room old new event (Err refusal) alone lacks same = subst (λ n. AnswersOrLacks old event (Refused n) new) (sym lacks) (alone, same)
