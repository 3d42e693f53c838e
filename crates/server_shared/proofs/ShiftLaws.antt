-- Calls at a seat that handed its earlier receipts in, seen with these before its own.
use Rattle.std.proofs.Common.{◌≡◌, ℕ, zero, suc, List, [], ◌∷◌, ◌++◌, inl, inr, Option, Some, None, Result, Ok, Err, refl, sym, ap, subst, ◌∙◌}
use Rattle.std.proofs.Common.{append-nil, append_assoc, ⊎_elim}
use Rattle.base_files.specs.declared.refusal.Refusal.{Refusal}
use Rattle.base_files.specs.declared.refusal.Refusal.TheVariants.{Memory}
use Rattle.history_machine.specs.declared.event.Event.{Event}
use Rattle.history_machine.specs.declared.event.Event.TheVariants.{Look}
use Rattle.history_machine.specs.declared.event.Reply.{Reply}
use Rattle.history_machine.specs.declared.event.Reply.TheVariants.{Looked}
use Rattle.history_machine.specs.declared.view.View.{View}
use Rattle.history_machine.specs.Step.{refused}
use Rattle.server_shared.specs.declared.receipt.Receipt.{Receipt}
use Rattle.server_shared.specs.declared.work_turn.WorkTurn.{WorkTurn}
use Rattle.server_shared.specs.Call.{Calls, CallsWith, Gains, IsTurnedAwayAt, LooksOnceBuilt}
use Rattle.server_shared.specs.Held.{IsRested, MayLackRoom, jobs_in_hand, jobs_left, jobs_on}
use Rattle.server_shared.specs.Steps.{TurnsAway}
use Rattle.server_shared.specs.Working.{AccountsForTurns, IsWork, TakesSome, TakesTurn, TakesTurns, WorksOn}
use Rattle.server_shared.proofs.WorkLaws.{turn_shown, turns_gain}

-- the Jobs in hand behind two lists of receipts
pub jobs_on-parts : (jobs : ℕ) (xs ys : List Receipt) → jobs_on jobs (xs ++ ys) ≡ jobs_on (jobs_on jobs xs) ys
jobs_on-parts jobs [] ys = refl
jobs_on-parts jobs (x ∷ xs) ys = jobs_on-parts (jobs_left x.entry.line.kind x.entry.line.out jobs) xs ys

module _ (most : ℕ) (past : List Receipt) (none : jobs_in_hand past ≡ 0) where
  -- no Job was in hand behind the earlier receipts
  in_hand : (held : List Receipt) → jobs_in_hand (past ++ held) ≡ jobs_in_hand held
  in_hand held = jobs_on-parts 0 past held ∙ ap (λ (n : ℕ). jobs_on n held) none

  lacks_too : (event : Event) (held : List Receipt) → MayLackRoom event (jobs_in_hand held) → MayLackRoom event (jobs_in_hand (past ++ held))
  lacks_too event held lacks = subst (λ (n : ℕ). MayLackRoom event n) (sym (in_hand held)) lacks

  turned_away : (event : Event) (reply : Reply) (held : List Receipt) → IsTurnedAwayAt most held event reply → IsTurnedAwayAt most (past ++ held) event reply
  turned_away event reply held away = ⊎_elim
      (λ (e : (reply ≡ refused event Memory) × MayLackRoom event (jobs_in_hand held)). inl (e.0, lacks_too event held e.1))
      (λ (t : TurnsAway most event reply). inr t) away

  grown : (held new : List Receipt) (receipt : Receipt) → new ≡ held ++ receipt ∷ [] → past ++ new ≡ (past ++ held) ++ receipt ∷ []
  grown held new receipt e = ap (λ (x : List Receipt). past ++ x) e ∙ sym (append_assoc past held (receipt ∷ []))

  calls_shifted : (held : List Receipt) (event : Event) (reply : Reply) (index : Option ℕ) (new : List Receipt) → Calls most held event reply index new →
      Calls most (past ++ held) event reply index (past ++ new)
  calls_shifted held event reply (Some index) new c = (c.0, c.1, c.2, grown held new c.0 c.3)
  calls_shifted held event reply None new c = (turned_away event reply held c.0, ap (λ (x : List Receipt). past ++ x) c.1)

  -- a call
  pub call_shifted : (held : List Receipt) (event : Event) (reply : Reply) (new : List Receipt) → CallsWith most held event reply new →
      CallsWith most (past ++ held) event reply (past ++ new)
  call_shifted held event reply new c = (c.0, calls_shifted held event reply c.0 new c.1)

  -- a wait
  pub looks_shifted : (held : List Receipt) (shown : Result View Refusal) (new : List Receipt) → LooksOnceBuilt most held shown new →
      LooksOnceBuilt most (past ++ held) shown (past ++ new)
  looks_shifted held (Ok view) new l = ((l.0.0, calls_shifted held Look (Looked view) (Some l.0.0) new l.0.1), l.1)
  looks_shifted held (Err refusal) new l = (l.0, ap (λ (x : List Receipt). past ++ x) l.1)

  -- a worker's turn
  pub turn_shifted : (held : List Receipt) (turn : WorkTurn) (new : List Receipt) → TakesTurn (CallsWith most) held turn new →
      TakesTurn (CallsWith most) (past ++ held) turn (past ++ new)
  turn_shifted held turn new t = turn_shown (CallsWith most) (CallsWith most) (λ (x : List Receipt). 0) (λ (x : List Receipt). past ++ x)
      (λ old event reply after c. (refl, call_shifted old event reply after c)) held turn new t (past ++ held) (past ++ new) refl (λ same. refl)

-- turns that follow others
pub turns_more : (most m n : ℕ) (old mid new : List Receipt) → TakesTurns (CallsWith most) m old mid → TakesTurns (CallsWith most) n mid new →
    TakesSome most old new
turns_more most m zero old mid new taken h = (m, subst (λ (x : List Receipt). TakesTurns (CallsWith most) m old x) (sym h) taken)
turns_more most m (suc n) old mid new taken h =
    let more = turns_more most m n old mid h.0 taken h.1 in
    (suc more.0, (h.0, more.1, h.2))

-- turns, with the receipts that were handed in before them
turns_shifted : (most : ℕ) (past : List Receipt) → jobs_in_hand past ≡ 0 → (turns : ℕ) (held new : List Receipt) →
    TakesTurns (CallsWith most) turns held new → TakesTurns (CallsWith most) turns (past ++ held) (past ++ new)
turns_shifted most past none zero held new same = ap (λ (x : List Receipt). past ++ x) same
turns_shifted most past none (suc n) held new t =
    (past ++ t.0, turns_shifted most past none n held t.0 t.1, (t.2.0, turn_shifted most past none t.0 t.2.0 new t.2.1))

-- no Job is in hand behind both
pub no_jobs : (xs ys : List Receipt) → jobs_in_hand xs ≡ 0 → jobs_in_hand ys ≡ 0 → jobs_in_hand (xs ++ ys) ≡ 0
no_jobs xs ys none other = jobs_on-parts 0 xs ys ∙ ap (λ (n : ℕ). jobs_on n ys) none ∙ other

-- a worker goes on at a seat at which it took turns
pub works_more : (most : ℕ) (old held new : List Receipt) → WorksOn most old held → WorksOn most held new → WorksOn most old new
works_more most old held new w v =
    let joined = append_assoc w.0 v.0 new in
    let shifted = turns_shifted most w.0 w.1 v.2.0 held (v.0 ++ new) v.2.1 in
    let more = turns_more most w.2.0 v.2.0 old (w.0 ++ held) (w.0 ++ (v.0 ++ new)) w.2.1 shifted in
    (w.0 ++ v.0, no_jobs w.0 v.0 w.1 v.1, subst (λ (x : List Receipt). TakesSome most old x) (sym joined) more)

-- nothing was called yet
pub works_none : (most : ℕ) (seat : List Receipt) → seat ≡ [] → WorksOn most [] seat
works_none most seat none = ([], refl, (0, none))

-- the receipts of a turn are accounted for, with those before it
pub turn_accounts : (P : List Receipt → Type 0) (most : ℕ) (old mid : List Receipt) (turn : WorkTurn) → AccountsForTurns P most old →
    TakesTurn (CallsWith most) old turn mid → AccountsForTurns P most mid
turn_accounts P most old mid turn here taken new t = here new (turns_more most 1 t.0 old mid new (old, refl, (turn, taken)) t.1)

-- and so they are where the seat comes to rest
pub rested_accounts : (P : List Receipt → Type 0) (most : ℕ) (mid new : List Receipt) → AccountsForTurns P most [] → AccountsForTurns P most mid →
    IsRested mid new → AccountsForTurns P most new
rested_accounts P most mid new fresh here rested = ⊎_elim
    (λ (r : (new ≡ []) × (jobs_in_hand mid ≡ 0)). subst (λ (x : List Receipt). AccountsForTurns P most x) (sym r.0) fresh)
    (λ (e : new ≡ mid). subst (λ (x : List Receipt). AccountsForTurns P most x) (sym e) here) rested

-- What is held, behind what was handed in: no Job is in hand behind the latter.
pub record IsBehind (whole held : List Receipt) : Type 0 where
  pub past : List Receipt
  pub none : jobs_in_hand past ≡ 0
  pub is : whole ≡ past ++ held

pub behind_none : (held : List Receipt) → IsBehind held held
behind_none held = record { past = []; none = refl; is = refl }

-- the seat comes to rest
pub behind_rested : (past mid new : List Receipt) → jobs_in_hand past ≡ 0 → IsRested mid new → IsBehind (past ++ mid) new
behind_rested past mid new none rested = ⊎_elim
    (λ (r : (new ≡ []) × (jobs_in_hand mid ≡ 0)). record {
      past = past ++ mid;
      none = jobs_on-parts 0 past mid ∙ ap (λ (n : ℕ). jobs_on n mid) none ∙ r.1;
      is = sym (append-nil (past ++ mid)) ∙ ap (λ (x : List Receipt). (past ++ mid) ++ x) (sym r.0);
    })
    (λ (e : new ≡ mid). record { past = past; none = none; is = ap (λ (x : List Receipt). past ++ x) (sym e) }) rested

-- So many turns were taken, whose receipts are `whole`: those handed in, and those that the seat holds.
pub record HaveTurned (most : ℕ) (old held : List Receipt) : Type 0 where
  pub whole : List Receipt
  pub behind : IsBehind whole held
  pub turns : ℕ
  pub taken : TakesTurns (CallsWith most) turns old whole

pub turned_none : (most : ℕ) (old : List Receipt) → HaveTurned most old old
turned_none most old = record { whole = old; behind = behind_none old; turns = 0; taken = refl }

-- one turn more, behind which the seat comes to rest
pub turned_on : (most : ℕ) (old held mid new : List Receipt) (turn : WorkTurn) → HaveTurned most old held →
    TakesTurn (CallsWith most) held turn mid → IsRested mid new → HaveTurned most old new
turned_on most old held mid new turn h taken rested =
    let b = h.behind in
    let from : TakesTurn (CallsWith most) h.whole turn (b.past ++ mid) =
    subst (λ (x : List Receipt). TakesTurn (CallsWith most) x turn (b.past ++ mid)) (sym b.is) (turn_shifted most b.past b.none held turn mid taken) in
    record {
      whole = b.past ++ mid;
      behind = behind_rested b.past mid new b.none rested;
      turns = suc h.turns;
      taken = (h.whole, h.taken, (turn, from));
    }

-- what the seat holds at last is what the turns left
pub works_on : (most : ℕ) (old held new : List Receipt) → new ≡ held → HaveTurned most old held → WorksOn most old new
works_on most old held new same h = (
  h.behind.past,
  h.behind.none,
  (
    h.turns,
    subst (λ (x : List Receipt). TakesTurns (CallsWith most) h.turns old (h.behind.past ++ x)) (sym same)
        (subst (λ (x : List Receipt). TakesTurns (CallsWith most) h.turns old x) h.behind.is h.taken),
  ),
)

-- all receipts of the turns are of a worker's events
pub work_gained : (most : ℕ) (old held new : List Receipt) → new ≡ held → HaveTurned most old held →
    (past : List Receipt) × Gains IsWork old (past ++ new)
work_gained most old held new same h =
    let w = works_on most old held new same h in
    (w.0, turns_gain most w.2.0 old (w.0 ++ new) w.2.1)
