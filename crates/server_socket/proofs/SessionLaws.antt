-- A session at a seat, whose receipts are handed in behind each message.
use Rattle.std.proofs.Common.{◌≡◌, ℕ, zero, suc, List, [], ◌++◌, Option, Result, Ok, Err, Bool, true, false, append_assoc, refl, sym, ap, subst, ⊎_elim}
use Rattle.std.specs.Prelude.{MatchResult}
use Rattle.base_files.specs.declared.limits.Limits.{Limits}
use Rattle.base_files.specs.declared.refusal.Refusal.{Refusal}
use Rattle.server_commands.specs.Wait.{Aside, SaysNumbers, SaysWait}
use Rattle.server_session.specs.declared.exchange.SessionFault.{SessionFault}
use Rattle.server_session.specs.declared.outgoing.Outgoing.{Outgoing}
use Rattle.server_session.specs.Answers.{AnswersOneAtMost}
use Rattle.server_session.specs.Sending.{SendsOut}
use Rattle.server_session.specs.Transcript.{SessionEnds, StepEnds}
use Rattle.server_session.proofs.Exchanges.{AnswersAll-append, answers_more, answers_none}
use Rattle.server_session.proofs.Served.{step_in_parts}
use Rattle.server_session.proofs.Steps.{StepEnds-append, StepEnds-none}
use Rattle.server_shared.specs.declared.receipt.Receipt.{Receipt}
use Rattle.server_shared.specs.Held.{IsRested, WithHandedIn, jobs_in_hand}
use Rattle.server_shared.proofs.ShiftLaws.{IsBehind, behind_none, behind_rested, call_shifted, looks_shifted, no_jobs}
use Rattle.server_socket.specs.SeatStep.{CallsAtSeat}
use Rattle.server_socket.specs.SeatWait.{WaitsUntilBuilt}
use Rattle.server_socket.specs.Session.{AccountsForMessages, AnswersAtRest, AnswersAtSeat, ConversesAtSeat}
use Rattle.server_socket.specs.Session.{HoldsSession, HoldsSessions, HoldsSome, ServesMessage}
use Rattle.server_socket.proofs.Lifts.{conversed, one_lifted, step_lifted}

-- messages that are answered after one more, or none
answers_behind : (most : ℕ) (old mid new : List Receipt) → AnswersOneAtMost (CallsAtSeat most) (WaitsUntilBuilt most) old mid →
    AnswersAtSeat most mid new → AnswersAtSeat most old new
answers_behind most old mid new one more =
    let first = answers_more (CallsAtSeat most) (WaitsUntilBuilt most) old old mid (answers_none (CallsAtSeat most) (WaitsUntilBuilt most) old) one in (
      first.0 ++ more.0,
      first.1 ++ more.1,
      AnswersAll-append (CallsAtSeat most) (WaitsUntilBuilt most) old mid new first.0 more.0 first.1 more.1 first.2 more.2,
    )

-- what a seat holds is accounted for
pub accounted : (P : List Receipt → Type 0) (most : ℕ) (seat : List Receipt) → AccountsForMessages P most seat → ∥ P seat ∥₁
accounted P most seat here = here seat (answers_none (CallsAtSeat most) (WaitsUntilBuilt most) seat)

-- the receipts of a message are accounted for, with those before it
pub message_accounts : (P : List Receipt → Type 0) (most : ℕ) (old mid : List Receipt) → AccountsForMessages P most old →
    AnswersOneAtMost (CallsAtSeat most) (WaitsUntilBuilt most) old mid → AccountsForMessages P most mid
message_accounts P most old mid here one new more = here new (answers_behind most old mid new one more)

-- and so they are where the seat comes to rest
pub seat_accounts : (P : List Receipt → Type 0) (most : ℕ) (mid new : List Receipt) → AccountsForMessages P most [] → AccountsForMessages P most mid →
    IsRested mid new → AccountsForMessages P most new
seat_accounts P most mid new fresh here rested = ⊎_elim
    (λ (r : (new ≡ []) × (jobs_in_hand mid ≡ 0)). subst (λ (x : List Receipt). AccountsForMessages P most x) (sym r.0) fresh)
    (λ (e : new ≡ mid). subst (λ (x : List Receipt). AccountsForMessages P most x) (sym e) here) rested

-- a message, and then its reply
pub message_served : (most : ℕ) (limits : Limits) (a b x y z : Option (List ℕ)) (old new : List Receipt) (outgoing : Outgoing)
    (result : Result Bool SessionFault) → AnswersAtRest most limits a b x y old new (Ok outgoing) → SendsOut outgoing y z result →
    ServesMessage most limits a b x z old new result
message_served most limits a b x y z old new outgoing result h sent =
    (h.0, step_in_parts (CallsAtSeat most) (WaitsUntilBuilt most) limits a b x y z old h.0 outgoing result h.1 sent, h.2, h.3)

module _ (most : ℕ) (limits : Limits) where
  -- a wait, with the receipts that were handed in before it
  wait_shifted : (past : List Receipt) → jobs_in_hand past ≡ 0 → (held : List Receipt) (told : Aside) (new : List Receipt) →
      WaitsUntilBuilt most held told new → WaitsUntilBuilt most (past ++ held) told (past ++ new)
  wait_shifted past none held (SaysWait outcome) new w = (w.0, looks_shifted most past none held w.0 new w.1, w.2)
  wait_shifted past none held (SaysNumbers outcome) new w = (w.0, ap (λ (x : List Receipt). past ++ x) w.1)

  -- a step of a session, with these
  step_shifted : (past : List Receipt) → jobs_in_hand past ≡ 0 → (before after held holds : Option (List ℕ)) (old new : List Receipt)
      (result : Result Bool SessionFault)
      → StepEnds (CallsAtSeat most) (WaitsUntilBuilt most) limits before after held holds old new result
      → StepEnds (CallsAtSeat most) (WaitsUntilBuilt most) limits before after held holds (past ++ old) (past ++ new) result
  step_shifted past none before after held holds old new result s =
      step_lifted (CallsAtSeat most) (WaitsUntilBuilt most) (CallsAtSeat most) (WaitsUntilBuilt most) (λ (x : List Receipt). 0)
      (λ (x : List Receipt). past ++ x) (λ one asked reply other c. (refl, call_shifted most past none one asked reply other c))
      (λ one told other w. (refl, wait_shifted past none one told other w)) limits before after held holds old new (past ++ old) (past ++ new) result refl
      (λ same. refl) s

  -- one message or none, with these
  one_shifted : (past : List Receipt) → jobs_in_hand past ≡ 0 → (old new : List Receipt)
      → AnswersOneAtMost (CallsAtSeat most) (WaitsUntilBuilt most) old new
      → AnswersOneAtMost (CallsAtSeat most) (WaitsUntilBuilt most) (past ++ old) (past ++ new)
  one_shifted past none old new a =
      one_lifted (CallsAtSeat most) (WaitsUntilBuilt most) (CallsAtSeat most) (WaitsUntilBuilt most) (λ (x : List Receipt). 0)
      (λ (x : List Receipt). past ++ x) (λ one asked reply other c. (refl, call_shifted most past none one asked reply other c))
      (λ one told other w. (refl, wait_shifted past none one told other w)) limits old new (past ++ old) (past ++ new) refl (λ same. refl) a

  -- the session so far: its receipts are those handed in and those that the seat holds
  pub record SessionSoFar (before after held holds : Option (List ℕ)) (old now : List Receipt) (result : Result Bool SessionFault) : Type 0 where
    pub whole : List Receipt
    pub behind : IsBehind whole now
    pub step : StepEnds (CallsAtSeat most) (WaitsUntilBuilt most) limits before after held holds old whole result
    pub answers : AnswersAtSeat most old whole

  pub so_far_none : (before held : Option (List ℕ)) (old : List Receipt) → SessionSoFar before before held held old old (Ok true)
  so_far_none before held old = record {
    whole = old;
    behind = behind_none old;
    step = StepEnds-none (CallsAtSeat most) (WaitsUntilBuilt most) limits before held old;
    answers = answers_none (CallsAtSeat most) (WaitsUntilBuilt most) old;
  }

  -- one message more
  pub so_far_on : (a b c x y z : Option (List ℕ)) (old now new : List Receipt) (result : Result Bool SessionFault) → SessionSoFar a b x y old now (Ok true) →
      ServesMessage most limits b c y z now new result → SessionSoFar a c x z old new result
  so_far_on a b c x y z old now new result h one =
      let p = h.behind in
      let shifted = step_shifted p.past p.none b c y z now one.0 result one.1 in
      let one_more = subst (λ (w : List Receipt). AnswersOneAtMost (CallsAtSeat most) (WaitsUntilBuilt most) w (p.past ++ one.0)) (sym p.is)
      (one_shifted p.past p.none now one.0 one.2) in
      let from = subst
      (λ (w : List Receipt). StepEnds (CallsAtSeat most) (WaitsUntilBuilt most) limits b c y z w (p.past ++ one.0) result) (sym p.is) shifted in
      record {
        whole = p.past ++ one.0;
        behind = behind_rested p.past one.0 new p.none one.3;
        step = StepEnds-append (CallsAtSeat most) (WaitsUntilBuilt most) limits a b c x y z old h.whole (p.past ++ one.0) result h.step from;
        answers = answers_more (CallsAtSeat most) (WaitsUntilBuilt most) old h.whole (p.past ++ one.0) h.answers one_more;
      }

  -- all of a session so far that ends with this step
  pub so_far_ends : (a c x z : Option (List ℕ)) (old new : List Receipt) (last : Result Bool SessionFault) (result : Result (Unit {0}) SessionFault)
      → ((all : List Receipt) → StepEnds (CallsAtSeat most) (WaitsUntilBuilt most) limits a c x z old all last
      → SessionEnds (CallsAtSeat most) (WaitsUntilBuilt most) limits a c x z old all result)
      → SessionSoFar a c x z old new last
      → WithHandedIn (λ old all. SessionEnds (CallsAtSeat most) (WaitsUntilBuilt most) limits a c x z old all result × AnswersAtSeat most old all) old new
  so_far_ends a c x z old new last result ends h = (
    h.behind.past,
    h.behind.none,
    (
      subst (λ (w : List Receipt). SessionEnds (CallsAtSeat most) (WaitsUntilBuilt most) limits a c x z old w result) h.behind.is (ends h.whole h.step),
      subst (λ (w : List Receipt). AnswersAtSeat most old w) h.behind.is h.answers,
    ),
  )

  -- a whole session, with the receipts that were handed in before it
  conversed_shifted : (past : List Receipt) → jobs_in_hand past ≡ 0 → (before held holds : Option (List ℕ)) (old new : List Receipt)
      (result : Result (Unit {0}) SessionFault) → ConversesAtSeat most limits before held holds old new result →
      ConversesAtSeat most limits before held holds (past ++ old) (past ++ new) result
  conversed_shifted past none before held holds old new result h =
      conversed (CallsAtSeat most) (WaitsUntilBuilt most) (CallsAtSeat most) (WaitsUntilBuilt most) (λ (x : List Receipt). 0)
      (λ (x : List Receipt). past ++ x) (λ one asked reply other c. (refl, call_shifted most past none one asked reply other c))
      (λ one told other w. (refl, wait_shifted past none one told other w)) limits before held holds old new result h (past ++ old) (past ++ new) refl
      (λ same. refl)

module _ (most : ℕ) where
  session_shifted : (past : List Receipt) → jobs_in_hand past ≡ 0 → (old new : List Receipt) → HoldsSession most old new →
      HoldsSession most (past ++ old) (past ++ new)
  session_shifted past none old new h =
      let s = h.2 in (h.0, h.1, (s.0, s.1, s.2, s.3, conversed_shifted most h.0 past none s.0 s.1 s.2 old new s.3 s.4))

  sessions_shifted : (past : List Receipt) → jobs_in_hand past ≡ 0 → (n : ℕ) (old new : List Receipt) → HoldsSessions most n old new →
      HoldsSessions most n (past ++ old) (past ++ new)
  sessions_shifted past none zero old new same = ap (λ (x : List Receipt). past ++ x) same
  sessions_shifted past none (suc n) old new h =
      (past ++ h.0, sessions_shifted past none n old h.0 h.1, session_shifted past none h.0 new h.2)

  sessions_more : (m n : ℕ) (old mid new : List Receipt) → HoldsSessions most m old mid → HoldsSessions most n mid new → HoldsSome most old new
  sessions_more m zero old mid new held h = (m, subst (λ (x : List Receipt). HoldsSessions most m old x) (sym h) held)
  sessions_more m (suc n) old mid new held h =
      let more = sessions_more m n old mid h.0 held h.1 in
      (suc more.0, (h.0, more.1, h.2))

  -- sessions are held at a seat at which sessions alone were held
  pub some_more : (old held new : List Receipt) → WithHandedIn (HoldsSome most) old held → WithHandedIn (HoldsSome most) held new →
      WithHandedIn (HoldsSome most) old new
  some_more old held new w v =
      let joined = append_assoc w.0 v.0 new in
      let shifted = sessions_shifted w.0 w.1 v.2.0 held (v.0 ++ new) v.2.1 in
      let more = sessions_more w.2.0 v.2.0 old (w.0 ++ held) (w.0 ++ (v.0 ++ new)) w.2.1 shifted in
      (w.0 ++ v.0, no_jobs w.0 v.0 w.1 v.1, subst (λ (x : List Receipt). HoldsSome most old x) (sym joined) more)

  pub none_held : (seat : List Receipt) → WithHandedIn (HoldsSome most) seat seat
  none_held seat = ([], refl, (0, refl))

  -- one session more, or none where its buffers could not be made
  pub held_more : {A B : Type 0} (old mid new : List Receipt) (result : Result A B) → WithHandedIn (HoldsSome most) old mid
      → MatchResult result (λ _. WithHandedIn (HoldsSession most) mid new) (λ _. new ≡ mid)
      → WithHandedIn (HoldsSome most) old new
  held_more old mid new (Ok ended) held h = some_more old mid new held (h.0, h.1, (1, (mid, refl, h.2)))
  held_more old mid new (Err fault) held h = subst (λ (x : List Receipt). WithHandedIn (HoldsSome most) old x) (sym h) held
