-- What is known of the seats that threads return.
use mathlib.Core.Logic.{∥∥₁_map}
use Rattle.std.proofs.Common.{◌≡◌, ◌+◌, ℕ, List, [], ◌∷◌, ◌++◌, All, append_assoc, inl, inr, length, length-append, refl, sym, ap, subst, ◌∙◌}
use Rattle.std.proofs.lemmas.List.{length_push}
use Rattle.std.proofs.lemmas.List.Elements.{All-push}
use Rattle.server_shared.specs.declared.receipt.Receipt.{Receipt}
use Rattle.server_shared.specs.Held.{WithHandedIn}
use Rattle.server_shared.specs.Working.{AccountsForTurns, TakesSome, WorksOn}
use Rattle.server_shared.proofs.ShiftLaws.{works_more, works_none}
use Rattle.server_socket.specs.Session.{AccountsForMessages, AnswersAtSeat, HoldsSome}
use Rattle.server_socket.specs.Returned.{Adds, AreReturned, HasServed, HasWorked, IsCalled}
use Rattle.server_socket.proofs.SessionLaws.{some_more}

module _ (most : ℕ) where
  -- nothing was called yet
  pub served_none : (seat : List Receipt) → seat ≡ [] → ∥ HasServed most seat ∥₁
  served_none seat none = ∣ ([], refl, (0, none)) ∣₁

  pub worked_none : (seat : List Receipt) → seat ≡ [] → ∥ HasWorked most seat ∥₁
  worked_none seat none = ∣ works_none most seat none ∣₁

  -- sessions are held at a seat at which sessions alone were held
  pub served_more : (old new : List Receipt) → ∥ HasServed most old ∥₁ → WithHandedIn (HoldsSome most) old new → ∥ HasServed most new ∥₁
  served_more old new was held = ∥∥₁_map was (λ (h : HasServed most old). some_more most [] old new h held)

  -- a worker takes turns at a seat at which a worker alone took turns
  pub worked_more : (old new : List Receipt) → ∥ HasWorked most old ∥₁ → WorksOn most old new → ∥ HasWorked most new ∥₁
  worked_more old new was taken = ∥∥₁_map was (λ (h : HasWorked most old). works_more most [] old new h taken)

  -- what a seat hands in
  pub messages_called : AccountsForMessages (IsCalled most) most []
  messages_called new answered = ∣ inr answered ∣₁

  pub turns_called : AccountsForTurns (IsCalled most) most []
  turns_called new taken = ∣ inl taken ∣₁

module _ (P : List Receipt → Type 0) where
  -- one seat more
  adds_more : (n : ℕ) (old mid : List (List Receipt)) (seat : List Receipt) → Adds P n old mid → ∥ P seat ∥₁ → Adds P (n + 1) old (mid ++ seat ∷ [])
  adds_more n old mid seat h p = (
    h.0 ++ seat ∷ [],
    ap (λ (x : List (List Receipt)). x ++ seat ∷ []) h.1 ∙ append_assoc old h.0 (seat ∷ []),
    length-append h.0 (seat ∷ []) ∙ ap (λ (k : ℕ). k + 1) h.2,
    All-push (λ (receipts : List Receipt). ∥ P receipts ∥₁) h.0 seat h.3 p,
  )

  -- as a loop over owned seats adds it
  pub adds_pushed : {Y : Type 0} (ys : List Y) (y : Y) (old mid new : List (List Receipt)) (seat : List Receipt) → new ≡ mid ++ seat ∷ [] →
      Adds P (length ys) old mid →
      ∥ P seat ∥₁ → Adds P (length (ys ++ y ∷ [])) old new
  adds_pushed ys y old mid new seat e h p =
      subst (λ (x : List (List Receipt)). Adds P (length (ys ++ y ∷ [])) old x) (sym e)
      (subst (λ (n : ℕ). Adds P n old (mid ++ seat ∷ [])) (sym (length_push ys y)) (adds_more (length ys) old mid seat h p))

  -- one seat more that is accounted for
  pub all_pushed : (old new : List (List Receipt)) (seat : List Receipt) → new ≡ old ++ seat ∷ [] → All (λ (receipts : List Receipt). ∥ P receipts ∥₁) old →
      ∥ P seat ∥₁ → All (λ (receipts : List Receipt). ∥ P receipts ∥₁) new
  all_pushed old new seat e all p =
      subst (λ (x : List (List Receipt)). All (λ (receipts : List Receipt). ∥ P receipts ∥₁) x) (sym e)
      (All-push (λ (receipts : List Receipt). ∥ P receipts ∥₁) old seat all p)

-- the seats of workers, and those of threads of sessions behind them
pub returned : (most workers sessions : ℕ) (all some : List (List Receipt)) → Adds (HasWorked most) workers [] some → Adds (HasServed most) sessions some all →
    AreReturned most workers sessions all
returned most workers sessions all some work serve = record {
  at_work = work.0;
  in_sessions = serve.0;
  all = serve.1 ∙ ap (λ (x : List (List Receipt)). x ++ serve.0) work.1;
  worker_count = work.2;
  session_count = serve.2;
  worked = work.3;
  served = serve.3;
}
