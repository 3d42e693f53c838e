-- The seats that the threads of a server return, and what they handed in.
use Rattle.std.specs.Prelude.{◌≡◌, ◌⊎◌, ℕ, List, [], ◌++◌, All, length}
use Rattle.server_shared.specs.declared.receipt.Receipt.{Receipt}
use Rattle.server_shared.specs.Held.{WithHandedIn}
use Rattle.server_shared.specs.Working.{TakesSome, WorksOn}
use Rattle.server_socket.specs.Session.{AnswersAtSeat, HoldsSome}

-- Sessions were held at the seat, one after another, and nothing else was called there.
abbrev pub HasServed : (most : ℕ) → List Receipt → Type 0
HasServed most = WithHandedIn (HoldsSome most) []

-- A worker took turns at the seat, and nothing else was called there.
abbrev pub HasWorked : (most : ℕ) → List Receipt → Type 0
HasWorked most = WorksOn most []

-- The receipts are those of turns that a worker took at one seat, or those of messages of sessions that were answered at one. Nothing else was
-- called there, and no seat has receipts of both.
abbrev pub IsCalled : (most : ℕ) → List Receipt → Type 0
IsCalled most receipts = TakesSome most [] receipts ⊎ AnswersAtSeat most [] receipts

-- So many seats are added behind the others, and P holds of the receipts of each.
abbrev pub Adds : (List Receipt → Type 0) → (count : ℕ) → (old new : List (List Receipt)) → Type 0
Adds P count old new = (added : List (List Receipt)) × (new ≡ old ++ added) × (length added ≡ count) × All (λ receipts. ∥ P receipts ∥₁) added

-- The seats are those of so many workers, and behind them of so many threads of sessions. Nothing was called at them but by these.
pub record AreReturned (most workers sessions : ℕ) (seats : List (List Receipt)) : Type 0 where
  pub at_work : List (List Receipt)
  pub in_sessions : List (List Receipt)
  pub all : seats ≡ at_work ++ in_sessions
  pub worker_count : length at_work ≡ workers
  pub session_count : length in_sessions ≡ sessions
  pub worked : All (λ receipts. ∥ HasWorked most receipts ∥₁) at_work
  pub served : All (λ receipts. ∥ HasServed most receipts ∥₁) in_sessions
