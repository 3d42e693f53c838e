-- The seats of workers, and then those of threads of sessions.
use Rattle.std.proofs.Common.{List, All, subst, sym, vec_len}
use Rattle.std.proofs.lemmas.List.Elements.{All-nil}
use Rattle.server_socket.specs.Returned.{Adds, HasWorked}
use Rattle.server_shared.specs.declared.receipt.Receipt.{Receipt}
use Rattle.server_socket.proofs.ReturnedLaws.{returned}
use Rattle.server_socket.proofs.returned.Seats.all.Goals as goal

pub add_workers-requires-clause-known : goal.add_workers-requires-clause-known
add_workers-requires-clause-known g c =
    subst (λ (x : List (List Receipt)). All (λ (seat : List Receipt). ∥ g.L.Opening.accounts seat ∥₁) x) (sym c.requires.none)
    (All-nil (λ (seat : List Receipt). ∥ g.L.Opening.accounts seat ∥₁))

pub returns-clause-returned : goal.returns-clause-returned
returns-clause-returned g c =
    let most = g.L.Opening.most in
    let some = c.add_workers.new.all.items in
    let work = subst (λ (x : List (List Receipt)). Adds (HasWorked most) (vec_len c.args.self.workers) x some) c.requires.none c.add_workers.ensures.added in
    returned most (vec_len c.args.self.workers) (vec_len c.args.self.sessions)
    c.add_sessions.new.all.items some work c.add_sessions.ensures.added
