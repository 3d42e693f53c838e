-- What was settled with the seats of all threads.
use Rattle.std.proofs.Common.{◌∙◌, ◌+◌, ℕ, List, sym, subst}
use Rattle.std.specs.Prelude.{All}
use Rattle.std.proofs.lemmas.List.Elements.{All-nil}
use Rattle.server_shared.specs.declared.receipt.Receipt.{Receipt}
use Rattle.server_socket.specs.Returned.{AreReturned, IsCalled}
use Rattle.server_socket.specs.Served.{Settles}
use Rattle.server_socket.proofs.ServedLaws.{journal_full, not_served, served, settles_weaker}
use Rattle.server_socket.proofs.serving.serve_in.Goals as goal

pub returns-in-Ok : goal.returns-in-Ok
returns-in-Ok g c =
    let workers = c.args.words.now.workers in
    let sessions = c.args.words.now.sessions in
    let seats = c.in-Ok.seats in
    let here = settles_weaker g.L.Opening.accounts (IsCalled 1000000) c.requires.told g.L.Opening.begun g.L.Opening.from g.L.Ledger.parts g.L.Opening.limits
    seats.items c.settle.result
    c.settle.ensures in
    served workers sessions _ g.L.Opening.begun g.L.Opening.from seats.items c.settle.result c.requires.fresh
    (subst (λ (most : ℕ). AreReturned most workers sessions seats.items) c.requires.most c.in-Ok.ensures.all)
    (subst (λ (numbers : List ℕ). Settles (IsCalled 1000000) g.L.Opening.begun g.L.Opening.from (workers + sessions) numbers seats.items c.settle.result)
    c.requires.limits
    (subst (λ (n : ℕ). Settles (IsCalled 1000000) g.L.Opening.begun g.L.Opening.from n g.L.Opening.limits seats.items c.settle.result) (sym c.requires.parts
    ∙ c.requires.seats) here))

pub returns-in-Err : goal.returns-in-Err
returns-in-Err g c = not_served c.args.words.now.workers c.args.words.now.sessions _ c.in-Err.fault c.in-Err.ensures.err

pub settle-ended-requires : goal.settle-ended-requires
settle-ended-requires g c = record {
  known = subst (λ (seats : List (List Receipt)). All (λ (seat : List Receipt). ∥ g.L.Opening.accounts seat ∥₁) seats) (sym c.new.ensures.items)
      (All-nil (λ (seat : List Receipt). ∥ g.L.Opening.accounts seat ∥₁));
}

pub new-shared-requires-clause-most : goal.new-shared-requires-clause-most
new-shared-requires-clause-most g c = journal_full c.args.opened.book.limits c.requires.full ∙ sym c.requires.most
