-- The receipts of the last chapter, with what the seats still held.
use Rattle.std.proofs.Common.{refl, sym, ◌∙◌, true, false, arith}
use Rattle.std.proofs.lemmas.Bool.{false≢true}
use Rattle.server_shared.proofs.SettlingLaws.{settling_of}
use Rattle.server_shared.proofs.locked.Locked.settle.Goals as goal

pub returns-then-is_settled_by-clause-settled : goal.returns-then-is_settled_by-clause-settled
returns-then-is_settled_by-clause-settled g c =
    let exact = c.is_settled_by.ensures.exact in
    settling_of g.L.Opening.accounts g.L.Opening.begun g.L.Opening.from c.args.self.from g.L.Ledger.parts c.args.seats.items c.args.self.book
    c.args.self.handed.items
    c.gathered-all.new.handed.items c.args.self.count.total c.gathered-all.result.amount c.gathered-all.result.parts true c.args.self.past
    c.gathered-all.ensures.handed (λ e. exact.0 c.if-is_settled_by.true, λ s. refl) c.args.self.counted c.audit.ensures.bound c.audit.ensures.whole
    (omega (arith, c.gathered-all.ensures.amount, c.args.free.none_yet)) c.gathered-all.ensures.apart (omega (arith, c.gathered-all.ensures.parts))
    c.gathered-all.ensures.bound c.gathered-all.ensures.whole

pub returns-clause-settled : goal.returns-clause-settled
returns-clause-settled g c =
    let exact = c.is_settled_by.ensures.exact in
    settling_of g.L.Opening.accounts g.L.Opening.begun g.L.Opening.from c.args.self.from g.L.Ledger.parts c.args.seats.items c.args.self.book
    c.args.self.handed.items
    c.gathered-all.new.handed.items c.args.self.count.total c.gathered-all.result.amount c.gathered-all.result.parts false c.args.self.past
    c.gathered-all.ensures.handed (λ e. absurd (false≢true e), λ s. absurd (false≢true (sym c.if-is_settled_by.false ∙ exact.1 s))) c.args.self.counted
    c.audit.ensures.bound c.audit.ensures.whole (omega (arith, c.gathered-all.ensures.amount, c.args.free.none_yet)) c.gathered-all.ensures.apart
    (omega (arith, c.gathered-all.ensures.parts)) c.gathered-all.ensures.bound c.gathered-all.ensures.whole
