-- The chapter was settled, so its border is one more of the past. Where it is not closed, the receipts are in another order.
use mathlib.Core.Logic.{∥∥₁_map}
use Rattle.std.proofs.Common.{List, length, sym, ap, subst, arith}
use Rattle.history_machine.specs.Machine.{Machine}
use Rattle.server_shared.specs.Past.{HasPast, IsHandedIn}
use Rattle.server_shared.specs.declared.receipt.Receipt.{Receipt}
use Rattle.server_shared.proofs.SettlingLaws.{past_with_border}
use Rattle.server_shared.proofs.PastLaws.{handed_none, handed_sorted}
use Rattle.server_shared.proofs.SeenLaws.{seen_stays}
use Rattle.server_shared.proofs.locked.Locked.close_chapter.Goals as goal

pub invariant_of-self-clause-known : goal.invariant_of-self-clause-known
invariant_of-self-clause-known g c =
    ∥∥₁_map c.args.self.now.known (λ (h : IsHandedIn g.L.Opening.accounts c.args.self.now.handed.items).
    handed_sorted g.L.Opening.accounts c.args.self.now.handed.items c.is_settled_by.new.handed.items c.is_settled_by.ensures.same h)

pub invariant_of-self-in-Err-clause-known : goal.invariant_of-self-in-Err-clause-known
invariant_of-self-in-Err-clause-known g c =
    ∥∥₁_map c.args.self.now.known (λ (h : IsHandedIn g.L.Opening.accounts c.args.self.now.handed.items).
    handed_sorted g.L.Opening.accounts c.args.self.now.handed.items c.is_settled_by.new.handed.items c.is_settled_by.ensures.same h)

pub invariant_of-self-in-Err-clause-counted : goal.invariant_of-self-in-Err-clause-counted
invariant_of-self-in-Err-clause-counted g c =
    omega (arith, ap (λ (m : Machine). length m.journal) c.in-Err.ensures.err, c.is_settled_by.ensures.len, c.args.self.now.counted)

pub invariant_of-self-in-Err-clause-past : goal.invariant_of-self-in-Err-clause-past
invariant_of-self-in-Err-clause-past g c =
    subst (λ (m : Machine). ∥ HasPast g.L.Opening.accounts g.L.Opening.begun g.L.Opening.from c.args.self.now.from m ∥₁) (sym c.in-Err.ensures.err)
    c.args.self.now.past

pub invariant_of-self-in-Ok-clause-counted : goal.invariant_of-self-in-Ok-clause-counted
invariant_of-self-in-Ok-clause-counted g c =
    let settled = c.is_settled_by.ensures.exact.0 c.if-not-is_settled_by.false in
    omega (arith, ap (λ (m : Machine). length m.journal) c.in-Ok.ensures.closed, ap length c.clear.ensures.items, settled.counted, c.args.self.now.counted)

pub invariant_of-self-in-Ok-clause-known : goal.invariant_of-self-in-Ok-clause-known
invariant_of-self-in-Ok-clause-known g c =
    subst (λ (xs : List Receipt). ∥ IsHandedIn g.L.Opening.accounts xs ∥₁) (sym c.clear.ensures.items) ∣ handed_none g.L.Opening.accounts ∣₁

pub invariant_of-self-in-Ok-clause-past : goal.invariant_of-self-in-Ok-clause-past
invariant_of-self-in-Ok-clause-past g c =
    subst (λ (m : Machine). ∥ HasPast g.L.Opening.accounts g.L.Opening.begun g.L.Opening.from 0 m ∥₁) (sym c.in-Ok.ensures.closed)
    (past_with_border g.L.Opening.accounts g.L.Opening.begun g.L.Opening.from c.args.self.now.from c.args.self.now.book c.args.self.now.handed.items
    (c.is_settled_by.ensures.exact.0 c.if-not-is_settled_by.false) c.args.self.now.known c.args.self.now.past)

pub invariant_of-self-in-Err-clause-seen : goal.invariant_of-self-in-Err-clause-seen
invariant_of-self-in-Err-clause-seen g c =
    seen_stays c.args.self.now.files_log.seen _ c.args.self.now.book c.close_chapter.new.self (ap (λ (m : Machine). m.current.files) c.in-Err.ensures.err) c.args.self.now.seen

pub invariant_of-self-in-Ok-clause-seen : goal.invariant_of-self-in-Ok-clause-seen
invariant_of-self-in-Ok-clause-seen g c =
    seen_stays c.args.self.now.files_log.seen _ c.args.self.now.book c.close_chapter.new.self (ap (λ (m : Machine). m.current.files) c.in-Ok.ensures.closed)
    c.args.self.now.seen
