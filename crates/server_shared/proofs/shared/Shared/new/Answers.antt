-- The book closed no journal yet, no receipt was handed in, and no files were seen.
use mathlib.Core.Logic.{∥∥₁_map}
use Rattle.std.proofs.Common.{ℕ, List, length, ap, subst, sym, ◌∙◌}
use Rattle.std.proofs.lemmas.Bool.{false≢true}
use Rattle.history_machine.specs.Chapters.{HasHistory}
use Rattle.server_shared.specs.Past.{HasPast, IsHandedIn}
use Rattle.server_shared.specs.declared.receipt.Receipt.{Receipt}
use Rattle.server_shared.proofs.PastLaws.{handed_none, past_opened}
use Rattle.server_shared.proofs.shared.Shared.new.Goals as goal

pub invariant_of-new-clause-past : goal.invariant_of-new-clause-past
invariant_of-new-clause-past g c =
    let book = c.args.book in
    subst (λ (n : ℕ). ∥ HasPast g.L.Opening.accounts g.L.Opening.begun g.L.Opening.from n book ∥₁) (sym (ap length c.journal.ensures.journal))
    (subst (λ (n : ℕ). ∥ HasPast g.L.Opening.accounts g.L.Opening.begun n (length book.journal) book ∥₁) c.requires.from
    (subst (λ (n : ℕ). ∥ HasPast g.L.Opening.accounts n (length book.journal) (length book.journal) book ∥₁) c.requires.begun
    (∥∥₁_map c.journal.ensures.reached (λ (is : HasHistory book). past_opened g.L.Opening.accounts book is))))

pub invariant_of-new-clause-known : goal.invariant_of-new-clause-known
invariant_of-new-clause-known g c =
    subst (λ (xs : List Receipt). ∥ IsHandedIn g.L.Opening.accounts xs ∥₁) (sym c.new.ensures.items) ∣ handed_none g.L.Opening.accounts ∣₁

pub invariant_of-new-clause-seen : goal.invariant_of-new-clause-seen
invariant_of-new-clause-seen g c = λ is. absurd (false≢true (sym c.new-files_log.ensures ∙ is))
