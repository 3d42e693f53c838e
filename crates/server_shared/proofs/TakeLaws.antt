-- A Take that has a Job, as a worker sees it.
use Rattle.std.proofs.Common.{true, false, not, Bool, IsTrue, Option, Some, None, MatchOption, Result, Ok, Err, refl}
use Rattle.std.proofs.lemmas.Bool.{false≢true}
use Rattle.base_files.specs.declared.refusal.Refusal.{Refusal}
use Rattle.build_unit.specs.declared.job.JobRecord.{JobRecord}
use Rattle.history_book.specs.WorkLeft.{HasJob}
use Rattle.history_book.proofs.WorkLeft.{only_lacks}
use Rattle.history_machine.specs.declared.event.Event.TheVariants.{Take}
use Rattle.history_machine.specs.Machine.{Machine}
use Rattle.history_machine.specs.Step.{taken}
use Rattle.server_shared.specs.declared.receipt.Receipt.{Receipt}
use Rattle.server_shared.specs.Steps.{ReceiptStep}
use Rattle.server_shared.specs.Working.{LacksOnly}

-- a Take that has a Job is refused only for want of memory
pub lacks_only : (old new : Machine) (answer : Result JobRecord Refusal) (kept : Option Receipt) → HasJob old → ReceiptStep old Take (taken answer) kept new →
    LacksOnly answer
lacks_only old new (Ok job) kept has s = tt
lacks_only old new (Err refusal) (Some receipt) has s = only_lacks old new refusal has s.2.0
lacks_only old new (Err refusal) None has s = only_lacks old new refusal has s.1.0

pub not_true : (b : Bool) → IsTrue (not b) → IsTrue b → ⊥
not_true true none is = false≢true none
not_true false none is = false≢true is

pub true_not : (b : Bool) → (IsTrue b → ⊥) → IsTrue (not b)
true_not true none = absurd (none refl)
true_not false none = refl

-- what follows in each case
pub option_more : {A P R : Type 0} {Q S : A → Type 0} (o : Option A) → (P → R) → ((x : A) → Q x → S x) → MatchOption o P Q → MatchOption o R S
option_more None f g h = f h
option_more (Some x) f g h = g x h
