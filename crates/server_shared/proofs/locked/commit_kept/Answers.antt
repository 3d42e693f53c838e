-- A step whose change may be kept gives a reply that its event may get, and keeps the limits. Without a store it is a plain step.
use Rattle.std.proofs.Common.{ap}
use Rattle.base_files.specs.declared.limits.Limits.{Limits}
use Rattle.history_machine.specs.Step.{done}
use Rattle.history_machine.specs.declared.event.Event.TheVariants.{Commit}
use Rattle.history_machine.proofs.Replies.{may_reply}
use Rattle.server_shared.specs.LimitNumbers.{limit_numbers}
use Rattle.server_shared.proofs.StepLaws.{keeps_limits, kept_limits, kept_may}
use Rattle.server_shared.proofs.locked.commit_kept.Goals as goal

-- ---- without a store

pub returns-in-None-clause-kind : goal.returns-in-None-clause-kind
returns-in-None-clause-kind g c =
    may_reply c.args.book.now (Commit c.args.basis c.args.change) (done c.commit_on_current.result.0) c.commit_on_current.new.self
    c.commit_on_current.ensures.0

pub returns-in-None-clause-most : goal.returns-in-None-clause-most
returns-in-None-clause-most g c =
    ap (λ (l : Limits). l.journal) (keeps_limits c.args.book.now (Commit c.args.basis c.args.change) (done c.commit_on_current.result.0)
    c.commit_on_current.new.self c.commit_on_current.ensures.0)

pub returns-in-None-clause-limits : goal.returns-in-None-clause-limits
returns-in-None-clause-limits g c =
    ap limit_numbers (keeps_limits c.args.book.now (Commit c.args.basis c.args.change) (done c.commit_on_current.result.0)
    c.commit_on_current.new.self c.commit_on_current.ensures.0)

pub returns-in-None-clause-all_limits : goal.returns-in-None-clause-all_limits
returns-in-None-clause-all_limits g c =
    keeps_limits c.args.book.now (Commit c.args.basis c.args.change) (done c.commit_on_current.result.0) c.commit_on_current.new.self
    c.commit_on_current.ensures.0

-- ---- with a store

pub returns-in-Some-clause-keeps : goal.returns-in-Some-clause-keeps
returns-in-Some-clause-keeps g c = λ keeps.
    let held = rw c.in-Some.is at keeps in
    (held.0, held.1, c.kept_commit.ensures.keeps held.0 held.1 held.2)

pub returns-in-Some-clause-kind : goal.returns-in-Some-clause-kind
returns-in-Some-clause-kind g c =
    kept_may c.args.book.now (Commit c.args.basis c.args.change) (done c.kept_commit.result.0) c.kept_commit.result.1 c.kept_commit.new.book
    c.kept_commit.ensures.step

pub returns-in-Some-clause-most : goal.returns-in-Some-clause-most
returns-in-Some-clause-most g c =
    ap (λ (l : Limits). l.journal) (kept_limits c.args.book.now (Commit c.args.basis c.args.change) (done c.kept_commit.result.0)
    c.kept_commit.result.1 c.kept_commit.new.book c.kept_commit.ensures.step)

pub returns-in-Some-clause-limits : goal.returns-in-Some-clause-limits
returns-in-Some-clause-limits g c =
    ap limit_numbers (kept_limits c.args.book.now (Commit c.args.basis c.args.change) (done c.kept_commit.result.0) c.kept_commit.result.1
    c.kept_commit.new.book c.kept_commit.ensures.step)

pub returns-in-Some-clause-all_limits : goal.returns-in-Some-clause-all_limits
returns-in-Some-clause-all_limits g c =
    kept_limits c.args.book.now (Commit c.args.basis c.args.change) (done c.kept_commit.result.0) c.kept_commit.result.1
    c.kept_commit.new.book c.kept_commit.ensures.step
