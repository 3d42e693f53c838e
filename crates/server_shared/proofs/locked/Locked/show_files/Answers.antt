-- What is shown ends with the book's files.
use Rattle.std.proofs.Common.{IfSome, List, subst, sym}
use Rattle.base_files.specs.Workspace.{Workspace}
use Rattle.server_versions.specs.Growing.{IsLastVersion}
use Rattle.server_shared.proofs.locked.Locked.show_files.Goals as goal

pub show-requires : goal.show-requires
show-requires g c = λ is. subst (λ (w : Workspace). IsLastVersion c.args.self.now.files_log.seen w) (sym c.files.ensures) (c.args.self.now.seen is)

pub returns-clause-shown : goal.returns-clause-shown
returns-clause-shown g c =
    subst (λ (w : Workspace). IfSome c.show.result (λ (v : List Workspace). IsLastVersion v w)) c.files.ensures c.show.ensures.shown

pub invariant_of-self-clause-seen : goal.invariant_of-self-clause-seen
invariant_of-self-clause-seen g c = λ is.
    subst (λ (w : Workspace). IsLastVersion c.show.new.self.seen w) c.files.ensures (c.show.ensures.here is)
