-- The answers to the goals of `rescoped::bindings_are_kept_without_conflicts`.
use Rattle.go_scope.proofs.Nests.{nests}
use Rattle.law_rename.proofs.Exactness.{exact}
use Rattle.law_rename.proofs.rescoped.bindings_are_kept_without_conflicts.Goals as goal

pub returns : goal.returns
returns c = λ l before d y after r. exact l (nests l r.well_formed) before after d y r.all_count r.declared r.other_name r.renaming
