-- The answers to the goals of `rescoped::a_binding_is_kept_without_conflict`.
use Rattle.go_scope.proofs.Nests.{nests}
use Rattle.law_rename.proofs.Exactness.{exact_at}
use Rattle.law_rename.proofs.rescoped.a_binding_is_kept_without_conflict.Goals as goal

pub returns : goal.returns
returns c = λ l before d y after r u e b. exact_at l (nests l r.well_formed) before after d y r.all_count r.declared r.other_name r.renaming u e b
