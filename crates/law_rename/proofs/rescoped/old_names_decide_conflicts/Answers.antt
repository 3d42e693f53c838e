-- The answers to the goals of `rescoped::old_names_decide_conflicts`.
use Rattle.go_scope.proofs.Nests.{nests}
use Rattle.law_rename.proofs.Conflicts.{captures, loses}
use Rattle.law_rename.proofs.Captured.{told}
use Rattle.law_rename.proofs.Exactness.{lost_only, exact_anew}
use Rattle.law_rename.proofs.rescoped.old_names_decide_conflicts.Goals as goal

pub returns-clause-captured : goal.returns-clause-captured
returns-clause-captured c = λ l before d y after r u c2. (
  told l (nests l r.well_formed) before after d y r.all_count r.declared r.other_name r.renaming u c2,
  captures l (nests l r.well_formed) before after d y r.all_count r.declared r.other_name r.renaming u c2,
)

pub returns-clause-lost : goal.returns-clause-lost
returns-clause-lost c = λ l before d y after r u x. loses l (nests l r.well_formed) before after d y r.all_count r.declared r.other_name r.renaming u x

pub returns-clause-lost_only : goal.returns-clause-lost_only
returns-clause-lost_only c = λ l before d y after r u k safe.
    lost_only l (nests l r.well_formed) before after d y r.all_count r.declared r.other_name r.renaming u k safe

pub returns-clause-bound_anew : goal.returns-clause-bound_anew
returns-clause-bound_anew c = λ l before d y after r u c2.
    exact_anew l (nests l r.well_formed) before after d y r.all_count r.declared r.other_name r.renaming u c2
