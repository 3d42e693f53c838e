-- The answers to the goals of `rescoped::declarations_stay_unless_they_assign`.
use Rattle.go_scope.proofs.Nests.{nests}
use Rattle.law_rename.proofs.Conflicts.{old_declares}
use Rattle.law_rename.proofs.Exactness.{still_declares}
use Rattle.law_rename.proofs.rescoped.declarations_stay_unless_they_assign.Goals as goal

pub returns-clause-stays : goal.returns-clause-stays
returns-clause-stays c = λ l before d y after r x dx.
    still_declares l (nests l r.well_formed) before after d y r.all_count r.declared r.other_name r.renaming x dx

pub returns-clause-none_begins : goal.returns-clause-none_begins
returns-clause-none_begins c = λ l before d y after r x dx.
    old_declares l (nests l r.well_formed) before after d y r.all_count r.declared r.other_name r.renaming x dx
