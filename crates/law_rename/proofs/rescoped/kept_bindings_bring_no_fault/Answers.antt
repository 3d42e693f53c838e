-- The answers to the goals of `rescoped::kept_bindings_bring_no_fault`.
use Rattle.go_scope.proofs.Nests.{nests}
use Rattle.law_rename.proofs.Exactness.{declares_same, uses_same, all_count_after, uses_bound}
use Rattle.law_rename.proofs.Imports.{imports_used}
use Rattle.law_rename.proofs.rescoped.kept_bindings_bring_no_fault.Goals as goal

pub returns-clause-declarations : goal.returns-clause-declarations
returns-clause-declarations c = λ l before d y after r keep x.
    declares_same l (nests l r.well_formed) before after d y r.all_count r.declared r.other_name r.renaming keep x

pub returns-clause-uses : goal.returns-clause-uses
returns-clause-uses c = λ l before d y after r keep u.
    uses_same l (nests l r.well_formed) before after d y r.all_count r.declared r.other_name r.renaming keep u

pub returns-clause-none_repeated : goal.returns-clause-none_repeated
returns-clause-none_repeated c = λ l before d y after r keep.
    all_count_after l (nests l r.well_formed) before after d y r.all_count r.declared r.other_name r.renaming keep

pub returns-clause-imports_used : goal.returns-clause-imports_used
returns-clause-imports_used c = λ l before d y after r used keep.
    imports_used l (nests l r.well_formed) before after d y r.all_count r.declared r.other_name r.renaming used keep

pub returns-clause-uses_bound : goal.returns-clause-uses_bound
returns-clause-uses_bound c = λ l before d y after r all_bound keep.
    uses_bound l (nests l r.well_formed) before after d y r.all_count r.declared r.other_name r.renaming all_bound keep
