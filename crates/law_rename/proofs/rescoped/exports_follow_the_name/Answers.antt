-- The answers to the goals of `rescoped::exports_follow_the_name`.
use Rattle.go_scope.proofs.Nests.{nests}
use Rattle.law_rename.proofs.Exports.{seen_exactly, new_name_free, old_name_gone, seen_under_others}
use Rattle.law_rename.proofs.rescoped.exports_follow_the_name.Goals as goal

pub returns-clause-renamed : goal.returns-clause-renamed
returns-clause-renamed c = λ l before d y after r keep level.
    seen_exactly l (nests l r.well_formed) before after d y r.all_count r.declared r.other_name r.renaming keep level

pub returns-clause-new_was_free : goal.returns-clause-new_was_free
returns-clause-new_was_free c = λ l before d y after r keep level e s.
    new_name_free l (nests l r.well_formed) before after d y r.all_count r.declared r.other_name r.renaming keep level e s

pub returns-clause-old_is_free : goal.returns-clause-old_is_free
returns-clause-old_is_free c = λ l before d y after r keep level e s.
    old_name_gone l (nests l r.well_formed) before after d y r.all_count r.declared r.other_name r.renaming keep level e s

pub returns-clause-others : goal.returns-clause-others
returns-clause-others c = λ l before d y after r keep name not_old not_new e.
    seen_under_others l (nests l r.well_formed) before after d y r.all_count r.declared r.other_name r.renaming keep name not_old not_new e
