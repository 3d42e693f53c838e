-- The answers to the goals of `rescoped::bindings_are_the_same_where_uses_are_bound`.
use Rattle.go_scope.proofs.Nests.{nests}
use Rattle.law_rename.proofs.Exactness.{exact_where_bound}
use Rattle.law_rename.proofs.rescoped.bindings_are_the_same_where_uses_are_bound.Goals as goal

pub returns : goal.returns
returns c = λ l before d y after r all_bound. exact_where_bound l (nests l r.well_formed) before after d y r.all_count r.declared r.other_name r.renaming
    all_bound
