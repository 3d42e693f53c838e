-- The answers to the goals of `rescoped::imports_are_kept_where_all_else_is`.
use Rattle.go_scope.proofs.Nests.{nests}
use Rattle.law_rename.proofs.Imports.{imports_kept}
use Rattle.law_rename.proofs.rescoped.imports_are_kept_where_all_else_is.Goals as goal

pub returns : goal.returns
returns c = λ l before d y after r used keep. imports_kept l (nests l r.well_formed) before after d y r.all_count r.declared r.other_name r.renaming used keep
