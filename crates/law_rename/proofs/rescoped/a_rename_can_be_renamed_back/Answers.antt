-- The answers to the goals of `rescoped::a_rename_can_be_renamed_back`.
use Rattle.go_scope.proofs.Nests.{nests}
use Rattle.law_rename.proofs.AfterRename.{after_d}
use Rattle.law_rename.proofs.Exactness.{all_count_after, declares_same, back}
use Rattle.law_rename.specs.Renaming.{KeepsScopeBindings}
use Rattle.std.proofs.Common.{sym, ◌∙◌}
use Rattle.law_rename.proofs.rescoped.a_rename_can_be_renamed_back.Goals as goal

pub returns : goal.returns
returns c = λ l before d y after r same.
    let keep : KeepsScopeBindings l before after = (λ u e b. (same u e).0 b) in
    record {
      well_formed = r.well_formed;
      all_count = all_count_after l (nests l r.well_formed) before after d y r.all_count r.declared r.other_name r.renaming keep;
      declared = (declares_same l (nests l r.well_formed) before after d y r.all_count r.declared r.other_name r.renaming keep d).0 r.declared;
      other_name = λ e. r.other_name (sym e ∙ after_d l (nests l r.well_formed) before after d y r.all_count r.declared r.renaming);
      renaming = back l (nests l r.well_formed) before after d y r.all_count r.declared r.other_name r.renaming same;
    }
