-- The answers to the goals of `all_bound::member_names_of_typed_files_are_bound`.
use Rattle.law_faultless.proofs.LinksBound.{member_bound}
use Rattle.law_faultless.proofs.all_bound.member_names_of_typed_files_are_bound.Goals as goal

pub returns : goal.returns
returns c = λ w known p is u stands name uses a typed. member_bound w known p.path p is.is_checked u stands uses a typed name
