-- The answers to the goals of `all_bound::member_names_are_bound_unless_excused`.
use Rattle.refs_binding.specs.Binding.{by_member}
use Rattle.law_faultless.proofs.NoFaults.{typed_unless}
use Rattle.law_faultless.proofs.LinksBound.{member_bound}
use Rattle.law_faultless.proofs.all_bound.member_names_are_bound_unless_excused.Goals as goal

pub returns : goal.returns
returns c = λ w sound known right p is u stands name uses a unexcused.
    let typed = typed_unless w sound known right p is (p.layout.place u).file uses a unexcused in
    let d = member_bound w known p.path p is.is_checked u stands uses a typed name in (d.0, by_member d.1)
