-- The answers to the goals of `all_bound::member_names_are_bound_where_names_mean`.
use Rattle.go_ast.specs.SourceFile.{spelling_of}
use Rattle.refs_binding.specs.Binding.{by_member}
use Rattle.law_faultless.proofs.Fine.{world_unbroken}
use Rattle.law_faultless.proofs.LinksBound.{member_bound}
use Rattle.law_faultless.proofs.Rules.{keeps_rules}
use Rattle.law_faultless.proofs.Scoped.{file_resolved}
use Rattle.law_faultless.proofs.all_bound.member_names_are_bound_where_names_mean.Goals as goal

pub returns : goal.returns
returns c = λ w sound known right worlds p is u stands name uses a mean.
    let file = (p.layout.place u).file in
    let unbroken = world_unbroken w sound known right worlds p is file a.source a.world a.judged_by in
    let resolved = file_resolved w known p.path p is.is_checked file uses a unbroken mean in
    let typed = keeps_rules w sound known right worlds p is file uses a (record { rank = file; spell = spelling_of a.source }) resolved in
    let d = member_bound w known p.path p is.is_checked u stands uses a typed name in (d.0, by_member d.1)
