-- The answers to the goals of `faults::are_faultless`.
use Rattle.std.proofs.Common.{◌<◌, length, sym, ap, ◌∙◌, arith}
use Rattle.std.proofs.lemmas.Option.{slice_get_within}
use Rattle.workspace_check.specs.declared.finding.Finding.{Finding}
use Rattle.workspace_check.proofs.Members.{vec_empty}
use Rattle.refs_binding.proofs.Units.{sound_next}
use Rattle.refs_binding.proofs.faults.are_faultless.Goals as goal

pub loop-finding-preserved : goal.loop-finding-preserved
loop-finding-preserved c = λ n f below at.
    let x = c.finding-item.result in
    sound_next c.args.packages.now c.loop-finding.finding-index n x f (omega arith) c.finding-item.is
    (sym (ap (λ (f : Finding). f.faults.items) c.get.ensures) ∙
    vec_empty c.get.result.now.faults c.is_empty.result c.is_empty.ensures c.if-not-is_empty.false) c.loop-finding.invariant below at

pub returns : goal.returns
returns c = λ t n f at.
    let lt : n < length c.args.packages.now = slice_get_within c.args.packages.now n f at in
    c.loop-finding.invariant n f (omega arith) at
