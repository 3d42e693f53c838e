-- The answers to the goals of `gathered::no_findings`.
use Rattle.std.proofs.Common.{rules, ◌≡◌, replicate, length, ap, ◌∙◌}
use Rattle.std.specs.Prelude.{None}
use Rattle.std.proofs.lemmas.List.{length-replicate}
use Rattle.workspace_check.proofs.Taking.{no_finding}
use Rattle.workspace_check.proofs.gathered.no_findings.Goals as goal

pub returns : goal.returns
returns c =
    let findings = c.in_ok-findings.findings.items in
    let n = c.args.count in
    let is : findings ≡ replicate n None = c.in_ok-findings.ensures.items_if_clones_equal (search rules) in
    record { size = ap length is ∙ length-replicate n None; none = no_finding n findings is }
