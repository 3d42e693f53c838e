-- The answers to the goals of `findings::all_there`.
use Rattle.std.proofs.Common.{List, get_or, sym, ap, ◌∙◌}
use Rattle.std.specs.Prelude.{Option, Some}
use Rattle.std.specs.Global.{Vec}
use Rattle.std.proofs.lemmas.Option.{same_Some, slice_get-get_or}
use Rattle.workspace_check.specs.declared.finding.Finding.{Finding}
use Rattle.workspace_check.specs.Steps.{somes}
use Rattle.workspace_check.proofs.Gathering.{there_next}
use Rattle.workspace_check.proofs.findings.all_there.Goals as goal
use Rattle.workspace_check.proofs.findings.all_there.Goals.{in-Some+in_ok-clone+in_ok-push, in_default}

pub loop-there-preserved : goal.loop-there-preserved
loop-there-preserved c =
    let findings : List (Option Finding) = c.args.findings.now in
    let k = c.loop-there.there-index in
    let lt = c.loop-there-test.true in
    let here = c.there-item.result in
    elim c.match-there.branch [
      | in-Some+in_ok-clone+in_ok-push w ↦ (
          let f : Finding = w.in_ok-clone.field-0 in
          let is = sym c.there-item.is ∙ w.in-Some.is ∙ ap (λ (x : Finding). Some x) (sym w.in_ok-clone.ensures.cases) in
          ap (λ (v : Vec Finding). somes v.items) w.packages-is
          ∙ there_next c.loop-there.packages.items w.push.new.self.items f findings k here c.loop-there.invariant w.in_ok-push.ensures.items lt is)
      | in_default w ↦ (
          let g = c.requires k lt in
          absurd (w.in_default.not-Some g.0 (c.there-item.is ∙
          same_Some (get_or findings k here) (Some g.0) (sym (slice_get-get_or findings k here lt) ∙ g.1))))
    ]
