-- The answers to the goals of `known::Known::copy`.
use Rattle.std.proofs.Common.{◌≡◌, ◌≤◌, List, length, max, ap, sym, subst, ◌∙◌}
use Rattle.std.specs.Prelude.{Option, vec_capacity}
use Rattle.std.specs.Global.{Vec}
use Rattle.std.proofs.Math.Nat.{le-max_left}
use Rattle.workspace_check.specs.declared.known.KnownVerdict.{KnownVerdict}
use Rattle.workspace_check.specs.Found.{HoldSameVerdicts}
use Rattle.workspace_check.proofs.known.Known.copy.Goals as goal

pub pad-requires : goal.pad-requires
pad-requires c =
    let old = c.args.self.now.verdicts.items in
    let big = c.in_ok-verdicts.ensures.room ∙ ap (λ (l : List (Option KnownVerdict)). max c.args.count (length l)) c.deref.ensures.value in
    rw big (le-max_left c.args.count (length old))

pub returns : goal.returns
returns c =
    let kept = sym c.share_earlier.ensures in
    let old = c.args.self.now.verdicts.items in
    let padded = c.pad.ensures in
    let from = c.in_ok-verdicts.ensures.items ∙ c.deref.ensures.value in
    let big = c.in_ok-verdicts.ensures.room ∙ ap (λ (l : List (Option KnownVerdict)). max c.args.count (length l)) c.deref.ensures.value in
    record {
      size = subst (λ (v : Vec (Option KnownVerdict)). c.args.count ≤ length v.items) kept padded.size;
      same = subst (λ (v : Vec (Option KnownVerdict)). HoldSameVerdicts old v.items) kept
          (subst (λ l. HoldSameVerdicts l c.pad.new.verdicts.items) from padded.same);
      room = subst (λ (v : Vec (Option KnownVerdict)). vec_capacity v ≡ max c.args.count (length old)) kept (padded.room ∙ big);
    }
