-- The clones share what the state has, and its invariant says that what it knows is right.
use Rattle.std.proofs.Common.{◌≡◌, ap, length, sym, subst, ◌∙◌}
use Rattle.base_files.specs.Packages.{package_paths}
use Rattle.build_carry.specs.Finished.{Table}
use Rattle.workspace_check.specs.Found.{KnowsVerdicts}
use Rattle.history_machine.specs.State.{State}
use Rattle.history_machine.proofs.state.State.rest.Goals as goal

pub own_verdicts-requires : goal.own_verdicts-requires
own_verdicts-requires c = subst (KnowsVerdicts c.self.inside.files) (sym c.get.ensures) c.self.invariant.1

pub returns : goal.returns
returns c =
    let v = c.self.view_is in
    let files = ap (λ (s : State). s.files) v in
    let same = c.in_ok-finished.ensures.cases in
    let whole : ◌≡◌ {A = State} (record { number = c.self.inside.number; files = c.args.self.now.files; finished = c.in_ok-finished.finished })
    (record { number = c.self.inside.number; files = c.self.inside.files; finished = c.self.inside.finished }) =
    (λ i. record { number = c.self.inside.number; files = sym files i; finished = same i }) in
    record {
      state_is = whole ∙ v;
      rests = record {
        packages = c.in_ok-packages.ensures ∙ ap (λ (s : State). package_paths s.files) v;
        sized = ap (λ (t : Table). length t) same ∙ c.self.invariant.0 ∙ ap (λ (s : State). length (package_paths s.files)) v;
        known = subst (λ (s : State). KnowsVerdicts s.files c.in_ok-known.known) v c.in_ok-known.ensures;
      };
    }
