-- When what was built may enter the state.
use Rattle.std.proofs.Common.{◌≡◌, get_or, Some, slice_get, sym, subst, ◌∙◌}
use Rattle.std.specs.List.Sorted.{IsStrictlyIncreasing}
use Rattle.std.proofs.lemmas.Bool.{false≢true}
use Rattle.std.proofs.lemmas.List.Elements.{Contains-get_or}
use Rattle.std.proofs.lemmas.Option.{slice_get_within}
use Rattle.base_files.specs.Packages.{package_paths}
use Rattle.build_unit.specs.Inputs.{AreInputs}
use Rattle.workspace_graph.specs.Graphs.{ListsPackages}
use Rattle.workspace_graph.specs.Packages.{IsInClosure}
use Rattle.workspace_graph.proofs.ByPath.{at_contains}
use Rattle.history_machine.specs.State.{State}
use Rattle.history_machine.specs.Deliveries.{IsFresh}
use Rattle.history_machine.proofs.Fresh.{is_fresh}
use Rattle.history_book.proofs.fresh.fresh_number.Goals as goal

pub closure-requires : goal.closure-requires
closure-requires c =
    let p = c.args.job.now.package in
    let n = c.in-Some.number in
    let at : slice_get (package_paths c.state.inside.files) n ≡ Some p =
    subst (λ (x : State). slice_get (package_paths x.files) n ≡ Some p) (sym c.state.view_is) c.in-Some.ensures.there in
    slice_get_within (package_paths c.state.inside.files) n p at

pub have_inputs-requires : goal.have_inputs-requires
have_inputs-requires c =
    let w = c.state.inside.files in
    let p = c.args.job.now.package in
    let n = c.in-Some.number in
    let at : slice_get (package_paths w) n ≡ Some p =
    subst (λ (x : State). slice_get (package_paths x.files) n ≡ Some p) (sym c.state.view_is) c.in-Some.ensures.there in
    let numbers = c.as_slice.result.now in
    let is = c.as_slice.ensures in
    let holds = subst (ListsPackages w (IsInClosure w p)) (sym is) (c.in_ok-closure.ensures.closure p at) in
    record {
      numbers = λ i d lt.
          let s = (holds (get_or numbers i d)).0 (Contains-get_or numbers i d lt) in
          slice_get_within (package_paths w) (get_or numbers i d) s.0 s.1;
      rising = subst IsStrictlyIncreasing (sym is) c.in_ok-closure.ensures.rising;
    }

pub returns-then-have_inputs : goal.returns-then-have_inputs
returns-then-have_inputs c =
    let job = c.args.job.now in
    let built = c.args.built.now in
    let state = c.args.state.now in
    let w = c.state.inside.files in
    let p = job.package in
    let n = c.in-Some.number in
    let told = c.in-Some.ensures in
    let at : slice_get (package_paths w) n ≡ Some p = subst (λ (x : State). slice_get (package_paths x.files) n ≡ Some p) (sym c.state.view_is) told.there in
    let holds = subst (ListsPackages w (IsInClosure w p)) (sym c.as_slice.ensures) (c.in_ok-closure.ensures.closure p at) in
    let both = (c.have_inputs.ensures p (at_contains w n p at) holds).0 c.if-have_inputs.true in
    let here : AreInputs state.files p job.inputs × AreInputs state.files p built.inputs =
    subst (λ (x : State). AreInputs x.files p job.inputs × AreInputs x.files p built.inputs) c.state.view_is both in
    (is_fresh state job built told.same_package told.job_number told.built_number here, told.there)

pub returns : goal.returns
returns c = λ fresh.
    let job = c.args.job.now in
    let built = c.args.built.now in
    let w = c.state.inside.files in
    let p = job.package in
    let n = c.in-Some.number in
    let s : State = record { number = c.state.inside.number; files = w; finished = c.state.inside.finished } in
    let at : slice_get (package_paths w) n ≡ Some p =
    subst (λ (x : State). slice_get (package_paths x.files) n ≡ Some p) (sym c.state.view_is) c.in-Some.ensures.there in
    let holds = subst (ListsPackages w (IsInClosure w p)) (sym c.as_slice.ensures) (c.in_ok-closure.ensures.closure p at) in
    let here : IsFresh s job built = subst (λ (x : State). IsFresh x job built) (sym c.state.view_is) fresh in
    false≢true (sym c.if-have_inputs.false ∙ (c.have_inputs.ensures p (at_contains w n p at) holds).1 (here.job_inputs, here.built_inputs))
