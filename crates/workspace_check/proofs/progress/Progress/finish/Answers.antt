-- The answers to the goals of `progress::Progress::finish`.
use Rattle.std.proofs.Common.{ℕ, List, [], ◌∷◌, ◌++◌, sym, subst}
use Rattle.std.specs.Prelude.{Contains}
use Rattle.std.proofs.lemmas.Result.{IfOk-weaker}
use Rattle.base_files.specs.Packages.{package_paths}
use Rattle.types_declared.specs.declared.export_tables.ExportTable.{ExportTable}
use Rattle.types_info.proofs.MeaningLists.{slice_get_some}
use Rattle.workspace_check.specs.Found.{AreVerdictsOf, IsFindingWith}
use Rattle.workspace_check.proofs.Underway.{found_behind, own_in_range}
use Rattle.workspace_check.proofs.progress.Progress.finish.Goals as goal

pub take_or_judge-requires : goal.take_or_judge-requires
take_or_judge-requires c = record {
  number = c.requires.in_range;
  known = c.requires.known;
  all = c.requires.right.right;
  below = c.requires.right.below;
}

pub new_verdicts-requires : goal.new_verdicts-requires
new_verdicts-requires c =
    let w = c.args.graph.now in
    let n = c.args.number in
    let p = slice_get_some (package_paths w) n c.requires.in_range in
    let numbers = c.args.self.below.built_on in
    let among : (m : ℕ) → Contains c.in_ok-numbers.numbers.items m → Contains (numbers ++ n ∷ []) m =
    λ m has. subst (λ (l : List ℕ). Contains (l ++ n ∷ []) m) c.as_slice.ensures (c.in_ok-numbers.ensures m has) in
    record {
      numbers = λ m has. own_in_range w n p.0 p.1 numbers (c.requires.right.built_on p.0 p.1) m
          (among m (subst (λ (l : List ℕ). Contains l m) c.deref.ensures.value has));
      now = (c.in_ok-take_or_judge.ensures p.0 p.1).right;
    }

pub found_package-requires : goal.found_package-requires
found_package-requires c =
    let p = slice_get_some (package_paths c.args.graph.now) c.args.number c.requires.in_range in
    (c.in_ok-take_or_judge.ensures p.0 p.1).own

pub returns : goal.returns
returns c =
    let w = c.args.graph.now in
    let n = c.args.number in
    let all = c.take_or_judge.new.all in
    record {
      finding = IfOk-weaker c.found_package.result _ _
          (λ made is p at. subst (λ (i : ExportTable). IsFindingWith w p i made.finding) (sym is.export_table)
          (found_behind w p n all made.finding at (c.in_ok-take_or_judge.ensures p at) is.finding))
          c.found_package.ensures;
      verdicts = IfOk-weaker c.found_package.result _ _ (λ made is. subst (AreVerdictsOf w) (sym is.found) c.in_ok-found.ensures) c.found_package.ensures;
    }
