-- The answers to the goals of `reuse::reusable_verdict`.
use Rattle.std.proofs.Common.{◌≡◌, inl, inr, Some, slice_get, sym, ap, subst, ◌∙◌}
use Rattle.std.proofs.lemmas.Option.{same_Some}
use Rattle.base_files.specs.Packages.{package_files}
use Rattle.workspace_graph.specs.Graphs.{IsPackage}
use Rattle.workspace_check.proofs.reuse.reusable_verdict.Goals as goal

pub returns-then-is_marked_below-clause-stands : goal.returns-then-is_marked_below-clause-stands
returns-then-is_marked_below-clause-stands c = λ p at.
    let v = c.args.earlier.now.graph in
    let w = c.args.graph.now in
    let n = c.args.number in
    let before = c.package-before.result.now in
    let after = c.package.result.now in
    let there = subst (λ ps. slice_get ps n ≡ Some p) (sym c.requires.same.paths) at in
    let is = subst (λ x. IsPackage x n before) c.graph.ensures c.package-before.ensures in
    let files = c.has_same_files.ensures c.if-has_same_files.true v w n is c.package.ensures in
    record {
      files = ap (package_files v) (same_Some p before.path.items (sym there ∙ is.path)) ∙ files ∙
          ap (package_files w) (same_Some after.path.items p (sym c.package.ensures.path ∙ at));
      told = c.in_ok-verdict.ensures.told n p c.in_ok-verdict.verdict.now there c.in_ok-verdict.ensures.verdict;
      below = λ m q there on. elim (c.requires.below p at m q there on) [
        | inl marked ↦ marked
        | inr affected ↦ absurd (c.is_marked_below.ensures c.if-is_marked_below.true affected)
      ];
    }
