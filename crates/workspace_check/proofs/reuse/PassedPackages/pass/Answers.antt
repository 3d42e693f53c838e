-- The answers to the goals of `reuse::PassedPackages::pass`.
use Rattle.std.proofs.Common.{◌≡◌, ◌<◌, ℕ, inl, inr, length, refl, ap, ◌∙◌, arith}
use Rattle.std.proofs.Math.ListN.{set}
use Rattle.std.proofs.lemmas.List.{length-set}
use Rattle.base_files.specs.Packages.{package_paths}
use Rattle.types_info.proofs.MeaningLists.{slice_get_some}
use Rattle.workspace_graph.specs.Packages.{itself, through}
use Rattle.workspace_graph.specs.Search.{IsMarked}
use Rattle.workspace_graph.proofs.ByPath.{at_contains}
use Rattle.workspace_graph.proofs.SearchSteps.{marked_within}
use Rattle.workspace_check.proofs.Passing.{passes_same, passes_other}
use Rattle.workspace_check.proofs.reuse.PassedPackages.pass.Goals as goal

pub mark_importing-requires : goal.mark_importing-requires
mark_importing-requires c = record { number = c.requires.number; size = c.requires.stirs.all; above = c.requires.stirs.above }

-- the packages that import it are marked as `affected`
pub returns-in_ok-mark_importing-clause-stirs : goal.returns-in_ok-mark_importing-clause-stirs
returns-in_ok-mark_importing-clause-stirs c =
    let w = c.args.graph.now in
    let q = slice_get_some (package_paths w) c.args.number c.requires.number in
    let are = c.in_ok-mark_importing.ensures q.0 q.1 in
    record {
      size = length-set c.args.self.now.marks.items c.args.number c.args.same ∙ c.requires.stirs.size;
      all = are.size ∙ c.requires.stirs.all;
      above = λ i j p r at there imports marked. elim ((are.each j r there).0 marked) [
        | inl before ↦ (are.each i p at).1 (inl (c.requires.stirs.above i j p r at there imports before))
        | inr reaches ↦ (are.each i p at).1 (inr (through imports reaches))
      ];
    }

pub returns-in_ok-mark_importing-clause-passes : goal.returns-in_ok-mark_importing-clause-passes
returns-in_ok-mark_importing-clause-passes c =
    let w = c.args.graph.now in
    let n = c.args.number in
    let old = c.args.self.now in
    let affected = old.affected.items in
    let q = slice_get_some (package_paths w) n c.requires.number in
    let are = c.in_ok-mark_importing.ensures q.0 q.1 in
    passes_other w n old _ (ap (set old.marks.items n) c.if-not-same.true) ((are.each n q.0 q.1).1 (inr (itself (at_contains w n q.0 q.1))))
    (λ (m : ℕ) (marked : IsMarked affected m).
    let lt : m < length affected = marked_within affected m marked in
    let size : length affected ≡ length (package_paths w) = c.requires.stirs.all in
    let p = slice_get_some (package_paths w) m (omega (arith, lt, size)) in
    (are.each m p.0 p.1).1 (inl marked))

-- no more packages are marked
pub returns-else-not-same-clause-stirs : goal.returns-else-not-same-clause-stirs
returns-else-not-same-clause-stirs c = record {
  size = length-set c.args.self.now.marks.items c.args.number c.args.same ∙ c.requires.stirs.size;
  all = c.requires.stirs.all;
  above = c.requires.stirs.above;
}

pub returns-else-not-same-clause-passes : goal.returns-else-not-same-clause-passes
returns-else-not-same-clause-passes c =
    let old = c.args.self.now in
    let size : length old.marks.items ≡ length (package_paths c.args.graph.now) = c.requires.stirs.size in
    let within : c.args.number < length old.marks.items = omega (arith, c.requires.number, size) in
    passes_same c.args.graph.now c.args.number old _ within (ap (set old.marks.items c.args.number) c.if-not-same.false) refl
