-- The answers to the goals of `swap::Swap::verdict_at`.
use Rattle.std.proofs.Common.{◌≡◌, ap, sym, ◌∙◌}
use Rattle.std.specs.Cmp.Lexicographic.{bytes_decides}
use Rattle.std.specs.Prelude.{option_copied}
use Rattle.base_files.specs.Packages.{package_paths}
use Rattle.refactor_known.specs.MovedKnown.{IsMovedFrom, IsMovedKnown}
use Rattle.refactor_known.specs.Swaps.{map_of}
use Rattle.refactor_known.proofs.Results.{if_ok_some}
use Rattle.refactor_known.proofs.swap.Swap.verdict_at.Goals as goal

pub returns : goal.returns
returns c =
    let from = c.args.self.now.from in
    let name = option_copied c.args.before.name in
    let g = map_of c.args.self.now in
    let old = c.deref-2.result.now in
    let goes : c.args.path.now ≡ g old =
    sym (ap g (c.deref-2.ensures.value ∙ sym c.deref.ensures.value)
    ∙ (bytes_decides (g c.deref.result.now) c.args.path.now).0 (sym c.in_ok-goes_to.ensures ∙ c.if-not-branch.false)) in
    if_ok_some c.verdict.result (IsMovedKnown from name g c.in-Some-get.one.now)
    (IsMovedFrom from name g (package_paths c.args.before.graph.now) c.args.before.known.now c.args.path.now)
    (λ now moved. record {
      number = c.in-Some.number;
      old = old;
      of_number = c.in-Some.ensures;
      goes = goes;
      was = c.in-Some-get.one.now;
      at_number = c.in-Some-get.ensures;
      moved = moved;
    }) c.verdict.ensures
