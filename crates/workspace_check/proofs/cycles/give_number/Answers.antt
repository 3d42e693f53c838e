-- The answers to the goals of `cycles::give_number`.
use Rattle.std.proofs.Common.{inl, inr, get_or, sym, ap, subst, ◌∙◌, arith}
use Rattle.std.proofs.lemmas.List.Elements.{Contains-get_or}
use Rattle.std.proofs.lemmas.Option.{slice_get_within}
use Rattle.base_files.specs.Packages.{package_paths}
use Rattle.types_info.proofs.MeaningLists.{slice_get_some}
use Rattle.workspace_check.specs.Cycles.{HasCycleNumber}
use Rattle.workspace_check.proofs.CycleNumbers.{renumbered}
use Rattle.workspace_check.proofs.cycles.give_number.Goals as goal

pub index_mut-requires : goal.index_mut-requires
index_mut-requires c =
    let w = c.args.graph.now in
    let items = c.args.closure.now in
    let n = get_or items c.loop-other.other-index 0 in
    let p = slice_get_some (package_paths w) c.args.number c.requires.in_range in
    let s = (c.requires.closure p.0 p.1 n).0 (Contains-get_or items c.loop-other.other-index 0 (omega arith)) in
    omega (arith, c.loop-other.invariant.size, slice_get_within (package_paths w) n s.0 s.1)

pub loop-other-preserved : goal.loop-other-preserved
loop-other-preserved c =
    let w = c.args.graph.now in
    let items = c.args.closure.now in
    let n = get_or items c.loop-other.other-index 0 in
    let numbers = c.loop-other.numbers.items in
    let given = c.cycle_number-given.result in
    let p = slice_get_some (package_paths w) c.args.number c.requires.in_range in
    let s = (c.requires.closure p.0 p.1 n).0 (Contains-get_or items c.loop-other.other-index 0 (omega arith)) in
    let has : HasCycleNumber w s.0 given = elim c.cycle_number-given.ensures [
      | inl marked ↦ subst (HasCycleNumber w s.0) (sym marked.1) (record {
        path = p.0;
        has_path = p.1;
        on_cycle = record { there = (c.requires.back p.0 p.1 n s.0 s.1 s.2).0 marked.0; back = s.2 };
      })
      | inr same ↦ subst (HasCycleNumber w s.0) (sym (same ∙ ap (λ l. get_or l n 0) c.as_slice.ensures.value)) (c.loop-other.invariant.each n s.0 s.1)
    ] in
    renumbered w numbers n given s.0 s.1 has c.loop-other.invariant
