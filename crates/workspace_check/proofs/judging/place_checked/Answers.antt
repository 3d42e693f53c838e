-- The answers to the goals of `judging::place_checked`.
use Rattle.std.proofs.Common.{◌≡◌, ◌↔◌, List, map, refl, subst, sym}
use Rattle.std.specs.Prelude.{Contains}
use Rattle.go_ast.specs.SourceFile.{FileParts, source_of}
use Rattle.workspace_check.specs.declared.fault.FileFault.{FileFault}
use Rattle.workspace_check.specs.Steps.{IsSomePlacedFault}
use Rattle.workspace_check.proofs.Judged.{judged_by, judged_outside, placed_as}
use Rattle.workspace_check.proofs.OnePackage.{one_sources}
use Rattle.workspace_check.proofs.judging.place_checked.Goals as goal

pub returns : goal.returns
returns c =
    let trees = c.args.files.now.trees.items in
    let checked = c.args.checked in
    let list = checked.faults.items in
    let placed : (y : FileFault) → Contains c.in_ok-faults.faults.items y ↔ IsSomePlacedFault trees list y = λ y.
    subst (λ fs. Contains c.in_ok-faults.faults.items y ↔ IsSomePlacedFault trees fs y) c.deref-2.ensures.value
    (subst (λ ts. Contains c.in_ok-faults.faults.items y ↔ IsSomePlacedFault ts c.deref-2.result.now y) c.deref.ensures.value (c.in_ok-faults.ensures y)) in
    let each : (files : List FileParts) → map source_of trees ≡ map source_of files → (y : FileFault) →
    Contains c.sort.new.found.items y ↔ IsSomePlacedFault files list y = λ files same y. (
      λ k. placed_as trees files list y same ((placed y).0 ((c.sort.ensures.same y).0 k)),
      λ h. (c.sort.ensures.same y).1 ((placed y).1 (placed_as files trees list y (sym same) h)),
    ) in
    record {
      checked = λ w known p own parsed is.
          judged_by w known p own is.files is.parsed is.state is.are_states is.name_of is.export_data_of is.are_seen checked _ is.is_found refl refl refl refl
          c.sort.ensures.order (each is.files (one_sources parsed is.parsed));
      stopped = λ w known p own parsed is.
          judged_outside w known p own is.files is.parsed is.state is.are_states checked _ is.some is.faults is.export_data refl
          c.sort.ensures.order (each is.files (one_sources parsed is.parsed));
    }
