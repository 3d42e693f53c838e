-- The packages of both are those of the closure, and they hold no other file.
use Rattle.build_carry.proofs.SameInputs.{inputs_by, packages_by}
use Rattle.build_carry.proofs.same_inputs.are_inputs_of_both.Goals as goal

pub returns : goal.returns
returns c = λ p has holds.
    let w = c.args.graph.now in
    let numbers = c.args.closure.now in
    let told = c.are_packages_of_both.ensures in (
      λ t. (
        inputs_by w c.args.first.now p numbers holds has (told.0 t).0 c.hold_go_files.ensures,
        inputs_by w c.args.second.now p numbers holds has (told.0 t).1 c.hold_go_files-2.ensures,
      ),
      λ both. told.1 (
        packages_by w c.args.first.now p numbers holds both.0 c.requires.rising,
        packages_by w c.args.second.now p numbers holds both.1 c.requires.rising,
      ),
    )
