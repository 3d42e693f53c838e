-- The inputs of both are those of the package.
use Rattle.std.proofs.Common.{sym, subst}
use Rattle.base_files.specs.Workspace.{Workspace}
use Rattle.build_unit.specs.Inputs.{AreInputs}
use Rattle.history_book.proofs.fresh.have_inputs.Goals as goal

pub returns : goal.returns
returns c = λ p has holds.
    let told = c.are_inputs_of_both.ensures p has holds in (
      λ t. (
        subst (λ (x : Workspace). AreInputs c.args.files.now p x) c.inputs.ensures (told.0 t).0,
        subst (λ (x : Workspace). AreInputs c.args.files.now p x) c.inputs-2.ensures (told.0 t).1,
      ),
      λ both. told.1 (
        subst (λ (x : Workspace). AreInputs c.args.files.now p x) (sym c.inputs.ensures) both.0,
        subst (λ (x : Workspace). AreInputs c.args.files.now p x) (sym c.inputs-2.ensures) both.1,
      ),
    )
