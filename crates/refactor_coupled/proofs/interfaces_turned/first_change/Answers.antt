-- The answers to the goals of `interfaces_turned::first_change`.
use Rattle.std.proofs.Common.{◌≡◌, [], true, sym, subst}
use Rattle.std.specs.Prelude.{List}
use Rattle.types_expr.specs.declared.symbol.Symbol.{Symbol}
use Rattle.workspace_check.proofs.Members.{vec_empty}
use Rattle.refactor_coupled.specs.Called.{AreCalled}
use Rattle.refactor_coupled.specs.RenamedTypesView.{rename_of}
use Rattle.refactor_coupled.proofs.TurnedNames.{never_turned}
use Rattle.refactor_coupled.proofs.interfaces_turned.first_change.Goals as goal

pub returns-then-is_empty : goal.returns-then-is_empty
returns-then-is_empty c =
    let empty : c.in_ok-interfaces.interfaces.items ≡ [] =
    vec_empty c.in_ok-interfaces.interfaces c.is_empty.result c.is_empty.ensures c.if-is_empty.true in
    λ free. never_turned c.args.workspace.now c.has_no_faults.ensures (rename_of c.args.rename) free c.in_ok-interfaces.interfaces.items empty
    c.in_ok-interfaces.ensures

pub first_turned-requires : goal.first_turned-requires
first_turned-requires c =
    subst (λ (l : List Symbol). AreCalled c.args.workspace.now c.args.rename.old.now c.args.rename.new.now true l) (sym c.as_slice.ensures.value)
    c.in_ok-interfaces.ensures
