-- The answers to the goals of `renamed_types::RenamedTypes::has`.
use Rattle.std.proofs.Common.{ap, sym, ◌∙◌}
use Rattle.std.specs.Prelude.{Some, option_map}
use Rattle.types_expr.specs.World.{has_if_asked, in_set}
use Rattle.types_expr.specs.WorldView.{definition_of, field_of}
use Rattle.refactor_coupled.specs.RenamedTypes.{is_new_name_of, moves_written, written_as}
use Rattle.refactor_coupled.specs.RenamedTypesView.{definitions_after, rename_of}
use Rattle.refactor_coupled.proofs.Implemented.{same_asked}
use Rattle.refactor_coupled.proofs.renamed_types.RenamedTypes.has.Goals as goal

pub returns-in-Some : goal.returns-in-Some
returns-in-Some c =
    let t = c.args.self.now in
    let r = rename_of t.rename in
    let name = c.args.name.now in
    let new = is_new_name_of r (moves_written r (definition_of c.args.interface.now)) name in
    let f = field_of c.in-Some.asked.now in
    let m = in_set (definitions_after t.types.now r) c.args.behind_star c.args.symbol.now name in
    c.has_if_asked.ensures ∙ ap (has_if_asked (Some f)) c.in_set.ensures ∙ sym (same_asked r new f m)
    ∙ ap (λ o. has_if_asked (option_map (written_as r new) o) m) c.in-Some.ensures
