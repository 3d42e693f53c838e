-- One definition, or those in parentheses.
use Rattle.std.proofs.Common.{sym, subst, append-nil}
use Rattle.std.specs.List.{flat_map}
use Rattle.go_ast.specs.View.{group_view}
use Rattle.go_ast.specs.FileView.{type_spec_view}
use Rattle.types_declared.specs.Files.{group_items}
use Rattle.types_declared.proofs.DeclaredParts.{several_from}
use Rattle.build_object.specs.RankLookup.{FindsRank, spec_positions}
use Rattle.build_object.proofs.walks.position_in_group.Goals as goal

pub returns-in-Single : goal.returns-in-Single
unfolding group_view
returns-in-Single c =
    subst (λ g. FindsRank (λ n. n) (flat_map spec_positions (group_items (group_view type_spec_view g))) c.args.rank c.position_in_spec.result) (sym
    c.in-Single.is)
    (subst (λ l. FindsRank (λ n. n) l c.args.rank c.position_in_spec.result) (sym (append-nil _)) c.position_in_spec.ensures)

pub returns-in-Several : goal.returns-in-Several
returns-in-Several c =
    subst (λ l. FindsRank (λ n. n) l c.args.rank c.position_in_items.result)
    (several_from spec_positions type_spec_view c.args.group.now c.in-Several.«open» c.in-Several.items c.in-Several.close _ c.in-Several.is
    c.deref.ensures.value) c.position_in_items.ensures
