-- The invariants of the loops of `declarations::push_typed`.
use Rattle.std.proofs.Common.{◌≡◌, ◌++◌, drop}
use Rattle.go_ast.specs.View.{list_view}
use Rattle.go_ast.specs.FileView.{basic_view}
use Rattle.types_expr.specs.View.{type_of}
use Rattle.build_object.specs.SourceView.{source_of}
use Rattle.build_object.specs.Objects.{initials_of}
use Rattle.build_object.proofs.TextParts.{variables_text}
use Rattle.build_object.proofs.declarations.push_typed.Given as goal

abbrev pub invariant-loop-i : goal.invariant-loop-i
invariant-loop-i l =
    l.text.items ++ variables_text l.source (type_of l.own) (drop l.i l.names) (drop l.i (initials_of (source_of l.source) (list_view basic_view l.literals)))
    ≡ l.initial.text.items ++ variables_text l.source (type_of l.own) l.names (initials_of (source_of l.source) (list_view basic_view l.literals))
