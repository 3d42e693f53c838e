-- The answers to the goals of `declarations::push_typed`.
use Rattle.std.proofs.Common.{◌∙◌, arith}
use Rattle.go_ast.specs.View.{list_view}
use Rattle.go_ast.specs.FileView.{basic_view}
use Rattle.types_expr.specs.View.{type_of}
use Rattle.build_object.specs.SourceView.{source_of}
use Rattle.build_object.specs.Objects.{initials_of}
use Rattle.build_object.proofs.TextParts.{literal_beside, variables_step, variables_end}
use Rattle.build_object.proofs.declarations.push_typed.Goals as goal

pub loop-i-preserved : goal.loop-i-preserved
loop-i-preserved c =
    variables_step c.args.source.now (type_of c.args.own.now) (initials_of (source_of c.args.source.now) (list_view basic_view c.args.literals.now))
    c.loop-i.text.items c.push_named.new.text.items _ c.args.names.now c.loop-i.i _ _
    (omega arith) c.loop-i.invariant c.in_ok-push_named.ensures
    (c.initial_at-value.ensures ∙ literal_beside (source_of c.args.source.now) c.args.literals.now c.loop-i.i)

pub returns : goal.returns
returns c =
    variables_end c.args.source.now (type_of c.args.own.now) (initials_of (source_of c.args.source.now) (list_view basic_view c.args.literals.now))
    c.loop-i.text.items _ c.args.names.now c.loop-i.i (omega arith) c.loop-i.invariant
