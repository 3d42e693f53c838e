-- A rank below their number is that of a method; one above it goes on behind them.
use Rattle.std.proofs.Common.{ap, sym, ◌∙◌, arith, map}
use Rattle.std.specs.Prelude.{Some}
use Rattle.go_ast.specs.FileView.{method_view}
use Rattle.go_ast.specs.declared.tree.Item.{Item}
use Rattle.go_ast.specs.declared.tree.MethodSpec.{MethodSpec}
use Rattle.go_ast.specs.SourceFile.{source_of}
use Rattle.build_object.specs.LineView.{global_of}
use Rattle.build_object.specs.Lines.{Method}
use Rattle.build_object.specs.Names.{spelled_in}
use Rattle.build_object.proofs.Walking.{mapped_here, mapped_behind}
use Rattle.build_object.proofs.walks.asked_in_methods.Goals as goal

pub returns-then-rank-count : goal.returns-then-rank-count
unfolding method_view
returns-then-rank-count c =
    mapped_here method_view (λ m. Some (Method (global_of c.args.of) (spelled_in (map source_of c.args.place.files.now) c.args.place.file m.name)))
    c.args.methods.now c.args.rank c.index-methods-rank.result (omega (arith, c.if-rank-count.true)) c.index-methods-rank.is
    ∙ ap Some (ap Some (ap (λ (m : Item MethodSpec). Method (global_of c.args.of)
    (spelled_in (map source_of c.args.place.files.now) c.args.place.file m.value.name)) c.index-methods-rank.is ∙ sym c.asked_name.ensures))

pub returns-else-rank-count : goal.returns-else-rank-count
returns-else-rank-count c =
    mapped_behind method_view (λ m. Some (Method (global_of c.args.of) (spelled_in (map source_of c.args.place.files.now) c.args.place.file m.name)))
    c.args.methods.now c.args.rank (omega (arith, c.if-rank-count.false))
