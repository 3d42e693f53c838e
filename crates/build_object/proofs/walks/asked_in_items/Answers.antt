-- One definition more, and all of them at the end.
use Rattle.std.proofs.Common.{arith, map}
use Rattle.go_ast.specs.FileView.{type_spec_view}
use Rattle.go_ast.specs.SourceFile.{source_of}
use Rattle.types_declared.specs.Package.{placed_type}
use Rattle.std.specs.Prelude.{option_map}
use Rattle.build_object.specs.LineView.{function_of}
use Rattle.build_object.specs.Names.{asked_names_in}
use Rattle.build_object.proofs.Walking.{walked_next, walked_found, walked_all}
use Rattle.build_object.proofs.walks.asked_in_items.Goals as goal

pub loop-item-preserved : goal.loop-item-preserved
loop-item-preserved c =
    walked_next (λ i. asked_names_in c.args.place.path.now (map source_of c.args.place.files.now) (placed_type c.args.place.file (type_spec_view i.value)))
    c.args.items.now c.loop-item.item-index c.item-item.result c.args.rank c.loop-item.rest
    c.in-Err.left (omega arith) c.item-item.is c.loop-item.invariant c.in-Err.ensures

pub returns-in-Ok : goal.returns-in-Ok
returns-in-Ok c =
    walked_found (λ i. asked_names_in c.args.place.path.now (map source_of c.args.place.files.now) (placed_type c.args.place.file (type_spec_view i.value)))
    c.args.items.now c.loop-item.item-index c.item-item.result c.args.rank
    c.loop-item.rest (option_map function_of c.in-Ok.found) (omega arith) c.item-item.is c.loop-item.invariant c.in-Ok.ensures

pub returns : goal.returns
returns c =
    walked_all (λ i. asked_names_in c.args.place.path.now (map source_of c.args.place.files.now) (placed_type c.args.place.file (type_spec_view i.value)))
    c.args.items.now c.loop-item.item-index c.args.rank c.loop-item.rest (omega arith)
    c.loop-item.invariant
