-- The answers to the goals of `names::asked_in_file`.
use Rattle.std.proofs.Common.{map, refl}
use Rattle.std.specs.List.{flat_map}
use Rattle.go_ast.specs.SourceFile.{source_of}
use Rattle.types_declared.specs.DeclaredView.{type_of}
use Rattle.build_object.specs.Names.{asked_if}
use Rattle.build_object.specs.SourceView.{asked_of}
use Rattle.build_object.proofs.Loops.{rest_step, rest_end}
use Rattle.build_object.proofs.names.asked_in_file.Goals as goal

pub loop-own-preserved : goal.loop-own-preserved
loop-own-preserved c =
    let files = map source_of c.args.files.now in
    rest_step (λ ts. flat_map (asked_if c.args.path.now files c.args.file) (map type_of ts)) (λ t. asked_if c.args.path.now files c.args.file (type_of t))
    (λ x xs. refl) _ (map asked_of c.loop-own.asked.items) (map asked_of c.add_asked_if.new.asked.items) c.args.types.now c.loop-own.own-index
    c.own-item.result c.loop-own-test.true c.own-item.is c.loop-own.invariant c.in_ok-add_asked_if.ensures

pub returns : goal.returns
returns c =
    let files = map source_of c.args.files.now in
    rest_end (λ ts. flat_map (asked_if c.args.path.now files c.args.file) (map type_of ts)) refl _ (map asked_of c.loop-own.asked.items) c.args.types.now
    c.loop-own.own-index c.loop-own-test.false c.loop-own.invariant
