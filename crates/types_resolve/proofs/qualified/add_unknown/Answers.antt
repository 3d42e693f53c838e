-- The answers to the goals of `qualified::add_unknown`.
use Rattle.std.proofs.Common.{map}
use Rattle.go_ast.specs.SourceFile.{source_of}
use Rattle.types_declared.specs.Laid.{laid_in}
use Rattle.types_resolve.proofs.UnknownParts.{unknown_added, none_unknown}
use Rattle.types_resolve.proofs.qualified.add_unknown.Goals as goal

pub returns-in-None : goal.returns-in-None
returns-in-None g c =
    none_unknown (map source_of c.args.files.now) (g.E.Exports.exported c.args.exports.now) (laid_in c.args.table.now) c.args.u c.args.found.now.items
    c.in-None.ensures.qualified

pub returns-in-Some : goal.returns-in-Some
returns-in-Some g c =
    let p = laid_in c.args.table.now in
    unknown_added (map source_of c.args.files.now) (g.E.Exports.exported c.args.exports.now) p c.in-Some.import c.args.u c.args.found.now.items
    c.add_name.new.found.items c.add_name.result
    (λ v d e b b'. c.bindings_are_unique.ensures p.layout c.is_well_formed.ensures p.names v d e b b') c.in-Some.ensures.qualified c.add_name.ensures
