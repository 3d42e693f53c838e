-- The invariants of the loops of `unknown::add_unknowns`.
use Rattle.std.proofs.Common.{map}
use Rattle.types_declared.specs.Listing.{AddsFaults, IsFaultBelow}
use Rattle.go_ast.specs.SourceFile.{source_of}
use Rattle.types_resolve.specs.Scoping.{IsQualifiedFault}
use Rattle.types_declared.specs.Laid.{laid_in}
use Rattle.types_resolve.proofs.qualified.add_unknowns.Given as goal

abbrev pub invariant-loop-u : goal.invariant-loop-u
invariant-loop-u g l = AddsFaults l.initial.found.items l.found.items
    (IsFaultBelow (IsQualifiedFault (map source_of l.files) (g.E.Exports.exported l.exports) (laid_in l.table)) l.u)
