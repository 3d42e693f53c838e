-- The invariants of the loops of `gathering::qualified_identifiers`.
use Rattle.std.proofs.Common.{length}
use Rattle.types_declared.specs.PackageView.{package_of}
use Rattle.types_info.specs.QualifiedIdentifiers.{AreListsBelow, AreQualifiedBelow}
use Rattle.types_info.proofs.qualified.qualified_identifiers.Given as goal

-- the identifiers before the loop's index are listed
abbrev pub invariant-loop-u : goal.invariant-loop-u
invariant-loop-u l =
    AreListsBelow (package_of l.pkg) (length l.pkg.table.now.sites) l.lists × AreQualifiedBelow (package_of l.pkg) l.u l.lists.all.items
