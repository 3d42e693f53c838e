-- The invariants of the loops of `type_faults::type_faults`.
use Rattle.std.proofs.Common.{[], map}
use Rattle.types_declared.specs.Listing.{AddsFaults, IsFaultBelow}
use Rattle.types_info.specs.MeaningsView.{AreMeanings}
use Rattle.types_info.specs.MemberUses.{AreUsesIn, AreEnteringsIn, AreFileListsBelow, uses_in, enterings_in}
use Rattle.types_check.specs.TypesView.{IsTypeFaultIn}
use Rattle.types_declared.specs.PackageView.{package_of}
use Rattle.types_check.proofs.type_faults.type_faults.Given as goal

abbrev pub invariant-loop-file : goal.invariant-loop-file
invariant-loop-file l = record {
  faults : AddsFaults [] l.typed.faults.items (IsFaultBelow (IsTypeFaultIn (package_of l.pkg)) l.file);
  members : AreFileListsBelow (AreUsesIn (package_of l.pkg)) l.file (map uses_in l.typed.members.items);
  enterings : AreFileListsBelow (AreEnteringsIn (package_of l.pkg)) l.file (map enterings_in l.typed.enterings.items);
  kept : AreMeanings (package_of l.pkg) l.bounds.list.items l.bounds.of.items;
}
