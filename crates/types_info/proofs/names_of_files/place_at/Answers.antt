-- The answers to the goals of `names_of_files::place_at`.
use Rattle.std.proofs.Common.{◌∙◌, sym, refl}
use Rattle.types_declared.specs.PackageView.{package_of}
use Rattle.types_declared.proofs.Binding.{found_at}
use Rattle.types_info.proofs.MeaningLists.{extends_itself}
use Rattle.types_info.proofs.NameParts.{nothing_past, placed_nowhere}
use Rattle.types_info.proofs.names_of_files.place_at.Goals as goal

pub returns-in-None : goal.returns-in-None
returns-in-None c = record {
  placed = placed_nowhere (package_of c.args.pkg) c.args.file c.args.token c.args.bounds.now.list.items
      (nothing_past (package_of c.args.pkg) c.args.file c.args.token _ (sym c.get.ensures ∙ c.in-None.is)
      (c.requires.index.identifiers c.args.file c.args.token));
  extends = extends_itself c.args.bounds.now.list.items;
  same = refl;
}

pub identifier_place-requires-clause-found : goal.identifier_place-requires-clause-found
identifier_place-requires-clause-found c = found_at (package_of c.args.pkg) c.args.file c.args.token c.in-Some.u _ (sym c.get.ensures ∙ c.in-Some.is)
    (c.requires.index.identifiers c.args.file c.args.token)
