-- The answers to the goals of `names_of_files::selected_place`.
use Rattle.std.proofs.Common.{refl}
use Rattle.types_declared.specs.ExportTablesView.{export_of}
use Rattle.types_declared.specs.PackageView.{package_of}
use Rattle.types_info.proofs.MeaningLists.{extends_itself}
use Rattle.types_info.proofs.NameParts.{neither, placed_behind, placed_nowhere}
use Rattle.types_info.proofs.OneMeaning.{bound_or_after_dot}
use Rattle.types_info.proofs.names_of_files.selected_place.Goals as goal

pub returns-in-None : goal.returns-in-None
returns-in-None c =
    let p = package_of c.args.pkg in
    record {
      placed = placed_nowhere p c.args.file c.args.token c.args.bounds.now.list.items
          (neither p c.args.file c.args.token (λ b s. bound_or_after_dot p c.args.file c.args.token s.declaration s.binds c.requires.after_dot)
          c.in-None.ensures);
      extends = extends_itself c.args.bounds.now.list.items;
      same = refl;
    }

pub returns-in_ok-add-in-Some : goal.returns-in_ok-add-in-Some
returns-in_ok-add-in-Some c = record {
  placed = placed_behind (package_of c.args.pkg) c.args.file c.args.token c.add.new.self.list.items c.in_ok-add-in-Some.field-0 c.in_ok-bound-in-Some.bound
      (export_of c.in-Some.export.now) c.in_ok-add-in-Some.ensures.placed
      c.in_ok-bound-in-Some.ensures c.in-Some.ensures.0;
  extends = c.in_ok-add-in-Some.ensures.extends;
  same = c.in_ok-add-in-Some.ensures.same;
}
