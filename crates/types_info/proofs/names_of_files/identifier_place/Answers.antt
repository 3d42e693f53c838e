-- The answers to the goals of `names_of_files::identifier_place`.
use Rattle.std.proofs.Common.{◌∙◌, sym, refl}
use Rattle.std.proofs.lemmas.Bool.{false≢true}
use Rattle.types_declared.specs.PackageView.{package_of}
use Rattle.types_info.proofs.MeaningLists.{extends_itself}
use Rattle.types_info.proofs.NameParts.{not_selected, placed_in_scope, role_behind}
use Rattle.types_info.proofs.names_of_files.identifier_place.Goals as goal

pub role-requires : goal.role-requires
role-requires c = c.requires.found.within

pub selected_place-requires-clause-after_dot : goal.selected_place-requires-clause-after_dot
selected_place-requires-clause-after_dot c = record {
  identifier = c.args.u;
  found = c.requires.found;
  selected = sym c.role.ensures ∙ c.is_selected.ensures.0 c.if-is_selected.true;
}

pub returns-else-is_selected : goal.returns-else-is_selected
returns-else-is_selected c =
    let p = package_of c.args.pkg in
    let file = c.args.at.file in
    let token = c.args.at.index in
    record {
      placed = placed_in_scope p file token c.args.bounds.now.list.items c.scope_place.result c.scope_place.ensures.found c.scope_place.ensures.within
          (not_selected p file token
          (λ b. false≢true (sym c.if-is_selected.false ∙ c.is_selected.ensures.1 (c.role.ensures ∙ role_behind p file token c.args.u c.requires.found b))));
      extends = extends_itself c.args.bounds.now.list.items;
      same = refl;
    }
