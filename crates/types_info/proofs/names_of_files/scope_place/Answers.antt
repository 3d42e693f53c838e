-- The answers to the goals of `names_of_files::scope_place`.
use Rattle.std.proofs.Common.{◌∙◌, sym, subst}
use Rattle.std.specs.Prelude.{Some, None, option_map, slice_index_or}
use Rattle.std.proofs.lemmas.Option.{none-some}
use Rattle.go_scope.specs.Packages.{names_in}
use Rattle.types_expr.specs.WorldView.{bound_of, bound_at}
use Rattle.types_info.specs.NamesView.{IsScopeFound}
use Rattle.types_declared.specs.PackageView.{package_of}
use Rattle.types_declared.proofs.Binding.{bound_by, only_by, within}
use Rattle.types_info.proofs.NameParts.{no_scope, scope_found}
use Rattle.types_info.proofs.names_of_files.scope_place.Goals as goal

pub binding-requires : goal.binding-requires
binding-requires c = c.requires.found.within

pub returns-in-None : goal.returns-in-None
returns-in-None c =
    let p = package_of c.args.pkg in
    record {
      found = no_scope p c.args.at.file c.args.at.index (bound_by p c.args.at.file c.args.at.index c.args.u None c.requires.found c.in-None.ensures);
      within = λ i e. absurd (none-some i e);
    }

pub returns-in-Some : goal.returns-in-Some
returns-in-Some c =
    let p = package_of c.args.pkg in
    let file = c.args.at.file in
    let token = c.args.at.index in
    let list = c.args.bounds.now.list.items in
    let of = c.args.bounds.now.of.items in
    let d = c.in-Some.d in
    record {
      found = subst (λ o. IsScopeFound p file token (option_map bound_of (bound_at list o))) (sym c.get.ensures)
          (scope_found p file token d (bound_at list (slice_index_or of d None))
          (bound_by p file token c.args.u (Some d) c.requires.found c.in-Some.ensures)
          (only_by p file token c.args.u (Some d) c.requires.found
          (λ e f b b'. c.bindings_are_unique.ensures p.layout c.is_well_formed.ensures p.names c.args.u e f b b') c.in-Some.ensures)
          (c.requires.bounds.each d
          (within c.args.pkg.table.now.sites (names_in c.args.pkg.table.now) c.args.u (Some d) c.in-Some.ensures)));
      within = λ i e. c.requires.bounds.within d i (sym c.get.ensures ∙ e);
    }
