-- The answers to the goals of `index::Index::binding`.
use Rattle.std.proofs.Common.{sym, ◌∙◌}
use Rattle.go_scope.specs.Packages.{names_in}
use Rattle.types_declared.specs.PackageView.{package_of}
use Rattle.types_declared.proofs.Binding.{bound_nowhere, found_at, bound_by, only_by, within}
use Rattle.types_declared.proofs.index.Index.binding.Goals as goal

pub returns-in-None : goal.returns-in-None
returns-in-None c = record {
  bound = bound_nowhere (package_of c.args.pkg) c.args.file c.args.token _ (sym c.get.ensures ∙ c.in-None.is)
      (c.requires.identifiers c.args.file c.args.token);
  only = tt;
  in_range = tt;
}

pub returns-in-Some : goal.returns-in-Some
returns-in-Some c =
    let p = package_of c.args.pkg in
    let found = found_at p c.args.file c.args.token c.in-Some.u _ (sym c.get.ensures ∙ c.in-Some.is) (c.requires.identifiers c.args.file c.args.token) in
    record {
      bound = bound_by p c.args.file c.args.token c.in-Some.u c.binding.result found c.binding.ensures;
      only = only_by p c.args.file c.args.token c.in-Some.u c.binding.result found
          (λ d e b b'. c.bindings_are_unique.ensures p.layout c.is_well_formed.ensures p.names c.in-Some.u d e b b') c.binding.ensures;
      in_range = within c.args.pkg.table.now.sites (names_in c.args.pkg.table.now) c.in-Some.u c.binding.result c.binding.ensures;
    }
