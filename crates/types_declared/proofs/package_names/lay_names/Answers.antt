-- The answers to the goals of `package_names::lay_names`.
use Rattle.std.proofs.Common.{◌≡◌, map, subst, sym}
use Rattle.std.proofs.lemmas.Result.{IfOk-weaker}
use Rattle.go_ast.specs.SourceFile.{source_of}
use Rattle.go_scope.specs.Named.{with_names, name_given}
use Rattle.types_declared.specs.PackageNames.{ArePackageNames, IsLaidOver}
use Rattle.types_declared.specs.Laid.{laid_in}
use Rattle.types_declared.proofs.package_names.lay_names.Goals as goal

pub returns : goal.returns
returns g c =
    let p = laid_in c.args.plain in
    let files = map source_of c.args.files.now in
    let name_of = g.N.PackageNames.name_of c.args.packages.now in
    let names = name_given c.deref.result.now in
    IfOk-weaker c.name_imports.result (λ laid. laid ≡ with_names names c.args.plain) (λ laid. IsLaidOver files name_of c.args.plain laid)
    (λ laid e. record {
      names = names;
      are_names = subst (λ ns. ArePackageNames files name_of p (name_given ns)) (sym c.deref.ensures.value) c.in_ok-names.ensures;
      is_named = e;
    })
    c.name_imports.ensures
