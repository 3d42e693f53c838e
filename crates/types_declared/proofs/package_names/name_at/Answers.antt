-- The answers to the goals of `package_names::name_at`.
use Rattle.std.proofs.Common.{ℕ, ◌∙◌, List, map, ap, subst, MatchOption}
use Rattle.go_ast.specs.SourceFile.{source_of}
use Rattle.types_declared.specs.Laid.{laid_in, IsPathOf}
use Rattle.types_declared.proofs.NameParts.{path_named, path_missing}
use Rattle.types_declared.proofs.package_names.name_at.Goals as goal

pub returns-in-None : goal.returns-in-None
returns-in-None g c =
    let p = laid_in c.args.plain.now in
    let files = map source_of c.args.files.now in
    path_missing files (g.N.PackageNames.name_of c.args.packages.now) p c.args.u
    (subst (λ o. MatchOption o ((v : List ℕ) → IsPathOf files p c.args.u v → ⊥) (λ v. IsPathOf files p c.args.u v.items)) c.in-None.is
    c.in_ok-path_among.ensures)

pub returns-in-Some : goal.returns-in-Some
returns-in-Some g c =
    let p = laid_in c.args.plain.now in
    let files = map source_of c.args.files.now in
    let name_of = g.N.PackageNames.name_of c.args.packages.now in
    path_named c.one_string_value.ensures files name_of p c.args.u c.in-Some.path.items _
    (subst (λ o. MatchOption o ((v : List ℕ) → IsPathOf files p c.args.u v → ⊥) (λ v. IsPathOf files p c.args.u v.items)) c.in-Some.is
    c.in_ok-path_among.ensures)
    (c.name.ensures ∙ ap name_of c.deref.ensures.value)
