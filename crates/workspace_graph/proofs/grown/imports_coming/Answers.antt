-- Where each path that is imported had a package none is that of the one that came, and otherwise it is looked for.
use Rattle.std.proofs.Common.{◌≡◌, get_or, Some, slice_get, sym, subst, ◌∙◌}
use Rattle.std.proofs.lemmas.Bool.{false≢true}
use Rattle.std.proofs.lemmas.Option.{same_Some, slice_get-get_or}
use Rattle.workspace_graph.specs.ImportPaths.{AnyImports}
use Rattle.workspace_graph.specs.declared.package.ParsedPackage.{ParsedPackage}
use Rattle.workspace_graph.proofs.grown.imports_coming.Goals as goal

pub returns-then-imports_had : goal.returns-then-imports_had
returns-then-imports_had c = (
  λ no. absurd (false≢true no),
  λ imports. absurd (c.imports_had.ensures c.if-imports_had.true c.args.path.now c.requires.path imports),
)

pub returns : goal.returns
returns c =
    let packages = c.args.grown.packages.now in
    let path = c.args.path.now in
    let n = c.args.number in
    let p : ParsedPackage = get_or packages n c.index-grown-number.result in
    let at : slice_get packages n ≡ Some p = slice_get-get_or packages n c.index-grown-number.result c.requires.number in (
      λ yes. (p, (at, c.imports_path.ensures.0 yes)),
      λ imports.
          let same : imports.0 ≡ p = same_Some imports.0 p (sym imports.1.0 ∙ at) in
          c.imports_path.ensures.1 (subst (λ (x : ParsedPackage). AnyImports x.trees.items path) same imports.1.1),
    )
