-- The answers to the goals of `tables::is_import_use`.
use Rattle.std.proofs.Common.{◌≡◌, subst}
use Rattle.std.proofs.lemmas.Bool.{false≢true}
use Rattle.types_declared.specs.Laid.{literal_of}
use Rattle.types_declared.specs.PackageView.{package_of}
use Rattle.types_declared.specs.Written.{DeclaresImport}
use Rattle.refactor_follow.proofs.tables.is_import_use.Goals as goal

pub returns-in-None : goal.returns-in-None
returns-in-None c = ((λ t. absurd (false≢true t)), (λ h. absurd (c.in-None.ensures.bound h.import h.binds)))

pub returns-in-Some : goal.returns-in-Some
returns-in-Some c =
    let p = package_of c.args.unit in (
      (λ t. let x = c.is_import_of.ensures.0 t in record { import = c.in-Some.d; binds = c.in-Some.ensures.bound; unnamed = x.0; imports = x.1 }),
      (λ h.
          let e = c.in-Some.ensures.only h.import h.binds in
          c.is_import_of.ensures.1 (subst (λ i. literal_of p.layout i ≡ i) e h.unnamed, subst (λ i. DeclaresImport p i c.args.path.now) e h.imports)),
    )
