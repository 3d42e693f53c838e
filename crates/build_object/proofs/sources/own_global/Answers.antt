-- The answers to the goals of `sources::own_global`.
use Rattle.std.proofs.Common.{◌∙◌, ap, sym, subst}
use Rattle.std.proofs.lemmas.Bool.{false≢true}
use Rattle.go_scope.specs.Bindings.{IsPackageLevel, block_of}
use Rattle.types_declared.specs.PackageView.{package_of}
use Rattle.build_object.specs.Sources.{own}
use Rattle.build_object.proofs.Bindings.{global_as, no_global}
use Rattle.build_object.proofs.OneObject.{own_or_imported}
use Rattle.build_object.proofs.sources.own_global.Goals as goal

pub returns-then-is_own : goal.returns-then-is_own
returns-then-is_own c = global_as (package_of c.args.unit) c.args.file c.args.token _ _ _ _ c.path.ensures c.spelling.ensures
    (own {d = c.args.d} c.requires.bound (ap block_of (sym c.role.ensures) ∙ sym c.block.ensures ∙ c.same-is_own.ensures.0 c.if-is_own.true))

pub returns-else-is_own : goal.returns-else-is_own
returns-else-is_own c = no_global (package_of c.args.unit) c.args.file c.args.token
    (λ e binds level. false≢true (sym c.if-is_own.false ∙ c.same-is_own.ensures.1 (c.block.ensures ∙ ap block_of c.role.ensures ∙
    subst (IsPackageLevel (package_of c.args.unit).layout) (c.requires.only e binds) level)))
    (λ path behind. own_or_imported (package_of c.args.unit) c.args.file c.args.token c.args.d path c.requires.bound behind)
