-- The answers to the goals of `exported::exported_as`.
use Rattle.std.proofs.Common.{◌≡◌, ◌<◌, ◌∙◌, inl, inr, length, sym, subst, arith}
use Rattle.std.proofs.lemmas.Bool.{cases_lt, false≢true}
use Rattle.types_check.specs.Exports.{DoesExport}
use Rattle.types_declared.specs.PackageView.{package_of}
use Rattle.refs_binding.proofs.Bound.{seen_within}
use Rattle.refs_lookup.proofs.exported.exported_as.Goals as goal

pub loop-d-preserved : goal.loop-d-preserved
loop-d-preserved c = λ e lt seen named. elim (cases_lt e c.loop-d.d) [
  | inl below ↦ c.loop-d.invariant e below seen named
  | inr ge ↦ (
      let same : e ≡ c.loop-d.d = omega arith in
      let p = package_of c.args.unit in
      false≢true (sym c.if-is_exported_as.false ∙ c.is_exported_as.ensures.1 (
        subst (DoesExport p) same seen,
        subst (λ n. p.names n ≡ c.args.name.now) same
            named,
      )))
]

pub returns : goal.returns
returns c = λ e seen named.
    let lt = seen_within c.args.unit.table.now.sites e seen.counts in
    let end : c.loop-d.d ≡ length c.args.unit.table.now.sites = omega (arith, c.len-d-end.ensures) in
    c.loop-d.invariant e (subst (λ n. e < n) (sym end) lt) seen named
