-- The path of the package is that of its number.
use Rattle.std.proofs.Common.{◌≡◌, sym, subst, ◌∙◌}
use Rattle.std.proofs.lemmas.Option.{same_Some}
use Rattle.law_objects.specs.Legible.{IsLegible}
use Rattle.refactor_units.proofs.level.has_legible_path.Goals as goal

pub returns : goal.returns
returns c = (
  (λ legible p at.
      let same : c.as_slice-path.result.now ≡ p = c.as_slice-path.ensures.value ∙ same_Some _ p (sym c.package.ensures.path ∙ at) in
      subst IsLegible same (sym c.is_legible.ensures ∙ legible)),
  (λ has. c.is_legible.ensures ∙ subst IsLegible (sym c.as_slice-path.ensures.value) (has _ c.package.ensures.path)),
)
