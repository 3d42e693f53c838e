-- The answer to the goal of `Versions::is_same`: both begin what was seen by both.
use Rattle.std.proofs.Common.{◌∙◌, length, ap, sym, subst, eqb-true, eq-eqb}
use mathlib.Core.List.{IsPrefix}
use Rattle.server_versions.proofs.Beginnings.{same_beginnings}
use Rattle.server_versions.proofs.versions.Versions.is_same.Goals as goal

pub returns : goal.returns
returns g c =
    let one = c.self.inside.seen.log in
    let two = c.other.inside.seen.log in
    let both = c.learn.new.self.log in
    let this : IsPrefix one both = subst (λ l. IsPrefix l both) (ap (λ s. s.log) c.again-both.ensures) c.learn.ensures.2 in (
      λ same. sym c.self.view_is ∙ same_beginnings one two both this c.learn.ensures.3 (sym c.self.invariant.0 ∙ eqb-true c.self.inside.count
          c.other.inside.count same ∙ c.other.invariant.0) ∙ c.other.view_is,
      λ same. eq-eqb c.self.inside.count c.other.inside.count (c.self.invariant.0 ∙ ap length (c.self.view_is ∙ same ∙ sym c.other.view_is) ∙ sym
          c.other.invariant.0),
    )
