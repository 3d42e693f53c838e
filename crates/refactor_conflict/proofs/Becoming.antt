-- Which declaration after a change corresponds to a declaration before it.
use Rattle.std.proofs.Common.{◌≡◌, ◌⊎◌, inl, inr, refl, sym, subst, ◌∙◌}
use Rattle.std.specs.Prelude.{◌↔◌}
use Rattle.std.proofs.lemmas.Bool.{false≢true}
use Rattle.base_files.specs.declared.place.Place.{Place}
use Rattle.types_declared.specs.Package.{Package}
use Rattle.refs_binding.specs.declared.declaration.Declaration.{Declaration}
use Rattle.refs_binding.specs.declared.declaration.Declaration.TheVariants.{Predeclared}
use Rattle.refs_binding.specs.DeclaringPlaces.{IsDeclaredAt}
use Rattle.refactor_conflict.specs.Corresponding.{Corresponds, IsSamePredeclared, predeclared, stands}

module _ (B A : Package → Type 0) (moved : Place → Place) where
  -- where both stand
  pub record StandBoth (d e : Declaration) : Type 0 where
    pub place : Place
    pub old : IsDeclaredAt B d place
    pub new : IsDeclaredAt A e (moved place)

  pub by_cases : (d e : Declaration) → Corresponds B A moved d e → IsSamePredeclared d e ⊎ StandBoth d e
  by_cases d e (predeclared {n = n}) = inl (record { number = n; one = refl; other = refl })
  by_cases d e (stands place h k) = inr (record { place = place; old = h; new = k })

  pub same_names : (d e : Declaration) → IsSamePredeclared d e → Corresponds B A moved d e
  same_names d e h = subst (λ x. Corresponds B A moved x e) (sym h.one) (subst (λ y. Corresponds B A moved (Predeclared h.number) y) (sym h.other) predeclared)
