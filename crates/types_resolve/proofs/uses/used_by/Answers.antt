-- The answers to the goals of `uses::used_by`.
use Rattle.std.proofs.Common.{ℕ, MatchOption}
use Rattle.std.specs.Prelude.{Option, Some, None}
use Rattle.go_scope.specs.Bindings.{IsUse, IsBoundTo}
use Rattle.types_declared.specs.Laid.{laid_in}
use Rattle.types_resolve.proofs.uses.used_by.Goals as goal

used_from : (U : Type 0) (B : ℕ → Type 0) (r : Option ℕ) → U → MatchOption r ((d : ℕ) → B d → ⊥) B → MatchOption r (U → (d : ℕ) → B d → ⊥) (λ d. U × B d)
used_from U B None u h = λ v. h
used_from U B (Some d) u h = (u, h)

pub returns-then-is_name_use : goal.returns-then-is_name_use
returns-then-is_name_use c =
    let p = laid_in c.args.table.now in
    used_from (IsUse p.layout p.names c.args.u) (λ d. IsBoundTo p.layout p.names c.args.u d) c.binding.result
    (c.is_name_use.ensures.0 c.if-is_name_use.true) c.binding.ensures
