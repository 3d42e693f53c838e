-- The answers to the goals of `qualifiers::name_qualifier`.
use Rattle.std.proofs.Common.{◌≡◌, ◌<◌, ◌-◌, ◌∙◌, ℕ, suc, ap, sym, subst, arith}
use Rattle.std.specs.Prelude.{MatchOption}
use Rattle.types_declared.specs.PackageView.{package_of}
use Rattle.types_declared.specs.Written.{BindsToken}
use Rattle.types_info.proofs.NamesBefore.{bound_before, not_behind}
use Rattle.types_info.proofs.qualifiers.name_qualifier.Goals as goal

pub returns-then-at-lt2 : goal.returns-then-at-lt2
returns-then-at-lt2 c =
    let p = package_of c.args.pkg in
    record {
      before = λ path h. not_behind p c.args.u path (subst (λ x. x.index < 2) c.place-at.ensures c.if-at-lt2.true) h;
      in_range = tt;
    }

pub returns-else-at-lt2 : goal.returns-else-at-lt2
returns-else-at-lt2 c =
    let p = package_of c.args.pkg in
    let before = c.place-at.result.index - 2 in
    let e : c.place-at.result.index ≡ suc (suc before) = omega arith in
    record {
      before = bound_before p c.args.u before c.binding.result c.requires.selected (ap (λ x. x.index) (sym c.place-at.ensures) ∙ e)
          (subst (λ x. MatchOption c.binding.result ((d : ℕ) → BindsToken p x.file before d → ⊥) (λ d. BindsToken p x.file before d)) c.place-at.ensures
          c.binding.ensures.bound)
          (subst (λ x. MatchOption c.binding.result (Unit {0}) (λ d. (e : ℕ) → BindsToken p x.file before e → e ≡ d)) c.place-at.ensures
          c.binding.ensures.only);
      in_range = c.binding.ensures.in_range;
    }
