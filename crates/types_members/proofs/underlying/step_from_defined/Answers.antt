-- The answers to the goals of `underlying::step_from_defined`.
use Rattle.std.proofs.Common.{◌≡◌, sym, ◌∙◌}
use Rattle.std.proofs.lemmas.Bool.{false≢true}
use Rattle.std.proofs.lemmas.Slice.Eq.{bytes_eq-Decides}
use Rattle.types_expr.specs.WorldView.{underlying_of}
use Rattle.types_declared.specs.PackageView.{package_of}
use Rattle.types_members.proofs.Steps.{from_own, from_imported}
use Rattle.types_members.proofs.underlying.step_from_defined.Goals as goal

pub returns-then-eq : goal.returns-then-eq
returns-then-eq c =
    let same : c.path.result.now ≡ c.path-2.result.now = (bytes_eq-Decides c.path.result.now c.path-2.result.now).0 (sym c.if-eq.ensures) in
    from_own (package_of c.args.pkg) c.args.symbol.now (sym c.path-2.ensures ∙ (sym same ∙ c.path.ensures)) c.own_step.result c.own_step.ensures

pub returns-in_ok-imported_underlying : goal.returns-in_ok-imported_underlying
returns-in_ok-imported_underlying c =
    from_imported (package_of c.args.pkg) c.args.symbol.now (underlying_of c.in_ok-imported_underlying.field-0)
    (λ e. false≢true (c.if-eq.ensures ∙ (bytes_eq-Decides c.path.result.now c.path-2.result.now).1 (c.path.ensures ∙ (sym e ∙ sym c.path-2.ensures))))
    c.in_ok-imported_underlying.ensures
