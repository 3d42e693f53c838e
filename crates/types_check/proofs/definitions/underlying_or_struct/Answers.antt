-- The answers to the goals of `definitions::underlying_or_struct`.
use Rattle.std.proofs.Common.{◌≡◌, sym, subst}
use Rattle.std.specs.Prelude.{None, Some, option_map}
use Rattle.std.proofs.lemmas.Result.{IfOk-weaker}
use Rattle.types_expr.specs.Types.{Struct}
use Rattle.types_expr.specs.WorldView.{underlying_of}
use Rattle.types_declared.specs.Package.{symbol_in}
use Rattle.types_declared.specs.Definitions.{IsUnderlyingOf, has, has_none}
use Rattle.types_members.specs.MembersView.{IsUnderlyingFound}
use Rattle.types_declared.specs.PackageView.{package_of}
use Rattle.types_check.proofs.definitions.underlying_or_struct.Goals as goal

pub returns-in-None : goal.returns-in-None
returns-in-None c =
    let p = package_of c.args.pkg in
    let rank = c.args.rank in
    let none : IsUnderlyingFound p rank None = subst (λ o. IsUnderlyingFound p rank (option_map underlying_of o)) c.in-None.is c.requires in
    IfOk-weaker c.own_struct.result (λ u. underlying_of u ≡ Struct (symbol_in p rank)) (λ u. IsUnderlyingOf p rank (underlying_of u))
    (λ u e. subst (IsUnderlyingOf p rank) (sym e) (has_none none)) c.own_struct.ensures

pub returns-in-Some : goal.returns-in-Some
returns-in-Some c =
    let p = package_of c.args.pkg in
    let rank = c.args.rank in
    let own = underlying_of c.in-Some.own in
    let found : IsUnderlyingFound p rank (Some own) = subst (λ o. IsUnderlyingFound p rank (option_map underlying_of o)) c.in-Some.is c.requires in
    IfOk-weaker c.copy.result (λ u. underlying_of u ≡ own) (λ u. IsUnderlyingOf p rank (underlying_of u))
    (λ u e. subst (IsUnderlyingOf p rank) (sym e) (has found)) c.copy.ensures
