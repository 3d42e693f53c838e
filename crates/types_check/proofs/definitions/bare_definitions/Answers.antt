-- The answers to the goals of `definitions::bare_definitions`.
use Rattle.std.proofs.Common.{rules, arith, ◌<◌, length, sym, subst}
use Rattle.std.specs.Prelude.{None, option_map}
use Rattle.std.proofs.lemmas.List.{get_or_read}
use Rattle.types_expr.specs.WorldView.{definition_of, underlying_of}
use Rattle.types_declared.specs.Package.{package_types}
use Rattle.types_members.specs.MembersView.{IsUnderlyingFound}
use Rattle.types_declared.specs.PackageView.{package_of}
use Rattle.types_check.specs.Building.{IsDefinitionBelow}
use Rattle.types_members.proofs.Steps.{each_push}
use Rattle.types_check.proofs.definitions.bare_definitions.Goals as goal

pub bare_definition-requires : goal.bare_definition-requires
bare_definition-requires c =
    let p = package_of c.args.pkg in
    let rank = c.loop-rank.rank in
    let within : rank < length (package_types p) = omega (arith, c.loop-rank-test.true, c.requires.all) in
    subst (λ o. IsUnderlyingFound p rank (option_map underlying_of o))
    (sym (get_or_read c.args.underlying.now rank c.index-underlying-rank.result c.loop-rank-test.true c.index-underlying-rank.is None))
    (c.requires.each rank within)

pub loop-rank-preserved : goal.loop-rank-preserved
loop-rank-preserved c = record {
  all = search rules;
  each = each_push (λ r d. IsDefinitionBelow (package_of c.args.pkg) 0 0 r (definition_of d)) c.loop-rank.found.items c.push.new.self.items
      c.loop-rank.rank c.in_ok-bare_definition.field-0 c.in_ok-push.ensures.items
      c.loop-rank.invariant.all c.loop-rank.invariant.each c.in_ok-bare_definition.ensures;
}

pub returns : goal.returns
returns c = record { all = omega (arith, c.loop-rank.invariant.all, c.requires.all); each = c.loop-rank.invariant.each }
