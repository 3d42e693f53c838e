-- The answers to the goals of `underlying::steps`.
use Rattle.std.proofs.Common.{rules, arith, ◌≡◌, length}
use Rattle.types_declared.specs.Package.{package_types}
use Rattle.types_declared.specs.DeclaredView.{type_of}
use Rattle.types_declared.specs.PackageView.{package_of}
use Rattle.types_members.specs.Steps.{IsStep}
use Rattle.types_declared.proofs.Breaking.{definition_count}
use Rattle.types_declared.proofs.Items.{item_at}
use Rattle.types_members.proofs.Steps.{each_push}
use Rattle.types_members.proofs.underlying.steps.Goals as goal

pub step_of-requires-clause-definition : goal.step_of-requires-clause-definition
step_of-requires-clause-definition c =
    item_at type_of c.args.index.now.declared.types.items (package_types (package_of c.args.pkg)) c.loop-rank.rank c.index.result.now c.requires.types
    (omega (arith, c.loop-rank-test.true, c.len-rank-end.ensures)) c.index.ensures

pub loop-rank-preserved : goal.loop-rank-preserved
loop-rank-preserved c = record {
  all = search rules;
  each = each_push (IsStep (package_of c.args.pkg)) c.loop-rank.steps.items c.push.new.self.items c.loop-rank.rank c.in_ok-step_of.field-0
      c.in_ok-push.ensures.items c.loop-rank.invariant.all c.loop-rank.invariant.each c.in_ok-step_of.ensures;
}

pub returns : goal.returns
returns c =
    let p = package_of c.args.pkg in
    let items = c.args.index.now.declared.types.items in
    let count : length items ≡ length (package_types p) = definition_count p items c.requires.types in
    record {
      all = omega (arith, c.loop-rank.invariant.all, c.len-rank-end.ensures, c.loop-rank-test.false);
      each = c.loop-rank.invariant.each;
    }
