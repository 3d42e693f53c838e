-- The answers to the goals of `numbers::uses_of`.
use Rattle.std.proofs.Common.{◌∙◌, ap, length, arith, sym}
use Rattle.std.proofs.lemmas.Bool.{false≢true}
use Rattle.go_scope.specs.Packages.{layout_in, names_in}
use Rattle.refactor_scopes.specs.Conflicts.{IsUseInScopes}
use Rattle.refactor_scopes.proofs.Listing.{none_listed, pushed, left_out, all_listed}
use Rattle.refactor_scopes.proofs.numbers.uses_of.Goals.{then-is_use_of+in_ok-push, else-is_use_of}
use Rattle.refactor_scopes.proofs.numbers.uses_of.Goals as goal

pub loop-u-init : goal.loop-u-init
loop-u-init c = none_listed (IsUseInScopes (layout_in c.args.table.now) (names_in c.args.table.now) c.args.d) c.new-uses.result.items c.new-uses.ensures.items

pub loop-u-preserved : goal.loop-u-preserved
loop-u-preserved c =
    let K = IsUseInScopes (layout_in c.args.table.now) (names_in c.args.table.now) c.args.d in
    elim c.if-is_use_of.branch [
      | then-is_use_of+in_ok-push w ↦
          pushed K c.loop-u.u c.loop-u.uses.items c.if-is_use_of.uses.items c.loop-u.invariant (c.is_use_of.ensures.0 w.if-is_use_of.true)
          (ap (λ v. v.items) w.uses-is ∙ w.in_ok-push.ensures.items)
      | else-is_use_of w ↦
          left_out K c.loop-u.u c.loop-u.uses.items c.if-is_use_of.uses.items c.loop-u.invariant
          (λ k. false≢true (sym w.if-is_use_of.false ∙ c.is_use_of.ensures.1 k)) (ap (λ v. v.items) w.uses-is)
    ]

pub returns : goal.returns
returns c =
    all_listed (IsUseInScopes (layout_in c.args.table.now) (names_in c.args.table.now) c.args.d) (length c.args.table.now.sites) c.loop-u.u c.loop-u.uses.items
    c.loop-u.invariant (omega (arith, c.loop-u.auto.u-end, c.loop-u-test.false, c.len-u-end.ensures))
