-- The answers to the goals of `numbers::named`.
use Rattle.std.proofs.Common.{◌≡◌, ◌∙◌, ap, length, arith, sym}
use Rattle.std.proofs.lemmas.Bool.{false≢true}
use Rattle.go_scope.specs.Packages.{names_in}
use Rattle.refactor_scopes.proofs.Listing.{none_listed, pushed, left_out, all_listed}
use Rattle.std.specs.Cmp.Lexicographic.{bytes_decides}
use Rattle.refactor_scopes.proofs.numbers.named.Goals.{then-eq+in_ok-push, else-eq}
use Rattle.refactor_scopes.proofs.numbers.named.Goals as goal

pub loop-u-init : goal.loop-u-init
loop-u-init c = none_listed (λ u. names_in c.args.table.now u ≡ c.args.name.now) c.new-named.result.items c.new-named.ensures.items

pub loop-u-preserved : goal.loop-u-preserved
loop-u-preserved c = elim c.if-eq.branch [
  | then-eq+in_ok-push w ↦
      pushed (λ u. names_in c.args.table.now u ≡ c.args.name.now) c.loop-u.u c.loop-u.named.items c.if-eq.named.items c.loop-u.invariant
      (sym c.name.ensures ∙ (bytes_decides _ _).0 (sym c.eq.ensures ∙ w.if-eq.true)) (ap (λ v. v.items) w.named-is ∙ w.in_ok-push.ensures.items)
  | else-eq w ↦
      left_out (λ u. names_in c.args.table.now u ≡ c.args.name.now) c.loop-u.u c.loop-u.named.items c.if-eq.named.items c.loop-u.invariant
      (λ k. false≢true (sym w.if-eq.false ∙ c.eq.ensures ∙ (bytes_decides _ _).1 (c.name.ensures ∙ k))) (ap (λ v. v.items) w.named-is)
]

pub returns : goal.returns
returns c =
    all_listed (λ u. names_in c.args.table.now u ≡ c.args.name.now) (length c.args.table.now.sites) c.loop-u.u c.loop-u.named.items c.loop-u.invariant
    (omega (arith, c.loop-u.auto.u-end, c.loop-u-test.false, c.len-u-end.ensures))
