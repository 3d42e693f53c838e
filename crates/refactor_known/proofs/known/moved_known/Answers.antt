-- The answers to the goals of `known::moved_known`.
use Rattle.std.proofs.Common.{[], ◌∷◌, List, ℕ, length, length-append, ap, subst, arith}
use Rattle.std.specs.Prelude.{IfSome, option_copied}
use Rattle.base_files.specs.Packages.{package_paths}
use Rattle.workspace_check.specs.declared.known.KnownVerdict.{KnownVerdict}
use Rattle.refactor_known.specs.MovedKnown.{IsMovedFrom}
use Rattle.refactor_known.specs.Swaps.{map_of}
use Rattle.refactor_known.proofs.Verdicts.{next_known}
use Rattle.refactor_known.proofs.known.moved_known.Goals as goal

pub loop-number-preserved : goal.loop-number-preserved
loop-number-preserved c =
    let P : List ℕ → KnownVerdict → Type 0 = IsMovedFrom c.args.swap.now.from (option_copied c.args.before.name) (map_of c.args.swap.now)
    (package_paths c.args.before.graph.now) c.args.before.known.now in
    let last = c.in_ok-verdict_at.field-0 in
    let old = c.loop-number.rest.verdicts.items in
    let path = c.path_at.result.now in (
      omega (arith, ap length c.in_ok-push.ensures, length-append old (last ∷ []), c.loop-number.invariant.0),
      next_known P (package_paths c.args.after.now) old c.push.new.self.verdicts.items last c.loop-number.number path c.loop-number.invariant.0
          c.path_at.ensures c.in_ok-push.ensures (λ x e. subst (λ o. IfSome o (P path)) e c.in_ok-verdict_at.ensures) c.loop-number.invariant.1,
    )
