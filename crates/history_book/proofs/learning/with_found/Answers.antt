-- A verdict that is known stays, and one that was found stands at the number of its package.
use Rattle.std.proofs.Common.{◌≡◌, ◌≤◌, length, get_or, [], sym, ap, subst, ◌∙◌, arith}
use Rattle.std.specs.Prelude.{Some, slice_get}
use Rattle.std.proofs.lemmas.List.{length-set}
use Rattle.std.proofs.lemmas.Option.{slice_get-get_or}
use Rattle.std.proofs.lemmas.Result.{IfOk-weaker}
use Rattle.base_files.specs.Packages.{package_paths}
use Rattle.workspace_check.specs.declared.known.Known.{Known}
use Rattle.workspace_check.specs.Found.{KnowsVerdicts}
use Rattle.workspace_check.specs.KnownFindings.{IsKnownVerdict}
use Rattle.workspace_check.proofs.Telling.{known_same, known_set}
use Rattle.history_book.proofs.learning.with_found.Goals as goal
use Rattle.history_book.proofs.learning.with_found.Goals.{in-Some+in_ok-copy, in_default}

pub loop-number-init : goal.loop-number-init
loop-number-init c =
    let w = c.args.files.now in
    record {
      room = omega (arith, c.len.ensures, c.in_ok-known.ensures.size);
      known = known_same w c.get.result.now c.in_ok-known.known c.in_ok-known.ensures.same (subst (KnowsVerdicts w) (sym c.get.ensures) c.requires.own);
    }

pub set-requires : goal.set-requires
set-requires c = omega (arith, c.loop-number.invariant.room)

pub loop-number-preserved : goal.loop-number-preserved
loop-number-preserved c =
    let w = c.args.files.now in
    let n = c.loop-number.number in
    let p = get_or (package_paths w) n [] in
    let at : slice_get (package_paths w) n ≡ Some p = slice_get-get_or (package_paths w) n [] (omega arith) in
    let has_room = λ (k : Known). length (package_paths w) ≤ length k.verdicts.items in
    elim c.match-get.branch [
      | in-Some+in_ok-copy x ↦ (
          let copy = x.in_ok-copy.copy in
          let told : IsKnownVerdict w p copy = subst (IsKnownVerdict w p) (sym x.in_ok-copy.ensures.cases)
          (c.requires.found n p x.in-Some.verdict.now at x.in-Some.ensures) in
          let size = ap length x.set.ensures ∙ length-set c.loop-number.known.verdicts.items n (Some copy) in
          record {
            room = subst has_room (sym x.known-is) (omega (arith, c.loop-number.invariant.room, size));
            known = subst (KnowsVerdicts w) (sym x.known-is) (known_set w c.loop-number.known x.set.new.self n p copy at x.set.ensures told
                c.loop-number.invariant.known);
          })
      | in_default x ↦ record {
        room = subst has_room (sym x.known-is) c.loop-number.invariant.room;
        known = subst (KnowsVerdicts w) (sym x.known-is) c.loop-number.invariant.known;
      }
    ]

pub returns : goal.returns
returns c =
    let w = c.args.files.now in
    IfOk-weaker c.new.result (λ shared. shared ≡ c.loop-number.known) (KnowsVerdicts w)
    (λ shared is. subst (KnowsVerdicts w) (sym is) c.loop-number.invariant.known) c.new.ensures
