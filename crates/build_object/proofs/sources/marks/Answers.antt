-- The answers to the goals of `sources::marks`.
use Rattle.std.proofs.Common.{arith}
use Rattle.std.specs.Prelude.{Some}
use Rattle.types_declared.specs.PackageView.{package_of}
use Rattle.build_object.specs.TablesView.{IsMarkAt}
use Rattle.build_object.proofs.Bindings.{no_global_past, no_truth_past}
use Rattle.build_object.proofs.Marks.{no_mark}
use Rattle.build_object.proofs.Tables.{no_row, next_row, all_got}
use Rattle.build_object.proofs.sources.marks.Goals as goal

pub loop-token-init : goal.loop-token-init
loop-token-init c = no_row (λ token m. IsMarkAt (package_of c.args.unit) c.args.file token (Some m)) no_mark _ c.new-marks.ensures.items

pub loop-token-preserved : goal.loop-token-preserved
loop-token-preserved c = next_row (λ token m. IsMarkAt (package_of c.args.unit) c.args.file token (Some m)) no_mark c.loop-token.token
    c.loop-token.marks.items c.push.new.self.items _ c.in_ok-push.ensures.items c.mark_at.ensures c.loop-token.invariant

pub returns : goal.returns
returns c =
    let p = package_of c.args.unit in
    all_got (IsMarkAt p c.args.file) no_mark c.loop-token.token c.loop-token.marks.items (λ token past.
    let none = c.width-token-end.ensures token (omega (arith, past, c.loop-token-test.false)) in
    let found = c.requires.identifiers c.args.file token in
    record { global = no_global_past p c.args.file token _ none found; truth = no_truth_past p c.args.file token _ none found }) c.loop-token.invariant
