-- The answers to the goals of `untouched::has_mark`.
use Rattle.std.proofs.Common.{◌≡◌, Bool, Option, Some, sym, ap, ◌∙◌, rules, tests}
use Rattle.std.specs.Prelude.{slice_get}
use Rattle.std.specs.Global.{Vec as Row}
use Rattle.std.specs.List.{list_any}
use Rattle.std.proofs.lemmas.Iterator.{YieldsList-from_slice}
use Rattle.std.proofs.lemmas.Iterator.Search.{any_from_yields_List}
use Rattle.std.proofs.lemmas.Option.{slice_get-get_or}
use Rattle.refactor_move.specs.Uses.{marks_in_row}
use Rattle.refactor_move.proofs.untouched.has_mark.Goals as goal

pub returns-in-Some : goal.returns-in-Some
returns-in-Some c =
    let row = c.in-Some.row.now in
    let rows = c.args.rows.now in
    let found = c.in-Some.ensures.lookup in
    let at : slice_get rows c.args.file ≡ Some row = slice_get-get_or rows c.args.file row found.3.0 ∙ ap Some (sym found.1) in
    any_from_yields_List (λ (mark : Bool). mark) _ _ c.any.result c.any.ensures.ran (YieldsList-from_slice c.deref.result.now cc)
    (λ x b q k. search (rules, tests)) ∙
    (ap (list_any (λ (mark : Bool). mark)) c.deref.ensures.value ∙
    ap (λ (o : Option (Row Bool)). list_any (λ (mark : Bool). mark) (marks_in_row o)) (sym at))
