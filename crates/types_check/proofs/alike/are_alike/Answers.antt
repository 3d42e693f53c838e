-- Equal known values give the same export data.
use Rattle.std.proofs.Common.{◌≡◌, sym, ap, ◌∙◌}
use Rattle.std.specs.Prelude.{Some}
use Rattle.types_expr.specs.WorldView.{known_at}
use Rattle.types_check.specs.Known.{PlainExports, known_values}
use Rattle.types_check.proofs.Known.{same_known}
use Rattle.types_check.proofs.alike.are_alike.Goals as goal

pub returns-in-Some-Some-clause-export_data : goal.returns-in-Some-Some-clause-export_data
returns-in-Some-Some-clause-export_data c = λ t.
    let known = c.args.known.now in
    let all = c.args.all.now in
    let path = c.args.path.now in
    let one : Some c.in-Some-Some.one.now ≡ known = c.in-Some-Some.ensures in
    let other : Some c.in-Some-Some.other.now ≡ known_at all.definitions path =
    c.in-Some-Some.ensures' ∙ ap (λ ds. known_at ds path) c.definitions.ensures in
    let same = ap (λ (k : PlainExports). Some k) (c.is_export_data_alike.ensures.0 t) in
    same_known known all path (ap known_values (sym one) ∙ same ∙ ap known_values other)
