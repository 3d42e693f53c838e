-- The answers to the goals of `names_of_files::selected`.
use Rattle.std.proofs.Common.{◌≡◌, ◌-◌, suc, arith}
use Rattle.types_declared.specs.PackageView.{package_of}
use Rattle.types_info.proofs.NameParts.{selected_by, selected_late}
use Rattle.types_info.proofs.names_of_files.selected.Goals as goal

pub returns-then-token-lt2 : goal.returns-then-token-lt2
returns-then-token-lt2 c = λ e s. let late = selected_late (package_of c.args.pkg) c.args.file c.args.token e s in
    absurd (omega (arith, late, c.if-token-lt2.true))

pub returns-else-token-lt2 : goal.returns-else-token-lt2
returns-else-token-lt2 c =
    let e : c.args.token ≡ suc (suc (c.args.token - 2)) = omega (arith, c.if-token-lt2.false) in
    selected_by (package_of c.args.pkg) c.args.file c.args.token (c.args.token - 2) c.export_at.result e c.requires.after_dot c.export_at.ensures
