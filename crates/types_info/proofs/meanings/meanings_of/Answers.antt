-- The answers to the goals of `meanings::meanings_of`.
use Rattle.std.proofs.Common.{◌≡◌, length, subst, arith}
use Rattle.std.specs.Prelude.{option_map}
use Rattle.types_expr.specs.WorldView.{bound_of}
use Rattle.types_info.specs.MeaningsView.{AreMeaningsBelow}
use Rattle.types_declared.specs.PackageView.{package_of}
use Rattle.types_info.proofs.MeaningLists.{next_meaning}
use Rattle.types_info.proofs.meanings.meanings_of.Goals as goal

pub loop-d-preserved : goal.loop-d-preserved
loop-d-preserved c =
    next_meaning (package_of c.args.pkg) c.loop-d.d c.loop-d.bounds.list.items c.loop-d.bounds.of.items (option_map bound_of c.in_ok-meaning.field-0)
    c.note.new.self.list.items c.note.new.self.of.items
    c.in_ok-note.ensures c.in_ok-meaning.ensures c.loop-d.invariant

pub returns : goal.returns
returns c =
    let e : c.loop-d.d ≡ length c.args.pkg.table.now.sites = omega arith in
    subst (λ n. AreMeaningsBelow (package_of c.args.pkg) n c.loop-d.bounds.list.items c.loop-d.bounds.of.items) e c.loop-d.invariant
