-- The answers to the goals of `package_names::package_names`.
use Rattle.std.proofs.Common.{◌≡◌, ap, arith, length, map}
use Rattle.go_ast.specs.SourceFile.{source_of}
use Rattle.types_declared.specs.Laid.{laid_in}
use Rattle.types_declared.proofs.NameParts.{sized_next, names_next}
use Rattle.types_declared.proofs.package_names.package_names.Goals as goal

pub loop-u-init : goal.loop-u-init
loop-u-init g c = record { sized = ap length c.in_ok-names.ensures.items; each = λ k lt. absurd (omega arith) }

pub loop-u-preserved : goal.loop-u-preserved
loop-u-preserved g c = record {
  sized = sized_next c.loop-u.names.items c.push.new.self.items c.loop-u.u c.in_ok-package_name.field-0 c.loop-u.invariant.sized c.in_ok-push.ensures.items;
  each = λ k lt unnamed. names_next (map source_of c.args.files.now) (g.N.PackageNames.name_of c.args.packages.now) (laid_in c.args.plain.now)
      c.loop-u.names.items c.push.new.self.items c.loop-u.u k c.in_ok-package_name.field-0
      c.loop-u.invariant.sized c.in_ok-push.ensures.items c.loop-u.invariant.each c.in_ok-package_name.ensures lt unnamed;
}

pub returns : goal.returns
returns g c = λ u lt unnamed.
    let size : c.loop-u.u ≡ length c.args.plain.now.sites = omega arith in
    c.loop-u.invariant.each u (omega arith) unnamed
