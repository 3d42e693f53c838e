-- The invariants of the loops of `names::package_names`.
use Rattle.std.proofs.Common.{ℕ, ◌≡◌, ◌<◌, true, length, map}
use Rattle.go_ast.specs.SourceFile.{source_of}
use Rattle.go_scope.specs.Named.{is_unnamed_import, name_given}
use Rattle.types_declared.specs.Laid.{laid_in}
use Rattle.types_declared.specs.PackageNames.{IsPackageName}
use Rattle.types_declared.proofs.package_names.package_names.Given as goal

abbrev pub invariant-loop-u : goal.invariant-loop-u
invariant-loop-u g l = record {
  sized : length l.names.items ≡ l.u;
  each : (k : ℕ) → k < l.u → is_unnamed_import ((laid_in l.plain).layout.role k) ≡ true →
      IsPackageName (map source_of l.files) (g.N.PackageNames.name_of l.packages) (laid_in l.plain) k (name_given l.names.items k);
}
