-- There are as many packages as numbers.
use Rattle.std.proofs.Common.{length, sym, ap, ◌∙◌}
use Rattle.base_files.specs.Packages.{package_paths}
use Rattle.build_unit.proofs.ClosurePart.{size_at}
use Rattle.build_unit.proofs.inputs.PackageInputs.len.Goals as goal

pub returns : goal.returns
returns c =
    ap length (c.as_slice.ensures ∙ ap (λ parts. parts.closure) c.deref-parts.ensures) ∙ sym (size_at _ _ _ c.self.invariant.0) ∙
    ap (λ w. length (package_paths w)) c.self.view_is
