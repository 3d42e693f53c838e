-- The answers to the goals of `index::Index::path`.
use Rattle.std.proofs.Common.{◌∙◌, ap}
use Rattle.std.specs.Prelude.{slice_get}
use Rattle.types_declared.specs.PackageView.{package_of, path_in}
use Rattle.types_declared.proofs.DeclaredPaths.{path_read}
use Rattle.types_declared.proofs.index.Index.path.Goals as goal

pub returns : goal.returns
returns c =
    path_read c.one_string_value.ensures (package_of c.args.pkg) c.args.d c.path_at.result _
    (c.path_at.ensures ∙ ap (λ ps. path_in (slice_get ps c.args.d)) c.deref.ensures.value)
    (c.requires.index.paths.each c.args.d c.requires.in_range)
