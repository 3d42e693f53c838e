-- The answers to the goals of `names_of_files::spelled_tokens`.
use Rattle.std.proofs.Common.{◌≤◌, length, subst}
use Rattle.std.specs.Prelude.{slice_get}
use Rattle.types_declared.specs.PackageView.{package_of}
use Rattle.types_info.proofs.NameParts.{unspelled}
use Rattle.types_info.proofs.names_of_files.spelled_tokens.Goals as goal

pub returns : goal.returns
returns c = λ token le. unspelled (slice_get (package_of c.args.pkg).files c.args.file) token (subst (λ ts. length ts ≤ token) c.tokens_of.ensures le)
