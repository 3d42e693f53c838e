-- The answers to the goals of `names_of_files::is_name_after_dot`.
use Rattle.std.proofs.Common.{◌∙◌, sym}
use Rattle.std.proofs.lemmas.Bool.{false≢true}
use Rattle.types_declared.specs.PackageView.{package_of}
use Rattle.types_declared.proofs.Binding.{found_at}
use Rattle.types_info.proofs.NameParts.{no_dot, role_behind}
use Rattle.types_info.proofs.names_of_files.is_name_after_dot.Goals as goal

pub role-requires : goal.role-requires
role-requires c =
    (found_at (package_of c.args.pkg) c.args.file c.args.token c.in-Some.u _ (sym c.get.ensures ∙ c.in-Some.is)
    (c.requires.identifiers c.args.file c.args.token)).within

pub returns-in-None : goal.returns-in-None
returns-in-None c = (
  λ t. absurd (false≢true t),
  λ b. absurd (no_dot (package_of c.args.pkg) c.args.file c.args.token _ (sym c.get.ensures ∙ c.in-None.is)
      (c.requires.identifiers c.args.file c.args.token) b),
)

pub returns-in-Some : goal.returns-in-Some
returns-in-Some c =
    let found = found_at (package_of c.args.pkg) c.args.file c.args.token c.in-Some.u _ (sym c.get.ensures ∙ c.in-Some.is)
    (c.requires.identifiers c.args.file c.args.token) in (
      λ t. record { identifier = c.in-Some.u; found = found; selected = sym c.role.ensures ∙ c.is_selected.ensures.0 t },
      λ b. c.is_selected.ensures.1 (c.role.ensures ∙ role_behind (package_of c.args.pkg) c.args.file c.args.token c.in-Some.u found b),
    )
