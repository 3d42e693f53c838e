-- Packages, bindings and uses don't depend on which table of right verdicts they are found with.
use Rattle.std.proofs.Common.{ℕ, List}
use Rattle.base_files.specs.Workspace.{Workspace}
use Rattle.base_files.specs.declared.place.Place.{Place}
use Rattle.types_declared.specs.Package.{Package}
use Rattle.workspace_check.specs.Verdicts.{Verdicts, AreVerdicts}
use Rattle.workspace_check.proofs.Alike.{package_as}
use Rattle.workspace_check.proofs.OneVerdict.{right_alike, right_below}
use Rattle.refs_binding.specs.declared.declaration.Declaration.{Declaration}
use Rattle.refs_binding.specs.declared.declaration.Declaration.TheVariants.{Predeclared, Declared, Field, Method}
use Rattle.refs_binding.specs.Binding.{by_scope, by_package, by_member, by_name, BindsQualified}
use Rattle.refs_binding.specs.Identifiers.{named_by}
use Rattle.refs_binding.specs.Uses.{IsCheckedPackage, IsBoundToDeclaration, IsUseOf, IsFilePackage, HasDeclaration}

module _ (w : Workspace) (a b : Verdicts) (right : AreVerdicts w a) (also : AreVerdicts w b) where
  pub package_for : (p : Package) → IsCheckedPackage w a p → IsCheckedPackage w b p
  package_for p is = record {
    of_workspace = is.of_workspace;
    is_checked = package_as w p.path a b (right_alike w p.path a b (right_below w a right p.path) (right_below w b also p.path)) p is.is_checked;
  }

  behind_for : (p : Package) (u : ℕ) (d : Declaration) → BindsQualified (IsCheckedPackage w a) p u d → BindsQualified (IsCheckedPackage w b) p u d
  behind_for p u (Predeclared n) h = h
  behind_for p u (Declared path n) h = record {
    behind = h.behind;
    other = h.other;
    is_package = package_for h.other h.is_package;
    of_path = h.of_path;
    seen = h.seen;
    named = h.named;
  }
  behind_for p u (Field s) h = h
  behind_for p u (Method s) h = h

  pub bound_for : (p : Package) (u : ℕ) (d : Declaration) → IsBoundToDeclaration w a p u d → IsBoundToDeclaration w b p u d
  bound_for p u d (by_scope h) = by_scope h
  bound_for p u d (by_package h) = by_package (behind_for p u d h)
  bound_for p u d (by_member h) = by_member h
  bound_for p u d (by_name h) = by_name h

  pub use_for : (d : Declaration) (place : Place) → IsUseOf w a d place → IsUseOf w b d place
  use_for d place h = record {
    used_in = h.used_in;
    is_package = package_for h.used_in h.is_package;
    user = h.user;
    begins = h.begins;
    bound = bound_for h.used_in h.user d h.bound;
  }

  pub asked_for : (path : List ℕ) (p : Package) → IsFilePackage w a path p → IsFilePackage w b path p
  asked_for path p h = record { is_package = package_for p h.is_package; of_folder = h.of_folder }

  pub held_for : (path : List ℕ) (offset : ℕ) (d : Declaration) → HasDeclaration w a path offset d → HasDeclaration w b path offset d
  held_for path offset d h = record {
    asked_in = h.asked_in;
    is_asked = asked_for path h.asked_in h.is_asked;
    number = h.number;
    at = h.at;
    bound = bound_for h.asked_in (named_by h.asked_in.layout h.number) d h.bound;
  }
