-- Bindings do not depend on the findings for paths that are no packages.
use Rattle.std.proofs.Common.{ℕ}
use Rattle.base_files.specs.Workspace.{Workspace}
use Rattle.base_files.specs.declared.place.Place.{Place}
use Rattle.types_declared.specs.Package.{Package}
use Rattle.workspace_check.specs.Verdicts.{Verdicts, AreVerdicts}
use Rattle.workspace_check.proofs.Alike.{package_as}
use Rattle.workspace_check.proofs.OneVerdict.{right_alike, right_below}
use Rattle.refs_binding.specs.declared.declaration.Declaration.{Declaration}
use Rattle.refs_binding.specs.declared.declaration.Declaration.TheVariants.{Predeclared, Declared, Field, Method}
use Rattle.refs_binding.specs.Binding.{Binds, by_scope, by_package, by_member, by_name, BindsQualified}
use Rattle.refs_binding.specs.Uses.{IsCheckedPackage, IsUseOf}

module _ (w : Workspace) (a b : Verdicts) (right : AreVerdicts w a) (also : AreVerdicts w b) where
  pub same_package : (p : Package) → IsCheckedPackage w a p → IsCheckedPackage w b p
  same_package p h = record {
    of_workspace = h.of_workspace;
    is_checked = package_as w p.path a b (right_alike w p.path a b (right_below w a right p.path) (right_below w b also p.path)) p h.is_checked;
  }

  same_export : (p : Package) (u : ℕ) (d : Declaration) → BindsQualified (IsCheckedPackage w a) p u d → BindsQualified (IsCheckedPackage w b) p u d
  same_export p u (Predeclared n) h = h
  same_export p u (Declared path n) h = record {
    behind = h.behind;
    other = h.other;
    is_package = same_package h.other h.is_package;
    of_path = h.of_path;
    seen = h.seen;
    named = h.named;
  }
  same_export p u (Field s) h = h
  same_export p u (Method s) h = h

  same_binding : (p : Package) (u : ℕ) (d : Declaration) → Binds (IsCheckedPackage w a) p u d → Binds (IsCheckedPackage w b) p u d
  same_binding p u d (by_scope h) = by_scope h
  same_binding p u d (by_package h) = by_package (same_export p u d h)
  same_binding p u d (by_member h) = by_member h
  same_binding p u d (by_name h) = by_name h

  pub same_use : (d : Declaration) (place : Place) → IsUseOf w a d place → IsUseOf w b d place
  same_use d place h = record {
    used_in = h.used_in;
    is_package = same_package h.used_in h.is_package;
    user = h.user;
    begins = h.begins;
    bound = same_binding h.used_in h.user d h.bound;
  }
