-- The decision for all that may be known of the packages of two workspaces.
use Rattle.std.proofs.Common.{ℕ, ◌≡◌, List, [], ◌∷◌, ◌∙◌}
use Rattle.std.specs.Prelude.{◌↔◌}
use Rattle.std.proofs.lemmas.Bool.{false≢true}
use Rattle.base_files.specs.Workspace.{Workspace}
use Rattle.base_files.specs.declared.place.Place.{Place}
use Rattle.types_declared.specs.Package.{Package}
use Rattle.workspace_check.specs.Verdicts.{Verdicts, AreVerdicts}
use Rattle.refs_binding.specs.declared.declaration.Declaration.{Declaration}
use Rattle.refs_binding.specs.declared.declaration.Declaration.TheVariants.{Predeclared, Declared, Field, Method}
use Rattle.refs_binding.specs.Uses.{IsCheckedPackage}
use Rattle.base_edits.specs.Moved.{moved}
use Rattle.refs_binding.specs.DeclaringPlaces.{InPackage, HasDeclarationAt, IsDeclaredAt}
use Rattle.base_edits.specs.Revisions.{Revision}
use Rattle.refactor_conflict.specs.Corresponding.{Corresponds, predeclared, stands}
use Rattle.refactor_preserve.specs.BoundToOne.{IsBoundToOne}
use Rattle.refactor_preserve.specs.Preserved.{KeepsBindings}
use Rattle.refs_places.specs.Identified.{IsIdentifierAt}
use Rattle.refactor_preserve.proofs.Resolving.{same_package, same_use}

-- Places of declarations do not depend on the findings for paths that are no packages.
module _ (w : Workspace) (a b : Verdicts) (right : AreVerdicts w a) (also : AreVerdicts w b) where
  same_inside : (path : List ℕ) (d : Declaration) (place : Place) → InPackage (IsCheckedPackage w a) path (λ p. HasDeclarationAt p d place) →
      InPackage (IsCheckedPackage w b) path (λ p. HasDeclarationAt p d place)
  same_inside path d place h = record {
    inside = h.inside;
    is_package = same_package w a b right also h.inside h.is_package;
    of_path = h.of_path;
    holds = h.holds;
  }

  pub same_standing : (d : Declaration) (place : Place) → IsDeclaredAt (IsCheckedPackage w a) d place → IsDeclaredAt (IsCheckedPackage w b) d place
  same_standing (Predeclared n) place h = h
  same_standing (Declared path n) place h = same_inside path (Declared path n) place h
  same_standing (Field s) place h = same_inside s.package (Field s) place h
  same_standing (Method s) place h = same_inside s.package (Method s) place h

  pub same_identifier : (place : Place) → IsIdentifierAt w a place → IsIdentifierAt w b place
  same_identifier place h = record { used_in = h.used_in; is_package = same_package w a b right also h.used_in h.is_package; user = h.user; begins = h.begins }

  pub same_bound : (place : Place) (P Q : Declaration → Type 0) → ((d : Declaration) → P d → Q d) → IsBoundToOne w a place P → IsBoundToOne w b place Q
  same_bound place P Q to h = record {
    declaration = h.declaration;
    is_use = same_use w a b right also h.declaration place h.is_use;
    holds = to h.declaration h.holds;
  }

pub same_becoming : (B A C D : Package → Type 0) (moved : Place → Place) →
    ((d : Declaration) (place : Place) → IsDeclaredAt B d place → IsDeclaredAt C d place) →
    ((d : Declaration) (place : Place) → IsDeclaredAt A d place → IsDeclaredAt D d place) → (d e : Declaration) → Corresponds B A moved d e →
    Corresponds C D moved d e
same_becoming B A C D moved old new d e (predeclared {n = n}) = predeclared
same_becoming B A C D moved old new d e (stands place h k) = stands place (old d place h) (new e (moved place) k)

-- Whether bindings are preserved does not depend on the findings for paths that are no packages.
pub same_kept : (w : Workspace) (r : Revision) (a b c d : Verdicts) → AreVerdicts w a → AreVerdicts w b → AreVerdicts r.after c → AreVerdicts r.after d →
    KeepsBindings w a r c → KeepsBindings w b r d
same_kept w r a b c d right also right_after also_after h =
    let becomes = same_becoming (IsCheckedPackage w a) (IsCheckedPackage r.after c) (IsCheckedPackage w b) (IsCheckedPackage r.after d) r.moved
    (same_standing w a b right also)
    (same_standing r.after c d right_after also_after) in
    record {
      keeps = λ place x is. same_bound r.after c d right_after also_after (r.moved place) (λ e. Corresponds (IsCheckedPackage w a) (IsCheckedPackage r.after
          c) r.moved x e)
          (λ e. Corresponds (IsCheckedPackage w b) (IsCheckedPackage r.after d) r.moved x e) (λ e. becomes x e) (h.keeps place x (same_use w b a also right
          x place is));
      adds_none = λ place e here is. same_bound w a b right also place (λ x. Corresponds (IsCheckedPackage w a) (IsCheckedPackage r.after c) r.moved x e)
          (λ x. Corresponds (IsCheckedPackage w b) (IsCheckedPackage r.after d) r.moved x e) (λ x. becomes x e)
          (h.adds_none place e (same_identifier w b a also right place here) (same_use r.after d c also_after right_after e (r.moved place) is));
    }
