-- Packages without faults after edits that preserve the bindings of the part.
use Rattle.std.proofs.Common.{◌≡◌, ℕ, List, [], map, Some, sym, ap, subst, ◌∙◌}
use Rattle.std.specs.Prelude.{Contains, slice_get}
use Rattle.base_lemmas.proofs.Elements.{first_in}
use Rattle.base_files.specs.Path.{folder}
use Rattle.base_files.specs.Packages.{package_paths, package_files}
use Rattle.base_files.specs.Workspace.{Workspace}
use Rattle.base_files.specs.declared.place.Place.{Place}
use Rattle.go_ast.specs.SourceFile.{source_of}
use Rattle.base_edits.specs.EditSet.{FileChanges, edited}
use Rattle.base_edits.specs.Fits.{Fits}
use Rattle.base_edits.specs.Moved.{moved}
use Rattle.base_edits.specs.Revisions.{PackageMovesTo}
use Rattle.base_edits.specs.RevisionsOfEdits.{revision_of}
use Rattle.types_declared.specs.Package.{Package}
use Rattle.workspace_check.specs.Closures.{HasSameClosure}
use Rattle.workspace_check.specs.Verdicts.{Verdicts, AreVerdicts}
use Rattle.workspace_check.proofs.Local.{own_there, same_back}
use Rattle.workspace_check.proofs.PackageFiles.{at_rank, file_among}
use Rattle.refs_binding.specs.declared.declaration.Declaration.{Declaration}
use Rattle.refs_binding.specs.declared.declaration.Declaration.TheVariants.{Predeclared, Declared, Field, Method}
use Rattle.refs_binding.specs.DeclaringPlaces.{InPackage, HasDeclarationAt, IsDeclaredAt}
use Rattle.refs_binding.specs.Identifiers.{BeginsAt, file_of}
use Rattle.refs_binding.specs.Uses.{IsCheckedPackage, IsUseOf}
use Rattle.refs_binding.proofs.Folders.{begins_in_folder, some_file}
use Rattle.refs_lookup.proofs.Bindings.{use_stays}
use Rattle.refs_lookup.proofs.Packages.{known_stays, package_stays}
use Rattle.refactor_conflict.specs.Corresponding.{Corresponds}
use Rattle.refs_places.specs.Identified.{IsIdentifierAt}
use Rattle.refactor_preserve.specs.BoundToOne.{IsBoundToOne}
use Rattle.refactor_preserve.specs.Preserved.{Preserves}
use Rattle.refactor_preserve.proofs.Deciding.{same_becoming}
use Rattle.refactor_part.specs.FaultlessPart.{faultless_part}
use Rattle.refactor_part.proofs.PartClosures.{each_fine, part_closure}
use Rattle.refactor_part.proofs.PartEdits.{AreApart}
use Rattle.refactor_part.proofs.PartFiles.{from_part, same_package}
use Rattle.law_plans.specs.SoundPackages.{IsSoundPackage, PreservesSound}
use Rattle.law_plans.proofs.EditedPart.{NoneComes, kept_closure}
use Rattle.law_plans.proofs.VerdictsAfter.{FaultyKeep, verdicts_there, verdicts_are_right}

-- places of declarations, among more packages
module _ (A B : Package → Type 0) (to : (p : Package) → A p → B p) where
  inside_too : (path : List ℕ) (d : Declaration) (place : Place) → InPackage A path (λ p. HasDeclarationAt p d place) →
      InPackage B path (λ p. HasDeclarationAt p d place)
  inside_too path d place h = record { inside = h.inside; is_package = to h.inside h.is_package; of_path = h.of_path; holds = h.holds }

  pub declared_too : (d : Declaration) (place : Place) → IsDeclaredAt A d place → IsDeclaredAt B d place
  declared_too (Predeclared n) place h = h
  declared_too (Declared path n) place h = inside_too path (Declared path n) place h
  declared_too (Field s) place h = inside_too s.package (Field s) place h
  declared_too (Method s) place h = inside_too s.package (Method s) place h

-- the file of an identifier
pub file_of_identifier : (w : Workspace) (known : Verdicts) (p : Package) → IsCheckedPackage w known p → (path : List ℕ) (offset u : ℕ) →
    BeginsAt p path offset u → (e : List ℕ × List ℕ) × (Contains (package_files w p.path) e × (e.0 ≡ path))
file_of_identifier w known p is path offset u b =
    let f = some_file (file_of p u) (p.layout.place u).index path offset b.1 in
    let h = is.is_checked in
    let files : p.files ≡ map source_of h.files = ap (λ (x : Package). x.files) h.is_package.is_package in
    let rank = (p.layout.place u).file in
    let here = at_rank (map source_of h.files) rank f.0 (subst (λ fs. slice_get fs rank ≡ Some f.0) files f.1.0) in
    let entry = file_among h.parsed f.0 here in
    (entry.0, (entry.1.0, sym entry.1.1.of_path ∙ f.1.1))

module _ (w : Workspace) (known : Verdicts) (right : AreVerdicts w known) (s : FileChanges) (none : s.added ≡ []) (apart : AreApart s w)
    (back : NoneComes w known s none apart) where
  abbrev part : Workspace
  part = faultless_part w known

  -- each Go file of the part goes to a package of the edited part
  abbrev pub EachGoes : Type 0
  EachGoes = (q : List ℕ) (e : List ℕ × List ℕ) → Contains (package_files part q) e → (offset : ℕ) →
      Contains (package_paths (edited s part)) (folder (moved s (record { path = e.0; offset = offset })).path)

  module _ (goes : EachGoes) (h : Preserves part (revision_of part s)) where
    abbrev x : Workspace
    x = edited s part

    abbrev y : Workspace
    y = edited s w

    kept : (p : List ℕ) → Contains (package_paths x) p → HasSameClosure x y p
    kept = kept_closure w known s none apart back h.after h.right_after h.sound

    module _ (after : Verdicts) (right_after : AreVerdicts y after) where
      sound_after : (p : List ℕ) → Contains (package_paths x) p → IsSoundPackage y after p
      sound_after p has =
          let same = known_stays x y h.after after h.right_after right_after p has (kept p has) in
          record {
            is_package = own_there x y p (kept p has) has;
            sound = sym same.faulty ∙ each_fine x h.after h.right_after h.sound p has;
          }

      pub sound_there : (p to : List ℕ) → IsSoundPackage w known p → PackageMovesTo w (revision_of w s) p to → IsSoundPackage y after to
      sound_there p to is m =
          let first : Contains (package_files w p) m.first = subst (λ es. Contains es m.first) (sym m.files) (first_in m.first m.others) in
          let own : Contains (package_files part p) m.first = subst (λ es. Contains es m.first) (sym (same_package w known p is.sound)) first in
          sound_after to (subst (Contains (package_paths x)) (sym m.goes) (goes p m.first own 0))

      up : (p : Package) → IsCheckedPackage part h.before p → IsCheckedPackage w known p
      up p is = package_stays part w h.before known h.right right p
          (same_back w part p.path (part_closure w known right p.path (from_part w known p.path is.of_workspace).1)) is

      up_after : (p : Package) → IsCheckedPackage x h.after p → IsCheckedPackage y after p
      up_after p is = package_stays x y h.after after h.right_after right_after p (kept p.path is.of_workspace) is

      becomes : (d e : Declaration) → Corresponds (IsCheckedPackage part h.before) (IsCheckedPackage x h.after) (moved s) d e →
          Corresponds (IsCheckedPackage w known) (IsCheckedPackage y after) (moved s) d e
      becomes = same_becoming (IsCheckedPackage part h.before) (IsCheckedPackage x h.after) (IsCheckedPackage w known) (IsCheckedPackage y after) (moved s)
          (declared_too (IsCheckedPackage part h.before) (IsCheckedPackage w known) up) (declared_too (IsCheckedPackage x h.after) (IsCheckedPackage y
          after) up_after)

      keeps : (place : Place) (d : Declaration) → IsSoundPackage w known (folder place.path) → IsUseOf w known d place →
          IsBoundToOne y after (moved s place) (λ e. Corresponds (IsCheckedPackage w known) (IsCheckedPackage y after) (moved s) d e)
      keeps place d is used =
          let own = part_closure w known right (folder place.path) is.sound in
          let b = h.kept.keeps place d (use_stays w part known h.before right h.right place own d used) in
          let to = moved s place in
          let u = b.is_use in
          let has : Contains (package_paths x) (folder to.path) =
          subst (Contains (package_paths x)) (begins_in_folder x h.after u.used_in u.is_package to.path to.offset u.user u.begins) u.is_package.of_workspace in
          record {
            declaration = b.declaration;
            is_use = use_stays x y h.after after h.right_after right_after to (kept (folder to.path) has) b.declaration u;
            holds = becomes d b.declaration b.holds;
          }

      adds_none : (place : Place) (e : Declaration) → IsSoundPackage w known (folder place.path) → IsIdentifierAt w known place →
          IsUseOf y after e (moved s place) →
          IsBoundToOne w known place (λ d. Corresponds (IsCheckedPackage w known) (IsCheckedPackage y after) (moved s) d e)
      adds_none place e is i used =
          let own = part_closure w known right (folder place.path) is.sound in
          let p = i.used_in in
          let in_folder = begins_in_folder w known p i.is_package place.path place.offset i.user i.begins in
          let there : IsCheckedPackage part h.before p =
          package_stays w part known h.before right h.right p (subst (HasSameClosure w part) (sym in_folder) own) i.is_package in
          let file = file_of_identifier part h.before p there place.path place.offset i.user i.begins in
          let to = moved s place in
          let has : Contains (package_paths x) (folder to.path) =
          subst (λ (q : List ℕ). Contains (package_paths x) (folder (moved s (record { path = q; offset = place.offset })).path)) file.1.1
          (goes p.path file.0 file.1.0 place.offset) in
          let back_use = use_stays y x after h.after right_after h.right_after to (same_back x y (folder to.path) (kept (folder to.path) has)) e used in
          let b = h.kept.adds_none place e (record { used_in = p; is_package = there; user = i.user; begins = i.begins }) back_use in
          record {
            declaration = b.declaration;
            is_use = use_stays part w h.before known h.right right place (same_back w part (folder place.path) own) b.declaration b.is_use;
            holds = becomes b.declaration e b.holds;
          }

    pub preserves_sound : Fits s part → FaultyKeep w known right s none apart back h → PreservesSound w (revision_of w s)
    preserves_sound fits keep = record {
      before = known;
      right = right;
      after = verdicts_there w known right s none apart back h;
      right_after = verdicts_are_right w known right s none apart back h fits keep;
      sound = sound_there;
      kept = λ after right_after. record { keeps = keeps after right_after; adds_none = adds_none after right_after };
    }
