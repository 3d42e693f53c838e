-- What each declaration has become after the edit set, and where identifiers begin.
use Rattle.std.proofs.Common.{ℕ, ◌≡◌, inl, inr, List, refl, sym, ◌∙◌, subst}
use Rattle.std.specs.Prelude.{Contains, slice_get}
use Rattle.base_files.specs.Packages.{package_paths}
use Rattle.base_files.specs.Workspace.{Workspace}
use Rattle.base_files.specs.declared.place.Place.{Place}
use Rattle.base_edits.specs.EditSet.{FileChanges, edited}
use Rattle.base_edits.specs.Moved.{moved}
use Rattle.go_ast.specs.SourceFile.{SourceFile}
use Rattle.go_scope.specs.declared.model.Position.{Position}
use Rattle.go_scope.specs.Bindings.{own}
use Rattle.go_scope.specs.Moves.{moved_place}
use Rattle.types_declared.proofs.ByteKeys.{cases_bytes}
use Rattle.types_declared.specs.Laid.{literal_of}
use Rattle.types_declared.specs.Package.{Package}
use Rattle.workspace_check.specs.Verdicts.{IsPackageIn, Verdicts}
use Rattle.workspace_check.proofs.SameImports.{stands_by}
use Rattle.workspace_check.proofs.StandsAlike.{package_there}
use Rattle.refs_binding.specs.declared.declaration.Declaration.{Declaration}
use Rattle.refs_binding.specs.declared.declaration.Declaration.TheVariants.{Declared, Field, Method}
use Rattle.refs_binding.specs.Binding.{DeclaresMember, IsPredeclaredNumber}
use Rattle.refs_binding.specs.DeclaringPlaces.{HasDeclarationAt, IsDeclaredAt, TokenAt}
use Rattle.refs_binding.specs.Identifiers.{BeginsAt, IsInFiles, NameBegins}
use Rattle.refs_binding.specs.Uses.{IsCheckedPackage}
use Rattle.refs_binding.proofs.Folders.{begins_in_folder}
use Rattle.refs_binding.proofs.Units.{one_package}
use Rattle.law_renamed_workspaces.proofs.OwnNames.{counted}
use Rattle.law_agreement.proofs.MemberPlaces.{IsMember, named_there, token_folder}
use Rattle.law_agreement.proofs.MembersBound.{declared_here}
use Rattle.law_gained_names.specs.NamedPackage.{numbers_of}
use Rattle.law_gained_names.proofs.Literals.{literal_place}
use Rattle.law_gained_names.specs.GainedName.{IsGainedAt}
use Rattle.law_changed_types.specs.RenumberedPackage.{NewNumbers}
use Rattle.law_changed_types.proofs.Numbered.{there}
use Rattle.law_renumbered.proofs.MemberNames.{member_names_renumber}
use Rattle.law_renumbered.specs.RenumberedWorkspace.{Renumbers, elsewhere, field, method, own as own_number, predeclared}
use Rattle.law_gained_names.specs.OwnName.{HasGainedBy}
use Rattle.law_gained_names.proofs.GainedStepsTokens.{i, name_moves, token_moves, unmoved}

module _ (w : Workspace) (known : Verdicts) (s : FileChanges) (f : SourceFile) (number : ℕ) (put : List ℕ) (p q : Package)
    (h : HasGainedBy w known s f number put p q) (at : ℕ) (is : IsGainedAt (i w known s f number put p q h) at p q) where
  abbrev pub x : Workspace
  x = edited s w

  abbrev pub n : NewNumbers
  n = numbers_of (i w known s f number put p q h) at

  abbrev pub Before : Package → Type 0
  Before = IsCheckedPackage w known

  abbrev pub After : Package → Type 0
  After = IsCheckedPackage x known

  same_path : q.path ≡ p.path
  same_path = is.renumbered.path

  -- packages

  pub now : After q
  now = record {
    of_workspace =
        subst (λ ps. Contains ps q.path) h.gained.imports.paths
        (subst (λ r. Contains (package_paths w) r) (sym same_path) h.gained.was.of_workspace);
    is_checked = subst (λ r. IsPackageIn x known r q) (sym same_path) h.gained.is;
  }

  pub others : (y : Package) → Before y → (y.path ≡ p.path → ⊥) → After y
  others y was apart = record {
    of_workspace = subst (λ ps. Contains ps y.path) h.gained.imports.paths was.of_workspace;
    is_checked = package_there w x y.path (stands_by w x h.gained.imports y.path (h.gained.others y.path apart)) known y was.is_checked;
  }

  -- identifiers

  pub stands_there : (u : ℕ) → IsInFiles p u → IsInFiles q (n.identifier u)
  stands_there u stands = (
    is.renumbered.within u stands.0,
    ((there n p q is.renumbered).lies (p.layout.place u) (moved_place n.token (p.layout.place u)) u (n.identifier u)
        (record { file = refl; index = refl }) refl (stands.1, refl, refl)).0,
  )

  pub begins : (u : ℕ) (place : Place) → BeginsAt p place.path place.offset u → BeginsAt q (moved s place).path (moved s place).offset (n.identifier u)
  begins u place b = (
    stands_there u b.0,
    subst (λ (z : Position). NameBegins (slice_get q.files z.file) z.index (moved s place).path (moved s place).offset) (sym (is.renumbered.places u))
        (name_moves w known s f number put p q h at is (p.layout.place u) place b.1),
  )

  -- declarations of scopes

  module _ (own_stays : (k : ℕ) → (IsPredeclaredNumber k → ⊥) → IsPredeclaredNumber (n.identifier k) → ⊥) where
    own_there : (k : ℕ) (place : Place) → HasDeclarationAt p (Declared p.path k) place →
        HasDeclarationAt q (Declared p.path (n.identifier k)) (moved s place)
    own_there k place d =
        let to = literal_place (i w known s f number put p q h) at p q is.named is.literals k in
        let token : TokenAt p (p.layout.place (literal_of p.layout k)) place = subst (λ z. TokenAt p z place) (sym d.is_at.stands) d.begins in
        record {
          at = q.layout.place (literal_of q.layout (n.identifier k));
          is_at = record {
            own = own_stays k d.is_at.own;
            counts = counted q.layout q.names (n.identifier k) (n.identifier k) ((is.renumbered.bound k k).0 (own refl d.is_at.counts));
            stands = refl;
          };
          begins =
              subst (λ z. TokenAt q z (moved s place)) (sym to)
              (token_moves w known s f number put p q h at is (p.layout.place (literal_of p.layout k)) place token);
        }

    own_declared : (k : ℕ) (place : Place) → IsDeclaredAt Before (Declared p.path k) place →
        IsDeclaredAt After (Declared p.path (n.identifier k)) (moved s place)
    own_declared k place d =
        let whole : d.inside ≡ p = one_package w known d.inside p d.is_package h.gained.was d.of_path in
        record {
          inside = q;
          is_package = now;
          of_path = same_path;
          holds = own_there k place (subst (λ (z : Package). HasDeclarationAt z (Declared p.path k) place) whole d.holds);
        }

    other_declared : (other : List ℕ) (k : ℕ) → (other ≡ p.path → ⊥) → (place : Place) → IsDeclaredAt Before (Declared other k) place →
        IsDeclaredAt After (Declared other k) (moved s place)
    other_declared other k apart place d =
        let away : d.inside.path ≡ p.path → ⊥ = λ same. apart (sym d.of_path ∙ same) in
        let in_folder = token_folder w known d.inside d.is_package d.holds.at place d.holds.begins in
        let stays : moved s place ≡ place = unmoved w known s f number put p q h place (λ same. away (sym in_folder ∙ same)) in
        record {
          inside = d.inside;
          is_package = others d.inside d.is_package away;
          of_path = d.of_path;
          holds = subst (λ z. HasDeclarationAt d.inside (Declared other k) z) (sym stays) d.holds;
        }

    -- members

    member_declared : (d : Declaration) → IsMember d → (place : Place) → IsDeclaredAt Before d place → IsDeclaredAt After d (moved s place)
    member_declared d member place declared =
        let m = named_there w known d member place declared in
        elim (cases_bytes m.inside.path p.path) [
          | inr away ↦
              let in_folder = sym (begins_in_folder w known m.inside m.is_package place.path place.offset m.user m.begins) in
              let stays : moved s place ≡ place = unmoved w known s f number put p q h place (λ same. away (sym in_folder ∙ same)) in
              declared_here x known m.inside (others m.inside m.is_package away) m.user (moved s place)
              (subst (λ (z : Place). BeginsAt m.inside z.path z.offset m.user) (sym stays) m.begins) d m.declares
          | inl same ↦
              let whole : m.inside ≡ p = one_package w known m.inside p m.is_package h.gained.was same in
              let here : BeginsAt p place.path place.offset m.user = subst (λ (z : Package). BeginsAt z place.path place.offset m.user) whole m.begins in
              declared_here x known q now (n.identifier m.user) (moved s place) (begins m.user place here) d
              (member_names_renumber n p q is.renumbered m.user d (subst (λ (z : Package). DeclaresMember z m.user d) whole m.declares))
        ]

    pub become : (d e : Declaration) → Renumbers n p.path d e → (place : Place) → IsDeclaredAt Before d place → IsDeclaredAt After e (moved s place)
    become _ _ (predeclared {k = k}) place d = absurd d
    become _ _ (own_number {k = k}) place d = own_declared k place d
    become _ _ (elsewhere {other = other} {k = k} apart) place d = other_declared other k apart place d
    become _ _ (field {s = m}) place d = member_declared (Field m) tt place d
    become _ _ (method {s = m}) place d = member_declared (Method m) tt place d
