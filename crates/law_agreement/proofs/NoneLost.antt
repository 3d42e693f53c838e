-- A plain rename that is harmless preserves bindings.
use Rattle.std.proofs.Common.{ℕ, suc, ◌≡◌, inl, inr, List, sym, ap, subst, ◌∙◌}
use Rattle.std.specs.Prelude.{[], Contains}
use Rattle.base_lemmas.proofs.Elements.{first_in}
use Rattle.base_files.specs.Path.{folder}
use Rattle.base_files.specs.Workspace.{Workspace}
use Rattle.base_files.specs.declared.place.Place.{Place}
use Rattle.base_edits.specs.EditSet.{FileChanges, edited}
use Rattle.base_edits.specs.Revisions.{Revision, PackageMovesTo}
use Rattle.base_edits.specs.RevisionsOfEdits.{revision_of}
use Rattle.go_scope.specs.Bindings.{Layout, Names}
use Rattle.law_changed_types.specs.SameBindings.{IsBoundAlike}
use Rattle.law_changed_types.proofs.Alike.{of_bound, tokens}
use Rattle.types_declared.specs.Package.{Package}
use Rattle.types_declared.specs.Written.{BindsToken}
use Rattle.types_info.specs.QualifiedIdentifiers.{IsQualifiedByPath}
use Rattle.workspace_check.specs.Verdicts.{Verdicts}
use Rattle.workspace_check.proofs.PackageFiles.{in_folder}
use Rattle.refs_binding.specs.declared.declaration.Declaration.{Declaration}
use Rattle.refs_binding.specs.declared.declaration.Declaration.TheVariants.{Predeclared, Declared, Field, Method}
use Rattle.refs_binding.specs.Binding as binds
use Rattle.refs_binding.specs.Binding.{BindsByScope, BindsQualified}
use Rattle.refs_binding.specs.DeclaringPlaces.{IsDeclaredAt}
use Rattle.refs_binding.specs.Identifiers.{BeginsAt}
use Rattle.refs_binding.specs.Uses.{IsCheckedPackage, IsUseOf}
use Rattle.refs_binding.specs.Uses as uses
use Rattle.refs_lookup.proofs.OneDeclaration.{one_used}
use Rattle.refactor_conflict.specs.Corresponding.{Corresponds, predeclared, stands}
use Rattle.refactor_conflict.specs.ScopedPackages.{IsScopedIn}
use Rattle.refactor_preserve.specs.BoundToOne.{IsBoundToOne}
use Rattle.refactor_conflict.specs.BoundAfter.{HasBecome, IsBoundByScopes, IsBoundByPackage}
use Rattle.refactor_conflict.specs.Staying.{StaysBound}
use Rattle.law_renamed_workspaces.specs.Harmless.{IsHarmless}
use Rattle.law_renamed_workspaces.specs.Renames.{IsRename, IsPlainRename}
use Rattle.workspace_check.specs.FaultLists.{ListsFaults}
use Rattle.refactor_preserve.specs.Preserved.{Preserves}
use Rattle.law_agreement.specs.Agreement.{PlainNoneLostPreserves}
use Rattle.law_agreement.proofs.Premises.{HasSameScopes, ScopedPackagesAreChecked, PlainRenamesBringNoFault, IsFreeRename}
use Rattle.law_agreement.proofs.Premises.{PackagesStayAlike, MembersStayBound, UnboundStayUnbound}
use Rattle.law_agreement.proofs.Preserved.{begins_same, scope_same, exports_same, declares_same, keeps_path}

-- A package of bound identifiers that are alike has the same qualified identifiers.
qualified_after : (p q : Package) → IsBoundAlike p q → (u : ℕ) (path : List ℕ) → IsQualifiedByPath p u path → IsQualifiedByPath q u path
qualified_after p q alike u path h =
    let by_layout : Layout → Type 0 = (λ l. (l.place u).index ≡ suc (suc h.before)) in
    let binds : BindsToken q (p.layout.place u).file h.before h.named.import =
    tokens p q (of_bound p q alike) (p.layout.place u).file h.before h.named.import h.named.binds in
    record {
      selected = ap (λ (l : Layout). l.role u) alike.layout ∙ h.selected;
      before = h.before;
      behind_dot = subst by_layout (sym alike.layout) h.behind_dot;
      named = record {
        import = h.named.import;
        binds = subst (λ (l : Layout). BindsToken q (l.place u).file h.before h.named.import) (sym alike.layout) binds;
        imports = (alike.imports h.named.import path).0 h.named.imports;
      };
    }

-- a rename leaves each package at its path
moves_nowhere : (w : Workspace) (known : Verdicts) (d : Declaration) (name : List ℕ) (s : FileChanges) → IsRename w known d name s →
    (path to : List ℕ) → PackageMovesTo w (revision_of w s) path to → to ≡ path
moves_nowhere w known d name s rename path to h =
    let start : Place = record { path = h.first.0; offset = 0 } in
    h.goes ∙ ap folder (keeps_path w known d name s rename start)
    ∙ in_folder w path h.first (subst (λ es. Contains es h.first) (sym h.files) (first_in h.first h.others))

module _ (checked : ScopedPackagesAreChecked) (stay_alike : PackagesStayAlike) (members : MembersStayBound) (unbound : UnboundStayUnbound)
    (w : Workspace) (known : Verdicts) (d : Declaration) (name : List ℕ) (s : FileChanges) (after : Verdicts)
    (free : IsFreeRename w known d name s after) where
  abbrev r : Revision
  r = revision_of w s

  abbrev x : Workspace
  x = edited s w

  abbrev Becomes : Declaration → Declaration → Type 0
  Becomes old e = Corresponds (IsCheckedPackage w known) (IsCheckedPackage x after) r.moved old e

  abbrev Kept : Place → Declaration → Type 0
  Kept place old = IsBoundToOne x after (r.moved place) (Becomes old)

  check_of : (o : Package) → IsScopedIn x o → (q : Package) × (IsCheckedPackage x after q × HasSameScopes o q)
  check_of o is = checked w known d name s after free o is

  declared_checked : (path : List ℕ) (n : ℕ) (place : Place) → IsDeclaredAt (IsScopedIn x) (Declared path n) place →
      IsDeclaredAt (IsCheckedPackage x after) (Declared path n) place
  declared_checked path n place h =
      let q = check_of h.inside h.is_package in
      record { inside = q.0; is_package = q.1.0; of_path = q.1.1.path ∙ h.of_path; holds = declares_same h.inside q.0 q.1.1 path n place h.holds }

  -- what has become another by scopes corresponds to it among checked packages
  become_checked : (old e : Declaration) → HasBecome w known r old e → ((place : Place) → IsDeclaredAt (IsScopedIn x) e place →
      IsDeclaredAt (IsCheckedPackage x after) e place) → Becomes old e
  become_checked old e predeclared to = predeclared
  become_checked old e (stands place h k) to = stands place h (to (r.moved place) k)

  bound_checked : (o : Package) (u : ℕ) (e : Declaration) → BindsByScope o u e → (place : Place) → IsDeclaredAt (IsScopedIn x) e place →
      IsDeclaredAt (IsCheckedPackage x after) e place
  bound_checked o u (Predeclared n) b place h = h
  bound_checked o u (Declared path n) b place h = declared_checked path n place h
  bound_checked o u (Field t) b place h = absurd b
  bound_checked o u (Method t) b place h = absurd b

  kept_by_scope : (place : Place) (old : Declaration) → StaysBound (HasBecome w known r) (IsBoundByScopes r place) old → Kept place old
  kept_by_scope place old stay =
      let b = stay.bound in
      let e = stay.declaration in
      let q = check_of b.used_in b.is_package in
      let to = r.moved place in
      record {
        declaration = e;
        is_use = record {
          used_in = q.0;
          is_package = q.1.0;
          user = b.user;
          begins = begins_same b.used_in q.0 q.1.1 to.path to.offset b.user b.begins;
          bound = binds.by_scope (scope_same b.used_in q.0 q.1.1 b.user e b.bound);
        };
        holds = become_checked old e stay.become (bound_checked b.used_in b.user e b.bound);
      }

  kept_by_package : (p : Package) → IsCheckedPackage w known p → (u : ℕ) (place : Place) → BeginsAt p place.path place.offset u → (old : Declaration) →
      StaysBound (HasBecome w known r) (IsBoundByPackage w r place p u) old → Kept place old
  kept_by_package p is u place begins old stay =
      let b = stay.bound in
      let e = stay.declaration in
      let there = stay_alike w known d name s after free p is in
      let q = there.0 in
      let n = b.exports.declaration in
      let other = b.exports.other in
      let o = check_of other b.exports.is_package in
      let path : other.path ≡ b.path = moves_nowhere w known d name s free.rename.rename b.path other.path b.exports.goes in
      let behind : IsQualifiedByPath q u other.path =
      subst (IsQualifiedByPath q u) (sym path) (qualified_after p q there.1.1.1.0 u b.path b.behind) in
      let bound : BindsQualified (IsCheckedPackage x after) q u (Declared other.path n) =
      record {
        behind = behind;
        other = o.0;
        is_package = o.1.0;
        of_path = o.1.1.path;
        seen = exports_same other o.0 o.1.1 n b.exports.seen;
        named = ap (λ (k : Names). k n) o.1.1.names ∙ b.exports.named ∙ sym (there.1.1.0.names u place begins);
      } in
      record {
        declaration = e;
        is_use = record {
          used_in = q;
          is_package = there.1.0;
          user = u;
          begins = there.1.1.1.1.names u place begins;
          bound = binds.by_package (subst (BindsQualified (IsCheckedPackage x after) q u) (sym b.exports.exported) bound);
        };
        holds = become_checked old e stay.become
            (subst (λ z. (to : Place) → IsDeclaredAt (IsScopedIn x) z to → IsDeclaredAt (IsCheckedPackage x after) z to) (sym b.exports.exported)
            (declared_checked other.path n));
      }

  kept_at : (place : Place) (old : Declaration) (used : IsUseOf w known old place) → uses.IsBoundToDeclaration w known used.used_in used.user old →
      Kept place old
  kept_at place old used (binds.by_scope b) =
      kept_by_scope place old ((free.harmless.none_lost place used.used_in used.is_package used.user used.begins).by_scope old b)
  kept_at place old used (binds.by_package b) =
      kept_by_package used.used_in used.is_package used.user place used.begins old
      ((free.harmless.none_lost place used.used_in used.is_package used.user used.begins).by_package old b)
  kept_at place old used (binds.by_member b) = members w known d name s after free used.used_in used.is_package used.user place used.begins old (inl b)
  kept_at place old used (binds.by_name b) = members w known d name s after free used.used_in used.is_package used.user place used.begins old (inr b)

  pub none_added : (place : Place) (e : Declaration) (old : Declaration) → IsUseOf w known old place → IsUseOf x after e (r.moved place) →
      IsBoundToOne w known place (λ z. Becomes z e)
  none_added place e old was now =
      let k = kept_at place old was was.bound in
      let same : k.declaration ≡ e = one_used x after (r.moved place) k.declaration e k.is_use now in
      record { declaration = old; is_use = was; holds = subst (Becomes old) same k.holds }

-- where no fault comes
pub none_lost_sound : ScopedPackagesAreChecked → PackagesStayAlike → MembersStayBound → UnboundStayUnbound → (w : Workspace) (known : Verdicts)
    (d : Declaration) (name : List ℕ) (s : FileChanges) → IsPlainRename w known d name s → ListsFaults (edited s w) [] →
    IsHarmless w known (revision_of w s) → Preserves w (revision_of w s)
none_lost_sound checked alike members unbound w known d name s rename sound none =
    let after = sound.known in
    let free : IsFreeRename w known d name s after = record { rename = rename; right = sound.right; sound = sound; harmless = none } in
    record {
      before = known;
      right = rename.rename.right;
      after = after;
      right_after = sound.right;
      sound = sound;
      kept = record {
        keeps = λ place old used. kept_at checked alike members unbound w known d name s after free place old used used.bound;
        adds_none = λ place e there now.
            let was = unbound w known d name s after free place e there now in
            none_added checked alike members unbound w known d name s after free place e was.0 was.1 now;
      };
    }

pub none_lost_preserves : PlainRenamesBringNoFault → ScopedPackagesAreChecked → PackagesStayAlike → MembersStayBound → UnboundStayUnbound →
    PlainNoneLostPreserves
none_lost_preserves no_fault checked alike members unbound w known d name s rename none =
    none_lost_sound checked alike members unbound w known d name s rename (no_fault w known d name s rename none) none
