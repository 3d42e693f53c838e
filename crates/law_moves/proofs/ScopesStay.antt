-- Where a move preserves bindings, what scopes bind stays bound by scopes. So no identifier is lost or captured.
use Rattle.std.proofs.Common.{ℕ, ◌≡◌, inl, inr, List, [], ap, sym, refl, ◌∙◌}
use Rattle.base_files.specs.Workspace.{Workspace}
use Rattle.base_files.specs.declared.place.Place.{Place}
use Rattle.base_edits.specs.Revisions.{Revision}
use Rattle.go_scope.specs.declared.model.Purpose.{Purpose}
use Rattle.go_scope.specs.declared.model.Purpose.TheVariants as purpose
use Rattle.go_scope.specs.declared.model.Role.TheVariants.{NotLexical}
use Rattle.go_scope.specs.Bindings.{Layout}
use Rattle.law_tokens.proofs.Lexical.{never_bound}
use Rattle.types_declared.specs.Package.{Package}
use Rattle.workspace_check.specs.FaultLists.{ListsFaults}
use Rattle.workspace_check.specs.Verdicts.{Verdicts, AreVerdicts}
use Rattle.refs_binding.specs.declared.declaration.Declaration.{Declaration}
use Rattle.refs_binding.specs.declared.declaration.Declaration.TheVariants.{Predeclared, Declared, Field, Method}
use Rattle.refs_binding.specs.Binding as binds
use Rattle.refs_binding.specs.Binding.{BindsByScope}
use Rattle.refs_binding.specs.DeclaringPlaces.{IsDeclaredAt}
use Rattle.refs_binding.specs.Identifiers.{BeginsAt}
use Rattle.refs_binding.specs.Uses.{IsCheckedPackage, IsUseOf}
use Rattle.refs_binding.specs.Uses as uses
use Rattle.refs_binding.proofs.Excluding.{number_bound, exported_as}
use Rattle.refs_lookup.proofs.NamedMembers.{name_member}
use Rattle.refs_lookup.proofs.UsedMembers.{link_role}
use Rattle.refactor_conflict.specs.Corresponding.{Corresponds, predeclared, stands}
use Rattle.refactor_conflict.proofs.Becoming.{by_cases}
use Rattle.refactor_conflict.specs.ScopedPackages.{IsScopedIn}
use Rattle.refactor_preserve.specs.Preserved.{Preserves, KeepsBindings}
use Rattle.refactor_conflict.specs.BoundAfter.{HasBecome, IsBoundByScopes}
use Rattle.refactor_conflict.specs.Staying.{StaysBound, StaysByScope, NoneIsLost}
use Rattle.refactor_conflict.proofs.CorrespondingPlaces.{not_predeclared}
use Rattle.law_renamed_workspaces.specs.ScopedPackages.{HasSameScopes}
use Rattle.law_renamed_workspaces.proofs.FaultlessScopes.{faultless_scoped}
use Rattle.law_agreement.proofs.Preserved.{kept_for, scope_same, begins_same, declares_same}
use Rattle.law_agreement.proofs.ScopedPlaces.{same_use}
use Rattle.law_changed_types.specs.Moved.{PathMap}
use Rattle.law_moves.specs.Moving.{IsScopedMove, AreScopedMoves}
use Rattle.law_moves.proofs.ExportsStay.{selector_stays}
use Rattle.law_moves.proofs.MembersStay.{use_kept, name_kept}

module _ (w : Workspace) (known : Verdicts) (r : Revision) (goes : PathMap) (h : AreScopedMoves w known r goes) (after : Verdicts)
    (right : AreVerdicts r.after after) (sound : ListsFaults r.after []) (kept : KeepsBindings w known r after) where
  abbrev x : Workspace
  x = r.after

  -- the package without checking
  scopes_of : (q : Package) → IsCheckedPackage x after q → (o : Package) × (IsScopedIn x o × HasSameScopes q o)
  scopes_of q is = faultless_scoped x after right sound q is

  -- what corresponds among checked packages corresponds by scopes
  declared_scoped : (path : List ℕ) (n : ℕ) (place : Place) → IsDeclaredAt (IsCheckedPackage x after) (Declared path n) place →
      IsDeclaredAt (IsScopedIn x) (Declared path n) place
  declared_scoped path n place d =
      let o = scopes_of d.inside d.is_package in
      record { inside = o.0; is_package = o.1.0; of_path = o.1.1.path ∙ d.of_path; holds = declares_same d.inside o.0 o.1.1 path n place d.holds }

  become_declared : (old : Declaration) (path : List ℕ) (n : ℕ) → Corresponds (IsCheckedPackage w known) (IsCheckedPackage x after) r.moved old (Declared
      path n) →
      HasBecome w known r old (Declared path n)
  become_declared old path n c = elim (by_cases (IsCheckedPackage w known) (IsCheckedPackage x after) r.moved old (Declared path n) c) [
    | inl m ↦ absurd (not_predeclared (Declared path n) (Declared path n) refl tt m.number m.other)
    | inr t ↦ stands t.place t.old (declared_scoped path n (r.moved t.place) t.new)
  ]

  become_predeclared : (old : Declaration) (n : ℕ) → Corresponds (IsCheckedPackage w known) (IsCheckedPackage x after) r.moved old (Predeclared n) →
      HasBecome w known r old (Predeclared n)
  become_predeclared old n predeclared = predeclared
  become_predeclared old n (stands place d k) = absurd k

  become_scoped : (o : Package) (u : ℕ) (old e : Declaration) → BindsByScope o u e → Corresponds (IsCheckedPackage w known) (IsCheckedPackage x after)
      r.moved old e →
      HasBecome w known r old e
  become_scoped o u old (Predeclared n) b c = become_predeclared old n c
  become_scoped o u old (Declared path n) b c = become_declared old path n c
  become_scoped o u old (Field t) b c = absurd b
  become_scoped o u old (Method t) b c = absurd b

  -- An identifier, and what it is bound to after the change. `q` is the package that has it after the change, and `o` the same by scopes.
  module _ (p : Package) (is : IsCheckedPackage w known p) (u : ℕ) (place : Place) (begins : BeginsAt p place.path place.offset u) (old e : Declaration)
      (now : IsUseOf x after e (r.moved place)) (same : Corresponds (IsCheckedPackage w known) (IsCheckedPackage x after) r.moved old e) where
    abbrev q : Package
    q = now.used_in

    abbrev o : Package
    o = (scopes_of q now.is_package).0

    is_o : IsScopedIn x o
    is_o = (scopes_of q now.is_package).1.0

    alike : HasSameScopes q o
    alike = (scopes_of q now.is_package).1.1

    there : BeginsAt o (r.moved place).path (r.moved place).offset now.user
    there = begins_same q o alike (r.moved place).path (r.moved place).offset now.user now.begins

    abbrev moved : (t : Package) × IsScopedMove w r goes p t
    moved = h.there p is

    one : (o ≡ moved.0) × (now.user ≡ u)
    one = same_use x moved.0 o moved.1.is_scoped is_o (r.moved place) u now.user (moved.1.begins.names u place begins) there

    role : q.layout.role now.user ≡ p.layout.role u
    role =
        ap (λ (l : Layout). l.role now.user) (sym alike.layout ∙ ap (λ (t : Package). t.layout) one.0 ∙ moved.1.layout)
        ∙ ap p.layout.role one.1

    by_scopes : BindsByScope q now.user e → StaysBound (HasBecome w known r) (IsBoundByScopes r place) old
    by_scopes b =
        let bound : BindsByScope o now.user e = scope_same q o alike now.user e b in
        record {
          declaration = e;
          bound = record { used_in = o; is_package = is_o; user = now.user; begins = there; bound = bound };
          become = become_scoped o now.user old e bound same;
        }

    never : BindsByScope p u old → (kind : Purpose) → q.layout.role now.user ≡ NotLexical kind → ⊥
    never was kind at =
        let n = number_bound p u old was in
        never_bound p.layout p.names u n.0 kind (sym role ∙ at) n.1

    stays_there : BindsByScope p u old → StaysBound (HasBecome w known r) (IsBoundByScopes r place) old
    stays_there was = by_way now.bound
      where
        by_way : uses.IsBoundToDeclaration x after q now.user e → StaysBound (HasBecome w known r) (IsBoundByScopes r place) old
        by_way (binds.by_scope b) = by_scopes b
        by_way (binds.by_package b) = absurd (never was purpose.Selected (exported_as (IsCheckedPackage x after) q now.user e b).1.1.1.behind.selected)
        by_way (binds.by_member b) = elim (link_role x after q.path q now.is_package.is_checked now.user e now.begins.0 b) [
          | inl key ↦ absurd (never was purpose.Key key)
          | inr selected ↦ absurd (never was purpose.Selected selected)
        ]
        by_way (binds.by_name b) = absurd (never was purpose.Member (name_member x after q.path q now.is_package.is_checked now.user e now.begins.0.0 b))

  scope_stays : (p : Package) → IsCheckedPackage w known p → (u : ℕ) (place : Place) → BeginsAt p place.path place.offset u → StaysByScope w known r p u place
  scope_stays p is u place begins old was =
      let k = kept.keeps place old (record { used_in = p; is_package = is; user = u; begins = begins; bound = binds.by_scope was }) in
      stays_there p is u place begins old k.declaration k.is_use k.holds was

-- what stays bound by scopes stays bound
pub scopes_decide : (w : Workspace) (known : Verdicts) (r : Revision) (goes : PathMap) → AreScopedMoves w known r goes →
    ((p : Package) → IsCheckedPackage w known p → (u : ℕ) (place : Place) → BeginsAt p place.path place.offset u → StaysByScope w known r p u place) →
    NoneIsLost w known r
scopes_decide w known r goes h stay place p is u begins = record {
  by_scope = stay p is u place begins;
  by_package = selector_stays w known r goes h p is u place begins;
  by_member = use_kept w known r h.kept h.sound h.right p is u place begins;
  by_name = name_kept w known r h.kept h.sound h.right p is u place begins;
}

pub preserved_loses_none : (w : Workspace) (known : Verdicts) (r : Revision) (goes : PathMap) → AreScopedMoves w known r goes → Preserves w r →
    NoneIsLost w known r
preserved_loses_none w known r goes h k =
    scopes_decide w known r goes h
    (scope_stays w known r goes h k.after k.right_after k.sound (kept_for w k.before known k.right h.right r k.after k.kept))
