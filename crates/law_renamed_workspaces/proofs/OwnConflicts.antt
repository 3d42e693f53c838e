-- Where no identifier of the declaring package has a conflict at a place, each identifier there stays bound.
use Rattle.std.proofs.Common.{ℕ, ◌≡◌, ◌==◌, inl, inr, List, ap, sym, subst, refl, ◌∙◌}
use Rattle.std.specs.Cmp.Lexicographic.{pointwise, bytes_decides}
use Rattle.std.proofs.lemmas.Bool.{cases_Bool, true≢false}
use Rattle.base_files.specs.Workspace.{Workspace}
use Rattle.base_files.specs.declared.place.Place.{Place}
use Rattle.base_edits.specs.EditSet.{FileChanges}
use Rattle.base_edits.specs.Revisions.{Revision}
use Rattle.base_edits.specs.RevisionsOfEdits.{revision_of}
use Rattle.go_scope.specs.Bindings.{Layout, IsBoundTo}
use Rattle.go_scope.proofs.Nests.{nests}
use Rattle.law_rename.specs.Renaming.{HasNoConflictAt, Renames}
use Rattle.law_rename.proofs.Exactness.{exact_at}
use Rattle.types_declared.specs.Package.{Package}
use Rattle.workspace_check.specs.Verdicts.{Verdicts}
use Rattle.refs_binding.specs.declared.declaration.Declaration.{Declaration}
use Rattle.refs_binding.specs.declared.declaration.Declaration.TheVariants.{Predeclared, Declared, Field, Method}
use Rattle.refs_binding.specs.Binding.{BindsByScope}
use Rattle.refs_binding.specs.Identifiers.{BeginsAt}
use Rattle.refs_binding.proofs.Units.{one_package}
use Rattle.refactor_conflict.specs.Corresponding.{predeclared}
use Rattle.refactor_conflict.specs.BoundAfter.{HasBecome}
use Rattle.refactor_conflict.specs.Staying.{StaysByScope}
use Rattle.law_renamed_workspaces.proofs.OwnNames.{counted, own_renames}
use Rattle.law_renamed_workspaces.specs.MembersStay.{MembersStay}
use Rattle.law_renamed_workspaces.proofs.ScopeRenames.{members_stay}
use Rattle.law_renamed_workspaces.specs.There.{IsThereAfter, PackagesAreThere}
use Rattle.law_renamed_workspaces.proofs.There.{packages_there}
use Rattle.law_renamed_workspaces.specs.BoundThere.{NamesStayBound}
use Rattle.law_renamed_workspaces.specs.LocalConflicts.{LocalConflictsAreOfScopes}
use Rattle.law_renamed_workspaces.specs.LocalRenames.{IsLocalRename}
use Rattle.law_renamed_workspaces.proofs.KeptBound.{names_bound}

module _ (w : Workspace) (known : Verdicts) (p : Package) (n : ℕ) (name : List ℕ) (s : FileChanges) (h : IsLocalRename w known p n name s)
    (there : (q : Package) × IsThereAfter w known (revision_of w s) p q) (place : Place) where
  abbrev r : Revision
  r = revision_of w s

  -- what the scopes of the package bind
  module _ (u : ℕ) (begins : BeginsAt p place.path place.offset u) (safe : HasNoConflictAt p.layout p.names n name u) where
    abbrev q : Package
    q = there.0

    renames : Renames p.layout p.names n name q.names
    renames = own_renames w known p.path n name s h.rename p q h.is_package refl there.1.relaid

    bound_after : (m : ℕ) → IsBoundTo p.layout p.names u m → IsBoundTo q.layout q.names u m
    bound_after m was =
        subst (λ (l : Layout). IsBoundTo l q.names u m) (sym there.1.relaid.layout)
        ((exact_at p.layout (nests p.layout renames.well_formed) p.names q.names n name renames.all_count renames.declared renames.other_name
        renames.renaming u m was).1 safe)

    binds_after : (d : Declaration) → BindsByScope p u d → BindsByScope q u d
    binds_after (Predeclared d) b = (b.0, bound_after d b.1)
    binds_after (Declared path d) b = (b.0 ∙ sym there.1.relaid.path, b.1, bound_after d b.2)
    binds_after (Field f) b = absurd b
    binds_after (Method f) b = absurd b

    becomes : (d : Declaration) → BindsByScope p u d → BindsByScope q u d → HasBecome w known r d d
    becomes (Predeclared d) k now = predeclared
    becomes (Declared path d) k now =
        subst (λ t. HasBecome w known r (Declared t d) (Declared t d)) (sym k.0)
        (there.1.become d k.1 (counted p.layout p.names u d k.2) (counted q.layout q.names u d now.2))
    becomes (Field f) k now = absurd k
    becomes (Method f) k now = absurd k

    own_scope : StaysByScope w known r p u place
    own_scope old b =
        let a = there.1 in
        record {
          declaration = old;
          bound = record { used_in = q; is_package = a.is_scoped; user = u; begins = a.begins u place begins; bound = binds_after old b };
          become = becomes old b (binds_after old b);
        }

of_scopes_there : PackagesAreThere → NamesStayBound → MembersStay → LocalConflictsAreOfScopes
of_scopes_there there names members_of w known p n name s h place safe x is u begins =
    let q = there w known (Declared p.path n) name s h.rename p h.is_package in
    let members = members_of w known p.path n name s h.rename x is u place begins in
    let bound = names w known p n name s h x is u place begins in
    record {
      by_scope = elim (cases_Bool (pointwise ◌==◌ x.path p.path)) [
        | inl same ↦
            (let one : p ≡ x = sym (one_package w known x p is h.is_package ((bytes_decides x.path p.path).0 same)) in
            let here : BeginsAt p place.path place.offset u = subst (λ (y : Package). BeginsAt y place.path place.offset u) (sym one) begins in
            subst (λ (y : Package). StaysByScope w known (revision_of w s) y u place) one (own_scope w known p n name s h q place u here (safe u here)))
        | inr away ↦
            (let other : x ≡ p → ⊥ = λ e. true≢false (sym ((bytes_decides x.path p.path).1 (ap (λ (y : Package). y.path) e)) ∙ away) in
            bound.1 other)
      ];
      by_package = bound.0;
      by_member = members.0;
      by_name = members.1;
    }

pub of_scopes : LocalConflictsAreOfScopes
of_scopes = of_scopes_there packages_there names_bound members_stay
