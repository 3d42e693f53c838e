-- After a plain rename: what declarations become, and packages whose scopes bind as before.
use Rattle.std.proofs.Common.{ℕ, ◌≡◌, ◌⊎◌, inl, inr, true, List, sym, subst, ◌∙◌}
use Rattle.base_files.specs.Workspace.{Workspace}
use Rattle.base_files.specs.declared.place.Place.{Place}
use Rattle.base_edits.specs.EditSet.{FileChanges}
use Rattle.base_edits.specs.Revisions.{Revision}
use Rattle.base_edits.specs.RevisionsOfEdits.{revision_of}
use Rattle.go_scope.specs.Bindings.{Layout, IsBoundTo, is_use, may_declare}
use Rattle.law_rename.specs.Renaming.{HasSameBindings}
use Rattle.law_rename.proofs.Exactness.{same_bytes}
use Rattle.types_declared.specs.Package.{Package}
use Rattle.workspace_check.specs.Verdicts.{Verdicts}
use Rattle.refs_binding.specs.declared.declaration.Declaration.{Declaration}
use Rattle.refs_binding.specs.declared.declaration.Declaration.TheVariants.{Predeclared, Declared, Field, Method}
use Rattle.refs_binding.specs.Binding.{BindsByScope}
use Rattle.refs_binding.specs.DeclaringPlaces.{IsDeclaredAt}
use Rattle.refs_binding.specs.Identifiers.{BeginsAt}
use Rattle.refs_binding.specs.Uses.{IsCheckedPackage}
use Rattle.refactor_conflict.specs.Corresponding.{IsSamePredeclared}
use Rattle.refactor_conflict.specs.Corresponding.{predeclared}
use Rattle.refactor_conflict.proofs.Becoming.{StandBoth, by_cases}
use Rattle.refactor_conflict.specs.ScopedPackages.{IsScopedIn}
use Rattle.refactor_conflict.specs.BoundAfter.{HasBecome}
use Rattle.refactor_conflict.specs.ScopesAfter.{IsBindable}
use Rattle.refactor_conflict.specs.Staying.{StaysByMember, StaysByName, StaysByScope}
use Rattle.refactor_conflict.proofs.OnePlace.{only_place}
use Rattle.law_renamed_workspaces.specs.Layouts.{IsRelaid}
use Rattle.law_renamed_workspaces.specs.Renames.{IsPlainRename}
use Rattle.law_renamed_workspaces.proofs.OwnNames.{counted}
use Rattle.law_renamed_workspaces.proofs.RenamedScopesRenamed.{others_stay}
use Rattle.law_renamed_workspaces.proofs.SameBindings.{bound_somehow}
use Rattle.law_renamed_workspaces.proofs.SameNames.{same_bindings}
use Rattle.law_renamed_workspaces.specs.Apart.{MoveApart}
use Rattle.law_renamed_workspaces.specs.There.{ArePackagesThere, IsThereAfter}

-- Each package is there after the change, and the change moves no two declarations to one place.
pub record KeepsPackages (w : Workspace) (known : Verdicts) (r : Revision) : Type 0 where
  pub there : ArePackagesThere w known r
  pub apart : MoveApart w known r

-- Uses of members stay bound, and so do the names by which members are declared.
abbrev pub KeepsMembers : Workspace → Verdicts → Revision → Type 0
KeepsMembers w known r = (x : Package) → IsCheckedPackage w known x → (u : ℕ) (place : Place) → BeginsAt x place.path place.offset u →
    StaysByMember w known r x u place × StaysByName w known r x u place

-- the parts of equal declarations
pub same_path : (a b : List ℕ) (m n : ℕ) → Declared a m ≡ Declared b n → a ≡ b
same_path a b m n e = cc

pub same_number : (a b : List ℕ) (m n : ℕ) → Declared a m ≡ Declared b n → m ≡ n
same_number a b m n e = cc

-- One declaration has become a declaration of the scopes after the change.
module _ (w : Workspace) (known : Verdicts) (r : Revision) (apart : MoveApart w known r) where
  abbrev Bec : Declaration → Declaration → Type 0
  Bec = HasBecome w known r

  nowhere : (e : Declaration) (n : ℕ) → e ≡ Predeclared n → (place : Place) → IsDeclaredAt (IsScopedIn r.after) e place → ⊥
  nowhere e n same place k = subst (λ d. IsDeclaredAt (IsScopedIn r.after) d place) same k

  pub becomes_once : (c d e : Declaration) → IsBindable r.after e → Bec c e → Bec d e → c ≡ d
  becomes_once c d e counts h k =
      by_ways (by_cases (IsCheckedPackage w known) (IsScopedIn r.after) r.moved c e h) (by_cases (IsCheckedPackage w known) (IsScopedIn r.after) r.moved d e k)
    where
      by_ways : IsSamePredeclared c e ⊎ StandBoth (IsCheckedPackage w known) (IsScopedIn r.after) r.moved c e →
          IsSamePredeclared d e ⊎ StandBoth (IsCheckedPackage w known) (IsScopedIn r.after) r.moved d e → c ≡ d
      by_ways (inl m) (inl n) = m.one ∙ (sym m.other ∙ n.other) ∙ sym n.one
      by_ways (inl m) (inr s) = absurd (nowhere e m.number m.other (r.moved s.place) s.new)
      by_ways (inr s) (inl n) = absurd (nowhere e n.number n.other (r.moved s.place) s.new)
      by_ways (inr s) (inr t) =
          apart c d s.place t.place s.old t.old (only_place r.after e counts (r.moved s.place) (r.moved t.place) s.new t.new)

-- An identifier that scopes bind to the same number stays bound.
module _ (w : Workspace) (known : Verdicts) (r : Revision) (x q : Package) (a : IsThereAfter w known r x q) (u : ℕ) (place : Place)
    (begins : BeginsAt x place.path place.offset u) (keeps : (m : ℕ) → IsBoundTo x.layout x.names u m → IsBoundTo x.layout q.names u m) where
  now : (m : ℕ) → IsBoundTo x.layout x.names u m → IsBoundTo q.layout q.names u m
  now m b = subst (λ (l : Layout). IsBoundTo l q.names u m) (sym a.relaid.layout) (keeps m b)

  after : (d : Declaration) → BindsByScope x u d → BindsByScope q u d
  after (Predeclared d) b = (b.0, now d b.1)
  after (Declared path d) b = (b.0 ∙ sym a.relaid.path, b.1, now d b.2)
  after (Field f) b = absurd b
  after (Method f) b = absurd b

  becomes : (d : Declaration) → BindsByScope x u d → BindsByScope q u d → HasBecome w known r d d
  becomes (Predeclared d) b k = predeclared
  becomes (Declared path d) b k =
      subst (λ t. HasBecome w known r (Declared t d) (Declared t d)) (sym b.0)
      (a.become d b.1 (counted x.layout x.names u d b.2) (counted q.layout q.names u d k.2))
  becomes (Field f) b k = absurd b
  becomes (Method f) b k = absurd b

  pub scope_stays : StaysByScope w known r x u place
  scope_stays old b = record {
    declaration = old;
    bound = record { used_in = q; is_package = a.is_scoped; user = u; begins = a.begins u place begins; bound = after old b };
    become = becomes old b (after old b);
  }

-- A package that doesn't declare what is renamed has the bindings that it had.
module _ (w : Workspace) (known : Verdicts) (d : Declaration) (name : List ℕ) (s : FileChanges) (h : IsPlainRename w known d name s) (y q : Package)
    (is : IsCheckedPackage w known y) (other : (m : ℕ) → d ≡ Declared y.path m → ⊥) (relaid : IsRelaid (revision_of w s) y q) where
  lexical_name : (u : ℕ) → (is_use (y.layout.role u) ≡ true) ⊎ (may_declare (y.layout.role u) ≡ true) → q.names u ≡ y.names u
  lexical_name u k =
      same_bytes (q.names u) (y.names u)
      (λ ne. bound_somehow w h.rename.sound known h.rename.right y is u k (λ e b. ne (others_stay w known d name s h y q is other relaid u e b)))

  pub other_bindings : HasSameBindings y.layout y.names q.names
  other_bindings = same_bindings y.layout y.names q.names (λ z may. lexical_name z (inr may)) (λ z use_of. lexical_name z (inl use_of))
