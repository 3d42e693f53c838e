-- The rename of a field or method leaves alone what is bound by scopes or behind a package's name.
use Rattle.std.specs.Prelude.{Contains}
use Rattle.std.proofs.Common.{ℕ, ◌≡◌, ◌⊎◌, inl, inr, true, List, ap, sym, subst, refl, ◌∙◌}
use Rattle.std.proofs.lemmas.Bool.{true≢false}
use Rattle.base_files.specs.Workspace.{Workspace}
use Rattle.base_files.specs.declared.place.Place.{Place}
use Rattle.base_edits.specs.EditSet.{FileChanges}
use Rattle.base_edits.specs.Revisions.{Revision, PackageMovesTo}
use Rattle.base_edits.specs.RevisionsOfEdits.{revision_of}
use Rattle.go_scope.specs.declared.model.Block.TheVariants.{Universe}
use Rattle.go_scope.specs.declared.model.Block.TheVariants.{Package as PackageBlock}
use Rattle.go_scope.specs.declared.model.Purpose.{Purpose}
use Rattle.go_scope.specs.declared.model.Purpose.TheVariants as purpose
use Rattle.go_scope.specs.declared.model.Role.TheVariants.{NotLexical}
use Rattle.go_scope.specs.Bindings.{Layout, Counts, IsBoundTo as IsScopeBound, IsPackageLevel, own, is_use, may_declare}
use Rattle.law_rename.specs.Renaming.{HasSameBindings}
use Rattle.types_declared.specs.Laid.{is_exported}
use Rattle.types_declared.specs.Package.{Package}
use Rattle.types_check.specs.Exports.{DoesExport}
use Rattle.workspace_check.specs.Verdicts.{Verdicts}
use Rattle.refs_binding.specs.declared.declaration.Declaration.{Declaration}
use Rattle.refs_binding.specs.declared.declaration.Declaration.TheVariants.{Predeclared, Declared, Field, Method}
use Rattle.refs_binding.specs.Binding.{BindsByScope, BindsQualified, IsPredeclaredNumber, by_scope, by_package, by_member, by_name}
use Rattle.refs_binding.specs.Identifiers.{BeginsAt, IsInFiles}
use Rattle.refs_binding.specs.Uses.{IsCheckedPackage, IsBoundToDeclaration}
use Rattle.refs_lookup.proofs.NamedMembers.{name_member, name_not_package}
use Rattle.refs_lookup.proofs.UsedMembers.{link_role}
use Rattle.refs_lookup.proofs.BoundUsedMembers.{member_not_package}
use Rattle.refactor_conflict.specs.Corresponding.{predeclared}
use Rattle.refactor_conflict.specs.BoundAfter.{HasBecome}
use Rattle.refactor_conflict.specs.Staying.{StaysByPackage, StaysByScope}
use Rattle.law_renamed_workspaces.specs.Layouts.{IsRelaid}
use Rattle.law_renamed_workspaces.proofs.KeptBindings.{lexical}
use Rattle.law_renamed_workspaces.proofs.OwnNames.{counted, in_universe}
use Rattle.law_renamed_workspaces.proofs.RenamedScopesRenamed.{others_are_kept}
use Rattle.law_renamed_workspaces.proofs.SameNames.{same_bindings}
use Rattle.law_renamed_workspaces.specs.There.{ArePackagesThere}
use Rattle.law_renamed_workspaces.proofs.There.{packages_there}
use Rattle.law_renamed_workspaces.specs.OtherPackages.{KeepsExports}
use Rattle.law_renamed_workspaces.specs.NamesAfterwards.{IsMember}
use Rattle.law_renamed_workspaces.specs.MemberRenames.{IsMemberRename}
use Rattle.law_renamed_workspaces.specs.KeptScopes.{BindsAlike, ScopesAreKept, MemberRenamesKeepScopes, MemberConflictsAreOfMembers}
use Rattle.law_renamed_workspaces.proofs.RenamedSets.{IsBoundToSome}

no_scope : (x : Package) (u : ℕ) (d : Declaration) → IsMember d → BindsByScope x u d → ⊥
no_scope x u (Predeclared n) m b = m
no_scope x u (Declared path n) m b = m
no_scope x u (Field s) m b = b
no_scope x u (Method s) m b = b

no_package : (I : Package → Type 0) (x : Package) (u : ℕ) (d : Declaration) → IsMember d → BindsQualified I x u d → ⊥
no_package I x u (Predeclared n) m b = m
no_package I x u (Declared path n) m b = m
no_package I x u (Field s) m b = b
no_package I x u (Method s) m b = b

-- a lexical role is none of a member's
not_lexical : (l : Layout) (u : ℕ) (e : Purpose) → l.role u ≡ NotLexical e → (is_use (l.role u) ≡ true) ⊎ (may_declare (l.role u) ≡ true) → ⊥
not_lexical l u e role k = elim k [
  | inl use_of ↦ true≢false (sym use_of ∙ ap is_use role)
  | inr may ↦ true≢false (sym may ∙ ap may_declare role)
]

module _ (w : Workspace) (known : Verdicts) (d : Declaration) (asked : List Declaration) (name : List ℕ) (s : FileChanges)
    (h : IsMemberRename w known d asked name s) where
  -- each renamed declaration is a member
  each_member : (e : Declaration) → Contains h.rename.rename.set e → IsMember e
  each_member e in_set = elim (h.rename.rename.is_set.others e in_set) [
    | inl same ↦ subst IsMember (sym same) h.member
    | inr alike ↦ alike.second
  ]

  abbrev r : Revision
  r = revision_of w s

  module _ (x q : Package) (is : IsCheckedPackage w known x) (relaid : IsRelaid r x q) where
    abbrev l : Layout
    l = x.layout

    -- what declares or is a use keeps its name
    lexical_kept : (u : ℕ) → (is_use (l.role u) ≡ true) ⊎ (may_declare (l.role u) ≡ true) → q.names u ≡ x.names u
    lexical_kept u k = others_are_kept w known d name s h.rename x q is relaid u apart
      where
        none : (e : Declaration) → IsMember e → IsInFiles x u → IsBoundToDeclaration w known x u e → ⊥
        none e member inside (by_scope b) = no_scope x u e member b
        none e member inside (by_package b) = no_package (IsCheckedPackage w known) x u e member b
        none e member inside (by_member b) = elim (link_role w known x.path x is.is_checked u e inside b) [
          | inl key ↦ not_lexical l u purpose.Key key k
          | inr selected ↦ not_lexical l u purpose.Selected selected k
        ]
        none e member inside (by_name b) = not_lexical l u purpose.Member (name_member w known x.path x is.is_checked u e inside.0 b) k

        apart : IsInFiles x u → IsBoundToSome w known h.rename.rename.set x u → ⊥
        apart inside some = none some.declaration (each_member some.declaration some.among) inside some.bound

    same : HasSameBindings l x.names q.names
    same = same_bindings l x.names q.names (λ e may. lexical_kept e (inr may)) (λ u use_of. lexical_kept u (inl use_of))

    bound_after : (u e : ℕ) → IsScopeBound l x.names u e → IsScopeBound q.layout q.names u e
    bound_after u e b = subst (λ (k : Layout). IsScopeBound k q.names u e) (sym relaid.layout) ((same u e).0 b)

    bound_before : (u e : ℕ) → IsScopeBound q.layout q.names u e → IsScopeBound l x.names u e
    bound_before u e b = (same u e).1 (subst (λ (k : Layout). IsScopeBound k q.names u e) relaid.layout b)

    binds_after : (u : ℕ) (e : Declaration) → BindsByScope x u e → BindsByScope q u e
    binds_after u (Predeclared n) b = (b.0, bound_after u n b.1)
    binds_after u (Declared path n) b = (b.0 ∙ sym relaid.path, b.1, bound_after u n b.2)
    binds_after u (Field f) b = absurd b
    binds_after u (Method f) b = absurd b

    binds_before : (u : ℕ) (e : Declaration) → BindsByScope q u e → BindsByScope x u e
    binds_before u (Predeclared n) b = (b.0, bound_before u n b.1)
    binds_before u (Declared path n) b = (b.0 ∙ relaid.path, b.1, bound_before u n b.2)
    binds_before u (Field f) b = absurd b
    binds_before u (Method f) b = absurd b

    named : (u : ℕ) (e : Declaration) → BindsByScope x u e → q.names u ≡ x.names u
    named u (Predeclared n) b = lexical_kept u (lexical l x.names u n b.1)
    named u (Declared path n) b = lexical_kept u (lexical l x.names u n b.2)
    named u (Field f) b = absurd b
    named u (Method f) b = absurd b

    keeps : BindsAlike x q
    keeps = record { bound = λ u e. (binds_before u e, binds_after u e); named = named }

    -- exports

    counts_after : (e : ℕ) → Counts l x.names e → Counts q.layout q.names e
    counts_after e c = counted q.layout q.names e e (bound_after e e (own refl c))

    counts_before : (e : ℕ) → Counts q.layout q.names e → Counts l x.names e
    counts_before e c = counted l x.names e e (bound_before e e (own refl c))

    name_kept : (e : ℕ) → Counts l x.names e → q.names e ≡ x.names e
    name_kept e c = lexical_kept e (inr c.declares.may)

    exports_after : (e : ℕ) → DoesExport x e → DoesExport q e
    exports_after e k = record {
      package_level = subst (λ (m : Layout). IsPackageLevel m e) (sym relaid.layout) k.package_level;
      counts = counts_after e k.counts;
      exported = ap is_exported (name_kept e k.counts) ∙ k.exported;
    }

    exports_before : (e : ℕ) → DoesExport q e → DoesExport x e
    exports_before e k =
        let c = counts_before e k.counts in record {
          package_level = subst (λ (m : Layout). IsPackageLevel m e) relaid.layout k.package_level;
          counts = c;
          exported = ap is_exported (sym (name_kept e c)) ∙ k.exported;
        }

    keeps_exports : KeepsExports x q
    keeps_exports = record {
      exports = λ e. (exports_before e, exports_after e);
      named = λ e k. name_kept e k.counts;
    }

  -- each package is there afterwards

  abbrev there : ArePackagesThere w known r
  there = packages_there w known d name s h.rename

  module _ (x : Package) (is : IsCheckedPackage w known x) (u : ℕ) (place : Place)
      (begins : BeginsAt x place.path place.offset u) where
    abbrev z : Package
    z = (there x is).0

    becomes : (e : Declaration) → BindsByScope x u e → BindsByScope z u e → HasBecome w known r e e
    becomes (Predeclared n) k now = predeclared
    becomes (Declared path n) k now =
        subst (λ t. HasBecome w known r (Declared t n) (Declared t n)) (sym k.0)
        ((there x is).1.become n k.1 (counted x.layout x.names u n k.2) (counted z.layout z.names u n now.2))
    becomes (Field f) k now = absurd k
    becomes (Method f) k now = absurd k

    scope_stays : StaysByScope w known r x u place
    scope_stays old b =
        let a = (there x is).1 in
        let now = binds_after x z is a.relaid u old b in
        record {
          declaration = old;
          bound = record { used_in = z; is_package = a.is_scoped; user = u; begins = a.begins u place begins; bound = now };
          become = becomes old b now;
        }

    -- the selector of a qualified identifier keeps its name
    selector_kept : (e : Declaration) → BindsQualified (IsCheckedPackage w known) x u e → r.called place (x.names u) ≡ x.names u
    selector_kept e b =
        let a = (there x is).1 in
        sym (a.relaid.names u place begins) ∙ others_are_kept w known d name s h.rename x z is a.relaid u apart
      where
        none : (m : Declaration) → IsMember m → IsInFiles x u → IsBoundToDeclaration w known x u m → ⊥
        none m member inside (by_scope k) = no_scope x u m member k
        none m member inside (by_package k) = no_package (IsCheckedPackage w known) x u m member k
        none m member inside (by_member k) = member_not_package w known x.path x is.is_checked (IsCheckedPackage w known) u m e inside k b
        none m member inside (by_name k) = name_not_package w known x.path x is.is_checked (IsCheckedPackage w known) u m e inside.0 k b

        apart : IsInFiles x u → IsBoundToSome w known h.rename.rename.set x u → ⊥
        apart inside some = none some.declaration (each_member some.declaration some.among) inside some.bound

    package_stays : StaysByPackage w known r x u place
    package_stays (Predeclared n) b = absurd b
    package_stays (Field f) b = absurd b
    package_stays (Method f) b = absurd b
    package_stays (Declared path n) b =
        let y = b.other in
        let a = there y b.is_package in
        let kept = keeps_exports y a.0 b.is_package a.1.relaid in
        let seen = (kept.exports n).1 b.seen in
        let not_predeclared : IsPredeclaredNumber n → ⊥ =
        (λ lt. let k : Universe ≡ PackageBlock = sym (in_universe w known y.path y b.is_package.is_checked n lt) ∙ b.seen.package_level in cc) in
        record {
          declaration = Declared path n;
          bound = record {
            path = path;
            behind = b.behind;
            exports = record {
              other = a.0;
              is_package = a.1.is_scoped;
              goes = subst (λ k. PackageMovesTo w r k a.0.path) b.of_path a.1.goes;
              declaration = n;
              seen = seen;
              named = kept.named n b.seen ∙ b.named ∙ sym (selector_kept (Declared path n) b);
              exported = ap (λ k. Declared k n) (sym b.of_path ∙ sym a.1.relaid.path);
            };
          };
          become =
              subst (λ k. HasBecome w known r (Declared k n) (Declared k n)) b.of_path (a.1.become n not_predeclared b.seen.counts seen.counts);
        }

pub scopes_kept : ScopesAreKept
scopes_kept w known d set name s h x q is relaid = (keeps w known d set name s h x q is relaid, keeps_exports w known d set name s h x q is relaid)

pub names_stay : MemberRenamesKeepScopes
names_stay w known d set name s h x is u place begins = record {
  by_scope = scope_stays w known d set name s h x is u place begins;
  by_package = package_stays w known d set name s h x is u place begins;
}

pub members_decide : MemberConflictsAreOfMembers
members_decide w known d set name s h place = (
  (λ k x is. ((λ u begins. (k x is u begins).by_member), (λ u begins. (k x is u begins).by_name))),
  (λ k x is u begins. record {
    by_scope = scope_stays w known d set name s h x is u place begins;
    by_package = package_stays w known d set name s h x is u place begins;
    by_member = (k x is).0 u begins;
    by_name = (k x is).1 u begins;
  }),
)
