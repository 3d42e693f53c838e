-- The name of an import stays bound to the import where the import is renamed.
use Rattle.std.proofs.Common.{ℕ, ◌≡◌, List, [], refl, sym, ap, ◌∙◌, subst}
use Rattle.std.proofs.lemmas.Bool.{true≢false}
use Rattle.std.specs.Prelude.{slice_get}
use Rattle.base_edits.specs.EditSet.{FileChanges, edited}
use Rattle.base_edits.specs.Revisions.{Revision}
use Rattle.base_edits.specs.RevisionsOfEdits.{revision_of}
use Rattle.base_files.specs.Workspace.{Workspace}
use Rattle.base_files.specs.declared.place.Place.{Place}
use Rattle.go_scope.specs.declared.model.Block.TheVariants.{File}
use Rattle.go_scope.specs.declared.model.Role.TheVariants.{Declaring}
use Rattle.go_scope.specs.Bindings.{Counts, Declares, IsImport, Layout, block_of, is_left_name, may_declare, own as own_bound}
use Rattle.types_declared.specs.Laid.{literal_of}
use Rattle.types_declared.specs.Package.{Package}
use Rattle.workspace_check.specs.FaultLists.{ListsFaults}
use Rattle.workspace_check.specs.Verdicts.{AreVerdicts, Verdicts}
use Rattle.refs_binding.specs.declared.declaration.Declaration.{Declaration}
use Rattle.refs_binding.specs.declared.declaration.Declaration.TheVariants.{Declared}
use Rattle.refs_binding.specs.DeclaringPlaces.{HasDeclarationAt, IsDeclaredAt, TokenAt, TokenBegins}
use Rattle.refs_binding.specs.Identifiers.{BeginsAt}
use Rattle.refs_binding.specs.Uses.{IsCheckedPackage, IsUseOf}
use Rattle.refs_lookup.proofs.OneDeclaration.{one_used}
use Rattle.refactor_conflict.specs.Corresponding.{Corresponds, stands}
use Rattle.refactor_conflict.specs.ScopedPackages.{IsScopedIn}
use Rattle.refactor_conflict.proofs.OneScoped.{one_scoped}
use Rattle.law_renamed_workspaces.specs.Layouts.{IsRelaid}
use Rattle.law_renamed_workspaces.specs.Renames.{IsPlainRename}
use Rattle.law_renamed_workspaces.proofs.Packages.{package_there}
use Rattle.law_agreement.proofs.Preserved.{begins_same}
use Rattle.law_renamed_workspaces.specs.ScopedPackages.{HasMovedTokens, HasSameScopes}
use Rattle.law_renamed_workspaces.proofs.FaultlessScopes.{faultless_scoped}
use Rattle.law_renamed_workspaces.proofs.ScopedAfter.{scoped_relaid}
use Rattle.law_renumbered.specs.TwoRevisions.{KeepsAt}
use Rattle.law_gained_names.proofs.Numbered.{all_counting}
use Rattle.law_gained_names.proofs.GainingRenamesImports as imports
use Rattle.law_gained_names.proofs.GainingRenamesImports.{IsUsedAt}

scopes_back : (a b : Package) → HasSameScopes a b → HasSameScopes b a
scopes_back a b h = record { path = sym h.path; layout = sym h.layout; names = sym h.names; size = sym h.size; files = sym h.files }

-- a declaring identifier declares, whatever the names are
declares : (l : Layout) (names : ℕ → List ℕ) (n rank : ℕ) → l.role n ≡ Declaring (File rank) 0 → Declares l names n
declares l names n rank role = record {
  may = ap may_declare role;
  is_new = λ left e may block named scope. true≢false (sym left ∙ ap is_left_name role);
}

module _ (w : Workspace) (known : Verdicts) (q : Package) (is : IsCheckedPackage w known q) (n rank : ℕ) (role : q.layout.role n ≡ Declaring (File rank) 0)
    (import : IsImport q.layout n) (name : List ℕ) (s : FileChanges) (plain : IsPlainRename w known (Declared q.path n) name s) (after : Verdicts)
    (right : AreVerdicts (edited s w) after) (sound : ListsFaults (edited s w) []) where
  abbrev x : Workspace
  x = edited s w

  abbrev r : Revision
  r = revision_of w s

  -- the package afterwards, by its scopes
  scoped : (o : Package) × (IsScopedIn x o × (IsRelaid r q o × HasMovedTokens r q o))
  scoped = scoped_relaid w known (Declared q.path n) name s plain q is

  -- A package of the workspace afterwards that has the scopes of one by scopes.
  record IsThere (o : Package) : Type 0 where
    after_it : Package
    is_there : IsCheckedPackage x after after_it
    alike : HasSameScopes o after_it

  checked : (o : Package) → IsScopedIn x o → IsThere o
  checked o is_scoped =
      let c = package_there x sound after right o.path is_scoped.of_workspace in
      let again = faultless_scoped x after right sound c.0 c.1.0 in
      let same : again.0 ≡ o = one_scoped x again.0 o again.1.0 is_scoped (again.1.1.path ∙ c.1.1) in
      record { after_it = c.0; is_there = c.1.0; alike = scopes_back c.0 o (subst (HasSameScopes c.0) same again.1.1) }

  it : IsThere scoped.0
  it = checked scoped.0 scoped.1.0

  abbrev c : Package
  c = it.after_it

  relaid : IsRelaid r q scoped.0
  relaid = scoped.1.1.0

  layout : c.layout ≡ q.layout
  layout = it.alike.layout ∙ relaid.layout

  path : c.path ≡ q.path
  path = it.alike.path ∙ relaid.path

  role_after : c.layout.role n ≡ Declaring (File rank) 0
  role_after = ap (λ (l : Layout). l.role n) layout ∙ role

  import_after : IsImport c.layout n
  import_after = (rank, ap block_of role_after)

  counts_after : Counts c.layout c.names n
  counts_after = all_counting x sound after right c it.is_there n (declares c.layout c.names n rank role_after)

  -- the name is bound to the import afterwards

  module _ (place : Place) (own : IsUsedAt w known q is n import place) (named : own.user ≡ n) where
    begins_after : BeginsAt c (r.moved place).path (r.moved place).offset n
    begins_after =
        begins_same scoped.0 c it.alike (r.moved place).path (r.moved place).offset n
        (scoped.1.1.1.names n place (subst (BeginsAt q place.path place.offset) named own.begins))

    used_after : IsUseOf x after (Declared c.path n) (r.moved place)
    used_after =
        imports.use_of x after c it.is_there n import_after (r.moved place)
        (record { user = n; begins = begins_after; bound = own_bound refl counts_after })

    abbrev Becomes : Declaration → Declaration → Type 0
    Becomes d e = Corresponds (IsCheckedPackage w known) (IsCheckedPackage x after) r.moved d e

    counts : Counts q.layout q.names n
    counts = imports.counts w known q is n import place own

    declared : (place : Place) × (TokenAt q (q.layout.place (literal_of q.layout n)) place × IsDeclaredAt (IsCheckedPackage w known) (Declared q.path n) place)
    declared = imports.declared w known q is n import counts

    declared_after : (l : Place) → TokenAt q (q.layout.place (literal_of q.layout n)) l → HasDeclarationAt c (Declared c.path n) (r.moved l)
    declared_after l token =
        let to = q.layout.place (literal_of q.layout n) in
        let moved : TokenAt scoped.0 to (r.moved l) = scoped.1.1.1.tokens to l token in
        let here : TokenAt c to (r.moved l) = subst (λ fs. TokenBegins (slice_get fs to.file) to.index (r.moved l)) (sym it.alike.files) moved in
        imports.declared_in x after c it.is_there n import_after counts_after (r.moved l)
        (subst (λ (k : Layout). TokenAt c (k.place (literal_of k n)) (r.moved l)) (sym layout) here)

    becomes : Becomes (Declared q.path n) (Declared c.path n)
    becomes =
        stands declared.0 declared.1.1
        (record { inside = c; is_package = it.is_there; of_path = refl; holds = declared_after declared.0 declared.1.0 })

    pub own_kept : KeepsAt w known r after place
    own_kept = record {
      keeps = λ d used.
          let same : d ≡ Declared q.path n = one_used w known place d (Declared q.path n) used (imports.use_of w known q is n import place own) in
          record { declaration = Declared c.path n; is_use = used_after; holds = subst (λ z. Becomes z (Declared c.path n)) (sym same) becomes };
      adds_none = λ e used.
          let same : e ≡ Declared c.path n = one_used x after (r.moved place) e (Declared c.path n) used used_after in
          record {
            declaration = Declared q.path n;
            is_use = imports.use_of w known q is n import place own;
            holds = subst (Becomes (Declared q.path n)) (sym same) becomes;
          };
    }
