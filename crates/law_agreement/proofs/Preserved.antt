-- A plain rename that preserves bindings loses and captures no identifier.
use Rattle.std.proofs.Common.{ℕ, ◌≡◌, inl, inr, List, [], ◌∷◌, map, refl, sym, ap, subst, ◌∙◌}
use Rattle.std.specs.Prelude.{Some, Contains, slice_get}
use Rattle.std.proofs.lemmas.Option.{none-some}
use Rattle.base_lemmas.proofs.Elements.{first_in}
use Rattle.base_files.specs.Packages.{package_files}
use Rattle.base_files.specs.Path.{folder}
use Rattle.base_files.specs.Workspace.{Workspace}
use Rattle.base_files.specs.declared.place.Place.{Place}
use Rattle.base_edits.specs.EditSet.{FileChanges, edited}
use Rattle.base_edits.specs.Revisions.{Revision}
use Rattle.base_edits.specs.RevisionsOfEdits.{revision_of}
use Rattle.go_ast.specs.SourceFile.{SourceFile, FileParts, source_of}
use Rattle.go_scope.specs.declared.model.Purpose.{Purpose}
use Rattle.go_scope.specs.declared.model.Purpose.TheVariants as purpose
use Rattle.go_scope.specs.declared.model.Role.TheVariants.{NotLexical}
use Rattle.go_scope.specs.Bindings.{Layout, Names, Counts, IsBoundTo}
use Rattle.law_tokens.proofs.Lexical.{never_bound}
use Rattle.types_declared.specs.Laid.{literal_of}
use Rattle.types_declared.specs.Package.{Package}
use Rattle.types_check.specs.Exports.{DoesExport}
use Rattle.workspace_graph.specs.Parsed.{AreParsed, none}
use Rattle.workspace_check.specs.Verdicts.{Verdicts, AreVerdicts}
use Rattle.workspace_check.proofs.PackageFiles.{in_folder}
use Rattle.refs_binding.specs.declared.declaration.Declaration.{Declaration}
use Rattle.refs_binding.specs.declared.declaration.Declaration.TheVariants.{Predeclared, Declared, Field, Method}
use Rattle.refs_binding.specs.Binding as binds
use Rattle.refs_binding.specs.Binding.{BindsByScope, BindsQualified, IsQualifiedUse, BindsByMember}
use Rattle.refs_binding.specs.DeclaringPlaces.{InPackage, TokenBegins, HasDeclarationAt, IsDeclaredAt}
use Rattle.refs_binding.specs.Identifiers.{BeginsAt}
use Rattle.refs_binding.specs.Uses.{IsCheckedPackage, IsUseOf}
use Rattle.refs_binding.specs.Uses as uses
use Rattle.refs_binding.proofs.Alike.{package_for, use_for}
use Rattle.refs_binding.proofs.Excluding.{number_bound, exported_as}
use Rattle.refs_binding.proofs.Folders.{file_in_folder}
use Rattle.refs_lookup.proofs.NamedMembers.{name_member}
use Rattle.refs_lookup.proofs.UsedMembers.{link_role}
use Rattle.refs_lookup.proofs.OnePlace.{same_files}
use Rattle.refs_places.specs.Identified.{IsIdentifierAt}
use Rattle.refactor_conflict.specs.Corresponding.{Corresponds, predeclared, stands}
use Rattle.refactor_conflict.proofs.Becoming.{StandBoth, by_cases}
use Rattle.refactor_conflict.specs.ScopedPackages.{IsScopedIn}
use Rattle.refactor_preserve.specs.BoundToOne.{IsBoundToOne}
use Rattle.refactor_preserve.specs.Preserved.{KeepsBindings}
use Rattle.refactor_conflict.specs.BoundAfter.{HasBecome, IsBoundByScopes, IsBoundByPackage}
use Rattle.refactor_conflict.specs.Staying.{StaysBound, NoneIsLost}
use Rattle.refactor_conflict.proofs.CorrespondingPlaces.{not_predeclared}
use Rattle.law_renamed_workspaces.specs.Layouts.{IsRelaid}
pub use Rattle.law_renamed_workspaces.proofs.PathsStay.{keeps_path}
use Rattle.law_agreement.proofs.Premises.{HasMovedTokens, KeptPackagesAreRelaid, HasSameScopes, FaultlessPackagesAreScoped}
use Rattle.law_agreement.proofs.Premises.{IsKeptRename, PreservedByMembers, SelectorsStayQualified}
use Rattle.law_agreement.proofs.Afterwards.{KeepsMembers}
use Rattle.law_agreement.proofs.ScopedPlaces.{same_use}
use Rattle.refs_lookup.proofs.Standing.{token_file}

-- Bindings are kept whichever right verdicts they are found with.
module _ (w : Workspace) (a b : Verdicts) (right : AreVerdicts w a) (also : AreVerdicts w b) where
  in_package_for : (path : List ℕ) (P : Package → Type 0) → InPackage (IsCheckedPackage w a) path P → InPackage (IsCheckedPackage w b) path P
  in_package_for path P h = record { inside = h.inside; is_package = package_for w a b right also h.inside h.is_package; of_path = h.of_path; holds = h.holds }

  declared_for : (d : Declaration) (place : Place) → IsDeclaredAt (IsCheckedPackage w a) d place → IsDeclaredAt (IsCheckedPackage w b) d place
  declared_for (Predeclared n) place h = h
  declared_for (Declared path n) place h = in_package_for path (λ p. HasDeclarationAt p (Declared path n) place) h
  declared_for (Field s) place h = in_package_for s.package (λ p. HasDeclarationAt p (Field s) place) h
  declared_for (Method s) place h = in_package_for s.package (λ p. HasDeclarationAt p (Method s) place) h

  corresponds_for : (After : Package → Type 0) (moved : Place → Place) (d e : Declaration) → Corresponds (IsCheckedPackage w a) After moved d e →
      Corresponds (IsCheckedPackage w b) After moved d e
  corresponds_for After moved d e predeclared = predeclared
  corresponds_for After moved d e (stands place h k) = stands place (declared_for d place h) k

  identifier_for : (place : Place) → IsIdentifierAt w a place → IsIdentifierAt w b place
  identifier_for place h = record { used_in = h.used_in; is_package = package_for w a b right also h.used_in h.is_package; user = h.user; begins = h.begins }

pub kept_for : (w : Workspace) (a b : Verdicts) → AreVerdicts w a → AreVerdicts w b → (r : Revision) (after : Verdicts) → KeepsBindings w a r after →
    KeepsBindings w b r after
kept_for w a b right also r after k =
    let After = IsCheckedPackage r.after after in
    record {
      keeps = λ place d used. let h = k.keeps place d (use_for w b a also right d place used) in
          record { declaration = h.declaration; is_use = h.is_use; holds = corresponds_for w a b right also After r.moved d h.declaration h.holds };
      adds_none = λ place e there used. let h = k.adds_none place e (identifier_for w b a also right place there) used in
          record {
            declaration = h.declaration;
            is_use = use_for w a b right also h.declaration place h.is_use;
            holds = corresponds_for w a b right also After r.moved h.declaration e h.holds;
          };
    }

-- What scopes tell is told of two packages with the same scopes alike.
module _ (q o : Package) (same : HasSameScopes q o) where
  pub bound_same : (u d : ℕ) → IsBoundTo q.layout q.names u d → IsBoundTo o.layout o.names u d
  bound_same u d h = subst (λ n. IsBoundTo o.layout n u d) (sym same.names) (subst (λ l. IsBoundTo l q.names u d) (sym same.layout) h)

  pub counts_same : (d : ℕ) → Counts q.layout q.names d → Counts o.layout o.names d
  counts_same d h = subst (λ n. Counts o.layout n d) (sym same.names) (subst (λ l. Counts l q.names d) (sym same.layout) h)

  pub begins_same : (path : List ℕ) (offset u : ℕ) → BeginsAt q path offset u → BeginsAt o path offset u
  begins_same path offset u h =
      let begins_by : (size : ℕ) (l : Layout) (fs : List SourceFile) → Type 0 =
      (λ size l fs.
      BeginsAt (record { path = o.path; files = fs; layout = l; names = o.names; size = size; export_data_of = o.export_data_of }) path offset u) in
      subst (λ n. begins_by n o.layout o.files) (sym same.size)
      (subst (λ l. begins_by q.size l o.files) (sym same.layout) (subst (λ fs. begins_by q.size q.layout fs) (sym same.files) h))

  pub scope_same : (u : ℕ) (d : Declaration) → BindsByScope q u d → BindsByScope o u d
  scope_same u (Predeclared n) h = (h.0, bound_same u n h.1)
  scope_same u (Declared path n) h = (h.0 ∙ sym same.path, h.1, bound_same u n h.2)
  scope_same u (Field s) h = absurd h
  scope_same u (Method s) h = absurd h

  pub exports_same : (d : ℕ) → DoesExport q d → DoesExport o d
  exports_same d h = subst (λ n. DoesExport (record {
    path = o.path;
    files = o.files;
    layout = o.layout;
    names = n;
    size = o.size;
    export_data_of = o.export_data_of;
  }) d) (sym same.names)
      (subst (λ l. DoesExport (record { path = o.path; files = o.files; layout = l; names = q.names; size = o.size; export_data_of = o.export_data_of }) d)
      (sym same.layout) (record { package_level = h.package_level; counts = h.counts; exported = h.exported }))

  pub declares_same : (path : List ℕ) (n : ℕ) (place : Place) → HasDeclarationAt q (Declared path n) place → HasDeclarationAt o (Declared path n) place
  declares_same path n place h = record {
    at = h.at;
    is_at = record {
      own = h.is_at.own;
      counts = counts_same n h.is_at.counts;
      stands = ap (λ (l : Layout). l.place (literal_of l n)) same.layout ∙ h.is_at.stands;
    };
    begins = subst (λ fs. TokenBegins (slice_get fs h.at.file) h.at.index place) (sym same.files) h.begins;
  }

declared_folder : (w : Workspace) (known : Verdicts) (path : List ℕ) (n : ℕ) (place : Place) → IsDeclaredAt (IsCheckedPackage w known) (Declared path n) place →
    folder place.path ≡ path
declared_folder w known path n place h =
    let p = h.inside in
    let at = h.holds.at in
    let f = token_file (slice_get p.files at.file) at.index place h.holds.begins in
    ap folder (sym f.1.1) ∙ file_in_folder w known p h.is_package at.file f.0 f.1.0 ∙ h.of_path

-- a package with a declaration has a first file
no_files : (files : List FileParts) → AreParsed [] files [] → files ≡ []
no_files files none = refl

first_file : (w : Workspace) (known : Verdicts) (path : List ℕ) (n : ℕ) (place : Place) → IsDeclaredAt (IsCheckedPackage w known) (Declared path n) place →
    (es : List (List ℕ × List ℕ)) → package_files w path ≡ es → (e : List ℕ × List ℕ) × ((rest : List (List ℕ × List ℕ)) × (package_files w path ≡ e ∷ rest))
first_file w known path n place h [] is =
    let p = h.inside in
    let at = h.holds.at in
    let checked = h.is_package.is_checked in
    let f = token_file (slice_get p.files at.file) at.index place h.holds.begins in
    let parsed : AreParsed [] checked.files [] =
    subst (λ es. AreParsed es checked.files []) (subst (λ q. package_files w q ≡ []) (sym h.of_path) is) checked.parsed in
    let empty : p.files ≡ [] = same_files w known p.path p checked ∙ ap (map source_of) (no_files checked.files parsed) in
    absurd (none-some f.0 (subst (λ fs. slice_get fs at.file ≡ Some f.0) empty f.1.0))
first_file w known path n place h (e ∷ rest) is = (e, (rest, is))

module _ (scoped_relaid : KeptPackagesAreRelaid) (are_scoped : FaultlessPackagesAreScoped) (qualified : SelectorsStayQualified)
    (w : Workspace) (known : Verdicts) (d : Declaration) (name : List ℕ) (s : FileChanges) (after : Verdicts)
    (kept : IsKeptRename w known d name s after) where
  abbrev r : Revision
  r = revision_of w s

  abbrev x : Workspace
  x = edited s w

  -- the package without checking
  scopes_of : (q : Package) → IsCheckedPackage x after q → (o : Package) × (IsScopedIn x o × HasSameScopes q o)
  scopes_of q is = are_scoped x after kept.right kept.sound q is

  -- what corresponds among checked packages corresponds by scopes
  declared_scoped : (path : List ℕ) (n : ℕ) (place : Place) → IsDeclaredAt (IsCheckedPackage x after) (Declared path n) place →
      IsDeclaredAt (IsScopedIn x) (Declared path n) place
  declared_scoped path n place h =
      let o = scopes_of h.inside h.is_package in
      record { inside = o.0; is_package = o.1.0; of_path = o.1.1.path ∙ h.of_path; holds = declares_same h.inside o.0 o.1.1 path n place h.holds }

  become_declared : (old : Declaration) (path : List ℕ) (n : ℕ) → Corresponds (IsCheckedPackage w known) (IsCheckedPackage x after) r.moved old (Declared
      path n) →
      HasBecome w known r old (Declared path n)
  become_declared old path n h = elim (by_cases (IsCheckedPackage w known) (IsCheckedPackage x after) r.moved old (Declared path n) h) [
    | inl m ↦ absurd (not_predeclared (Declared path n) (Declared path n) refl tt m.number m.other)
    | inr t ↦ stands t.place t.old (declared_scoped path n (r.moved t.place) t.new)
  ]

  become_predeclared : (old : Declaration) (n : ℕ) → Corresponds (IsCheckedPackage w known) (IsCheckedPackage x after) r.moved old (Predeclared n) →
      HasBecome w known r old (Predeclared n)
  become_predeclared old n predeclared = predeclared
  become_predeclared old n (stands place h k) = absurd k

  become_scoped : (o : Package) (u : ℕ) (old e : Declaration) → BindsByScope o u e → Corresponds (IsCheckedPackage w known) (IsCheckedPackage x after)
      r.moved old e →
      HasBecome w known r old e
  become_scoped o u old (Predeclared n) b h = become_predeclared old n h
  become_scoped o u old (Declared path n) b h = become_declared old path n h
  become_scoped o u old (Field t) b h = absurd b
  become_scoped o u old (Method t) b h = absurd b

  -- An identifier, and what it is bound to after the change. `q` is the package that has it after the change, and `o` the same by scopes.
  module _ (p : Package) (is : IsCheckedPackage w known p) (u : ℕ) (place : Place) (begins : BeginsAt p place.path place.offset u) (old e : Declaration)
      (now : IsUseOf x after e (r.moved place)) (same : Corresponds (IsCheckedPackage w known) (IsCheckedPackage x after) r.moved old e) where
    abbrev q : Package
    q = now.used_in

    abbrev o : Package
    o = (scopes_of q now.is_package).0

    is_o : IsScopedIn x o
    is_o = (scopes_of q now.is_package).1.0

    alike : HasSameScopes q o
    alike = (scopes_of q now.is_package).1.1

    there : BeginsAt o (r.moved place).path (r.moved place).offset now.user
    there = begins_same q o alike (r.moved place).path (r.moved place).offset now.user now.begins

    abbrev relaid : (t : Package) × (IsScopedIn x t × (IsRelaid r p t × HasMovedTokens r p t))
    relaid = scoped_relaid w known d name s after kept p is

    one : (o ≡ relaid.0) × (now.user ≡ u)
    one =
        same_use x relaid.0 o relaid.1.0 is_o (r.moved place) u now.user (relaid.1.1.1.names u place begins) there

    role : q.layout.role now.user ≡ p.layout.role u
    role =
        ap (λ (l : Layout). l.role now.user) (sym alike.layout ∙ ap (λ (t : Package). t.layout) one.0 ∙ relaid.1.1.0.layout)
        ∙ ap p.layout.role one.1

    by_scopes : BindsByScope q now.user e → StaysBound (HasBecome w known r) (IsBoundByScopes r place) old
    by_scopes b =
        let bound : BindsByScope o now.user e = scope_same q o alike now.user e b in
        record {
          declaration = e;
          bound = record { used_in = o; is_package = is_o; user = now.user; begins = there; bound = bound };
          become = become_scoped o now.user old e bound same;
        }

    never : BindsByScope p u old → (kind : Purpose) → q.layout.role now.user ≡ NotLexical kind → ⊥
    never was kind at =
        let n = number_bound p u old was in
        never_bound p.layout p.names u n.0 kind (sym role ∙ at) n.1

    pub stays_by_scope : BindsByScope p u old → StaysBound (HasBecome w known r) (IsBoundByScopes r place) old
    stays_by_scope was = by_way now.bound
      where
        by_way : uses.IsBoundToDeclaration x after q now.user e → StaysBound (HasBecome w known r) (IsBoundByScopes r place) old
        by_way (binds.by_scope b) = by_scopes b
        by_way (binds.by_package b) = absurd (never was purpose.Selected (exported_as (IsCheckedPackage x after) q now.user e b).1.1.1.behind.selected)
        by_way (binds.by_member b) = elim (link_role x after q.path q now.is_package.is_checked now.user e now.begins.0 b) [
          | inl key ↦ absurd (never was purpose.Key key)
          | inr selected ↦ absurd (never was purpose.Selected selected)
        ]
        by_way (binds.by_name b) = absurd (never was purpose.Member (name_member x after q.path q now.is_package.is_checked now.user e now.begins.0.0 b))

    -- After the change the package of the selector exports what it is bound to, under the new name.
    exports : (path : List ℕ) (n : ℕ) (before : IsQualifiedUse (IsCheckedPackage w known) p u path n) → old ≡ Declared path n →
        (to : List ℕ) (m : ℕ) → e ≡ Declared to m → IsQualifiedUse (IsCheckedPackage x after) q now.user to m →
        (a : Place) → IsDeclaredAt (IsCheckedPackage w known) (Declared path n) a → IsDeclaredAt (IsCheckedPackage x after) (Declared to m) (r.moved a) →
        IsBoundByPackage w r place p u e
    exports path n before is_old to m is_e behind a at goes =
        let other = behind.other in
        let v = scopes_of other behind.is_package in
        let to_path : to ≡ path =
        sym (declared_folder x after to m (r.moved a) goes) ∙ ap folder (keeps_path w known d name s kept.rename.rename a)
        ∙ declared_folder w known path n a at in
        let own_path : v.0.path ≡ path = v.1.1.path ∙ behind.of_path ∙ to_path in
        let first = first_file w known path n a at (package_files w path) refl in
        let start : Place = record { path = first.0.0; offset = 0 } in
        let has : Contains (package_files w path) first.0 =
        subst (λ es. Contains es first.0) (sym first.1.1) (first_in first.0 first.1.0) in
        let folder_is : folder (r.moved start).path ≡ path =
        ap folder (keeps_path w known d name s kept.rename.rename start) ∙ in_folder w path first.0 has in
        let called : q.names now.user ≡ r.called place (p.names u) =
        ap (λ (k : Names). k now.user) (sym alike.names ∙ ap (λ (t : Package). t.names) one.0)
        ∙ ap relaid.0.names one.1 ∙ relaid.1.1.0.names u place begins in
        record {
          path = path;
          behind = before.behind;
          exports = record {
            other = v.0;
            is_package = v.1.0;
            goes = record { first = first.0; others = first.1.0; files = first.1.1; goes = own_path ∙ sym folder_is };
            declaration = m;
            seen = exports_same other v.0 v.1.1 m behind.seen;
            named = ap (λ (k : Names). k m) v.1.1.names ∙ behind.named ∙ called;
            exported = is_e ∙ ap (λ z. Declared z m) (to_path ∙ sym own_path);
          };
        }

    selected : (path : List ℕ) (n : ℕ) → IsQualifiedUse (IsCheckedPackage w known) p u path n → q.layout.role now.user ≡ NotLexical purpose.Selected
    selected path n h = role ∙ h.behind.selected

    by_exports : BindsQualified (IsCheckedPackage w known) p u old → BindsQualified (IsCheckedPackage x after) q now.user e →
        StaysBound (HasBecome w known r) (IsBoundByPackage w r place p u) old
    by_exports was b =
        let f = exported_as (IsCheckedPackage w known) p u old was in
        let g = exported_as (IsCheckedPackage x after) q now.user e b in
        let places : StandBoth (IsCheckedPackage w known) (IsCheckedPackage x after) r.moved old e =
        (elim (by_cases (IsCheckedPackage w known) (IsCheckedPackage x after) r.moved old e same) [
          | inl names ↦ absurd (not_predeclared old (Declared f.0 f.1.0) f.1.1.0 tt names.number names.one)
          | inr t ↦ t
        ]) in
        let before : IsDeclaredAt (IsCheckedPackage w known) (Declared f.0 f.1.0) places.place =
        subst (λ z. IsDeclaredAt (IsCheckedPackage w known) z places.place) f.1.1.0 places.old in
        let goes : IsDeclaredAt (IsCheckedPackage x after) (Declared g.0 g.1.0) (r.moved places.place) =
        subst (λ z. IsDeclaredAt (IsCheckedPackage x after) z (r.moved places.place)) g.1.1.0 places.new in
        let become : HasBecome w known r old (Declared g.0 g.1.0) =
        become_declared old g.0 g.1.0 (subst (λ z. Corresponds (IsCheckedPackage w known) (IsCheckedPackage x after) r.moved old z) g.1.1.0 same) in
        record {
          declaration = e;
          bound = exports f.0 f.1.0 f.1.1.1 f.1.1.0 g.0 g.1.0 g.1.1.0 g.1.1.1 places.place before goes;
          become = subst (λ z. HasBecome w known r old z) (sym g.1.1.0) become;
        }

    path_same : q.path ≡ p.path
    path_same = sym alike.path ∙ ap (λ (t : Package). t.path) one.0 ∙ relaid.1.1.0.path

    pub stays_by_package : BindsQualified (IsCheckedPackage w known) p u old → StaysBound (HasBecome w known r) (IsBoundByPackage w r place p u) old
    stays_by_package was = by_way now.bound
      where
        f : (path : List ℕ) × ((n : ℕ) × ((old ≡ Declared path n) × IsQualifiedUse (IsCheckedPackage w known) p u path n))
        f = exported_as (IsCheckedPackage w known) p u old was

        at : q.layout.role now.user ≡ NotLexical purpose.Selected
        at = selected f.0 f.1.0 f.1.1.1

        by_way : uses.IsBoundToDeclaration x after q now.user e → StaysBound (HasBecome w known r) (IsBoundByPackage w r place p u) old
        by_way (binds.by_scope b) =
            let n = number_bound q now.user e b in
            absurd (never_bound q.layout q.names now.user n.0 purpose.Selected at n.1)
        by_way (binds.by_package b) = by_exports was b
        by_way (binds.by_member b) =
            absurd (qualified w known d name s after kept p q is now.is_package path_same u f.0 f.1.1.1.behind e (subst (λ v. BindsByMember q v e) one.1 b))
        by_way (binds.by_name b) =
            let member : q.layout.role now.user ≡ NotLexical purpose.Member =
            name_member x after q.path q now.is_package.is_checked now.user e now.begins.0.0 b in
            let same : NotLexical purpose.Member ≡ NotLexical purpose.Selected = sym member ∙ at in
            let z : ⊥ = cc in absurd z

  pub none_lost : KeepsMembers w known r → NoneIsLost w known r
  none_lost members place p is u begins =
      let kept_at : (old : Declaration) → uses.IsBoundToDeclaration w known p u old →
      IsBoundToOne x after (r.moved place) (λ e. Corresponds (IsCheckedPackage w known) (IsCheckedPackage x after) r.moved old e) =
      (λ old b. kept.kept.keeps place old (record { used_in = p; is_package = is; user = u; begins = begins; bound = b })) in
      let stay = members p is u place begins in
      record {
        by_scope = λ old was. let k = kept_at old (binds.by_scope was) in stays_by_scope p is u place begins old k.declaration k.is_use k.holds was;
        by_package = λ old was. let k = kept_at old (binds.by_package was) in stays_by_package p is u place begins old k.declaration k.is_use k.holds was;
        by_member = stay.0;
        by_name = stay.1;
      }

pub members_lose_none : KeptPackagesAreRelaid → FaultlessPackagesAreScoped → SelectorsStayQualified → PreservedByMembers
members_lose_none relaid scoped qualified w known d name s rename k members =
    let r = revision_of w s in
    let keeps : KeepsBindings w known r k.after = kept_for w k.before known k.right rename.rename.right r k.after k.kept in
    let kept : IsKeptRename w known d name s k.after = record { rename = rename; right = k.right_after; sound = k.sound; kept = keeps } in
    none_lost relaid scoped qualified w known d name s k.after kept (members kept)
