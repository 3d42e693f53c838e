-- Where no identifier is lost or captured, each package is bound as it was, along the imports.
use Rattle.std.proofs.Common.{ℕ, suc, ◌≡◌, ◌<◌, ◌⊎◌, ◌↔◌, inl, inr, true, false, List, ap, sym, subst, refl, ◌∙◌}
use Rattle.std.specs.Prelude.{Contains, Option, Some, None, is_some}
use Rattle.std.proofs.lemmas.Bool.{true≢false}
use Rattle.base_files.specs.Packages.{package_paths}
use Rattle.base_files.specs.Workspace.{Workspace}
use Rattle.base_files.specs.declared.place.Place.{Place}
use Rattle.base_edits.specs.EditSet.{FileChanges, edited}
use Rattle.base_edits.specs.Revisions.{Revision}
use Rattle.base_edits.specs.RevisionsOfEdits.{revision_of}
use Rattle.go_scope.specs.declared.model.Block.TheVariants.{Universe}
use Rattle.go_scope.specs.declared.model.Block.TheVariants.{Package as PackageBlock}
use Rattle.go_scope.specs.declared.model.Position.{Position}
use Rattle.go_scope.specs.declared.model.Purpose.TheVariants as purpose
use Rattle.go_scope.specs.declared.model.Role.TheVariants.{NotLexical}
use Rattle.go_scope.specs.Bindings as scopes
use Rattle.go_scope.specs.Bindings.{Layout, Counts, IsPackageLevel, own, is_implied, may_declare}
use Rattle.go_scope.specs.WellFormed.{WellFormed}
use Rattle.go_scope.proofs.Innermost.{one_in_block}
use Rattle.go_scope.proofs.Nests.{nests}
use Rattle.go_scope.proofs.Uniqueness.{same_or_not}
use Rattle.law_changed_types.specs.SameBindings.{IsBoundAlike, IsParsedPackage, IsSelectedAt}
use Rattle.law_changed_types.proofs.Alike.{of_bound, turned}
use Rattle.law_changed_types.proofs.Meanings.{meaning}
use Rattle.law_tokens.proofs.Lexical.{never_bound}
use Rattle.law_tokens.proofs.OwnPaths.{package_sources}
use Rattle.types_declared.specs.Laid.{is_exported}
use Rattle.types_declared.specs.MeaningOf.{IsMeaningOf}
use Rattle.types_declared.specs.Package.{Package, Export, ExportData, spelled, spelled_at}
use Rattle.types_declared.specs.Written.{BindsToken, DeclaresImport}
use Rattle.types_declared.specs.ExportTablesView.{no_export_data}
use Rattle.types_declared.proofs.ByteKeys.{cases_bytes}
use Rattle.types_check.specs.Check.{exports_in}
use Rattle.types_check.specs.Exports.{DoesExport, IsExport, IsExported, IsExportData}
use Rattle.types_check.proofs.ExportParts.{one_export}
use Rattle.types_expr.specs.World.{Bound}
use Rattle.types_expr.specs.World.{Means as Stands}
use Rattle.types_info.specs.QualifiedIdentifiers.{IsQualifiedByPath}
use Rattle.types_info.specs.Uniqueness.{TokensRise}
use Rattle.types_info.proofs.OneMeaning.{has_one_meaning}
use Rattle.workspace_check.specs.Verdicts.{Verdict, Verdicts, AreVerdictsBelow, BuildsOn, IsSeenAs, IsVerdict, follows, seen, unseen}
use Rattle.workspace_check.proofs.Closed.{to_package}
use Rattle.workspace_check.proofs.OneList.{is_faultless}
use Rattle.workspace_check.proofs.OnePackage.{files_in_order, layout_formed, one_checked}
use Rattle.workspace_check.proofs.OneVerdict.{one_verdict, right_below, verdict_by}
use Rattle.workspace_check.proofs.SameImports.{builds_by, imports_back}
use Rattle.workspace_check.proofs.Underway.{builds_then}
use Rattle.refs_binding.specs.declared.declaration.Declaration.{Declaration}
use Rattle.refs_binding.specs.declared.declaration.Declaration.TheVariants.{Predeclared, Declared, Field, Method}
use Rattle.refs_binding.specs.Binding.{IsQualifiedUse, by_scope, by_package, by_member, by_name}
use Rattle.refs_binding.specs.Identifiers.{BeginsAt, IsInFiles}
use Rattle.refs_binding.specs.Uses.{IsCheckedPackage, IsBoundToDeclaration}
use Rattle.refs_lookup.proofs.ExportedNames.{bound_behind, is_found}
use Rattle.refs_lookup.proofs.OneDeclaration.{one_declaration}
use Rattle.refactor_conflict.specs.Staying.{NoneIsLost}
use Rattle.law_faultless.proofs.Declared.{spelled_so}
use Rattle.law_renamed_workspaces.specs.Layouts.{IsRelaid}
use Rattle.law_renamed_workspaces.specs.MovedExports.{AreMovedBelow}
use Rattle.law_renamed_workspaces.specs.Renames.{IsPlainRename}
use Rattle.law_renamed_workspaces.proofs.Packages.{same_imports}
use Rattle.law_renamed_workspaces.proofs.Relaid.{relaid_by}
use Rattle.law_renamed_workspaces.specs.Scopes.{PackagesAreBoundAlike, ScopedNamesStay, NamedPackagesAreBoundAlike}
use Rattle.law_renamed_workspaces.proofs.FilesAfter.{imports_stay, imports_were}
use Rattle.law_renamed_workspaces.proofs.KeptBindings.{keeps_others, predeclared_stay}
use Rattle.law_renamed_workspaces.proofs.RenamedScopesNameTokens.{is_named}
use Rattle.law_renamed_workspaces.proofs.OwnNames.{counted, in_universe, member_is_none, seen_exports}
use Rattle.law_renamed_workspaces.proofs.RenamedScopesRenamed.{bound_is_called, others_are_kept, scope_number}
use Rattle.law_renamed_workspaces.proofs.OwnNames.{own_renames}
use Rattle.law_renamed_workspaces.proofs.SameBindings.{bindings}
use Rattle.law_renamed_workspaces.proofs.ScopedAgain.{scopes_below}
use Rattle.law_renamed_workspaces.proofs.Standing.{begins_there, named_stands}
use Rattle.law_renamed_workspaces.proofs.RenamedSets.{IsBoundToSome, is_own}

-- what is seen of a package below that has no faults
seen_is : (w : Workspace) (known : Verdicts) (r q : List ℕ) (n : Option (List ℕ)) (i : ExportData) → IsSeenAs w known r q n i → BuildsOn w r q →
    (known q).faulty ≡ false → i ≡ (known q).export_data
seen_is w known r q _ _ (seen on faultless) also e = refl
seen_is w known r q _ _ (unseen none) on e = absurd (true≢false (sym (none on) ∙ e))

-- what is seen of one that is none below
unseen_is : (w : Workspace) (known : Verdicts) (r q : List ℕ) (n : Option (List ℕ)) (i : ExportData) → IsSeenAs w known r q n i →
    (BuildsOn w r q → ⊥) → i ≡ no_export_data q
unseen_is w known r q _ _ (seen on faultless) never = absurd (never on)
unseen_is w known r q _ _ (unseen none) never = refl

-- the export under a name

is_exported_as : (p : Package) → WellFormed p.layout → TokensRise p.files → (name : List ℕ) (e : Export) (o : Option Export) → IsExported p name o →
    IsExport p name e → o ≡ Some e
is_exported_as p formed rising name e None h k = absurd (h e k)
is_exported_as p formed rising name e (Some x) h k = ap Some (one_export p (has_one_meaning p formed rising) name x e h k)

export_of : (p : Package) (name : List ℕ) (e : Export) (o : Option Export) → IsExported p name o → o ≡ Some e → IsExport p name e
export_of p name e o h is = subst (IsExported p name) is h

-- a declaration that two packages export under their names, with one meaning
export_follows : (c b : Package) → WellFormed c.layout → WellFormed b.layout → TokensRise b.files → (k : ℕ) → DoesExport c k → DoesExport b k →
    (x y : List ℕ) → c.names k ≡ x → b.names k ≡ y → (o u : Option Export) → IsExported c x o → IsExported b y u →
    ((m : Bound) → IsMeaningOf c k m → IsMeaningOf b k m) → (e : Export) → o ≡ Some e → u ≡ Some e
export_follows c b formed also rising k does too x y named called o u h g means e is =
    let one = export_of c x e o h is in
    let same : one.declaration ≡ k =
    one_in_block c.layout (nests c.layout formed) c.names one.declaration k one.by_declaration.seen.counts does.counts (one.named ∙ sym named)
    (one.by_declaration.seen.package_level ∙ sym does.package_level) in
    is_exported_as b also rising y e u g (record {
      declaration = k;
      named = called;
      by_declaration = record { seen = too; means = means (Stands e.meaning) (subst (λ n. IsMeaningOf c n (Stands e.meaning)) same one.by_declaration.means) };
    })

-- a declaration is that one, or another
is_declared : (x : Declaration) (path : List ℕ) (n : ℕ) → (x ≡ Declared path n) ⊎ (x ≡ Declared path n → ⊥)
is_declared (Predeclared k) path n = inr (λ e. cc)
is_declared (Declared other k) path n = elim (cases_bytes other path) [
  | inl same ↦ elim (same_or_not k n) [
    | inl number ↦ inl (ap (λ r. Declared r k) same ∙ ap (Declared path) number)
    | inr differ ↦ inr (λ e. differ (let z : k ≡ n = cc in z))
  ]
  | inr differ ↦ inr (λ e. differ (let z : other ≡ path = cc in z))
]
is_declared (Field k) path n = inr (λ e. cc)
is_declared (Method k) path n = inr (λ e. cc)

-- what is behind the name of a package

spelled_selected : (w : Workspace) (known : Verdicts) (p : Package) → IsCheckedPackage w known p → (u : ℕ) → u < p.size →
    p.layout.role u ≡ NotLexical purpose.Selected → spelled p (p.layout.place u).file (p.layout.place u).index ≡ p.names u
spelled_selected w known p is u lt role =
    let x = named_stands w known p.path p is.is_checked u lt (ap is_named role) in
    ap (λ o. spelled_at o (p.layout.place u).index) x.of_rank
    ∙ sym (spelled_so w known p.path p is.is_checked u lt (ap is_implied role) (ap may_declare role) x.source x.of_rank)

module _ (w : Workspace) (before after : Verdicts) (d : Declaration) (name : List ℕ) (s : FileChanges) (h : IsPlainRename w before d name s)
    (lost : ScopedNamesStay w before (revision_of w s)) where
  abbrev v : Workspace
  v = edited s w

  before_faultless : (r : List ℕ) → Contains (package_paths w) r → (before r).faulty ≡ false
  before_faultless r has =
      (one_verdict w r (before r) (h.rename.sound.known r) (h.rename.right r has) (h.rename.sound.right r has)).faulty ∙ is_faultless w h.rename.sound r has

  -- the export data of a package

  old_exports : (c : Package) → IsCheckedPackage w before c → IsExportData c (before c.path).export_data
  old_exports c is =
      let has = is.of_workspace in
      let x = (verdict_by w c.path before (before c.path) (right_below w before h.rename.right c.path) (h.rename.right c.path has)).has_export_data
      (before_faultless c.path has) in
      subst (λ y. IsExportData y (before c.path).export_data) (one_checked w before c.path x.checked c x.is_package is.is_checked) x.is_export_data

  new_exports : (b : Package) → IsCheckedPackage v after b → AreVerdictsBelow v b.path after → IsVerdict v b.path (after b.path) →
      (after b.path).faulty ≡ false →
      IsExportData b (after b.path).export_data
  new_exports b also below right faultless =
      let x = (verdict_by v b.path after (after b.path) below right).has_export_data faultless in
      subst (λ y. IsExportData y (after b.path).export_data) (one_checked v after b.path x.checked b x.is_package also.is_checked) x.is_export_data

  moved_then : (p r : List ℕ) → BuildsOn w p r → AreMovedBelow w before after p → AreMovedBelow w before after r
  moved_then p r on under = record {
    sound = record {
      faultless = λ q more. under.sound.faultless q (builds_then w p r q on more);
      named = λ q more. under.sound.named q (builds_then w p r q on more);
    };
    moved = λ q more. under.moved q (builds_then w p r q on more);
  }

  module _ (p q : Package) (right : AreVerdictsBelow v p.path after) (is : IsCheckedPackage w before p) (also : IsCheckedPackage v after q)
      (relaid : IsRelaid (revision_of w s) p q) (under : AreMovedBelow w before after p.path) where
    right_too : AreVerdictsBelow v q.path after
    right_too = subst (λ path. AreVerdictsBelow v path after) (sym relaid.path) right

    -- what is seen of the packages below

    builds_after : (r : List ℕ) → BuildsOn w p.path r → BuildsOn v q.path r
    builds_after r on = subst (λ x. BuildsOn v x r) (sym relaid.path) (builds_by w v (same_imports w before d name s h) p.path r on)

    builds_before : (r : List ℕ) → BuildsOn v q.path r → BuildsOn w p.path r
    builds_before r on =
        builds_by v w (imports_back w v (same_imports w before d name s h)) p.path r (subst (λ x. BuildsOn v x r) relaid.path on)

    seen_before : (r : List ℕ) → BuildsOn w p.path r → p.export_data_of r ≡ (before r).export_data
    seen_before r on =
        ap (λ (x : Package). x.export_data_of r) is.is_checked.is_package.is_package
        ∙ seen_is w before p.path r (is.is_checked.name_of r) (is.is_checked.export_data_of r) (is.is_checked.are_seen r) on
        (before_faultless r (to_package w p.path r on.imported))

    seen_after : (r : List ℕ) → BuildsOn w p.path r → q.export_data_of r ≡ (after r).export_data
    seen_after r on =
        ap (λ (x : Package). x.export_data_of r) also.is_checked.is_package.is_package
        ∙ seen_is v after q.path r (also.is_checked.name_of r) (also.is_checked.export_data_of r) (also.is_checked.are_seen r) (builds_after r on)
        (under.sound.faultless r on)

    -- a name behind the name of a package

    module _ (lower : (r : List ℕ) → BuildsOn w p.path r → (c b : Package) → IsCheckedPackage w before c → IsCheckedPackage v after b → c.path ≡ r →
        IsRelaid (revision_of w s) c b → IsBoundAlike c b) (u k : ℕ) (path : List ℕ) (inside : IsInFiles p u)
        (use_of : IsQualifiedUse (IsCheckedPackage w before) p u path k) (on : BuildsOn w p.path path) where
      abbrev c : Package
      c = use_of.other

      abbrev role : p.layout.role u ≡ NotLexical purpose.Selected
      role = use_of.behind.selected

      there : (place : Place) × BeginsAt p place.path place.offset u
      there = begins_there p u inside.0 (ap is_implied role) (named_stands w before p.path p is.is_checked u inside.0 (ap is_named role))

      bound : IsBoundToDeclaration w before p u (Declared path k)
      bound = by_package use_of

      -- afterwards it has an exported name
      exported_after : is_exported (q.names u) ≡ true
      exported_after =
          let e = ((lost there.0 p is u there.1).by_package (Declared path k) use_of).bound.exports in
          ap is_exported (relaid.names u there.0 there.1 ∙ sym e.named) ∙ e.seen.exported

      builds_c : BuildsOn w p.path c.path
      builds_c = subst (BuildsOn w p.path) (sym use_of.of_path) on

      relaid_c : (b : Package) × (IsCheckedPackage v after b × IsRelaid (revision_of w s) c b)
      relaid_c = relaid_by w before after d name s h c use_of.is_package (moved_then p.path c.path builds_c under).sound

      module _ (b : Package) (is_b : IsCheckedPackage v after b) (relaid_b : IsRelaid (revision_of w s) c b) where
        alike : IsBoundAlike c b
        alike = lower path on c b use_of.is_package is_b use_of.of_path relaid_b

        counts : Counts c.layout c.names k
        counts = use_of.seen.counts

        -- both get the new name, or neither does
        same_name : b.names k ≡ q.names u
        same_name = elim (is_declared d path k) [
          | inl e ↦
              (own_renames w before path k name s (subst (λ x. IsPlainRename w before x name s) e h) c b use_of.is_package use_of.of_path
              relaid_b).renaming.renamed k
              (own refl counts)
              ∙ sym (bound_is_called w before d name s h p q is relaid u there.0 there.1 (record {
                declaration = d;
                among = h.rename.is_set.has_it;
                bound = subst (IsBoundToDeclaration w before p u) (sym e) bound;
              }))
          | inr other ↦
              others_are_kept w before d name s h c b use_of.is_package relaid_b k (λ in_c some. not_own other in_c some)
              ∙ use_of.named
              ∙ sym (others_are_kept w before d name s h p q is relaid u
              (λ in_p some. other (is_own w before d name s h (Declared path k) some.declaration some.among (λ m. m)
              (one_declaration w before p is u in_p some.declaration (Declared path k) some.bound bound))))
        ]
          where
            not_own : (d ≡ Declared path k → ⊥) → IsInFiles c k → IsBoundToSome w before h.rename.set c k → ⊥
            not_own other in_c some = elim (scope_number c k k (own refl counts)) [
              | inl x ↦
                  let z : Universe ≡ PackageBlock = sym (in_universe w before c.path c use_of.is_package.is_checked k x.0) ∙ use_of.seen.package_level in
                  let wrong : ⊥ = cc in wrong
              | inr x ↦
                  other (is_own w before d name s h (Declared c.path k) some.declaration some.among (λ m. m)
                  (one_declaration w before c use_of.is_package k in_c some.declaration (Declared c.path k) some.bound (by_scope x))
                  ∙ ap (λ r. Declared r k) use_of.of_path)
            ]

        does : DoesExport b k
        does = record {
          package_level = ap (λ (l : Layout). scopes.block_of (l.role k)) relaid_b.layout ∙ use_of.seen.package_level;
          counts = subst (λ (l : Layout). Counts l b.names k) (sym relaid_b.layout) (counted c.layout b.names k k ((alike.bindings k k).0 (own refl counts)));
          exported = ap is_exported same_name ∙ exported_after;
        }

        formed_c : WellFormed c.layout
        formed_c = layout_formed w before c.path c use_of.is_package.is_checked

        formed_b : WellFormed b.layout
        formed_b = layout_formed v after b.path b is_b.is_checked

        faultless_b : (after b.path).faulty ≡ false
        faultless_b = ap (λ r. (after r).faulty) (relaid_b.path ∙ use_of.of_path) ∙ under.sound.faultless path on

        builds_b : BuildsOn v p.path b.path
        builds_b = subst (BuildsOn v p.path) (sym relaid_b.path) (builds_by w v (same_imports w before d name s h) p.path c.path builds_c)

        is_right_b : IsVerdict v b.path (after b.path)
        is_right_b = right b.path builds_b

        right_b : AreVerdictsBelow v b.path after
        right_b = λ o more. right o (builds_then v p.path b.path o builds_b more)

        f : Option Export
        f = (before c.path).export_data.exported (p.names u)

        g : Option Export
        g = (after b.path).export_data.exported (q.names u)

        f_is : IsExported c (p.names u) f
        unfolding f
        f_is = (old_exports c use_of.is_package).exported (p.names u)

        g_is : IsExported b (q.names u) g
        unfolding g
        g_is = (new_exports b is_b right_b is_right_b faultless_b).exported (q.names u)

        both : (e : Export) → (f ≡ Some e) ↔ (g ≡ Some e)
        both e = (
          export_follows c b formed_c formed_b (files_in_order v after b.path b is_b.is_checked) k use_of.seen does (p.names u) (q.names u)
              use_of.named same_name
              f g f_is g_is (λ m. meaning c b (of_bound c b alike) k m) e,
          export_follows b c formed_b formed_c (files_in_order w before c.path c use_of.is_package.is_checked) k does use_of.seen (q.names u) (p.names u)
              same_name use_of.named
              g f g_is f_is (λ m. meaning b c (turned c b (of_bound c b alike)) k m) e,
        )

        pub sees_same : (e : Export) → ((p.export_data_of path).exported (p.names u) ≡ Some e) ↔ ((q.export_data_of path).exported (q.names u) ≡ Some e)
        unfolding f g
        sees_same e =
            let old : (p.export_data_of path).exported (p.names u) ≡ (before c.path).export_data.exported (p.names u) =
            ap (λ (i : ExportData). i.exported (p.names u)) (seen_before path on)
            ∙ ap (λ r. (before r).export_data.exported (p.names u)) (sym use_of.of_path) in
            let new : (q.export_data_of path).exported (q.names u) ≡ (after b.path).export_data.exported (q.names u) =
            ap (λ (i : ExportData). i.exported (q.names u)) (seen_after path on)
            ∙ ap (λ r. (after r).export_data.exported (q.names u)) (sym (relaid_b.path ∙ use_of.of_path)) in (
              (λ is. new ∙ (both e).0 (sym old ∙ is)),
              (λ is. old ∙ (both e).1 (sym new ∙ is)),
            )

      same_exports : (e : Export) → ((p.export_data_of path).exported (p.names u) ≡ Some e) ↔ ((q.export_data_of path).exported (q.names u) ≡ Some e)
      same_exports e = let b = relaid_c in sees_same b.0 b.1.0 b.1.1 e

    -- an export behind the name of a package

    module _ (lower : (r : List ℕ) → BuildsOn w p.path r → (c b : Package) → IsCheckedPackage w before c → IsCheckedPackage v after b → c.path ≡ r →
        IsRelaid (revision_of w s) c b → IsBoundAlike c b) where
      qualified : (u : ℕ) (path : List ℕ) → IsInFiles p u → IsQualifiedByPath p u path → (k : ℕ) → IsBoundToDeclaration w before p u (Declared path k) →
          IsQualifiedUse (IsCheckedPackage w before) p u path k
      qualified u path inside behind k (by_package x) = x
      qualified u path inside behind k (by_scope x) = absurd (never_bound p.layout p.names u k purpose.Selected behind.selected x.2)
      qualified u path inside behind k (by_member x) = absurd (member_is_none x.member path k x.declares)
      qualified u path inside behind k (by_name x) = absurd x

      builds : (u : ℕ) (path : List ℕ) → IsInFiles p u → IsQualifiedByPath p u path → BuildsOn w p.path path
      builds u path inside behind =
          let found : exports_in p path (p.names u) ≡ true = is_found w h.rename.sound before h.rename.right p is u inside path behind in
          let test : is_some ((is.is_checked.export_data_of path).exported (p.names u)) ≡ true =
          subst (λ (i : List ℕ → ExportData). is_some ((i path).exported (p.names u)) ≡ true)
          (ap (λ (x : Package). x.export_data_of) is.is_checked.is_package.is_package) found in
          seen_exports w before p.path path (p.names u) (is.is_checked.name_of path) (is.is_checked.export_data_of path) (is.is_checked.are_seen path) test

      sees_u : (u : ℕ) (path : List ℕ) → IsInFiles p u → IsQualifiedByPath p u path → (e : Export) →
          ((p.export_data_of path).exported (p.names u) ≡ Some e) ↔ ((q.export_data_of path).exported (q.names u) ≡ Some e)
      sees_u u path inside behind e =
          let k = bound_behind w h.rename.sound before h.rename.right p is u inside path behind in
          same_exports lower u k.0 path inside (qualified u path inside behind k.0 k.1) (builds u path inside behind) e

      sees : (x file token : ℕ) (path : List ℕ) (e : Export) → BindsToken p file token x → DeclaresImport p x path → IsSelectedAt p file (suc (suc token)) →
          ((p.export_data_of path).exported (spelled p file (suc (suc token))) ≡ Some e)
          ↔ ((q.export_data_of path).exported (spelled q file (suc (suc token))) ≡ Some e)
      sees x file token path e binds imports selected =
          let u = selected.identifier in
          let at = selected.found.holds in
          let inside : IsInFiles p u = (selected.found.within, at.0) in
          let behind : IsQualifiedByPath p u path = record {
            selected = selected.selected;
            before = token;
            behind_dot = at.2;
            named = record { import = x; binds = subst (λ n. BindsToken p n token x) (sym at.1) binds; imports = imports };
          } in
          let lt : u < q.size = subst (λ n. u < n) (sym relaid.size) selected.found.within in
          let role : q.layout.role u ≡ NotLexical purpose.Selected = ap (λ (l : Layout). l.role u) relaid.layout ∙ selected.selected in
          let old : spelled p file (suc (suc token)) ≡ p.names u =
          ap (λ n. spelled p n (suc (suc token))) (sym at.1) ∙ ap (spelled p (p.layout.place u).file) (sym at.2)
          ∙ spelled_selected w before p is u selected.found.within selected.selected in
          let place : q.layout.place u ≡ p.layout.place u = ap (λ (l : Layout). l.place u) relaid.layout in
          let new : spelled q file (suc (suc token)) ≡ q.names u =
          ap (λ n. spelled q n (suc (suc token))) (sym at.1) ∙ ap (spelled q (p.layout.place u).file) (sym at.2)
          ∙ ap (λ (a : Position). spelled q a.file a.index) (sym place) ∙ spelled_selected v after q also u lt role in
          let both = sees_u u path inside behind e in (
            (λ is. ap (q.export_data_of path).exported new ∙ both.0 (ap (p.export_data_of path).exported (sym old) ∙ is)),
            (λ is. ap (p.export_data_of path).exported old ∙ both.1 (ap (q.export_data_of path).exported (sym new) ∙ is)),
          )

      -- underlying types

      underlying_below : (r : List ℕ) → BuildsOn w p.path r → (rank : ℕ) →
          ((q.export_data_of r).definition rank).underlying ≡ ((p.export_data_of r).definition rank).underlying
      underlying_below r on rank =
          ap (λ (i : ExportData). (i.definition rank).underlying) (seen_after r on)
          ∙ (under.moved r on).underlying rank
          ∙ sym (ap (λ (i : ExportData). (i.definition rank).underlying) (seen_before r on))

      by_seen : (r : List ℕ) (n : Option (List ℕ)) (i : ExportData) → IsSeenAs w before p.path r n i → (rank : ℕ) →
          ((q.export_data_of r).definition rank).underlying ≡ ((p.export_data_of r).definition rank).underlying
      by_seen r _ _ (seen on faultless) rank = underlying_below r on rank
      by_seen r _ _ (unseen none) rank =
          let never : BuildsOn w p.path r → ⊥ = λ on.
          true≢false (sym (none on) ∙ before_faultless r (to_package w p.path r on.imported)) in
          let old : p.export_data_of r ≡ no_export_data r =
          ap (λ (x : Package). x.export_data_of r) is.is_checked.is_package.is_package
          ∙ unseen_is w before p.path r (is.is_checked.name_of r) (is.is_checked.export_data_of r) (is.is_checked.are_seen r) never in
          let new : q.export_data_of r ≡ no_export_data r =
          ap (λ (x : Package). x.export_data_of r) also.is_checked.is_package.is_package
          ∙ unseen_is v after q.path r (also.is_checked.name_of r) (also.is_checked.export_data_of r) (also.is_checked.are_seen r)
          (λ on. never (builds_before r on)) in
          ap (λ (i : ExportData). (i.definition rank).underlying) (new ∙ sym old)

      parsed : IsParsedPackage p
      parsed = record {
        path = p.path;
        files = is.is_checked.files;
        sources = package_sources w p.path is.is_checked.files is.is_checked.parsed;
        name_of = is.is_checked.name_of;
        export_data_of = is.is_checked.export_data_of;
        is_package = is.is_checked.is_package;
      }

      pub bound_alike : IsBoundAlike p q
      bound_alike = record {
        path = relaid.path;
        size = relaid.size;
        layout = relaid.layout;
        trees = relaid.trees;
        bindings = bindings w before d name s h p q is relaid
            (keeps_others w before after d name s h p q is also relaid
            (scopes_below w before after d name s h p q right_too is also relaid.path under.sound) lost);
        predeclared = predeclared_stay w before after d name s h p q is also relaid;
        imports = λ x path. (
          imports_stay w before after d name s h p q is also relaid.path relaid.layout x path,
          imports_were w before after d name s h p q is also relaid.path relaid.layout x path,
        );
        parsed = parsed;
        sees = sees;
        underlying = λ r rank. by_seen r (is.is_checked.name_of r) (is.is_checked.export_data_of r) (is.is_checked.are_seen r) rank;
      }

  -- along the imports
  alike_by : (path : List ℕ) (x : Verdict) → IsVerdict w path x → (p q : Package) → AreVerdictsBelow v p.path after → IsCheckedPackage w before p →
      IsCheckedPackage v after q → p.path ≡ path → IsRelaid (revision_of w s) p q → AreMovedBelow w before after p.path → IsBoundAlike p q
  alike_by path x (follows known below by) p q right is also e relaid under =
      bound_alike p q right is also relaid under
      (λ r on c b is_c is_b here relaid_c.
      let builds : BuildsOn w p.path c.path = subst (BuildsOn w p.path) (sym here) on in
      let then : BuildsOn v p.path c.path = builds_by w v (same_imports w before d name s h) p.path c.path builds in
      alike_by r (known r) (below r (subst (λ z. BuildsOn w z r) e on)) c b (λ o more. right o (builds_then v p.path c.path o then more)) is_c is_b here
      relaid_c (moved_then p.path c.path builds under))

-- by right verdicts on what the package builds on alone
named_below : (w : Workspace) (before after : Verdicts) (d : Declaration) (name : List ℕ) (s : FileChanges) → IsPlainRename w before d name s →
    ScopedNamesStay w before (revision_of w s) → (p q : Package) → AreVerdictsBelow (edited s w) p.path after → IsCheckedPackage w before p →
    IsCheckedPackage (edited s w) after q → IsRelaid (revision_of w s) p q → AreMovedBelow w before after p.path → IsBoundAlike p q
named_below w before after d name s h lost p q right is also relaid under =
    alike_by w before after d name s h lost p.path (before p.path) (h.rename.right p.path is.of_workspace) p q right is also refl relaid under

names_stay : (w : Workspace) (before : Verdicts) (r : Revision) → NoneIsLost w before r → ScopedNamesStay w before r
names_stay w before r none place p is u begins =
    let stays = none place p is u begins in record { by_scope = stays.by_scope; by_package = stays.by_package }

pub alike_below : (w : Workspace) (before after : Verdicts) (d : Declaration) (name : List ℕ) (s : FileChanges) → IsPlainRename w before d name s →
    NoneIsLost w before (revision_of w s) → (p q : Package) → AreVerdictsBelow (edited s w) p.path after → IsCheckedPackage w before p →
    IsCheckedPackage (edited s w) after q → IsRelaid (revision_of w s) p q → AreMovedBelow w before after p.path → IsBoundAlike p q
alike_below w before after d name s h none p q right is also relaid under =
    named_below w before after d name s h (names_stay w before (revision_of w s) none) p q right is also relaid under

-- by right verdicts on all packages
pub named_packages_alike : NamedPackagesAreBoundAlike
named_packages_alike w before after d name s h right lost p q is also relaid under =
    named_below w before after d name s h lost p q (right_below (edited s w) after right p.path) is also relaid under

pub packages_alike : PackagesAreBoundAlike
packages_alike w before after d name s h right none p q is also relaid under =
    alike_below w before after d name s h none p q (right_below (edited s w) after right p.path) is also relaid under
