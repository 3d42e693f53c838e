-- In a workspace without faults, `N` in a qualified identifier `q.N` is bound to what the package of `q` exports.
use Rattle.std.proofs.Common.{ℕ, suc, ◌≡◌, ◌<◌, inl, inr, Bool, true, false, List, [], length, map, ap, sym, subst, refl, ◌∙◌, arith}
use Rattle.std.specs.Prelude.{Contains, Option, Some, None, is_some, slice_get}
use Rattle.std.proofs.lemmas.Bool.{cases_Bool, cases_lt, true≢false}
use Rattle.std.proofs.lemmas.Option.{same_Some}
use Rattle.base_files.specs.Packages.{package_paths}
use Rattle.base_files.specs.Workspace.{Workspace}
use Rattle.base_files.specs.declared.fault_kind.FaultKind.{FaultKind}
use Rattle.base_files.specs.declared.fault_kind.FaultKind.TheVariants as fault
use Rattle.go_ast.specs.declared.syntax.Kind.TheVariants as kind
use Rattle.go_ast.specs.declared.syntax.Token.{Token}
use Rattle.go_ast.specs.Kinds.{kinds_of}
use Rattle.go_ast.specs.SourceFile.{FileParts}
use Rattle.go_scope.specs.declared.model.Position.{Position}
use Rattle.go_scope.specs.Bindings.{Layout, IsIdentifier}
use Rattle.go_scope.specs.SpelledFiles.{spelled_file}
use Rattle.go_scope.specs.Packages.{scoped, layout_in}
use Rattle.go_scope.specs.Table.{LiesAt}
use Rattle.types_declared.specs.Laid.{is_exported}
use Rattle.types_resolve.specs.Scoping.{IsQualified, qualified_fault}
use Rattle.law_tokens.specs.Order.{ComesBefore, StandInOrder}
use Rattle.law_tokens.specs.Roles.{IsOfKind}
use Rattle.go_scope.specs.IdentifierTokens.{is_header_name}
use Rattle.law_tokens.proofs.HeldBytes.{numbered_files}
use Rattle.law_tokens.proofs.Ordered.{package_ordered, named_ordered}
use Rattle.law_tokens.proofs.OwnPaths.{package_sources}
use Rattle.law_tokens.proofs.Roles.{of_kind}
use Rattle.types_declared.specs.Package.{Package, ExportData, Export, laid_of}
use Rattle.types_check.specs.Check.{exports_in}
use Rattle.types_check.specs.Exports.{DoesExport, IsExported}
use Rattle.workspace_check.specs.FaultLists.{ListsFaults}
use Rattle.workspace_check.specs.Verdicts.{Verdicts, AreVerdicts, IsSeenAs, seen, unseen, IsPackageIn}
use Rattle.workspace_check.proofs.Closed.{to_package}
use Rattle.workspace_check.proofs.OneList.{checked_package}
use Rattle.refs_binding.specs.declared.declaration.Declaration.TheVariants.{Declared}
use Rattle.types_info.specs.QualifiedIdentifiers.{IsQualifiedByPath}
use Rattle.refs_binding.specs.Binding.{by_package, IsQualifiedUse}
use Rattle.refs_binding.specs.Identifiers.{IsInFiles}
use Rattle.refs_binding.specs.Uses.{IsCheckedPackage, IsBoundToDeclaration}
use Rattle.refs_lookup.proofs.OnePlace.{names_of, laid_of as table_of, same_layout, same_size}
use Rattle.refs_lookup.proofs.Faultless.{no_fault_later}
use Rattle.refs_lookup.proofs.Headers.{marked_kind}
use Rattle.refs_lookup.proofs.LiteralNames.{next_identifier}
use Rattle.refs_binding.proofs.Alike.{package_for, bound_for}
use Rattle.refs_lookup.proofs.BoundUsedMembers.{file_at, marks_at, told_at}

module _ (w : Workspace) (known : Verdicts) (path : List ℕ) (p : Package) (h : IsPackageIn w known path p) where
  in_order : StandInOrder p.layout p.size
  in_order =
      let table = table_of w known path p h in
      let plain : StandInOrder (layout_in (scoped h.files)) (length (scoped h.files).sites) =
      package_ordered (map spelled_file h.files) (numbered_files h.files (package_sources w path h.files h.parsed)) in
      let laid : StandInOrder (layout_in table) (length table.sites) = named_ordered (names_of w known path p h) (scoped h.files) plain in
      subst (λ (l : Layout). StandInOrder l p.size) (sym (same_layout w known path p h))
      (subst (λ n. StandInOrder (layout_in table) n) (sym (same_size w known path p h)) laid)

  -- no identifier is a dot
  no_dot_at : (at : Position) (x : ℕ) → x < p.size → LiesAt p.layout at x → (t : FileParts) → slice_get h.files at.file ≡ Some t →
      IsOfKind t.cut at.index kind.Dot → ⊥
  no_dot_at at x lt stands t is dot =
      let k = marked_kind at.index (kinds_of t.cut) (marks_at w known path p h at x lt stands t is) in
      let own : IsOfKind t.cut at.index k.0 = of_kind t.cut k.0 at.index k.1.0 in
      let same : dot.0 ≡ own.0 = same_Some dot.0 own.0 (sym dot.1.0 ∙ own.1.0) in
      let is_dot : k.0 ≡ kind.Dot = sym own.1.1 ∙ ap (λ (y : Token). y.kind) (sym same) ∙ dot.1.1 in
      true≢false (sym k.1.1 ∙ ap is_header_name is_dot)

-- of identifiers round a dot the one has the next number
module _ (w : Workspace) (known : Verdicts) (path : List ℕ) (p : Package) (h : IsPackageIn w known path p) (u v before : ℕ)
    (stands : IsInFiles p u) (lt : v < p.size) (at : (p.layout.place u).index ≡ suc (suc before))
    (there : LiesAt p.layout (record { file = (p.layout.place u).file; index = before }) v) (t : FileParts)
    (is : slice_get h.files (p.layout.place u).file ≡ Some t) (dot : IsOfKind t.cut (suc before) kind.Dot) where
  not_before : ComesBefore (p.layout.place u) (p.layout.place v) → ⊥
  not_before c =
      let file : (p.layout.place v).file ≡ (p.layout.place u).file = there.1 in
      let index : (p.layout.place v).index ≡ before = there.2 in
      elim c [ inl less ↦ absurd (omega arith) | inr e ↦ (let less : (p.layout.place u).index < (p.layout.place v).index = e.1 in absurd (omega arith)) ]

  not_between : suc v < u → ⊥
  not_between less =
      let x = suc v in
      let size : u < p.size = stands.0 in
      let within : x < p.size = omega arith in
      let i : IsIdentifier p.layout x = next_identifier w known path p h v there.0 in
      let file : (p.layout.place v).file ≡ (p.layout.place u).file = there.1 in
      let index : (p.layout.place v).index ≡ before = there.2 in
      let first : ComesBefore (p.layout.place v) (p.layout.place x) = in_order w known path p h v x (omega arith) within there.0 i in
      let second : ComesBefore (p.layout.place x) (p.layout.place u) = in_order w known path p h x u less size i stands.1 in
      elim first [
        | inl a ↦ elim second [
          | inl b ↦ absurd (omega arith)
          | inr b ↦ (let e : (p.layout.place x).file ≡ (p.layout.place u).file = b.0 in absurd (omega arith))
        ]
        | inr a ↦ elim second [
          | inl b ↦ (let e : (p.layout.place v).file ≡ (p.layout.place x).file = a.0 in absurd (omega arith))
          | inr b ↦
              (let e : (p.layout.place v).index < (p.layout.place x).index = a.1 in
              let f : (p.layout.place x).index < (p.layout.place u).index = b.1 in
              let here : (p.layout.place x).index ≡ suc before = omega arith in
              no_dot_at w known path p h (record { file = (p.layout.place u).file; index = suc before }) x within (i, b.0, here) t is dot)
        ]
      ]

  one_place : u ≡ v → ⊥
  one_place e =
      let index : (p.layout.place v).index ≡ before = there.2 in
      let same : (p.layout.place u).index ≡ (p.layout.place v).index = ap (λ n. (p.layout.place n).index) e in absurd (omega arith)

  next_to : u ≡ suc v
  next_to = elim (cases_lt v u) [
    | inl behind ↦ elim (cases_lt (suc v) u) [ inl less ↦ absurd (not_between less) | inr near ↦ omega arith ]
    | inr ge ↦ elim (cases_lt u v) [
      | inl less ↦ absurd (not_before (in_order w known path p h u v less lt stands.1 there.0))
      | inr le ↦ absurd (one_place (omega arith))
    ]
  ]

module _ (w : Workspace) (known : Verdicts) (path : List ℕ) (p : Package) (h : IsPackageIn w known path p) where
  qualified : (u : ℕ) → IsInFiles p u → (q : List ℕ) (b : IsQualifiedByPath p u q) → IsQualified (laid_of p) b.named.binds.identifier u b.named.import
  qualified u stands q b =
      let t = file_at w known path p h (p.layout.place u) u stands.0 (stands.1, refl, refl) in
      let dot = (told_at w known path p h (p.layout.place u) u stands.0 (stands.1, refl, refl) t.0 t.1).selected.0 b.selected in
      let index : (p.layout.place u).index ≡ suc (suc b.before) = b.behind_dot in
      let from : suc dot.0 ≡ (p.layout.place u).index = dot.1.0 in
      let place : dot.0 ≡ suc b.before = omega arith in
      let found = b.named.binds.found in
      let before : (p.layout.place b.named.binds.identifier).index ≡ b.before = found.holds.2 in
      record {
        selected = b.selected;
        next =
            next_to w known path p h u b.named.binds.identifier b.before stands found.within b.behind_dot found.holds t.0 t.1
            (subst (λ i. IsOfKind t.0.cut i kind.Dot) place dot.1.1);
        same_file = sym found.holds.1;
        behind_dot = omega arith;
        bound = b.named.binds.bound;
        is_import = b.named.imports.is_import;
      }

-- Faults of qualified identifiers.

no_such : (x y : Bool) → y ≡ false → (k : FaultKind) × (qualified_fault x y ≡ Some k)
no_such false y e = (fault.Unexported, refl)
no_such true true e = absurd (true≢false e)
no_such true false e = (fault.Undeclared, refl)

export_found : (c : Package) (name : List ℕ) (o : Option Export) → IsExported c name o → is_some o ≡ true → (d : ℕ) × (DoesExport c d × (c.names d ≡ name))
export_found c name None h e = absurd (true≢false (sym e))
export_found c name (Some x) h e = (h.declaration, (h.by_declaration.seen, h.named))

-- a package that exports something under a name
record Exporter (w : Workspace) (known : Verdicts) (q name : List ℕ) : Type 0 where
  other : Package
  is_package : IsCheckedPackage w known other
  of_path : other.path ≡ q
  declaration : ℕ
  is_seen : DoesExport other declaration
  named : other.names declaration ≡ name

exporting : (w : Workspace) (sound : ListsFaults w []) (r q name : List ℕ) (n : Option (List ℕ)) (i : ExportData) → IsSeenAs w sound.known r q n i →
    is_some (i.exported name) ≡ true → Exporter w sound.known q name
exporting w sound r q name _ _ (seen on sees) e =
    let has = to_package w r q on.imported in
    let x = checked_package w sound q has in
    let path : x.checked.path ≡ q = ap (λ (c : Package). c.path) x.is_package.is_package.is_package in
    let d = export_found x.checked name ((sound.known q).export_data.exported name) (x.is_export_data.exported name) e in
    record {
      other = x.checked;
      is_package = record {
        of_workspace = subst (Contains (package_paths w)) (sym path) has;
        is_checked = subst (λ k. IsPackageIn w sound.known k x.checked) (sym path) x.is_package;
      };
      of_path = path;
      declaration = d.0;
      is_seen = d.1.0;
      named = d.1.1;
    }
exporting w sound r q name _ _ (unseen none) e = absurd (true≢false (sym e))

module _ (w : Workspace) (sound : ListsFaults w []) (known : Verdicts) (right : AreVerdicts w known) (p : Package) (is : IsCheckedPackage w known p) (u : ℕ)
    (stands : IsInFiles p u) (q : List ℕ) (b : IsQualifiedByPath p u q) where
  no_fault_at : (k : FaultKind) → qualified_fault (is_exported (p.names u)) (exports_in p q (p.names u)) ≡ Some k → ⊥
  no_fault_at k e =
      no_fault_later w sound known right p is (record { file = (p.layout.place u).file; token = (p.layout.place u).index; kind = k })
      (inl (inr (
        u,
        stands.0,
        record {
          before = b.named.binds.identifier;
          import = b.named.import;
          path = q;
          qualified = qualified w known p.path p is.is_checked u stands q b;
          of_path = b.named.imports.of_path;
          file = refl;
          token = refl;
          kind = e;
        },
      )))

  pub is_found : exports_in p q (p.names u) ≡ true
  is_found = elim (cases_Bool (exports_in p q (p.names u))) [
    | inl e ↦ e
    | inr e ↦ (let k = no_such (is_exported (p.names u)) (exports_in p q (p.names u)) e in absurd (no_fault_at k.0 k.1))
  ]

  pub bound_behind : (d : ℕ) × IsBoundToDeclaration w known p u (Declared q d)
  bound_behind =
      let own = package_for w known sound.known right sound.right p is in
      let h = own.is_checked in
      let export_table = ap (λ (x : Package). x.export_data_of) h.is_package.is_package in
      let test : is_some ((h.export_data_of q).exported (p.names u)) ≡ true =
      subst (λ (i : List ℕ → ExportData). is_some ((i q).exported (p.names u)) ≡ true) export_table is_found in
      let x = exporting w sound p.path q (p.names u) (h.name_of q) (h.export_data_of q) (h.are_seen q) test in
      let use_of : IsQualifiedUse (IsCheckedPackage w sound.known) p u q x.declaration =
      record { behind = b; other = x.other; is_package = x.is_package; of_path = x.of_path; seen = x.is_seen; named = x.named } in
      (x.declaration, bound_for w sound.known known sound.right right p u (Declared q x.declaration) (by_package use_of))
