-- Where no identifier is lost or captured, each identifier of a package that is no import stays bound to its declaration.
use Rattle.std.proofs.Common.{ℕ, ◌≡◌, ◌<◌, ◌⊎◌, inl, inr, true, false, List, ap, sym, subst, refl, ◌∙◌}
use Rattle.std.specs.Prelude.{slice_get}
use Rattle.std.proofs.lemmas.Bool.{cases_Bool, true≢false}
use Rattle.base_files.specs.Path.{folder}
use Rattle.base_files.specs.Workspace.{Workspace}
use Rattle.base_files.specs.declared.place.Place.{Place}
use Rattle.base_edits.specs.EditSet.{FileChanges, edited}
use Rattle.base_edits.specs.Moved.{moved}
use Rattle.base_edits.specs.RevisionsOfEdits.{revision_of}
use Rattle.go_ast.specs.SourceFile.{source_of}
use Rattle.go_scope.specs.declared.model.Block.TheVariants.{Universe, File}
use Rattle.go_scope.specs.declared.model.Role.{Role}
use Rattle.go_scope.specs.declared.model.Role.TheVariants.{Use, Declaring, LeftName, Implied, NotLexical}
use Rattle.go_scope.specs.Bindings as scopes
use Rattle.go_scope.specs.Bindings.{Layout, IsImport, Counts, use_bound, own, block_of, is_implied, is_left_name, is_use, may_declare}
use Rattle.go_scope.specs.FileSites.{universe}
use Rattle.law_rename.specs.Renaming.{KeepsOtherBindings}
use Rattle.types_declared.specs.Laid.{literal_of}
use Rattle.types_declared.specs.Package.{Package}
use Rattle.types_declared.specs.ExportTablesView.{no_export_data}
use Rattle.workspace_check.specs.Verdicts.{Verdicts}
use Rattle.refs_binding.specs.declared.declaration.Declaration.{Declaration}
use Rattle.refs_binding.specs.declared.declaration.Declaration.TheVariants.{Predeclared, Declared, Field, Method}
use Rattle.refs_binding.specs.Binding.{BindsByScope}
use Rattle.refs_binding.specs.DeclaringPlaces.{TokenAt, HasDeclarationAt, IsDeclaredAt}
use Rattle.refs_binding.specs.Identifiers.{BeginsAt}
use Rattle.refs_binding.specs.Uses.{IsCheckedPackage}
use Rattle.refs_binding.proofs.Folders.{begins_in_folder}
use Rattle.refs_binding.proofs.Units.{one_package}
use Rattle.refs_lookup.proofs.OnePlace.{one_begins}
use Rattle.refs_places.proofs.Starts.{token_once}
use Rattle.refactor_conflict.specs.Corresponding.{Corresponds}
use Rattle.refactor_conflict.proofs.Becoming.{by_cases}
use Rattle.refactor_conflict.specs.ScopeBindings.{IsScopeUse}
use Rattle.refactor_conflict.specs.ScopedPackages.{IsScopedIn}
use Rattle.law_faultless.proofs.Declared.{given, old_site, new_site, role_is, kept, may_within, told_identifies, told_universe}
use Rattle.law_faultless.proofs.FilesDecided.{IsGlobal}
use Rattle.law_faultless.proofs.Numbers.{OfKind, IsTold, IsKept, universal, plain, laid}
use Rattle.law_renamed_workspaces.specs.Layouts.{IsRelaid}
use Rattle.law_renamed_workspaces.specs.Renames.{IsPlainRename}
use Rattle.law_renamed_workspaces.specs.Scopes.{ScopedNamesStay}
use Rattle.law_renamed_workspaces.proofs.Apart.{name_token, one_of_literal, one_stands, literal_stands, scoped_in_folder}
use Rattle.law_renamed_workspaces.proofs.FilesAfter.{path_stays, token_moves}
use Rattle.law_renamed_workspaces.proofs.OwnNames.{bound_within}
use Rattle.law_renamed_workspaces.proofs.RenamedScopesRenamed.{scope_number}
use Rattle.law_renamed_workspaces.proofs.SameNames.{left_roles}
use Rattle.law_renamed_workspaces.proofs.Standing.{begins_there, use_stands, declared_stands}

-- the package as scopes see it, without the export data of others
abbrev pub scoped_of : Package → Package
scoped_of q = record { path = q.path; files = q.files; layout = q.layout; names = q.names; size = q.size; export_data_of = no_export_data }

-- roles

implied_is : (r : Role) → is_implied r ≡ true → (may_declare r ≡ true) × ((is_use r ≡ false) × (is_left_name r ≡ false))
implied_is (Implied b start) e = (refl, (refl, refl))
implied_is (Declaring b start) e = absurd (true≢false (sym e))
implied_is (LeftName b start) e = absurd (true≢false (sym e))
implied_is Use e = absurd (true≢false (sym e))
implied_is (NotLexical p) e = absurd (true≢false (sym e))

-- what is bound is a use or may declare
pub lexical : (l : Layout) (names : scopes.Names) (u e : ℕ) → scopes.IsBoundTo l names u e → (is_use (l.role u) ≡ true) ⊎ (may_declare (l.role u) ≡ true)
lexical l names u e (use_bound used b) = elim used [ inl use_of ↦ inl use_of | inr left ↦ inr (left_roles (l.role u) left.0).0 ]
lexical l names u e (own same c) = inr (ap (λ k. may_declare (l.role k)) same ∙ c.declares.may)

-- an identifier of a file that is no import, and is a use or may declare
pub record IsPlain (l : Layout) (u : ℕ) : Type 0 where
  pub identifies : is_implied (l.role u) ≡ false
  pub no_import : IsImport l u → ⊥
  pub is_lexical : (is_use (l.role u) ≡ true) ⊎ (may_declare (l.role u) ≡ true)

pub plain_stands : (w : Workspace) (known : Verdicts) (p : Package) → IsCheckedPackage w known p → (u : ℕ) → u < p.size → IsPlain p.layout u →
    (place : Place) × BeginsAt p place.path place.offset u
plain_stands w known p is u lt x = begins_there p u lt x.identifies (elim x.is_lexical [
  | inl use_of ↦ use_stands w known p.path p is.is_checked u lt use_of
  | inr may ↦ declared_stands w known p.path p is.is_checked u lt may x.identifies (λ laid import. x.no_import import)
])

-- the predeclared names

module _ (w : Workspace) (known : Verdicts) (p : Package) (is : IsCheckedPackage w known p) where
  abbrev Kept : ℕ → Type 0
  Kept u = IsKept (IsTold 0 is.is_checked.files) universe (given w known p.path p is.is_checked u) (old_site w known p.path p is.is_checked u)
      (new_site w known p.path p is.is_checked u)

  role_of : (u : ℕ) → p.layout.role u ≡ (new_site w known p.path p is.is_checked u).role
  role_of u = role_is w known p.path p is.is_checked u

  implied_block : (u : ℕ) → u < p.size → is_implied (p.layout.role u) ≡ true → block_of (p.layout.role u) ≡ Universe
  implied_block u lt implied = by_kind (kept w known p.path p is.is_checked u lt)
    where
      by_kind : Kept u → block_of (p.layout.role u) ≡ Universe
      by_kind (universal r n) = ap block_of (role_of u ∙ r)
      by_kind (plain e t) =
          absurd (true≢false (sym implied ∙ ap is_implied (role_of u)
          ∙ told_identifies (OfKind t.file.cut) (IsGlobal (source_of t.file).tree.decls) (Unit {0}) (new_site w known p.path p is.is_checked u).place.index
          (new_site w known p.path p is.is_checked u).role t.told))
      by_kind (laid g e r) = absurd (true≢false (sym implied ∙ ap is_implied (role_of u ∙ r)))

  block_implied : (u : ℕ) → may_declare (p.layout.role u) ≡ true → block_of (p.layout.role u) ≡ Universe → is_implied (p.layout.role u) ≡ true
  block_implied u may block = by_kind (kept w known p.path p is.is_checked u (may_within w known p.path p is.is_checked u may))
    where
      by_kind : Kept u → is_implied (p.layout.role u) ≡ true
      by_kind (universal r n) = ap is_implied (role_of u ∙ r)
      by_kind (plain e t) =
          absurd (told_universe (OfKind t.file.cut) (IsGlobal (source_of t.file).tree.decls) (Unit {0})
          (new_site w known p.path p is.is_checked u).place.index
          (new_site w known p.path p is.is_checked u).role t.told (sym (ap may_declare (role_of u)) ∙ may) (sym (ap block_of (role_of u)) ∙ block))
      by_kind (laid g e r) =
          let z : Universe ≡ File (old_site w known p.path p is.is_checked u).place.file = sym block ∙ ap block_of (role_of u ∙ r) in
          let no : ⊥ = cc in absurd no

module _ (w : Workspace) (before after : Verdicts) (d : Declaration) (name : List ℕ) (s : FileChanges) (h : IsPlainRename w before d name s)
    (p q : Package) (is : IsCheckedPackage w before p) (also : IsCheckedPackage (edited s w) after q) (relaid : IsRelaid (revision_of w s) p q) where
  abbrev l : Layout
  l = p.layout

  pub predeclared_stay : (u : ℕ) → is_implied (l.role u) ≡ true → q.names u ≡ p.names u
  predeclared_stay u implied = relaid.other_names u (λ place b. true≢false (sym implied ∙ b.0.1))

  -- an identifier begins afterwards where its place is moved

  plain_after : (u : ℕ) → IsPlain l u → IsPlain q.layout u
  plain_after u x = subst (λ k. IsPlain k u) (sym relaid.layout) x

  pub begins_after : (u : ℕ) (place : Place) → BeginsAt p place.path place.offset u → IsPlain l u →
      BeginsAt q (moved s place).path (moved s place).offset u
  begins_after u place b x =
      let lt : u < q.size = subst (λ n. u < n) (sym relaid.size) b.0.0 in
      let there = plain_stands (edited s w) after q also u lt (plain_after u x) in
      let at : l.place u ≡ q.layout.place u = ap (λ k. k.place u) (sym relaid.layout) in
      let old : TokenAt p (l.place u) place = name_token (slice_get p.files (l.place u).file) (l.place u).index place b.1 in
      let new : TokenAt q (q.layout.place u) (moved s place) =
      subst (λ x. TokenAt q x (moved s place)) at (token_moves w before after d name s h p q is also relaid.path (l.place u) place old) in
      let own : TokenAt q (q.layout.place u) there.0 =
      name_token (slice_get q.files (q.layout.place u).file) (q.layout.place u).index there.0 there.1.1 in
      let same : there.0 ≡ moved s place =
      token_once (slice_get q.files (q.layout.place u).file) (q.layout.place u).index there.0 (moved s place) own new in
      subst (λ (x : Place). BeginsAt q x.path x.offset u) same there.1

  module _ (scopes_of : (x : Package) → IsScopedIn (edited s w) x → x.path ≡ q.path → x ≡ scoped_of q) where
    abbrev Becomes : Declaration → Declaration → Type 0
    Becomes = Corresponds (IsCheckedPackage w before) (IsScopedIn (edited s w)) (moved s)

    -- a declaration that has become one of the package is that of its number

    one_number : (e f : ℕ) (path : List ℕ) (place : Place) → IsDeclaredAt (IsCheckedPackage w before) (Declared p.path e) place → path ≡ q.path →
        IsDeclaredAt (IsScopedIn (edited s w)) (Declared path f) (moved s place) → f ≡ e
    one_number e f path place old here new =
        let was : HasDeclarationAt p (Declared p.path e) place =
        subst (λ (x : Package). HasDeclarationAt x (Declared p.path e) place) (one_package w before old.inside p old.is_package is old.of_path) old.holds in
        let now : HasDeclarationAt (scoped_of q) (Declared path f) (moved s place) =
        subst (λ (x : Package). HasDeclarationAt x (Declared path f) (moved s place)) (scopes_of new.inside new.is_package (new.of_path ∙ here)) new.holds in
        let old_token : TokenAt p (l.place (literal_of l e)) place = subst (λ a. TokenAt p a place) (sym was.is_at.stands) was.begins in
        let moved_token : TokenAt q (l.place (literal_of l e)) (moved s place) =
        token_moves w before after d name s h p q is also relaid.path (l.place (literal_of l e)) place old_token in
        let first : TokenAt q (q.layout.place (literal_of q.layout e)) (moved s place) =
        subst (λ (k : Layout). TokenAt q (k.place (literal_of k e)) (moved s place)) (sym relaid.layout) moved_token in
        let second : TokenAt q (q.layout.place (literal_of q.layout f)) (moved s place) =
        subst (λ a. TokenAt q a (moved s place)) (sym now.is_at.stands) now.begins in
        let old_stands = literal_stands w before p.path p is.is_checked e was.is_at.counts was.is_at.own in
        let f_stands = literal_stands (edited s w) after q.path q also.is_checked f now.is_at.counts now.is_at.own in
        let e_within : literal_of q.layout e < q.size =
        subst (λ (k : Layout). literal_of k e < q.size) (sym relaid.layout) (subst (λ n. literal_of l e < n) (sym relaid.size) old_stands.0) in
        let e_identifies : is_implied (q.layout.role (literal_of q.layout e)) ≡ false =
        subst (λ (k : Layout). is_implied (k.role (literal_of k e)) ≡ false) (sym relaid.layout) old_stands.1 in
        let e_may : may_declare (q.layout.role e) ≡ true =
        subst (λ (k : Layout). may_declare (k.role e) ≡ true) (sym relaid.layout) was.is_at.counts.declares.may in
        one_of_literal q.layout f e now.is_at.counts.declares.may e_may
        (one_stands (edited s w) after q.path q also.is_checked (literal_of q.layout f) (literal_of q.layout e) (moved s place) f_stands.0 e_within f_stands.1
        e_identifies second first)

    -- what is bound afterwards to what a declaration has become is bound to it

    from_predeclared : (u e : ℕ) (f : Declaration) → BindsByScope (scoped_of q) u f → Becomes (Predeclared e) f → scopes.IsBoundTo q.layout q.names u e
    from_predeclared u e f bound become = elim (by_cases (IsCheckedPackage w before) (IsScopedIn (edited s w)) (moved s) (Predeclared e) f become) [
      | inl x ↦
          let b : BindsByScope (scoped_of q) u (Predeclared x.number) = subst (BindsByScope (scoped_of q) u) x.other bound in
          let same : x.number ≡ e = (let z : Predeclared e ≡ Predeclared x.number = x.one in cc) in
          subst (λ k. scopes.IsBoundTo q.layout q.names u k) same b.1
      | inr x ↦ absurd x.old
    ]

    from_declared : (u e : ℕ) (f : Declaration) → BindsByScope (scoped_of q) u f → Becomes (Declared p.path e) f → scopes.IsBoundTo q.layout q.names u e
    from_declared u e f bound become = elim (by_cases (IsCheckedPackage w before) (IsScopedIn (edited s w)) (moved s) (Declared p.path e) f become) [
      | inl x ↦ (let z : Declared p.path e ≡ Predeclared x.number = x.one in let no : ⊥ = cc in absurd no)
      | inr x ↦ by_new f bound x.place x.old x.new
    ]
      where
        by_new : (f : Declaration) → BindsByScope (scoped_of q) u f → (place : Place) → IsDeclaredAt (IsCheckedPackage w before) (Declared p.path e) place →
            IsDeclaredAt (IsScopedIn (edited s w)) f (moved s place) → scopes.IsBoundTo q.layout q.names u e
        by_new (Predeclared k) b place old new = absurd new
        by_new (Declared path k) b place old new = subst (λ n. scopes.IsBoundTo q.layout q.names u n) (one_number e k path place old b.0 new) b.2
        by_new (Field x) b place old new = absurd b
        by_new (Method x) b place old new = absurd b

    module _ (lost : ScopedNamesStay w before (revision_of w s)) where
      -- afterwards the scopes of the package bind the identifier
      bound_after : (u : ℕ) (place : Place) → BeginsAt p place.path place.offset u → IsPlain l u → (f : Declaration) →
          IsScopeUse (edited s w) f (moved s place) → BindsByScope (scoped_of q) u f
      bound_after u place b x f use_of =
          let y = use_of.used_in in
          let path : y.path ≡ q.path =
          scoped_in_folder (edited s w) y use_of.is_package (moved s place).path (moved s place).offset use_of.user use_of.begins
          ∙ ap folder (path_stays w before after d name s h p q is also relaid.path place.path)
          ∙ sym (begins_in_folder w before p is place.path place.offset u b)
          ∙ sym relaid.path in
          let same : y ≡ scoped_of q = scopes_of y use_of.is_package path in
          let begins : BeginsAt q (moved s place).path (moved s place).offset use_of.user =
          subst (λ (z : Package). BeginsAt z (moved s place).path (moved s place).offset use_of.user) same use_of.begins in
          let user : use_of.user ≡ u =
          one_begins (edited s w) after q.path q also.is_checked (moved s place).path (moved s place).offset use_of.user u begins (begins_after u place b x) in
          subst (λ v. BindsByScope (scoped_of q) v f) user (subst (λ (z : Package). BindsByScope z use_of.user f) same use_of.bound)

      kept_plain : (u e : ℕ) → IsPlain l u → scopes.IsBoundTo l p.names u e → scopes.IsBoundTo q.layout q.names u e
      kept_plain u e x bound =
          let there = plain_stands w before p is u (bound_within w before p.path p is.is_checked u e bound) x in
          let place = there.0 in
          let stays = lost place p is u there.1 in
          elim (scope_number p u e bound) [
            | inl old ↦
                let k = stays.by_scope (Predeclared e) old in
                from_predeclared u e k.declaration (bound_after u place there.1 x k.declaration k.bound) k.become
            | inr old ↦
                let k = stays.by_scope (Declared p.path e) old in
                from_declared u e k.declaration (bound_after u place there.1 x k.declaration k.bound) k.become
          ]

      -- a predeclared name stays bound to itself

      counts_after : (u : ℕ) → is_implied (l.role u) ≡ true → Counts l p.names u → Counts l q.names u
      counts_after u implied c = record {
        declares = record { may = c.declares.may; is_new = λ left. absurd (true≢false (sym left ∙ (implied_is (l.role u) implied).1.1)) };
        first = λ x k named displaces. elim displaces [
          | inl block ↦
              let own_block = implied_block w before p is u (may_within w before p.path p is.is_checked u c.declares.may) implied in
              let x_implied = block_implied w before p is x k.may (block.0 ∙ own_block) in
              c.first x (record { may = k.may; is_new = λ left. absurd (true≢false (sym left ∙ (implied_is (l.role x) x_implied).1.1)) })
              (sym (predeclared_stay x x_implied) ∙ named ∙ predeclared_stay u implied) (inl block)
          | inr import ↦
              let own_block = implied_block w before p is u (may_within w before p.path p is.is_checked u c.declares.may) implied in
              let z : Universe ≡ File import.1.0 = sym own_block ∙ import.1.1 in cc
        ];
      }

      kept_implied : (u e : ℕ) → is_implied (l.role u) ≡ true → scopes.IsBoundTo l p.names u e → scopes.IsBoundTo l q.names u e
      kept_implied u e implied (use_bound used b) = elim used [
        | inl use_of ↦ absurd (true≢false (sym use_of ∙ (implied_is (l.role u) implied).1.0))
        | inr left ↦ absurd (true≢false (sym left.0 ∙ (implied_is (l.role u) implied).1.1))
      ]
      kept_implied u e implied (own same c) =
          own same (counts_after e (ap (λ k. is_implied (l.role k)) (sym same) ∙ implied) c)

      pub keeps_others : KeepsOtherBindings l p.names q.names
      keeps_others u e no_import bound = elim (cases_Bool (is_implied (l.role u))) [
        | inl implied ↦ kept_implied u e implied bound
        | inr identifies ↦
            subst (λ k. scopes.IsBoundTo k q.names u e) relaid.layout
            (kept_plain u e (record { identifies = identifies; no_import = no_import; is_lexical = lexical l p.names u e bound }) bound)
      ]
