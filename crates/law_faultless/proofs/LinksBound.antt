-- In a file that keeps the typing rules each name that is to be a member is one.
use Rattle.std.proofs.Common.{ℕ, ◌≡◌, inl, inr, false, List, map, ap, sym, subst, refl, ◌∙◌, arith}
use Rattle.std.specs.Prelude.{Contains, Some, slice_get, option_map}
use Rattle.std.specs.List.{AllByRecursion}
use Rattle.std.proofs.lemmas.Option.{same_Some, slice_get-map}
use Rattle.base_files.specs.Workspace.{Workspace}
use Rattle.go_ast.specs.SourceFile.{SourceFile, IsSourceFile}
use Rattle.go_scope.specs.declared.model.Role.{Role}
use Rattle.go_scope.specs.declared.model.Role.TheVariants.{NotLexical}
use Rattle.go_scope.specs.declared.model.Purpose.{Purpose}
use Rattle.go_scope.specs.declared.model.Purpose.TheVariants as purpose
use Rattle.go_scope.specs.Bindings.{Layout, IsBoundTo}
use Rattle.go_scope.specs.FileSites.{SpelledFile, file_sites, files_sites, universe, package_sites}
use Rattle.go_scope.specs.Named.{is_unnamed_import}
use Rattle.go_scope.specs.SpelledFiles.{spelled_file}
use Rattle.go_scope.specs.Packages.{scoped, layout_in}
use Rattle.go_scope.specs.Site.{Site, TokenSpellings, or_blank}
use Rattle.go_scope.specs.Table.{LiesAt, IsFoundAt}
use Rattle.law_tokens.proofs.HeldBytes.{source_file_at}
use Rattle.law_tokens.proofs.Lexical.{never_bound}
use Rattle.law_tokens.proofs.OwnPaths.{package_sources, part_at}
use Rattle.law_tokens.proofs.Places.{plainly_stands}
use Rattle.law_tokens.proofs.Roles.{role_keeps}
use Rattle.types_expr.specs.Types.{Broken}
use Rattle.types_expr.specs.World.{Bound, Means}
use Rattle.types_expr.specs.Judge.{MemberUse, members_of}
use Rattle.types_stmt.specs.Declarations.{check_file}
use Rattle.law_typing.specs.Declarations.{FileIsTyped}
use Rattle.types_declared.specs.Package.{Package}
use Rattle.types_info.specs.MemberUses.{AreUsesIn}
use Rattle.types_info.specs.Worlds.{IsName, is_bound, is_unbound, by_scope, by_package, is_init}
use Rattle.workspace_check.specs.Verdicts.{Verdicts, IsPackageIn}
use Rattle.refs_binding.specs.declared.declaration.Declaration.{Declaration}
use Rattle.types_info.specs.QualifiedIdentifiers.{IsQualifiedByPath}
use Rattle.refs_binding.specs.Binding.{BindsByMember, declaration_of}
use Rattle.refs_binding.specs.Identifiers.{IsInFiles}
use Rattle.refs_lookup.proofs.OnePlace.{names_of, laid_of, same_layout, same_files}
use Rattle.law_faultless.specs.MemberLinks.{IsUsedMember, IsLinked}
use Rattle.law_faultless.proofs.FilesUsed.{all_linked}
use Rattle.refs_lookup.proofs.BoundUsedMembers.{file_at, told_at}
use Rattle.law_faultless.specs.MemberNames.{IsMemberName, a_selected, a_key}
use Rattle.law_faultless.proofs.Sites.{files_among, each_numbered}

module _ (w : Workspace) (known : Verdicts) (path : List ℕ) (p : Package) (h : IsPackageIn w known path p) where
  -- A property of each identifier of a file, by its token and role, is one of u.
  pub at_number : (P : ℕ → Role → Type 0) (q : Purpose) → is_unnamed_import (NotLexical q) ≡ false → (NotLexical purpose.Blank ≡ NotLexical q → ⊥) →
      (u : ℕ) → IsInFiles p u → p.layout.role u ≡ NotLexical q → (s : SourceFile) → slice_get p.files (p.layout.place u).file ≡ Some s →
      ((source : TokenSpellings) → AllByRecursion (λ x. P x.place.index x.role) (file_sites source s.tree)) → P (p.layout.place u).index (NotLexical q)
  unfolding package_sites
  at_number P q named other u stands role s is all =
      let names = names_of w known path p h in
      let layout = same_layout w known path p h in
      let at = p.layout.place u in
      let fs = map spelled_file h.files in
      let sites = (scoped h.files).sites in
      let there : LiesAt (layout_in (laid_of w known path p h)) at u = subst (λ (l : Layout). LiesAt l at u) layout (stands.1, refl, refl) in
      let plain : LiesAt (layout_in (scoped h.files)) at u = plainly_stands names (scoped h.files) at u there in
      let laid : (layout_in (laid_of w known path p h)).role u ≡ NotLexical q = subst (λ (l : Layout). l.role u ≡ NotLexical q) layout role in
      let own : (or_blank (slice_get sites u)).role ≡ NotLexical q = (role_keeps q named names sites u).0 laid in
      let t = part_at h.files at.file s (subst (λ xs. slice_get xs at.file ≡ Some s) (same_files w known path p h) is) in
      let tree : s.tree ≡ (spelled_file t.0).tree = ap (λ (z : SourceFile). z.tree) (sym t.1.1) in
      let got : slice_get fs at.file ≡ Some (spelled_file t.0) =
      slice_get-map spelled_file h.files at.file ∙ ap (option_map spelled_file) t.1.0 in
      let each = files_among at.file P 0 fs
      (λ i f has e.
      let same : i ≡ at.file = omega arith in
      let own_file : spelled_file t.0 ≡ f = same_Some (spelled_file t.0) f (sym got ∙ ap (slice_get fs) (sym same) ∙ has) in
      subst (λ z. AllByRecursion (λ x. P x.place.index x.role) (file_sites (record { rank = at.file; spell = f.spell }) z))
      (tree ∙ ap (λ (z : SpelledFile). z.tree) own_file) (all (record { rank = at.file; spell = f.spell }))) in
      let found = each_numbered (λ (x : Site). x.place.file ≡ at.file → P x.place.index x.role) q other universe (files_sites 0 fs) each u own in
      subst (λ r. P at.index r) own (subst (λ i. P i (or_blank (slice_get sites u)).role) plain.2 (found plain.1))

  pub source_is : (file : ℕ) (s : SourceFile) → slice_get p.files file ≡ Some s → IsSourceFile s
  source_is file s is =
      let t = part_at h.files file s (subst (λ xs. slice_get xs file ≡ Some s) (same_files w known path p h) is) in
      subst IsSourceFile t.1.1 (source_file_at h.files (package_sources w path h.files h.parsed) file t.0 t.1.0)

  module _ (u : ℕ) (stands : IsInFiles p u) (uses : List MemberUse) (a : AreUsesIn p (p.layout.place u).file uses)
      (typed : FileIsTyped a.world (is_init a.source) a.source.tree) where
    Used : ℕ → Type 0
    Used = IsUsedMember a.world (members_of (check_file a.world (is_init a.source) a.source.tree).uses)

    linked_at : (q : Purpose) → is_unnamed_import (NotLexical q) ≡ false → (NotLexical purpose.Blank ≡ NotLexical q → ⊥) → p.layout.role u ≡ NotLexical q →
        IsLinked a.world Used (p.layout.place u).index (NotLexical q)
    unfolding Used
    linked_at q named other role =
        at_number (λ i r. IsLinked a.world Used i r) q named other u stands role a.source a.in_file
        (λ source. all_linked a.world (is_init a.source) a.source (source_is (p.layout.place u).file a.source a.in_file) typed source)

    used_bound : Used (p.layout.place u).index → (d : Declaration) × BindsByMember p u d
    unfolding Used
    used_bound x = (
      declaration_of x.member,
      record {
        uses = uses;
        judged = a;
        found = x.found;
        is_use = subst (λ l. Contains l x.found) (sym a.found) x.is_use;
        at = x.at;
        member = x.member;
        is_member = x.is_member;
        declares = refl;
      },
    )

    no_scope : (identifier d : ℕ) → p.layout.role u ≡ NotLexical purpose.Selected → IsFoundAt p.layout p.size (p.layout.place u) identifier →
        IsBoundTo p.layout p.names identifier d → ⊥
    no_scope identifier d role found bound =
        let t = file_at w known path p h (p.layout.place u) u stands.0 (stands.1, refl, refl) in
        let dotted = (told_at w known path p h (p.layout.place u) u stands.0 (stands.1, refl, refl) t.0 t.1).selected.0 role in
        let same = (told_at w known path p h (p.layout.place u) identifier found.within found.holds t.0 t.1).selected.1 dotted in
        never_bound p.layout p.names identifier d purpose.Selected same bound

    unnamed : (b : Bound) → p.layout.role u ≡ NotLexical purpose.Selected → ((q : List ℕ) → IsQualifiedByPath p u q → ⊥) →
        IsName p (p.layout.place u).file (p.layout.place u).index b → (b ≡ Means Broken → ⊥) → ⊥
    unnamed b role outside (is_bound (by_scope binds m)) known_name = no_scope binds.identifier _ role binds.found binds.bound
    unnamed _ role outside (is_bound (by_package x)) known_name =
        let e = x.exported in
        outside e.of_import.path (record {
          selected = role;
          before = x.before;
          behind_dot = x.behind_dot;
          named = record { import = e.import; binds = e.binds; imports = e.of_import.imports };
        })
    unnamed _ role outside (is_unbound n) known_name = known_name refl

    pub member_bound : IsMemberName p u → (d : Declaration) × BindsByMember p u d
    member_bound (a_selected role outside) =
        elim (linked_at purpose.Selected refl (λ e. let z : ⊥ = cc in z) role) [
          | inl known_name ↦ absurd (unnamed (a.world.bound (p.layout.place u).index) role outside (a.judged_by.names (p.layout.place u).index) known_name)
          | inr x ↦ used_bound x
        ]
    member_bound (a_key role) = used_bound (linked_at purpose.Key refl (λ e. let z : ⊥ = cc in z) role)
