-- After a move that brings no fault, each identifier is bound to what its declaration has become, and nothing more is bound.
use Rattle.std.proofs.Common.{ℕ, ◌≡◌, ◌<◌, inl, inr, true, List, ap, sym, subst, refl, ◌∙◌}
use Rattle.std.specs.Prelude.{Some, slice_get}
use Rattle.base_files.specs.Workspace.{Workspace}
use Rattle.base_files.specs.declared.place.Place.{Place}
use Rattle.base_edits.specs.Revisions.{Revision}
use Rattle.go_scope.specs.declared.model.Position.{Position}
use Rattle.go_scope.specs.declared.model.Purpose.TheVariants as purpose
use Rattle.go_scope.specs.declared.model.Role.{Role}
use Rattle.go_scope.specs.declared.model.Role.TheVariants.{Use, Declaring, LeftName, Implied, NotLexical}
use Rattle.go_scope.specs.Bindings as scopes
use Rattle.go_scope.specs.Bindings.{Layout, Names, IsIdentifier}
use Rattle.go_scope.specs.Table.{LiesAt}
use Rattle.law_tokens.proofs.Lexical.{never_bound}
use Rattle.types_declared.specs.Definitions.{package_fields, fields_from}
use Rattle.types_declared.specs.Laid.{is_exported}
use Rattle.types_declared.specs.Package.{Package, symbol_in, spelled}
use Rattle.types_declared.specs.Written.{BindsToken}
use Rattle.types_check.specs.Exports.{DoesExport}
use Rattle.types_info.specs.QualifiedIdentifiers.{IsQualifiedByPath}
use Rattle.workspace_check.specs.Verdicts.{Verdicts}
use Rattle.refs_binding.specs.declared.declaration.Declaration.{Declaration}
use Rattle.refs_binding.specs.declared.declaration.Declaration.TheVariants.{Predeclared, Declared, Field, Method}
use Rattle.refs_binding.specs.Binding as binds
use Rattle.refs_binding.specs.Binding.{BindsByScope, BindsQualified, IsQualifiedUse, DeclaresMember}
use Rattle.refs_binding.specs.Identifiers.{BeginsAt, IsInFiles}
use Rattle.refs_binding.specs.Uses.{IsCheckedPackage, IsUseOf}
use Rattle.refs_binding.specs.Uses as uses
use Rattle.refs_binding.proofs.Excluding.{number_bound, exported_as}
use Rattle.refs_binding.proofs.Folders.{begins_in_folder}
use Rattle.refs_binding.proofs.Units.{one_package}
use Rattle.refs_lookup.proofs.OneDeclaration.{one_used}
use Rattle.refs_lookup.proofs.OnePlace.{one_begins}
use Rattle.refs_lookup.proofs.UsedMembers.{link_role}
use Rattle.refs_places.specs.Identified.{IsIdentifierAt}
use Rattle.refactor_conflict.specs.Corresponding.{predeclared}
use Rattle.refactor_preserve.specs.BoundToOne.{IsBoundToOne}
use Rattle.refactor_preserve.specs.Preserved.{Preserves}
use Rattle.law_faultless.specs.Roles.{is_bound_role}
use Rattle.law_faultless.proofs.Bound.{identifier_bound}
use Rattle.law_agreement.proofs.UnboundStay.{field_counts, method_counts}
use Rattle.law_changed_types.specs.Moved.{PathMap}
use Rattle.law_changed_types.proofs.Written.{binds as tokens_bind, binds_back, declares_type_back, same_place_functions, same_place_types}
use Rattle.law_moves.proofs.MembersStay.{kept_by_role}
use Rattle.law_moves.specs.Moving.{AreScopedMoves, AreCheckedMoves}
use Rattle.law_moves.proofs.ExportsStay.{level_named, level_own}
use Rattle.law_moves.proofs.MembersMove.{declares_there, name_becomes, use_becomes, uses_there}
use Rattle.law_moves.proofs.MovedTo.{Becomes, IsMovedTo, bound_there, counts_of, counts_there, moved_declaration, moved_to, q, same_names}
use Rattle.law_moves.proofs.MovedTo.{scope_becomes, scoped, there}

module _ (w : Workspace) (known : Verdicts) (r : Revision) (goes : PathMap) (h : AreScopedMoves w known r goes) (after : Verdicts)
    (c : AreCheckedMoves w known r goes after) where
  abbrev Goes : Declaration → Declaration → Type 0
  Goes = Becomes w known r goes h after c

  abbrev Kept : Place → Declaration → Type 0
  Kept place old = IsBoundToOne r.after after (r.moved place) (Goes old)

  module _ (p : Package) (is : IsCheckedPackage w known p) where
    abbrev now : Package
    now = q w known r goes h after c p is

    moved : IsMovedTo w known r goes h after c p now
    moved = moved_to w known r goes h after c p is

    -- what an identifier is bound to afterwards
    kept_as : (u : ℕ) (place : Place) → BeginsAt p place.path place.offset u → (old e : Declaration) → uses.IsBoundToDeclaration r.after after now u e →
        Goes old e →
        Kept place old
    kept_as u place b old e bound goes_there = record {
      declaration = e;
      is_use = record { used_in = now; is_package = moved.is; user = u; begins = moved.begins.names u place b; bound = bound };
      holds = goes_there;
    }

    by_scope : (u : ℕ) (place : Place) → BeginsAt p place.path place.offset u → (old : Declaration) → BindsByScope p u old → Kept place old
    by_scope u place b (Predeclared n) k =
        kept_as u place b (Predeclared n) (Predeclared n) (binds.by_scope (k.0, bound_there w known r goes h after c p is u n k.1)) predeclared
    by_scope u place b (Declared path n) k =
        let bound : BindsByScope now u (Declared (c.g path) n) =
        (ap c.g k.0 ∙ sym moved.moved.path, k.1, bound_there w known r goes h after c p is u n k.2) in
        let become = scope_becomes w known r goes h after c p is n k.1 (counts_of p.layout p.names u n k.2) in
        kept_as u place b (Declared path n) (Declared (c.g path) n) (binds.by_scope bound)
        (subst (λ z. Goes (Declared z n) (Declared (c.g z) n)) (sym k.0) become)
    by_scope u place b (Field s) k = absurd k
    by_scope u place b (Method s) k = absurd k

    -- qualified identifiers

    qualified_there : (u : ℕ) (path : List ℕ) → IsQualifiedByPath p u path → IsQualifiedByPath now u (c.g path)
    qualified_there u path k =
        let layout = moved.moved.layout in
        let bound : BindsToken now (p.layout.place u).file k.before k.named.import =
        tokens_bind c.g c.injective p now moved.moved (p.layout.place u).file k.before k.named.import k.named.binds in
        record {
          selected = ap (λ (l : Layout). l.role u) layout ∙ k.selected;
          before = k.before;
          behind_dot = ap (λ (l : Layout). (l.place u).index) layout ∙ k.behind_dot;
          named = record {
            import = k.named.import;
            binds = subst (λ (l : Layout). BindsToken now (l.place u).file k.before k.named.import) (sym layout) bound;
            imports = (moved.moved.imports k.named.import).forth path k.named.imports;
          };
        }

    -- a package-level declaration keeps its name
    export_named : (n : ℕ) → DoesExport p n → now.names n ≡ p.names n
    export_named n k =
        ap (λ (names : Names). names n) (same_names w known r goes h after c p is)
        ∙ level_named w known r h.kept goes p (there w known r goes h after c p is) is (scoped w known r goes h after c p is) n k.package_level
        k.counts.declares.may

    export_there : (n : ℕ) → DoesExport p n → DoesExport now n
    export_there n k = record {
      package_level = subst (λ (l : Layout). scopes.IsPackageLevel l n) (sym moved.moved.layout) k.package_level;
      counts = counts_there w known r goes h after c p is n k.counts;
      exported = ap is_exported (export_named n k) ∙ k.exported;
    }

    selector_named : (u : ℕ) (place : Place) → BeginsAt p place.path place.offset u → p.layout.role u ≡ NotLexical purpose.Selected →
        now.names u ≡ p.names u
    selector_named u place b role =
        moved.names u place b
        ∙ kept_by_role w known r h.kept p is u place b purpose.Selected role (λ e. let z : ⊥ = cc in z) (p.names u)

  by_package : (p : Package) (is : IsCheckedPackage w known p) (u : ℕ) (place : Place) → BeginsAt p place.path place.offset u → (path : List ℕ) (n : ℕ) →
      IsQualifiedUse (IsCheckedPackage w known) p u path n → Kept place (Declared path n)
  by_package p is u place b path n k =
      let o = k.other in
      let t = moved o k.is_package in
      let to : (now o k.is_package).path ≡ c.g path = t.moved.path ∙ ap c.g k.of_path in
      let bound : IsQualifiedUse (IsCheckedPackage r.after after) (now p is) u (c.g path) n = record {
        behind = qualified_there p is u path k.behind;
        other = now o k.is_package;
        is_package = t.is;
        of_path = to;
        seen = export_there o k.is_package n k.seen;
        named = export_named o k.is_package n k.seen ∙ k.named ∙ sym (selector_named p is u place b k.behind.selected);
      } in
      let own = level_own w known r h.kept goes o (there w known r goes h after c o k.is_package) k.is_package (scoped w known r goes h after c o k.is_package)
      n k.seen.package_level in
      let become = scope_becomes w known r goes h after c o k.is_package n own k.seen.counts in
      kept_as p is u place b (Declared path n) (Declared (c.g path) n) (binds.by_package bound)
      (subst (λ z. Goes (Declared z n) (Declared (c.g z) n)) k.of_path become)

  kept_at : (p : Package) (is : IsCheckedPackage w known p) (u : ℕ) (place : Place) → BeginsAt p place.path place.offset u → (old : Declaration) →
      uses.IsBoundToDeclaration w known p u old → Kept place old
  kept_at p is u place b old (binds.by_scope k) = by_scope p is u place b old k
  kept_at p is u place b old (binds.by_package k) =
      let n = exported_as (IsCheckedPackage w known) p u old k in
      subst (Kept place) (sym n.1.1.0) (by_package p is u place b n.0 n.1.0 n.1.1.1)
  kept_at p is u place b old (binds.by_member k) =
      kept_as p is u place b old (moved_declaration c.g old) (binds.by_member (uses_there w known r goes h after c p is u old k))
      (use_becomes w known r goes h after c p is u old k)
  kept_at p is u place b old (binds.by_name k) =
      kept_as p is u place b old (moved_declaration c.g old) (binds.by_name (declares_there w known r goes h after c p is u old k))
      (name_becomes w known r goes h after c p is u old place b k)

  -- What is bound afterwards was bound.
  module _ (p : Package) (is : IsCheckedPackage w known p) (u : ℕ) (stands : IsInFiles p u) where
    abbrev became : Package
    became = now p is

    role_there : became.layout.role u ≡ p.layout.role u
    role_there = ap (λ (l : Layout). l.role u) (moved p is).moved.layout

    lies : (at : Position) → LiesAt became.layout at u → LiesAt p.layout at u
    lies at k = subst (λ (l : Layout). LiesAt l at u) (moved p is).moved.layout k

    declared_before : (e : Declaration) → DeclaresMember became u e → (old : Declaration) × DeclaresMember p u old
    declared_before (Predeclared n) k = absurd k
    declared_before (Declared path n) k = absurd k
    declared_before (Field s) k =
        let f = k.1.is_at.counts.field in
        let fields : package_fields became ≡ package_fields p = ap (fields_from 0) (same_place_types c.g c.injective p became (moved p is).moved) in
        let has : slice_get (package_fields p) s.rank ≡ Some f =
        ap (λ fs. slice_get fs s.rank) (sym fields) ∙ k.1.is_at.counts.counting.is_field.has_rank in (
          Field (symbol_in p s.rank),
          (
            refl,
            record {
              at = k.1.at;
              is_at = record {
                counts = record {
                  definition = f.definition;
                  name = spelled p f.file f.name;
                  field = f;
                  counting = field_counts w h.sound known h.right p is s.rank f has;
                };
                named_at = k.1.is_at.named_at;
              };
              stands = lies k.1.at k.1.stands;
            },
          ),
        )
    declared_before (Method s) k =
        let a = (moved p is).moved in
        let f = k.1.is_at.counts.method in
        let d = k.1.is_at.counts.definition in
        let m = k.1.is_at.counts.counting.is_method in
        let name = spelled p f.file f.function.name in (
          Method (symbol_in p s.rank),
          (
            refl,
            record {
              at = k.1.at;
              is_at = record {
                counts = record {
                  definition = d;
                  name = name;
                  method = f;
                  counting =
                      method_counts w h.sound known h.right p is d s.rank name f (record {
                        has_rank = ap (λ fs. slice_get fs s.rank) (sym (same_place_functions c.g c.injective p became a)) ∙ m.has_rank;
                        receiver = m.receiver;
                        received = m.received;
                        declaration = m.declaration;
                        binds = binds_back c.g c.injective p became a f.file m.receiver.type_name m.declaration m.binds;
                        of_type = declares_type_back c.g c.injective p became a m.declaration d m.of_type;
                        named = refl;
                      });
                };
                named_at = k.1.is_at.named_at;
              };
              stands = lies k.1.at k.1.stands;
            },
          ),
        )

    there_too : IsInFiles became u
    there_too = (
      subst (λ n. u < n) (sym (moved p is).moved.size) stands.0,
      subst (λ (l : Layout). IsIdentifier l u) (sym (moved p is).moved.layout) stands.1,
    )

    bound_before : (e : Declaration) → uses.IsBoundToDeclaration r.after after became u e → (old : Declaration) × uses.IsBoundToDeclaration w known p u old
    bound_before e (binds.by_name k) = let d = declared_before e k in (d.0, binds.by_name d.1)
    bound_before e (binds.by_scope k) = identifier_bound w h.sound known h.right p is u stands (scope_role e k)
      where
        lexical : (k : Role) → became.layout.role u ≡ k → (n : ℕ) → scopes.IsBoundTo became.layout became.names u n → is_bound_role k ≡ true
        lexical (NotLexical z) same n b = absurd (never_bound became.layout became.names u n z same b)
        lexical Use same n b = refl
        lexical (Declaring block start) same n b = refl
        lexical (LeftName block start) same n b = refl
        lexical (Implied block start) same n b = refl

        scope_role : (e : Declaration) → BindsByScope became u e → is_bound_role (p.layout.role u) ≡ true
        scope_role e k = let n = number_bound became u e k in lexical (p.layout.role u) role_there n.0 n.1
    bound_before e (binds.by_package k) =
        let n = exported_as (IsCheckedPackage r.after after) became u e k in
        identifier_bound w h.sound known h.right p is u stands (ap is_bound_role (sym role_there ∙ n.1.1.1.behind.selected))
    bound_before e (binds.by_member k) =
        identifier_bound w h.sound known h.right p is u stands
        (elim (link_role r.after after became.path became (moved p is).is.is_checked u e there_too k) [
          | inl key ↦ ap is_bound_role (sym role_there ∙ key)
          | inr selected ↦ ap is_bound_role (sym role_there ∙ selected)
        ])

  was_bound : (place : Place) (e : Declaration) → IsIdentifierAt w known place → IsUseOf r.after after e (r.moved place) →
      (old : Declaration) × IsUseOf w known old place
  was_bound place e at now_used =
      let p = at.used_in in
      let is = at.is_package in
      let u = at.user in
      let to = r.moved place in
      let t = moved p is in
      let begins : BeginsAt (now p is) to.path to.offset u = t.begins.names u place at.begins in
      let same : now_used.used_in ≡ now p is =
      one_package r.after after now_used.used_in (now p is) now_used.is_package t.is
      (begins_in_folder r.after after now_used.used_in now_used.is_package to.path to.offset now_used.user now_used.begins
      ∙ sym (begins_in_folder r.after after (now p is) t.is to.path to.offset u begins)) in
      let there : BeginsAt (now p is) to.path to.offset now_used.user =
      subst (λ (z : Package). BeginsAt z to.path to.offset now_used.user) same now_used.begins in
      let user : now_used.user ≡ u =
      one_begins r.after after (now p is).path (now p is) t.is.is_checked to.path to.offset now_used.user u there begins in
      let bound : uses.IsBoundToDeclaration r.after after (now p is) now_used.user e =
      subst (λ (z : Package). uses.IsBoundToDeclaration r.after after z now_used.user e) same now_used.bound in
      let was = bound_before p is u at.begins.0 e (subst (λ v. uses.IsBoundToDeclaration r.after after (now p is) v e) user bound) in
      (was.0, record { used_in = p; is_package = is; user = u; begins = at.begins; bound = was.1 })

  none_added : (place : Place) (e : Declaration) → IsUseOf r.after after e (r.moved place) → (old : Declaration) → IsUseOf w known old place →
      IsBoundToOne w known place (λ d. Goes d e)
  none_added place e now_used old was =
      let k = kept_at was.used_in was.is_package was.user place was.begins old was.bound in
      let same : k.declaration ≡ e = one_used r.after after (r.moved place) k.declaration e k.is_use now_used in
      record { declaration = old; is_use = was; holds = subst (Goes old) same k.holds }

  pub preserves : Preserves w r
  preserves = record {
    before = known;
    right = h.right;
    after = after;
    right_after = c.right;
    sound = c.sound;
    kept = record {
      keeps = λ place old used. kept_at used.used_in used.is_package used.user place used.begins old used.bound;
      adds_none = λ place e there used. let was = was_bound place e there used in none_added place e used was.0 was.1;
    };
  }
