-- Identifiers of other packages, and those behind the name of a package, stay bound where an import without a name gains one.
use Rattle.std.proofs.Common.{ℕ, suc, ◌≡◌, ◌<◌, ◌⊎◌, inl, inr, List, refl, sym, ap, subst, ◌∙◌, arith}
use Rattle.base_files.specs.Workspace.{Workspace}
use Rattle.base_files.specs.declared.place.Place.{Place}
use Rattle.base_edits.specs.EditSet.{FileChanges}
use Rattle.base_edits.specs.Moved.{moved}
use Rattle.base_edits.specs.Revisions.{PackageMovesTo, Revision}
use Rattle.base_edits.specs.RevisionsOfEdits.{revision_of}
use Rattle.go_scope.specs.declared.model.Block.TheVariants.{Universe}
use Rattle.go_scope.specs.declared.model.Block.TheVariants.{Package as PackageBlock}
use Rattle.go_scope.specs.declared.model.Position.{Position}
use Rattle.go_scope.specs.Bindings.{Counts, IsPackageLevel, is_implied, own}
use Rattle.go_scope.specs.Table.{LiesAt}
use Rattle.law_rename.specs.Gained.{Gain}
use Rattle.law_changed_types.specs.SameBindings.{IsSelectedAt}
use Rattle.law_tokens.proofs.Ordered.{one_stands}
use Rattle.types_declared.specs.Laid.{is_exported, literal_of}
use Rattle.types_declared.specs.Package.{Package}
use Rattle.types_declared.proofs.ByteKeys.{cases_bytes}
use Rattle.types_check.specs.Exports.{DoesExport}
use Rattle.types_info.specs.QualifiedIdentifiers.{IsQualifiedByPath, NamesPackage}
use Rattle.workspace_check.specs.Verdicts.{Verdicts}
use Rattle.workspace_check.proofs.OnePackage.{layout_formed}
use Rattle.refs_binding.specs.declared.declaration.Declaration.{Declaration}
use Rattle.refs_binding.specs.declared.declaration.Declaration.TheVariants.{Predeclared, Declared, Field, Method}
use Rattle.refs_binding.specs.Binding.{BindsByScope, BindsQualified, IsPredeclaredNumber, IsQualifiedUse}
use Rattle.refs_binding.specs.DeclaringPlaces.{IsDeclaredAt, TokenAt}
use Rattle.refs_binding.specs.Identifiers.{BeginsAt}
use Rattle.refs_binding.specs.Uses.{IsCheckedPackage}
use Rattle.refs_binding.proofs.Excluding.{one_behind}
use Rattle.refs_binding.proofs.Folders.{begins_in_folder}
use Rattle.refs_binding.proofs.Units.{one_package}
use Rattle.refactor_conflict.specs.Corresponding.{IsSamePredeclared}
use Rattle.refactor_conflict.proofs.Becoming.{StandBoth, by_cases, same_names}
use Rattle.refactor_conflict.specs.ScopedPackages.{IsScopedIn}
use Rattle.refactor_conflict.specs.ScopeBindings.{IsScopeUse}
use Rattle.refactor_conflict.specs.BoundAfter.{HasBecome, IsBoundByScopes, IsExportAfter}
use Rattle.refactor_conflict.specs.Staying.{StaysByPackage, StaysByScope}
use Rattle.refactor_conflict.proofs.BoundAfter.{one_goal}
use Rattle.law_renamed_workspaces.proofs.OwnNames.{counted, in_universe}
use Rattle.law_agreement.proofs.MemberPlaces.{token_folder}
use Rattle.law_gained_names.specs.NamedPackage.{numbers_of}
use Rattle.law_gained_names.proofs.Unknown.{in_order}
use Rattle.law_changed_types.proofs.RenumberedTypesAlike.{Half, binds}
use Rattle.law_changed_types.proofs.Numbered.{FollowsIdentifier, FollowsToken, there}
use Rattle.law_renamed_workspaces.proofs.MovedTokens.{have_places}
use Rattle.law_renamed_workspaces.proofs.PathsStay.{keeps_path}
use Rattle.law_renamed_workspaces.proofs.There.{packages_there, stays_there}
use Rattle.law_agreement.proofs.Others.{others_by}
use Rattle.law_agreement.proofs.Together.{none_behind}
use Rattle.law_agreement.proofs.Whole.{behind_stays}
use Rattle.law_gained_names.specs.UnnamedRenames.{IsNamedFirst, IsUnnamedRename}
use Rattle.law_gained_names.proofs.Numbered as numbers
use Rattle.law_gained_names.proofs.Own as after
use Rattle.law_gained_names.proofs.Tokens as tokens

other_block : Universe ≡ PackageBlock → ⊥
other_block e = cc

module _ (w : Workspace) (known : Verdicts) (p : Package) (n : ℕ) (name : List ℕ) (s : FileChanges) (h : IsUnnamedRename w known p n name s)
    (f : IsNamedFirst w known p n name s) where
  abbrev r : Revision
  r = revision_of w s

  abbrev v : Workspace
  v = numbers.v w known p n name s h f

  abbrev q : Package
  q = f.inside

  abbrev g : ℕ → ℕ
  g = numbers.g w known p n name s h f

  abbrev gain : Gain
  gain = numbers.gain w known p n name s h f

  abbrev second : Revision
  second = numbers.second w known p n name s h f

  abbrev Known : Package → Type 0
  Known = IsCheckedPackage w known

  abbrev Between : Package → Type 0
  Between = IsCheckedPackage v known

  -- a declaration of another package that counts stands where it did
  declared_elsewhere : (y : Package) → Known y → (y.path ≡ p.path → ⊥) → (d : ℕ) → (IsPredeclaredNumber d → ⊥) → Counts y.layout y.names d →
      (place : Place) × (IsDeclaredAt Known (Declared y.path d) place × IsDeclaredAt Between (Declared y.path d) (moved f.naming place))
  declared_elsewhere y is away d other counts =
      let place = have_places w known y is d counts other in
      let at = y.layout.place (literal_of y.layout d) in
      let same : moved f.naming place.0 ≡ place.0 = tokens.unmoved w known p n name s h f place.0 (λ e. away (sym (token_folder w known y is at place.0
      place.1) ∙ e)) in (
        place.0,
        (
          record {
            inside = y;
            is_package = is;
            of_path = refl;
            holds = record { at = at; is_at = record { own = other; counts = counts; stands = refl }; begins = place.1 };
          },
          record {
            inside = y;
            is_package = numbers.other_package w known p n name s h f y away is;
            of_path = refl;
            holds = record {
              at = at;
              is_at = record { own = other; counts = counts; stands = refl };
              begins = subst (λ t. TokenAt y at t) (sym same) place.1;
            };
          },
        ),
      )

  -- what becomes of it is what becomes of it by the second step
  becomes_elsewhere : (y : Package) → Known y → (y.path ≡ p.path → ⊥) → (d : ℕ) → (IsPredeclaredNumber d → ⊥) → Counts y.layout y.names d →
      (e : Declaration) → HasBecome v known second (Declared y.path d) e → HasBecome w known r (Declared y.path d) e
  becomes_elsewhere y is away d other counts e b =
      let k = declared_elsewhere y is away d other counts in
      after.became w known p n name s h f (Declared y.path d) (Declared y.path d) e k.0 k.1.0 k.1.1 b

  predeclared_still : (m : ℕ) (e : Declaration) → HasBecome v known second (Predeclared m) e → HasBecome w known r (Predeclared m) e
  predeclared_still m e b = by_way (by_cases Between (IsScopedIn second.after) second.moved (Predeclared m) e b)
    where
      by_way : IsSamePredeclared (Predeclared m) e ⊎ StandBoth Between (IsScopedIn second.after) second.moved (Predeclared m) e →
          HasBecome w known r (Predeclared m) e
      by_way (inl same) = same_names Known (IsScopedIn r.after) r.moved (Predeclared m) e same
      by_way (inr both) = absurd both.old

  -- what scopes bind

  module _ (y : Package) (is : Known y) (away : y.path ≡ p.path → ⊥) (u : ℕ) (place : Place) (begins : BeginsAt y place.path place.offset u) where
    unmoved : moved f.naming place ≡ place
    unmoved = tokens.unmoved w known p n name s h f place (λ e. away (begins_in_folder w known y is place.path place.offset u begins ∙ e))

    moved_once : second.moved place ≡ r.moved place
    moved_once = ap second.moved (sym unmoved) ∙ sym (f.moves place)

    second_stays : StaysByScope v known second y u place
    second_stays =
        others_by v known q n name f.renaming f.renames (packages_there v known (Declared q.path n) name f.renaming f.renames.rename) y
        (numbers.other_package w known p n name s h f y away is)
        (λ same. away (ap (λ (x : Package). x.path) same ∙ f.gained.renumbered.path)) u place begins

    used : (e : Declaration) → IsBoundByScopes second place e → IsBoundByScopes r place e
    used e b =
        subst (λ (x : Workspace). IsScopeUse x e (r.moved place)) (sym f.files) (subst (λ t. IsScopeUse second.after e t) moved_once b)

    become : (old : Declaration) → BindsByScope y u old → (e : Declaration) → HasBecome v known second old e → HasBecome w known r old e
    become (Predeclared m) b e k = predeclared_still m e k
    become (Declared path m) b e k =
        subst (λ t. HasBecome w known r (Declared t m) e) (sym b.0)
        (becomes_elsewhere y is away m b.1 (counted y.layout y.names u m b.2) e (subst (λ t. HasBecome v known second (Declared t m) e) b.0 k))
    become (Field t) b e k = absurd b
    become (Method t) b e k = absurd b

    pub elsewhere_stays : StaysByScope w known r y u place
    elsewhere_stays old b =
        let k = second_stays old b in
        record { declaration = k.declaration; bound = used k.declaration k.bound; become = become old b k.declaration k.become }

  -- what stands behind the name of a package

  abbrev half : Half (FollowsToken (numbers_of gain n)) (FollowsIdentifier (numbers_of gain n)) p q
  half = there (numbers_of gain n) p q f.gained.renumbered

  -- a qualified identifier of the package is one between, at its new number
  qualified : (u : ℕ) (path : List ℕ) → u < p.size → IsQualifiedByPath p u path → IsQualifiedByPath q (g u) path
  qualified u path less b =
      let at = p.layout.place u in
      let lies : LiesAt p.layout at u = (ap is_implied b.selected, refl, refl) in
      let selected : IsSelectedAt p at.file at.index = record {
        identifier = u;
        found = record {
          within = less;
          holds = lies;
          first = λ z before lies_too.
              let same : z ≡ u =
              one_stands p.layout p.size (in_order p f.gained.renumbered.parsed) at z u (let k : z < p.size = omega (arith, before, less) in k) less
              lies_too lies in
              omega (arith, same, before);
        };
        selected = b.selected;
      } in
      let dot = half.dots at.file at.index ((numbers_of gain n).token at.file at.index) refl selected in
      let before : dot.was ≡ b.before = (let x : at.index ≡ suc (suc dot.was) = dot.was_behind in
      let y : at.index ≡ suc (suc b.before) = b.behind_dot in omega (arith, x, y)) in
      let file : (q.layout.place (g u)).file ≡ at.file = ap (λ (z : Position). z.file) (f.gained.renumbered.places u) in
      let index : (q.layout.place (g u)).index ≡ (numbers_of gain n).token at.file at.index =
      ap (λ (z : Position). z.index) (f.gained.renumbered.places u) in
      let follows : FollowsToken (numbers_of gain n) at.file b.before dot.is = subst (λ z. FollowsToken (numbers_of gain n) at.file z dot.is) before
      dot.follows in
      let bound = binds (FollowsToken (numbers_of gain n)) (FollowsIdentifier (numbers_of gain n)) p q half at.file b.before dot.is b.named.import follows
      b.named.binds in
      record {
        selected = half.selected u (g u) refl b.selected;
        before = dot.is;
        behind_dot = index ∙ dot.is_behind;
        named =
            subst (λ z. NamesPackage q z dot.is path) (sym file) (record {
              import = bound.0;
              binds = bound.1.1;
              imports = half.imports b.named.import bound.0 path bound.1.0 b.named.imports;
            });
      }

  -- what a package exports it exports between

  level_declared : (y : Package) → Known y → (d : ℕ) → IsPackageLevel y.layout d → IsPredeclaredNumber d → ⊥
  level_declared y is d level lt = other_block (sym (in_universe w known y.path y is.is_checked d lt) ∙ level)

  exports_still : (d : ℕ) → DoesExport p d → DoesExport q (g d)
  exports_still d b = record {
    package_level = half.level d (g d) refl b.package_level;
    counts = counted q.layout q.names (g d) (g d) ((numbers.bound_first w known p n name s h f d d).0 (own refl b.counts));
    exported = ap is_exported (numbers.named_first w known p n name s h f d) ∙ b.exported;
  }

  -- The declaration `d` of the package at the path is `e` between. What becomes of `e` by the second step becomes of it by both.
  record IsBetween (path : List ℕ) (d : ℕ) (word : List ℕ) (e : ℕ) : Type 0 where
    other : Package
    is_package : Between other
    of_path : other.path ≡ path
    seen : DoesExport other e
    named : other.names e ≡ word
    become : (x : Declaration) → HasBecome v known second (Declared path e) x → HasBecome w known r (Declared path d) x

  between : (y : Package) (u : ℕ) (path : List ℕ) (d : ℕ) → IsQualifiedUse Known y u path d → (e : ℕ) × IsBetween path d (y.names u) e
  between y u path d b = elim (cases_bytes path p.path) [
    | inl same ↦
        (let one : b.other ≡ p = one_package w known b.other p b.is_package h.is_package (b.of_path ∙ same) in
        let seen : DoesExport p d = subst (λ (x : Package). DoesExport x d) one b.seen in
        let named : p.names d ≡ y.names u = subst (λ (x : Package). x.names d ≡ y.names u) one b.named in
        let own_one = level_declared p h.is_package d seen.package_level in
        let place = have_places w known p h.is_package d seen.counts own_one in
        let old : IsDeclaredAt Known (Declared p.path d) place.0 = record {
          inside = p;
          is_package = h.is_package;
          of_path = refl;
          holds = record {
            at = p.layout.place (literal_of p.layout d);
            is_at = record { own = own_one; counts = seen.counts; stands = refl };
            begins = place.1;
          };
        } in (
          g d,
          record {
            other = q;
            is_package = f.renames.is_package;
            of_path = f.gained.renumbered.path ∙ sym same;
            seen = exports_still d seen;
            named = numbers.named_first w known p n name s h f d ∙ named;
            become = λ x k.
                subst (λ t. HasBecome w known r (Declared t d) x) (sym same)
                (after.became w known p n name s h f (Declared p.path d) (Declared q.path (g d)) x place.0 old (tokens.declared w known p n name s h f d
                place.0 old)
                (subst (λ t. HasBecome v known second (Declared t (g d)) x) (same ∙ sym f.gained.renumbered.path) k));
          },
        ))
    | inr away ↦
        (let far : b.other.path ≡ p.path → ⊥ = (λ e. away (sym b.of_path ∙ e)) in (
          d,
          record {
            other = b.other;
            is_package = numbers.other_package w known p n name s h f b.other far b.is_package;
            of_path = b.of_path;
            seen = b.seen;
            named = b.named;
            become = λ x k.
                subst (λ t. HasBecome w known r (Declared t d) x) b.of_path
                (becomes_elsewhere b.other b.is_package far d (level_declared b.other b.is_package d b.seen.package_level) b.seen.counts x
                (subst (λ t. HasBecome v known second (Declared t d) x) (sym b.of_path) k));
          },
        ))
  ]

  -- By the second step the identifier `k` of the package `z` is what the identifier `u` of `y` is before both.
  record IsSameUser (y : Package) (u : ℕ) (place : Place) (z : Package) (k : ℕ) : Type 0 where
    is_package : Between z
    begins : BeginsAt z (moved f.naming place).path (moved f.naming place).offset k
    named : z.names k ≡ y.names u
    qualified : (path : List ℕ) → IsQualifiedByPath y u path → IsQualifiedByPath z k path

  module _ (y : Package) (is : Known y) (u : ℕ) (place : Place) (z : Package) (k : ℕ) (i : IsSameUser y u place z k) where
    abbrev to : Place
    to = moved f.naming place

    second_behind : StaysByPackage v known second z k to
    second_behind =
        behind_stays v known q n name f.renaming f.renames z i.is_package k to i.begins
        (λ by t. none_behind v known q n name f.renaming f.renames (numbers.no_level w known p n name s h f) to z i.is_package k i.begins by t)

    export_still : (path : List ℕ) (e : Declaration) (b : Package) → Known b → b.path ≡ path → (c : Package) → Between c → c.path ≡ path →
        IsExportAfter v second path (second.called to (z.names k)) e → IsExportAfter w r path (r.called place (y.names u)) e
    export_still path e b known_b at_b c between_c at_c x =
        let stays : PackageMovesTo v second path path =
        subst (λ t. PackageMovesTo v second t t) at_c
        (stays_there v known second (keeps_path v known (Declared q.path n) name f.renaming f.renames.rename.rename) c between_c) in
        let goes : PackageMovesTo w r path path =
        subst (λ t. PackageMovesTo w r t t) at_b (stays_there w known r (keeps_path w known (Declared p.path n) name s h.rename) b known_b) in
        let same : x.other.path ≡ path = one_goal v second path x.other.path path x.goes stays in
        let called : second.called to (z.names k) ≡ r.called place (y.names u) = ap (second.called to) i.named ∙ sym (f.calls place (y.names u)) in
        record {
          other = x.other;
          is_package = subst (λ (t : Workspace). IsScopedIn t x.other) (sym f.files) x.is_package;
          goes = subst (λ t. PackageMovesTo w r path t) (sym same) goes;
          declaration = x.declaration;
          seen = x.seen;
          named = x.named ∙ called;
          exported = x.exported;
        }

    behind_stays_so : StaysByPackage w known r y u place
    behind_stays_so (Predeclared d) b = absurd b
    behind_stays_so (Field t) b = absurd b
    behind_stays_so (Method t) b = absurd b
    behind_stays_so (Declared path d) b =
        let m = between y u path d b in
        let use_of : BindsQualified Between z k (Declared path m.0) = record {
          behind = i.qualified path b.behind;
          other = m.1.other;
          is_package = m.1.is_package;
          of_path = m.1.of_path;
          seen = m.1.seen;
          named = m.1.named ∙ sym i.named;
        } in
        let x = second_behind (Declared path m.0) use_of in
        let one : path ≡ x.bound.path =
        one_behind z (layout_formed v known z.path z i.is_package.is_checked) k path x.bound.path use_of.behind x.bound.behind in
        record {
          declaration = x.declaration;
          bound = record {
            path = path;
            behind = b.behind;
            exports =
                export_still path x.declaration b.other b.is_package b.of_path m.1.other m.1.is_package m.1.of_path
                (subst (λ t. IsExportAfter v second t (second.called to (z.names k)) x.declaration) (sym one) x.bound.exports);
          };
          become = m.1.become x.declaration x.become;
        }

  pub stays_behind : (y : Package) → Known y → (u : ℕ) (place : Place) → BeginsAt y place.path place.offset u → StaysByPackage w known r y u place
  stays_behind y is u place begins = elim (cases_bytes y.path p.path) [
    | inl same ↦
        (let one : y ≡ p = one_package w known y p is h.is_package same in
        let here : BeginsAt p place.path place.offset u = subst (λ (x : Package). BeginsAt x place.path place.offset u) one begins in
        subst (λ (x : Package). StaysByPackage w known r x u place) (sym one)
        (behind_stays_so p h.is_package u place q (g u) (record {
          is_package = f.renames.is_package;
          begins = tokens.begins w known p n name s h f u place here;
          named = numbers.named_first w known p n name s h f u;
          qualified = λ path b. qualified u path here.0.0 b;
        })))
    | inr away ↦
        behind_stays_so y is u place y u (record {
          is_package = numbers.other_package w known p n name s h f y away is;
          begins = subst (λ (t : Place). BeginsAt y t.path t.offset u) (sym (unmoved y is away u place begins)) begins;
          named = refl;
          qualified = λ path b. b;
        })
  ]
