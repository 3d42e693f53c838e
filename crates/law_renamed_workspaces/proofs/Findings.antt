-- The findings of packages are right after a plain rename that loses and captures no identifier. So are verdicts with equal export data.
use Rattle.std.proofs.Common.{ℕ, ◌≡◌, Bool, false, List, [], ◌∷◌, map, length, ap, sym, subst, refl, ◌∙◌, arith}
use Rattle.std.specs.Prelude.{◌<◌, Option, Some, None, slice_get, option_map, Contains}
use Rattle.std.proofs.lemmas.List.{length-map}
use Rattle.std.proofs.lemmas.Option.{none-some, slice_get-map}
use Rattle.std.proofs.Math.Path.{ap₂}
use Rattle.base_edits.specs.EditSet.{FileChanges, edited}
use Rattle.base_files.specs.Packages.{package_paths}
use Rattle.base_files.specs.Workspace.{Workspace}
use Rattle.go_ast.specs.SourceFile.{SourceFile}
use Rattle.go_ast.specs.Tree.{FileTree}
use Rattle.go_scope.specs.declared.model.Position.{Position}
use Rattle.go_scope.specs.Bindings.{Layout}
use Rattle.types_expr.specs.Judge.{MemberUse, Entering, members_of, enterings_of}
use Rattle.types_stmt.specs.Checked.{FoundSoFar}
use Rattle.types_declared.specs.Package.{Package, ExportData}
use Rattle.types_info.specs.declared.lists.Qualified.{Qualified}
use Rattle.types_info.specs.MemberUses.{AreUsesIn, AreMemberUses, uses_in, AreEnteringsIn, AreEnterings, enterings_in}
use Rattle.types_info.specs.QualifiedIdentifiers.{NamesPackage, IsQualifiedByPath, IsQualifiedAt, AreQualified}
use Rattle.workspace_check.specs.declared.fault.FileFault.{FileFault}
use Rattle.workspace_check.specs.declared.finding.Finding.{Finding}
use Rattle.workspace_check.specs.declared.known.KnownVerdict.{KnownVerdict}
use Rattle.workspace_check.specs.FaultLists.{ListsFaults}
use Rattle.workspace_check.specs.KnownFindings.{verdict_from, AreUsesOf, AreQualifiedOf, IsFindingOf, IsKnownVerdict, AreEnteringsOf}
use Rattle.workspace_check.specs.Verdicts.{Verdict, Verdicts, AreVerdicts, AreVerdictsBelow, IsPackageIn, IsFaultBy, IsVerdict}
use Rattle.workspace_check.proofs.Alike.{fault_as, package_as}
use Rattle.workspace_check.proofs.OneList.{no_fault}
use Rattle.workspace_check.proofs.OneVerdict.{one_verdict, right_alike, right_below}
use Rattle.refs_binding.specs.declared.declaration.Declaration.{Declaration}
use Rattle.refs_binding.specs.Uses.{IsCheckedPackage}
use Rattle.law_faultless.proofs.PackageWorlds.{have_worlds}
use Rattle.law_changed_types.specs.SameBindings.{trees_of}
use Rattle.law_changed_types.proofs.Alike.{Alike, of_bound, turned, tokens}
use Rattle.law_renamed_workspaces.specs.VerdictsStay.{IsPackageAfter}
use Rattle.law_renamed_workspaces.proofs.Laws.{found}
use Rattle.law_renamed_workspaces.specs.KnownVerdicts.{IsKeptRename}
use Rattle.law_renamed_workspaces.proofs.PackagesAfter as moved

-- qualified identifiers

by_path : (p q : Package) → Alike p q → (u : ℕ) (path : List ℕ) → IsQualifiedByPath p u path → IsQualifiedByPath q u path
by_path p q a u path h =
    let names : NamesPackage q (p.layout.place u).file h.before path = record {
      import = h.named.import;
      binds = tokens p q a (p.layout.place u).file h.before h.named.import h.named.binds;
      imports = (a.imports h.named.import path).0 h.named.imports;
    } in
    record {
      selected = ap (λ (l : Layout). l.role u) a.layout ∙ h.selected;
      before = h.before;
      behind_dot = ap (λ (l : Layout). (l.place u).index) a.layout ∙ h.behind_dot;
      named = subst (λ (l : Layout). NamesPackage q (l.place u).file h.before path) (sym a.layout) names;
    }

qualified_at : (p q : Package) → Alike p q → (path : List ℕ) (at : Position) → IsQualifiedAt p p.size path at → IsQualifiedAt q q.size path at
qualified_at p q a path at h = record {
  identifier = h.identifier;
  below = subst (λ m. h.identifier < m) (sym a.size) h.below;
  is_at = ap (λ (l : Layout). l.place h.identifier) a.layout ∙ h.is_at;
  behind = by_path p q a h.identifier path h.behind;
}

pub qualified_stay : (p q : Package) → Alike p q → (all : List Qualified) → AreQualified p all → AreQualified q all
qualified_stay p q a all h = λ path at. (
  (λ listed. qualified_at p q a path at ((h path at).0 listed)),
  (λ is. (h path at).1 (qualified_at q p (turned p q a) path at is)),
)

-- uses of members

pub file_there : (fs gs : List SourceFile) → trees_of gs ≡ trees_of fs → (k : ℕ) (f : SourceFile) → slice_get fs k ≡ Some f →
    (g : SourceFile) × (slice_get gs k ≡ Some g)
file_there fs gs trees k f at = by_option (slice_get gs k) refl
  where
    by_option : (o : Option SourceFile) → slice_get gs k ≡ o → (g : SourceFile) × (slice_get gs k ≡ Some g)
    by_option None e =
        let tree : SourceFile → FileTree = λ x. x.tree in
        let none : slice_get (trees_of gs) k ≡ None = slice_get-map tree gs k ∙ ap (option_map tree) e in
        let some : slice_get (trees_of fs) k ≡ Some f.tree = slice_get-map tree fs k ∙ ap (option_map tree) at in
        absurd (none-some f.tree (sym none ∙ ap (λ ts. slice_get ts k) trees ∙ some))
    by_option (Some g) e = (g, e)

same_count : (fs gs : List SourceFile) → trees_of gs ≡ trees_of fs → length fs ≡ length gs
same_count fs gs trees =
    let tree : SourceFile → FileTree = λ x. x.tree in sym (length-map fs tree) ∙ ap length (sym trees) ∙ length-map gs tree

-- verdicts and findings

pub same_verdict : (a b : Verdict) → a.faulty ≡ b.faulty → a.export_data ≡ b.export_data → a ≡ b
same_verdict a b faulty data_same = ap₂ (λ (f : Bool) (i : ExportData). record { faulty = f; export_data = i }) faulty data_same

none_listed : {X : Type 0} (xs : List X) → ((x : X) → Contains xs x → ⊥) → xs ≡ []
none_listed [] none = refl
none_listed (x ∷ xs) none = absurd (none x (0, omega arith, refl))

module _ (w : Workspace) (before after : Verdicts) (d : Declaration) (name : List ℕ) (s : FileChanges) (h : IsKeptRename w before d name s)
    (right : AreVerdicts (edited s w) after) where
  abbrev x : Workspace
  x = edited s w

  abbrev was_sound : ListsFaults w []
  was_sound = h.plain.rename.sound

  abbrev sound : ListsFaults x []
  sound = moved.sound w before after d name s h right

  abbrev was_right : AreVerdicts w before
  was_right = h.plain.rename.right

  abbrev IsThere : (p q : Package) → Type 0
  IsThere p q = IsPackageAfter w before after s p q

  package_after : (p : Package) → IsCheckedPackage w before p → (q : Package) × IsThere p q
  package_after p was = moved.package_after w before after d name s h right p was

  has_now : (o : List ℕ) → Contains (package_paths w) o → Contains (package_paths x) o
  has_now o has = moved.has_now w before after d name s h right o has

  uses_there : (p q : Package) → IsThere p q → (file : ℕ) (uses : List MemberUse) → AreUsesIn p file uses → AreUsesIn q file uses
  uses_there p q there file uses a =
      let g = file_there p.files q.files there.relaid.trees file a.source a.in_file in
      let y = have_worlds x sound after right q there.is file g.0 g.1 in
      record {
        source = g.0;
        in_file = g.1;
        world = y.0;
        judged_by = y.1;
        found =
            a.found
            ∙ sym (ap (λ (c : FoundSoFar). members_of c.uses)
            (found w before after d name s h.plain h.kept p q there file a.source g.0 a.world y.0 a.in_file g.1 a.judged_by y.1));
      }

  enterings_there : (p q : Package) → IsThere p q → (file : ℕ) (enterings : List Entering) → AreEnteringsIn p file enterings → AreEnteringsIn q file enterings
  enterings_there p q there file enterings a =
      let g = file_there p.files q.files there.relaid.trees file a.source a.in_file in
      let y = have_worlds x sound after right q there.is file g.0 g.1 in
      record {
        source = g.0;
        in_file = g.1;
        world = y.0;
        judged_by = y.1;
        found =
            a.found
            ∙ sym (ap (λ (c : FoundSoFar). enterings_of c.uses)
            (found w before after d name s h.plain h.kept p q there file a.source g.0 a.world y.0 a.in_file g.1 a.judged_by y.1));
      }

  -- a package of `w`, by other right verdicts
  module _ (o : List ℕ) (has : Contains (package_paths w) o) (known : Verdicts) (below : AreVerdictsBelow w o known) (c : Package)
      (is : IsPackageIn w known o c) where
    own_path : c.path ≡ o
    own_path = ap (λ (z : Package). z.path) is.is_package.is_package

    is_before : IsPackageIn w before o c
    is_before = package_as w o known before (right_alike w o known before below (right_below w before was_right o)) c is

    own_package : IsCheckedPackage w before c
    own_package = record {
      of_workspace = subst (Contains (package_paths w)) (sym own_path) has;
      is_checked = subst (λ r. IsPackageIn w before r c) (sym own_path) is_before;
    }

    after_it : (q : Package) × IsThere c q
    after_it = package_after c own_package

    checked_there : IsPackageIn x after o after_it.0
    checked_there = subst (λ r. IsPackageIn x after r after_it.0) (after_it.1.relaid.path ∙ own_path) after_it.1.is.is_checked

    members_there : (members : List _) → AreMemberUses c (map uses_in members) → AreUsesOf x after o members
    members_there members are = record {
      checked = after_it.0;
      is_package = checked_there;
      are_uses = record {
        all = are.all ∙ same_count c.files after_it.0.files after_it.1.relaid.trees;
        each = λ file uses at. uses_there c after_it.0 after_it.1 file uses (are.each file uses at);
      };
    }

    all_enterings_there : (enterings : List _) → AreEnterings c (map enterings_in enterings) → AreEnteringsOf x after o enterings
    all_enterings_there enterings are = record {
      checked = after_it.0;
      is_package = checked_there;
      are_enterings = record {
        all = are.all ∙ same_count c.files after_it.0.files after_it.1.relaid.trees;
        each = λ file list at. enterings_there c after_it.0 after_it.1 file list (are.each file list at);
      };
    }

    qualified_there : (all : List Qualified) → AreQualified c all → AreQualifiedOf x after o all
    qualified_there all are = record {
      checked = after_it.0;
      is_package = checked_there;
      are_qualified = qualified_stay c after_it.0 (of_bound c after_it.0 after_it.1.bound) all are;
    }

  -- the finding of a package

  pub finding_stays : (o : List ℕ) → Contains (package_paths w) o → (f : Finding) → IsFindingOf w o f → IsFindingOf x o f
  finding_stays o has f k =
      let none : (g : FileFault) → Contains f.faults.items g → ⊥ =
      λ g listed. no_fault w was_sound o has g
      (fault_as w o k.known was_sound.known (right_alike w o k.known was_sound.known k.right (right_below w was_sound.known was_sound.right o)) g
      ((k.finding.listed.each g).0 listed)) in
      let fine : (g : FileFault) → IsFaultBy x after o g → ⊥ =
      λ g fault. no_fault x sound o (has_now o has) g
      (fault_as x o after sound.known (right_alike x o after sound.known (right_below x after right o) (right_below x sound.known sound.right o)) g fault) in
      record {
        known = after;
        right = right_below x after right o;
        finding = record {
          has_path = k.finding.has_path;
          listed = record { in_order = k.finding.listed.in_order; each = λ g. ((λ listed. absurd (none g listed)), (λ fault. absurd (fine g fault))) };
          members = λ e. (let u = k.finding.members e in members_there o has k.known k.right u.checked u.is_package f.members.items u.are_uses);
          enterings = λ e.
              (let u = k.finding.enterings e in all_enterings_there o has k.known k.right u.checked u.is_package f.enterings.items u.are_enterings);
          qualified = λ e. (let u = k.finding.qualified e in qualified_there o has k.known k.right u.checked u.is_package f.qualified.items u.are_qualified);
        };
      }

  -- the verdict on a package

  verdict_stays : (o : List ℕ) → Contains (package_paths w) o → (after o).export_data ≡ (before o).export_data → (v : Verdict) → IsVerdict w o v →
      IsVerdict x o v
  verdict_stays o has data_same v is =
      let one = one_verdict w o v (before o) is (was_right o has) in
      let fine : (before o).faulty ≡ false = moved.known_faultless w was_sound before was_right o has in
      let well : (after o).faulty ≡ false = moved.known_faultless x sound after right o (has_now o has) in
      let same : v ≡ after o = same_verdict v (after o) (one.faulty ∙ fine ∙ sym well) (one.export_data (one.faulty ∙ fine) ∙ sym data_same) in
      subst (IsVerdict x o) (sym same) (right o (has_now o has))

  pub known_stays : (o : List ℕ) → Contains (package_paths w) o → (after o).export_data ≡ (before o).export_data → (one : KnownVerdict) →
      IsKnownVerdict w o one → IsKnownVerdict x o one
  known_stays o has data_same one k = record {
    right = verdict_stays o has data_same (verdict_from o one.known) k.right;
    finding = finding_stays o has one.finding k.finding;
  }
