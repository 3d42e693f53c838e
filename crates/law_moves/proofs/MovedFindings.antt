-- The moved findings of packages are right on the edited workspace, and so are the moved known verdicts.
use Rattle.std.proofs.Common.{ℕ, ◌≡◌, ◌<◌, false, List, [], length, map, ap, refl, sym, subst, ◌∙◌}
use Rattle.std.specs.Prelude.{Contains, Some, slice_get, option_map}
use Rattle.std.specs.List.Sorted.{IsStrictlySortedBy}
use Rattle.std.proofs.lemmas.Bool.{true≢false}
use Rattle.std.proofs.lemmas.List.{length-map}
use Rattle.std.proofs.lemmas.Option.{slice_get-map}
use Rattle.base_lemmas.proofs.Elements.{nothing_in}
use Rattle.base_edits.specs.EditSet.{FileChanges, edited}
use Rattle.base_files.specs.Packages.{package_paths}
use Rattle.base_files.specs.Workspace.{Workspace}
use Rattle.go_ast.specs.SourceFile.{SourceFile}
use Rattle.go_ast.specs.Tree.{FileTree}
use Rattle.go_scope.specs.declared.model.Position.{Position}
use Rattle.go_scope.specs.Bindings.{Layout}
use Rattle.std.specs.Global.{Vec}
use Rattle.types_expr.specs.declared.found.MemberUse.{MemberUse as FoundUse}
use Rattle.types_expr.specs.declared.found.Entering.{Entering as FoundEntering}
use Rattle.types_expr.specs.Judge.{MemberUse, Entering, members_of, enterings_of}
use Rattle.types_stmt.specs.Checked.{FoundSoFar}
use Rattle.types_declared.specs.ExportTablesView.{export_data_known}
use Rattle.types_declared.specs.Package.{Package}
use Rattle.types_declared.specs.Written.{DeclaresImport}
use Rattle.types_info.specs.declared.lists.Qualified.{Qualified}
use Rattle.types_info.specs.Lists.{IsListedUnder}
use Rattle.types_info.specs.MemberUses.{AreMemberUses, AreUsesIn, uses_in, AreEnterings, AreEnteringsIn, enterings_in}
use Rattle.types_info.specs.QualifiedIdentifiers.{AreQualified, IsQualifiedAt, NamesPackage}
use Rattle.workspace_check.specs.declared.fault.FileFault.{FileFault}
use Rattle.workspace_check.specs.declared.finding.Finding.{Finding}
use Rattle.workspace_check.specs.declared.known.Known.{Known}
use Rattle.workspace_check.specs.declared.known.KnownVerdict.{KnownVerdict}
use Rattle.workspace_check.specs.FaultLists.{IsFaultOfSome, ListsFaults}
use Rattle.workspace_check.specs.Faults.{fault_cmp}
use Rattle.workspace_check.specs.Found.{KnowsVerdicts}
use Rattle.workspace_check.specs.KnownFindings.{AreQualifiedOf, AreUsesOf, IsFindingOf, IsKnownVerdict, verdict_from, AreEnteringsOf}
use Rattle.workspace_check.specs.Laws.{IsSameVerdict}
use Rattle.workspace_check.specs.Verdicts.{Verdicts, AreVerdicts, AreVerdictsBelow, IsFaultBy, IsPackageIn, IsVerdict}
use Rattle.workspace_check.proofs.Alike.{package_as}
use Rattle.workspace_check.proofs.OneVerdict.{one_verdict, right_alike, right_below, verdict_by}
use Rattle.workspace_check.proofs.PackageFiles.{at_rank}
use Rattle.refs_binding.specs.Uses.{IsCheckedPackage}
use Rattle.law_faultless.proofs.PackageWorlds.{have_worlds}
use Rattle.law_changed_types.specs.SameBindings.{trees_of}
use Rattle.law_renamed_workspaces.proofs.Findings.{file_there, same_verdict}
use Rattle.law_renamed_workspaces.proofs.PackagesAfter.{known_faultless}
use Rattle.law_changed_types.specs.Moved.{PathMap, IsInjective, moved_use, moved_entering, moved_checked}
use Rattle.law_changed_types.specs.Moves.{FilesMove}
use Rattle.law_changed_types.specs.MovedPackage.{IsMovedPackage, WorldsMove}
use Rattle.law_changed_types.proofs.Inversions.{some_back}
use Rattle.law_changed_types.proofs.Written.{binds, binds_back}
use Rattle.law_moves.specs.Moves.{IsMove}
use Rattle.refactor_known.specs.MovedData.{moved_data}
use Rattle.refactor_known.specs.MovedKnown.{AreMovedKnown, IsMovedFinding, IsMovedKnown, listed, moved_listed}
use Rattle.refactor_known.specs.Swaps.{swapped}
use Rattle.law_moves.specs.MovedVerdicts.{IsBoundAfterMove, IsCheckedThere, MovesBySwap, moved_verdicts}
use Rattle.law_moves.proofs.CheckedThere.{checked_there, data_at}
use Rattle.law_moves.proofs.MovedVerdicts.{are_right}
use Rattle.law_moves.proofs.PathsAfter.{has_now}
use Rattle.law_moves.proofs.Swapped.{injective}
use Rattle.law_moves.proofs.TypeFaults.{found_moves}
use Rattle.types_expr.specs.World.{World}
use Rattle.law_changed_types.proofs.ChangedNotes.{members_moved, enterings_moved}
use Rattle.types_stmt.specs.Declarations.{check_file}
use Rattle.types_info.specs.Worlds.{IsWorldOf, is_init}

empty_in_order : IsStrictlySortedBy fault_cmp []
unfolding IsStrictlySortedBy
empty_in_order = tt

-- an element of a mapped list
got_back : {A B : Type 0} (f : A → B) (xs : List A) (k : ℕ) (y : B) → slice_get (map f xs) k ≡ Some y → (a : A) × ((slice_get xs k ≡ Some a) × (y ≡ f a))
got_back f xs k y at =
    some_back f (slice_get xs k) y (sym (slice_get-map f xs k) ∙ at)

same_count : (fs hs : List SourceFile) → trees_of hs ≡ trees_of fs → length fs ≡ length hs
same_count fs hs trees =
    let tree : SourceFile → FileTree = λ x. x.tree in sym (length-map fs tree) ∙ ap length (sym trees) ∙ length-map hs tree

-- qualified identifiers

module _ (g : PathMap) (inj : IsInjective g) (inverse : (path : List ℕ) → g (g path) ≡ path) (p q : Package) (a : IsMovedPackage g p q) where
  qualified_now : (path : List ℕ) (at : Position) → IsQualifiedAt p p.size path at → IsQualifiedAt q q.size (g path) at
  qualified_now path at h =
      let u = h.identifier in
      let n = h.behind.named in
      let named : NamesPackage q (p.layout.place u).file h.behind.before (g path) = record {
        import = n.import;
        binds = binds g inj p q a (p.layout.place u).file h.behind.before n.import n.binds;
        imports = (a.imports n.import).forth path n.imports;
      } in
      record {
        identifier = u;
        below = subst (λ k. u < k) (sym a.size) h.below;
        is_at = ap (λ (l : Layout). l.place u) a.layout ∙ h.is_at;
        behind = record {
          selected = ap (λ (l : Layout). l.role u) a.layout ∙ h.behind.selected;
          before = h.behind.before;
          behind_dot = ap (λ (l : Layout). (l.place u).index) a.layout ∙ h.behind.behind_dot;
          named = subst (λ (l : Layout). NamesPackage q (l.place u).file h.behind.before (g path)) (sym a.layout) named;
        };
      }

  qualified_was : (path : List ℕ) (at : Position) → IsQualifiedAt q q.size path at → IsQualifiedAt p p.size (g path) at
  qualified_was path at h =
      let u = h.identifier in
      let n : NamesPackage q (p.layout.place u).file h.behind.before path =
      subst (λ (l : Layout). NamesPackage q (l.place u).file h.behind.before path) a.layout h.behind.named in
      let old = (a.imports n.import).back path n.imports in
      let same : g path ≡ old.0 = ap g old.1.0 ∙ inverse old.0 in
      record {
        identifier = u;
        below = subst (λ k. u < k) a.size h.below;
        is_at = ap (λ (l : Layout). l.place u) (sym a.layout) ∙ h.is_at;
        behind = record {
          selected = ap (λ (l : Layout). l.role u) (sym a.layout) ∙ h.behind.selected;
          before = h.behind.before;
          behind_dot = ap (λ (l : Layout). (l.place u).index) (sym a.layout) ∙ h.behind.behind_dot;
          named = record {
            import = n.import;
            binds = binds_back g inj p q a (p.layout.place u).file h.behind.before n.import n.binds;
            imports = subst (DeclaresImport p n.import) (sym same) old.1.1;
          };
        };
      }

  listed_now : (was now : List Qualified) → map listed now ≡ map (moved_listed g) (map listed was) → (path : List ℕ) (at : Position) →
      IsListedUnder was path at → IsListedUnder now (g path) at
  listed_now was now same path at l =
      let k = l.0 in
      let old = l.1 in
      let o = got_back listed now k (g old.list.path.items, old.list.places.items)
      (ap (λ xs. slice_get xs k) same ∙ slice_get-map (moved_listed g) (map listed was) k
      ∙ ap (option_map (moved_listed g)) (slice_get-map listed was k ∙ ap (option_map listed) old.has_number)) in (
        k,
        record {
          list = o.0;
          has_number = o.1.0;
          of_path = ap (λ (x : List ℕ × List Position). x.0) (sym o.1.1) ∙ ap g old.of_path;
          holds = subst (λ (xs : List Position). Contains xs at) (ap (λ (x : List ℕ × List Position). x.1) o.1.1) old.holds;
        },
      )

  listed_was : (was now : List Qualified) → map listed now ≡ map (moved_listed g) (map listed was) → (path : List ℕ) (at : Position) →
      IsListedUnder now (g path) at → IsListedUnder was path at
  listed_was was now same path at l =
      let k = l.0 in
      let new = l.1 in
      let o = got_back (moved_listed g) (map listed was) k (new.list.path.items, new.list.places.items)
      (ap (λ xs. slice_get xs k) (sym same) ∙ slice_get-map listed now k ∙ ap (option_map listed) new.has_number) in
      let q = got_back listed was k o.0 o.1.0 in
      let path_was : (listed q.0).0 ≡ path =
      inj (listed q.0).0 path (ap (λ (x : List ℕ × List Position). g x.0) (sym q.1.1) ∙ ap (λ (x : List ℕ × List Position). x.0) (sym o.1.1)
      ∙ new.of_path) in (
        k,
        record {
          list = q.0;
          has_number = q.1.0;
          of_path = path_was;
          holds = subst (λ (xs : List Position). Contains xs at)
              (ap (λ (x : List ℕ × List Position). x.1) o.1.1 ∙ ap (λ (x : List ℕ × List Position). x.1) q.1.1) new.holds;
        },
      )

  are_qualified : (was now : List Qualified) → map listed now ≡ map (moved_listed g) (map listed was) → AreQualified p was → AreQualified q now
  are_qualified was now same h path at =
      let back : g (g path) ≡ path = inverse path in (
        λ l. subst (λ r. IsQualifiedAt q q.size r at) back
            (qualified_now (g path) at
            ((h (g path) at).0 (listed_was was now same (g path) at (subst (λ r. IsListedUnder now r at) (sym back) l)))),
        λ is. subst (λ r. IsListedUnder now r at) back (listed_now was now same (g path) at ((h (g path) at).1 (qualified_was path at is))),
      )

module _ (worlds_move : WorldsMove) (files_move : FilesMove) (w : Workspace) (before : Verdicts) (from to : List ℕ) (s : FileChanges)
    (h : IsMove w before from to s) (swap : MovesBySwap w from to)
    (bound : (p : Package) → IsCheckedPackage w before p → (q : Package) × IsBoundAfterMove w from to s p q) where
  abbrev x : Workspace
  x = edited s w

  abbrev g : PathMap
  g = swapped from to

  abbrev after : Verdicts
  after = moved_verdicts h.edits.moved g before

  right : AreVerdicts x after
  right = are_right worlds_move files_move w before from to s h swap bound

  no_fault_left : (f : FileFault) → IsFaultOfSome x after f → ⊥
  no_fault_left f k =
      let told = verdict_by x k.path after (after k.path) (right_below x after right k.path) (right k.path k.is_package) in
      true≢false (sym (told.has_faults.1 (f, k.is_fault)))

  pub sound : ListsFaults x []
  sound = record {
    known = after;
    right = right;
    listed = record { in_order = empty_in_order; each = λ f. ((λ c. absurd (nothing_in f c)), (λ k. absurd (no_fault_left f k))) };
  }

  module _ (path : List ℕ) (has : Contains (package_paths w) path) (known : Verdicts) (below : AreVerdictsBelow w path known) (c : Package)
      (is : IsPackageIn w known path c) where
    own_path : c.path ≡ path
    own_path = ap (λ (z : Package). z.path) is.is_package.is_package

    own_package : IsCheckedPackage w before c
    own_package = record {
      of_workspace = subst (Contains (package_paths w)) (sym own_path) has;
      is_checked = subst (λ r. IsPackageIn w before r c) (sym own_path)
          (package_as w path known before (right_alike w path known before below (right_below w before h.right path)) c is);
    }

    there : (o : Package) × IsCheckedThere w before after from to s c o
    there = let b = bound c own_package in checked_there w before from to s h swap c b.0 own_package b.1

    abbrev q : Package
    q = there.0

    moved : IsMovedPackage g c q
    moved = there.1.moved

    in_place : IsPackageIn x after (g path) q
    in_place = subst (λ r. IsPackageIn x after r q) (moved.path ∙ ap g own_path) there.1.is.is_checked

    -- the check of a file, moved
    same_there : (file : ℕ) (source : SourceFile) (world : World) (in_file : slice_get c.files file ≡ Some source) → IsWorldOf c file source world →
        let k = file_there c.files q.files moved.trees file source in_file in
        let y = have_worlds x sound after right q there.1.is file k.0 k.1 in
        check_file y.0 (is_init k.0) k.0.tree ≡ moved_checked g (check_file world (is_init source) source.tree)
    same_there file source world in_file judged =
        let k = file_there c.files q.files moved.trees file source in_file in
        let y = have_worlds x sound after right q there.1.is file k.0 k.1 in
        found_moves worlds_move files_move g (injective w from to swap) w h.sound before h.right from to s c there.1.there own_package there.1.bound
        x after q there.1.is.is_checked moved (sym there.1.scopes.files) file source k.0 world y.0 in_file k.1 judged y.1

    uses_there : (file : ℕ) (old : List MemberUse) → AreUsesIn c file old → AreUsesIn q file (map (moved_use g) old)
    uses_there file old u =
        let k = file_there c.files q.files moved.trees file u.source u.in_file in
        let y = have_worlds x sound after right q there.1.is file k.0 k.1 in
        record {
          source = k.0;
          in_file = k.1;
          world = y.0;
          judged_by = y.1;
          found =
              ap (map (moved_use g)) u.found
              ∙ sym (ap (λ (z : FoundSoFar). members_of z.uses) (same_there file u.source u.world u.in_file u.judged_by)
              ∙ members_moved g (check_file u.world (is_init u.source) u.source.tree).uses);
        }

    enterings_there : (file : ℕ) (old : List Entering) → AreEnteringsIn c file old → AreEnteringsIn q file (map (moved_entering g) old)
    enterings_there file old u =
        let k = file_there c.files q.files moved.trees file u.source u.in_file in
        let y = have_worlds x sound after right q there.1.is file k.0 k.1 in
        record {
          source = k.0;
          in_file = k.1;
          world = y.0;
          judged_by = y.1;
          found =
              ap (map (moved_entering g)) u.found
              ∙ sym (ap (λ (z : FoundSoFar). enterings_of z.uses) (same_there file u.source u.world u.in_file u.judged_by)
              ∙ enterings_moved g (check_file u.world (is_init u.source) u.source.tree).uses);
        }

    members_there : (was now : List (Vec FoundUse)) → map uses_in now ≡ map (map (moved_use g)) (map uses_in was) → AreMemberUses c (map uses_in was) →
        AreUsesOf x after (g path) now
    members_there was now same are = record {
      checked = q;
      is_package = in_place;
      are_uses = record {
        all = ap length same ∙ length-map (map uses_in was) (map (moved_use g)) ∙ are.all ∙ same_count c.files q.files moved.trees;
        each = λ file uses at. (
            let o = got_back (map (moved_use g)) (map uses_in was) file uses (ap (λ l. slice_get l file) (sym same) ∙ at) in
            subst (AreUsesIn q file) (sym o.1.1) (uses_there file o.0 (are.each file o.0 o.1.0)));
      };
    }

    all_enterings_there : (was now : List (Vec FoundEntering)) → map enterings_in now ≡ map (map (moved_entering g)) (map enterings_in was) →
        AreEnterings c (map enterings_in was) → AreEnteringsOf x after (g path) now
    all_enterings_there was now same are = record {
      checked = q;
      is_package = in_place;
      are_enterings = record {
        all = ap length same ∙ length-map (map enterings_in was) (map (moved_entering g)) ∙ are.all ∙ same_count c.files q.files moved.trees;
        each = λ file list at. (
            let o = got_back (map (moved_entering g)) (map enterings_in was) file list (ap (λ l. slice_get l file) (sym same) ∙ at) in
            subst (AreEnteringsIn q file) (sym o.1.1) (enterings_there file o.0 (are.each file o.0 o.1.0)));
      };
    }

    qualified_there : (was now : List Qualified) → map listed now ≡ map (moved_listed g) (map listed was) → AreQualified c was →
        AreQualifiedOf x after (g path) now
    qualified_there was now same are = record {
      checked = q;
      is_package = in_place;
      are_qualified = are_qualified g (injective w from to swap) swap.inverse c q moved was now same are;
    }

  -- no package has a fault
  now_fine : (path : List ℕ) → Contains (package_paths w) path → (f : FileFault) → IsFaultBy x after (g path) f → ⊥
  now_fine path has f k = no_fault_left f (record { path = g path; is_package = has_now w before from to s h swap path has; is_fault = k })

  pub finding_moves : (path : List ℕ) → Contains (package_paths w) path → (was now : Finding) → IsFindingOf w path was → IsMovedFinding g was now →
      IsFindingOf x (g path) now
  finding_moves path has was now k m = record {
    known = after;
    right = right_below x after right (g path);
    finding = record {
      has_path = m.path ∙ ap g k.finding.has_path;
      listed = record {
        in_order = subst (IsStrictlySortedBy fault_cmp) (sym m.still_faultless) empty_in_order;
        each = λ f. (
          (λ c. absurd (nothing_in f (subst (λ l. Contains l f) m.still_faultless c))),
          (λ fault. absurd (now_fine path has f fault)),
        );
      };
      members = λ e. (let u = k.finding.members m.faultless in
          members_there path has k.known k.right u.checked u.is_package was.members.items now.members.items m.members u.are_uses);
      enterings = λ e. (let u = k.finding.enterings m.faultless in
          all_enterings_there path has k.known k.right u.checked u.is_package was.enterings.items now.enterings.items m.enterings u.are_enterings);
      qualified = λ e. (let u = k.finding.qualified m.faultless in
          qualified_there path has k.known k.right u.checked u.is_package was.qualified.items now.qualified.items m.qualified u.are_qualified);
    };
  }

  pub known_moves : (path : List ℕ) → Contains (package_paths w) path → (was now : KnownVerdict) → IsKnownVerdict w path was →
      IsMovedKnown h.edits.moved.from h.edits.moved.name g was now → IsKnownVerdict x (g path) now
  known_moves path has was now k m = record {
    right = subst (IsVerdict x (g path)) (sym same) (right (g path) (has_now w before from to s h swap path has));
    finding = finding_moves path has was.finding now.finding k.finding m.finding;
  }
    where
      own : was.finding.path ≡ path
      own = k.finding.finding.has_path

      one : IsSameVerdict (verdict_from path was.known) (before path)
      one = one_verdict w path (verdict_from path was.known) (before path) k.right (h.right path has)

      same_data : export_data_known path was.known ≡ (before path).export_data
      same_data = one.export_data (one.faulty ∙ known_faultless w h.sound before h.right path has)

      same : verdict_from (g path) now.known ≡ after (g path)
      same =
          subst (λ r. verdict_from (g r) now.known ≡ record {
            faulty = false;
            export_data = moved_data h.edits.moved.from h.edits.moved.name g r
                (export_data_known r was.known);
          })
          own m.verdict
          ∙ same_verdict (record {
            faulty = false;
            export_data = moved_data h.edits.moved.from h.edits.moved.name g path (export_data_known path was.known);
          }) (after (g path)) refl
          (ap (moved_data h.edits.moved.from h.edits.moved.name g path) same_data ∙ sym (data_at w before from to s h swap path))

  pub all_move : (old rest : Known) → KnowsVerdicts w old → AreMovedKnown h.edits.moved.from h.edits.moved.name g (package_paths w) (package_paths x) old rest →
      KnowsVerdicts x rest
  all_move old rest knows move n path one at listed =
      let o = move n path one at listed in
      subst (λ r. IsKnownVerdict x r one) (sym o.goes)
      (known_moves o.old (at_rank (package_paths w) o.number o.old o.of_number) o.was one (knows o.number o.old o.was o.of_number o.at_number) o.moved)
