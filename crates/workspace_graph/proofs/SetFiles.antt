-- Drafts of which single files are set.
use Rattle.std.proofs.Common.{ℕ, ◌≡◌, ◌<◌, ◌∷◌, ◌++◌, ◌&&◌, ◌==◌, [], List, true, false, zero}
use Rattle.std.proofs.Common.{suc, ⊎_elim, ap, sym, subst, ◌∙◌, refl, Some, None, slice_get, get_or, length}
use Rattle.std.proofs.Math.ListN.{set}
use Rattle.std.specs.FinMap.{get}
use Rattle.std.specs.Cmp.Lexicographic.{pointwise, bytes_decides}
use Rattle.std.specs.List.{All, Contains}
use Rattle.std.specs.List.Sorted.{IsStrictlySortedBy}
use Rattle.std.proofs.lemmas.Bool.{and_parts, cases_eq, false_from_ne_true}
use Rattle.std.proofs.lemmas.List.{length-map}
use Rattle.std.proofs.lemmas.List.Elements.{All-contains, Contains-append_left, Contains-append_right, Contains-get_or, Contains-push, Contains-push_cases}
use Rattle.std.proofs.lemmas.Option.{get_or_from_slice_get, same_Some, slice_get_read, slice_get_within}
use Rattle.base_lemmas.proofs.Elements.{nothing_in}
use Rattle.base_files.specs.Path.{folder}
use Rattle.base_files.specs.Packages.{is_go, is_of_package}
use Rattle.base_files.specs.Workspace.{Workspace, path_cmp}
use Rattle.go_ast.specs.SourceFile.{FileParts, source_of}
use Rattle.workspace_graph.specs.Drafts.{AreDraftsAt, HasText, HasFolderFiles, KnowsImports, IsDraft, IsDraftAt, IsEmptyAt, WasTaken}
use Rattle.workspace_graph.specs.Drafts.{IsSamePackage, PutsTree, SetsFaulty, SetsTree, SetsFile, SetsFiles, RemovesFile, draft_path, draft_paths, packages_of}
use Rattle.workspace_graph.specs.FaultyFiles.{FaultyParts}
use Rattle.workspace_graph.specs.Graphs.{paths_of}
use Rattle.workspace_graph.specs.InFolder.{AreInFolder, fault_path, fault_paths, tree_path, tree_paths}
use Rattle.workspace_graph.specs.ChangedFiles.{CoverChanges, ArePackages, HaveFolders, SetsAt}
use Rattle.workspace_graph.specs.SameGoFiles.{DiffersOnlyAt, HasFiles}
use Rattle.workspace_graph.specs.Packages.{IsParsed}
use Rattle.workspace_graph.specs.Parsed.{IsFaulty}
use Rattle.workspace_graph.specs.Updated.{IsPlace, Removes, SetsIn}
use Rattle.workspace_graph.specs.declared.package.ParsedPackage.{ParsedPackage}
use Rattle.workspace_graph.specs.declared.drafts.Draft.{Draft}
use Rattle.base_edits.proofs.Held.{mapped_from}
use Rattle.workspace_graph.proofs.Filled.{set_elsewhere, set_there}
use Rattle.workspace_graph.proofs.InFolder.{has_held, held, held_none, held_apart, held_fault}
use Rattle.workspace_graph.proofs.InFolder.{held_all, held_final, held_gone, held_same, held_tree, reset_next}
use Rattle.workspace_graph.proofs.ChangedFiles.{is_among, resets_none, resets_more}
use Rattle.workspace_graph.proofs.Numbers.{path_of_package, path_there}
use Rattle.workspace_graph.proofs.PackagePaths.{none_sorted, one_number}
use Rattle.workspace_graph.proofs.UpdatedPackages.{place_apart}

-- ---- a tree, where no faulty file has its path any more
pub sets_tree : (t : FileParts) (old middle new : Draft) (place : ℕ) (path : List ℕ) → PutsTree t middle new → path ≡ t.path →
    Removes fault_path path old.package.faulty.items middle.package.faulty.items place → middle.package.path.items ≡ old.package.path.items →
    middle.package.trees.items ≡ old.package.trees.items → SetsTree t old new
sets_tree t old middle new place path puts at out same trees =
    let taken : Removes fault_path t.path old.package.faulty.items middle.package.faulty.items place =
    subst (λ (p : List ℕ). Removes fault_path p old.package.faulty.items middle.package.faulty.items place) at out in
    let gone : Removes fault_path t.path old.package.faulty.items new.package.faulty.items place =
    subst (λ (fs : List FaultyParts). Removes fault_path t.path old.package.faulty.items fs place) (sym puts.faulty) taken in
    record {
      path = puts.path ∙ same;
      draft = record { trees = puts.trees.sorted; faulty = gone.sorted; imports = puts.imports };
      trees = subst (λ (ts : List FileParts). SetsIn tree_path t ts new.package.trees.items) trees puts.trees;
      place = place;
      faulty = gone;
    }

-- ---- the removed tree
pub gone_one : (path : List ℕ) (trees : List FileParts) (n : ℕ) (gone : FileParts) → IsStrictlySortedBy path_cmp (tree_paths trees) →
    slice_get (tree_paths trees) n ≡ Some path → slice_get trees n ≡ Some gone → WasTaken path trees (Some gone)
gone_one path trees n gone sorted named at t has same =
    let there : slice_get trees has.0 ≡ Some t = slice_get_read trees (length trees) has.0 t refl has.1 (sym has.2) in
    let number : has.0 ≡ n = one_number (tree_paths trees) sorted has.0 n path (path_there tree_path trees has.0 t there ∙ ap Some same) named in
    sym at ∙ ap (slice_get trees) (sym number) ∙ there

pub gone_none : (path : List ℕ) (trees : List FileParts) (place : ℕ) → IsPlace (tree_paths trees) path place → WasTaken path trees None
gone_none path trees place stands t has same =
    absurd (place_apart (tree_paths trees) path place stands (subst (Contains (tree_paths trees)) same (
      has.0,
      subst (λ (m : ℕ). has.0 < m) (sym (length-map trees tree_path)) has.1,
      get_or_from_slice_get (tree_paths trees) has.0 t.path t.path
          (path_there tree_path trees has.0 t (slice_get_read trees (length trees) has.0 t refl has.1 (sym has.2))),
    )))

-- ---- a text that the file has already
text_there : (v : Workspace) (p : List ℕ) (trees : List FileParts) (faulty : List FaultyParts) (path text : List ℕ) → AreInFolder v p trees faulty →
    HasText trees faulty path text → get v path ≡ Some text
text_there v p trees faulty path text held has = ⊎_elim
    (λ (t : (t : FileParts) × Contains trees t × (t.path ≡ path) × (t.cut.text ≡ text)).
    ap (get v) (sym t.2) ∙ (held.tree t.0 t.1).there ∙ ap Some t.3)
    (λ (f : (f : FaultyParts) × Contains faulty f × (f.path ≡ path) × (f.text ≡ text)).
    ap (get v) (sym f.2) ∙ (held.fault f.0 f.1).there ∙ ap Some f.3)
    has

pub text_stays : (w : Workspace) (path text : List ℕ) (d : Draft) → IsDraft d → get w path ≡ Some text →
    HasText d.package.trees.items d.package.faulty.items path text → SetsFile w path d d
text_stays w path text d draft at has = record {
  same_path = refl;
  draft = draft;
  files = λ v u resets held.
      held_same resets held (at ∙ sym (text_there v d.package.path.items d.package.trees.items d.package.faulty.items path text held has));
}

-- ---- another text
pub tree_set : (w : Workspace) (path text : List ℕ) (t : FileParts) (old new : Draft) → IsParsed path text (source_of t) → SetsTree t old new →
    get w path ≡ Some text → is_of_package old.package.path.items path ≡ true → SetsFile w path old new
tree_set w path text t old new is puts at of = record {
  same_path = puts.path;
  draft = puts.draft;
  files = λ v u resets held. subst (λ p. AreInFolder u p new.package.trees.items new.package.faulty.items) (sym puts.path)
      (held_tree resets held at of is puts.trees
      (subst (λ q. Removes fault_path q old.package.faulty.items new.package.faulty.items puts.place) is.of_path puts.faulty));
}

pub fault_set : (w : Workspace) (path text : List ℕ) (f : FaultyParts) (old new : Draft) → IsFaulty path text f → SetsFaulty f old new →
    get w path ≡ Some text → is_of_package old.package.path.items path ≡ true → SetsFile w path old new
fault_set w path text f old new is puts at of = record {
  same_path = puts.path;
  draft = puts.draft;
  files = λ v u resets held. subst (λ p. AreInFolder u p new.package.trees.items new.package.faulty.items) (sym puts.path)
      (held_fault resets held at of is
      (subst (λ q. Removes tree_path q old.package.trees.items new.package.trees.items puts.place) is.of_path puts.trees) puts.faulty);
}

pub none_set : (w : Workspace) (path : List ℕ) (old new : Draft) → RemovesFile path old new → get w path ≡ None → SetsFile w path old new
none_set w path old new takes at = record {
  same_path = takes.same_path;
  draft = takes.draft;
  files = λ v u resets held. subst (λ p. AreInFolder u p new.package.trees.items new.package.faulty.items) (sym takes.same_path)
      (held_gone resets held at takes.trees takes.faulty);
}

-- ---- all of a list
pub all_from : {X : Type 0} {P : X → Type 0} (xs : List X) → ((x : X) → Contains xs x → P x) → All P xs
all_from xs each k d within = each (get_or xs k d) (Contains-get_or xs k d within)

pub there : {X : Type 0} (xs : List X) (k : ℕ) (x : X) → slice_get xs k ≡ Some x → Contains xs x
there xs k x at = (k, slice_get_within xs k x at, get_or_from_slice_get xs k x x at)

pub read : {X : Type 0} (xs : List X) (x : X) (has : Contains xs x) → slice_get xs has.0 ≡ Some x
read xs x has = slice_get_read xs (length xs) has.0 x refl has.1 (sym has.2)

-- ---- several paths, one after another
reset_to : (w v : Workspace) (paths : List (List ℕ)) → (u : Workspace) × SetsAt w paths v u
reset_to w v [] = (v, resets_none w v)
reset_to w v (path ∷ paths) =
    let first = reset_next w v path in
    let rest = reset_to w first.0 paths in
    (rest.0, resets_more w (path ∷ []) paths v first.0 rest.0 first.1 rest.1)

last_reset : (w v m u : Workspace) (paths : List (List ℕ)) (path : List ℕ) → SetsAt w paths v m → SetsAt w (paths ++ path ∷ []) v u →
    SetsAt w (path ∷ []) m u
last_reset w v m u paths path first all = record {
  own = λ q has. all.own q (Contains-append_right paths (path ∷ []) q has);
  others = λ q apart. is_among q paths
      (λ has. all.own q (Contains-append_left paths (path ∷ []) q has) ∙ sym (first.own q has))
      (λ never. all.others q (λ has. ⊎_elim never (λ (same : path ≡ q). apart (subst (Contains (path ∷ [])) same (Contains-push [] path)))
      (Contains-push_cases paths path q has)) ∙ sym (first.others q never));
}

pub sets_none : (w : Workspace) (ds : List Draft) → All IsDraft ds → SetsFiles w [] ds ds
sets_none w ds drafts = record {
  same_paths = refl;
  drafts = drafts;
  files = λ v u resets held. all_from ds (λ d has.
      held_final (All-contains (HasFolderFiles v) ds d held has) (λ path _. resets.others path (λ none. nothing_in path none)));
}

pub sets_more : (w : Workspace) (paths : List (List ℕ)) (path : List ℕ) (a b c : List Draft) → SetsFiles w paths a b → SetsFiles w (path ∷ []) b c →
    SetsFiles w (paths ++ path ∷ []) a c
sets_more w paths path a b c first second = record {
  same_paths = second.same_paths ∙ first.same_paths;
  drafts = second.drafts;
  files = λ v u resets held.
      let middle = reset_to w v paths in
      second.files middle.0 u (last_reset w v middle.0 u paths path middle.1 resets) (first.files v middle.0 middle.1 held);
}

-- ---- the package at a folder
pub empty_draft : (folder : List ℕ) (d : Draft) → draft_path d ≡ folder → d.package.trees.items ≡ [] → d.package.faulty.items ≡ [] → KnowsImports d →
    IsEmptyAt folder d
empty_draft folder d path trees faulty imports = record {
  path = path;
  empty = (trees, faulty);
  draft = record {
    trees = subst (λ (ts : List FileParts). IsStrictlySortedBy path_cmp (tree_paths ts)) (sym trees) none_sorted;
    faulty = subst (λ (fs : List FaultyParts). IsStrictlySortedBy path_cmp (fault_paths fs)) (sym faulty) none_sorted;
    imports = imports;
  };
}

pub kept_at : (before : List ParsedPackage) (folder : List ℕ) (n : ℕ) (p : ParsedPackage) (d : Draft) → slice_get (paths_of before) n ≡ Some folder →
    slice_get before n ≡ Some p → IsDraft d → IsSamePackage d.package p → IsDraftAt before folder d
kept_at before folder n p d named at draft same = record {
  path = same.path ∙ same_Some p.path.items folder (sym (path_there path_of_package before n p at) ∙ named);
  draft = draft;
  files = λ v are.
      let h = held v p (All-contains (HasFiles v) before p are.files (there before n p at)) in
      subst (λ q. AreInFolder v q d.package.trees.items d.package.faulty.items) (sym same.path)
      (subst (λ ts. AreInFolder v p.path.items ts d.package.faulty.items) (sym same.trees)
      (subst (λ fs. AreInFolder v p.path.items p.trees.items fs) (sym same.faulty) h));
}

pub none_at : (before : List ParsedPackage) (folder : List ℕ) (d : Draft) → (Contains (paths_of before) folder → ⊥) → IsEmptyAt folder d →
    IsDraftAt before folder d
none_at before folder d never empty = record {
  path = empty.path;
  draft = empty.draft;
  files = λ v are.
      subst (λ q. AreInFolder v q d.package.trees.items d.package.faulty.items) (sym empty.path)
      (subst (λ ts. AreInFolder v folder ts d.package.faulty.items) (sym empty.empty.0)
      (subst (λ fs. AreInFolder v folder [] fs) (sym empty.empty.1) (held_none v before folder are never)));
}

pub paths_push : (ds : List Draft) (d : Draft) (rest : List (List ℕ)) → draft_paths (ds ++ d ∷ []) ++ rest ≡ draft_paths ds ++ draft_path d ∷ rest
paths_push [] d rest = refl
paths_push (x ∷ ds) d rest = ap (λ paths. draft_path x ∷ paths) (paths_push ds d rest)

-- ---- one path in several packages
of_other : (p path : List ℕ) → (folder path ≡ p → ⊥) → is_of_package p path ≡ false
of_other p path apart = false_from_ne_true (is_of_package p path)
    (λ is. apart ((bytes_decides (folder path) p).0 (and_parts (is_go path) (pointwise ◌==◌ (folder path) p) is).1))

paths_same : (ds : List Draft) → paths_of (packages_of ds) ≡ draft_paths ds
paths_same [] = refl
paths_same (d ∷ ds) = ap (λ rest. d.package.path.items ∷ rest) (paths_same ds)

-- the one that was found by a folder
pub found_at : (ds : List Draft) (n : ℕ) (b : Draft) (path : List ℕ) → slice_get (draft_paths ds) n ≡ Some (folder path) → b ≡ get_or ds n b →
    (slice_get ds n ≡ Some b) × (folder path ≡ draft_path b)
found_at ds n b path named is =
    let within : n < length ds = subst (λ (m : ℕ). n < m) (length-map ds draft_path) (slice_get_within (draft_paths ds) n (folder path) named) in
    let at = slice_get_read ds (length ds) n b refl within is in
    (at, same_Some (folder path) (draft_path b) (sym named ∙ path_there draft_path ds n b at))

set_paths : (ds : List Draft) (n : ℕ) (b a : Draft) → slice_get ds n ≡ Some b → a.package.path.items ≡ b.package.path.items →
    draft_paths (set ds n a) ≡ draft_paths ds
set_paths [] n b a at same = refl
set_paths (d ∷ ds) zero b a at same =
    ap (λ path. path ∷ draft_paths ds) (same ∙ ap (λ (x : Draft). x.package.path.items) (sym (same_Some d b at)))
set_paths (d ∷ ds) (suc n) b a at same = ap (λ rest. d.package.path.items ∷ rest) (set_paths ds n b a at same)

-- one of a list in which one was set
set_cases : {P : Type 0} (ds : List Draft) (n : ℕ) (b a d : Draft) → slice_get ds n ≡ Some b → Contains (set ds n a) d → (d ≡ a → P) →
    ((k : ℕ) → (k ≡ n → ⊥) → slice_get ds k ≡ Some d → P) → P
set_cases ds n b a d at has own other =
    let k = has.0 in
    let now = read (set ds n a) d has in
    ⊎_elim
    (λ (here : k ≡ n). own (same_Some d a (sym now ∙ ap (slice_get (set ds n a)) here ∙ set_there ds n b a at)))
    (λ (apart : k ≡ n → ⊥). other k apart (sym (set_elsewhere ds n k a apart) ∙ now))
    (cases_eq k n)

module _ (w : Workspace) (path : List ℕ) (ds : List Draft) (sorted : IsStrictlySortedBy path_cmp (draft_paths ds)) (drafts : All IsDraft ds)
  where
    -- the path is that of a file of one of them
    pub sets_one : (n : ℕ) (b a : Draft) (new : List Draft) → slice_get ds n ≡ Some b → new ≡ set ds n a →
        is_go path ≡ true → folder path ≡ b.package.path.items → SetsFile w path b a → SetsFiles w (path ∷ []) ds new
    sets_one n b a new at is go of sets = subst (SetsFiles w (path ∷ []) ds) (sym is) (record {
      same_paths = set_paths ds n b a at sets.same_path;
      drafts = all_from (set ds n a) (λ d has. set_cases ds n b a d at has
          (λ own. subst IsDraft (sym own) sets.draft)
          (λ k apart was. All-contains IsDraft ds d drafts (there ds k d was)));
      files = λ v u resets held. all_from (set ds n a) (λ d has. set_cases ds n b a d at has
          (λ own. subst (HasFolderFiles u) (sym own) (sets.files v u resets (All-contains (HasFolderFiles v) ds b held (there ds n b at))))
          (λ k apart was. held_apart resets (All-contains (HasFolderFiles v) ds d held (there ds k d was))
          (of_other d.package.path.items path (λ same. apart (one_number (draft_paths ds) sorted k n (folder path)
          (path_there draft_path ds k d was ∙ ap Some (sym same)) (path_there draft_path ds n b at ∙ ap Some (sym of)))))));
    })

    -- or of none
    pub sets_other : ((p : List ℕ) → Contains (draft_paths ds) p → is_of_package p path ≡ false) → SetsFiles w (path ∷ []) ds ds
    sets_other none = record {
      same_paths = refl;
      drafts = drafts;
      files = λ v u resets held. all_from ds (λ d has. held_apart resets (All-contains (HasFolderFiles v) ds d held has)
          (none d.package.path.items (there (draft_paths ds) has.0 d.package.path.items (path_there draft_path ds has.0 d (read ds d has)))));
    }

    pub sets_none_there : (Contains (draft_paths ds) (folder path) → ⊥) → SetsFiles w (path ∷ []) ds ds
    sets_none_there never = sets_other (λ p has. of_other p path (λ same. never (subst (Contains (draft_paths ds)) (sym same) has)))

    pub sets_no_go : is_go path ≡ false → SetsFiles w (path ∷ []) ds ds
    sets_no_go other = sets_other (λ p has. ap (λ b. b && pointwise ◌==◌ (folder path) p) other)

-- ---- all paths at which files may differ
module _ (v w : Workspace) (before : List ParsedPackage) (folders paths : List (List ℕ)) (drafts made : List Draft) (are : ArePackages v before)
    (at : AreDraftsAt before folders drafts) (sets : SetsFiles w paths drafts made) (have : HaveFolders paths folders) (differs : DiffersOnlyAt paths v w) where
  paths_are : paths_of (packages_of made) ≡ folders
  paths_are = paths_same made ∙ sets.same_paths ∙ at.paths

  last : (u : Workspace) × SetsAt w paths v u
  last = reset_to w v paths

  made_files : (p : ParsedPackage) → Contains (packages_of made) p → HasFiles w p
  made_files p has =
      let d = mapped_from (λ (x : Draft). x.package) made p has in
      let held = All-contains (HasFolderFiles last.0) made d.0 (sets.files v last.0 last.1 (at.files v are)) d.1 in
      subst (HasFiles w) d.2 (has_held w d.0.package (held_all last.1 differs held))

  pub fresh_made : CoverChanges v w (packages_of made)
  fresh_made = record {
    sorted = subst (IsStrictlySortedBy path_cmp) (sym paths_are) at.sorted;
    differs = λ path go apart. differs path go (λ has. apart (subst (λ ks. Contains ks (folder path)) (sym paths_are) (have path has)));
    files = all_from (packages_of made) made_files;
  }
