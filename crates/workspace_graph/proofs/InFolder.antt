-- The Go files of a folder, and what setting or removing a file does to the files of its package.
use Rattle.std.proofs.Common.{◌≡◌, ℕ, ◌⊎◌, inl, inr, true, false, List, [], ◌∷◌, map, Option, Some, None, ◌==◌, refl, sym, ap, subst, ◌∙◌, ⊎_elim}
use Rattle.std.specs.declared.cmp.Ordering.TheVariants.{Less}
use Rattle.std.specs.Cmp.Lexicographic.{pointwise, bytes_decides}
use Rattle.std.specs.FinMap.{entries, entries_sorted, get, insert, remove}
use Rattle.std.specs.List.{Contains}
use Rattle.std.specs.List.Sorted.{IsStrictlySortedBy}
use Rattle.std.proofs.lemmas.Bool.{true≢false, and_parts}
use Rattle.std.proofs.lemmas.Map.Keys.{sorted_tail}
use Rattle.std.proofs.lemmas.Option.{none-some, same_Some}
use Rattle.base_lemmas.proofs.Elements.{is_mapped, nothing_in, first_in, first_or_later, later_in}
use Rattle.base_files.specs.Packages.{is_go, is_of_package, package_files}
use Rattle.base_files.specs.Path.{folder}
use Rattle.base_files.specs.Workspace.{Workspace, path_cmp}
use Rattle.base_files.proofs.WorkspaceLaws.{path_cmp_total}
use Rattle.base_edits.proofs.Held.{mapped_from}
use Rattle.go_ast.specs.Faults.{IsFaultOf}
use Rattle.go_ast.specs.SourceFile.{FileParts, source_of}
use Rattle.workspace_graph.specs.FaultyFiles.{FaultyParts}
use Rattle.workspace_graph.specs.Graphs.{paths_of}
use Rattle.workspace_graph.specs.InFolder.{AreInFolder, IsFaultyIn, IsTreeIn, fault_path, fault_paths, tree_path, tree_paths}
use Rattle.workspace_graph.specs.ChangedFiles.{ArePackages, SetsAt}
use Rattle.workspace_graph.specs.Packages.{IsParsed}
use Rattle.workspace_graph.specs.Parsed.{AreParsed, IsFaulty, none, tree, fault}
use Rattle.workspace_graph.specs.SameGoFiles.{DiffersOnlyAt, HasFiles}
use Rattle.workspace_graph.specs.Updated.{SetsIn, Removes}
use Rattle.workspace_graph.specs.declared.package.ParsedPackage.{ParsedPackage}
use Rattle.workspace_graph.proofs.ChangedFiles.{file_of, has_package, in_package, is_among, of_package, one_in, resets_one}
use Rattle.workspace_graph.proofs.PackagePaths.{T_true, sorted_keys}
use Rattle.workspace_graph.proofs.SameFiles.{sorted_passed}
use Rattle.workspace_graph.proofs.SortedLists.{above, not_itself, same_first, sorted_more}
use Rattle.workspace_graph.proofs.UpdatedPackages.{out_apart}

abbrev Entry : Type 0
Entry = List ℕ × List ℕ

abbrev entry_paths : List Entry → List (List ℕ)
entry_paths es = map (λ e. e.0) es

abbrev tree_entry : FileParts → Entry
tree_entry t = (t.path, t.cut.text)

abbrev fault_entry : FaultyParts → Entry
fault_entry f = (f.path, f.text)

same_head : (e d : Entry) → e ≡ d → e.0 ≡ d.0
same_head e d is = ap (λ (x : Entry). x.0) is

-- ---- files in order, told by which of them are among the trees and which among the others
record AreHeld (es : List Entry) (ts : List FileParts) (fs : List FaultyParts) : Type 0 where
  trees_sorted : IsStrictlySortedBy path_cmp (tree_paths ts)
  faulty_sorted : IsStrictlySortedBy path_cmp (fault_paths fs)
  sound : (t : FileParts) → Contains ts t → Contains es (tree_entry t) × IsParsed t.path t.cut.text (source_of t)
  faulty : (f : FaultyParts) → Contains fs f → Contains es (fault_entry f) × IsFaulty f.path f.text f
  apart : (q : List ℕ) → Contains (tree_paths ts) q → Contains (fault_paths fs) q → ⊥
  all : (e : Entry) → Contains es e → Contains (tree_paths ts) e.0 ⊎ Contains (fault_paths fs) e.0

-- the paths of both are among those of the files
tree_among : (es : List Entry) (ts : List FileParts) (fs : List FaultyParts) → AreHeld es ts fs → (q : List ℕ) → Contains (tree_paths ts) q →
    Contains (entry_paths es) q
tree_among es ts fs h q has =
    let t = mapped_from tree_path ts q has in
    subst (Contains (entry_paths es)) t.2 (is_mapped (λ (e : Entry). e.0) es (tree_entry t.0) (h.sound t.0 t.1).0)

fault_among : (es : List Entry) (ts : List FileParts) (fs : List FaultyParts) → AreHeld es ts fs → (q : List ℕ) → Contains (fault_paths fs) q →
    Contains (entry_paths es) q
fault_among es ts fs h q has =
    let f = mapped_from fault_path fs q has in
    subst (Contains (entry_paths es)) f.2 (is_mapped (λ (e : Entry). e.0) es (fault_entry f.0) (h.faulty f.0 f.1).0)

-- the first of files in order has another path than the others
module _ (e : Entry) (es : List Entry) (sorted : IsStrictlySortedBy path_cmp (entry_paths (e ∷ es))) where
  other_path : (q : List ℕ) → Contains (entry_paths es) q → e.0 ≡ q → ⊥
  other_path q has same = not_itself path_cmp_total e.0 (entry_paths es) q sorted has same

  less_path : (q : List ℕ) → Contains (entry_paths es) q → path_cmp e.0 q ≡ Less
  less_path q has = above path_cmp_total e.0 (entry_paths es) q sorted has

  -- one with its path is the first
  is_first : (d : Entry) → e.0 ≡ d.0 → Contains (e ∷ es) d → e ≡ d
  is_first d same has = ⊎_elim
      (λ (here : e ≡ d). here)
      (λ (later : Contains es d). absurd (other_path d.0 (is_mapped (λ (x : Entry). x.0) es d later) same))
      (first_or_later e es d has)

  not_first : (d : Entry) → (e.0 ≡ d.0 → ⊥) → Contains (e ∷ es) d → Contains es d
  not_first d apart has = ⊎_elim
      (λ (here : e ≡ d). absurd (apart (same_head e d here)))
      (λ (later : Contains es d). later)
      (first_or_later e es d has)

  -- one more with a tree
  tree_more : (t : FileParts) (ts : List FileParts) (fs : List FaultyParts) → IsParsed e.0 e.1 (source_of t) → AreHeld es ts fs → AreHeld (e ∷ es) (t ∷ ts) fs
  tree_more t ts fs is r = record {
    trees_sorted = sorted_more path_cmp t.path (tree_paths ts)
        (λ q has. subst (λ p. path_cmp p q ≡ Less) (sym is.of_path) (less_path q (tree_among es ts fs r q has))) r.trees_sorted;
    faulty_sorted = r.faulty_sorted;
    sound = λ x has. ⊎_elim
        (λ (here : t ≡ x). subst (λ (y : FileParts). Contains (e ∷ es) (tree_entry y) × IsParsed y.path y.cut.text (source_of y)) here own)
        (λ (later : Contains ts x). (later_in e es (tree_entry x) (r.sound x later).0, (r.sound x later).1))
        (first_or_later t ts x has);
    faulty = λ x has. (later_in e es (fault_entry x) (r.faulty x has).0, (r.faulty x has).1);
    apart = λ q has has_too. ⊎_elim
        (λ (here : t.path ≡ q). other_path q (fault_among es ts fs r q has_too) (sym is.of_path ∙ here))
        (λ (later : Contains (tree_paths ts) q). r.apart q later has_too)
        (first_or_later t.path (tree_paths ts) q has);
    all = λ d has. ⊎_elim
        (λ (here : e ≡ d). inl (subst (Contains (tree_paths (t ∷ ts))) (is.of_path ∙ same_head e d here) (first_in t.path (tree_paths ts))))
        (λ (later : Contains es d). ⊎_elim
        (λ (x : Contains (tree_paths ts) d.0). inl (later_in t.path (tree_paths ts) d.0 x))
        (λ (y : Contains (fault_paths fs) d.0). inr y)
        (r.all d later))
        (first_or_later e es d has);
  }
    where
      entry_is : e ≡ tree_entry t
      entry_is = λ i. (sym is.of_path i, sym is.of_text i)

      own : Contains (e ∷ es) (tree_entry t) × IsParsed t.path t.cut.text (source_of t)
      own = (subst (Contains (e ∷ es)) entry_is (first_in e es), record { of_path = refl; of_text = refl; is_file = is.is_file })

  -- one more without
  fault_more : (f : FaultyParts) (ts : List FileParts) (fs : List FaultyParts) → IsFaulty e.0 e.1 f → AreHeld es ts fs → AreHeld (e ∷ es) ts (f ∷ fs)
  fault_more f ts fs is r = record {
    trees_sorted = r.trees_sorted;
    faulty_sorted = sorted_more path_cmp f.path (fault_paths fs)
        (λ q has. subst (λ p. path_cmp p q ≡ Less) (sym is.of_path) (less_path q (fault_among es ts fs r q has))) r.faulty_sorted;
    sound = λ x has. (later_in e es (tree_entry x) (r.sound x has).0, (r.sound x has).1);
    faulty = λ x has. ⊎_elim
        (λ (here : f ≡ x). subst (λ (y : FaultyParts). Contains (e ∷ es) (fault_entry y) × IsFaulty y.path y.text y) here own)
        (λ (later : Contains fs x). (later_in e es (fault_entry x) (r.faulty x later).0, (r.faulty x later).1))
        (first_or_later f fs x has);
    apart = λ q has has_too. ⊎_elim
        (λ (here : f.path ≡ q). other_path q (tree_among es ts fs r q has) (sym is.of_path ∙ here))
        (λ (later : Contains (fault_paths fs) q). r.apart q has later)
        (first_or_later f.path (fault_paths fs) q has_too);
    all = λ d has. ⊎_elim
        (λ (here : e ≡ d). inr (subst (Contains (fault_paths (f ∷ fs))) (is.of_path ∙ same_head e d here) (first_in f.path (fault_paths fs))))
        (λ (later : Contains es d). ⊎_elim
        (λ (x : Contains (tree_paths ts) d.0). inl x)
        (λ (y : Contains (fault_paths fs) d.0). inr (later_in f.path (fault_paths fs) d.0 y))
        (r.all d later))
        (first_or_later e es d has);
  }
    where
      entry_is : e ≡ fault_entry f
      entry_is = λ i. (sym is.of_path i, sym is.of_text i)

      own : Contains (e ∷ es) (fault_entry f) × IsFaulty f.path f.text f
      own = (
        subst (Contains (e ∷ es)) entry_is (first_in e es),
        record { of_path = refl; of_text = refl; is_fault = subst (λ text. IsFaultOf text f.fault) (sym is.of_text) is.is_fault },
      )

  -- the first is among the trees: then it is the first of them
  module _ (t : FileParts) (ts : List FileParts) (fs : List FaultyParts) (h : AreHeld (e ∷ es) (t ∷ ts) fs)
      (first : Contains (tree_paths (t ∷ ts)) e.0) where
    first_tree : e.0 ≡ t.path
    first_tree = same_first path_cmp_total e.0 (entry_paths es) t.path (tree_paths ts) sorted h.trees_sorted first
        (tree_among (e ∷ es) (t ∷ ts) fs h t.path (first_in t.path (tree_paths ts)))

    tree_is : IsParsed e.0 e.1 (source_of t)
    tree_is =
        let s = h.sound t (first_in t ts) in
        subst (λ (d : Entry). IsParsed d.0 d.1 (source_of t)) (sym (is_first (tree_entry t) first_tree s.0)) s.1

    not_tree : (x : FileParts) → Contains ts x → e.0 ≡ x.path → ⊥
    not_tree x has same = not_itself path_cmp_total t.path (tree_paths ts) x.path h.trees_sorted (is_mapped tree_path ts x has) (sym first_tree ∙ same)

    tree_rest : AreHeld es ts fs
    tree_rest = record {
      trees_sorted = sorted_tail path_cmp t.path (tree_paths ts) h.trees_sorted;
      faulty_sorted = h.faulty_sorted;
      sound = λ x has.
          let s = h.sound x (later_in t ts x has) in
          (not_first (tree_entry x) (not_tree x has) s.0, s.1);
      faulty = λ x has.
          let s = h.faulty x has in
          (not_first (fault_entry x) (λ same. h.apart x.path (subst (Contains (tree_paths (t ∷ ts))) same first) (is_mapped fault_path fs x has)) s.0, s.1);
      apart = λ q has has_too. h.apart q (later_in t.path (tree_paths ts) q has) has_too;
      all = λ d has. ⊎_elim
          (λ (x : Contains (tree_paths (t ∷ ts)) d.0). ⊎_elim
          (λ (here : t.path ≡ d.0). absurd (other_path d.0 (is_mapped (λ (y : Entry). y.0) es d has) (first_tree ∙ here)))
          (λ (later : Contains (tree_paths ts) d.0). inl later)
          (first_or_later t.path (tree_paths ts) d.0 x))
          (λ (y : Contains (fault_paths fs) d.0). inr y)
          (h.all d (later_in e es d has));
    }

  -- or among the others
  module _ (f : FaultyParts) (ts : List FileParts) (fs : List FaultyParts) (h : AreHeld (e ∷ es) ts (f ∷ fs))
      (first : Contains (fault_paths (f ∷ fs)) e.0) where
    first_fault : e.0 ≡ f.path
    first_fault = same_first path_cmp_total e.0 (entry_paths es) f.path (fault_paths fs) sorted h.faulty_sorted first
        (fault_among (e ∷ es) ts (f ∷ fs) h f.path (first_in f.path (fault_paths fs)))

    fault_is : IsFaulty e.0 e.1 f
    fault_is =
        let s = h.faulty f (first_in f fs) in
        subst (λ (d : Entry). IsFaulty d.0 d.1 f) (sym (is_first (fault_entry f) first_fault s.0)) s.1

    not_fault : (x : FaultyParts) → Contains fs x → e.0 ≡ x.path → ⊥
    not_fault x has same = not_itself path_cmp_total f.path (fault_paths fs) x.path h.faulty_sorted (is_mapped fault_path fs x has) (sym first_fault ∙ same)

    fault_rest : AreHeld es ts fs
    fault_rest = record {
      trees_sorted = h.trees_sorted;
      faulty_sorted = sorted_tail path_cmp f.path (fault_paths fs) h.faulty_sorted;
      sound = λ x has.
          let s = h.sound x has in
          (not_first (tree_entry x) (λ same. h.apart x.path (is_mapped tree_path ts x has) (subst (Contains (fault_paths (f ∷ fs))) same first)) s.0, s.1);
      faulty = λ x has.
          let s = h.faulty x (later_in f fs x has) in
          (not_first (fault_entry x) (not_fault x has) s.0, s.1);
      apart = λ q has has_too. h.apart q has (later_in f.path (fault_paths fs) q has_too);
      all = λ d has. ⊎_elim
          (λ (x : Contains (tree_paths ts) d.0). inl x)
          (λ (y : Contains (fault_paths (f ∷ fs)) d.0). ⊎_elim
          (λ (here : f.path ≡ d.0). absurd (other_path d.0 (is_mapped (λ (z : Entry). z.0) es d has) (first_fault ∙ here)))
          (λ (later : Contains (fault_paths fs) d.0). inr later)
          (first_or_later f.path (fault_paths fs) d.0 y))
          (h.all d (later_in e es d has));
    }

-- ---- both ways, over files in order
parsed_held : {es : List Entry} {ts : List FileParts} {fs : List FaultyParts} → IsStrictlySortedBy path_cmp (entry_paths es) → AreParsed es ts fs →
    AreHeld es ts fs
parsed_held sorted none = record {
  trees_sorted = sorted;
  faulty_sorted = sorted;
  sound = λ t has. absurd (nothing_in t has);
  faulty = λ f has. absurd (nothing_in f has);
  apart = λ q has has_too. nothing_in q has;
  all = λ e has. absurd (nothing_in e has);
}
parsed_held sorted (tree {e = e} {es = es} {t = t} {ts = ts} {fs = fs} is rest) =
    tree_more e es sorted t ts fs is (parsed_held (sorted_tail path_cmp e.0 (entry_paths es) sorted) rest)
parsed_held sorted (fault {e = e} {es = es} {ts = ts} {f = f} {fs = fs} is rest) =
    fault_more e es sorted f ts fs is (parsed_held (sorted_tail path_cmp e.0 (entry_paths es) sorted) rest)

-- the first file is that of the first tree or of the first of the others
module _ (e : Entry) (es : List Entry) (sorted : IsStrictlySortedBy path_cmp (entry_paths (e ∷ es)))
    (rest : (ts : List FileParts) (fs : List FaultyParts) → AreHeld es ts fs → AreParsed es ts fs) where
  from_tree : (ts : List FileParts) (fs : List FaultyParts) → AreHeld (e ∷ es) ts fs → Contains (tree_paths ts) e.0 → AreParsed (e ∷ es) ts fs
  from_tree [] fs h x = absurd (nothing_in e.0 x)
  from_tree (t ∷ ts) fs h x = tree (tree_is e es sorted t ts fs h x) (rest ts fs (tree_rest e es sorted t ts fs h x))

  from_fault : (ts : List FileParts) (fs : List FaultyParts) → AreHeld (e ∷ es) ts fs → Contains (fault_paths fs) e.0 → AreParsed (e ∷ es) ts fs
  from_fault ts [] h y = absurd (nothing_in e.0 y)
  from_fault ts (f ∷ fs) h y = fault (fault_is e es sorted f ts fs h y) (rest ts fs (fault_rest e es sorted f ts fs h y))

held_parsed : (es : List Entry) (ts : List FileParts) (fs : List FaultyParts) → IsStrictlySortedBy path_cmp (entry_paths es) → AreHeld es ts fs →
    AreParsed es ts fs
held_parsed [] [] [] sorted h = none
held_parsed [] [] (f ∷ fs) sorted h = absurd (nothing_in (fault_entry f) (h.faulty f (first_in f fs)).0)
held_parsed [] (t ∷ ts) fs sorted h = absurd (nothing_in (tree_entry t) (h.sound t (first_in t ts)).0)
held_parsed (e ∷ es) ts fs sorted h =
    let rest = λ (us : List FileParts) (gs : List FaultyParts). held_parsed es us gs (sorted_tail path_cmp e.0 (entry_paths es) sorted) in
    ⊎_elim
    (λ (x : Contains (tree_paths ts) e.0). from_tree e es sorted rest ts fs h x)
    (λ (y : Contains (fault_paths fs) e.0). from_fault e es sorted rest ts fs h y)
    (h.all e (first_in e es))

-- ---- the files of a folder
module _ (w : Workspace) (p : List ℕ) where
  files_sorted : IsStrictlySortedBy path_cmp (entry_paths (package_files w p))
  files_sorted = sorted_keys (package_files w p) (sorted_passed (is_of_package p) (entries w) (T_true _ (entries_sorted w)))

  to_files : (ts : List FileParts) (fs : List FaultyParts) → AreHeld (package_files w p) ts fs → AreInFolder w p ts fs
  to_files ts fs h = record {
    trees_sorted = h.trees_sorted;
    faulty_sorted = h.faulty_sorted;
    tree = λ t has.
        let s = h.sound t has in
        record { of_package = of_package w p (tree_entry t) s.0; there = file_of w p (tree_entry t) s.0; parsed = s.1 };
    fault = λ f has.
        let s = h.faulty f has in
        record { of_package = of_package w p (fault_entry f) s.0; there = file_of w p (fault_entry f) s.0; faulty = s.1 };
    apart = h.apart;
    all = λ path text of at. h.all (path, text) (in_package w p path text of at);
  }

  from_files : (ts : List FileParts) (fs : List FaultyParts) → AreInFolder w p ts fs → AreHeld (package_files w p) ts fs
  from_files ts fs h = record {
    trees_sorted = h.trees_sorted;
    faulty_sorted = h.faulty_sorted;
    sound = λ t has.
        let s = h.tree t has in
        (in_package w p t.path t.cut.text s.of_package s.there, s.parsed);
    faulty = λ f has.
        let s = h.fault f has in
        (in_package w p f.path f.text s.of_package s.there, s.faulty);
    apart = h.apart;
    all = λ e has. h.all e.0 e.1 (of_package w p e has) (file_of w p e has);
  }

pub held : (w : Workspace) (p : ParsedPackage) → HasFiles w p → AreInFolder w p.path.items p.trees.items p.faulty.items
held w p has = to_files w p.path.items p.trees.items p.faulty.items (parsed_held (files_sorted w p.path.items) has)

pub has_held : (w : Workspace) (p : ParsedPackage) → AreInFolder w p.path.items p.trees.items p.faulty.items → HasFiles w p
has_held w p h =
    held_parsed (package_files w p.path.items) p.trees.items p.faulty.items (files_sorted w p.path.items)
    (from_files w p.path.items p.trees.items p.faulty.items h)

-- the folder of a file
folder_is : (p path : List ℕ) → is_of_package p path ≡ true → (is_go path ≡ true) × (folder path ≡ p)
folder_is p path of =
    let parts = and_parts (is_go path) (pointwise ◌==◌ (folder path) p) of in
    (parts.0, (bytes_decides (folder path) p).0 parts.1)

sorted_none : IsStrictlySortedBy path_cmp []
unfolding IsStrictlySortedBy
sorted_none = tt

-- a folder that has no package has no Go file
pub held_none : (v : Workspace) (ps : List ParsedPackage) (q : List ℕ) → ArePackages v ps → (Contains (paths_of ps) q → ⊥) → AreInFolder v q [] []
held_none v ps q are never = record {
  trees_sorted = sorted_none;
  faulty_sorted = sorted_none;
  tree = λ t has. absurd (nothing_in t has);
  fault = λ f has. absurd (nothing_in f has);
  apart = λ path has has_too. nothing_in path has;
  all = λ path text of at.
      let is = folder_is q path of in
      absurd (never (subst (Contains (paths_of ps)) is.1 (subst (λ ks. Contains ks (folder path)) (sym are.paths) (has_package v path text is.0 at))));
}

-- ---- the same files in the folder
pub held_final : {v w : Workspace} {p : List ℕ} {ts : List FileParts} {fs : List FaultyParts} → AreInFolder v p ts fs →
    ((path : List ℕ) → is_of_package p path ≡ true → get w path ≡ get v path) → AreInFolder w p ts fs
held_final h same = record {
  trees_sorted = h.trees_sorted;
  faulty_sorted = h.faulty_sorted;
  tree = λ t has.
      let s = h.tree t has in
      record { of_package = s.of_package; there = same t.path s.of_package ∙ s.there; parsed = s.parsed };
  fault = λ f has.
      let s = h.fault f has in
      record { of_package = s.of_package; there = same f.path s.of_package ∙ s.there; faulty = s.faulty };
  apart = h.apart;
  all = λ path text of at. h.all path text of (sym (same path of) ∙ at);
}

-- ---- one path is set
pub reset_next : (w v : Workspace) (path : List ℕ) → (new : Workspace) × SetsAt w (path ∷ []) v new
reset_next w v path = from (get w path) refl
  where
    from : (o : Option (List ℕ)) → get w path ≡ o → (new : Workspace) × SetsAt w (path ∷ []) v new
    from None at = (remove v path, resets_one w v (remove v path) path (λ gone. refl) (λ text is. absurd (none-some text (sym at ∙ is))))
    from (Some t) at = (
      insert v path t,
      resets_one w v (insert v path t) path (λ gone. absurd (none-some t (sym gone ∙ at))) (λ text is. ap (insert v path) (same_Some t text (sym at ∙ is))),
    )

module _ (w v new : Workspace) (path p : List ℕ) (resets : SetsAt w (path ∷ []) v new) where
  at_own : get new path ≡ get w path
  at_own = resets.own path (first_in path [])

  at_other : (q : List ℕ) → (q ≡ path → ⊥) → get new q ≡ get v q
  at_other q other = resets.others q (λ has. other (sym (one_in path q has)))

  -- it is that path or another
  own_or_other : {P : Type 0} (q : List ℕ) → (q ≡ path → P) → ((q ≡ path → ⊥) → P) → P
  own_or_other q here other = is_among q (path ∷ []) (λ has. here (sym (one_in path q has)))
      (λ apart. other (λ same. apart (subst (Contains (path ∷ [])) (sym same) (first_in path []))))

  module _ (ts : List FileParts) (fs : List FaultyParts) (h : AreInFolder v p ts fs) where
    -- what is not at the path stays
    tree_stays : (t : FileParts) → Contains ts t → (t.path ≡ path → ⊥) → IsTreeIn new p t
    tree_stays t has other =
        let s = h.tree t has in
        record { of_package = s.of_package; there = at_other t.path other ∙ s.there; parsed = s.parsed }

    fault_stays : (f : FaultyParts) → Contains fs f → (f.path ≡ path → ⊥) → IsFaultyIn new p f
    fault_stays f has other =
        let s = h.fault f has in
        record { of_package = s.of_package; there = at_other f.path other ∙ s.there; faulty = s.faulty }

    module _ (us : List FileParts) (gs : List FaultyParts) (trees : (t : FileParts) → Contains ts t → (t.path ≡ path → ⊥) → Contains us t)
        (faulty : (f : FaultyParts) → Contains fs f → (f.path ≡ path → ⊥) → Contains gs f) where
      other_all : (q text : List ℕ) → (q ≡ path → ⊥) → is_of_package p q ≡ true → get new q ≡ Some text →
          Contains (tree_paths us) q ⊎ Contains (fault_paths gs) q
      other_all q text other of at = ⊎_elim
          (λ (x : Contains (tree_paths ts) q).
          let t = mapped_from tree_path ts q x in
          inl (subst (Contains (tree_paths us)) t.2 (is_mapped tree_path us t.0 (trees t.0 t.1 (λ same. other (sym t.2 ∙ same))))))
          (λ (y : Contains (fault_paths fs) q).
          let f = mapped_from fault_path fs q y in
          inr (subst (Contains (fault_paths gs)) f.2 (is_mapped fault_path gs f.0 (faulty f.0 f.1 (λ same. other (sym f.2 ∙ same))))))
          (h.all q text of (sym (at_other q other) ∙ at))

      -- All files of the folder are in the lists, if the file at the path is.
      files_all : ((text : List ℕ) → is_of_package p path ≡ true → get w path ≡ Some text → Contains (tree_paths us) path ⊎ Contains (fault_paths gs) path) →
          (q text : List ℕ) → is_of_package p q ≡ true → get new q ≡ Some text → Contains (tree_paths us) q ⊎ Contains (fault_paths gs) q
      files_all own q text of at = own_or_other q
          (λ same. subst (λ (x : List ℕ). Contains (tree_paths us) x ⊎ Contains (fault_paths gs) x) (sym same)
          (own text (ap (is_of_package p) (sym same) ∙ of) (sym at_own ∙ ap (get new) (sym same) ∙ at)))
          (λ other. other_all q text other of at)

    same_there : get w path ≡ get v path → (q : List ℕ) → get new q ≡ get v q
    same_there same q = own_or_other q (λ here. ap (get new) here ∙ at_own ∙ same ∙ ap (get v) (sym here)) (λ other. at_other q other)

    is_same : get w path ≡ get v path → AreInFolder new p ts fs
    is_same same = held_final h (λ q of. same_there same q)

    is_apart : is_of_package p path ≡ false → AreInFolder new p ts fs
    is_apart outside = held_final h (λ q of. at_other q (λ same. true≢false (sym of ∙ ap (is_of_package p) same ∙ outside)))

    -- which of the lists are left
    module _ (us : List FileParts) (gs : List FaultyParts) where
      is_gone : (i j : ℕ) → get w path ≡ None → Removes tree_path path ts us i → Removes fault_path path fs gs j → AreInFolder new p us gs
      is_gone i j gone a b = record {
        trees_sorted = a.sorted;
        faulty_sorted = b.sorted;
        tree = λ t has. tree_stays t (a.from t has) (out_apart tree_path path ts us i a t has);
        fault = λ f has. fault_stays f (b.from f has) (out_apart fault_path path fs gs j b f has);
        apart = λ q x y.
            let t = mapped_from tree_path us q x in
            let f = mapped_from fault_path gs q y in
            h.apart q (subst (Contains (tree_paths ts)) t.2 (is_mapped tree_path ts t.0 (a.from t.0 t.1)))
            (subst (Contains (fault_paths fs)) f.2 (is_mapped fault_path fs f.0 (b.from f.0 f.1)));
        all = files_all us gs a.kept b.kept (λ text of at. absurd (none-some text (sym gone ∙ at)));
      }

      is_tree : (text : List ℕ) (t : FileParts) (j : ℕ) → get w path ≡ Some text → is_of_package p path ≡ true → IsParsed path text (source_of t) →
          SetsIn tree_path t ts us → Removes fault_path path fs gs j → AreInFolder new p us gs
      is_tree text t j there of is a b = record {
        trees_sorted = a.sorted;
        faulty_sorted = b.sorted;
        tree = λ x has. ⊎_elim
            (λ (here : x ≡ t). subst (IsTreeIn new p) (sym here) own)
            (λ (stays : Contains ts x × (x.path ≡ t.path → ⊥)). tree_stays x stays.0 (λ same. stays.1 (same ∙ sym is.of_path)))
            (a.each x has);
        fault = λ f has. fault_stays f (b.from f has) (out_apart fault_path path fs gs j b f has);
        apart = λ q x y.
            let d = mapped_from tree_path us q x in
            let f = mapped_from fault_path gs q y in
            ⊎_elim
            (λ (here : d.0 ≡ t). out_apart fault_path path fs gs j b f.0 f.1 (f.2 ∙ sym d.2 ∙ ap tree_path here ∙ is.of_path))
            (λ (stays : Contains ts d.0 × (d.0.path ≡ t.path → ⊥)). h.apart q
            (subst (Contains (tree_paths ts)) d.2 (is_mapped tree_path ts d.0 stays.0))
            (subst (Contains (fault_paths fs)) f.2 (is_mapped fault_path fs f.0 (b.from f.0 f.1))))
            (a.each d.0 d.1);
        all = files_all us gs (λ x has other. a.kept x has (λ same. other (same ∙ is.of_path))) b.kept
            (λ _ _ _. inl (subst (Contains (tree_paths us)) is.of_path (is_mapped tree_path us t a.own)));
      }
        where
          own : IsTreeIn new p t
          own = record {
            of_package = ap (is_of_package p) is.of_path ∙ of;
            there = ap (get new) is.of_path ∙ at_own ∙ there ∙ ap Some (sym is.of_text);
            parsed = record { of_path = refl; of_text = refl; is_file = is.is_file };
          }

      is_fault : (text : List ℕ) (f : FaultyParts) (i : ℕ) → get w path ≡ Some text → is_of_package p path ≡ true → IsFaulty path text f →
          Removes tree_path path ts us i → SetsIn fault_path f fs gs → AreInFolder new p us gs
      is_fault text f i there of is a b = record {
        trees_sorted = a.sorted;
        faulty_sorted = b.sorted;
        tree = λ t has. tree_stays t (a.from t has) (out_apart tree_path path ts us i a t has);
        fault = λ x has. ⊎_elim
            (λ (here : x ≡ f). subst (IsFaultyIn new p) (sym here) own)
            (λ (stays : Contains fs x × (x.path ≡ f.path → ⊥)). fault_stays x stays.0 (λ same. stays.1 (same ∙ sym is.of_path)))
            (b.each x has);
        apart = λ q x y.
            let t = mapped_from tree_path us q x in
            let d = mapped_from fault_path gs q y in
            ⊎_elim
            (λ (here : d.0 ≡ f). out_apart tree_path path ts us i a t.0 t.1 (t.2 ∙ sym d.2 ∙ ap fault_path here ∙ is.of_path))
            (λ (stays : Contains fs d.0 × (d.0.path ≡ f.path → ⊥)). h.apart q
            (subst (Contains (tree_paths ts)) t.2 (is_mapped tree_path ts t.0 (a.from t.0 t.1)))
            (subst (Contains (fault_paths fs)) d.2 (is_mapped fault_path fs d.0 stays.0)))
            (b.each d.0 d.1);
        all = files_all us gs a.kept (λ x has other. b.kept x has (λ same. other (same ∙ is.of_path)))
            (λ _ _ _. inr (subst (Contains (fault_paths gs)) is.of_path (is_mapped fault_path gs f b.own)));
      }
        where
          own : IsFaultyIn new p f
          own = record {
            of_package = ap (is_of_package p) is.of_path ∙ of;
            there = ap (get new) is.of_path ∙ at_own ∙ there ∙ ap Some (sym is.of_text);
            faulty = record { of_path = refl; of_text = refl; is_fault = subst (λ (x : List ℕ). IsFaultOf x f.fault) (sym is.of_text) is.is_fault };
          }

-- what is set at the path stood there before
pub held_same : {w v new : Workspace} {path p : List ℕ} {ts : List FileParts} {fs : List FaultyParts} → SetsAt w (path ∷ []) v new → AreInFolder v p ts fs →
    get w path ≡ get v path → AreInFolder new p ts fs
held_same {w = w} {v = v} {new = new} {path = path} {p = p} {ts = ts} {fs = fs} resets h same = is_same w v new path p resets ts fs h same

-- the path is not that of a Go file of the folder
pub held_apart : {w v new : Workspace} {path p : List ℕ} {ts : List FileParts} {fs : List FaultyParts} → SetsAt w (path ∷ []) v new → AreInFolder v p ts fs →
    is_of_package p path ≡ false → AreInFolder new p ts fs
held_apart {w = w} {v = v} {new = new} {path = path} {p = p} {ts = ts} {fs = fs} resets h outside = is_apart w v new path p resets ts fs h outside

-- no file is there any more
pub held_gone : {w v new : Workspace} {path p : List ℕ} {ts us : List FileParts} {fs gs : List FaultyParts} {i j : ℕ} → SetsAt w (path ∷ []) v new →
    AreInFolder v p ts fs → get w path ≡ None → Removes tree_path path ts us i → Removes fault_path path fs gs j → AreInFolder new p us gs
held_gone {w = w} {v = v} {new = new} {path = path} {p = p} {ts = ts} {us = us} {fs = fs} {gs = gs} {i = i} {j = j} resets h gone a b =
    is_gone w v new path p resets ts fs h us gs i j gone a b

-- a file with a tree is there
pub held_tree : {w v new : Workspace} {path p text : List ℕ} {ts us : List FileParts} {fs gs : List FaultyParts} {t : FileParts} {j : ℕ} →
    SetsAt w (path ∷ []) v new → AreInFolder v p ts fs → get w path ≡ Some text → is_of_package p path ≡ true → IsParsed path text (source_of t) →
    SetsIn tree_path t ts us → Removes fault_path path fs gs j → AreInFolder new p us gs
held_tree {w = w} {v = v} {new = new} {path = path} {p = p} {text = text} {ts = ts} {us = us} {fs = fs} {gs = gs} {t = t} {j = j} resets h there of is a b =
    is_tree w v new path p resets ts fs h us gs text t j there of is a b

-- a file without one is there
pub held_fault : {w v new : Workspace} {path p text : List ℕ} {ts us : List FileParts} {fs gs : List FaultyParts} {f : FaultyParts} {i : ℕ} →
    SetsAt w (path ∷ []) v new → AreInFolder v p ts fs → get w path ≡ Some text → is_of_package p path ≡ true → IsFaulty path text f →
    Removes tree_path path ts us i → SetsIn fault_path f fs gs → AreInFolder new p us gs
held_fault {w = w} {v = v} {new = new} {path = path} {p = p} {text = text} {ts = ts} {us = us} {fs = fs} {gs = gs} {f = f} {i = i} resets h there of is a b =
    is_fault w v new path p resets ts fs h us gs text f i there of is a b

-- ---- all paths are set
pub resets_fold : {w v new : Workspace} {paths : List (List ℕ)} → SetsAt w paths v new → DiffersOnlyAt paths v w → (path : List ℕ) → is_go path ≡ true →
    get new path ≡ get w path
resets_fold {paths = paths} resets differs path go = is_among path paths
    (λ has. resets.own path has)
    (λ apart. resets.others path apart ∙ sym (differs path go apart))

-- then the lists hold the files of the folder
pub held_all : {w v new : Workspace} {paths : List (List ℕ)} {p : List ℕ} {ts : List FileParts} {fs : List FaultyParts} → SetsAt w paths v new →
    DiffersOnlyAt paths v w → AreInFolder new p ts fs → AreInFolder w p ts fs
held_all {p = p} resets differs h = held_final h (λ path of. sym (resets_fold resets differs path (folder_is p path of).0))
