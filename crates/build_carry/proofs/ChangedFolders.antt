-- Which packages have other files after a change: the files of packages, and marks of packages.
use Rattle.std.proofs.Common.{◌≡◌, ℕ, ◌+◌, ◌<◌, Bool, true, false, List, [], ◌∷◌, ◌++◌, length, take, get_or, replicate, Some, slice_get, Bor}
use Rattle.std.proofs.Common.{sym, ap, subst, ◌∙◌, ⊎_elim}
use Rattle.std.proofs.Math.ListN.{set}
use Rattle.std.specs.FinMap as map_of
use Rattle.std.specs.List.{Contains}
use Rattle.std.proofs.lemmas.Bool.{true≢false, cases_eq}
use Rattle.std.proofs.lemmas.List.{take_more, length-set, get_or-set_same, get_or-set_other, map_push, length-replicate, get_or-replicate}
use Rattle.std.proofs.lemmas.List.Elements.{Contains-append_left, Contains-push, Contains-push_cases}
use Rattle.std.proofs.lemmas.Option.{slice_get_within, same_Some}
use Rattle.base_lemmas.proofs.Elements.{nothing_in}
use Rattle.base_files.specs.Packages.{is_of_package, package_paths, package_files}
use Rattle.base_files.specs.Workspace.{Workspace}
use Rattle.workspace_graph.specs.Borrows.{names}
use Rattle.workspace_graph.specs.Reaching.{ReachingMarks}
use Rattle.workspace_graph.specs.Search.{IsMarked}
use Rattle.workspace_graph.proofs.PackagePaths.{one_number, paths_sorted}
use Rattle.workspace_graph.proofs.ByPath.{at_contains, number}
use Rattle.workspace_check.proofs.Closed.{to_package}
use Rattle.workspace_check.proofs.Members.{passes, passed}
use Rattle.build_carry.specs.Changes.{HasSameFiles, AreChanged, MarkChanges, MarkClosures, MarkFolders}
use Rattle.base_edits.proofs.Entries.{entry_of, get_entry}

-- one more name
pub names_push : (folders : List (Bor (List ℕ))) (f : Bor (List ℕ)) → names (folders ++ f ∷ []) ≡ names folders ++ f.now ∷ []
names_push folders f = map_push (λ (g : Bor (List ℕ)). g.now) folders f

-- ---- the packages that have not the same files
pub package_has : (w : Workspace) (q : List ℕ) (e : List ℕ × List ℕ) → Contains (package_files w q) e → map_of.get w e.0 ≡ Some e.1
package_has w q e has = get_entry w e (passes (λ d. is_of_package q d.0) (map_of.entries w) e has).1

pub package_path : (w : Workspace) (q : List ℕ) (e : List ℕ × List ℕ) → Contains (package_files w q) e → is_of_package q e.0 ≡ true
package_path w q e has = (passes (λ d. is_of_package q d.0) (map_of.entries w) e has).0

pub in_package : (w : Workspace) (q path text : List ℕ) → is_of_package q path ≡ true → map_of.get w path ≡ Some text →
    Contains (package_files w q) (path, text)
in_package w q path text of got = passed (λ d. is_of_package q d.0) (map_of.entries w) (path, text) of (entry_of w path text got)

-- ---- marks
pub marks_none : (w : Workspace) (n : ℕ) → n ≡ length (package_paths w) → MarkFolders w [] (replicate n false)
marks_none w n size = record {
  size = length-replicate n false ∙ size;
  each = λ i q at. (
    λ marked. absurd (true≢false (sym marked ∙ get_or-replicate n i false false
        (subst (λ (k : ℕ). i < k) (sym size) (slice_get_within (package_paths w) i q at)))),
    λ has. absurd (nothing_in q has),
  );
}

module _ (w : Workspace) (folders : List (List ℕ)) (marks : List Bool) (f : List ℕ) where
  pub marks_skip : (Contains (package_paths w) f → ⊥) → MarkFolders w folders marks → MarkFolders w (folders ++ f ∷ []) marks
  marks_skip none so = record {
    size = so.size;
    each = λ i q at. (
      λ marked. Contains-append_left folders (f ∷ []) q ((so.each i q at).0 marked),
      λ has. ⊎_elim
          (λ (before : Contains folders q). (so.each i q at).1 before)
          (λ (is : f ≡ q). absurd (none (subst (Contains (package_paths w)) (sym is) (at_contains w i q at))))
          (Contains-push_cases folders f q has),
    );
  }

  pub marks_more : (n : ℕ) → slice_get (package_paths w) n ≡ Some f → MarkFolders w folders marks → MarkFolders w (folders ++ f ∷ []) (set marks n true)
  marks_more n there so = record {
    size = length-set marks n true ∙ so.size;
    each = λ i q at. ⊎_elim
        (λ (here : i ≡ n).
        let is : f ≡ q = same_Some _ _ (sym there ∙ ap (slice_get (package_paths w)) (sym here) ∙ at) in (
          λ marked. subst (Contains (folders ++ f ∷ [])) is (Contains-push folders f),
          λ has. subst (λ (k : ℕ). IsMarked (set marks n true) k) (sym here) (get_or-set_same marks n true false within),
        ))
        (λ (other : i ≡ n → ⊥).
        let same : get_or (set marks n true) i false ≡ get_or marks i false = get_or-set_other marks n i true false other in (
          λ marked. Contains-append_left folders (f ∷ []) q ((so.each i q at).0 (sym same ∙ marked)),
          λ has. same ∙ ⊎_elim
              (λ (before : Contains folders q). (so.each i q at).1 before)
              (λ (is : f ≡ q). absurd (other (one_number (package_paths w) (paths_sorted w) i n f (at ∙ ap Some (sym is)) there)))
              (Contains-push_cases folders f q has),
        ))
        (cases_eq i n);
  }
    where
      within : n < length marks
      within = subst (λ (k : ℕ). n < k) (sym so.size) (slice_get_within (package_paths w) n f there)

-- one folder more was looked for
module _ (w : Workspace) (fs : List (Bor (List ℕ))) (i : ℕ) (d : Bor (List ℕ)) (marks : List Bool) (below : i < length fs) where
  one_more : names (take (i + 1) fs) ≡ names (take i fs) ++ (get_or fs i d).now ∷ []
  one_more = ap names (take_more fs i d below) ∙ names_push (take i fs) (get_or fs i d)

  pub mark_one : (n : ℕ) → slice_get (package_paths w) n ≡ Some (get_or fs i d).now → MarkFolders w (names (take i fs)) marks →
      MarkFolders w (names (take (i + 1) fs)) (set marks n true)
  mark_one n there so =
      subst (λ (l : List (List ℕ)). MarkFolders w l (set marks n true)) (sym one_more) (marks_more w (names (take i fs)) marks (get_or fs i d).now n there so)

  pub mark_none : (Contains (package_paths w) (get_or fs i d).now → ⊥) → MarkFolders w (names (take i fs)) marks → MarkFolders w (names (take (i + 1) fs)) marks
  mark_none none so =
      subst (λ (l : List (List ℕ)). MarkFolders w l marks) (sym one_more) (marks_skip w (names (take i fs)) marks (get_or fs i d).now none so)

-- ---- the packages that reach marked ones
pub closures_marked : (w : Workspace) (folders : List (List ℕ)) (marks reaching : List Bool) → MarkFolders w folders marks → ReachingMarks w marks reaching →
    MarkClosures w folders reaching
closures_marked w folders marks reaching so are = record {
  size = are.size;
  each = λ i p at. (
    λ m.
        let r = (are.each i p at).0 m in
        record { path = r.path; among = (so.each r.number r.path r.has_path).0 r.marked; in_closure = r.in_closure },
    λ h.
        let n = number w h.path (to_package w p h.path h.in_closure) in
        (are.each i p at).1 (record {
          number = n.0;
          path = h.path;
          has_path = n.1;
          marked = (so.each n.0 h.path n.1).1 h.among;
          in_closure = h.in_closure;
        }),
  );
}

pub marks_before : (v w : Workspace) (folders : List (List ℕ)) (marks : List Bool) → AreChanged v w folders → MarkClosures v folders marks →
    MarkChanges v w marks
marks_before v w folders marks are so = record {
  size = so.size;
  changed = λ i p at marked keeps. (let h = (so.each i p at).0 marked in are.changed h.path h.among (keeps h.path h.in_closure));
  same = λ i p at not q c. are.same q (λ has. not ((so.each i p at).1 (record { path = q; among = has; in_closure = c })));
}

other_way : (v w : Workspace) (q : List ℕ) → HasSameFiles v w q → HasSameFiles w v q
other_way v w q same e = ((same e).1, (same e).0)

pub marks_after : (v w : Workspace) (folders : List (List ℕ)) (marks : List Bool) → AreChanged v w folders → MarkClosures w folders marks →
    MarkChanges w v marks
marks_after v w folders marks are so = marks_before w v folders marks
    (record { changed = λ q has same. are.changed q has (other_way w v q same); same = λ q none. other_way v w q (are.same q none) }) so
