-- Which folders have other Go files after a change, file by file.
use Rattle.std.proofs.Common.{◌≡◌, ℕ, true, List, [], ◌∷◌, ◌++◌, sym, ap, subst, inl, inr, ⊎_elim}
use Rattle.std.specs.FinMap.{get}
use Rattle.std.specs.List.{Contains}
use Rattle.std.proofs.lemmas.List.Elements.{Contains-push_cases}
use Rattle.base_files.specs.Packages.{is_of_package}
use Rattle.base_files.specs.Path.{folder}
use Rattle.base_files.specs.Workspace.{Workspace}
use Rattle.workspace_graph.specs.SameGoFiles.{DiffersOnlyAt, DiffersOnlyIn}
use Rattle.workspace_graph.proofs.ChangedFiles.{file_of, in_package, is_among}
use Rattle.workspace_graph.proofs.SameFiles.{same_files}
use Rattle.build_unit.proofs.Part.{own_folder}
use Rattle.workspace_snapshot.proofs.NamedPaths.{one_option}
use Rattle.build_carry.specs.Changes.{HasSameFiles, AreChanged}
use Rattle.build_carry.specs.Named.{AddsFolder, KeepsFile}

-- a package that has the same files has the same text at each path
pub same_texts : (v w : Workspace) (p : List ℕ) → HasSameFiles v w p → (path : List ℕ) → is_of_package p path ≡ true → get w path ≡ get v path
same_texts v w p same path is = one_option (get w path) (get v path)
    (λ t got. file_of v p (path, t) ((same (path, t)).1 (in_package w p path t is got)))
    (λ t got. file_of w p (path, t) ((same (path, t)).0 (in_package v p path t is got)))

-- `found` are folders whose files differ between v and w. Each Go file of `paths` that differs is in one of them.
pub record AreNoted (v w : Workspace) (paths found : List (List ℕ)) : Type 0 where
  pub changed : (q : List ℕ) → Contains found q → HasSameFiles v w q → ⊥
  pub kept : (path : List ℕ) → Contains paths path → (Contains found (folder path) → ⊥) → KeepsFile v w path

module _ (v w : Workspace) where
  module _ (paths found : List (List ℕ)) (path : List ℕ) (so : AreNoted v w paths found) where
    pub noted_kept : KeepsFile v w path → AreNoted v w (paths ++ path ∷ []) found
    noted_kept keeps = record {
      changed = so.changed;
      kept = λ q has apart. ⊎_elim
          (λ (before : Contains paths q). so.kept q before apart)
          (λ (is : path ≡ q). subst (KeepsFile v w) is keeps)
          (Contains-push_cases paths path q has);
    }

    pub noted_changed : (more : List (List ℕ)) → (KeepsFile v w path → ⊥) → AddsFolder (folder path) found more → AreNoted v w (paths ++ path ∷ []) more
    noted_changed more differs adds = record {
      changed = λ q has same. ⊎_elim
          (λ (before : Contains found q). so.changed q before same)
          (λ (is : folder path ≡ q). differs (λ go. same_texts v w (folder path) (subst (HasSameFiles v w) (sym is) same) path (own_folder path go)))
          ((adds q).0 has);
      kept = λ q has apart. ⊎_elim
          (λ (before : Contains paths q). so.kept q before (λ there. apart ((adds (folder q)).1 (inl there))))
          (λ (is : path ≡ q). absurd (apart ((adds (folder q)).1 (inr (ap folder is)))))
          (Contains-push_cases paths path q has);
    }

  -- when all files that a change names were looked at
  module _ (paths found : List (List ℕ)) (differs : DiffersOnlyAt paths v w) (so : AreNoted v w paths found) where
    differs_in : DiffersOnlyIn found v w
    differs_in path go apart = is_among path paths (λ there. so.kept path there apart go) (λ none. differs path go none)

    pub all_noted : AreChanged v w found
    all_noted = record {
      changed = so.changed;
      same = λ q none e.
          let same = same_files found v w differs_in q none in (
            λ has. subst (λ (es : List (List ℕ × List ℕ)). Contains es e) (sym same) has,
            λ has. subst (λ (es : List (List ℕ × List ℕ)). Contains es e) same has,
          );
    }
