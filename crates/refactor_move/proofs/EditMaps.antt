-- The edits of files by their paths, and additions to them.
use Rattle.std.proofs.Common.{ℕ, ◌≡◌, ◌<◌, ◌+◌, ◌⊎◌, inl, inr, Bool, true, false, cond, List, length, Option, Some, is_some, IsSome, refl, sym, ap}
use Rattle.std.proofs.Common.{subst, ◌∙◌, arith}
use Rattle.std.specs.Prelude.{slice_get}
use Rattle.std.specs.BTreeMap.{Updates, is_at}
use Rattle.std.proofs.lemmas.Bool.{cases_lt}
use Rattle.std.proofs.lemmas.Option.{same_Some, slice_get_within}
use Rattle.base_files.specs.Workspace.{Workspace, path_cmp}
use Rattle.go_ast.specs.SourceFile.{SourceFile}
use Rattle.types_declared.specs.Package.{Package}
use Rattle.workspace_check.specs.Verdicts.{Verdicts}
use Rattle.base_edits.specs.declared.edit.Edit.{Edit}
use Rattle.base_edits.proofs.Entries.{exact_path}
use Rattle.refs_binding.specs.Workspaces.{IsPackageAt}
use Rattle.refs_binding.proofs.Units.{one_at}
use Rattle.refactor_move.specs.declared.moved.Moved.{Moved}
use Rattle.refactor_move.specs.Changes.{AreGoEdits}
use Rattle.refactor_move.specs.FileEdits.{AreFileMoveEdits}
use Rattle.refactor_move.specs.Steps.{EditMap, edits_for, AddsEdits, IsFileAt, AreEditsAt, HasFileIn, AreEditsIn, KnowsEdits}

-- one more entry

kept_by : (b : Bool) (edits : List Edit) (o : Option (List Edit)) → IsSome o → IsSome (cond b (Some edits) o)
kept_by true edits o h = refl
kept_by false edits o h = h

only_by : (b : Bool) (edits found : List Edit) (o : Option (List Edit)) (R : Type 0) → (b ≡ true → edits ≡ found → R) → cond b (Some edits) o ≡ Some found →
    (o ≡ Some found) ⊎ R
only_by true edits found o R h e = inr (h refl (same_Some edits found e))
only_by false edits found o R h e = inl e

pub adds_entry : (old new : EditMap) (path : List ℕ) (edits : List Edit) (K : List ℕ → List Edit → Type 0) (F : List ℕ → Type 0) →
    Updates path_cmp old new path (Some edits) → K path edits → ((q : List ℕ) → F q → q ≡ path) → AddsEdits old new K F
adds_entry old new path edits K F u is one = record {
  keeps = λ q h. subst IsSome (sym (u.0 q)) (kept_by (is_at (path_cmp path) q) edits (edits_for old q) h);
  holds = λ q f. ap is_some (ap (edits_for new) (one q f) ∙ u.1);
  only = λ q found e.
      only_by (is_at (path_cmp path) q) edits found (edits_for old q) (K q found)
      (λ tied same. subst (λ p. K p found) (exact_path path q tied) (subst (K path) same is)) (sym (u.0 q) ∙ e);
}

-- Additions to the map: none, two in a row, and an addition by equivalent relations.

pub adds_then : (a b c : EditMap) (K : List ℕ → List Edit → Type 0) (F G H : List ℕ → Type 0) → ((q : List ℕ) → H q → F q ⊎ G q) → AddsEdits a b K F →
    AddsEdits b c K G → AddsEdits a c K H
adds_then a b c K F G H split h k = record {
  keeps = λ q s. k.keeps q (h.keeps q s);
  holds = λ q f. elim (split q f) [ inl x ↦ k.keeps q (h.holds q x) | inr y ↦ k.holds q y ];
  only = λ q found e. elim (k.only q found e) [ inl x ↦ h.only q found x | inr y ↦ inr y ];
}

pub adds_as : (a b : EditMap) (K L : List ℕ → List Edit → Type 0) (F G : List ℕ → Type 0) → ((q : List ℕ) (edits : List Edit) → K q edits → L q edits) →
    ((q : List ℕ) → G q → F q) → AddsEdits a b K F → AddsEdits a b L G
adds_as a b K L F G to from h = record {
  keeps = h.keeps;
  holds = λ q g. h.holds q (from q g);
  only = λ q found e. elim (h.only q found e) [ inl x ↦ inl x | inr y ↦ inr (to q found y) ];
}

-- the files of a package, up to a rank

pub record IsFileBelow (p : Package) (count : ℕ) (path : List ℕ) : Type 0 where
  pub rank : ℕ
  pub below : rank < count
  pub file : IsFileAt p rank path

below_split : (p : Package) (n : ℕ) (path : List ℕ) → IsFileBelow p (n + 1) path → IsFileBelow p n path ⊎ IsFileAt p n path
below_split p n path h = elim (cases_lt h.rank n) [
  | inl lt ↦ inl (record { rank = h.rank; below = lt; file = h.file })
  | inr ge ↦ inr (let lt = h.below in let e : h.rank ≡ n = omega arith in subst (λ r. IsFileAt p r path) e h.file)
]

pub next_file : (p : Package) (m : Moved) (n : ℕ) (a b c : EditMap) → AddsEdits a b (AreEditsIn p m) (IsFileBelow p n) →
    AddsEdits b c (AreEditsAt p m n) (IsFileAt p n) → AddsEdits a c (AreEditsIn p m) (IsFileBelow p (n + 1))
next_file p m n a b c h k =
    adds_then a b c (AreEditsIn p m) (IsFileBelow p n) (IsFileAt p n) (IsFileBelow p (n + 1)) (below_split p n) h
    (adds_as b c (AreEditsAt p m n) (AreEditsIn p m) (IsFileAt p n) (IsFileAt p n) (λ q edits x. (n, x)) (λ q x. x) k)

-- the file of a rank

pub adds_file : (p : Package) (m : Moved) (rank : ℕ) (f : SourceFile) (old new : EditMap) (edits : List Edit) → slice_get p.files rank ≡ Some f →
    AreFileMoveEdits p rank f m edits → Updates path_cmp old new f.path (Some edits) →
    AddsEdits old new (AreEditsAt p m rank) (IsFileAt p rank)
adds_file p m rank f old new edits at are u =
    adds_entry old new f.path edits (AreEditsAt p m rank) (IsFileAt p rank) u
    (record { file = record { source = f; has_rank = at; of_path = refl }; are = are })
    (λ q h. sym h.of_path ∙ ap (λ (s : SourceFile). s.path) (same_Some h.source f (sym h.has_rank ∙ at)))

pub all_below : (p : Package) (n : ℕ) → n ≡ length p.files → (path : List ℕ) → HasFileIn p path → IsFileBelow p n path
all_below p n end path h = record { rank = h.0; below = subst (λ k. h.0 < k) (sym end) (slice_get_within p.files h.0 h.1.source h.1.has_rank); file = h.1 }

-- the packages of a workspace, up to a number

are_go : (w : Workspace) (known : Verdicts) (m : Moved) (n : ℕ) (p : Package) → IsPackageAt w known n p → (path : List ℕ) (edits : List Edit) →
    AreEditsIn p m path edits → AreGoEdits w known m path edits
are_go w known m n p is path edits h = record {
  inside = p;
  is_package = is.is_package;
  rank = h.0;
  source = h.1.file.source;
  has_rank = h.1.file.has_rank;
  of_path = h.1.file.of_path;
  are = h.1.are;
}

pub next_package : (w : Workspace) (known : Verdicts) (m : Moved) (n : ℕ) (p : Package) (old new : EditMap) → IsPackageAt w known n p →
    AddsEdits old new (AreEditsIn p m) (HasFileIn p) → KnowsEdits w known m n old → KnowsEdits w known m (n + 1) new
next_package w known m n p old new is adds h = record {
  right = λ path edits e. elim (adds.only path edits e) [ inl o ↦ h.right path edits o | inr x ↦ are_go w known m n p is path edits x ];
  all = λ i q path lt at has. elim (cases_lt i n) [
    | inl below ↦ adds.keeps path (h.all i q path below at has)
    | inr ge ↦ (
        let e : i ≡ n = omega arith in
        let same : q ≡ p = one_at w known n q p (subst (λ j. IsPackageAt w known j q) e at) is in
        adds.holds path (subst (λ x. HasFileIn x path) same has))
  ];
}
