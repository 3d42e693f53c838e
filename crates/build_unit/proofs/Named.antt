-- What the declarations of packages are called, one package further.
use Rattle.std.proofs.Common.{ℕ, ◌≡◌, ◌<◌, ◌⊎◌, inl, inr, List, [], ◌∷◌, ◌++◌, refl, sym, ap, subst, ◌∙◌, MatchOption}
use Rattle.std.specs.Prelude.{Contains, Option, Some, None, slice_get}
use Rattle.std.specs.FinMap.{find}
use Rattle.std.proofs.lemmas.Option.{same_Some}
use Rattle.base_lemmas.proofs.Elements.{nothing_in}
use Rattle.base_files.specs.Workspace.{Workspace, path_cmp}
use Rattle.base_files.specs.Packages.{package_paths}
use Rattle.go_ast.specs.SourceFile.{SourceFile}
use Rattle.base_files.specs.Entries.{IsAfterAllPaths}
use Rattle.base_files.proofs.Pushing.{put_behind, behind_pushed}
use Rattle.base_files.proofs.Putting.{found_put, others_put}
use Rattle.workspace_graph.specs.Graphs.{ListsPackages}
use Rattle.workspace_graph.specs.Packages.{IsInClosure}
use Rattle.workspace_graph.proofs.ByPath.{number}
use Rattle.types_declared.proofs.ByteKeys.{cases_bytes}
use Rattle.workspace_check.proofs.Closed.{to_package}
use Rattle.workspace_check.proofs.Rising.{later_path}
use Rattle.build_object.specs.declared.packages.NamedPackage.{NamedPackage}
use Rattle.build_object.specs.declared.packages.DeclaredTables.{DeclaredTables}
use Rattle.build_object.specs.NamesView.{AreNamesOf, AreTablesOf}
use Rattle.build_unit.specs.Units.{AreFilesOf, AreFilesSeen, within, beyond}
use Rattle.build_unit.specs.Compiling.{HaveNamesBelow}
use Rattle.build_unit.specs.Naming.{AreTablesBy, without_tables}

-- one of some packages, by their numbers
pub record IsAmong (w : Workspace) (numbers : List ℕ) (q : List ℕ) : Type 0 where
  pub place : ℕ
  pub among : Contains numbers place
  pub has_path : slice_get (package_paths w) place ≡ Some q

-- what the declarations in the files of q are called is known
pub record IsCalled (named : List (List ℕ × NamedPackage)) (q : List ℕ) (files : List SourceFile) : Type 0 where
  pub names : NamedPackage
  pub known : find path_cmp q named ≡ Some names
  pub are_names : AreNamesOf q files names None

-- that is so of one of these packages; of any other path nothing is known
abbrev pub IsNamed : Workspace → List ℕ → List (List ℕ × NamedPackage) → List ℕ → List SourceFile → Type 0
IsNamed w numbers named q files =
    (IsAmong w numbers q × AreFilesOf w q files × IsCalled named q files)
    ⊎ ((IsAmong w numbers q → ⊥) × (files ≡ []) × (find path_cmp q named ≡ None))

pub record AreNamed (w : Workspace) (numbers : List ℕ) (named : List (List ℕ × NamedPackage)) : Type 0 where
  pub files_of : List ℕ → List SourceFile
  pub each : (q : List ℕ) → IsNamed w numbers named q (files_of q)

-- each package above those of some numbers has a path behind all that are named
abbrev pub StandBefore : Workspace → List ℕ → List (List ℕ × NamedPackage) → Type 0
StandBefore w numbers named = (m : ℕ) (q : List ℕ) → slice_get (package_paths w) m ≡ Some q → ((n : ℕ) → Contains numbers n → n < m) →
    IsAfterAllPaths q named

-- both of them, where packages are named one after the other
pub record AreNamedUpTo (w : Workspace) (numbers : List ℕ) (named : List (List ℕ × NamedPackage)) : Type 0 where
  pub are : AreNamed w numbers named
  pub before : StandBefore w numbers named

-- no package yet

pub none_named : (w : Workspace) (numbers : List ℕ) (named : List (List ℕ × NamedPackage)) → numbers ≡ [] → named ≡ [] → AreNamedUpTo w numbers named
none_named w numbers named e none = record {
  are = record {
    files_of = λ q. [];
    each = λ q. inr (λ s. nothing_in s.place (subst (λ l. Contains l s.place) e s.among), refl, ap (find path_cmp q) none);
  };
  before = λ m q at above. subst (IsAfterAllPaths q) (sym none) tt;
}

-- one package further

-- the files of one path, and those of the others
one_more : {q r : List ℕ} → (r ≡ q) ⊎ (r ≡ q → ⊥) → (here there : List SourceFile) → List SourceFile
one_more (inl same) here there = here
one_more (inr other) here there = there

module _ (w : Workspace) (xs ys : List ℕ) (n : ℕ) (q : List ℕ) (at : slice_get (package_paths w) n ≡ Some q)
    (more : (m : ℕ) → Contains ys m → Contains xs m ⊎ (n ≡ m)) (keeps : (m : ℕ) → Contains xs m → Contains ys m) (here : Contains ys n)
    (above : (m : ℕ) → Contains xs m → m < n)
    (old new : List (List ℕ × NamedPackage)) (names : NamedPackage) (pushed : new ≡ old ++ (q, names) ∷ [])
    (files : List SourceFile) (are : AreFilesOf w q files) (are_names : AreNamesOf q files names None) where
  still : (r : List ℕ) → IsAmong w xs r → IsAmong w ys r
  still r s = record { place = s.place; among = keeps s.place s.among; has_path = s.has_path }

  -- it was among the earlier ones, or it is the one here
  earlier : (r : List ℕ) → IsAmong w ys r → IsAmong w xs r ⊎ (r ≡ q)
  earlier r s = elim (more s.place s.among) [
    | inl c ↦ inl (record { place = s.place; among = c; has_path = s.has_path })
    | inr e ↦ inr (same_Some r q (sym s.has_path ∙ subst (λ m. slice_get (package_paths w) m ≡ Some q) e at))
  ]

  module _ (h : AreNamedUpTo w xs old) where
    behind : IsAfterAllPaths q old
    behind = h.before n q at above

    known : find path_cmp q new ≡ Some names
    known = ap (find path_cmp q) (pushed ∙ sym (put_behind q names old behind)) ∙ found_put q names old

    elsewhere : (r : List ℕ) → (r ≡ q → ⊥) → find path_cmp r new ≡ find path_cmp r old
    elsewhere r ne = ap (find path_cmp r) (pushed ∙ sym (put_behind q names old behind)) ∙ others_put q names old r ne

    next_at : (r : List ℕ) (c : (r ≡ q) ⊎ (r ≡ q → ⊥)) (there : List SourceFile) → IsNamed w xs old r there →
        IsNamed w ys new r (one_more c files there)
    unfolding one_more
    next_at r (inl e) there s = inl (
      record { place = n; among = here; has_path = at ∙ ap Some (sym e) },
      subst (λ x. AreFilesOf w x files) (sym e) are,
      subst (λ x. IsCalled new x files) (sym e) (record { names = names; known = known; are_names = are_names }),
    )
    next_at r (inr ne) there s = elim s [
      | inl i ↦ inl (still r i.0, i.1, record { names = i.2.names; known = elsewhere r ne ∙ i.2.known; are_names = i.2.are_names })
      | inr i ↦ inr (λ t. elim (earlier r t) [ inl x ↦ i.0 x | inr e ↦ ne e ], i.1, elsewhere r ne ∙ i.2)
    ]

    pub named_next : AreNamedUpTo w ys new
    named_next = record {
      are = record {
        files_of = λ r. one_more (cases_bytes r q) files (h.are.files_of r);
        each = λ r. next_at r (cases_bytes r q) (h.are.files_of r) (h.are.each r);
      };
      before = λ m r at_m below. subst (IsAfterAllPaths r) (sym pushed)
          (behind_pushed r q names old (later_path w n m q r at at_m (below n here)) behind);
    }

-- all packages of the closure

module _ (w : Workspace) (p : List ℕ) (numbers : List ℕ) (named : List (List ℕ × NamedPackage)) (holds : ListsPackages w (IsInClosure w p) numbers) where
  read_by : (q : List ℕ) (files : List SourceFile) → IsNamed w numbers named q files → AreFilesSeen w p q files
  read_by q files h = elim h [
    | inl s ↦ (
        let held = (holds s.0.place).0 s.0.among in
        within (subst (IsInClosure w p) (same_Some held.0 q (sym held.1 ∙ s.0.has_path)) held.2) s.1)
    | inr s ↦ subst (AreFilesSeen w p q) (sym s.1) (beyond (λ closed.
        let n = number w q (to_package w p q closed) in
        s.0 (record { place = n.0; among = (holds n.0).1 (q, n.1, closed); has_path = n.1 })))
  ]

  named_by : (q : List ℕ) (files : List SourceFile) → IsNamed w numbers named q files →
      MatchOption (find path_cmp q named) (files ≡ []) (λ names. AreNamesOf q files names None)
  named_by q files h = elim h [
    | inl s ↦ subst (λ (o : Option NamedPackage). MatchOption o (files ≡ []) (λ names. AreNamesOf q files names None)) (sym s.2.known) s.2.are_names
    | inr s ↦ subst (λ (o : Option NamedPackage). MatchOption o (files ≡ []) (λ names. AreNamesOf q files names None)) (sym s.2) s.1
  ]

  pub all_named : AreNamed w numbers named → HaveNamesBelow w p (without_tables named)
  all_named h = record {
    files_of = h.files_of;
    are_files = λ q. read_by q (h.files_of q) (h.each q);
    have_names = λ q. named_by q (h.files_of q) (h.each q);
  }

-- with tables

told : (named : List (List ℕ × NamedPackage)) (tables : List (List ℕ × DeclaredTables)) (q : List ℕ) (files : List SourceFile) (o : Option NamedPackage) →
    AreTablesBy named tables → find path_cmp q named ≡ o → MatchOption o (files ≡ []) (λ names. AreNamesOf q files names None) →
    MatchOption o (files ≡ []) (λ names. AreNamesOf q files names (find path_cmp q tables))
told named tables q files None are at e = e
told named tables q files (Some names) are at h = record {
  has_path = h.has_path;
  has_files = h.has_files;
  tables = λ t there. subst (λ fs. AreTablesOf fs t) h.has_files (are q names t at there);
}

pub with_tables : (w : Workspace) (p : List ℕ) (named : List (List ℕ × NamedPackage)) (tables : List (List ℕ × DeclaredTables)) →
    AreTablesBy named tables → HaveNamesBelow w p (without_tables named) → HaveNamesBelow w p (record { names = named; tables = tables })
with_tables w p named tables are h = record {
  files_of = h.files_of;
  are_files = h.are_files;
  have_names = λ q. told named tables q (h.files_of q) (find path_cmp q named) are refl (h.have_names q);
}
