-- What is read of the packages that import the one that moves: the marks of one more package, and of all.
use Rattle.std.proofs.Common.{ℕ, zero, suc, ◌≡◌, ◌+◌, ◌<◌, inl, inr, Bool, true, false, List, [], ◌∷◌, ◌++◌, length, refl, sym, ap, subst, ◌∙◌, arith}
use Rattle.std.specs.Prelude.{Contains, Option, Some, None, slice_get, slice_index_or}
use Rattle.std.specs.Global.{Vec}
use Rattle.std.proofs.Math.ListN.{set}
use Rattle.std.proofs.lemmas.Bool.{true≢false}
use Rattle.std.proofs.lemmas.List.{length-append, length-set, get_or_past}
use Rattle.std.proofs.lemmas.Option.{none-some, same_Some, slice_get_past}
use Rattle.base_files.specs.Packages.{package_paths}
use Rattle.base_files.specs.Workspace.{Workspace}
use Rattle.go_scope.proofs.Uniqueness.{same_or_not}
use Rattle.types_declared.proofs.Mentioning.{get_set_same, get_set_other}
use Rattle.types_declared.specs.Package.{Package}
use Rattle.types_declared.specs.Written.{DeclaresImport}
use Rattle.workspace_graph.specs.Graphs.{ListsPackages}
use Rattle.workspace_graph.specs.Packages.{PackageImports}
use Rattle.workspace_check.specs.FaultLists.{ListsFaults}
use Rattle.workspace_check.specs.Verdicts.{Verdicts, AreVerdicts}
use Rattle.workspace_check.proofs.Closed.{to_package}
use Rattle.workspace_check.proofs.OnePackage.{layout_formed}
use Rattle.refs_binding.specs.Uses.{IsCheckedPackage}
use Rattle.refs_binding.specs.Workspaces.{IsPackageAt}
use Rattle.law_faultless.proofs.Declared.{may_within}
use Rattle.law_renamed_workspaces.proofs.GoodImports.{imports_are_good}
use Rattle.law_moves.proofs.ImportTokens.{import_is_counted}
use Rattle.refactor_move.specs.FileEdits.{IsImportUse}
use Rattle.refactor_move.specs.Following.{Follows, IsFollowingName}
use Rattle.refactor_move.specs.MoveEdits.{IsMoveOf}
use Rattle.refactor_move.specs.Uses.{IsNameTokenAt, KnowsUses, mark_at, marks_in_row, rows_at, marks_in_package}
use Rattle.refactor_move.specs.declared.moved.Moved.{Moved}
use Rattle.refactor_follow.specs.MoveReadings.{HasNoMarks, KnowsMoveUses, MarksAmong, MarksEverywhere, MarksImportUses, MarksOnly, SetsRows, move_from}
use Rattle.refactor_follow.proofs.Steps.{import_declares}
use Rattle.refactor_follow.proofs.Whole.{index_of, name_none}

-- no marks

pub unmarked : (rows : List (Vec Bool)) → rows ≡ [] → (file token : ℕ) → mark_at rows file token ≡ false
unmarked rows e file token =
    ap (λ rs. mark_at rs file token) e ∙ ap (λ o. slice_index_or (marks_in_row o) token false) (slice_get_past [] file (omega arith))
    ∙ get_or_past [] token false (omega arith)

pub no_uses : (uses : List (Vec (Vec Bool))) → uses ≡ [] → HasNoMarks 0 uses
no_uses uses e = record {
  size = ap length e;
  each = λ number. ap marks_in_package (ap (λ us. slice_get us number) e ∙ slice_get_past [] number (omega arith));
}

pub one_unmarked : (n : ℕ) (uses more : List (Vec (Vec Bool))) (rows : Vec (Vec Bool)) → HasNoMarks n uses → more ≡ uses ++ rows ∷ [] → rows.items ≡ [] →
    HasNoMarks (n + 1) more
one_unmarked n uses more rows h is none = subst (HasNoMarks (n + 1)) (sym is) (record {
  size = let both = length-append uses (rows ∷ []) in let size = h.size in omega (arith, both, size);
  each = λ number. by_item uses (λ k. h.each k) number;
})
  where
    by_item : (us : List (Vec (Vec Bool))) → ((k : ℕ) → rows_at us k ≡ []) → (k : ℕ) → rows_at (us ++ rows ∷ []) k ≡ []
    by_item [] each zero = none
    by_item [] each (suc k) = refl
    by_item (u ∷ us) each zero = each zero
    by_item (u ∷ us) each (suc k) = by_item us (λ j. each (suc j)) k

pub sets_rows : (old new : List (Vec (Vec Bool))) (number : ℕ) (rows : Vec (Vec Bool)) → number < length old → new ≡ set old number rows →
    SetsRows old new number rows.items
sets_rows old new number rows lt is = subst (λ us. SetsRows old us number rows.items) (sym is) (record {
  size = length-set old number rows;
  here = ap marks_in_package (get_set_same old number rows lt);
  elsewhere = λ k other. ap marks_in_package (get_set_other old number k rows other);
})

-- one more package

module _ (w : Workspace) (known : Verdicts) (path : List ℕ) where
  pub none_marked : (numbers : List ℕ) (count : ℕ) (uses : List (Vec (Vec Bool))) → HasNoMarks count uses → MarksAmong w known path numbers 0 uses
  none_marked numbers count uses h = record {
    only = λ number p at file token e. absurd (true≢false (sym e ∙ unmarked (rows_at uses number) (h.each number) file token));
    all = λ i number lt. absurd (omega (arith, lt));
  }

  pub next_marked : (numbers : List ℕ) (n number : ℕ) → slice_get numbers n ≡ Some number → (old new : List (Vec (Vec Bool))) (rows : List (Vec Bool)) →
      MarksAmong w known path numbers n old → SetsRows old new number rows → ((p : Package) → IsPackageAt w known number p → MarksImportUses p path rows) →
      MarksAmong w known path numbers (n + 1) new
  next_marked numbers n number is old new rows h put right = record {
    only = λ k p at. elim (same_or_not k number) [
      | inl same ↦
          subst (λ j. MarksOnly p path (rows_at new j)) (sym same)
          (subst (MarksOnly p path) (sym put.here) (right p (subst (λ j. IsPackageAt w known j p) same at)).only)
      | inr other ↦ subst (MarksOnly p path) (sym (put.elsewhere k other)) (h.only k p at)
    ];
    all = λ i k lt has p at file token x bound. elim (same_or_not k number) [
      | inl same ↦
          ap (λ j. mark_at (rows_at new j) file token) same ∙ ap (λ rs. mark_at rs file token) put.here
          ∙ (right p (subst (λ j. IsPackageAt w known j p) same at)).all file token x bound
      | inr other ↦
          let before : i < n = earlier i k lt has other in
          ap (λ rs. mark_at rs file token) (put.elsewhere k other) ∙ h.all i k before has p at file token x bound
    ];
  }
    where
      earlier : (i k : ℕ) → i < n + 1 → slice_get numbers i ≡ Some k → (k ≡ number → ⊥) → i < n
      earlier i k lt has other = elim (same_or_not i n) [
        | inl last ↦ absurd (other (same_Some k number (sym has ∙ ap (slice_get numbers) last ∙ is)))
        | inr apart ↦ omega (arith, lt, apart)
      ]

-- all packages

module _ (w : Workspace) (sound : ListsFaults w []) (known : Verdicts) (right : AreVerdicts w known) (path : List ℕ) where
  imported : (p : Package) → IsCheckedPackage w known p → (file token : ℕ) → IsImportUse p file (move_from path) token → PackageImports w p.path path
  imported p is file token bound =
      let d = bound.import in
      let may = (import_declares p.layout p.names (layout_formed w known p.path p is.is_checked) d bound.imports.is_import).may in
      import_is_counted w known p.path p is.is_checked d (may_within w known p.path p is.is_checked d may) path bound.imports

  -- where there is no package at the path
  pub nowhere_used : (uses : List (Vec (Vec Bool))) → uses ≡ [] → (Contains (package_paths w) path → ⊥) → MarksEverywhere w known path uses
  nowhere_used uses e nowhere number p at = record {
    only = λ file token marked. absurd (true≢false (sym marked ∙ unmarked (rows_at uses number) ((no_uses uses e).each number) file token));
    all = λ file token x bound. absurd (imports_are_good w sound known right p at.is_package path (imported p at.is_package file token bound)
        (λ on. nowhere (to_package w p.path path on.imported)));
  }

  pub everywhere_marked : (numbers : List ℕ) → ListsPackages w (λ q. PackageImports w q path) numbers → (uses : List (Vec (Vec Bool))) →
      MarksAmong w known path numbers (length numbers) uses → MarksEverywhere w known path uses
  everywhere_marked numbers lists uses h number p at = record {
    only = h.only number p at;
    all = λ file token x bound.
        let among : Contains numbers number = (lists number).1 (p.path, at.has_number, imported p at.is_package file token bound) in
        let i = index_of numbers number among in
        h.all i.0 number i.1.0 i.1.1 p at file token x bound;
  }

-- the marks of a move

to_move : (p : Package) (m : Moved) (path : List ℕ) → m.from ≡ path → (file token : ℕ) → IsImportUse p file (move_from path) token → IsImportUse p file m token
to_move p m path same file token x =
    record { import = x.import; binds = x.binds; unnamed = x.unnamed; imports = subst (DeclaresImport p x.import) (sym same) x.imports }

of_move : (p : Package) (m : Moved) (path : List ℕ) → m.from ≡ path → (file token : ℕ) → IsImportUse p file m token → IsImportUse p file (move_from path) token
of_move p m path same file token x =
    record { import = x.import; binds = x.binds; unnamed = x.unnamed; imports = subst (DeclaresImport p x.import) same x.imports }

module _ (w : Workspace) (known : Verdicts) (from called : List ℕ) where
  pub marks_of_move : (path : List ℕ) → path ≡ from → (uses : List (Vec (Vec Bool))) → MarksEverywhere w known path uses →
      KnowsMoveUses w known from called uses
  marks_of_move path same uses h to m move number p at =
      let source : m.from ≡ path = move.source ∙ sym same in
      record {
        only = λ file token e. to_move p m path source file token ((h number p at).only file token e);
        all = λ name follows file token x bound. (h number p at).all file token x (of_move p m path source file token bound);
      }

  -- a package that keeps its name
  pub unmarked_move : (o : Option (List ℕ)) → o ≡ None → IsFollowingName (IsCheckedPackage w known) from called o → (uses : List (Vec (Vec Bool))) → uses ≡ [] →
      KnowsMoveUses w known from called uses
  unmarked_move o none stays uses e to m move number p at = record {
    only = λ file token marked. absurd (true≢false (sym marked ∙ unmarked (rows_at uses number) ((no_uses uses e).each number) file token));
    all = λ name follows file token x bound.
        let not : Follows (IsCheckedPackage w known) from called → ⊥ = subst (IsFollowingName (IsCheckedPackage w known) from called) none stays in
        absurd (none-some name (sym (name_none w known from called m.name move.name not) ∙ follows));
  }
