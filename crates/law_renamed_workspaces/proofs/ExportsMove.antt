-- What a package exports after a rename: the same, but that one name may be another.
use Rattle.std.proofs.Common.{ℕ, ◌≡◌, ◌≢◌, ◌<◌, inl, inr, true, List, ap, refl, sym, subst, ◌∙◌, arith}
use Rattle.std.specs.Prelude.{Option, Some, None}
use Rattle.std.proofs.lemmas.Bool.{cases_eq, cases_lt}
use Rattle.go_scope.specs.Bindings.{Layout, Names, IsPackageLevel, Counts, own}
use Rattle.go_scope.specs.WellFormed.{WellFormed}
use Rattle.types_declared.specs.Laid.{is_exported}
use Rattle.types_declared.specs.Package.{Package, Export, ExportData}
use Rattle.types_expr.specs.World.{Means as Stands}
use Rattle.types_check.specs.Exports.{IsExport, IsExported, IsExportData}
use Rattle.types_check.proofs.ExportParts.{one_export}
use Rattle.types_info.specs.Uniqueness.{TokensRise}
use Rattle.types_info.proofs.OneMeaning.{has_one_meaning}
use Rattle.law_renamed_workspaces.specs.MovedExports.{AreMovedExports, stay, move, IsMovedTo}
use Rattle.law_changed_types.proofs.Alike.{Alike, turned}
use Rattle.law_changed_types.proofs.Meanings.{meaning}
use Rattle.law_renamed_workspaces.proofs.DeclaredNames.{HasLevelNames, all_stay, one_moves, MovesLevelName, KeepsLevelNames}
use Rattle.law_renamed_workspaces.proofs.ScopeFaults.{bound_counts}

-- of two packages that are bound alike what counts in the one counts in the other
pub counts_there : (p q : Package) → Alike p q → (u : ℕ) → Counts p.layout p.names u → Counts q.layout q.names u
counts_there p q alike u counts =
    subst (λ (l : Layout). Counts l q.names u) (sym alike.layout) (bound_counts p.layout q.names u u ((alike.bindings u u).0 (own refl counts)))

pub level_there : (p q : Package) → Alike p q → (u : ℕ) → IsPackageLevel p.layout u → IsPackageLevel q.layout u
level_there p q alike u level = subst (λ (l : Layout). IsPackageLevel l u) (sym alike.layout) level

-- so is what it exports, where its name is exported
pub export_there : (p q : Package) → Alike p q → (name new : List ℕ) (e : Export) (x : IsExport p name e) → q.names x.declaration ≡ new →
    is_exported new ≡ true → IsExport q new e
export_there p q alike name new e x called exported = record {
  declaration = x.declaration;
  named = called;
  by_declaration = record {
    seen = record {
      package_level = level_there p q alike x.declaration x.by_declaration.seen.package_level;
      counts = counts_there p q alike x.declaration x.by_declaration.seen.counts;
      exported = ap is_exported called ∙ exported;
    };
    means = meaning p q alike x.declaration (Stands e.meaning) x.by_declaration.means;
  };
}

pub export_exported : (p : Package) (name : List ℕ) (e : Export) → IsExport p name e → is_exported name ≡ true
export_exported p name e x = ap is_exported (sym x.named) ∙ x.by_declaration.seen.exported

-- what counts in the package's block is one by its name
pub one_counts : (l : Layout) (names : Names) (d e : ℕ) → IsPackageLevel l d → IsPackageLevel l e → Counts l names d → Counts l names e →
    names d ≡ names e → d ≡ e
one_counts l names d e level also c k same = elim (cases_eq d e) [
  | inl one ↦ one
  | inr apart ↦ elim (cases_lt d e) [
    | inl less ↦ absurd (k.first d c.declares same (inl (level ∙ sym also, less)))
    | inr le ↦ absurd (c.first e k.declares (sym same) (inl (also ∙ sym level, (let less : e < d = omega (arith, apart) in less))))
  ]
]

-- two packages export the same under two names
same_export : (p q : Package) (m n : List ℕ) → ((e f : Export) → IsExport q n e → IsExport q n f → e ≡ f) → ((e : Export) → IsExport p m e → IsExport q n e) →
    ((e : Export) → IsExport q n e → IsExport p m e) → (o u : Option Export) → IsExported p m o → IsExported q n u → u ≡ o
same_export p q m n one there back None None a b = refl
same_export p q m n one there back None (Some f) a b = absurd (a f (back f b))
same_export p q m n one there back (Some e) None a b = absurd (b e (there e a))
same_export p q m n one there back (Some e) (Some f) a b = ap (λ (x : Export). Some x) (one f e b (there e a))

none_exported : (p : Package) (m : List ℕ) → ((e : Export) → IsExport p m e → ⊥) → (o : Option Export) → IsExported p m o → o ≡ None
none_exported p m none None a = refl
none_exported p m none (Some e) a = absurd (none e a)

-- what each exports, where all package-level names stay
module _ (p q : Package) (alike : Alike p q) (keeps : KeepsLevelNames p q) where
  back_to : Alike q p
  back_to = turned p q alike

  pub export_stays : (n : List ℕ) (e : Export) → IsExport p n e → IsExport q n e
  export_stays n e x =
      export_there p q alike n n e x (keeps x.declaration x.by_declaration.seen.package_level x.by_declaration.seen.counts ∙ x.named)
      (export_exported p n e x)

  pub export_was : (n : List ℕ) (e : Export) → IsExport q n e → IsExport p n e
  export_was n e x =
      let level = level_there q p back_to x.declaration x.by_declaration.seen.package_level in
      let counts = counts_there q p back_to x.declaration x.by_declaration.seen.counts in
      export_there q p back_to n n e x (sym (keeps x.declaration level counts) ∙ x.named) (export_exported q n e x)

-- what each exports, where one is renamed
module _ (p q : Package) (alike : Alike p q) (name : List ℕ) (m : ℕ) (h : MovesLevelName p q name m) where
  abbrev back : Alike q p
  back = turned p q alike

  abbrev old : List ℕ
  old = p.names m

  -- an export of p is that of m or keeps its name
  is_m : (n : List ℕ) (e : Export) (x : IsExport p n e) → n ≡ old → x.declaration ≡ m
  is_m n e x same =
      one_counts p.layout p.names x.declaration m x.by_declaration.seen.package_level h.level x.by_declaration.seen.counts h.counts (x.named ∙ same)

  was_other : (n : List ℕ) (e : Export) (x : IsExport p n e) → n ≢ old → x.declaration ≡ m → ⊥
  was_other n e x other same = other (sym x.named ∙ ap p.names same)

  kept : (n : List ℕ) (e : Export) (x : IsExport p n e) → n ≢ old → q.names x.declaration ≡ n
  kept n e x other =
      h.others x.declaration (was_other n e x other) x.by_declaration.seen.package_level x.by_declaration.seen.counts ∙ x.named

  -- so it is of an export of q
  pub is_m_now : (n : List ℕ) (e : Export) (x : IsExport q n e) → n ≡ name → x.declaration ≡ m
  is_m_now n e x same =
      one_counts q.layout q.names x.declaration m x.by_declaration.seen.package_level (level_there p q alike m h.level) x.by_declaration.seen.counts
      (counts_there p q alike m h.counts) (x.named ∙ same ∙ sym h.now)

  is_other : (n : List ℕ) (e : Export) (x : IsExport q n e) → n ≢ name → x.declaration ≡ m → ⊥
  is_other n e x other same = other (sym x.named ∙ ap q.names same ∙ h.now)

  kept_back : (n : List ℕ) (e : Export) (x : IsExport q n e) → n ≢ name → p.names x.declaration ≡ n
  kept_back n e x other =
      sym (h.others x.declaration (is_other n e x other) (level_there q p back x.declaration x.by_declaration.seen.package_level)
      (counts_there q p back x.declaration x.by_declaration.seen.counts)) ∙ x.named

  pub was_free : (e : Export) → IsExport p name e → ⊥
  unfolding export_there
  was_free e x =
      let apart : name ≢ old = λ same. h.other (sym same) in
      let now = export_there p q alike name name e x (kept name e x apart) (export_exported p name e x) in
      was_other name e x apart (is_m_now name e now refl)

  pub is_free : (e : Export) → IsExport q old e → ⊥
  unfolding export_there
  is_free e x =
      let apart : old ≢ name = h.other in
      let then = export_there q p back old old e x (kept_back old e x apart) (export_exported q old e x) in
      is_other old e x apart (is_m old e then refl)

  pub moved_there : is_exported name ≡ true → (e : Export) → IsExport p old e → IsExport q name e
  moved_there now_exported e x = export_there p q alike old name e x (ap q.names (is_m old e x refl) ∙ h.now) now_exported

  pub moved_back : is_exported old ≡ true → (e : Export) → IsExport q name e → IsExport p old e
  moved_back was_exported e x = export_there q p back name old e x (ap p.names (is_m_now name e x refl)) was_exported

  pub other_there : (n : List ℕ) → n ≢ old → (e : Export) → IsExport p n e → IsExport q n e
  other_there n other e x = export_there p q alike n n e x (kept n e x other) (export_exported p n e x)

  pub other_back : (n : List ℕ) → n ≢ name → (e : Export) → IsExport q n e → IsExport p n e
  other_back n other e x = export_there q p back n n e x (kept_back n e x other) (export_exported q n e x)

module _ (p q : Package) (alike : Alike p q) (formed : WellFormed q.layout) (rising : TokensRise q.files) (i j : ExportData) (was : IsExportData p i)
    (is : IsExportData q j) where
  once : (n : List ℕ) (e f : Export) → IsExport q n e → IsExport q n f → e ≡ f
  once n e f a b = one_export q (has_one_meaning q formed rising) n e f a b

  exports_same : (m n : List ℕ) → ((e : Export) → IsExport p m e → IsExport q n e) → ((e : Export) → IsExport q n e → IsExport p m e) →
      j.exported n ≡ i.exported m
  exports_same m n there here = same_export p q m n (once n) there here (i.exported m) (j.exported n) (was.exported m) (is.exported n)

  module _ (keeps : KeepsLevelNames p q) where
    stays : (n : List ℕ) → j.exported n ≡ i.exported n
    stays n = exports_same n n (export_stays p q alike keeps n) (export_was p q alike keeps n)

  module _ (name : List ℕ) (m : ℕ) (h : MovesLevelName p q name m) where
    moves : IsMovedTo (p.names m) name i.exported j.exported
    moves = record {
      there = λ was_exported now_exported.
          exports_same (p.names m) name (moved_there p q alike name m h now_exported) (moved_back p q alike name m h was_exported);
      was_free = none_exported p name (was_free p q alike name m h) (i.exported name) (was.exported name);
      is_free = none_exported q (p.names m) (is_free p q alike name m h) (j.exported (p.names m)) (is.exported (p.names m));
      others = λ n other_old other_new.
          exports_same n n (other_there p q alike name m h n other_old) (other_back p q alike name m h n other_new);
    }

  pub exports_move : (name : List ℕ) → HasLevelNames p q name → AreMovedExports i.exported j.exported
  exports_move name (all_stay keeps) = stay (stays keeps)
  exports_move name (one_moves m h) = move (p.names m) name (moves name m h)
