-- Imports keep their paths where an import got the name that it declared already.
use Rattle.std.proofs.Common.{ℕ, suc, ◌≡◌, ◌+◌, inl, inr, List, Some, Bool, true, false, if◌then◌else◌, length, refl, sym, ap, ◌∙◌, subst, arith}
use Rattle.std.specs.Prelude.{slice_get, cond, nat_eq}
use Rattle.std.proofs.lemmas.Bool.{cases_eq, eqb-true, false_from_ne_true, true≢false}
use Rattle.std.proofs.lemmas.Bool.Decides.{nat_tests}
use Rattle.std.proofs.lemmas.Option.{same_Some}
use Rattle.go_ast.specs.SourceFile.{SourceFile}
use Rattle.go_scope.specs.declared.model.Block.{Block}
use Rattle.go_scope.specs.declared.model.Block.TheVariants.{Universe, File, Inner}
use Rattle.go_scope.specs.declared.model.Block.TheVariants.{Package as PackageBlock}
use Rattle.go_scope.specs.declared.model.Position.{Position}
use Rattle.go_scope.specs.declared.model.Role.{Role}
use Rattle.go_scope.specs.declared.model.Role.TheVariants.{Use, Declaring, LeftName, Implied, NotLexical}
use Rattle.go_scope.specs.declared.model.Purpose.TheVariants as purpose
use Rattle.go_scope.specs.Bindings.{Layout, IsImport, block_of}
use Rattle.go_scope.specs.Moves.{moved_block, moved_place, moved_role}
use Rattle.go_scope.specs.Site.{or_blank}
use Rattle.law_rename.specs.Around.{from_on}
use Rattle.law_rename.specs.Gained.{Gain, import_site, moved_by}
use Rattle.law_rename.proofs.Sites.{moved_here}
use Rattle.law_rename.proofs.Spelling.{from_itself}
use Rattle.law_rename.proofs.TokensBehind.{seam}
use Rattle.types_declared.specs.Files.{HasLiteral}
use Rattle.types_declared.specs.Laid.{IsPathOf, is_literal, literal_of}
use Rattle.types_declared.specs.Package.{Package, laid_of}
use Rattle.law_gained_names.specs.NamedPackage.{IsNamedPackage, KeepsLiterals, ImportsKeepPaths}
use Rattle.law_gained_names.proofs.Alone.{alone}
use Rattle.law_gained_names.proofs.NamedImportsFiles.{files_else}
use Rattle.law_gained_names.proofs.Layouts.{token, tokens_agree, from_stays, path_at, stood_at}
use Rattle.law_gained_names.proofs.Laws.{places_here, roles_here}

-- roles and blocks

literal_stays : (m : ℕ → ℕ → ℕ) (r : Role) → is_literal (moved_role m r) ≡ is_literal r
literal_stays m Use = refl
literal_stays m (NotLexical p) = refl
literal_stays m (Declaring b s) = refl
literal_stays m (LeftName b s) = refl
literal_stays m (Implied b s) = refl

block_stays : (m : ℕ → ℕ → ℕ) (r : Role) → block_of (moved_role m r) ≡ moved_block m (block_of r)
block_stays m Use = refl
block_stays m (NotLexical p) = refl
block_stays m (Declaring b s) = refl
block_stays m (LeftName b s) = refl
block_stays m (Implied b s) = refl

file_back : (m : ℕ → ℕ → ℕ) (b : Block) (f : ℕ) → moved_block m b ≡ File f → b ≡ File f
file_back m Universe f e = e
file_back m PackageBlock f e = e
file_back m (File g) f e = e
file_back m (Inner g x y) f e = absurd (let z : ⊥ = cc in z)

-- literals at a token of a file

record LiteralAt (files : List SourceFile) (file n : ℕ) (path : List ℕ) : Type 0 where
  source : SourceFile
  is_file : slice_get files file ≡ Some source
  has_literal : HasLiteral source n path

of_path : (p : Package) (d file n : ℕ) (path : List ℕ) → (p.layout.place d).file ≡ file → (p.layout.place (literal_of p.layout d)).index ≡ n →
    IsPathOf p.files (laid_of p) d path → LiteralAt p.files file n path
of_path p d file n path in_file index h = record {
  source = h.source;
  is_file = ap (slice_get p.files) (sym in_file) ∙ h.is_file;
  has_literal = subst (λ k. HasLiteral h.source k path) index h.has_literal;
}

to_path : (p : Package) (d file n : ℕ) (path : List ℕ) → (p.layout.place d).file ≡ file → (p.layout.place (literal_of p.layout d)).index ≡ n →
    LiteralAt p.files file n path → IsPathOf p.files (laid_of p) d path
to_path p d file n path in_file index h = record {
  source = h.source;
  is_file = ap (slice_get p.files) in_file ∙ h.is_file;
  has_literal = subst (λ k. HasLiteral h.source k path) (sym index) h.has_literal;
}

module _ (i : Gain) (at : ℕ) (p q : Package) (a : IsNamedPackage i at p q) (k : KeepsLiterals i at p q a.file) where
  abbrev e : ℕ → ℕ
  e = from_on (suc at)

  was_file : (file : ℕ) → file ≡ i.rank → slice_get p.files file ≡ Some a.file.before
  was_file file is =
      ap (slice_get p.files) (is ∙ sym a.file.rank) ∙ ap (λ fs. slice_get fs (length a.file.first)) a.file.before_files
      ∙ seam a.file.first a.file.rest a.file.before

  now_file : (file : ℕ) → file ≡ i.rank → slice_get q.files file ≡ Some a.file.after
  now_file file is =
      ap (slice_get q.files) (is ∙ sym a.file.rank) ∙ ap (λ fs. slice_get fs (length a.file.first)) a.file.after_files
      ∙ seam a.file.first a.file.rest a.file.after

  pub other_file : (file : ℕ) → (file ≡ i.rank → ⊥) → slice_get q.files file ≡ slice_get p.files file
  other_file file other =
      ap (λ fs. slice_get fs file) a.file.after_files
      ∙ files_else a.file.first a.file.rest a.file.before a.file.after file (λ is. other (is ∙ a.file.rank))
      ∙ sym (ap (λ fs. slice_get fs file) a.file.before_files)

  pub other_number : (file n : ℕ) → (file ≡ i.rank → ⊥) → moved_by i file n ≡ n
  other_number file n other =
      ap (λ b. cond b (from_on i.number n) n) (false_from_ne_true (nat_eq file i.rank) (λ is. other (eqb-true file i.rank is)))

  pub here_number : (file n : ℕ) → file ≡ i.rank → moved_by i file n ≡ from_on i.number n
  here_number file n is = ap (λ f. moved_by i f n) is ∙ ap (λ g. g n) (moved_here i)

  kept : (file n : ℕ) (path : List ℕ) → LiteralAt p.files file n path → LiteralAt q.files file (moved_by i file n) path
  kept file n path l = elim (cases_eq file i.rank) [
    | inl is ↦ record {
      source = a.file.after;
      is_file = now_file file is;
      has_literal =
          let source : l.source ≡ a.file.before = same_Some l.source a.file.before (sym l.is_file ∙ was_file file is) in
          subst (λ m. HasLiteral a.file.after m path) (sym (here_number file n is))
          ((k.values n path).0 (subst (λ s. HasLiteral s n path) source l.has_literal));
    }
    | inr other ↦ record {
      source = l.source;
      is_file = other_file file other ∙ l.is_file;
      has_literal = subst (λ m. HasLiteral l.source m path) (sym (other_number file n other)) l.has_literal;
    }
  ]

  kept_back : (file n : ℕ) (path : List ℕ) → LiteralAt q.files file (moved_by i file n) path → LiteralAt p.files file n path
  kept_back file n path l = elim (cases_eq file i.rank) [
    | inl is ↦ record {
      source = a.file.before;
      is_file = was_file file is;
      has_literal =
          let source : l.source ≡ a.file.after = same_Some l.source a.file.after (sym l.is_file ∙ now_file file is) in
          (k.values n path).1 (subst (λ m. HasLiteral a.file.after m path) (here_number file n is)
          (subst (λ s. HasLiteral s (moved_by i file n) path) source l.has_literal));
    }
    | inr other ↦ record {
      source = l.source;
      is_file = sym (other_file file other) ∙ l.is_file;
      has_literal = subst (λ m. HasLiteral l.source m path) (other_number file n other) l.has_literal;
    }
  ]

  -- imports are imports

  block_here : (d : ℕ) → block_of (q.layout.role (e d)) ≡ moved_block (moved_by i) (block_of (p.layout.role d))
  block_here d = ap block_of (roles_here i at p q a d) ∙ block_stays (moved_by i) (p.layout.role d)

  import_there : (d : ℕ) → IsImport p.layout d → IsImport q.layout (e d)
  import_there d h = (h.0, block_here d ∙ ap (moved_block (moved_by i)) h.1)

  import_back : (d : ℕ) → IsImport q.layout (e d) → IsImport p.layout d
  import_back d h = (h.0, file_back (moved_by i) (block_of (p.layout.role d)) h.0 (sym (block_here d) ∙ h.1))

  file_here : (d : ℕ) → (q.layout.place (e d)).file ≡ (p.layout.place d).file
  file_here d = ap (λ (z : Position). z.file) (places_here i at p q a d)

  index_here : (d : ℕ) → (q.layout.place (e d)).index ≡ token i at (p.layout.place d).file (p.layout.place d).index
  index_here d = ap (λ (z : Position). z.index) (places_here i at p q a d)

  -- the import that got its name

  pub import_is : p.layout.place at ≡ (import_site i i.name).place
  import_is = ap (λ (l : Layout). l.place at) a.was.layout ∙ ap (λ o. (or_blank o).place) (stood_at i at a.old a.new a.gained)

  own_literal : literal_of q.layout (e at) ≡ suc at
  own_literal =
      let next : e at + 1 ≡ suc at = (let stays : e at ≡ at = from_stays at in omega arith) in
      let role : q.layout.role (e at + 1) ≡ NotLexical purpose.ImportPath =
      ap q.layout.role next ∙ ap (λ (l : Layout). l.role (suc at)) a.is.layout ∙ ap (λ o. (or_blank o).role) (path_at i at a.old a.new a.gained) in
      ap (λ b. if b then e at + 1 else e at) (ap is_literal role) ∙ next

  own_index : (q.layout.place (literal_of q.layout (e at))).index ≡ moved_by i i.rank i.number
  own_index =
      ap (λ n. (q.layout.place n).index) own_literal ∙ ap (λ (l : Layout). (l.place (suc at)).index) a.is.layout
      ∙ ap (λ o. (or_blank o).place.index) (path_at i at a.old a.new a.gained)
      ∙ sym (here_number i.rank i.number refl ∙ from_itself i.number)

  own_file : (p.layout.place at).file ≡ i.rank
  own_file = ap (λ (z : Position). z.file) import_is

  was_index : (p.layout.place (literal_of p.layout at)).index ≡ i.number
  was_index = ap (λ n. (p.layout.place n).index) k.own ∙ ap (λ (z : Position). z.index) import_is

  -- other imports

  next_number : (d : ℕ) → (d ≡ at → ⊥) → e d + 1 ≡ e (d + 1)
  next_number d other = grind (arith, nat_tests)

  literal_number : (d : ℕ) → (d ≡ at → ⊥) → literal_of q.layout (e d) ≡ e (literal_of p.layout d)
  literal_number d other =
      let same : is_literal (q.layout.role (e d + 1)) ≡ is_literal (p.layout.role (d + 1)) =
      ap (λ n. is_literal (q.layout.role n)) (next_number d other) ∙ ap is_literal (roles_here i at p q a (d + 1))
      ∙ literal_stays (moved_by i) (p.layout.role (d + 1)) in
      ap (λ b. if b then e d + 1 else e d) same ∙ by_test (is_literal (p.layout.role (d + 1)))
    where
      by_test : (b : Bool) → (if b then e d + 1 else e d) ≡ e (if b then d + 1 else d)
      by_test true = next_number d other
      by_test false = refl

  -- the literal of another import is in its file, and not that of the import that got its name
  record OtherLiteral (d : ℕ) : Type 0 where
    in_file : (p.layout.place (literal_of p.layout d)).file ≡ (p.layout.place d).file
    other : literal_of p.layout d ≡ at → ⊥

  no_literal : (n : ℕ) → n ≡ at → is_literal (p.layout.role n) ≡ true → ⊥
  no_literal n is literal =
      let role : p.layout.role n ≡ (import_site i i.name).role =
      ap p.layout.role is ∙ ap (λ (l : Layout). l.role at) a.was.layout ∙ ap (λ o. (or_blank o).role) (stood_at i at a.old a.new a.gained) in
      true≢false (sym literal ∙ ap is_literal role)

  other_literal : (d : ℕ) → (d ≡ at → ⊥) → OtherLiteral d
  other_literal d other = by_test (is_literal (p.layout.role (d + 1))) refl
    where
      by_test : (b : Bool) → is_literal (p.layout.role (d + 1)) ≡ b → OtherLiteral d
      by_test true literal =
          let is : literal_of p.layout d ≡ d + 1 = ap (λ b. if b then d + 1 else d) literal in
          record {
            in_file = ap (λ n. (p.layout.place n).file) is ∙ k.beside d literal;
            other = λ same. no_literal (d + 1) (sym is ∙ same) literal;
          }
      by_test false literal =
          let is : literal_of p.layout d ≡ d = ap (λ b. if b then d + 1 else d) literal in
          record { in_file = ap (λ n. (p.layout.place n).file) is; other = λ same. other (sym is ∙ same) }

  other_index : (d : ℕ) → (d ≡ at → ⊥) →
      (q.layout.place (literal_of q.layout (e d))).index ≡ moved_by i (p.layout.place d).file (p.layout.place (literal_of p.layout d)).index
  other_index d other =
      let l = literal_of p.layout d in
      let has = other_literal d other in
      let index = (p.layout.place l).index in
      ap (λ n. (q.layout.place n).index) (literal_number d other) ∙ index_here l
      ∙ sym (tokens_agree i at (p.layout.place l).file index (λ file n. alone i at p q a l has.other file n))
      ∙ ap (λ f. moved_by i f index) has.in_file

  -- the place of the string literal of an import, or else of a declaration

  place_by : (x y : Position) → x.file ≡ y.file → x.index ≡ y.index → x ≡ y
  place_by x y file index = λ j. record { file = file j; index = index j }

  own_place : q.layout.place (literal_of q.layout (e at)) ≡ moved_place (moved_by i) (p.layout.place (literal_of p.layout at))
  own_place =
      let l = p.layout.place (literal_of p.layout at) in
      let file : l.file ≡ i.rank = ap (λ n. (p.layout.place n).file) k.own ∙ own_file in
      place_by (q.layout.place (literal_of q.layout (e at))) (moved_place (moved_by i) l)
      (ap (λ n. (q.layout.place n).file) own_literal ∙ ap (λ (m : Layout). (m.place (suc at)).file) a.is.layout
      ∙ ap (λ o. (or_blank o).place.file) (path_at i at a.old a.new a.gained) ∙ sym file)
      (own_index ∙ sym (ap (λ f. moved_by i f l.index) file ∙ ap (moved_by i i.rank) was_index))

  other_place : (d : ℕ) → (d ≡ at → ⊥) → q.layout.place (literal_of q.layout (e d)) ≡ moved_place (moved_by i) (p.layout.place (literal_of p.layout d))
  other_place d other =
      let has = other_literal d other in
      let l = p.layout.place (literal_of p.layout d) in
      place_by (q.layout.place (literal_of q.layout (e d))) (moved_place (moved_by i) l)
      (ap (λ n. (q.layout.place n).file) (literal_number d other) ∙ file_here (literal_of p.layout d))
      (other_index d other ∙ ap (λ f. moved_by i f l.index) (sym has.in_file))

  pub literal_place : (d : ℕ) → q.layout.place (literal_of q.layout (e d)) ≡ moved_place (moved_by i) (p.layout.place (literal_of p.layout d))
  literal_place d = elim (cases_eq d at) [
    | inl is ↦
        subst (λ n. q.layout.place (literal_of q.layout (e n)) ≡ moved_place (moved_by i) (p.layout.place (literal_of p.layout n))) (sym is) own_place
    | inr other ↦ other_place d other
  ]

  -- paths

  path_there : (d : ℕ) (path : List ℕ) → IsPathOf p.files (laid_of p) d path → IsPathOf q.files (laid_of q) (e d) path
  path_there d path h = elim (cases_eq d at) [
    | inl is ↦
        subst (λ n. IsPathOf q.files (laid_of q) (e n) path) (sym is)
        (to_path q (e at) i.rank (moved_by i i.rank i.number) path (file_here at ∙ own_file) own_index
        (kept i.rank i.number path (of_path p at i.rank i.number path own_file was_index (subst (λ n. IsPathOf p.files (laid_of p) n path) is h))))
    | inr other ↦
        let file = (p.layout.place d).file in
        let n = (p.layout.place (literal_of p.layout d)).index in
        to_path q (e d) file (moved_by i file n) path (file_here d) (other_index d other) (kept file n path (of_path p d file n path refl refl h))
  ]

  path_back : (d : ℕ) (path : List ℕ) → IsPathOf q.files (laid_of q) (e d) path → IsPathOf p.files (laid_of p) d path
  path_back d path h = elim (cases_eq d at) [
    | inl is ↦
        subst (λ n. IsPathOf p.files (laid_of p) n path) (sym is)
        (to_path p at i.rank i.number path own_file was_index
        (kept_back i.rank i.number path (of_path q (e at) i.rank (moved_by i i.rank i.number) path (file_here at ∙ own_file) own_index
        (subst (λ n. IsPathOf q.files (laid_of q) (e n) path) is h))))
    | inr other ↦
        let file = (p.layout.place d).file in
        let n = (p.layout.place (literal_of p.layout d)).index in
        to_path p d file n path refl refl
        (kept_back file n path (of_path q (e d) file (moved_by i file n) path (file_here d) (other_index d other) h))
  ]

pub imports_keep_paths : ImportsKeepPaths
imports_keep_paths i at p q a k d path = (
  (λ h. record { is_import = import_there i at p q a k d h.is_import; of_path = path_there i at p q a k d path h.of_path }),
  (λ h. record { is_import = import_back i at p q a k d h.is_import; of_path = path_back i at p q a k d path h.of_path }),
)
