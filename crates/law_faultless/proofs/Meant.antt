-- In a workspace without faults what counts as a declaration means something where it is used.
use Rattle.std.proofs.Common.{ℕ, zero, suc, ◌≡◌, ◌+◌, ◌<◌, Bool, true, false, List, [], ◌∷◌, length, map, ap, sym, subst, refl, ◌∙◌, arith, if◌then◌else◌}
use Rattle.std.specs.Prelude.{Option, Some, None, slice_get}
use Rattle.std.proofs.lemmas.Bool.{true≢false}
use Rattle.std.proofs.lemmas.Option.{none-some}
use Rattle.base_files.specs.Workspace.{Workspace}
use Rattle.go_scanner.specs.CutText.{token_at}
use Rattle.go_scanner.specs.TokenValues.{IsStringClass}
use Rattle.go_ast.specs.SourceFile.{SourceFile, FileParts, source_of}
use Rattle.go_scope.specs.declared.model.Block.{Block}
use Rattle.go_scope.specs.declared.model.Block.TheVariants.{Universe, File, Inner}
use Rattle.go_scope.specs.declared.model.Block.TheVariants.{Package as PackageBlock}
use Rattle.go_scope.specs.declared.model.Position.{Position}
use Rattle.go_scope.specs.declared.model.Purpose.TheVariants as purpose
use Rattle.go_scope.specs.declared.model.Role.{Role}
use Rattle.go_scope.specs.declared.model.Role.TheVariants.{NotLexical}
use Rattle.go_scope.specs.Bindings.{MayDeclare, Counts, block_of, is_implied, may_declare}
use Rattle.go_scope.specs.FileSites.{universe, files_sites, package_sites}
use Rattle.go_scope.specs.Named.{is_unnamed_import, named_where, named_sites}
use Rattle.go_scope.specs.SpelledFiles.{spelled_file}
use Rattle.go_scope.specs.Packages.{scoped}
use Rattle.go_scope.specs.Site.{Site, or_blank}
use Rattle.go_scope.specs.Table.{LiesAt}
use Rattle.go_scope.specs.WellFormed.{WellFormed}
use Rattle.go_scope.proofs.NamedSites.{place_stays}
use Rattle.types_declared.specs.Files.{HasLiteral}
use Rattle.types_declared.specs.Laid.{laid_in, is_literal, literal_of, IsPathOf}
use Rattle.law_tokens.proofs.Ordered.{same_length}
use Rattle.law_tokens.proofs.Roles.{role_keeps}
use Rattle.types_expr.specs.World.{Bound}
use Rattle.types_declared.specs.MeaningOf.{IsMeaningOf, import_name, local}
use Rattle.types_declared.specs.Package.{Package}
use Rattle.types_declared.specs.Written.{DeclaresImport, IsBroken}
use Rattle.types_info.proofs.DeclKinds.{Holds}
use Rattle.workspace_check.specs.Verdicts.{Verdicts, IsPackageIn}
use Rattle.refs_lookup.proofs.OnePlace.{same_size, same_files}
use Rattle.law_faultless.specs.Strings.{AreStringsKnown}
use Rattle.law_faultless.proofs.Deciding.{Decided}
use Rattle.law_faultless.proofs.FilesDecided.{IsGlobal, paired_at, universe_paired}
use Rattle.law_faultless.proofs.Spellings.{text_is_string}
use Rattle.law_faultless.proofs.Meanings.{universal_meant, global_meant}
use Rattle.law_faultless.proofs.Numbers.{OfKind, IsTold, IsTextAt, IsKept, universal, plain, laid, files_paired}
use Rattle.law_faultless.proofs.Declared.{told_global, told_universe, told_identifies, given, sites, old_site, new_site, sources, role_is, place_is, name_is}
use Rattle.law_faultless.proofs.Declared.{kept, may_within, file_of_told}

-- a string stands at the token of the file
abbrev InSome : Option FileParts → ℕ → Type 0
InSome None i = ⊥
InSome (Some x) i = IsStringClass (token_at x.cut i).class

-- literals where imports without a name declare

unnamed_no_literal : (r : Role) → is_unnamed_import r ≡ true → is_literal r ≡ false
unnamed_no_literal (NotLexical purpose.UnnamedImport) e = refl
unnamed_no_literal r e = absurd (true≢false (sym e))

literal_where : (given_name : Option (List ℕ)) (x : Site) (b : Bool) → is_unnamed_import x.role ≡ b →
    is_literal (named_where b given_name x).role ≡ is_literal x.role
literal_where (Some name) x true e = sym (unnamed_no_literal x.role e)
literal_where None x true e = refl
literal_where name x false e = refl

pub literal_stays : (names : ℕ → Option (List ℕ)) (xs : List Site) (d : ℕ) →
    is_literal (or_blank (slice_get (named_sites names xs) d)).role ≡ is_literal (or_blank (slice_get xs d)).role
unfolding named_sites
literal_stays names [] d = refl
literal_stays names (x ∷ xs) zero = literal_where (names 0) x (is_unnamed_import x.role) refl
literal_stays names (x ∷ xs) (suc d) = literal_stays (λ k. names (suc k)) xs d

module _ (w : Workspace) (known : Verdicts) (path : List ℕ) (p : Package) (h : IsPackageIn w known path p) (formed : WellFormed p.layout)
    (strings : AreStringsKnown p)
    (broken : (rank : ℕ) → Decided (IsBroken p rank)) where
  abbrev names : ℕ → Option (List ℕ)
  names = given w known path p h

  abbrev xs : List Site
  xs = sites w known path p h

  abbrev old : ℕ → Site
  old d = old_site w known path p h d

  abbrev new : ℕ → Site
  new d = new_site w known path p h d

  -- a predeclared name has no identifier, and each other that declares has one

  identified : (d : ℕ) → IsTold 0 h.files (new d) → is_implied (p.layout.role d) ≡ false
  identified d t =
      ap is_implied (role_is w known path p h d)
      ∙ told_identifies (OfKind t.file.cut) (IsGlobal (source_of t.file).tree.decls) (Unit {0}) (new d).place.index (new d).role t.told

  -- the path of an import that has a name

  literal_here : (d f : ℕ) → old d ≡ new d → block_of (p.layout.role d) ≡ File f →
      (p.layout.role (suc d) ≡ NotLexical purpose.ImportPath)
      × (((p.layout.place (suc d)).file ≡ (p.layout.place d).file) × IsTextAt 0 h.files (p.layout.place (suc d)))
  unfolding package_sites
  literal_here d f e block =
      let own = files_sites 0 (map spelled_file h.files) in
      let in_old : block_of (old d).role ≡ File f = ap (λ (x : Site). block_of x.role) e ∙ sym (ap block_of (role_is w known path p h d)) ∙ block in
      let r = paired_at (IsTextAt 0 h.files) xs
      (universe_paired (IsTextAt 0 h.files) universe own (files_paired 0 h.files (sources w known path p h))) d f in_old in
      let place : (n : ℕ) → p.layout.place n ≡ (old n).place = λ n. place_is w known path p h n ∙ place_stays names xs n in (
        role_is w known path p h (suc d) ∙ (role_keeps purpose.ImportPath refl names xs (suc d)).1 r.0,
        (
          ap (λ (q : Position). q.file) (place (suc d)) ∙ r.1.0 ∙ sym (ap (λ (q : Position). q.file) (place d)),
          subst (IsTextAt 0 h.files) (sym (place (suc d))) r.1.1,
        ),
      )

  named_path : (d f : ℕ) → IsTold 0 h.files (new d) → old d ≡ new d → block_of (p.layout.role d) ≡ File f → (q : List ℕ) × DeclaresImport p d q
  named_path d f t e block =
      let l = literal_here d f e block in
      let next : suc d ≡ d + 1 = omega arith in
      let literal : is_literal (p.layout.role (d + 1)) ≡ true = ap (λ n. is_literal (p.layout.role n)) (sym next) ∙ ap is_literal l.0 in
      let number : literal_of p.layout d ≡ suc d = ap (λ b. if b then d + 1 else d) literal ∙ sym next in
      let s = source_of t.file in
      let in_file : slice_get p.files (p.layout.place d).file ≡ Some s =
      ap (λ (q : Position). slice_get p.files q.file) (place_is w known path p h d) ∙ file_of_told w known path p h (new d) t in
      let text = l.1.1 in
      let same_number : text.number ≡ t.number =
      let a : 0 + text.number ≡ (p.layout.place (suc d)).file = text.in_file in
      let b : 0 + t.number ≡ (new d).place.file = t.at in
      let c : (p.layout.place d).file ≡ (new d).place.file = ap (λ (q : Position). q.file) (place_is w known path p h d) in
      let f' : (p.layout.place (suc d)).file ≡ (p.layout.place d).file = l.1.0 in omega arith in
      let same_file : Some text.file ≡ Some t.file = sym text.of_number ∙ ap (slice_get h.files) same_number ∙ t.of_number in
      let string : IsStringClass (token_at s.cut (p.layout.place (literal_of p.layout d)).index).class =
      subst (λ n. IsStringClass (token_at s.cut (p.layout.place n).index).class) (sym number)
      (subst (λ (o : Option FileParts). InSome o (p.layout.place (suc d)).index) same_file
      (text_is_string text.file.cut (p.layout.place (suc d)).index text.text)) in
      let value = strings (p.layout.place d).file s in_file (p.layout.place (literal_of p.layout d)).index string in (
        value.0,
        record {
          is_import = (f, block);
          of_path = record { source = s; is_file = in_file; has_literal = record { is_string = string; stands_for = value.1 } };
        },
      )

  -- the path of an import without a name, where it declares

  to_laid : (d f : ℕ) → block_of (p.layout.role d) ≡ File f → (q : List ℕ) → IsPathOf (map source_of h.files) (laid_in (scoped h.files)) d q →
      DeclaresImport p d q
  to_laid d f block q i =
      let place : (n : ℕ) → p.layout.place n ≡ (old n).place = λ n. place_is w known path p h n ∙ place_stays names xs n in
      let number : literal_of p.layout d ≡ literal_of (laid_in (scoped h.files)).layout d =
      ap (λ b. if b then d + 1 else d) (ap is_literal (role_is w known path p h (d + 1)) ∙ literal_stays names xs (d + 1)) in
      let index : (p.layout.place (literal_of p.layout d)).index ≡ (old (literal_of (laid_in (scoped h.files)).layout d)).place.index =
      ap (λ n. (p.layout.place n).index) number ∙ ap (λ (a : Position). a.index) (place (literal_of (laid_in (scoped h.files)).layout d)) in
      record {
        is_import = (f, block);
        of_path = record {
          source = i.source;
          is_file =
              ap (λ (fs : List SourceFile). slice_get fs (p.layout.place d).file) (same_files w known path p h)
              ∙ ap (λ (a : Position). slice_get (map source_of h.files) a.file) (place d) ∙ i.is_file;
          has_literal = subst (λ n. HasLiteral i.source n q) (sym index) i.has_literal;
        };
      }

  laid_path : (d f : ℕ) → d < p.size → block_of (p.layout.role d) ≡ File f → is_unnamed_import (old d).role ≡ true → (name : List ℕ) → names d ≡ Some name →
      ((q : List ℕ) → DeclaresImport p d q → ⊥) → ⊥
  laid_path d f lt block u name g none =
      let within : d < length xs = subst (λ n. d < n) (same_length names xs) (subst (λ n. d < n) (same_size w known path p h) lt) in
      let own = h.is_package.is_laid.are_names d within u in
      none-some name (sym (own.unknown (λ q i. none q (to_laid d f block q i))) ∙ g)

  -- what counts means something

  told_meant : (d : ℕ) → MayDeclare p.layout d → IsTold 0 h.files (new d) → old d ≡ new d → (b : Block) → block_of (p.layout.role d) ≡ b →
      (c : Bound) × IsMeaningOf p d c
  told_meant d m t e Universe block =
      absurd (told_universe (OfKind t.file.cut) (IsGlobal (source_of t.file).tree.decls) (Unit {0}) (new d).place.index (new d).role t.told
      (sym (ap may_declare (role_is w known path p h d)) ∙ m) (sym (ap block_of (role_is w known path p h d)) ∙ block))
  told_meant d m t e PackageBlock block =
      let place = place_is w known path p h d in
      let stands : LiesAt p.layout (new d).place d = (identified d t, ap (λ (a : Position). a.file) place, ap (λ (a : Position). a.index) place) in
      global_meant p formed strings broken d (new d).place.file (new d).place.index (source_of t.file) block (file_of_told w known path p h (new d) t) stands
      (told_global (OfKind t.file.cut) (IsGlobal (source_of t.file).tree.decls) (Unit {0}) (new d).place.index (new d).role t.told
      (sym (ap may_declare (role_is w known path p h d)) ∙ m) (sym (ap block_of (role_is w known path p h d)) ∙ block))
  told_meant d m t e (File f) block = let q = named_path d f t e block in (_, import_name {path = q.0} q.1)
  told_meant d m t e (Inner f from to) block = (_, local block)

  kept_meant : (d : ℕ) → MayDeclare p.layout d → IsKept (IsTold 0 h.files) universe (names d) (old d) (new d) → ((c : Bound) → IsMeaningOf p d c → ⊥) → ⊥
  kept_meant d m (universal r n) none =
      let role = role_is w known path p h d ∙ r in
      let c = universal_meant p formed strings broken d (ap block_of role) (ap is_implied role) (subst (Holds universe) (sym (name_is w known path p h d)) n) in
      none c.0 c.1
  kept_meant d m (plain e t) none = let c = told_meant d m t e (block_of (p.layout.role d)) refl in none c.0 c.1
  kept_meant d m (laid u g r) none =
      let block = ap block_of (role_is w known path p h d ∙ r) in
      laid_path d (old d).place.file (may_within w known path p h d m) block u (new d).name g (λ q i. none _ (import_name {path = q} i))

  pub meant_so : (d : ℕ) → Counts p.layout p.names d → ((c : Bound) → IsMeaningOf p d c → ⊥) → ⊥
  meant_so d c none = kept_meant d c.declares.may (kept w known path p h d (may_within w known path p h d c.declares.may)) none
