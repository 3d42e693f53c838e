-- The identifiers of two packages of files, of which one file has a name put before a literal.
use Rattle.std.proofs.Common.{ℕ, zero, suc, ◌≡◌, ◌<◌, List, [], ◌∷◌, ◌++◌, Option, Some, None, length, map, refl, sym, ap, ◌∙◌, subst, arith}
use Rattle.std.proofs.Common.{true}
use Rattle.std.specs.Prelude.{option_map, slice_get}
use Rattle.std.proofs.lemmas.Bool.{true≢false}
use Rattle.std.proofs.lemmas.List.{length-map, map-append}
use Rattle.std.proofs.lemmas.List.Elements.{All-cons, All-head, All-tail}
use Rattle.std.proofs.lemmas.Option.{slice_get-map}
use Rattle.go_ast.specs.FileView.{file_view}
use Rattle.go_ast.specs.SourceFile.{FileParts, IsSourceFile, source_of, spelling_of}
use Rattle.go_ast.specs.Tree.{FileTree}
use Rattle.go_scanner.specs.CutText.{CutText}
use Rattle.go_scope.specs.declared.model.Role.{Role}
use Rattle.go_scope.specs.declared.model.Role.TheVariants.{NotLexical}
use Rattle.go_scope.specs.FileSites.{SpelledFile, package_sites}
use Rattle.go_scope.specs.Moves.{moved_place, moved_role}
use Rattle.go_scope.specs.Named.{is_unnamed_import}
use Rattle.go_scope.specs.Site.{Site, or_blank}
use Rattle.go_scope.specs.SpelledFiles.{spelled_file}
use Rattle.law_tokens.specs.Covered.{AreSourceFiles}
use Rattle.law_tokens.proofs.FileIdentifiers.{role_in}
use Rattle.law_tokens.proofs.HeldBytes.{source_file_at}
use Rattle.law_rename.specs.Around.{bare_import, file_with, from_on}
use Rattle.law_rename.specs.Gained.{Gain, HasGained, bare_file, gain_of, import_site, moved_by, named_file, path_site, token_bytes, unnamed_site}
use Rattle.law_rename.specs.MovedSites.{moved_site}
use Rattle.law_rename.specs.Named.{after_put, before_put}
use Rattle.law_rename.proofs.Packages.{package_gains}
use Rattle.law_rename.proofs.Spelling.{from_first, from_suc, from_zero, spelled_kept}
use Rattle.law_rename.proofs.TokensBehind.{seam}
use Rattle.law_rename.proofs.WholeFile.{source_kept}
use Rattle.law_gained_names.proofs.Layouts.{same_number}
use Rattle.law_gained_names.specs.GainedName.{ImportGainsName}

-- the files

same_source : (f : FileParts) (c : CutText) (t : FileTree) → f.cut ≡ c → file_view f.file ≡ t → source_of f ≡ record { path = f.path; cut = c; tree = t }
same_source f c t cut tree = λ j. record { path = f.path; cut = cut j; tree = tree j }

replaced : (before after : FileParts) (first rest : List FileParts) → AreSourceFiles (first ++ before ∷ rest) → IsSourceFile (source_of after) →
    AreSourceFiles (first ++ after ∷ rest)
replaced before after [] rest all is =
    All-cons (λ (f : FileParts). IsSourceFile (source_of f)) after rest is (All-tail (λ (f : FileParts). IsSourceFile (source_of f)) before rest all)
replaced before after (f ∷ first) rest all is =
    All-cons (λ (g : FileParts). IsSourceFile (source_of g)) f (first ++ after ∷ rest)
    (All-head (λ (g : FileParts). IsSourceFile (source_of g)) f (first ++ before ∷ rest) all)
    (replaced before after first rest (All-tail (λ (g : FileParts). IsSourceFile (source_of g)) f (first ++ before ∷ rest) all) is)

module _ (number : ℕ) (first rest : List FileParts) (before after : FileParts) (g : ImportGainsName number before after)
    (sources : AreSourceFiles (first ++ before ∷ rest)) where
  abbrev pub old_files : List FileParts
  old_files = first ++ before ∷ rest

  abbrev pub new_files : List FileParts
  new_files = first ++ after ∷ rest

  abbrev pub i : Gain
  i = gain_of (length first) number g.put

  abbrev pub old_sites : List Site
  old_sites = package_sites (map spelled_file old_files)

  abbrev pub new_sites : List Site
  new_sites = package_sites (map spelled_file new_files)

  was_source : IsSourceFile (record { path = after.path; cut = before_put g.put; tree = file_with (bare_import number) g.around })
  was_source =
      let is = subst IsSourceFile (same_source before (before_put g.put) (file_with (bare_import number) g.around) g.old_cut g.old_tree)
      (source_file_at old_files sources (length first) before (seam first rest before)) in
      record { is_cut = is.is_cut; is_tree = is.is_tree; whole = is.whole }

  pub new_sources : AreSourceFiles new_files
  new_sources =
      replaced before after first rest sources
      (subst IsSourceFile (sym (same_source after (after_put g.put) _ g.new_cut g.new_tree))
      (source_kept after.path g.put number g.around g.may g.literal g.is_name was_source))

  -- the identifiers

  bare_spelled : spelled_file before ≡ bare_file number g.around g.put
  bare_spelled = λ j. record { tree = g.old_tree j; spell = token_bytes (g.old_cut j) }

  named_spelled : spelled_file after ≡ named_file number g.around g.put
  named_spelled = λ j. record { tree = g.new_tree j; spell = token_bytes (g.new_cut j) }

  files_split : (f : FileParts) (s : SpelledFile) → spelled_file f ≡ s →
      map spelled_file (first ++ f ∷ rest) ≡ map spelled_file first ++ s ∷ map spelled_file rest
  files_split f s is = map-append spelled_file first (f ∷ rest) ∙ ap (λ x. map spelled_file first ++ x ∷ map spelled_file rest) is

  pub gained : (at : ℕ) × HasGained i (unnamed_site i) at old_sites new_sites
  gained =
      let found = package_gains g.put number g.around (map spelled_file first) (map spelled_file rest) g.may g.literal was_source.is_tree in
      let ranked = subst (λ n. (at : ℕ) × HasGained (gain_of n number g.put) (unnamed_site (gain_of n number g.put)) at
      (package_sites (map spelled_file first ++ bare_file number g.around g.put ∷ map spelled_file rest))
      (package_sites (map spelled_file first ++ named_file number g.around g.put ∷ map spelled_file rest)))
      (length-map first spelled_file) found in
      subst (λ xs. (at : ℕ) × HasGained i (unnamed_site i) at (package_sites xs) new_sites)
      (sym (files_split before (bare_file number g.around g.put) bare_spelled))
      (subst (λ ys. (at : ℕ) × HasGained i (unnamed_site i) at
      (package_sites (map spelled_file first ++ bare_file number g.around g.put ∷ map spelled_file rest)) (package_sites ys))
      (sym (files_split after (named_file number g.around g.put) named_spelled)) ranked)

  -- spellings

  pub spelled : (n : ℕ) → spelling_of (source_of after) (from_on number n) ≡ spelling_of (source_of before) n
  spelled n =
      ap (λ c. token_bytes c (from_on number n)) g.new_cut ∙ spelled_kept g.put number g.may g.literal n ∙ sym (ap (λ c. token_bytes c n) g.old_cut)

-- by their numbers

module _ (by : Site → Site) (stood one two : Site) where
  stands_else : (before behind : List Site) (d : ℕ) → (d ≡ length before → ⊥) →
      slice_get (map by before ++ one ∷ two ∷ map by behind) (from_on (suc (length before)) d) ≡ option_map by (slice_get (before ++ stood ∷ behind) d)
  stands_else [] behind zero other = absurd (other refl)
  stands_else [] behind (suc d) other =
      ap (slice_get (one ∷ two ∷ map by behind)) (from_suc 0 d ∙ ap suc (from_first d)) ∙ slice_get-map by behind d
  stands_else (x ∷ before) behind zero other =
      ap (slice_get (map by (x ∷ before) ++ one ∷ two ∷ map by behind)) (from_zero (suc (length before)))
  stands_else (x ∷ before) behind (suc d) other =
      ap (slice_get (map by (x ∷ before) ++ one ∷ two ∷ map by behind)) (from_suc (suc (length before)) d)
      ∙ stands_else before behind d (λ e. other (ap suc e))

role_moved : (move : ℕ → ℕ → ℕ) (o : Option Site) → (or_blank (option_map (moved_site move) o)).role ≡ moved_role move (or_blank o).role
role_moved move None = refl
role_moved move (Some x) = refl

unnamed_moved : (move : ℕ → ℕ → ℕ) (r : Role) → is_unnamed_import r ≡ true → is_unnamed_import (moved_role move r) ≡ true
unnamed_moved move (NotLexical p) is = is
unnamed_moved move r is = absurd (true≢false (sym is))

pub unnamed_within : (xs : List Site) (d : ℕ) → is_unnamed_import (role_in xs d) ≡ true → d < length xs
unnamed_within [] d is = absurd (true≢false (sym is))
unnamed_within (x ∷ xs) zero is = omega arith
unnamed_within (x ∷ xs) (suc d) is = let less : d < length xs = unnamed_within xs d is in omega arith

module _ (i : Gain) (stood : Site) (at : ℕ) (old new : List Site) (g : HasGained i stood at old new) where
  pub else_at : (d : ℕ) → (d ≡ at → ⊥) → slice_get new (from_on at d) ≡ option_map (moved_site (moved_by i)) (slice_get old d)
  else_at d other =
      ap (slice_get new) (same_number at d other)
      ∙ (λ j. slice_get (g.new_is j) (from_on (suc (sym g.placed j)) d))
      ∙ stands_else (moved_site (moved_by i)) stood (import_site i i.name) (path_site i) g.before g.behind d (λ x. other (x ∙ g.placed))
      ∙ ap (λ l. option_map (moved_site (moved_by i)) (slice_get l d)) (sym g.old_is)

  pub stood_at : slice_get old at ≡ Some stood
  stood_at = (λ j. slice_get (g.old_is j) (sym g.placed j)) ∙ seam g.before g.behind stood

  pub role_else : (d : ℕ) → (d ≡ at → ⊥) → role_in new (from_on at d) ≡ moved_role (moved_by i) (role_in old d)
  role_else d other = ap (λ o. (or_blank o).role) (else_at d other) ∙ role_moved (moved_by i) (slice_get old d)

  pub unnamed_else : (d : ℕ) → (d ≡ at → ⊥) → is_unnamed_import (role_in old d) ≡ true → is_unnamed_import (role_in new (from_on at d)) ≡ true
  unnamed_else d other is = ap is_unnamed_import (role_else d other) ∙ unnamed_moved (moved_by i) (role_in old d) is

  some_in : (xs : List Site) (d : ℕ) → is_unnamed_import (role_in xs d) ≡ true → (x : Site) × (slice_get xs d ≡ Some x)
  some_in [] d is = absurd (true≢false (sym is))
  some_in (x ∷ xs) zero is = (x, refl)
  some_in (x ∷ xs) (suc d) is = some_in xs d is

  pub place_else : (d : ℕ) → (d ≡ at → ⊥) → is_unnamed_import (role_in old d) ≡ true →
      (or_blank (slice_get new (from_on at d))).place ≡ moved_place (moved_by i) (or_blank (slice_get old d)).place
  place_else d other is =
      let x = some_in old d is in
      ap (λ o. (or_blank o).place) (else_at d other)
      ∙ ap (λ (o : Option Site). (or_blank (option_map (moved_site (moved_by i)) o)).place) x.1
      ∙ sym (ap (λ (o : Option Site). moved_place (moved_by i) (or_blank o).place) x.1)
