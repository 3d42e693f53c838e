-- The spellings and string literals of a package in which an import gained the name that it declared already.
use Rattle.std.proofs.Common.{ℕ, ◌≡◌, inl, inr, List, ◌∷◌, ◌++◌, Some, length, ap, sym, subst, ◌∙◌}
use Rattle.std.specs.Prelude.{◌↔◌, slice_get, option_map}
use Rattle.std.proofs.lemmas.Bool.{cases_eq}
use Rattle.std.proofs.lemmas.Option.{same_Some, slice_get-map}
use Rattle.go_scanner.specs.declared.piece.Piece.{Piece}
use Rattle.go_scanner.specs.CutText.{CutText, tokens_in}
use Rattle.go_ast.specs.SourceFile.{SourceFile, source_of, spelling_of}
use Rattle.law_rename.specs.Around.{from_on}
use Rattle.law_rename.specs.Gained.{Gain, moved_by}
use Rattle.law_rename.specs.Named.{name_piece}
use Rattle.law_rename.proofs.TokensBehind.{seam}
use Rattle.types_declared.specs.Files.{HasLiteral}
use Rattle.types_declared.specs.Package.{Package, spelled_at}
use Rattle.law_gained_names.specs.NamedPackage.{IsNamedPackage, KeepsLiterals}
use Rattle.law_gained_names.proofs.NamedImportsFiles.{spelled_by_move}
use Rattle.law_gained_names.proofs.Layouts.{token, tokens_agree}
use Rattle.law_gained_names.proofs.Literals.{here_number, other_file, other_number}
use Rattle.law_gained_names.specs.GainedName.{GainsOwnName, gained_by}
use Rattle.law_renamed_workspaces.proofs.Literals.{no_name, to_string}
use Rattle.law_gained_names.proofs.NewTokens.{token_own}
use Rattle.law_objects.proofs.Seen.{IsOwnLiteral}

module _ (i : Gain) (at : ℕ) (p q : Package) (a : IsNamedPackage i at p q) (l : KeepsLiterals i at p q a.file) (file : ℕ) (f g : SourceFile)
    (was : slice_get p.files file ≡ Some f) (is : slice_get q.files file ≡ Some g) where
  pub spelled_there : (n : ℕ) → spelling_of g (moved_by i file n) ≡ spelling_of f n
  spelled_there n =
      sym (ap (λ o. spelled_at o (moved_by i file n)) is) ∙ spelled_by_move i p q a.file file n ∙ ap (λ o. spelled_at o n) was

  pub spelled_still : (n : ℕ) → (IsOwnLiteral i file n → ⊥) → spelling_of g (token i at file n) ≡ spelling_of f n
  spelled_still n apart = ap (spelling_of g) (sym (tokens_agree i at file n (λ e k. apart (e, k)))) ∙ spelled_there n

  was_before : file ≡ i.rank → a.file.before ≡ f
  was_before here =
      same_Some a.file.before f
      (sym (ap (slice_get p.files) (here ∙ sym a.file.rank) ∙ ap (λ fs. slice_get fs (length a.file.first)) a.file.before_files
      ∙ seam a.file.first a.file.rest a.file.before) ∙ was)

  is_after : file ≡ i.rank → a.file.after ≡ g
  is_after here =
      same_Some a.file.after g
      (sym (ap (slice_get q.files) (here ∙ sym a.file.rank) ∙ ap (λ fs. slice_get fs (length a.file.first)) a.file.after_files
      ∙ seam a.file.first a.file.rest a.file.after) ∙ is)

  pub literals_there : (n : ℕ) (value : List ℕ) → HasLiteral f n value ↔ HasLiteral g (moved_by i file n) value
  literals_there n value = elim (cases_eq file i.rank) [
    | inl here ↦
        subst (λ k. HasLiteral f n value ↔ HasLiteral g k value) (sym (here_number i at p q a l file n here))
        (subst (λ z. HasLiteral f n value ↔ HasLiteral z (from_on i.number n) value) (is_after here)
        (subst (λ z. HasLiteral z n value ↔ HasLiteral a.file.after (from_on i.number n) value) (was_before here) (l.values n value)))
    | inr other ↦
        let same : f ≡ g = same_Some f g (sym was ∙ sym (other_file i at p q a l file other) ∙ is) in
        subst (λ k. HasLiteral f n value ↔ HasLiteral g k value) (sym (other_number i at p q a l file n other))
        (subst (λ z. HasLiteral f n value ↔ HasLiteral z n value) same ((λ h. h), (λ h. h)))
  ]

-- the name is no literal
module _ (number : ℕ) (p q : Package) (g : GainsOwnName number p q) where
  abbrev i : Gain
  i = gained_by number p q g

  after_there : slice_get q.files i.rank ≡ Some (source_of g.after)
  after_there =
      ap (λ (x : Package). slice_get x.files i.rank) g.is_package.is_package ∙ slice_get-map source_of (g.first ++ g.after ∷ g.rest) i.rank
      ∙ ap (option_map source_of) (seam g.first g.rest g.after)

  pub name_no_literal : (f : SourceFile) → slice_get q.files i.rank ≡ Some f → (value : List ℕ) → HasLiteral f i.number value → ⊥
  name_no_literal f is value h =
      let same : source_of g.after ≡ f = same_Some (source_of g.after) f (sym after_there ∙ is) in
      let s = to_string f i.number value h in
      let name : slice_get (tokens_in f.cut) number ≡ Some (name_piece g.gains.put) =
      ap (λ (x : SourceFile). slice_get (tokens_in x.cut) number) (sym same)
      ∙ ap (λ (c : CutText). slice_get (tokens_in c) number) g.gains.new_cut ∙ token_own g.gains.put number g.gains.may g.gains.literal in
      let piece : s.piece ≡ name_piece g.gains.put = same_Some s.piece (name_piece g.gains.put) (sym s.at ∙ name) in
      no_name s.piece.class s.is_string (ap (λ (x : Piece). x.class) piece)
