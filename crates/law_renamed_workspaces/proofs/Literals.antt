-- The string literals of a file that is renamed keep their values.
use Rattle.std.proofs.Common.{ℕ, ◌≡◌, inl, inr, List, Option, Some, None, length, ap, sym, subst, refl, ◌∙◌}
use Rattle.std.specs.Prelude.{slice_get, option_map}
use Rattle.std.proofs.lemmas.Bool.{cases_lt}
use Rattle.std.proofs.lemmas.List.{get_or_past}
use Rattle.std.proofs.lemmas.Option.{none-some, same_Some, slice_get-map, slice_get-get_or, get_or_from_slice_get}
use Rattle.go_scanner.specs.declared.piece.Class.{Class}
use Rattle.go_scanner.specs.declared.piece.Class.TheVariants.{Name}
use Rattle.go_scanner.specs.declared.piece.Piece.{Piece}
use Rattle.go_scanner.specs.Cuts.{bytes_of}
use Rattle.go_scanner.specs.CutText.{tokens_in, token_at}
use Rattle.go_scanner.specs.StringValues.{HasStringValue}
use Rattle.go_scanner.specs.TokenValues.{IsStringClass}
use Rattle.go_scanner.specs.Tokens.{semicolon}
use Rattle.go_ast.specs.SourceFile.{SourceFile, IsSourceFile, spelling_at, spelling_of}
use Rattle.base_edits.specs.declared.edit.Edit.{Edit}
use Rattle.go_respelled.specs.Renamings.{AreNameEdits, moved_piece, replaced_piece}
use Rattle.go_respelled.specs.Trees.{renamed_file}
use Rattle.go_respelled.proofs.MovedTokens.{tokens_moved}
use Rattle.go_respelled.proofs.Spelled.{token_kept}
use Rattle.workspace_graph.specs.Packages.{ImportsPath}
use Rattle.types_declared.specs.Files.{HasLiteral}

-- the token of that number is a string with this value
pub record IsStringAt (f : SourceFile) (token : ℕ) (value : List ℕ) : Type 0 where
  pub piece : Piece
  pub at : slice_get (tokens_in f.cut) token ≡ Some piece
  pub is_string : IsStringClass piece.class
  pub has_value : HasStringValue (bytes_of f.cut.text piece) value

-- a string is no name
pub no_name : (c : Class) → IsStringClass c → c ≡ Name → ⊥
no_name c h e = elim h [ inl s ↦ (let z : ⊥ = cc in z) | inr s ↦ (let z : ⊥ = cc in z) ]

not_string : IsStringClass (semicolon 0).class → ⊥
not_string h = elim h [ inl e ↦ (let z : ⊥ = cc in z) | inr e ↦ (let z : ⊥ = cc in z) ]

mapped_back : (g : Piece → Piece) (o : Option Piece) (y : Piece) → option_map g o ≡ Some y → (x : Piece) × ((o ≡ Some x) × (g x ≡ y))
mapped_back g None y e = absurd (none-some y e)
mapped_back g (Some x) y e = (x, (refl, same_Some (g x) y e))

module _ (f : SourceFile) (edits : List Edit) (is : IsSourceFile f) (are : AreNameEdits f.cut.pieces edits) where
  abbrev new : SourceFile
  new = renamed_file edits f

  token_of : (n : ℕ) → slice_get (tokens_in new.cut) n ≡ option_map (moved_piece edits) (slice_get (tokens_in f.cut) n)
  token_of n = ap (λ ts. slice_get ts n) (tokens_moved f.cut edits is.is_cut are) ∙ slice_get-map (moved_piece edits) (tokens_in f.cut) n

  -- a token that is no name keeps its bytes
  kept_bytes : (n : ℕ) (x : Piece) → slice_get (tokens_in f.cut) n ≡ Some x → (x.class ≡ Name → ⊥) →
      bytes_of new.cut.text (moved_piece edits x) ≡ bytes_of f.cut.text x
  kept_bytes n x at other =
      let moved : slice_get (tokens_in new.cut) n ≡ Some (moved_piece edits x) = token_of n ∙ ap (option_map (moved_piece edits)) at in
      let spelled : spelling_of new n ≡ spelling_of f n = token_kept f edits n is.is_cut are
      (λ e has same. other (ap (λ (y : Piece). y.class) (same_Some x (replaced_piece e) (sym at ∙ same)))) in
      sym (ap (spelling_at new.cut.text) moved) ∙ spelled ∙ ap (spelling_at f.cut.text) at

  pub string_stays : (n : ℕ) (value : List ℕ) → IsStringAt f n value → IsStringAt new n value
  string_stays n value h = record {
    piece = moved_piece edits h.piece;
    at = token_of n ∙ ap (option_map (moved_piece edits)) h.at;
    is_string = h.is_string;
    has_value = subst (λ bytes. HasStringValue bytes value) (sym (kept_bytes n h.piece h.at (no_name h.piece.class h.is_string))) h.has_value;
  }

  pub string_was : (n : ℕ) (value : List ℕ) → IsStringAt new n value → IsStringAt f n value
  string_was n value h =
      let x = mapped_back (moved_piece edits) (slice_get (tokens_in f.cut) n) h.piece (sym (token_of n) ∙ h.at) in
      let string : IsStringClass x.0.class = subst (λ (y : Piece). IsStringClass y.class) (sym x.1.1) h.is_string in
      let bytes : bytes_of new.cut.text h.piece ≡ bytes_of f.cut.text x.0 =
      ap (bytes_of new.cut.text) (sym x.1.1) ∙ kept_bytes n x.0 x.1.0 (no_name x.0.class string) in
      record { piece = x.0; at = x.1.0; is_string = string; has_value = subst (λ b. HasStringValue b value) bytes h.has_value }

  -- so a file imports what it imported

  pub imports_stay : (path : List ℕ) → ImportsPath f path → ImportsPath new path
  imports_stay path h =
      let x = string_stays h.token path (record { piece = h.piece; at = h.at; is_string = h.is_string; has_value = h.value }) in
      record { token = h.token; literal = h.literal; piece = x.piece; at = x.at; is_string = x.is_string; value = x.has_value }

  pub imports_were : (path : List ℕ) → ImportsPath new path → ImportsPath f path
  imports_were path h =
      let x = string_was h.token path (record { piece = h.piece; at = h.at; is_string = h.is_string; has_value = h.value }) in
      record { token = h.token; literal = h.literal; piece = x.piece; at = x.at; is_string = x.is_string; value = x.has_value }

-- literals by the token of a number

pub to_string : (f : SourceFile) (n : ℕ) (value : List ℕ) → HasLiteral f n value → IsStringAt f n value
to_string f n value h = elim (cases_lt n (length (tokens_in f.cut))) [
  | inl lt ↦ record { piece = token_at f.cut n; at = slice_get-get_or (tokens_in f.cut) n (semicolon 0) lt; is_string = h.is_string; has_value = h.stands_for }
  | inr ge ↦ absurd (not_string (subst (λ (x : Piece). IsStringClass x.class) (get_or_past (tokens_in f.cut) n (semicolon 0) ge) h.is_string))
]

pub from_string : (f : SourceFile) (n : ℕ) (value : List ℕ) → IsStringAt f n value → HasLiteral f n value
from_string f n value h =
    let same : h.piece ≡ token_at f.cut n = sym (get_or_from_slice_get (tokens_in f.cut) n h.piece (semicolon 0) h.at) in
    record {
      is_string = subst (λ (x : Piece). IsStringClass x.class) same h.is_string;
      stands_for = subst (λ (x : Piece). HasStringValue (bytes_of f.cut.text x) value) same h.has_value;
    }
