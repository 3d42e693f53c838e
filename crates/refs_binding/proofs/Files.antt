-- The names among the tokens of a package's files, by the file's number.
use Rattle.std.proofs.Common.{◌≡◌, ◌↔◌, ◌<◌, ◌≤◌, ℕ, zero, suc, Bool, false, List, [], ◌∷◌, ◌++◌, length, map, sym, ap, subst, ◌∙◌}
use Rattle.std.specs.Prelude.{Option, Some, None, Result, OnOk, IsTrue, slice_get, get_or}
use Rattle.std.proofs.lemmas.Bool.{false≢true}
use Rattle.std.specs.Option.{option_map}
use Rattle.std.proofs.lemmas.Option.{slice_get-map, slice_get_past}
use Rattle.go_scanner.specs.declared.piece.Class.TheVariants.{Name}
use Rattle.go_scanner.specs.declared.piece.Piece.{Piece}
use Rattle.go_scanner.specs.CutText.{tokens_in}
use Rattle.go_ast.specs.SourceFile.{SourceFile, FileParts, source_of, offset_of}
use Rattle.go_scope.specs.Packages.{IsPlaceOf}
use Rattle.types_declared.proofs.PathParts.{source_at as file_at}
use Rattle.refs_binding.specs.declared.place_key.PlaceKey.{PlaceKey}
use Rattle.refs_binding.specs.Identifiers.{IsNameToken, NameBegins}
use Rattle.refs_binding.specs.Steps.{AddsPlaces}
use Rattle.refs_binding.proofs.Adding.{adds_none, adds_one}

pub no_file : (files : List FileParts) (k : ℕ) → length files ≤ k → slice_get (map source_of files) k ≡ None
no_file files k le = slice_get-map source_of files k ∙ ap (option_map source_of) (slice_get_past files k le)

-- a name by the trees of files
pub place_of_name : (files : List FileParts) (i token : ℕ) (path : List ℕ) (offset : ℕ) → NameBegins (slice_get (map source_of files) i) token path offset →
    IsPlaceOf (slice_get files i) token path offset
place_of_name [] i token path offset h = absurd h
place_of_name (f ∷ fs) zero token path offset h = (h.1, h.2)
place_of_name (f ∷ fs) (suc i) token path offset h = place_of_name fs i token path offset h

-- whether a token is a name

pub none_named : (o : Option Piece) → o ≡ None → IsTrue false ↔ IsNameToken o
none_named o e = ((λ t. absurd (false≢true t)), (λ h. absurd (subst IsNameToken e h)))

pub is_named : (o : Option Piece) (p : Piece) (b : Bool) → o ≡ Some p → IsTrue b ↔ (p.class ≡ Name) → IsTrue b ↔ IsNameToken o
is_named o p b e h = subst (λ x. IsTrue b ↔ IsNameToken x) (sym e) h

abbrev spot_from : List ℕ → ℕ → PlaceKey
spot_from path offset = record { path = path; offset = offset }

same_spot : (f : SourceFile) (token : ℕ) (s t : PlaceKey) → NameBegins (Some f) token s.path s.offset → NameBegins (Some f) token t.path t.offset → s ≡ t
same_spot f token s t h k = ap (λ p. spot_from p s.offset) (sym h.1 ∙ k.1) ∙ ap (λ o. spot_from t.path o) (sym h.2 ∙ k.2)

-- the place of a name of a file is pushed
pub name_pushed : (a b : List PlaceKey) (f : SourceFile) (token : ℕ) (s : PlaceKey) → IsNameToken (slice_get (tokens_in f.cut) token) → b ≡ a ++ s ∷ [] →
    f.path ≡ s.path → offset_of f token ≡ s.offset →
    AddsPlaces a b (λ place. NameBegins (Some f) token place.path place.offset)
name_pushed a b f token s named pushed path_is offset_is =
    adds_one a b s (λ place. NameBegins (Some f) token place.path place.offset) pushed (named, path_is, offset_is)
    (λ t h. same_spot f token s t (named, path_is, offset_is) h)

-- a token that is no name
pub not_a_name : (a : List PlaceKey) (f : SourceFile) (token : ℕ) → (IsNameToken (slice_get (tokens_in f.cut) token) → ⊥) →
    AddsPlaces a a (λ place. NameBegins (Some f) token place.path place.offset)
not_a_name a f token none = adds_none a (λ place. NameBegins (Some f) token place.path place.offset) (λ place h. none h.0)

-- the same by the number of the file
pub name_in_file : {E : Type 0} (a b : List PlaceKey) (r : Result (Unit {0}) E) (files : List FileParts) (k token : ℕ) (f : FileParts) → k < length files →
    f ≡ get_or files k f →
    OnOk r (AddsPlaces a b (λ place. NameBegins (Some (source_of f)) token place.path place.offset)) →
    OnOk r (AddsPlaces a b (λ place. NameBegins (slice_get (map source_of files) k) token place.path place.offset))
name_in_file a b r files k token f lt e h = subst (λ o. OnOk r (AddsPlaces a b (λ place. NameBegins o token place.path place.offset)))
    (sym (file_at files k f lt e)) h

-- beyond the last file there is none
pub no_place : (a : List PlaceKey) (files : List FileParts) (k token : ℕ) → length files ≤ k →
    AddsPlaces a a (λ place. NameBegins (slice_get (map source_of files) k) token place.path place.offset)
no_place a files k token le = adds_none a _ (λ place h. subst (λ o. NameBegins o token place.path place.offset) (no_file files k le) h)
