-- The places of tokens, names and identifiers.
use Rattle.std.proofs.Common.{ℕ, ◌≡◌, ◌<◌, ◌≤◌, true, false, List, length, map, get_or, sym, subst, ◌∙◌}
use Rattle.std.specs.Prelude.{Option, Some, None, slice_get}
use Rattle.std.proofs.lemmas.Bool.{true≢false}
use Rattle.base_files.specs.declared.place.Place.{Place}
use Rattle.go_scanner.specs.CutText.{tokens_in}
use Rattle.go_ast.specs.SourceFile.{SourceFile, FileParts, source_of}
use Rattle.go_scope.specs.declared.model.Position.{Position}
use Rattle.go_scope.specs.Bindings.{is_implied}
use Rattle.types_declared.proofs.PathParts.{source_at as file_at}
use Rattle.types_declared.specs.Package.{Package}
use Rattle.refs_binding.specs.Identifiers.{IsNameToken, NameBegins, BeginsAt, file_of}
use Rattle.refs_binding.proofs.Files.{no_file}
use Rattle.refs_binding.proofs.PlaceOrder.{place_is}
use Rattle.refs_binding.specs.DeclaringPlaces.{TokenBegins}
use Rattle.refs_places.specs.DeclaredPlaces.{IsChoice}
use Rattle.refs_places.proofs.Found.{found_as}

-- tokens
pub no_token : (files : List FileParts) (k token : ℕ) → length files ≤ k → (place : Place) → TokenBegins (slice_get (map source_of files) k) token place → ⊥
no_token files k token le place h = subst (λ o. TokenBegins o token place) (no_file files k le) h

pub a_token : (files : List FileParts) (k token : ℕ) (f : FileParts) (place : Place) → k < length files → f ≡ get_or files k f →
    TokenBegins (Some (source_of f)) token place →
    TokenBegins (slice_get (map source_of files) k) token place
a_token files k token f place lt is h = subst (λ o. TokenBegins o token place) (sym (file_at files k f lt is)) h

-- names
pub a_name : (f : FileParts) (token : ℕ) (place : Place) → IsNameToken (slice_get (tokens_in f.cut) token) → TokenBegins (Some (source_of f)) token place →
    NameBegins (Some (source_of f)) token place.path place.offset
a_name f token place named h = (named, h.0, h.1)

pub no_name : (files : List FileParts) (k token : ℕ) → length files ≤ k → (place : Place) →
    NameBegins (slice_get (map source_of files) k) token place.path place.offset → ⊥
no_name files k token le place h = subst (λ o. NameBegins o token place.path place.offset) (no_file files k le) h

pub name_at : (files : List FileParts) (k token : ℕ) (f : FileParts) (o : Option Place) → k < length files → f ≡ get_or files k f →
    IsChoice (λ (place : Place). NameBegins (Some (source_of f)) token place.path place.offset) o →
    IsChoice (λ (place : Place). NameBegins (slice_get (map source_of files) k) token place.path place.offset) o
name_at files k token f o lt is h = subst (λ s. IsChoice (λ (place : Place). NameBegins s token place.path place.offset) o) (sym (file_at files k f lt is)) h

-- identifiers
pub not_implied : (p : Package) (u : ℕ) → is_implied (p.layout.role u) ≡ true → (place : Place) → BeginsAt p place.path place.offset u → ⊥
not_implied p u implied place h = true≢false (sym implied ∙ h.0.1)

pub begins_as : (p : Package) (u : ℕ) (at : Position) (o : Option Place) → u < p.size → is_implied (p.layout.role u) ≡ false → at ≡ p.layout.place u →
    IsChoice (λ (place : Place). NameBegins (slice_get p.files at.file) at.index place.path place.offset) o →
    IsChoice (λ (place : Place). BeginsAt p place.path place.offset u) o
begins_as p u at o lt stands e h =
    found_as (λ (place : Place). NameBegins (slice_get p.files at.file) at.index place.path place.offset)
    (λ (place : Place). BeginsAt p place.path place.offset u) o
    (λ place n. ((lt, stands), subst (λ (x : Position). NameBegins (slice_get p.files x.file) x.index place.path place.offset) e n))
    (λ place b. subst (λ (x : Position). NameBegins (slice_get p.files x.file) x.index place.path place.offset) (sym e) b.1) h

-- each begins at one place
named_once : (f : Option SourceFile) (token : ℕ) (a b : Place) → NameBegins f token a.path a.offset → NameBegins f token b.path b.offset → a ≡ b
named_once None token a b h k = absurd h
named_once (Some f) token a b h k = place_is a b (sym h.1 ∙ k.1) (sym h.2 ∙ k.2)

pub begins_once : (p : Package) (u : ℕ) (a b : Place) → BeginsAt p a.path a.offset u → BeginsAt p b.path b.offset u → a ≡ b
begins_once p u a b h k = named_once (file_of p u) (p.layout.place u).index a b h.1 k.1

pub token_once : (f : Option SourceFile) (token : ℕ) (a b : Place) → TokenBegins f token a → TokenBegins f token b → a ≡ b
token_once None token a b h k = absurd h
token_once (Some f) token a b h k = place_is a b (sym h.0 ∙ k.0) (sym h.1 ∙ k.1)
