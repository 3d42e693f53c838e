-- Each identifier token of a package is an identifier of the package.
use Rattle.std.proofs.Common.{ℕ, zero, suc, ◌≡◌, ◌+◌, ◌⊎◌, inl, inr, Bool, true, false, cond, List, [], ◌∷◌, map, refl, sym, ap, subst, ◌∙◌, arith}
use Rattle.std.specs.Prelude.{Option, Some, None, Contains, option_map, slice_get}
use Rattle.std.proofs.lemmas.Bool.{true≢false, false≢true}
use Rattle.std.proofs.lemmas.List.Elements.{Contains-append_right}
use Rattle.std.proofs.lemmas.Option.{none-some, same_Some, slice_get-map}
use Rattle.base_files.specs.Workspace.{Workspace}
use Rattle.base_files.specs.declared.place.Place.{Place}
use Rattle.go_scanner.specs.Cuts.{bytes_of}
use Rattle.go_scanner.specs.CutText.{CutText, tokens_in}
use Rattle.go_scanner.specs.declared.piece.Class.{Class}
use Rattle.go_scanner.specs.declared.piece.Class.TheVariants.{Name}
use Rattle.go_scanner.specs.declared.piece.Piece.{Piece}
use Rattle.go_ast.specs.declared.syntax.Kind.{Kind}
use Rattle.go_ast.specs.declared.syntax.Kind.TheVariants as kind
use Rattle.go_ast.specs.declared.syntax.Token.{Token}
use Rattle.go_ast.specs.Kinds.{kind_of, kinds_from, kinds_of}
use Rattle.go_ast.specs.SourceFile.{FileParts, source_of}
use Rattle.go_scope.specs.declared.model.Position.{Position}
use Rattle.go_scope.specs.Named.{with_names}
use Rattle.go_scope.specs.Packages.{ScopedPackage, scoped}
use Rattle.law_tokens.specs.Covered.{IsIdentifierPlace, HasIdentifierAt}
use Rattle.go_scope.specs.IdentifierTokens.{is_ident_token, is_header_name}
use Rattle.law_tokens.specs.Tokens.{begins_declaration, names_among, identifiers_among}
use Rattle.law_tokens.proofs.OwnPaths.{package_sources}
use Rattle.law_tokens.proofs.Places.{place_has_one, named_has_one}
use Rattle.types_declared.specs.Package.{Package}
use Rattle.types_info.specs.PackageOf.{package_in}
use Rattle.workspace_check.specs.Verdicts.{Verdicts, IsPackageIn}
use Rattle.refs_binding.specs.Identifiers.{IsNameToken, NameBegins}
use Rattle.refs_binding.specs.Steps.{AtToken}
use Rattle.refs_binding.proofs.Tokens.{Begins, token_begins}

-- a token of that number is a name or `_`
abbrev IsNamed : ℕ → List Token → Type 0
IsNamed i [] = ⊥
IsNamed i (t ∷ ts) = ((t.place ≡ i) × (is_ident_token t.kind ≡ true)) ⊎ IsNamed i ts

-- a token of that number is one of these
abbrev IsAmong : ℕ → List Token → Type 0
IsAmong i ts = (t : Token) × (Contains ts t × (t.place ≡ i))

first : (i : ℕ) (t : Token) (ts : List Token) → t.place ≡ i → IsAmong i (t ∷ ts)
first i t ts e = (t, ((zero, omega arith, refl), e))

later : (i : ℕ) (t : Token) (ts : List Token) → IsAmong i ts → IsAmong i (t ∷ ts)
later i t ts m = (m.0, (Contains-append_right (t ∷ []) ts m.0 m.1.0, m.1.1))

next_name : (i : ℕ) (t : Token) (ts : List Token) → (IsNamed i ts → IsAmong i (names_among ts)) → IsNamed i (t ∷ ts) → (b : Bool) → is_ident_token t.kind ≡ b →
    IsAmong i (cond b (t ∷ names_among ts) (names_among ts))
next_name i t ts others h true e = elim h [ inl here ↦ first i t (names_among ts) here.0 | inr rest ↦ later i t (names_among ts) (others rest) ]
next_name i t ts others h false e = elim h [ inl here ↦ absurd (true≢false (sym here.1 ∙ e)) | inr rest ↦ others rest ]

in_names : (i : ℕ) (ts : List Token) → IsNamed i ts → IsAmong i (names_among ts)
in_names i [] h = absurd h
in_names i (t ∷ ts) h = next_name i t ts (λ rest. in_names i ts rest) h (is_ident_token t.kind) refl

begins_none : (k : Kind) → is_ident_token k ≡ true → begins_declaration k ≡ true → ⊥
begins_none kind.Name e f = false≢true f
begins_none kind.Blank e f = false≢true f
begins_none _ e f = false≢true e

is_header : (k : Kind) → is_ident_token k ≡ true → is_header_name k ≡ true
is_header kind.Name e = refl
is_header kind.Blank e = refl
is_header _ e = absurd (false≢true e)

other_header : (i : ℕ) (t : Token) (ts : List Token) → IsAmong i ts → (b : Bool) → IsAmong i (cond b (t ∷ ts) ts)
other_header i t ts rest true = later i t ts rest
other_header i t ts rest false = rest

own_header : (i : ℕ) (t : Token) (ts : List Token) → t.place ≡ i → (b : Bool) → b ≡ true → IsAmong i (cond b (t ∷ ts) ts)
own_header i t ts at true e = first i t ts at
own_header i t ts at false e = absurd (false≢true e)

next_identifier : (i : ℕ) (t : Token) (ts : List Token) → (IsNamed i ts → IsAmong i (identifiers_among ts)) → IsNamed i (t ∷ ts) → (b : Bool) →
    begins_declaration t.kind ≡ b →
    IsAmong i (cond b (names_among ts) (cond (is_header_name t.kind) (t ∷ identifiers_among ts) (identifiers_among ts)))
next_identifier i t ts others h true e = elim h [ inl here ↦ absurd (begins_none t.kind here.1 e) | inr rest ↦ in_names i ts rest ]
next_identifier i t ts others h false e = elim h [
  | inl here ↦ own_header i t (identifiers_among ts) here.0 (is_header_name t.kind) (is_header t.kind here.1)
  | inr rest ↦ other_header i t (identifiers_among ts) (others rest) (is_header_name t.kind)
]

in_identifiers : (i : ℕ) (ts : List Token) → IsNamed i ts → IsAmong i (identifiers_among ts)
unfolding identifiers_among
in_identifiers i [] h = absurd h
in_identifiers i (t ∷ ts) h = next_identifier i t ts (λ rest. in_identifiers i ts rest) h (begins_declaration t.kind) refl

-- by the classes of tokens
name_kind : (b : Bool) → is_ident_token (cond b kind.Blank kind.Name) ≡ true
name_kind true = refl
name_kind false = refl

class_named : (c : Class) (bytes : List ℕ) → c ≡ Name → is_ident_token (kind_of c bytes) ≡ true
class_named c bytes e = subst (λ x. is_ident_token (kind_of x bytes) ≡ true) (sym e) (name_kind _)

named_from : (n : ℕ) (text : List ℕ) (ps : List Piece) (i : ℕ) (x : Piece) → slice_get ps i ≡ Some x → x.class ≡ Name → IsNamed (n + i) (kinds_from n text ps)
unfolding kinds_from
named_from n text [] i x e with_names = absurd (none-some x e)
named_from n text (p ∷ ps) zero x e with_names =
    let same : p ≡ x = same_Some p x e in
    inl (let z : n ≡ n + 0 = omega arith in z, class_named p.class (bytes_of text p) (ap (λ (y : Piece). y.class) same ∙ with_names))
named_from n text (p ∷ ps) (suc i) x e with_names =
    let next : (n + 1) + i ≡ n + suc i = omega arith in
    inr (subst (λ m. IsNamed m (kinds_from (n + 1) text ps)) next (named_from (n + 1) text ps i x e with_names))

name_there : (c : CutText) (i : ℕ) (o : Option Piece) → slice_get (tokens_in c) i ≡ o → IsNameToken o → IsAmong i (identifiers_among (kinds_of c))
name_there c i None e h = absurd h
name_there c i (Some x) e h =
    let zeroed : 0 + i ≡ i = omega arith in
    in_identifiers i (kinds_of c) (subst (λ m. IsNamed m (kinds_of c)) zeroed (named_from 0 c.text (tokens_in c) i x e h))

-- in a package
name_stands : (w : Workspace) (known : Verdicts) (path : List ℕ) (p : Package) (h : IsPackageIn w known path p) (at : Position) (place : Place)
    (o : Option FileParts) → slice_get h.files at.file ≡ o → Begins p at place → HasIdentifierAt p.layout p.size at
name_stands w known path p h at place o is begins =
    let files = h.files in
    let own = h.is_package in
    let laid : ScopedPackage = with_names own.is_laid.names (scoped files) in
    let same : p ≡ package_in path (map source_of files) laid h.export_data_of =
    own.is_package ∙ ap (λ t. package_in path (map source_of files) t h.export_data_of) own.is_laid.is_named in
    subst (λ (c : Package). HasIdentifierAt c.layout c.size at) (sym same)
    ((named_has_one own.is_laid.names (scoped files) at).0 (place_has_one files (package_sources w path files h.parsed) at
    (by_file o is (slice_get-map source_of files at.file ∙ ap (option_map source_of) is)
    (subst (λ (c : Package). Begins c at place) same begins))))
  where
    by_file : (o : Option FileParts) → slice_get h.files at.file ≡ o → slice_get (map source_of h.files) at.file ≡ option_map source_of o →
        Begins (package_in path (map source_of h.files) (with_names h.is_package.is_laid.names (scoped h.files)) h.export_data_of) at place →
        IsIdentifierPlace h.files at
    by_file None is source begins = absurd (subst (λ s. NameBegins s at.index place.path place.offset) source begins)
    by_file (Some t) is source begins =
        let there = subst (λ s. NameBegins s at.index place.path place.offset) source begins in
        let one = name_there t.cut at.index (slice_get (tokens_in t.cut) at.index) refl there.0 in
        record { file = t; of_rank = is; token = one.0; is_identifier = one.1.0; stands = one.1.1 }

pub name_at_token : (w : Workspace) (known : Verdicts) (path : List ℕ) (p : Package) → IsPackageIn w known path p → (at : Position) (place : Place) →
    Begins p at place → AtToken p at place
name_at_token w known path p h at place begins =
    let one = name_stands w known path p h at place (slice_get h.files at.file) refl begins in
    token_begins p one.0 at place one.1.0 one.1.1 begins
