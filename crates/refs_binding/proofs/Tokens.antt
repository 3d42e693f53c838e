-- The places of identifiers are those of their tokens.
use Rattle.std.proofs.Common.{ℕ, ◌≡◌, ◌<◌, ◌∙◌, List, sym, subst, true, false}
use Rattle.std.specs.Prelude.{Option, None, Result, OnOk, slice_get}
use Rattle.std.proofs.lemmas.Bool.{true≢false}
use Rattle.base_files.specs.declared.place.Place.{Place}
use Rattle.go_scope.specs.declared.model.Position.{Position}
use Rattle.go_scope.specs.Bindings.{is_implied}
use Rattle.go_scope.specs.Table.{LiesAt, IsFoundAt}
use Rattle.go_scope.specs.ByToken.{IsFirstBelow}
use Rattle.types_declared.specs.Package.{Package}
use Rattle.refs_binding.specs.declared.place_key.PlaceKey.{PlaceKey}
use Rattle.refs_binding.specs.Identifiers.{NameBegins, BeginsAt}
use Rattle.refs_binding.specs.Steps.{AddsPlaces, AtToken}
use Rattle.refs_binding.proofs.Adding.{adds_none, call_adds}

-- a token at a place of a package is a name and begins at the byte
abbrev pub Begins : Package → Position → Place → Type 0
Begins p at place = NameBegins (slice_get p.files at.file) at.index place.path place.offset

-- the identifier that stands nowhere
pub no_identifier : (p : Package) (u : ℕ) (a : List PlaceKey) → is_implied (p.layout.role u) ≡ true → AddsPlaces a a (λ place. BeginsAt p place.path
    place.offset u)
no_identifier p u a implied = adds_none a _ (λ place h. true≢false (sym implied ∙ h.0.1))

-- the identifier whose place was added
pub an_identifier : {E : Type 0} (p : Package) (u : ℕ) (at : Position) (a b : List PlaceKey) (r : Result (Unit {0}) E) → u < p.size →
    is_implied (p.layout.role u) ≡ false → at ≡ p.layout.place u →
    OnOk r (AddsPlaces a b (Begins p at)) → OnOk r (AddsPlaces a b (λ place. BeginsAt p place.path place.offset u))
an_identifier p u at a b r lt stands e h =
    call_adds a b (Begins p at) (λ place. BeginsAt p place.path place.offset u) r
    (λ place t. ((lt, stands), subst (λ x. Begins p x place) e t))
    (λ place q. subst (λ x. Begins p x place) (sym e) q.1) h

-- from a token to the identifier that stands there, and back
to_identifier : (p : Package) (u : ℕ) (at : Position) (place : Place) → LiesAt p.layout at u → Begins p at place → Begins p (p.layout.place u) place
to_identifier p u at place s t =
    subst (λ f. NameBegins (slice_get p.files f) (p.layout.place u).index place.path place.offset) (sym s.1)
    (subst (λ i. NameBegins (slice_get p.files at.file) i place.path place.offset) (sym s.2) t)

to_token : (p : Package) (u : ℕ) (at : Position) (place : Place) → LiesAt p.layout at u → Begins p (p.layout.place u) place → Begins p at place
to_token p u at place s t =
    subst (λ f. NameBegins (slice_get p.files f) at.index place.path place.offset) s.1
    (subst (λ i. NameBegins (slice_get p.files (p.layout.place u).file) i place.path place.offset) s.2 t)

-- the token at which an identifier stands, and back
pub token_begins : (p : Package) (u : ℕ) (at : Position) (place : Place) → u < p.size → LiesAt p.layout at u → Begins p at place → AtToken p at place
token_begins p u at place lt s t = (u, (((lt, s.0), to_identifier p u at place s t), s))

pub begins_token : (p : Package) (at : Position) (place : Place) → AtToken p at place → Begins p at place
begins_token p at place q = to_token p q.0 at place q.1.1 q.1.0.1

-- a token at which an identifier stands
pub a_token : {E : Type 0} (p : Package) (u : ℕ) (at : Position) (a b : List PlaceKey) (r : Result (Unit {0}) E) → IsFoundAt p.layout p.size at u →
    OnOk r (AddsPlaces a b (Begins p at)) → OnOk r (AddsPlaces a b (AtToken p at))
a_token p u at a b r found h =
    call_adds a b (Begins p at) (AtToken p at) r
    (λ place t. token_begins p u at place found.within found.holds t) (begins_token p at) h

-- a token at which none stands
pub no_token : (p : Package) (at : Position) (a : List PlaceKey) (o : Option ℕ) → o ≡ None → IsFirstBelow (LiesAt p.layout at) p.size o →
    AddsPlaces a a (AtToken p at)
no_token p at a o e h =
    let none : (u : ℕ) → u < p.size → LiesAt p.layout at u → ⊥ = subst (IsFirstBelow (LiesAt p.layout at) p.size) e h in
    adds_none a (AtToken p at) (λ place q. none q.0 q.1.0.0.0 q.1.1)
