-- Where imports without a name come to declare, a name stays bound to a declaration that is no import. The exception is an import of that
-- name that counts and has a scope inside the declaration's.
use Rattle.std.proofs.Common.{ℕ, ◌≡◌, ◌⊎◌, inl, inr, List, Option, Some, None, Bool, true, false, zero, suc, [], ◌∷◌, ap, sym, ◌∙◌, subst, refl}
use Rattle.std.specs.Prelude.{slice_get}
use Rattle.go_scope.specs.declared.model.Position.{Position}
use Rattle.go_scope.specs.declared.model.Role.{Role}
use Rattle.go_scope.specs.declared.model.Role.TheVariants.{Use, Declaring, LeftName, Implied, NotLexical}
use Rattle.go_scope.specs.declared.model.Block.TheVariants.{Package, File, Inner}
use Rattle.go_scope.specs.Scopes.{Holds, IsInside}
use Rattle.go_scope.specs.Bindings.{Layout, Names, MayDeclare, SameBlock, InScope, Declares, Displaces, Counts, BindsAt, block_of, scope_of, may_declare}
use Rattle.go_scope.specs.Bindings.{is_left_name}
use Rattle.go_scope.specs.Named.{is_unnamed_import, named_where, named_sites}
use Rattle.go_scope.specs.Site.{Site, or_blank, sites_layout, sites_names}
use Rattle.go_scope.specs.WellFormed.{WellFormed}
use Rattle.go_scope.proofs.NamedSites.{place_stays}

same_block : (k l : Layout) (e d : ℕ) → k.role e ≡ l.role e → k.role d ≡ l.role d → SameBlock k e d → SameBlock l e d
same_block k l e d ee ed s = sym (ap block_of ee) ∙ s ∙ ap block_of ed

in_scope : (k l : Layout) (e u : ℕ) → k.role e ≡ l.role e → k.place u ≡ l.place u → InScope k e u → InScope l e u
in_scope k l e u ee pu h =
    let R : Role → Type 0 = λ r. Holds (scope_of r) (l.place u) in
    let P : Position → Type 0 = λ p. Holds (scope_of (k.role e)) p in
    subst R ee (subst P pu h)

displaces : (k l : Layout) (e d : ℕ) → k.role e ≡ l.role e → k.role d ≡ l.role d → Displaces k e d → Displaces l e d
displaces k l e d ee ed h = elim h [
  | inl s ↦ inl (same_block k l e d ee ed s.0, s.1)
  | inr s ↦ inr (sym (ap block_of ee) ∙ s.0, (s.1.0, sym (ap block_of ed) ∙ s.1.1))
]

-- an identifier stays, or it declared nothing before and declares in a file after
abbrev pub Stays : (k l : Layout) (kn ln : Names) → ℕ → Type 0
Stays k l kn ln d = ((k.role d ≡ l.role d) × (kn d ≡ ln d)) ⊎ ((f : ℕ) × ((k.role d ≡ Declaring (File f) 0) × (may_declare (l.role d) ≡ false)))

may_not : {A : Type 0} (b : Bool) → b ≡ true → b ≡ false → A
may_not b t f = let no : true ≡ false = sym t ∙ f in cc

module _ (k l : Layout) (kn ln : Names) (w : WellFormed l) (stays : (d : ℕ) → Stays k l kn ln d) (places : (d : ℕ) → k.place d ≡ l.place d) where
  unchanged : (d : ℕ) → MayDeclare l d → (k.role d ≡ l.role d) × (kn d ≡ ln d)
  unchanged d m = elim (stays d) [ inl s ↦ s | inr h ↦ may_not (may_declare (l.role d)) m h.1.1 ]

  declares_still : (d : ℕ) → Declares l ln d → Declares k kn d
  declares_still d h =
      let s = unchanged d h.may in
      record {
        may = ap may_declare s.0 ∙ h.may;
        is_new = λ left e me block named holds. elim (stays e) [
          | inl t ↦ h.is_new (sym (ap is_left_name s.0) ∙ left) e (sym (ap may_declare t.0) ∙ me) (same_block k l e d t.0 s.0 block) (sym t.1 ∙ named ∙ s.1)
              (in_scope k l e d t.0 (places d) holds)
          | inr t ↦ (
              let inner = w.left_inner d (sym (ap is_left_name s.0) ∙ left) in
              let apart : File t.0 ≡ Inner inner.0 inner.1 inner.2 = sym (ap block_of t.1.0) ∙ block ∙ ap block_of s.0 ∙ inner.3 in
              cc)
        ];
      }

  declared_before : (d : ℕ) → k.role d ≡ l.role d → kn d ≡ ln d → Declares k kn d → Declares l ln d
  declared_before d er en h = record {
    may = sym (ap may_declare er) ∙ h.may;
    is_new = λ left e me block named holds.
        let t = unchanged e me in
        h.is_new (ap is_left_name er ∙ left) e (ap may_declare t.0 ∙ me) (same_block l k e d (sym t.0) (sym er) block) (t.1 ∙ named ∙ sym en)
        (in_scope l k e d (sym t.0) (sym (places d)) holds);
  }

  counts_still : (d : ℕ) → Counts l ln d → ((f : ℕ) → block_of (l.role d) ≡ File f → ⊥) → Counts k kn d
  counts_still d c other =
      let s = unchanged d c.declares.may in
      record {
        declares = declares_still d c.declares;
        first = λ e h named why. elim (stays e) [
          | inl t ↦ c.first e (declared_before e t.0 t.1 h) (sym t.1 ∙ named ∙ s.1) (displaces k l e d t.0 s.0 why)
          | inr t ↦ elim why [
            | inl b ↦ other t.0 (sym (ap block_of s.0) ∙ sym b.0 ∙ ap block_of t.1.0)
            | inr p ↦ (let apart : File t.0 ≡ Package = sym (ap block_of t.1.0) ∙ p.0 in cc)
          ]
        ];
      }

  counted_before : (e : ℕ) → k.role e ≡ l.role e → kn e ≡ ln e → Counts k kn e → Counts l ln e
  counted_before e er en c = record {
    declares = declared_before e er en c.declares;
    first = λ d h named why.
        let t = unchanged d h.may in
        c.first d (declares_still d h) (t.1 ∙ named ∙ sym en) (displaces l k d e (sym t.0) (sym er) why);
  }

  pub binding_stays : (name : List ℕ) (u d : ℕ) → BindsAt l ln name u d → ((f : ℕ) → block_of (l.role d) ≡ File f → ⊥) →
      ((i f : ℕ) → Counts k kn i → block_of (k.role i) ≡ File f → kn i ≡ name → InScope k i u → IsInside (scope_of (k.role i)) (scope_of (k.role d)) → ⊥) →
      BindsAt k kn name u d
  binding_stays name u d b other none =
      let s = unchanged d b.counts.declares.may in
      record {
        counts = counts_still d b.counts other;
        named = s.1 ∙ b.named;
        in_scope = in_scope l k d u (sym s.0) (sym (places u)) b.in_scope;
        innermost = λ e c named holds inside. elim (stays e) [
          | inl t ↦ (
              let D : Role → Type 0 = λ r. IsInside (scope_of (l.role e)) (scope_of r) in
              let E : Role → Type 0 = λ r. IsInside (scope_of r) (scope_of (k.role d)) in
              b.innermost e (counted_before e t.0 t.1 c) (sym t.1 ∙ named) (in_scope k l e u t.0 (places u) holds) (subst D s.0 (subst E t.0 inside)))
          | inr t ↦ absurd (none e t.0 c (ap block_of t.1.0) named holds inside)
        ];
      }

-- the identifiers of a package, with the names of imports

not_declaring : (r : Role) → is_unnamed_import r ≡ true → may_declare r ≡ false
not_declaring Use e = refl
not_declaring (NotLexical p) e = refl
not_declaring (Declaring b s) e = cc
not_declaring (LeftName b s) e = cc
not_declaring (Implied b s) e = cc

abbrev SiteStays : Site → Site → Type 0
SiteStays new old = ((new.role ≡ old.role) × (new.name ≡ old.name)) ⊎ ((f : ℕ) × ((new.role ≡ Declaring (File f) 0) × (may_declare old.role ≡ false)))

where_stays : (b : Bool) (name : Option (List ℕ)) (x : Site) → is_unnamed_import x.role ≡ b → SiteStays (named_where b name x) x
where_stays true (Some name) x e = inr (x.place.file, (refl, not_declaring x.role e))
where_stays true None x e = inl (refl, refl)
where_stays false name x e = inl (refl, refl)

sites_stay : (names : ℕ → Option (List ℕ)) (xs : List Site) (d : ℕ) → SiteStays (or_blank (slice_get (named_sites names xs) d)) (or_blank (slice_get xs d))
unfolding named_sites
sites_stay names [] d = inl (refl, refl)
sites_stay names (x ∷ xs) zero = where_stays (is_unnamed_import x.role) (names 0) x refl
sites_stay names (x ∷ xs) (suc d) = sites_stay (λ u. names (suc u)) xs d

pub named_binding : (names : ℕ → Option (List ℕ)) (xs : List Site) → WellFormed (sites_layout xs) → (name : List ℕ) (u d : ℕ) →
    (let k = sites_layout (named_sites names xs) in let kn = sites_names (named_sites names xs) in
    BindsAt (sites_layout xs) (sites_names xs) name u d → ((f : ℕ) → block_of ((sites_layout xs).role d) ≡ File f → ⊥) →
    ((i f : ℕ) → Counts k kn i → block_of (k.role i) ≡ File f → kn i ≡ name → InScope k i u → IsInside (scope_of (k.role i)) (scope_of (k.role d)) → ⊥) →
    BindsAt k kn name u d)
named_binding names xs w =
    binding_stays (sites_layout (named_sites names xs)) (sites_layout xs) (sites_names (named_sites names xs)) (sites_names xs) w (sites_stay names xs)
    (place_stays names xs)
