-- Reachability of numbers along links, and cycles.
use Rattle.std.proofs.Common.{Bool, not, ℕ, ◌≡◌, ◌+◌, ◌<◌, ◌≤◌, inl, inr, true, List, [], ◌∷◌, ◌++◌, length, get_or, refl, sym, ap, subst, ◌∙◌, arith}
use Rattle.std.specs.Prelude.{slice_get, ◌↔◌}
use Rattle.std.specs.Global.{Vec}
use Rattle.std.proofs.Math.ListN.{set}
use Rattle.std.proofs.lemmas.Bool.{cases_eq, cases_lt, false≢true, not-true}
use Rattle.std.proofs.lemmas.List.{get_or-set_same, get_or-set_other, length-set, get_or_append_left, get_or_push, length_push}
use Rattle.types_declared.specs.Reachability.{LinksTo, IsReachable, first, behind, links_from, AreLinksInRange}
use Rattle.types_declared.specs.Broken.{AddsLinks}
use Rattle.types_members.specs.Cycles.{IsOnCycle, LinksLeadTo, AreOrigins, IsReversed, AreAtMost, NeverRises, HasValueAmong, AreComponents}

-- Joining two ways

reached_then : (links : List (Vec ℕ)) (B C : ℕ → Type 0) (q : ℕ) → ((x : ℕ) → B x → IsReachable links C x) → IsReachable links B q → IsReachable links C q
reached_then links B C q to (first b) = to q b
reached_then links B C q to (behind {a = a} reached leads) = behind (reached_then links B C a to reached) leads

reaches_then : (links : List (Vec ℕ)) (a b c : ℕ) → LinksLeadTo links a b → LinksLeadTo links b c → LinksLeadTo links a c
reaches_then links a b c r s = reached_then links (λ q. q ≡ b) (λ q. q ≡ a) c (λ x e. subst (LinksLeadTo links a) (sym e) r) s

reaches_turned : (links back : List (Vec ℕ)) → ((a b : ℕ) → LinksTo back a b → LinksTo links b a) → (a q : ℕ) → LinksLeadTo back a q → LinksLeadTo links q a
reaches_turned links back turned a q (first e) = first (sym e)
reaches_turned links back turned a q (behind {a = m} reached leads) =
    reaches_then links q m a (behind (first refl) (turned m q leads)) (reaches_turned links back turned a m reached)

-- a way over a number that n links to, and back to n, is a cycle
cycle_over : (links : List (Vec ℕ)) (n q t : ℕ) → LinksTo links n q → LinksLeadTo links q t → LinksLeadTo links t n → IsOnCycle links n
cycle_over links n q t leads out home =
    reached_then links (λ x. x ≡ q) (LinksTo links n) n (λ x e. first (subst (LinksTo links n) (sym e) leads)) (reaches_then links q t n out home)

-- along links whose values don't rise, a number reached has no greater value than the first number linked to
fallen : (links : List (Vec ℕ)) (values : List ℕ) → NeverRises links values → (n q : ℕ) → IsReachable links (LinksTo links n) q →
    (b : ℕ) × (LinksTo links n b × (get_or values q 0 ≤ get_or values b 0))
fallen links values falls n q (first leads) = (q, (leads, omega arith))
fallen links values falls n q (behind {a = a} reached leads) =
    let above = fallen links values falls n a reached in
    (above.0, (above.1.0, omega (arith, falls a q leads, above.1.1)))

-- What the values of a number and of those that it links to say

pub clear_by_values : (links : List (Vec ℕ)) (values : List ℕ) (n : ℕ) → NeverRises links values →
    (HasValueAmong values (links_from (slice_get links n)) (get_or values n 0) → ⊥) → IsOnCycle links n → ⊥
clear_by_values links values n falls none cycle =
    let above = fallen links values falls n n cycle in
    none (above.0, (above.1.0, omega (arith, falls n above.0 above.1.0, above.1.1)))

pub shown_by_ends : (links : List (Vec ℕ)) (values : List ℕ) (falls : _) (origins ends : List ℕ) (n : ℕ) → AreLinksInRange links → n < length links →
    AreComponents links values falls origins ends →
    HasValueAmong ends (links_from (slice_get links n)) (get_or origins n 0) → IsOnCycle links n
shown_by_ends links values falls origins ends n linked within searches alike =
    let q : ℕ = alike.0 in
    let t : ℕ = get_or origins n 0 in
    cycle_over links n q t alike.1.0 (subst (LinksLeadTo links q) alike.1.1 (searches.end q (linked n q alike.1.0))) (searches.origin n within)

-- Origins

pub record OwnBelow (own : List ℕ) (count : ℕ) : Type 0 where
  pub size : length own ≡ count
  pub each : (q : ℕ) → q < count → get_or own q 0 ≡ q

pub own_none : (own : List ℕ) → own ≡ [] → OwnBelow own 0
own_none own e = record { size = ap length e; each = λ q lt. absurd (omega arith) }

pub own_next : (old new : List ℕ) (count : ℕ) → new ≡ old ++ (count ∷ []) → OwnBelow old count → OwnBelow new (count + 1)
own_next old new count e h =
    let len : length (old ++ (count ∷ [])) ≡ length old + 1 = length_push old count in
    record {
      size = ap length e ∙ len ∙ ap (λ n. n + 1) h.size;
      each = λ q lt. elim (cases_lt q count) [
        | inl below ↦ ap (λ xs. get_or xs q 0) e ∙ get_or_append_left old (count ∷ []) 0 q (omega (arith, h.size)) ∙ h.each q below
        | inr ge ↦ (let last : q ≡ count = omega arith in
            ap (λ xs. get_or xs q 0) e ∙ get_or_push old count 0 q (omega (arith, h.size)) ∙ sym last)
      ];
    }

pub origins_own : (links : List (Vec ℕ)) (own : List ℕ) → length own ≡ length links → ((q : ℕ) → q < length links → get_or own q 0 ≡ q) →
    AreOrigins links own
origins_own links own size each = record {
  size = size;
  each = λ q lt. first (sym (each q (subst (λ n. q < n) size lt)));
}

pub origins_next : (links : List (Vec ℕ)) (origins : List ℕ) (a b v : ℕ) → LinksTo links a b → a < length origins → b < length origins →
    v ≡ get_or origins a 0 → AreOrigins links origins → AreOrigins links (set origins b v)
origins_next links origins a b v leads from to is h = record {
  size = length-set origins b v ∙ h.size;
  each = λ q lt. elim (cases_eq q b) [
    | inl same ↦ (
        let here : get_or (set origins b v) q 0 ≡ v = ap (λ x. get_or (set origins b v) x 0) same ∙ get_or-set_same origins b v 0 to in
        let way : LinksLeadTo links v b = behind (subst (λ x. LinksLeadTo links x a) (sym is) (h.each a from)) leads in
        subst (λ x. LinksLeadTo links x q) (sym here) (subst (LinksLeadTo links v) (sym same) way))
    | inr other ↦ subst (λ x. LinksLeadTo links x q) (sym (get_or-set_other origins b q v 0 other))
        (h.each q (subst (λ n. q < n) (length-set origins b v) lt))
  ];
}

-- Reversed links, before a loop's index

pub turned_none : (links back : List (Vec ℕ)) → length back ≡ length links + 1 → ((a b : ℕ) → LinksTo back a b → ⊥) → IsReversed links back
turned_none links back size none = record { size = omega arith; only = λ a b l. absurd (none a b l) }

pub turned_next : (links old new : List (Vec ℕ)) (from to : ℕ) → LinksTo links from to → AddsLinks old new from (λ a. a ≡ to) → IsReversed links old →
    IsReversed links new
turned_next links old new from to leads more h = record {
  size = more.size ∙ h.size;
  only = λ a b l. elim (more.only a b l) [
    | inl k ↦ h.only a b k
    | inr k ↦ subst (λ x. LinksTo links x a) (sym k.0) (subst (LinksTo links from) (sym k.1) leads)
  ];
}

-- Components

pub searches : (links back : List (Vec ℕ)) (values origins ends : List ℕ) (falls : _) → (falls ≡ true → NeverRises links values) → IsReversed links back →
    AreOrigins links origins → AreOrigins back ends → AreComponents links values falls origins ends
searches links back values origins ends falls falling turned from to = record {
  falling = falling;
  origin = λ q lt. from.each q (subst (λ n. q < n) (sym from.size) lt);
  end = λ q lt. reaches_turned links back turned.only (get_or ends q 0) q (to.each q (omega (arith, to.size, turned.size)));
}

-- Values along links, before a loop's index

abbrev pub FallsBelow : List (Vec ℕ) → List ℕ → ℕ → Type 0
FallsBelow links values count = (q : ℕ) → q < count → AreAtMost values (links_from (slice_get links q)) (get_or values q 0)

-- What tests of values say

alike_as : (vs ws xs ys : List ℕ) (v w : ℕ) → vs ≡ ws → xs ≡ ys → v ≡ w → HasValueAmong vs xs v → HasValueAmong ws ys w
alike_as vs ws xs ys v w e f g h = subst (HasValueAmong ws ys) g (subst (λ z. HasValueAmong ws z v) f (subst (λ z. HasValueAmong z xs v) e h))

pub clear_by_test : (links : List (Vec ℕ)) (values vs ws row : List ℕ) (n v : ℕ) (b : Bool) → vs ≡ values → ws ≡ values →
    row ≡ links_from (slice_get links n) → v ≡ get_or vs n 0 → NeverRises links values → (b ≡ true) ↔ HasValueAmong ws row v → not b ≡ true →
    IsOnCycle links n → ⊥
clear_by_test links values vs ws row n v b ev ew er is falls test t =
    let own : get_or values n 0 ≡ v = sym (is ∙ ap (λ xs. get_or xs n 0) ev) in
    clear_by_values links values n falls
    (λ h. false≢true (sym (not-true b t) ∙ test.1 (alike_as values ws (links_from (slice_get links n)) row (get_or values n 0) v (sym ew) (sym er) own h)))

pub shown_by_test : (links : List (Vec ℕ)) (values origins ends os es row : List ℕ) (falls b : Bool) (n v : ℕ) → AreLinksInRange links →
    n < length links → AreComponents links values falls origins ends → os ≡ origins → es ≡ ends → row ≡ links_from (slice_get links n) →
    v ≡ get_or os n 0 → (b ≡ true) ↔ HasValueAmong es row v → b ≡ true → IsOnCycle links n
shown_by_test links values origins ends os es row falls b n v linked within searches eo ee er is test t =
    shown_by_ends links values falls origins ends n linked within searches
    (alike_as es ends row (links_from (slice_get links n)) v (get_or origins n 0) ee er (is ∙ ap (λ xs. get_or xs n 0) eo) (test.0 t))
