-- The definitions that a definition contains directly, and the cycles among them.
use Rattle.std.proofs.Common.{ℕ, ◌≡◌, ◌+◌, ◌<◌, ◌⊎◌, inl, inr, Bool, List, [], ◌∷◌, ◌++◌, length, ap, sym, subst, refl, ◌∙◌, arith}
use Rattle.std.specs.Prelude.{Option, Some, None, slice_get, MatchOption, Contains, ◌↔◌}
use Rattle.std.specs.Global.{Vec}
use Rattle.std.proofs.lemmas.Bool.{cases_lt, cases_order}
use Rattle.std.proofs.lemmas.List.{length_push}
use Rattle.std.proofs.lemmas.List.Elements.{Contains-append_left, Contains-push, Contains-push_cases}
use Rattle.std.proofs.lemmas.Option.{same_Some, slice_get_within, slice_get_past}
use Rattle.go_ast.specs.Tree.{TypeTree, Local, Imported, Pointer, Slice}
use Rattle.types_declared.specs.Package.{Package, PlacedType, package_types}
use Rattle.types_declared.specs.Written.{BindsToken, Mentions, by_name, contained_types}
use Rattle.types_declared.specs.WrittenView.{IsMentionedBy}
use Rattle.types_members.specs.MemberFaults.{ContainsDirectly, ContainsType, directly, through}
use Rattle.types_declared.specs.Reachability.{links_from, LinksTo, AreLinksInRange, HasMark, IsReachable, first, behind}
use Rattle.types_members.specs.Recursion.{AddsItems, IsBareName, HasBareName, AreContained, AreRecursive}
use Rattle.types_members.specs.Cycles.{IsOnCycle}
use Rattle.types_members.proofs.Owning.{bound_definition}
use Rattle.types_declared.proofs.DeclaredPaths.{get_before, get_last}

-- The definition that a type expression is an unqualified name of

abbrev name_or : ℕ → TypeTree → ℕ
name_or n (Local m) = m
name_or n t = n

held_mentions : (p : Package) (file n r : ℕ) → IsBareName p file (Local n) r → Mentions p file (Local n) r
held_mentions p file n r h = by_name {d = h.declaration} (subst (λ x. BindsToken p file x h.declaration) (sym (ap (name_or n) h.is_name)) h.binds) h.names

mentions_held : (p : Package) (file n r : ℕ) → Mentions p file (Local n) r → IsBareName p file (Local n) r
mentions_held p file n r m = let at = bound_definition p file n r m in record { name = n; is_name = refl; declaration = at.0; binds = at.1.0; names = at.1.1 }

abbrev pub IsOneHeld : Package → ℕ → TypeTree → Option ℕ → Type 0
IsOneHeld p file t o = MatchOption o ((r : ℕ) → IsBareName p file t r → ⊥) (λ r. IsBareName p file t r × ((other : ℕ) → IsBareName p file t other → other ≡ r))

pub held_by_name : (p : Package) (file n : ℕ) (o : Option ℕ) → IsMentionedBy p file (Local n) o → IsOneHeld p file (Local n) o
held_by_name p file n None h = λ r k. h r (held_mentions p file n r k)
held_by_name p file n (Some r) h = (mentions_held p file n r h.0, λ other k. h.1 other (held_mentions p file n other k))

pub no_import_held : (p : Package) (file q d n r : ℕ) → IsBareName p file (Imported q d n) r → ⊥
no_import_held p file q d n r h = let e = h.is_name in let z : ⊥ = cc in z

pub no_pointer_held : (p : Package) (file s r : ℕ) (t : TypeTree) → IsBareName p file (Pointer s t) r → ⊥
no_pointer_held p file s r t h = let e = h.is_name in let z : ⊥ = cc in z

pub no_slice_held : (p : Package) (file o c r : ℕ) (t : TypeTree) → IsBareName p file (Slice o c t) r → ⊥
no_slice_held p file o c r t h = let e = h.is_name in let z : ⊥ = cc in z

-- Added items

pub items_none : (a : List ℕ) (P : ℕ → Type 0) → ((q : ℕ) → P q → ⊥) → AddsItems a a P
items_none a P none = record { keeps = λ q h. h; holds = λ q h. absurd (none q h); only = λ q h. inl h }

pub items_as : (a b : List ℕ) (P Q : ℕ → Type 0) → ((q : ℕ) → P q → Q q) → ((q : ℕ) → Q q → P q) → AddsItems a b P → AddsItems a b Q
items_as a b P Q to from h = record {
  keeps = h.keeps;
  holds = λ q k. h.holds q (from q k);
  only = λ q k. elim (h.only q k) [ inl o ↦ inl o | inr n ↦ inr (to q n) ];
}

pub items_then : (a b c : List ℕ) (P Q R : ℕ → Type 0) → AddsItems a b P → AddsItems b c Q → ((q : ℕ) → P q ⊎ Q q → R q) → ((q : ℕ) → R q → P q ⊎ Q q) →
    AddsItems a c R
items_then a b c P Q R h k to from = record {
  keeps = λ q x. k.keeps q (h.keeps q x);
  holds = λ q x. elim (from q x) [ inl y ↦ k.keeps q (h.holds q y) | inr y ↦ k.holds q y ];
  only = λ q x. elim (k.only q x) [ inl y ↦ elim (h.only q y) [ inl o ↦ inl o | inr n ↦ inr (to q (inl n)) ] | inr y ↦ inr (to q (inr y)) ];
}

pub items_one : (a b : List ℕ) (x : ℕ) (P : ℕ → Type 0) → b ≡ a ++ (x ∷ []) → P x → ((q : ℕ) → P q → q ≡ x) → AddsItems a b P
items_one a b x P e is only = record {
  keeps = λ q h. subst (λ xs. Contains xs q) (sym e) (Contains-append_left a (x ∷ []) q h);
  holds = λ q h. subst (λ xs. Contains xs q) (sym e) (subst (Contains (a ++ (x ∷ []))) (sym (only q h)) (Contains-push a x));
  only = λ q h. elim (Contains-push_cases a x q (subst (λ xs. Contains xs q) e h)) [ inl o ↦ inl o | inr same ↦ inr (subst P same is) ];
}

no_item : (b : ℕ) → Contains [] b → ⊥
no_item b c = let lt : c.0 < 0 = c.1 in absurd (omega arith)

pub items_all : (a b : List ℕ) (P : ℕ → Type 0) → a ≡ [] → AddsItems a b P → (q : ℕ) → Contains b q ↔ P q
items_all a b P e h q = (
  (λ k. elim (h.only q k) [ inl o ↦ absurd (no_item q (subst (λ xs. Contains xs q) e o)) | inr n ↦ n ]),
  (λ k. h.holds q k),
)

-- One of some type expressions

pub one_of_none : (p : Package) (file r : ℕ) → HasBareName p file [] r → ⊥
one_of_none p file r h = let lt : h.1.0.0 < 0 = h.1.0.1 in absurd (omega arith)

pub one_push : (p : Package) (file : ℕ) (ts us : List TypeTree) (t : TypeTree) (r : ℕ) → us ≡ ts ++ (t ∷ []) → HasBareName p file ts r ⊎
    IsBareName p file t r → HasBareName p file us r
one_push p file ts us t r e h = elim h [
  | inl s ↦ (s.0, (subst (λ xs. Contains xs s.0) (sym e) (Contains-append_left ts (t ∷ []) s.0 s.1.0), s.1.1))
  | inr is ↦ (t, (subst (λ xs. Contains xs t) (sym e) (Contains-push ts t), is))
]

pub one_cases : (p : Package) (file : ℕ) (ts us : List TypeTree) (t : TypeTree) (r : ℕ) → us ≡ ts ++ (t ∷ []) → HasBareName p file us r →
    HasBareName p file ts r ⊎ IsBareName p file t r
one_cases p file ts us t r e s = elim (Contains-push_cases ts t s.0 (subst (λ xs. Contains xs s.0) e s.1.0)) [
  | inl old ↦ inl (s.0, (old, s.1.1))
  | inr same ↦ inr (subst (λ x. IsBareName p file x r) (sym same) s.1.1)
]

pub one_alone : (p : Package) (file : ℕ) (t : TypeTree) (r : ℕ) → HasBareName p file (t ∷ []) r → IsBareName p file t r
one_alone p file t r s = elim (one_cases p file [] (t ∷ []) t r refl s) [ inl none ↦ absurd (one_of_none p file r none) | inr is ↦ is ]

pub alone_one : (p : Package) (file : ℕ) (t : TypeTree) (r : ℕ) → IsBareName p file t r → HasBareName p file (t ∷ []) r
alone_one p file t r is = one_push p file [] (t ∷ []) t r refl (inr is)

-- The definitions that the definition of a rank contains

direct_from : (p : Package) (a b : ℕ) (d : PlacedType) → slice_get (package_types p) a ≡ Some d → HasBareName p d.file (contained_types d.spec.body) b →
    ContainsDirectly p a b
direct_from p a b d e h = record {
  definition = d;
  has_rank = e;
  name = h.1.1.name;
  written = subst (Contains (contained_types d.spec.body)) h.1.1.is_name h.1.0;
  declaration = h.1.1.declaration;
  binds = h.1.1.binds;
  names = h.1.1.names;
}

direct_to : (p : Package) (a b : ℕ) (d : PlacedType) → slice_get (package_types p) a ≡ Some d → ContainsDirectly p a b →
    HasBareName p d.file (contained_types d.spec.body) b
direct_to p a b d e h =
    let same : h.definition ≡ d = same_Some h.definition d (sym h.has_rank ∙ e) in
    subst (λ x. HasBareName p x.file (contained_types x.spec.body) b) same
    (Local h.name, (h.written, record { name = h.name; is_name = refl; declaration = h.declaration; binds = h.binds; names = h.names }))

-- the links lead exactly from each definition below count to those that it contains directly
pub record HeldBelow (p : Package) (links : List (Vec ℕ)) (count : ℕ) : Type 0 where
  pub size : length links ≡ count
  pub holds : (a b : ℕ) → a < count → ContainsDirectly p a b → LinksTo links a b
  pub only : (a b : ℕ) → LinksTo links a b → ContainsDirectly p a b

no_lead : (a b : ℕ) → LinksTo [] a b → ⊥
no_lead a b l = no_item b (subst (λ o. Contains (links_from o) b) (slice_get_past [] a (omega arith)) l)

pub held_none : (p : Package) (links : List (Vec ℕ)) → links ≡ [] → HeldBelow p links 0
held_none p links e = record {
  size = ap length e;
  holds = λ a b lt h. absurd (omega arith);
  only = λ a b l.
      absurd (no_lead a b (subst (λ ls. LinksTo ls a b) e l));
}

pub held_next : (p : Package) (old new : List (Vec ℕ)) (count : ℕ) (row : Vec ℕ) (d : PlacedType) → new ≡ old ++ (row ∷ []) →
    slice_get (package_types p) count ≡ Some d →
    ((r : ℕ) → Contains row.items r ↔ HasBareName p d.file (contained_types d.spec.body) r) → HeldBelow p old count → HeldBelow p new (count + 1)
held_next p old new count row d e is each h =
    let len : length (old ++ (row ∷ [])) ≡ length old + 1 = length_push old row in
    let before : (a : ℕ) → a < count → slice_get new a ≡ slice_get old a = λ a lt. ap (λ ls. slice_get ls a) e ∙
    get_before old row a (subst (λ n. a < n) (sym h.size) lt) in
    let last : slice_get new count ≡ Some row = ap (λ ls. slice_get ls count) e ∙ ap (slice_get (old ++ (row ∷ []))) (sym h.size) ∙ get_last old row in
    record {
      size = ap length e ∙ len ∙ ap (λ n. n + 1) h.size;
      holds = λ a b lt k. elim (cases_lt a count) [
        | inl below ↦ subst (λ o. Contains (links_from o) b) (sym (before a below)) (h.holds a b below k)
        | inr ge ↦ (
            let same : a ≡ count = omega arith in
            let there : LinksTo new count b = subst (λ o. Contains (links_from o) b) (sym last)
            ((each b).1 (direct_to p count b d is (subst (λ x. ContainsDirectly p x b) same k))) in
            subst (λ x. LinksTo new x b) (sym same) there)
      ];
      only = λ a b l. elim (cases_order a count) [
        | inl same ↦ (
            let there : Contains row.items b = subst (λ o. Contains (links_from o) b) last (subst (λ x. LinksTo new x b) same l) in
            subst (λ x. ContainsDirectly p x b) (sym same) (direct_from p count b d is ((each b).0 there)))
        | inr o ↦ elim o [
          | inl below ↦ h.only a b (subst (λ o. Contains (links_from o) b) (before a below) l)
          | inr above ↦ (
              let size : length new ≡ count + 1 = ap length e ∙ len ∙ ap (λ n. n + 1) h.size in
              absurd (no_item b (subst (λ o. Contains (links_from o) b) (slice_get_past new a (omega arith)) l)))
        ]
      ];
    }

pub held_all : (p : Package) (links : List (Vec ℕ)) (count : ℕ) → count ≡ length (package_types p) → HeldBelow p links count → AreContained p links
held_all p links count e h = record {
  size = h.size ∙ e;
  each = λ a b. (
    h.only a b,
    (λ k. h.holds a b (let lt : a < length (package_types p) = slice_get_within (package_types p) a k.definition k.has_rank in
        omega arith) k),
  );
}

pub held_linked : (p : Package) (links : List (Vec ℕ)) → AreContained p links → AreLinksInRange links
held_linked p links h a b l =
    let k = (h.each a b).0 l in
    let lt : b < length (package_types p) = slice_get_within (package_types p) b k.names.item k.names.has_rank in
    omega (arith, h.size)

-- Cycles

holds_then : (p : Package) (a b c : ℕ) → ContainsType p a b → ContainsDirectly p b c → ContainsType p a c
holds_then p a b c (directly h) k = through h (directly k)
holds_then p a b c (through {b = m} h rest) k = through h (holds_then p m b c rest k)

reached_holds : (p : Package) (links : List (Vec ℕ)) (r q : ℕ) → AreContained p links → IsReachable links (LinksTo links r) q → ContainsType p r q
reached_holds p links r q h (first b) = directly ((h.each r q).0 b)
reached_holds p links r q h (behind {a = a} reached leads) = holds_then p r a q (reached_holds p links r a h reached) ((h.each a q).0 leads)

holds_reached : (p : Package) (links : List (Vec ℕ)) (B : ℕ → Type 0) (a q : ℕ) → AreContained p links → ((x : ℕ) → LinksTo links a x → IsReachable links B x) →
    ContainsType p a q → IsReachable links B q
holds_reached p links B a q h from (directly k) = from q ((h.each a q).1 k)
holds_reached p links B a q h from (through {b = b} k rest) = holds_reached p links B b q h (λ x l. behind (from b ((h.each a b).1 k)) l) rest

pub are_recursive : (p : Package) (links : List (Vec ℕ)) (marks : List Bool) → AreContained p links → length marks ≡ length links →
    ((q : ℕ) → q < length links → HasMark marks q ↔ IsOnCycle links q) → AreRecursive p marks
are_recursive p links marks h size each = record {
  all = size ∙ h.size;
  each = λ r lt.
      let at = each r (subst (λ n. r < n) (sym h.size) lt) in
      ((λ m. reached_holds p links r r h (at.0 m)), (λ k. at.1 (holds_reached p links (LinksTo links r) r r h (λ x l. first l) k)));
}
