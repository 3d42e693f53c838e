-- Broken definitions are those reached along links from type expressions that name no type.
use Rattle.std.proofs.Common.{ℕ, zero, suc, ◌≡◌, ◌+◌, ◌<◌, ◌≤◌, ◌⊎◌, inl, inr, Bool, true, false, List, [], ◌∷◌, ◌++◌, length, get_or, ap, sym, subst, refl}
use Rattle.std.proofs.Common.{◌∙◌, arith}
use Rattle.std.specs.Prelude.{Option, Some, None, slice_get, map, Contains, ◌↔◌}
use Rattle.std.specs.Global.{Vec}
use Rattle.std.proofs.Math.ListN.{replicate, length-map}
use Rattle.std.proofs.lemmas.Bool.{cases_lt, cases_eq, false≢true}
use Rattle.std.proofs.lemmas.List.{get_or-replicate, get_or_append_left, get_or_push, length-replicate, get_or_past, length_push}
use Rattle.std.proofs.lemmas.Option.{slice_get_within}
use Rattle.types_declared.specs.declared.declared.TypeDef.{TypeDef}
use Rattle.types_declared.specs.DeclaredView.{type_of}
use Rattle.types_declared.specs.Package.{Package, PlacedType, package_types}
use Rattle.types_declared.specs.Written.{IsWrittenIn, IsBroken, by_itself, through, written_types}
use Rattle.types_declared.specs.Reachability.{LinksTo, HasMark, IsReachable, first, behind, AreLinksInRange}
use Rattle.types_declared.specs.Broken.{IsTarget, nothing, definition, IsTargetOfSome, IsTargetIn, AreMentions, AreBroken, AddsLinks}
use Rattle.types_declared.proofs.Mentioning.{mention_within}

-- The definition of a rank

type_or : PlacedType → Option PlacedType → PlacedType
type_or d None = d
type_or d (Some x) = x

same_type : (d e : PlacedType) → Some d ≡ Some e → d ≡ e
unfolding type_or
same_type d e h = ap (type_or d) h

target_in : (p : Package) (rank a : ℕ) (d : PlacedType) → slice_get (package_types p) rank ≡ Some d →
    IsTargetOfSome p d.file (written_types d.spec.body) a → IsTargetIn p rank a
target_in p rank a d e s = record {
  file = d.file;
  tree = s.0;
  written = record { definition = d; has_rank = e; in_file = refl; written = s.1.0 };
  target =
      s.1.1;
}

target_of : (p : Package) (rank a : ℕ) (d : PlacedType) → slice_get (package_types p) rank ≡ Some d → IsTargetIn p rank a →
    IsTargetOfSome p d.file (written_types d.spec.body) a
target_of p rank a d e t =
    let same : t.written.definition ≡ d = same_type t.written.definition d (sym t.written.has_rank ∙ e) in
    subst (λ x. IsTargetOfSome p x.file (written_types x.spec.body) a) same
    (t.tree, (t.written.written, subst (λ f. IsTarget p f t.tree a) (sym t.written.in_file) t.target))

pub definition_count : (p : Package) (items : List TypeDef) → map type_of items ≡ package_types p → length items ≡ length (package_types p)
definition_count p items e = sym (length-map items type_of) ∙ ap length e

-- the links lead exactly from each target to the definitions below count that contain a type expression with this target
pub record MentionsBelow (p : Package) (links : List (Vec ℕ)) (count : ℕ) : Type 0 where
  pub size : length links ≡ suc (length (package_types p))
  pub holds : (a b : ℕ) → b < count → IsTargetIn p b a → LinksTo links a b
  pub only : (a b : ℕ) → LinksTo links a b → IsTargetIn p b a

pub none_below : (p : Package) (links : List (Vec ℕ)) → length links ≡ suc (length (package_types p)) → ((a b : ℕ) → LinksTo links a b → ⊥) →
    MentionsBelow p links 0
none_below p links size none = record { size = size; holds = λ a b lt t. absurd (omega arith); only = λ a b l. absurd (none a b l) }

pub one_more : (p : Package) (old new : List (Vec ℕ)) (rank : ℕ) (d : PlacedType) → slice_get (package_types p) rank ≡ Some d →
    AddsLinks old new rank (IsTargetOfSome p d.file (written_types d.spec.body)) →
    MentionsBelow p old rank → MentionsBelow p new (rank + 1)
one_more p old new rank d e more h = record {
  size = more.size ∙ h.size;
  holds = λ a b lt t. elim (cases_lt b rank) [
    | inl below ↦ more.keeps a b (h.holds a b below t)
    | inr ge ↦ let same : b ≡ rank = omega arith in
        subst (λ x. LinksTo new a x) (sym same) (more.holds a (target_of p rank a d e (subst (λ x. IsTargetIn p x a) same t)))
  ];
  only = λ a b l. elim (more.only a b l) [ inl k ↦ h.only a b k | inr k ↦ subst (λ x. IsTargetIn p x a) (sym k.0) (target_in p rank a d e k.1) ];
}

written_within : (p : Package) (b a : ℕ) → IsTargetIn p b a → b < length (package_types p)
written_within p b a t = slice_get_within (package_types p) b t.written.definition t.written.has_rank

pub all_mentions : (p : Package) (links : List (Vec ℕ)) (count : ℕ) → count ≡ length (package_types p) → MentionsBelow p links count → AreMentions p links
all_mentions p links count e h = record {
  size = h.size;
  holds = λ a b t. h.holds a b (let lt : b < length (package_types p) = written_within p b a t in omega arith) t;
  only = h.only;
}

pub are_linked : (p : Package) (links : List (Vec ℕ)) → AreMentions p links → AreLinksInRange links
are_linked p links m a b l = let lt : b < length (package_types p) = written_within p b a (m.only a b l) in omega (arith, m.size)

-- The numbers from which the search begins

begins_at : (n : ℕ) (begins : List Bool) → begins ≡ replicate n false ++ (true ∷ []) → HasMark begins n
begins_at n begins e = ap (λ bs. get_or bs n false) e ∙ get_or_push (replicate n false) true false n (length-replicate n false)

begins_only : (n : ℕ) (begins : List Bool) (q : ℕ) → begins ≡ replicate n false ++ (true ∷ []) → HasMark begins q → q ≡ n
begins_only n begins q e m = elim (cases_eq q n) [
  | inl same ↦ same
  | inr ne ↦ elim (cases_lt q n) [
    | inl below ↦ (let none : get_or begins q false ≡ false = ap (λ bs. get_or bs q false) e ∙
        get_or_append_left (replicate n false) (true ∷ []) false q (subst (λ k. q < k) (sym (length-replicate n false)) below) ∙
        get_or-replicate n q false false below in
        absurd (false≢true (sym none ∙ m)))
    | inr ge ↦ (let len : length (replicate n false ++ (true ∷ [])) ≡ length (replicate n false) + 1 = length_push (replicate n false) true in
        let size : length (replicate n false) ≡ n = length-replicate n false in
        let past : length begins ≤ q = let z : length begins ≡ length (replicate n false ++ (true ∷ [])) = ap length e in omega (arith, ne) in
        absurd (false≢true (sym (get_or_past begins q false past) ∙ m)))
  ]
]

-- A definition is reached exactly where it is broken

broken_behind : (p : Package) (b : ℕ) (file a : ℕ) (tree : _) → IsWrittenIn p b file tree → IsTarget p file tree a → (a ≡ length (package_types p)) ⊎
    IsBroken p a → IsBroken p b
broken_behind p b file _ tree w (nothing none) h = by_itself w none
broken_behind p b file a tree w (definition m) h = elim h [
  | inl e ↦ (let lt : a < length (package_types p) = mention_within p file tree a m in absurd (omega arith))
  | inr broken ↦ through w m broken
]

reached_broken : (p : Package) (links : List (Vec ℕ)) (Begins : ℕ → Type 0) → AreMentions p links → ((q : ℕ) → Begins q → q ≡ length (package_types p)) →
    (q : ℕ) → IsReachable links Begins q →
    (q ≡ length (package_types p)) ⊎ IsBroken p q
reached_broken p links Begins m only q (first b) = inl (only q b)
reached_broken p links Begins m only q (behind {a} r leads) =
    let t = m.only a q leads in inr (broken_behind p q t.file a t.tree t.written t.target (reached_broken p links Begins m only a r))

broken_reached : (p : Package) (links : List (Vec ℕ)) (Begins : ℕ → Type 0) → AreMentions p links → Begins (length (package_types p)) → (r : ℕ) →
    IsBroken p r → IsReachable links Begins r
broken_reached p links Begins m begins r (by_itself {file = file} {t = t} w none) =
    behind (first begins) (m.holds (length (package_types p)) r (record { file = file; tree = t; written = w; target = nothing none }))
broken_reached p links Begins m begins r (through {file = file} {other = other} {t = t} w mentions broken) =
    behind (broken_reached p links Begins m begins other broken) (m.holds other r (record { file = file; tree = t; written = w; target = definition mentions }))

pub are_broken : (p : Package) (links : List (Vec ℕ)) (begins marks : List Bool) (n : ℕ) → n ≡ length (package_types p) → AreMentions p links →
    begins ≡ replicate n false ++ (true ∷ []) → length marks ≡ length links →
    ((q : ℕ) → HasMark marks q ↔ IsReachable links (HasMark begins) q) → AreBroken p marks
are_broken p links begins marks n e m is size h = record {
  all = omega (arith, m.size);
  each = λ r lt. (
    λ k. elim (reached_broken p links (HasMark begins) m (λ q b. begins_only n begins q is b ∙ e) r ((h r).0 k))
        [ inl same ↦ absurd (omega arith) | inr broken ↦ broken ],
    λ b. (h r).1 (broken_reached p links (HasMark begins) m (subst (HasMark begins) e (begins_at n begins is)) r b),
  );
}

-- An empty row adds no link

no_item : (b : ℕ) → Contains [] b → ⊥
no_item b c = let lt : c.0 < 0 = c.1 in absurd (omega arith)

pub no_leads : (links : List (Vec ℕ)) (row : Vec ℕ) → row.items ≡ [] → ((a b : ℕ) → LinksTo links a b → ⊥) → (a b : ℕ) → LinksTo (links ++ (row ∷ [])) a b → ⊥
no_leads [] row e none zero b l = no_item b (subst (λ xs. Contains xs b) e l)
no_leads [] row e none (suc a) b l = no_item b l
no_leads (r ∷ rs) row e none zero b l = none zero b l
no_leads (r ∷ rs) row e none (suc a) b l = no_leads rs row e (λ x y k. none (suc x) y k) a b l
