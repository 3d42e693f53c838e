-- The links of identifiers, one identifier after another: the declarations of each outer block, and for each name those in inner blocks.
use Rattle.std.proofs.Common.{rules, ℕ, ◌≡◌, ◌+◌, ◌<◌, inl, inr, List, [], ◌∷◌, ◌++◌, length, get_or, Option, Some, None, Bool, true, false, cond}
use Rattle.std.proofs.Common.{refl, sym, ◌∙◌, ap, subst, arith}
use Rattle.std.specs.Prelude.{◌↔◌}
use Rattle.std.proofs.Math.ListN.{set, replicate}
use Rattle.std.proofs.lemmas.Bool.{cases_order}
use Rattle.std.proofs.lemmas.List.{length-set, get_or-replicate, length-replicate}
use Rattle.indexmap.specs.IndexMap.{IndexMap, get}
use Rattle.go_scope.specs.contracts.outer_blocks.OuterNamePartialEq.TheImpl as equal
use Rattle.go_scope.specs.declared.links.Links.{Links}
use Rattle.go_scope.specs.declared.model.Block.{Block}
use Rattle.go_scope.specs.declared.model.Block.TheVariants.{Universe, Package, File, Inner}
use Rattle.go_scope.specs.declared.model.Identifier.{Identifier}
use Rattle.go_scope.specs.declared.outer_blocks.OuterBlock.{OuterBlock}
use Rattle.go_scope.specs.declared.outer_blocks.OuterBlock.TheVariants as outer
use Rattle.go_scope.specs.declared.outer_blocks.OuterName.{OuterName}
use Rattle.go_scope.specs.Bindings.{Layout, Names, block_of}
use Rattle.go_scope.specs.Leading.{IsLead, IsLeadInside, IsFirstIn}
use Rattle.go_scope.specs.Numbering.{number_at, numerals, AreBelow}
use Rattle.go_scope.specs.OpenBlocks.{IsLastOpen, AreLasts, AreOpenLinked, AreNameLinks, AreNearest, IsVisibleInside}
use Rattle.go_scope.specs.OuterBlocks.{block_in, outer_of, AreOuter}
use Rattle.go_scope.specs.Scopes.{Nests}
use Rattle.go_scope.specs.Table.{IsNearest, layout_of}
use Rattle.go_scope.proofs.Following.{over_later}
use Rattle.go_scope.proofs.Kept.{each_next, each_set, sized_next}
use Rattle.go_scope.proofs.Uniqueness.{same_or_not}

below : (e d : ℕ) → e < d + 1 → (e ≡ d → ⊥) → e < d
below e d lt other = elim (cases_order e d) [
  | inl same ↦ absurd (other same)
  | inr o ↦ elim o [ inl less ↦ less | inr more ↦ absurd (omega arith) ]
]

-- blocks

pub inner_if : (b : Block) → outer_of b ≡ None → Nests b Package
inner_if Universe e = let z : ⊥ = cc in absurd z
inner_if Package e = let z : ⊥ = cc in absurd z
inner_if (File f) e = let z : ⊥ = cc in absurd z
inner_if (Inner f a z) e = tt

pub block_back : (b : Block) (o : OuterBlock) → outer_of b ≡ Some o → block_in o ≡ b
block_back Universe o e = let same : outer.Universe ≡ o = cc in ap block_in (sym same)
block_back Package o e = let same : outer.Package ≡ o = cc in ap block_in (sym same)
block_back (File f) o e = let same : outer.File f ≡ o = cc in ap block_in (sym same)
block_back (Inner f a z) o e = let n : ⊥ = cc in absurd n

outer_not_inner : (o : OuterBlock) → Nests (block_in o) Package → ⊥
outer_not_inner outer.Universe n = n
outer_not_inner outer.Package n = n
outer_not_inner (outer.File f) n = n

pub outer_inner_not : (b : Block) (o : OuterBlock) → outer_of b ≡ Some o → Nests b Package → ⊥
outer_inner_not b o e n = let P : Block → Type 0 = λ c. Nests c Package in outer_not_inner o (subst P (sym (block_back b o e)) n)

same_outer : (o p : OuterBlock) → block_in o ≡ block_in p → o ≡ p
same_outer outer.Universe outer.Universe e = refl
same_outer outer.Universe outer.Package e = cc
same_outer outer.Universe (outer.File g) e = cc
same_outer outer.Package outer.Universe e = cc
same_outer outer.Package outer.Package e = refl
same_outer outer.Package (outer.File g) e = cc
same_outer (outer.File f) outer.Universe e = cc
same_outer (outer.File f) outer.Package e = cc
same_outer (outer.File f) (outer.File g) e = let same : f ≡ g = cc in ap outer.File same

-- the declarations in blocks that are no inner blocks

equal_fields : (x y : OuterName) → equal.ghosts.eq x y ≡ true ↔ ((x.name ≡ y.name) × (x.block ≡ y.block))
equal_fields x y = search rules

module _ (l : Layout) (names : Names) (d : ℕ) where
  -- the next identifier is not the first declaration of its name in a block
  first_kept : (name : List ℕ) (block : Block) (o : Option ℕ) → (IsLead l names d → names d ≡ name → block_of (l.role d) ≡ block → ⊥) →
      IsFirstIn l names name block d o → IsFirstIn l names name block (d + 1) o
  first_kept name block None other h = λ e lt leads named in_block. elim (same_or_not e d) [
    | inl same ↦
        let P : ℕ → Type 0 = λ v. IsLead l names v × (names v ≡ name) × (block_of (l.role v) ≡ block) in
        let here = subst P same (leads, named, in_block) in
        other here.0 here.1 here.2
    | inr not ↦ h e (below e d lt not) leads named in_block
  ]
  first_kept name block (Some e) other h = (let lt : e < d = h.0 in omega arith, h.1, h.2, h.3)

  first_by : (own key : OuterName) (b : Bool) (o : Option ℕ) → equal.ghosts.eq own key ≡ b → IsLead l names d → names d ≡ own.name ∷ [] →
      block_of (l.role d) ≡ block_in own.block → IsFirstIn l names (key.name ∷ []) (block_in key.block) d o →
      IsFirstIn l names (key.name ∷ []) (block_in key.block) (d + 1) (cond b (Some d) o)
  first_by own key true o e leads named in_block h =
      let s = (equal_fields own key).0 e in
      (omega arith, leads, named ∙ ap (λ n. n ∷ []) s.0, in_block ∙ ap block_in s.1)
  first_by own key false o e leads named in_block h =
      first_kept (key.name ∷ []) (block_in key.block) o
      (λ k n m.
      let name : own.name ≡ key.name = (let z : own.name ∷ [] ≡ key.name ∷ [] = sym named ∙ n in cc) in
      let block : own.block ≡ key.block = same_outer own.block key.block (sym in_block ∙ m) in
      let t : equal.ghosts.eq own key ≡ true = (equal_fields own key).1 (name, block) in
      let z : true ≡ false = sym t ∙ e in cc)
      h

  pub outer_with : {S : Type 0} (found after : IndexMap OuterName ℕ S) (own : OuterName) → IsLead l names d → names d ≡ own.name ∷ [] →
      block_of (l.role d) ≡ block_in own.block →
      ((key : OuterName) → get equal.ghosts.eq after key ≡ cond (equal.ghosts.eq own key) (Some d) (get equal.ghosts.eq found key)) →
      AreOuter l names d found → AreOuter l names (d + 1) after
  outer_with found after own leads named in_block up h key =
      let P : Option ℕ → Type 0 = λ o. IsFirstIn l names (key.name ∷ []) (block_in key.block) (d + 1) o in
      subst P (sym (up key)) (first_by own key (equal.ghosts.eq own key) (get equal.ghosts.eq found key) refl leads named in_block (h key))

  pub outer_without : {S : Type 0} (found : IndexMap OuterName ℕ S) → (IsLead l names d → Nests (block_of (l.role d)) Package) →
      AreOuter l names d found → AreOuter l names (d + 1) found
  outer_without found inner h key =
      first_kept (key.name ∷ []) (block_in key.block) (get equal.ghosts.eq found key)
      (λ k n m. let P : Block → Type 0 = λ b. Nests b Package in outer_not_inner key.block (subst P m (inner k)))
      (h key)

-- for each name its last declaration in an inner block

module _ (l : Layout) (size : ℕ) (names : Names) where
  pub lasts_set : (n : ℕ) (last : List (Option ℕ)) (name : ℕ) (o : Option ℕ) → name < size → IsLastOpen l size names (name ∷ []) n o →
      AreLasts l size names n last → AreLasts l size names n (set last name o)
  lasts_set n last name o lt here h =
      let sized : length last ≡ size = h.sized in
      record {
        sized = length-set last name o ∙ h.sized;
        each = each_set (λ k x. IsLastOpen l size names (k ∷ []) n x) last name o size (omega arith) here (λ k x lower other. h.each k x lower);
      }

  -- the next identifier is no declaration of a name in an inner block
  still_last : (d : ℕ) (name : List ℕ) (o : Option ℕ) → (IsLeadInside l names name d → ⊥) → IsLastOpen l size names name d o →
      IsLastOpen l size names name (d + 1) o
  still_last d name None other h = λ e lt k. elim (same_or_not e d) [
    | inl same ↦ (let P : ℕ → Type 0 = λ v. IsLeadInside l names name v in absurd (other (subst P same k)))
    | inr not ↦ over_later l size d (d + 1) e (omega arith) (h e (below e d lt not) k)
  ]
  still_last d name (Some b) other h = (
    (let lt : b < d = h.0 in omega arith),
    h.1,
    λ e above lt k. elim (same_or_not e d) [
      | inl same ↦ (let P : ℕ → Type 0 = λ v. IsLeadInside l names name v in absurd (other (subst P same k)))
      | inr not ↦ over_later l size d (d + 1) e (omega arith) (h.2 e above (below e d lt not) k)
    ],
  )

  pub lasts_without : (d : ℕ) (last : List (Option ℕ)) → (IsLead l names d → Nests (block_of (l.role d)) Package → ⊥) → AreLasts l size names d last →
      AreLasts l size names (d + 1) last
  lasts_without d last other h = record {
    sized = h.sized;
    each = λ name x lt. still_last d (name ∷ []) (get_or last name x) (λ k. other k.leads k.inner) (h.each name x lt);
  }

  pub lasts_with : (d name : ℕ) (last : List (Option ℕ)) → name < size → names d ≡ name ∷ [] → IsLead l names d → Nests (block_of (l.role d)) Package →
      AreLasts l size names d last → AreLasts l size names (d + 1) (set last name (Some d))
  lasts_with d name last lt named leads inner h =
      let sized : length last ≡ size = h.sized in
      record {
        sized = length-set last name (Some d) ∙ h.sized;
        each = each_set (λ k x. IsLastOpen l size names (k ∷ []) (d + 1) x) last name (Some d) size (omega arith)
            (omega arith, record { leads = leads; named = named; inner = inner }, λ e above lower k. absurd (omega arith))
            (λ k x lower other. still_last d (k ∷ []) (get_or last k x)
            (λ m. other (let z : name ∷ [] ≡ k ∷ [] = sym named ∙ m.named in cc)) (h.each k x lower));
      }

  pub linked_next : (d : ℕ) (around new : List (Option ℕ)) (next : Option ℕ) → new ≡ around ++ (next ∷ []) →
      (IsLeadInside l names (names d) d → IsLastOpen l size names (names d) d next) → AreOpenLinked l size names d around →
      AreOpenLinked l size names (d + 1) new
  linked_next d around new next e p h = record {
    sized = sized_next around new next d h.sized e;
    each = each_next (λ k x. IsLeadInside l names (names k) k → IsLastOpen l size names (names k) k x) around new next d h.sized e p h.each;
  }

  -- no identifiers

  pub lasts_none : (last : List (Option ℕ)) → last ≡ replicate size None → AreLasts l size names 0 last
  lasts_none last e =
      let P : List (Option ℕ) → Type 0 = λ xs. AreLasts l size names 0 xs in
      subst P (sym e) (record {
        sized = length-replicate size None;
        each = λ name x lt.
            let Q : Option ℕ → Type 0 = λ o. IsLastOpen l size names (name ∷ []) 0 o in
            subst Q (sym (get_or-replicate size name None x lt)) (λ k lower m. absurd (omega arith));
      })

  pub linked_none : (around : List (Option ℕ)) → around ≡ [] → AreOpenLinked l size names 0 around
  linked_none around e = record { sized = ap length e; each = λ d x lt k. absurd (omega arith) }

pub near_next : (l : Layout) (names : Names) (u : ℕ) (around new : List (Option ℕ)) (next : Option ℕ) → length around ≡ u → new ≡ around ++ (next ∷ []) →
    ((IsLead l names u → ⊥) → IsNearest l (IsVisibleInside l names (names u) u) next) → AreNearest l names u around → AreNearest l names (u + 1) new
near_next l names u around new next sized e p h =
    each_next (λ k x. (IsLead l names k → ⊥) → IsNearest l (IsVisibleInside l names (names k) k) x) around new next u sized e p h

pub near_none : (l : Layout) (names : Names) (around : List (Option ℕ)) → AreNearest l names 0 around
near_none l names around u x lt k = absurd (omega arith)

pub outer_none : {S : Type 0} (l : Layout) (names : Names) (found : IndexMap OuterName ℕ S) → ((key : OuterName) → get equal.ghosts.eq found key ≡ None) →
    AreOuter l names 0 found
outer_none l names found none key =
    let P : Option ℕ → Type 0 = λ o. IsFirstIn l names (key.name ∷ []) (block_in key.block) 0 o in
    subst P (sym (none key)) (λ e lt k n m. absurd (omega arith))

-- the links of identifiers

module _ (xs : List Identifier) (numbers : List ℕ) (n : ℕ) (links : Links) (h : AreNameLinks xs numbers n links) (numbered : AreBelow (length xs) numbers)
    (within : n < length xs) (i : ℕ) (is : i ≡ number_at numbers n) where
  pub last_within : i < length links.last.items
  last_within =
      let sized : length links.last.items ≡ length xs = h.lasts.sized in
      let below : number_at numbers n < length xs = numbered n within in
      omega arith

  pub last_opened : (o x : Option ℕ) → o ≡ get_or links.last.items i x → IsLastOpen (layout_of xs) (length xs) (numerals numbers) (numerals numbers n) n o
  last_opened o x e =
      let below : number_at numbers n < length xs = numbered n within in
      let P : ℕ → Type 0 = λ k. IsLastOpen (layout_of xs) (length xs) (numerals numbers) (numerals numbers n) n (get_or links.last.items k x) in
      let Q : Option ℕ → Type 0 = λ a. IsLastOpen (layout_of xs) (length xs) (numerals numbers) (numerals numbers n) n a in
      subst Q (sym e) (subst P (sym is) (h.lasts.each (number_at numbers n) x below))
