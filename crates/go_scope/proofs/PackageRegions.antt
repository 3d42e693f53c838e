-- The identifiers of a package have a well-formed layout, if the token indices of each file rise.
use Rattle.std.proofs.Common.{ℕ, ◌≡◌, ◌<◌, ◌≤◌, ◌⊎◌, List, [], ◌∷◌, ◌++◌, length, true, false, refl, sym, ◌∙◌, subst, arith, zero, suc, inl, inr}
use Rattle.std.specs.Prelude.{map, slice_get}
use Rattle.std.proofs.lemmas.List.Elements.{All-head, All-tail}
use Rattle.std.proofs.lemmas.Bool.{cases_order}
use Rattle.go_scope.specs.declared.model.Block.TheVariants.{Inner}
use Rattle.go_scope.specs.Bindings.{Layout, MayDeclare, start_of, is_left_name, may_declare}
use Rattle.go_scope.specs.WellFormed.{WellFormed, InBlockOrder, InBlock}
use Rattle.go_scope.specs.Site.{Site, TokenSpellings, or_blank, sites_layout}
use Rattle.go_scope.specs.FileSites.{SpelledFile, file_sites, files_sites, universe, universe_site, package_sites}
use Rattle.go_scope.specs.Trees.{IsNumbered, AreNumbered}
use Rattle.go_scope.proofs.Nests.{left_may}
use Rattle.go_scope.proofs.Regions.{Each, EachPair, each_append, each_map, pairs_append, pairs_of_each, inner_from, inner_to, inner_file, Flat, Framed}
use Rattle.go_scope.proofs.Regions.{Fits, Pair, Related, flat_first, flat_second}
use Rattle.go_scope.proofs.FileRegions.{file_fits}
use Rattle.go_scope.proofs.Rising.{Rises, rises_le, rises_of}
use Rattle.go_ast.specs.declared.syntax.Kind.TheVariants as kind
use Rattle.go_ast.specs.Flatten.{sign, all_tokens, imports_tokens, decl_tokens, flatten}
use Rattle.go_ast.specs.Tree.{FileTree}

-- a declaration of a file of this rank or a higher one
abbrev pub From : ℕ → Site → Type 0
From rank x = may_declare x.role ≡ true → Flat x ⊎ ((f : ℕ) × ((rank ≤ f) × Framed f x))

abbrev At : ℕ → Site → Type 0
At rank x = may_declare x.role ≡ true → Flat x ⊎ Framed rank x

at_of_fits : (f b n q : ℕ) (x : Site) → 0 < b → q ≤ b → Fits f 0 b n q x → At f x
at_of_fits f b n q x pos qb h m = elim (h m) [
  | inl flat ↦ inl flat
  | inr s ↦ elim s [
    | inl o ↦ inr (record {
      from = 0;
      to = b;
      block = o.block;
      not_empty = pos;
      low = o.above;
      high = omega (arith, o.high);
      stands = o.stands;
      left = λ left. (o.left left).0;
    })
    | inr i ↦ inr i.frame
  ]
]

apart_files : (f g : ℕ) (x y : Site) → f < g → Framed f x → Framed g y → Pair x y
apart_files f g x y lt sx sy = record {
  in_order = λ e. (let z : f ≡ g = inner_file f sx.from sx.to g sy.from sy.to (sym sx.block ∙ e ∙ sy.block) in absurd (omega arith));
  agree = λ h p q p' q' i j.
      let hf : h ≡ f = inner_file h p q f sx.from sx.to (sym i ∙ sx.block) in
      let hg : h ≡ g = inner_file h p' q' g sy.from sy.to (sym j ∙ sy.block) in
      absurd (omega arith);
}

file_first : (rank : ℕ) (x y : Site) → At rank x → From (suc rank) y → Related x y
file_first rank x y hx hy mx my = elim (hx mx) [
  | inl flat ↦ flat_first x y flat
  | inr sx ↦ elim (hy my) [
    | inl flat ↦ flat_second x y rank sx.from sx.to sx.block flat
    | inr sy ↦ apart_files rank sy.0 x y (let le : suc rank ≤ sy.0 = sy.1.0 in omega arith) sx sy.1.1
  ]
]

from_later : (rank : ℕ) (x : Site) → From (suc rank) x → From rank x
from_later rank x h m = elim (h m) [ inl flat ↦ inl flat | inr s ↦ inr (s.0, (omega (arith, s.1.0), s.1.1)) ]

from_at : (rank : ℕ) (x : Site) → At rank x → From rank x
from_at rank x h m = elim (h m) [ inl flat ↦ inl flat | inr s ↦ inr (rank, (omega arith, s)) ]

file_not_empty : (m : ℕ) (f : FileTree) → Rises 0 (flatten f) m → 0 < m
unfolding flatten
file_not_empty m f h =
    let le : suc f.keyword ≤ m = rises_le (suc f.keyword)
    (sign kind.Name f.name ∷ sign kind.Semicolon f.semicolon ∷ (all_tokens imports_tokens f.imports ++ all_tokens decl_tokens f.decls)) m h.1 in
    omega arith

files_agree : (rank : ℕ) (fs : List SpelledFile) → AreNumbered fs → Each (From rank) (files_sites rank fs) × EachPair Related (files_sites rank fs)
unfolding files_sites
files_agree rank [] w = (tt, tt)
files_agree rank (f ∷ fs) w =
    let s : TokenSpellings = record { rank = rank; spell = f.spell } in
    let one = All-head IsNumbered f fs w in
    let bound = rises_of 0 (flatten f.tree) one.rising in
    let here = file_fits s bound.0 f.tree one.grouped bound.1 in
    let pos : 0 < bound.0 = file_not_empty bound.0 f.tree bound.1 in
    let at = each_map (Fits rank 0 bound.0 0 bound.0) (At rank) (λ x. at_of_fits rank bound.0 0 bound.0 x pos (omega arith)) (file_sites s f.tree) here.0 in
    let rest = files_agree (suc rank) fs (All-tail IsNumbered f fs w) in (
      each_append (From rank) (file_sites s f.tree) (files_sites (suc rank) fs)
          (each_map (At rank) (From rank) (from_at rank) (file_sites s f.tree) at)
          (each_map (From (suc rank)) (From rank) (from_later rank) (files_sites (suc rank) fs) rest.0),
      pairs_append Related (At rank) (From (suc rank)) (file_first rank) (file_sites s f.tree) (files_sites (suc rank) fs) at rest.0 here.1 rest.1,
    )

flat_universe : (name : List ℕ) → Flat (universe_site name)
flat_universe name = record { apart = λ f a b e. cc; start = refl; not_left = λ e. cc }

universe_flat : (names : List (List ℕ)) → Each Flat (map universe_site names)
universe_flat [] = tt
universe_flat (x ∷ xs) = (flat_universe x, universe_flat xs)

pub package_agrees : (fs : List SpelledFile) → AreNumbered fs → Each (From 0) (package_sites fs) × EachPair Related (package_sites fs)
unfolding package_sites
package_agrees fs w =
    let names = map universe_site universe in
    let flat = universe_flat universe in
    let rest = files_agree 0 fs w in (
      each_append (From 0) names (files_sites 0 fs) (each_map Flat (From 0) (λ x h m. inl h) names flat) rest.0,
      pairs_append Related Flat (From 0) (λ x y h k mx my. flat_first x y h) names (files_sites 0 fs) flat rest.0
          (pairs_of_each Related Flat (λ x y h k mx my. flat_first x y h) names flat) rest.1,
    )

pub not_may : {A : Type 0} → false ≡ true → A
not_may e = cc

pub each_at : (P : Site → Type 0) → P (or_blank (slice_get [] 0)) → (xs : List Site) → Each P xs → (d : ℕ) → P (or_blank (slice_get xs d))
each_at P p [] a d = p
each_at P p (x ∷ xs) a zero = a.0
each_at P p (x ∷ xs) a (suc d) = each_at P p xs a.1 d

pair_at : (R : Site → Site → Type 0) → ((x : Site) → R x (or_blank (slice_get [] 0))) → ((y : Site) → R (or_blank (slice_get [] 0)) y) →
    (xs : List Site) → EachPair R xs →
    (d e : ℕ) → d < e → R (or_blank (slice_get xs d)) (or_blank (slice_get xs e))
pair_at R p q [] a d e h = q (or_blank (slice_get [] e))
pair_at R p q (x ∷ xs) a zero zero h = absurd (omega arith)
pair_at R p q (x ∷ xs) a zero (suc e) h = each_at (R x) (p x) xs a.0 e
pair_at R p q (x ∷ xs) a (suc d) zero h = absurd (omega arith)
pair_at R p q (x ∷ xs) a (suc d) (suc e) h = pair_at R p q xs a.1 d e (omega arith)

pub may_at : (xs : List Site) (d : ℕ) → may_declare (or_blank (slice_get xs d)).role ≡ true → d < length xs
may_at [] d m = cc
may_at (x ∷ xs) zero m = omega arith
may_at (x ∷ xs) (suc d) m = let less : d < length xs = may_at xs d m in omega arith

module _ (xs : List Site) (each : Each (From 0) xs) (pairs : EachPair Related xs) where
  abbrev at : ℕ → Site
  at d = or_blank (slice_get xs d)

  abbrev l : Layout
  l = sites_layout xs

  pub frame : (d f a b : ℕ) → MayDeclare l d → InBlock l d (Inner f a b) → (g : ℕ) × Framed g (at d)
  frame d f a b m e = elim (each_at (From 0) (λ w. not_may w) xs each d m) [
    | inl flat ↦ absurd (flat.apart f a b e)
    | inr s ↦ (s.0, s.1.1)
  ]

  left_frame : (x : ℕ) → is_left_name (at x).role ≡ true → (g : ℕ) × Framed g (at x)
  left_frame x left = elim (each_at (From 0) (λ w. not_may w) xs each x (left_may (l.role x) left)) [
    | inl flat ↦ absurd (flat.not_left left)
    | inr s ↦ (s.0, s.1.1)
  ]

  pair : (d e : ℕ) → d < e → MayDeclare l d → MayDeclare l e → Pair (at d) (at e)
  pair d e lt = pair_at Related (λ x mx m. not_may m) (λ y m. not_may m) xs pairs d e lt

  same_from : (d e g p q p' q' : ℕ) → d ≡ e → InBlock l d (Inner g p q) → InBlock l e (Inner g p' q') → p ≡ p'
  same_from d e g p q p' q' s hd he = let P : ℕ → Type 0 = λ v. InBlock l v (Inner g p q) in inner_from g p q g p' q' (sym (subst P s hd) ∙ he)

  same_to : (d e g p q p' q' : ℕ) → d ≡ e → InBlock l d (Inner g p q) → InBlock l e (Inner g p' q') → q ≡ q'
  same_to d e g p q p' q' s hd he = let P : ℕ → Type 0 = λ v. InBlock l v (Inner g p q) in inner_to g p q g p' q' (sym (subst P s hd) ∙ he)

  pub sites_well_formed : WellFormed l
  sites_well_formed = record {
    size = length xs;
    finite = may_at xs;
    starts = λ d g p q m e.
        let s = frame d g p q m e in
        let x : s.1.from ≡ p = inner_from s.0 s.1.from s.1.to g p q (sym s.1.block ∙ e) in
        let y : s.1.to ≡ q = inner_to s.0 s.1.from s.1.to g p q (sym s.1.block ∙ e) in
        let lo : s.1.from ≤ start_of (l.role d) = s.1.low in
        let hi : start_of (l.role d) ≤ s.1.to = s.1.high in
        (omega arith, omega arith);
    blocks = λ d e g p q p' q' md me hd he. elim (cases_order d e) [
      | inl s ↦ inr (inr (inr (same_from d e g p q p' q' s hd he, same_to d e g p q p' q' s hd he)))
      | inr o ↦ elim o [
        | inl lt ↦ ((pair d e lt md me).agree g p q p' q' hd he).blocks
        | inr gt ↦ elim ((pair e d gt me md).agree g p' q' p q he hd).blocks [
          | inl w ↦ inl (elim w [ inl v ↦ inr v | inr v ↦ inl v ])
          | inr w ↦ elim w [
            | inl v ↦ inr (inr (inl v))
            | inr w' ↦ elim w' [ inl v ↦ inr (inl v) | inr v ↦ inr (inr (inr (sym v.0, sym v.1))) ]
          ]
        ]
      ]
    ];
    begins_outside = λ d e g p q p' q' md me hd he lt le. elim (cases_order d e) [
      | inl s ↦ (let x : p ≡ p' = same_from d e g p q p' q' s hd he in absurd (omega arith))
      | inr o ↦ elim o [
        | inl less ↦ inr (((pair d e less md me).agree g p q p' q' hd he).second_outside lt le)
        | inr more ↦ inl (((pair e d more me md).agree g p' q' p q he hd).first_outside lt le)
      ]
    ];
    in_order = λ d e md me s lt. (pair d e lt md me).in_order s;
    left_inner = λ x left. let s = left_frame x left in (s.0, s.1.from, s.1.to, s.1.block, s.1.stands.0, s.1.left left);
    left_before = λ x left. (left_frame x left).1.stands.1;
    left_directly = λ x z g p q p' q' left mz hx hz lt le. elim (cases_order x z) [
      | inl s ↦ (let e : p ≡ p' = same_from x z g p q p' q' s hx hz in absurd (omega arith))
      | inr o ↦ elim o [
        | inl less ↦ ((pair x z less (left_may (l.role x) left) mz).agree g p q p' q' hx hz).first_directly left lt le
        | inr more ↦ ((pair z x more mz (left_may (l.role x) left)).agree g p' q' p q hz hx).second_directly left lt le
      ]
    ];
  }

  pub sites_follow_blocks : InBlockOrder l
  sites_follow_blocks = record {
    before = λ d e g p q p' q' lt md me hd he o i. ((pair d e lt md me).agree g p q p' q' hd he).first_outside o i;
    behind = λ d e g p q p' q' lt md me hd he o i. ((pair d e lt md me).agree g p q p' q' hd he).second_outside o i;
  }

pub package_well_formed : (fs : List SpelledFile) → AreNumbered fs → WellFormed (sites_layout (package_sites fs))
package_well_formed fs w = let h = package_agrees fs w in sites_well_formed (package_sites fs) h.0 h.1

pub package_follows_blocks : (fs : List SpelledFile) → AreNumbered fs → InBlockOrder (sites_layout (package_sites fs))
package_follows_blocks fs w = let h = package_agrees fs w in sites_follow_blocks (package_sites fs) h.0 h.1
