-- The tokens of a text in which a name is put before a string literal: each old one stays as it is or moves, and the name is the one that is new.
use Rattle.std.proofs.Common.{ℕ, zero, suc, ◌≡◌, ◌<◌, ◌≤◌, ◌⊎◌, inl, inr, List, [], ◌∷◌, ◌++◌, Option, Some, None, length, map, refl, sym, ap, ◌∙◌, subst}
use Rattle.std.specs.Prelude.{option_map, slice_get}
use Rattle.std.specs.List.{AllByRecursion}
use Rattle.std.specs.List.Sorted.{IsStrictlySortedBy}
use Rattle.std.specs.Ordering.{nat_cmp}
use Rattle.std.specs.declared.cmp.Ordering.TheVariants.{Less}
use Rattle.std.proofs.lemmas.Cmp.{ranked}
use Rattle.std.proofs.lemmas.Option.{none-some, same_Some, slice_get-map}
use Rattle.go_scanner.specs.declared.piece.Piece.{Piece}
use Rattle.go_scanner.specs.CutText.{tokens_in}
use Rattle.go_scanner.specs.Spans.{FollowFrom, starts}
use Rattle.go_scanner.proofs.SpanLemmas.{tokens_in_order}
use Rattle.law_rename.specs.Around.{from_on}
use Rattle.law_rename.specs.Named.{MayPut, NamePut, after_put, before_put, literal_piece, moved_behind, name_piece}
use Rattle.law_rename.proofs.Gaining.{both_tokens, literal_number, texts}
use Rattle.law_rename.proofs.Spelling.{from_first, from_suc, from_zero}
use Rattle.law_rename.proofs.TokensBehind.{seam}
use Rattle.law_renamed_workspaces.proofs.RisingOffsets.{starts_from}

less_by : (x y : ℕ) → nat_cmp x y ≡ Less → x < y
less_by x y e = ranked x y Less (sym e)

-- the tokens behind an offset begin there
rise_behind : (x : ℕ) (ts : List Piece) → AllByRecursion (λ y. nat_cmp x y ≡ Less) (starts ts) → (j : ℕ) (t : Piece) → slice_get ts j ≡ Some t →
    x < t.span.start
rise_behind x [] all j t at = absurd (none-some t at)
rise_behind x (u ∷ ts) all zero t at = subst (λ (p : Piece). x < p.span.start) (same_Some u t at) (less_by x u.span.start all.0)
rise_behind x (u ∷ ts) all (suc j) t at = rise_behind x ts all.1 j t at

-- The token lies before the offset and stays the token of this number, or it lies behind it and moves.
abbrev pub IsStillOrMoved : (place : ℕ) → (Piece → Piece) → List Piece → ℕ → Piece → Type 0
IsStillOrMoved place move news j t = ((t.span.start < place) × (t.span.end ≤ place) × (slice_get news j ≡ Some t)) ⊎
    ((place < t.span.start) × (slice_get news j ≡ Some (move t)))

module _ (one : Piece) (move : Piece → Piece) where
  there : (from to : ℕ) (ones rest : List Piece) (l : Piece) → FollowFrom from (ones ++ l ∷ rest) to → IsStrictlySortedBy nat_cmp (starts (ones ++ l ∷ rest)) →
      (i : ℕ) (t : Piece) → slice_get (ones ++ l ∷ rest) i ≡ Some t → (i ≡ length ones → ⊥) →
      IsStillOrMoved l.span.start move (ones ++ one ∷ map move (l ∷ rest)) (from_on (length ones) i) t
  unfolding IsStrictlySortedBy
  there from to [] rest l follow rise zero t at other = absurd (other refl)
  there from to [] rest l follow rise (suc i) t at other =
      inr (
        rise_behind l.span.start rest rise.0 i t at,
        ap (slice_get (one ∷ map move (l ∷ rest))) (from_first (suc i)) ∙ slice_get-map move rest i ∙ ap (option_map move) at,
      )
  there from to (x ∷ ones) rest l follow rise zero t at other =
      let same : x ≡ t = same_Some x t at in
      let starts_before : x.span.start < l.span.start = rise_behind x.span.start (ones ++ l ∷ rest) rise.0 (length ones) l (seam ones rest l) in
      let ends_before : x.span.end ≤ l.span.start = starts_from x.span.end to (ones ++ l ∷ rest) follow.2 (length ones) l (seam ones rest l) in
      inl (
        subst (λ (p : Piece). p.span.start < l.span.start) same starts_before,
        subst (λ (p : Piece). p.span.end ≤ l.span.start) same ends_before,
        ap (slice_get (x ∷ (ones ++ one ∷ map move (l ∷ rest)))) (from_zero (length ones)) ∙ at,
      )
  there from to (x ∷ ones) rest l follow rise (suc i) t at other =
      let rest_is = there x.span.end to ones rest l follow.2 rise.1 i t at (λ e. other (ap suc e)) in
      subst (λ j. IsStillOrMoved l.span.start move (x ∷ (ones ++ one ∷ map move (l ∷ rest))) j t) (sym (from_suc (length ones) i)) rest_is

  some_mapped : (o : Option Piece) (t : Piece) → option_map move o ≡ Some t → (u : Piece) × (o ≡ Some u)
  some_mapped None t e = absurd (none-some t e)
  some_mapped (Some u) t e = (u, refl)

  back : (ones rest : List Piece) (j : ℕ) (t : Piece) → slice_get (ones ++ one ∷ map move rest) j ≡ Some t → (j ≡ length ones → ⊥) →
      (i : ℕ) × ((u : Piece) × ((slice_get (ones ++ rest) i ≡ Some u) × (from_on (length ones) i ≡ j)))
  back [] rest zero t at other = absurd (other refl)
  back [] rest (suc j) t at other =
      let u = some_mapped (slice_get rest j) t (sym (slice_get-map move rest j) ∙ at) in
      (j, (u.0, (u.1, from_first j)))
  back (x ∷ ones) rest zero t at other = (0, (x, (refl, from_zero (length ones))))
  back (x ∷ ones) rest (suc j) t at other =
      let more = back ones rest j t at (λ e. other (ap suc e)) in
      (suc more.0, (more.1.0, (more.1.1.0, from_suc (length ones) more.0 ∙ ap suc more.1.1.1)))

module _ (p : NamePut) (number : ℕ) (may : MayPut p) (at : slice_get (tokens_in (before_put p)) number ≡ Some (literal_piece p)) where
  -- the name's token
  pub token_own : slice_get (tokens_in (after_put p)) number ≡ Some (name_piece p)
  token_own =
      let t = both_tokens p may in
      ap (slice_get (tokens_in (after_put p))) (literal_number p may t number at) ∙ ap (λ ts. slice_get ts (length t.ones)) t.new
      ∙ seam t.ones (map (moved_behind p) (literal_piece p ∷ t.behind)) (name_piece p)

  -- each token but the literal
  pub token_there : (i : ℕ) (t : Piece) → slice_get (tokens_in (before_put p)) i ≡ Some t → (i ≡ number → ⊥) →
      IsStillOrMoved (length p.front) (moved_behind p) (tokens_in (after_put p)) (from_on number i) t
  token_there i t is other =
      let b = both_tokens p may in
      let place = literal_number p may b number at in
      let order = tokens_in_order (texts p) (before_put p).pieces may.is_cut in
      let follow = subst (λ ts. FollowFrom 0 ts (length (texts p))) b.old order.follow in
      let rise = subst (λ ts. IsStrictlySortedBy nat_cmp (starts ts)) b.old order.rise in
      let here = there (name_piece p) (moved_behind p) 0 (length (texts p)) b.ones b.behind (literal_piece p) follow rise i t
      (ap (λ ts. slice_get ts i) (sym b.old) ∙ is) (λ e. other (e ∙ sym place)) in
      subst (λ k. IsStillOrMoved (length p.front) (moved_behind p) (tokens_in (after_put p)) (from_on k i) t) (sym place)
      (subst (λ ts. IsStillOrMoved (length p.front) (moved_behind p) ts (from_on (length b.ones) i) t) (sym b.new) here)

  -- each token but the name is an old one
  pub token_back : (j : ℕ) (t : Piece) → slice_get (tokens_in (after_put p)) j ≡ Some t → (j ≡ number → ⊥) →
      (i : ℕ) × ((u : Piece) × ((slice_get (tokens_in (before_put p)) i ≡ Some u) × (from_on number i ≡ j)))
  token_back j t is other =
      let b = both_tokens p may in
      let place = literal_number p may b number at in
      let x = back (name_piece p) (moved_behind p) b.ones (literal_piece p ∷ b.behind) j t (ap (λ ts. slice_get ts j) (sym b.new) ∙ is)
      (λ e. other (e ∙ sym place)) in
      (x.0, (x.1.0, (ap (λ ts. slice_get ts x.0) b.old ∙ x.1.1.0, ap (λ k. from_on k x.0) place ∙ x.1.1.1)))
