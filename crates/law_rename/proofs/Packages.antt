-- The identifiers of a package of which one file has an import that gains a name.
use Rattle.std.proofs.Common.{ℕ, zero, suc, ◌≡◌, ◌+◌, ◌<◌, ◌≤◌, List, [], ◌∷◌, ◌++◌, Some, length, map, refl, sym, ap, ◌∙◌, arith, Bool, true, false}
use Rattle.std.proofs.Common.{⊎_elim, append_assoc, ne_eqb}
use Rattle.std.specs.Prelude.{cond, nat_eq, slice_get}
use Rattle.std.proofs.lemmas.Bool.{cases_eq}
use Rattle.std.proofs.lemmas.List.{length-append, map-append}
use Rattle.std.proofs.lemmas.Option.{none-some, same_Some}
use Rattle.go_scanner.specs.declared.piece.Class.{Class}
use Rattle.go_scanner.specs.declared.piece.Piece.{Piece}
use Rattle.go_scanner.specs.Cuts.{bytes_of}
use Rattle.go_scanner.specs.CutText.{tokens_in}
use Rattle.go_scanner.specs.TokenValues.{IsStringClass}
use Rattle.go_scope.specs.FileSites.{SpelledFile, files_sites, package_sites, universe, universe_site}
use Rattle.go_scope.specs.Site.{Site}
use Rattle.go_ast.specs.declared.syntax.Kind.{Kind}
use Rattle.go_ast.specs.declared.syntax.Kind.TheVariants as kind
use Rattle.go_ast.specs.declared.syntax.Token.{Token}
use Rattle.go_ast.specs.Flatten.{flatten}
use Rattle.go_ast.specs.Kinds.{kind_of, kinds_from, kinds_of}
use Rattle.go_ast.specs.WellFormed.{IsTreeOf}
use Rattle.law_rename.specs.Around.{AroundImport, bare_import, file_with, from_on}
use Rattle.law_rename.specs.Named.{MayPut, NamePut, before_put, literal_piece}
use Rattle.law_rename.specs.MovedSites.{moved_site}
use Rattle.law_rename.proofs.Staying.{file_stays}
use Rattle.law_rename.specs.Gained.{Gain, HasGained, named_file, bare_file, gain_of, import_site, moved_by, path_site, sites_in, unnamed_site}
use Rattle.law_rename.proofs.Sites.{put_sites}
use Rattle.law_rename.proofs.Spelling.{from_zero}

-- a file is not the only one of its package

files_split : (rank : ℕ) (first rest : List SpelledFile) (f : SpelledFile) → files_sites rank (first ++ f ∷ rest) ≡
    files_sites rank first ++ (sites_in (rank + length first) f ++ files_sites (suc (rank + length first)) rest)
unfolding files_sites
files_split rank [] rest f = let same : rank ≡ rank + 0 = omega arith in ap (λ (r : ℕ). sites_in r f ++ files_sites (suc r) rest) same
files_split rank (x ∷ first) rest f =
    let same : suc rank + length first ≡ rank + length (x ∷ first) = omega arith in
    ap (λ l. sites_in rank x ++ l) (files_split (suc rank) first rest f
    ∙ ap (λ (r : ℕ). files_sites (suc rank) first ++ (sites_in r f ++ files_sites (suc r) rest)) same)
    ∙ sym (append_assoc (sites_in rank x) (files_sites (suc rank) first)
    (sites_in (rank + length (x ∷ first)) f ++ files_sites (suc (rank + length (x ∷ first))) rest))

-- other files stay

other_file : (i : Gain) (file n : ℕ) → (file ≡ i.rank → ⊥) → moved_by i file n ≡ n
other_file i file n other = let is : nat_eq file i.rank ≡ false = ne_eqb file i.rank other in ap (λ b. cond b (from_on i.number n) n) is

files_stay : (i : Gain) (rank : ℕ) (fs : List SpelledFile) → ((r : ℕ) → rank ≤ r → r < rank + length fs → r ≡ i.rank → ⊥) →
    map (moved_site (moved_by i)) (files_sites rank fs) ≡ files_sites rank fs
unfolding files_sites
files_stay i rank [] other = refl
files_stay i rank (f ∷ fs) other =
    let here : map (moved_site (moved_by i)) (sites_in rank f) ≡ sites_in rank f =
    file_stays (moved_by i) rank f.spell f.tree (λ n. other_file i rank n (other rank (omega arith) (omega arith))) in
    let rest = files_stay i (suc rank) fs (λ r low high. other r (omega arith) (omega arith)) in
    map-append (moved_site (moved_by i)) (sites_in rank f) (files_sites (suc rank) fs) ∙ (λ j. here j ++ rest j)

universe_stays : (i : Gain) (names : List (List ℕ)) → 0 < i.number → map (moved_site (moved_by i)) (map universe_site names) ≡ map universe_site names
universe_stays i [] some = refl
universe_stays i (name ∷ names) some =
    let here : moved_by i 0 0 ≡ 0 = first_place i.number some in
    let rest = universe_stays i names some in
    λ j. record { place = record { file = 0; index = here j }; name = name; role = (universe_site name).role } ∷ rest j
  where
    first_place : (number : ℕ) → 0 < number → cond (nat_eq 0 i.rank) (from_on number 0) 0 ≡ 0
    first_place zero some = absurd (omega arith)
    first_place (suc k) some = ⊎_elim
        (λ (e : 0 ≡ i.rank). ap (λ (n : ℕ). cond (nat_eq 0 i.rank) n 0) (from_zero k) ∙ either (nat_eq 0 i.rank))
        (λ (e : 0 ≡ i.rank → ⊥). let is : nat_eq 0 i.rank ≡ false = ne_eqb 0 i.rank e in ap (λ b. cond b (from_on (suc k) 0) 0) is)
        (cases_eq 0 i.rank)
      where
        either : (b : Bool) → ◌≡◌ {A = ℕ} (cond b 0 0) 0
        either true = refl
        either false = refl

-- what stays on both sides

pub gained_within : (i : Gain) (stood : Site) (at : ℕ) (first rest old new : List Site) → map (moved_site (moved_by i)) first ≡ first →
    map (moved_site (moved_by i)) rest ≡ rest → HasGained i stood at old new →
    HasGained i stood (length first + at) (first ++ (old ++ rest)) (first ++ (new ++ rest))
gained_within i stood at first rest old new one other g =
    let by : Site → Site = moved_site (moved_by i) in
    let two : List Site = import_site i i.name ∷ path_site i ∷ [] in
    let lead : map by (first ++ g.before) ≡ first ++ map by g.before = map-append by first g.before ∙ ap (λ l. l ++ map by g.before) one in
    let back : map by (g.behind ++ rest) ≡ map by g.behind ++ rest = map-append by g.behind rest ∙ ap (λ l. map by g.behind ++ l) other in
    record {
      before = first ++ g.before;
      behind = g.behind ++ rest;
      placed = length-append first g.before ∙ ap (λ (n : ℕ). length first + n) g.placed;
      old_is = ap (λ l. first ++ (l ++ rest)) g.old_is ∙ ap (λ l. first ++ l) (append_assoc g.before (stood ∷ g.behind) rest)
          ∙ sym (append_assoc first g.before (stood ∷ (g.behind ++ rest)));
      new_is = ap (λ l. first ++ (l ++ rest)) g.new_is
          ∙ ap (λ l. first ++ l) (append_assoc (map by g.before) (import_site i i.name ∷ path_site i ∷ map by g.behind) rest)
          ∙ sym (append_assoc first (map by g.before) (import_site i i.name ∷ path_site i ∷ (map by g.behind ++ rest)))
          ∙ sym (λ j. lead j ++ import_site i i.name ∷ path_site i ∷ back j);
    }

-- the literal is not the first token of its file

unfoldable head_kind : List Token → Kind
head_kind [] = kind.Other
head_kind (t ∷ ts) = t.kind

first_kind : (text : List ℕ) (ts : List Piece) (q : Piece) → slice_get ts 0 ≡ Some q → head_kind (kinds_from 0 text ts) ≡ kind_of q.class (bytes_of text q)
unfolding kinds_from head_kind
first_kind text [] q at = absurd (none-some q at)
first_kind text (t ∷ ts) q at = ap (λ (x : Piece). kind_of x.class (bytes_of text x)) (same_Some t q at)

text_kind : (c : Class) (bytes : List ℕ) → IsStringClass c → kind_of c bytes ≡ kind.Text
text_kind c bytes is = ⊎_elim (λ e. ap (λ (d : Class). kind_of d bytes) e) (λ e. ap (λ (d : Class). kind_of d bytes) e) is

no_first : (p : NamePut) (number : ℕ) (a : AroundImport) → MayPut p → slice_get (tokens_in (before_put p)) number ≡ Some (literal_piece p) →
    IsTreeOf (file_with (bare_import number) a) (kinds_of (before_put p)) → 0 < number
unfolding flatten head_kind
no_first p (suc k) a may at tree = omega arith
no_first p zero a may at tree =
    let found = first_kind (before_put p).text (tokens_in (before_put p)) (literal_piece p) at in
    let wrong : kind.Package ≡ kind.Text = ap head_kind tree.written ∙ found ∙
    text_kind p.class (bytes_of (before_put p).text (literal_piece p)) may.is_string in
    cc

-- the package

pub package_gains : (p : NamePut) (number : ℕ) (a : AroundImport) (first rest : List SpelledFile) → MayPut p →
    slice_get (tokens_in (before_put p)) number ≡ Some (literal_piece p) → IsTreeOf (file_with (bare_import number) a) (kinds_of (before_put p)) →
    (let i = gain_of (length first) number p in
    (at : ℕ) × HasGained i (unnamed_site i) at (package_sites (first ++ bare_file number a p ∷ rest)) (package_sites (first ++ named_file number a p ∷ rest)))
unfolding package_sites
package_gains p number a first rest may at tree =
    let i : Gain = gain_of (length first) number p in
    let size : 0 + length first ≡ length first = omega arith in
    let known : List Site = map universe_site universe in
    let lead : List Site = known ++ files_sites 0 first in
    let back : List Site = files_sites (suc (length first)) rest in
    let by : Site → Site = moved_site (moved_by i) in
    let lead_stays : map by lead ≡ lead = map-append by known (files_sites 0 first)
    ∙ (λ j. universe_stays i universe (no_first p number a may at tree) j ++ files_stay i 0 first (λ r low high e. absurd (omega arith)) j) in
    let back_stays : map by back ≡ back = files_stay i (suc (length first)) rest (λ r low high e. absurd (omega arith)) in
    let split : (f : SpelledFile) → known ++ files_sites 0 (first ++ f ∷ rest) ≡ lead ++ (sites_in (length first) f ++ back) = λ f.
    ap (λ l. known ++ l) (files_split 0 first rest f ∙ ap (λ (r : ℕ). files_sites 0 first ++ (sites_in r f ++ files_sites (suc r) rest)) size)
    ∙ sym (append_assoc known (files_sites 0 first) (sites_in (length first) f ++ back)) in
    let here = put_sites (length first) number p a may at in
    let whole = gained_within i (unnamed_site i) here.0 lead back (sites_in (length first) (bare_file number a p))
    (sites_in (length first) (named_file number a p)) lead_stays back_stays here.1 in (
      length lead + here.0,
      record {
        before = whole.before;
        behind = whole.behind;
        placed = whole.placed;
        old_is = split (bare_file number a p) ∙ whole.old_is;
        new_is = split (named_file number a p) ∙ whole.new_is;
      },
    )
