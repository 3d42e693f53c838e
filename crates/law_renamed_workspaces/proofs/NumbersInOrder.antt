-- Identifiers of a package are numbered in the order of the places at which they begin.
use Rattle.std.proofs.Common.{ℕ, zero, suc, ◌≡◌, ◌<◌, ◌≤◌, inl, inr, List, [], ◌∷◌, length, map, ap, sym, ◌∙◌, refl, subst, arith}
use Rattle.std.specs.Prelude.{Option, Some, None, slice_get}
use Rattle.std.specs.Cmp.{nat_cmp_is}
use Rattle.std.specs.Cmp.{tied_itself}
use Rattle.std.specs.List.{AllByRecursion}
use Rattle.std.specs.List.Sorted.{IsStrictlySortedBy}
use Rattle.std.specs.Ordering.{nat_cmp, ordering_then}
use Rattle.std.specs.declared.cmp.Ordering.{Ordering}
use Rattle.std.specs.declared.cmp.Ordering.TheVariants.{Less, Equal, Greater}
use Rattle.std.proofs.lemmas.Bool.{cases_lt}
use Rattle.std.proofs.lemmas.Option.{none-some, same_Some}
use Rattle.base_files.specs.Workspace.{Workspace, path_cmp}
use Rattle.base_files.specs.declared.place.Place.{Place}
use Rattle.base_files.proofs.WorkspaceLaws.{path_cmp_total}
use Rattle.go_scanner.specs.declared.piece.Piece.{Piece}
use Rattle.go_scanner.specs.CutText.{tokens_in}
use Rattle.go_scanner.specs.Spans.{FollowFrom}
use Rattle.go_scanner.proofs.SpanLemmas.{tokens_in_order}
use Rattle.go_ast.specs.SourceFile.{SourceFile, FileParts, offset_at}
use Rattle.go_scope.specs.Packages.{scoped, layout_in}
use Rattle.go_scope.specs.SpelledFiles.{spelled_file}
use Rattle.workspace_graph.specs.Parsed.{AreParsed, none, tree}
use Rattle.law_tokens.specs.Order.{StandInOrder}
use Rattle.law_tokens.proofs.HeldBytes.{cut_at, less_differs, numbered_files}
use Rattle.law_tokens.proofs.Ordered.{package_ordered, named_ordered}
use Rattle.law_tokens.proofs.OwnPaths.{entry_cmp, files_sorted, package_sources, part_at}
use Rattle.types_declared.specs.Package.{Package}
use Rattle.workspace_check.specs.Verdicts.{Verdicts}
use Rattle.refs_binding.specs.Identifiers.{IsNameToken, NameBegins, BeginsAt}
use Rattle.refs_binding.specs.Places.{place_cmp}
use Rattle.refs_binding.specs.Uses.{IsCheckedPackage}
use Rattle.refs_binding.proofs.PlaceOrder.{place_cmp_total, place_cmp_exact, place_is}
use Rattle.refs_lookup.proofs.OnePlace.{names_of, laid_of, same_layout, same_size, same_files, one_begins}
use Rattle.refactor_conflict.proofs.Firsts.{behind}
use Rattle.law_renamed_workspaces.proofs.RisingOffsets.{starts_from}
use Rattle.law_renamed_workspaces.specs.Numbers.{NumbersFollowPlaces}

-- tokens begin one behind another

starts_rise : (from to : ℕ) (ts : List Piece) → FollowFrom from ts to → (i j : ℕ) (a b : Piece) → i < j → slice_get ts i ≡ Some a → slice_get ts j ≡ Some b →
    a.span.start ≤ b.span.start
starts_rise from to [] h i j a b lt is at = absurd (none-some a is)
starts_rise from to (t ∷ ts) h i zero a b lt is at = absurd (omega arith)
starts_rise from to (t ∷ ts) h zero (suc j) a b lt is at =
    let rest : t.span.end ≤ b.span.start = starts_from t.span.end to ts h.2 j b at in
    let first : t.span.start ≤ b.span.start = omega (arith, h.1, rest) in
    subst (λ (p : Piece). p.span.start ≤ b.span.start) (same_Some t a is) first
starts_rise from to (t ∷ ts) h (suc i) (suc j) a b lt is at = starts_rise t.span.end to ts h.2 i j a b (omega arith) is at

-- files have rising paths

path_above : {es : List (List ℕ × List ℕ)} {ts : List FileParts} → AreParsed es ts [] → (d : List ℕ × List ℕ) →
    AllByRecursion (λ e. entry_cmp d e ≡ Less) es → (j : ℕ) (g : FileParts) → slice_get ts j ≡ Some g → path_cmp d.0 g.path ≡ Less
path_above none d h j g at = absurd (none-some g at)
path_above (tree {t = t} is rest) d h zero g at =
    subst (λ (x : FileParts). path_cmp d.0 x.path ≡ Less) (same_Some t g at) (subst (λ q. path_cmp d.0 q ≡ Less) (sym is.of_path) h.0)
path_above (tree is rest) d h (suc j) g at = path_above rest d h.1 j g at

paths_rise : {es : List (List ℕ × List ℕ)} {ts : List FileParts} → AreParsed es ts [] → IsStrictlySortedBy entry_cmp es →
    (i j : ℕ) (f g : FileParts) → i < j → slice_get ts i ≡ Some f → slice_get ts j ≡ Some g → path_cmp f.path g.path ≡ Less
unfolding IsStrictlySortedBy
paths_rise none h i j f g lt is at = absurd (none-some f is)
paths_rise (tree a rest) h i zero f g lt is at = absurd (omega arith)
paths_rise (tree {e = e} {t = t} a rest) h zero (suc j) f g lt is at =
    subst (λ q. path_cmp q g.path ≡ Less) (sym a.of_path ∙ ap (λ (x : FileParts). x.path) (same_Some t f is)) (path_above rest e h.0 j g at)
paths_rise (tree a rest) h (suc i) (suc j) f g lt is at = paths_rise rest h.1 i j f g (omega arith) is at

-- where a name begins

record Begins (o : Option SourceFile) (token : ℕ) (path : List ℕ) (offset : ℕ) : Type 0 where
  file : SourceFile
  is : o ≡ Some file
  of_path : file.path ≡ path
  piece : Piece
  token_is : slice_get (tokens_in file.cut) token ≡ Some piece
  begins : piece.span.start ≡ offset

named_piece : (o : Option Piece) → IsNameToken o → (piece : Piece) × (o ≡ Some piece)
named_piece None h = absurd h
named_piece (Some piece) h = (piece, refl)

begins_in : (o : Option SourceFile) (token : ℕ) (path : List ℕ) (offset : ℕ) → NameBegins o token path offset → Begins o token path offset
begins_in None token path offset h = absurd h
begins_in (Some f) token path offset h =
    let t = named_piece (slice_get (tokens_in f.cut) token) h.0 in
    record { file = f; is = refl; of_path = h.1; piece = t.0; token_is = t.1; begins = sym (ap (offset_at f.cut.text) t.1) ∙ h.2 }

-- comparing places

before_in_path : (a b : Place) → path_cmp a.path b.path ≡ Less → place_cmp a b ≡ Less
before_in_path a b less = ap (λ o. ordering_then o (nat_cmp a.offset b.offset)) less

greater_offset : (a b : Place) → a.path ≡ b.path → a.offset ≤ b.offset → place_cmp a b ≡ Greater → ⊥
greater_offset a b same le more =
    let here : place_cmp a b ≡ nat_cmp a.offset b.offset =
    ap (λ o. ordering_then o (nat_cmp a.offset b.offset)) (ap (λ q. path_cmp q b.path) same ∙ tied_itself path_cmp_total b.path) in
    elim (cases_lt a.offset b.offset) [
      | inl less ↦ (let wrong : Less ≡ Greater = nat_cmp_is a.offset b.offset Less less ∙ (sym here ∙ more) in cc)
      | inr ge ↦ (let wrong : Equal ≡ Greater = nat_cmp_is a.offset b.offset Equal (omega (arith, le, ge)) ∙ (sym here ∙ more) in cc)
    ]

module _ (w : Workspace) (known : Verdicts) (p : Package) (is : IsCheckedPackage w known p) where
  ordered : StandInOrder p.layout p.size
  ordered =
      let h = is.is_checked in
      let sources = package_sources w p.path h.files h.parsed in
      let plain : StandInOrder (layout_in (scoped h.files)) (length (scoped h.files).sites) =
      package_ordered (map spelled_file h.files) (numbered_files h.files sources) in
      subst (λ l. StandInOrder l p.size) (sym (same_layout w known p.path p h))
      (subst (λ n. StandInOrder (layout_in (laid_of w known p.path p h)) n) (sym (same_size w known p.path p h))
      (named_ordered (names_of w known p.path p h) (scoped h.files) plain))

  by_order : (o : Ordering) (a b : Place) → place_cmp a b ≡ o → (place_cmp a b ≡ Greater → ⊥) → (a ≡ b → ⊥) → place_cmp a b ≡ Less
  by_order Less a b e more same = e
  by_order Equal a b e more same = absurd (same (place_cmp_exact a b e))
  by_order Greater a b e more same = absurd (more e)

  in_places : (u v : ℕ) (a b : Place) → BeginsAt p a.path a.offset u → BeginsAt p b.path b.offset v → u < v → place_cmp a b ≡ Less
  in_places u v a b hu hv less =
      let h = is.is_checked in
      let files = same_files w known p.path p h in
      let l = p.layout in
      let x = begins_in (slice_get p.files (l.place u).file) (l.place u).index a.path a.offset hu.1 in
      let y = begins_in (slice_get p.files (l.place v).file) (l.place v).index b.path b.offset hv.1 in
      let s = part_at h.files (l.place u).file x.file (ap (λ fs. slice_get fs (l.place u).file) (sym files) ∙ x.is) in
      let t = part_at h.files (l.place v).file y.file (ap (λ fs. slice_get fs (l.place v).file) (sym files) ∙ y.is) in
      elim (ordered u v less hv.0.0 hu.0.1 hv.0.1) [
        | inl file ↦
            (let rise : path_cmp s.0.path t.0.path ≡ Less =
            paths_rise h.parsed (files_sorted w p.path) (l.place u).file (l.place v).file s.0 t.0 file s.1.0 t.1.0 in
            before_in_path a b
            (subst (λ q. path_cmp q b.path ≡ Less) (ap (λ (z : SourceFile). z.path) s.1.1 ∙ x.of_path)
            (subst (λ q. path_cmp s.0.path q ≡ Less) (ap (λ (z : SourceFile). z.path) t.1.1 ∙ y.of_path) rise)))
        | inr here ↦
            (let same : y.file ≡ x.file = same_Some y.file x.file (sym y.is ∙ ap (slice_get p.files) (sym here.0) ∙ x.is) in
            let cut = cut_at h.files (package_sources w p.path h.files h.parsed) (l.place u).file s.0 s.1.0 in
            let follow = (tokens_in_order s.0.cut.text s.0.cut.pieces cut).follow in
            let first : slice_get (tokens_in s.0.cut) (l.place u).index ≡ Some x.piece =
            ap (λ (z : SourceFile). slice_get (tokens_in z.cut) (l.place u).index) s.1.1 ∙ x.token_is in
            let second : slice_get (tokens_in s.0.cut) (l.place v).index ≡ Some y.piece =
            ap (λ (z : SourceFile). slice_get (tokens_in z.cut) (l.place v).index) (s.1.1 ∙ sym same) ∙ y.token_is in
            let le : x.piece.span.start ≤ y.piece.span.start =
            starts_rise 0 (length s.0.cut.text) (tokens_in s.0.cut) follow (l.place u).index (l.place v).index x.piece y.piece here.1 first second in
            let paths : a.path ≡ b.path = sym x.of_path ∙ ap (λ (z : SourceFile). z.path) (sym same) ∙ y.of_path in
            by_order (place_cmp a b) a b refl (greater_offset a b paths (omega (arith, le, x.begins, y.begins)))
            (λ e. let one = one_begins w known p.path p h b.path b.offset u v (subst (λ (z : Place). BeginsAt p z.path z.offset u) e hu) hv in
            absurd (omega (arith, one, less))))
      ]

  same_place : (u : ℕ) (a b : Place) → BeginsAt p a.path a.offset u → BeginsAt p b.path b.offset u → a ≡ b
  same_place u a b hu hv =
      let at = p.layout.place u in
      let x = begins_in (slice_get p.files at.file) at.index a.path a.offset hu.1 in
      let y = begins_in (slice_get p.files at.file) at.index b.path b.offset hv.1 in
      let file : x.file ≡ y.file = same_Some x.file y.file (sym x.is ∙ y.is) in
      let piece : x.piece ≡ y.piece =
      same_Some x.piece y.piece (sym x.token_is ∙ ap (λ (z : SourceFile). slice_get (tokens_in z.cut) at.index) file ∙ y.token_is) in
      place_is a b (sym x.of_path ∙ ap (λ (z : SourceFile). z.path) file ∙ y.of_path) (sym x.begins ∙ ap (λ (z : Piece). z.span.start) piece ∙ y.begins)

  in_numbers : (u v : ℕ) (a b : Place) → BeginsAt p a.path a.offset u → BeginsAt p b.path b.offset v → place_cmp a b ≡ Less → u < v
  in_numbers u v a b hu hv less = elim (cases_lt u v) [
    | inl lt ↦ lt
    | inr ge ↦ elim (cases_lt v u) [
      | inl more ↦ absurd (behind a b less (in_places v u b a hv hu more))
      | inr le ↦
          (let one : v ≡ u = omega (arith, ge, le) in
          let same : b ≡ a = same_place u b a (subst (λ k. BeginsAt p b.path b.offset k) one hv) hu in
          absurd (less_differs (place_cmp a a) (tied_itself place_cmp_total a) (subst (λ x. place_cmp a x ≡ Less) same less)))
    ]
  ]

pub numbers_follow : NumbersFollowPlaces
numbers_follow w known p is u v a b hu hv = (in_places w known p is u v a b hu hv, in_numbers w known p is u v a b hu hv)
