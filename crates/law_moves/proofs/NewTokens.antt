-- The bytes of pieces after edits of names and string literals, and the tokens and their kinds.
use Rattle.std.proofs.Common.{ℕ, ◌≡◌, ◌⊎◌, ◌+◌, ◌-◌, ◌<◌, ◌≤◌, ◌||◌, ◌&&◌, Bool, true, false, cond, eqb, List, [], ◌∷◌, length, take, drop, map}
use Rattle.std.proofs.Common.{refl, sym, ap, ◌∙◌}
use Rattle.std.proofs.Common.{subst, arith, inl, inr, ⊎_elim}
use Rattle.std.specs.List.{AllByRecursion, Contains, list_any, slice_range}
use Rattle.std.proofs.lemmas.List.Elements.{All-contains, All-from_recursion, recursion_from_All}
use Rattle.base_lemmas.proofs.EachElement.{all_from_each}
use Rattle.base_lemmas.proofs.Elements.{first_in, first_or_later, later_in, nothing_in}
use Rattle.go_scanner.specs.declared.piece.Class.{Class}
use Rattle.go_scanner.specs.declared.piece.Class.TheVariants as class
use Rattle.go_scanner.specs.declared.piece.Piece.{Piece}
use Rattle.base_files.specs.declared.place.Span.{Span}
use Rattle.go_scanner.specs.Cuts.{IsCut, bytes_of}
use Rattle.go_scanner.specs.CutText.{CutText, tokens_in}
use Rattle.go_scanner.specs.Pieces.{IsPiece}
use Rattle.go_scanner.specs.Tokens.{ends_line, ends_line_by, ends_statement, has_line_end, is_trivia, line_ends, semicolon, tokens_of}
use Rattle.go_scanner.proofs.IntegerLemmas.{by_test}
use Rattle.go_scanner.proofs.SpanLemmas.{cut_covers}
use Rattle.go_ast.specs.Kinds.{kind_of, kind_of_name, kinds_from, kinds_of}
use Rattle.go_ast.specs.SourceFile.{SourceFile, IsSourceFile}
use Rattle.go_ast.specs.Verdict.{IsWhole}
use Rattle.go_ast.specs.WellFormed.{IsTreeOf}
use Rattle.base_edits.specs.Edits.{AreInOrder, LieWithin, edited_text}
use Rattle.base_edits.specs.Laws.{AreUntouched}
use Rattle.base_edits.specs.Moved.{moved_offset}
use Rattle.base_edits.specs.PassedEdits.{moved_from}
use Rattle.base_edits.specs.declared.edit.Edit.{Edit}
use Rattle.base_edits.proofs.MovedPlaces.{keeps_bytes, moves_all, puts_bytes, step_past, stop_before}
use Rattle.go_respelled.proofs.Offsets.{HaveBytes}
use Rattle.go_respelled.proofs.Places.{apart, begins_behind}
use Rattle.go_respelled.proofs.Trees.{each_token}
use Rattle.law_moves.specs.Replacements.{AreReplacedPieces, IsReplacement, KeepNameKinds, MayReplace, class_by, is_replaced, new_piece, replaced}
use Rattle.law_moves.specs.Replacements.{replaced_file, ReplacedFilesKeepTrees}
use Rattle.law_moves.proofs.Recut.{have_bytes, recut_cut}

abbrev Spared : List Edit → ℕ → ℕ → Type 0
Spared edits start end = AllByRecursion (λ e. (end ≤ e.span.start) ⊎ (e.span.end ≤ start)) edits

moves_along : (edits : List Edit) (old new start end : ℕ) → AreInOrder old edits → HaveBytes edits → old ≤ start → start ≤ end → Spared edits start end →
    moved_from old new edits end ≡ moved_from old new edits start + (end - start)
moves_along [] old new start end order some low le spared = omega arith
moves_along (e ∷ edits) old new start end order some low le spared =
    ⊎_elim
    (λ (before : end ≤ e.span.start).
    let has : e.span.start < e.span.end = some.0 in
    let one = stop_before old new e edits end (omega arith) in
    let two = stop_before old new e edits start (omega arith) in
    let sum : new + (end - old) ≡ new + (start - old) + (end - start) = omega arith in
    one ∙ sum ∙ ap (λ n. n + (end - start)) (sym two))
    (λ (past : e.span.end ≤ start).
    let next : ℕ = new + ((e.span.start - old) + length e.text) in
    let one = step_past old new e edits end (omega arith) in
    let two = step_past old new e edits start past in
    one ∙ moves_along edits e.span.end next start end order.2 some.1 past le spared.1 ∙ ap (λ n. n + (end - start)) (sym two))
    spared.0

at_old : (edits : List Edit) (old new : ℕ) → AreInOrder old edits → HaveBytes edits → moved_from old new edits old ≡ new
at_old [] old new order some = omega arith
at_old (e ∷ edits) old new order some =
    let first : old ≤ e.span.start = order.0 in
    let has : e.span.start < e.span.end = some.0 in
    let same : new + (old - old) ≡ new = omega arith in
    stop_before old new e edits old (omega arith) ∙ same

begins : (edits : List Edit) (at : ℕ) (e : Edit) → AreInOrder at edits → Contains edits e → at ≤ e.span.start
begins [] at e order has = absurd (nothing_in e has)
begins (d ∷ edits) at e order has =
    let first : at ≤ d.span.start = order.0 in
    let second : d.span.start ≤ d.span.end = order.1 in
    ⊎_elim
    (λ (is : d ≡ e). subst (λ (x : Edit). at ≤ x.span.start) is first)
    (λ (rest : Contains edits e). let far : d.span.end ≤ e.span.start = begins edits d.span.end e order.2 rest in omega arith)
    (first_or_later d edits e has)

put_end : (edits : List Edit) (old new : ℕ) (e : Edit) → AreInOrder old edits → HaveBytes edits → Contains edits e →
    moved_from old new edits e.span.end ≡ moved_from old new edits e.span.start + length e.text
put_end [] old new e order some has = absurd (nothing_in e has)
put_end (d ∷ edits) old new e order some has =
    let next : ℕ = new + ((d.span.start - old) + length d.text) in
    ⊎_elim
    (λ (is : d ≡ e).
    let less : d.span.start < d.span.end = some.0 in
    let one : moved_from old new (d ∷ edits) d.span.end ≡ next = step_past old new d edits d.span.end (omega arith) ∙
    at_old edits d.span.end next order.2 some.1 in
    let two : moved_from old new (d ∷ edits) d.span.start ≡ new + (d.span.start - old) = stop_before old new d edits d.span.start less in
    let sum : next ≡ new + (d.span.start - old) + length d.text = omega arith in
    subst (λ (x : Edit). moved_from old new (d ∷ edits) x.span.end ≡ moved_from old new (d ∷ edits) x.span.start + length x.text) is
    (one ∙ sum ∙ ap (λ n. n + length d.text) (sym two)))
    (λ (later : Contains edits e).
    let far : d.span.end ≤ e.span.start = begins edits d.span.end e order.2 later in
    let order_of : e.span.start ≤ e.span.end = ordered edits d.span.end e order.2 later in
    let one = step_past old new d edits e.span.end (omega arith) in
    let two = step_past old new d edits e.span.start far in
    one ∙ put_end edits d.span.end next e order.2 some.1 later ∙ ap (λ n. n + length e.text) (sym two))
    (first_or_later d edits e has)
  where
    ordered : (edits : List Edit) (at : ℕ) (e : Edit) → AreInOrder at edits → Contains edits e → e.span.start ≤ e.span.end
    ordered [] at e order has = absurd (nothing_in e has)
    ordered (d ∷ edits) at e order has =
        ⊎_elim
        (λ (is : d ≡ e). subst (λ (x : Edit). x.span.start ≤ x.span.end) is order.1)
        (λ (rest : Contains edits e). ordered edits d.span.end e order.2 rest)
        (first_or_later d edits e has)

-- a piece is kept, or one of the edits replaces it

pub data IsEdited (edits : List Edit) (p : Piece) : Type 0 where
  kept : Spared edits p.span.start p.span.end → IsEdited edits p
  put : (e : Edit) → Contains edits e → e.span ≡ p.span → IsEdited edits p

one_more : (e : Edit) (edits : List Edit) (p : Piece) → (e.span ≡ p.span) ⊎ ((p.span.end ≤ e.span.start) ⊎ (e.span.end ≤ p.span.start)) →
    IsEdited edits p → IsEdited (e ∷ edits) p
one_more e edits p (inl is) rest = put e (first_in e edits) is
one_more e edits p (inr far) (kept rest) = kept (far, rest)
one_more e edits p (inr far) (put d has is) = put d (later_in e edits d has) is

pub edited_or_kept : (text : List ℕ) (pieces : List Piece) (edits : List Edit) (p : Piece) → IsCut text pieces →
    AllByRecursion (IsReplacement pieces) edits → Contains pieces p → IsEdited edits p
edited_or_kept text pieces [] p cut each has = kept tt
edited_or_kept text pieces (e ∷ edits) p cut each has =
    let o = each.0.old in
    let lie = apart 0 (length text) pieces p o (cut_covers text pieces cut) has each.0.is_piece in
    one_more e edits p (elim lie [
      | inl same ↦ inl (each.0.span ∙ ap (λ (x : Piece). x.span) (sym same))
      | inr far ↦ inr (subst (λ (x : Span). (p.span.end ≤ x.start) ⊎ (x.end ≤ p.span.start)) (sym each.0.span) far)
    ]) (edited_or_kept text pieces edits p cut each.1 has)

-- bytes

module _ (c : CutText) (edits : List Edit) (cut : IsCut c.text c.pieces) (are : AreReplacedPieces c.pieces edits) where
  pub each_edit : AllByRecursion (IsReplacement c.pieces) edits
  each_edit = recursion_from_All (IsReplacement c.pieces) edits are.each

  pub some_bytes : HaveBytes edits
  some_bytes = have_bytes c.text c.pieces edits cut each_edit

  pub within : LieWithin (length c.text) edits
  within = All-from_recursion (λ e. e.span.end ≤ length c.text) edits (each_within edits each_edit)
    where
      each_within : (es : List Edit) → AllByRecursion (IsReplacement c.pieces) es → AllByRecursion (λ e. e.span.end ≤ length c.text) es
      each_within [] each = tt
      each_within (e ∷ es) each = (
        subst (λ (x : Span). x.end ≤ length c.text) (sym each.0.span)
            (begins_behind 0 (length c.text) c.pieces each.0.old (cut_covers c.text c.pieces cut) each.0.is_piece).2,
        each_within es each.1,
      )

  abbrev new : List ℕ
  new = edited_text edits c.text

  pub kept_bytes : (p : Piece) → Contains c.pieces p → Spared edits p.span.start p.span.end → bytes_of new (new_piece edits p) ≡ bytes_of c.text p
  kept_bytes p has spared =
      let start : ℕ = p.span.start in
      let end : ℕ = p.span.end in
      let place = begins_behind 0 (length c.text) c.pieces p (cut_covers c.text c.pieces cut) has in
      let far : moved_offset edits end ≡ moved_offset edits start + (end - start) =
      sym (moves_all edits end are.in_order) ∙ moves_along edits 0 0 start end are.in_order some_bytes (omega arith) (omega (arith, place.1)) spared
      ∙ ap (λ n. n + (end - start)) (moves_all edits start are.in_order) in
      let untouched : AreUntouched edits start end = All-from_recursion (λ (e : Edit). (end ≤ e.span.start) ⊎ (e.span.end ≤ start)) edits spared in
      ap (λ (n : ℕ). take (n - moved_offset edits start) (drop (moved_offset edits start) new)) far
      ∙ keeps_bytes edits c.text start end are.in_order within place.1 place.2 untouched

  pub put_bytes : (e : Edit) (p : Piece) → Contains edits e → e.span ≡ p.span → bytes_of new (new_piece edits p) ≡ e.text
  put_bytes e p has same =
      let start : ℕ = e.span.start in
      let less : start < e.span.end = one_has edits some_bytes has in
      let far : moved_offset edits e.span.end ≡ moved_offset edits start + length e.text =
      sym (moves_all edits e.span.end are.in_order) ∙ put_end edits 0 0 e are.in_order some_bytes has
      ∙ ap (λ n. n + length e.text) (moves_all edits start are.in_order) in
      ap (λ (x : Span). take (moved_offset edits x.end - moved_offset edits x.start) (drop (moved_offset edits x.start) new)) (sym same)
      ∙ ap (λ (n : ℕ). take (n - moved_offset edits start) (drop (moved_offset edits start) new)) far ∙ puts_bytes edits c.text e are.in_order within has less
    where
      one_has : (es : List Edit) → HaveBytes es → Contains es e → e.span.start < e.span.end
      one_has [] some has = absurd (nothing_in e has)
      one_has (d ∷ es) some has =
          ⊎_elim
          (λ (is : d ≡ e). subst (λ (x : Edit). x.span.start < x.span.end) is some.0)
          (λ (later : Contains es e). one_has es some.1 later)
          (first_or_later d es e has)

  pub is_edited : (p : Piece) → Contains c.pieces p → IsEdited edits p
  is_edited p has = edited_or_kept c.text c.pieces edits p cut each_edit has

  -- of a piece that no edit replaces
  pub other_bytes : (p : Piece) → Contains c.pieces p → ((e : Edit) → Contains edits e → e.span ≡ p.span → ⊥) →
      bytes_of new (new_piece edits p) ≡ bytes_of c.text p
  other_bytes p has other = by_edit (is_edited p has)
    where
      by_edit : IsEdited edits p → bytes_of new (new_piece edits p) ≡ bytes_of c.text p
      by_edit (kept spared) = kept_bytes p has spared
      by_edit (put e at is) = absurd (other e at is)

  -- how an edit may replace a piece
  pub may_put : (e : Edit) (p : Piece) → Contains c.pieces p → Contains edits e → e.span ≡ p.span → MayReplace p.class e.text
  may_put e p has among same =
      let r : IsReplacement c.pieces e = All-contains (IsReplacement c.pieces) edits e are.each among in
      let lie = apart 0 (length c.text) c.pieces p r.old (cut_covers c.text c.pieces cut) has r.is_piece in
      let place = begins_behind 0 (length c.text) c.pieces p (cut_covers c.text c.pieces cut) has in
      let spans : p.span ≡ r.old.span = sym same ∙ r.span in
      let start : p.span.start ≡ r.old.span.start = ap (λ (x : Span). x.start) spans in
      let end : p.span.end ≡ r.old.span.end = ap (λ (x : Span). x.end) spans in
      elim lie [
        | inl is ↦ subst (λ (x : Piece). MayReplace x.class e.text) (sym is) r.may
        | inr far ↦ absurd (⊎_elim (λ (a : p.span.end ≤ r.old.span.start). not_far p.span.start p.span.end r.old.span.start place.1 start a)
            (λ (b : r.old.span.end ≤ p.span.start). not_back p.span.start p.span.end r.old.span.end place.1 end b) far)
      ]
    where
      not_far : (a b d : ℕ) → a < b → a ≡ d → b ≤ d → ⊥
      not_far a b d lt e le = omega arith

      not_back : (a b d : ℕ) → a < b → b ≡ d → d ≤ a → ⊥
      not_back a b d lt e le = omega arith

-- classes and tokens

trivia_same : (c : Class) (b : Bool) → is_trivia (class_by c b) ≡ is_trivia c
trivia_same class.RawString true = refl
trivia_same class.RawString false = refl
trivia_same _ b = refl

statement_same : (c : Class) (b : Bool) → ends_statement (class_by c b) ≡ ends_statement c
statement_same class.RawString true = refl
statement_same class.RawString false = refl
statement_same _ b = refl

line_by : (c : Class) (t a b : Bool) → (c ≡ class.GeneralComment → a ≡ b) → ends_line_by (class_by c t) a ≡ ends_line_by c b
line_by class.GeneralComment t a b same = same refl
line_by class.RawString true a b same = refl
line_by class.RawString false a b same = refl
line_by _ t a b same = refl

kind_by : (c : Class) (t : Bool) (a b : List ℕ) → (c ≡ class.Name → kind_of_name a ≡ kind_of_name b) → kind_of (class_by c t) a ≡ kind_of c b
kind_by class.Name t a b same = same refl
kind_by class.RawString true a b same = refl
kind_by class.RawString false a b same = refl
kind_by _ t a b same = refl

module _ (edits : List Edit) (text new : List ℕ) where
  abbrev move : Piece → Piece
  move = new_piece edits

  lines_same : (ps : List Piece) → AllByRecursion (λ p. ends_line new (move p) ≡ ends_line text p) ps → line_ends new (map move ps) ≡ line_ends text ps
  unfolding line_ends
  lines_same [] same = refl
  lines_same (p ∷ ps) same =
      let first : ends_line new (move p) ≡ ends_line text p = same.0 in
      let rest : line_ends new (map move ps) ≡ line_ends text ps = lines_same ps same.1 in
      let trivia = trivia_same p.class (is_replaced edits p) in
      λ i. cond (trivia i) (first i || rest i) false

  tokens_same : (ps : List Piece) → AllByRecursion (λ p. ends_line new (move p) ≡ ends_line text p) ps →
      tokens_of new (map move ps) ≡ map move (tokens_of text ps)
  unfolding tokens_of
  tokens_same [] same = refl
  tokens_same (p ∷ ps) same =
      let lines : line_ends new (map move ps) ≡ line_ends text ps = lines_same ps same.1 in
      let rest : tokens_of new (map move ps) ≡ map move (tokens_of text ps) = tokens_same ps same.1 in
      let trivia = trivia_same p.class (is_replaced edits p) in
      let ends = statement_same p.class (is_replaced edits p) in
      let after : List Piece → Bool → Bool → List Piece = λ ts e l. cond (e && l) (semicolon (move p).span.end ∷ ts) ts in
      let whole : tokens_of new (map move (p ∷ ps)) ≡ cond (is_trivia p.class) (map move (tokens_of text ps))
      (move p ∷ after (map move (tokens_of text ps)) (ends_statement p.class) (line_ends text ps)) =
      λ i. cond (trivia i) (rest i) (move p ∷ after (rest i) (ends i) (lines i)) in
      whole ∙ by_test (is_trivia p.class)
      (λ trivia. rw trivia refl)
      (λ token. by_test (ends_statement p.class && line_ends text ps)
      (λ ends. rw (token, ends) refl)
      (λ goes. rw (token, goes) refl))

  kinds_same : (n : ℕ) (ts : List Piece) → AllByRecursion (λ t. kind_of (move t).class (bytes_of new (move t)) ≡ kind_of t.class (bytes_of text t)) ts →
      kinds_from n new (map move ts) ≡ kinds_from n text ts
  unfolding kinds_from
  kinds_same n [] same = refl
  kinds_same n (t ∷ ts) same =
      let first : kind_of (move t).class (bytes_of new (move t)) ≡ kind_of t.class (bytes_of text t) = same.0 in
      let rest : kinds_from (n + 1) new (map move ts) ≡ kinds_from (n + 1) text ts = kinds_same (n + 1) ts same.1 in
      λ i. record { kind = first i; place = n } ∷ rest i

no_comment : (bytes : List ℕ) → MayReplace class.GeneralComment bytes → ⊥
no_comment bytes (inl n) = let e = n.0 in cc
no_comment bytes (inr s) = elim s.0 [ inl e ↦ (let z : ⊥ = cc in z) | inr e ↦ (let z : ⊥ = cc in z) ]

by_name : (bytes : List ℕ) → MayReplace class.Name bytes → IsPiece class.Name bytes
by_name bytes (inl n) = n.1
by_name bytes (inr s) = elim s.0 [ inl e ↦ (let z : ⊥ = cc in absurd z) | inr e ↦ (let z : ⊥ = cc in absurd z) ]

pub tokens_moved : (c : CutText) (edits : List Edit) → IsCut c.text c.pieces → AreReplacedPieces c.pieces edits →
    tokens_in (replaced edits c) ≡ map (new_piece edits) (tokens_in c)
tokens_moved c edits cut are =
    let new : List ℕ = edited_text edits c.text in
    tokens_same edits c.text new c.pieces (all_from_each (λ p. ends_line new (new_piece edits p) ≡ ends_line c.text p) c.pieces
    (λ p has. line_by p.class (is_replaced edits p) (has_line_end new (new_piece edits p)) (has_line_end c.text p)
    (λ comment. ap (λ l. list_any (λ b. eqb b 10) l)
    (other_bytes c edits cut are p has
    (λ e at is. no_comment e.text (subst (λ d. MayReplace d e.text) comment (may_put c edits cut are e p has at is)))))))

pub kinds_stay : (c : CutText) (edits : List Edit) → IsCut c.text c.pieces → AreReplacedPieces c.pieces edits → KeepNameKinds c edits →
    kinds_of (replaced edits c) ≡ kinds_of c
kinds_stay c edits cut are keep =
    let new : List ℕ = edited_text edits c.text in
    let P : Piece → Type 0 = λ t. kind_of (new_piece edits t).class (bytes_of new (new_piece edits t)) ≡ kind_of t.class (bytes_of c.text t) in
    let pieces : AllByRecursion P c.pieces = all_from_each P c.pieces (λ p has. kind_by p.class (is_replaced edits p) (bytes_of new (new_piece edits p))
    (bytes_of c.text p) (λ name. by_edit p has name (is_edited c edits cut are p has))) in
    ap (kinds_from 0 new) (tokens_moved c edits cut are) ∙ kinds_same edits c.text new 0 (tokens_in c) (each_token P (λ at. refl) c.text c.pieces pieces)
  where
    by_edit : (p : Piece) → Contains c.pieces p → p.class ≡ class.Name → IsEdited edits p →
        kind_of_name (bytes_of (edited_text edits c.text) (new_piece edits p)) ≡ kind_of_name (bytes_of c.text p)
    by_edit p has name (kept spared) = ap kind_of_name (kept_bytes c edits cut are p has spared)
    by_edit p has name (put e at is) =
        let word = by_name e.text (subst (λ d. MayReplace d e.text) name (may_put c edits cut are e p has at is)) in
        ap kind_of_name (put_bytes c edits cut are e p at is)
        ∙ All-contains (λ (x : Edit). IsPiece class.Name x.text → kind_of_name x.text ≡ kind_of_name (slice_range c.text x.span.start x.span.end))
        edits e keep at word
        ∙ ap (λ (x : Span). kind_of_name (slice_range c.text x.start x.end)) is

pub file_stays : (path : List ℕ) (f : SourceFile) (edits : List Edit) → IsSourceFile f → AreReplacedPieces f.cut.pieces edits → KeepNameKinds f.cut edits →
    IsSourceFile (replaced_file path edits f)
file_stays path f edits is are keep =
    let same = sym (kinds_stay f.cut edits is.is_cut are keep) in
    record {
      is_cut = recut_cut f.cut edits is.is_cut are;
      is_tree = subst (IsTreeOf f.tree) same is.is_tree;
      whole = subst IsWhole same is.whole;
    }

pub files_keep_trees : ReplacedFilesKeepTrees
files_keep_trees path edits f is are keep = (file_stays path f edits is are keep, tokens_moved f.cut edits is.is_cut are)
