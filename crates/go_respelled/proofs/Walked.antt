-- One step of the walks that check and move.
use Rattle.std.proofs.Common.{ℕ, zero, suc, Bool, ◌≡◌, ◌+◌, ◌-◌, ◌^◌, ◌<◌, ◌≤◌, true, false, List, [], ◌∷◌, ◌++◌, length, take, drop, get_or, map}
use Rattle.std.proofs.Common.{refl, sym, ap, ◌∙◌, subst, arith, append_assoc, inl, inr}
use Rattle.std.specs.Prelude.{nat_eq}
use Rattle.std.proofs.lemmas.Bool.{false≢true}
use borrow.Author.Tests.{eqb-true}
use Rattle.std.specs.List.{All, slice_range}
use Rattle.std.proofs.lemmas.List.{drop_all, get_or-map, get_or_default, length-map, take_all, take-append-drop, take-take, append-nil, length-append}
use Rattle.std.proofs.lemmas.List.Elements.{All-nil, All-push}
use Rattle.std.proofs.Math.Seq.{take-add}
use Rattle.go_scanner.specs.declared.operators.Operator.TheVariants.{Semicolon}
use Rattle.go_scanner.specs.declared.piece.Class.{Class}
use Rattle.go_scanner.specs.declared.piece.Class.TheVariants.{InterpretedString, Operator}
use Rattle.go_scanner.specs.declared.piece.Piece.{Piece}
use Rattle.go_scanner.specs.Cuts.{IsCut, bytes_of}
use Rattle.go_scanner.specs.CutText.{CutText, HasTokens, token_at, tokens_in}
use Rattle.go_scanner.specs.Pieces.{IsPiece}
use Rattle.go_scanner.specs.Spans.{AreTokensInOrder, FollowFrom, IsTokenText}
use Rattle.go_scanner.specs.Tokens.{semicolon}
use Rattle.go_scanner.proofs.OneCutLemmas.{one_cut}
use Rattle.go_scanner.proofs.SpanLemmas.{follow_at, tokens_in_order}
use Rattle.go_ast.specs.SourceFile.{SourceFile, IsSourceFile}
use Rattle.base_files.specs.declared.place.Span.{Span}
use Rattle.base_edits.specs.Edits.{AreInOrder, edited_from, edited_text}
use Rattle.base_edits.specs.Moved.{moved_offset}
use Rattle.base_edits.specs.PassedEdits.{ArePast, PassedEdits}
use Rattle.base_edits.specs.declared.edit.Edit.{Edit}
use Rattle.base_edits.proofs.Steps.{drop_next, past_all, past_later, past_start, past_stops}
use Rattle.go_respelled.specs.PieceEdits.{ArePieceEdits, IsEncodedString}
use Rattle.go_respelled.specs.Renamings.{moved_piece, recut}
use Rattle.go_respelled.specs.Replaced.{AreFollowing, AreMoved, FitsMoved, GoesOn, IsBehindSame, IsMovedBy}
use Rattle.go_respelled.specs.Replaced.{IsTokenBehind, MovesBefore, PutsToken, ReplacesToken, Respell, passed}
use Rattle.go_respelled.specs.declared.between.TokenBehind.{TokenBehind}
use Rattle.go_respelled.specs.declared.moved.Cursor.{Cursor}
use Rattle.go_respelled.specs.Trees.{KeepKinds}
use Rattle.go_respelled.proofs.ByTokens.{edits_of_pieces}
use Rattle.go_respelled.proofs.Many.{new_cut}
use Rattle.go_respelled.proofs.MovedTokens.{tokens_stay}
use Rattle.go_respelled.proofs.Trees.{tree_stays}

-- the same bytes, some more of them

pub same_more : (one other : List ℕ) (n step : ℕ) → take n one ≡ take n other → slice_range one n (n + step) ≡ slice_range other n (n + step) →
    take (n + step) one ≡ take (n + step) other
same_more one other n step same more =
    let size : n + step - n ≡ step = omega arith in
    let next : take step (drop n one) ≡ take step (drop n other) =
    ap (λ k. take k (drop n one)) (sym size) ∙ more ∙ ap (λ k. take k (drop n other)) size in
    take-add n step one ∙ (λ i. same i ++ next i) ∙ sym (take-add n step other)

-- where the texts differ

pub same_before : (old : CutText) (at n : ℕ) (left : List ℕ) (t : TokenBehind) → take n (drop at old.text) ≡ take n left → n ≤ length left →
    IsTokenBehind (tokens_in old) at (at + n) t → IsBehindSame old at left t
same_before old at n left t same within behind =
    let less : t.same ≤ n = omega (arith, behind.before) in
    record {
      is_token = behind.is_token;
      place = behind.place;
      within = omega arith;
      alike = sym (take-take t.same n (drop at old.text) less) ∙ ap (take t.same) same ∙ take-take t.same n left less;
    }

pub same_to_end : (rest left : List ℕ) (n : ℕ) → take n rest ≡ take n left → n ≡ length rest → n ≡ length left → left ≡ rest
same_to_end rest left n same all whole = sym (take_all n left (omega arith)) ∙ sym same ∙ take_all n rest (omega arith)

-- a token with the same bytes before it

pub goes_behind : (old : CutText) (at : ℕ) (left : List ℕ) (t : TokenBehind) (e : Edit) → AreTokensInOrder old.text (tokens_in old) →
    IsBehindSame old at left t → PutsToken old t.number (drop t.same left) e → GoesOn old.text at e left (drop (length e.text) (drop t.same left))
goes_behind old at left t e order behind puts =
    let rest : List ℕ = drop t.same left in
    let start : e.span.start ≡ at + t.same = ap (λ (s : Span). s.start) puts.span ∙ behind.place in
    let size : t.same ≡ e.span.start - at = omega (arith, start) in
    let ends = subst (λ (s : Span). (s.start ≤ s.end) × (s.end ≤ length old.text)) (sym puts.span)
    (follow_at 0 (length old.text) (tokens_in old) t.number (semicolon 0) order.follow behind.is_token) in
    record {
      behind = omega (arith, start);
      order = ends.0;
      within = ends.1;
      is = sym (take-append-drop t.same left) ∙ ap (λ l. l ++ rest) (sym behind.alike) ∙ ap (λ k. take k (drop at old.text) ++ rest) size
          ∙ ap (λ l. slice_range old.text at e.span.start ++ l)
          (sym (take-append-drop (length e.text) rest) ∙ ap (λ l. l ++ drop (length e.text) rest) (sym puts.leads));
    }

-- The edits replace tokens. Further edits from `at` on, that make what is left of the new text, make the whole of it with them.
pub record RespellUpTo (old : CutText) (edits : List Edit) (new : List ℕ) (at : ℕ) (left : List ℕ) : Type 0 where
  pub inside : at ≤ length old.text
  pub order : (more : List Edit) → AreInOrder at more → AreInOrder 0 (edits ++ more)
  pub made : (more : List Edit) → left ≡ edited_from at more old.text → new ≡ edited_text (edits ++ more) old.text
  pub tokens : All (ReplacesToken old) edits

pub respell_none : (old : CutText) (edits : List Edit) (new : List ℕ) → edits ≡ [] → RespellUpTo old edits new 0 new
respell_none old edits new none = subst (λ es. RespellUpTo old es new 0 new) (sym none) (record {
  inside = omega arith;
  order = λ more order. order;
  made = λ more is. is;
  tokens = All-nil (ReplacesToken old);
})

pub respell_more : (old : CutText) (edits later : List Edit) (new : List ℕ) (at : ℕ) (left rest : List ℕ) (e : Edit) → later ≡ edits ++ e ∷ [] →
    GoesOn old.text at e left rest → ReplacesToken old e → RespellUpTo old edits new at left → RespellUpTo old later new e.span.end rest
respell_more old edits later new at left rest e grown goes replaces so_far =
    subst (λ es. RespellUpTo old es new e.span.end rest) (sym grown) (record {
      inside = goes.within;
      order = λ more order. subst (AreInOrder 0) (sym (append_assoc edits (e ∷ []) more)) (so_far.order (e ∷ more) (goes.behind, goes.order, order));
      made = λ more is. so_far.made (e ∷ more) (goes.is ∙ ap (λ l. slice_range old.text at e.span.start ++ (e.text ++ l)) is)
          ∙ ap (λ es. edited_text es old.text) (sym (append_assoc edits (e ∷ []) more));
      tokens = All-push (ReplacesToken old) edits e so_far.tokens replaces;
    })

pub respell_all : (old : CutText) (edits : List Edit) (new : List ℕ) (at : ℕ) (left : List ℕ) → RespellUpTo old edits new at left →
    left ≡ drop at old.text → Respell old edits new
respell_all old edits new at left so_far is = record {
  make = record {
    order = subst (AreInOrder 0) (append-nil edits) (so_far.order [] tt);
    made = so_far.made [] is ∙ ap (λ es. edited_text es old.text) (append-nil edits);
  };
  tokens = so_far.tokens;
}

-- the tokens moved so far

pub none_moved : (edits : List Edit) (tokens moved : List Piece) → AreInOrder 0 edits → AreFollowing tokens → moved ≡ [] →
    AreMoved edits tokens (record { edits = 0; old = 0; new = 0 }) moved
none_moved edits tokens moved order follow none = subst (AreMoved edits tokens (record { edits = 0; old = 0; new = 0 })) (sym none) (record {
  last = 0;
  size = follow.0;
  follow = follow.1;
  reached = past_start edits order;
  made = refl;
})

-- the next token
pub record IsNextToken (edits : List Edit) (past : PassedEdits) (t : Piece) : Type 0 where
  pub reached : ArePast edits t.span.start past
  pub order : t.span.start ≤ t.span.end
  pub behind : past.old ≤ t.span.start

pub next_token : (edits : List Edit) (tokens : List Piece) (c : Cursor) (moved : List Piece) (t : Piece) → length moved < length tokens →
    t ≡ get_or tokens (length moved) t → AreMoved edits tokens c moved → IsNextToken edits (passed c) t
next_token edits tokens c moved t lt is so_far =
    let follow = subst (λ ts. FollowFrom so_far.last ts so_far.size) (drop_next tokens (length moved) t lt is) so_far.follow in
    let reached = past_later edits so_far.last t.span.start (passed c) so_far.reached follow.0 in
    record { reached = reached; order = follow.1; behind = reached.behind }

pub moved_more : (edits : List Edit) (tokens : List Piece) (c later : Cursor) (moved more : List Piece) (t new : Piece) →
    length moved < length tokens → t ≡ get_or tokens (length moved) t → new ≡ moved_piece edits t → ArePast edits t.span.end (passed later) →
    more ≡ moved ++ new ∷ [] → AreMoved edits tokens c moved → AreMoved edits tokens later more
moved_more edits tokens c later moved more t new lt is put at grown so_far =
    let next = drop_next tokens (length moved) t lt is in
    let size : length more ≡ length moved + 1 = ap length grown ∙ length-append moved (new ∷ []) in
    let rest : List Piece = map (moved_piece edits) (drop (length moved + 1) tokens) in
    record {
      last = t.span.end;
      size = so_far.size;
      follow = subst (λ n. FollowFrom t.span.end (drop n tokens) so_far.size) (sym size)
          (subst (λ ts. FollowFrom so_far.last ts so_far.size) next so_far.follow).2;
      reached = at;
      made = ap (λ n. more ++ map (moved_piece edits) (drop n tokens)) size
          ∙ ap (λ l. l ++ rest) grown ∙ append_assoc moved (new ∷ []) rest ∙ ap (λ p. moved ++ p ∷ rest) put
          ∙ ap (λ ts. moved ++ map (moved_piece edits) ts) (sym next) ∙ so_far.made;
    }

-- a token that ends before the limit
pub moved_near : (edits : List Edit) (c : Cursor) (limit : ℕ) (t new : Piece) → ArePast edits t.span.start (passed c) → t.span.start ≤ t.span.end →
    t.span.end < limit → ((last : ℕ) → ArePast edits last (passed c) → MovesBefore edits last limit c) → IsMovedBy c t new → new ≡ moved_piece edits t
moved_near edits c limit t new past order within moves own =
    let before = moves t.span.start past in
    let start = before t.span.start (omega arith) (omega arith) in
    let end = before t.span.end order within in
    own ∙ (λ i. record { class = t.class; span = record { start = sym start i; end = sym end i } })

pub fits_near : (edits : List Edit) (c : Cursor) (limit : ℕ) (t : Piece) → ArePast edits t.span.start (passed c) → t.span.start ≤ t.span.end →
    t.span.end < limit → ((last : ℕ) → ArePast edits last (passed c) → MovesBefore edits last limit c) → FitsMoved edits t →
    c.new + (t.span.end - c.old) < 2 ^ 64
fits_near edits c limit t past order within moves fits = subst (λ n. n < 2 ^ 64) (moves t.span.start past t.span.end order within) fits.1

pub past_near : (edits : List Edit) (c : Cursor) (t : Piece) → ArePast edits t.span.start (passed c) → t.span.start ≤ t.span.end →
    ArePast edits t.span.end (passed c)
past_near edits c t past order = past_later edits t.span.start t.span.end (passed c) past order

pub moved_all : (edits : List Edit) (tokens : List Piece) (c : Cursor) (moved : List Piece) → length tokens ≤ length moved →
    AreMoved edits tokens c moved → moved ≡ map (moved_piece edits) tokens
moved_all edits tokens c moved all so_far =
    sym (append-nil moved) ∙ ap (λ ts. moved ++ map (moved_piece edits) ts) (sym (drop_all (length moved) tokens all)) ∙ so_far.made

-- where the next edit ends

pub before_none : (edits : List Edit) (c : Cursor) (limit : ℕ) → length edits ≤ c.edits → (last : ℕ) → ArePast edits last (passed c) →
    MovesBefore edits last limit c
before_none edits c limit all last past offset le lt = past_all edits offset (passed c) (past_later edits last offset (passed c) past le) all

pub before_next : (edits : List Edit) (c : Cursor) (e : Edit) → c.edits < length edits → e ≡ get_or edits c.edits e → (last : ℕ) →
    ArePast edits last (passed c) → MovesBefore edits last e.span.end c
before_next edits c e lt is last past offset le within =
    past_stops edits offset (passed c) e (past_later edits last offset (passed c) past le) lt is within

-- texts whose names and strings are replaced

pub edits_respell : (old : CutText) (edits : List Edit) (new : List ℕ) → Respell old edits new → ArePieceEdits old.pieces edits
edits_respell old edits new r = edits_of_pieces old edits r.make.order r.tokens

pub keep_kinds : (old : CutText) (edits : List Edit) (new : List ℕ) → Respell old edits new → KeepKinds old.text edits
keep_kinds old edits new r i e lt = (r.tokens i e lt).same_kind

pub has_tokens : (old : CutText) (edits : List Edit) (new : List ℕ) (tokens : List Piece) → IsCut old.text old.pieces → Respell old edits new →
    tokens ≡ map (moved_piece edits) (tokens_in old) → HasTokens new tokens
has_tokens old edits new tokens cut r is =
    let are = edits_respell old edits new r in
    let made : edited_text edits old.text ≡ new = sym r.make.made in
    subst (λ text. HasTokens text tokens) made (record {
      pieces = (recut edits old).pieces;
      is = record { cut = new_cut old edits cut are; tokens_are = is ∙ sym (tokens_stay old edits cut are) };
    })

-- the tokens move into the new text, so their ends are numbers of the machine

fit_at : (size limit start end : ℕ) → size < limit → start ≤ end → end ≤ size → (start ≤ end) × (end < limit)
fit_at size limit start end less order within = (order, omega arith)

fit_from : (edits : List Edit) (from size : ℕ) (ts : List Piece) → size < 2 ^ 64 → FollowFrom from (map (moved_piece edits) ts) size → All (FitsMoved edits) ts
fit_from edits from size ts less follow i d lt =
    let move = moved_piece edits in
    let many : i < length (map move ts) = subst (λ n. i < n) (sym (length-map ts move)) lt in
    let at = subst (λ (p : Piece). (p.span.start ≤ p.span.end) × (p.span.end ≤ size)) (get_or-map move ts i d (move d) lt)
    (follow_at from size (map move ts) i (move d) follow many) in
    fit_at size (2 ^ 64) (moved_offset edits (get_or ts i d).span.start) (moved_offset edits (get_or ts i d).span.end) less at.0 at.1

pub tokens_fit : (old : CutText) (edits : List Edit) (new : List ℕ) → IsCut old.text old.pieces → Respell old edits new → length new < 2 ^ 64 →
    All (FitsMoved edits) (tokens_in old)
tokens_fit old edits new cut r less =
    let are = edits_respell old edits new r in
    let text : List ℕ = edited_text edits old.text in
    let order = tokens_in_order text (recut edits old).pieces (new_cut old edits cut are) in
    fit_from edits 0 (length text) (tokens_in old) (subst (λ (l : List ℕ). length l < 2 ^ 64) r.make.made less)
    (subst (λ ts. FollowFrom 0 ts (length text)) (tokens_stay old edits cut are) order.follow)

-- the new text has no other cut
pub only_recut : (old : CutText) (edits : List Edit) (new : List ℕ) (c : CutText) → IsCut old.text old.pieces → Respell old edits new → c.text ≡ new →
    IsCut c.text c.pieces → c ≡ recut edits old
only_recut old edits new c cut r text is =
    let are = edits_respell old edits new r in
    let same : c.text ≡ edited_text edits old.text = text ∙ r.make.made in
    let pieces = one_cut (edited_text edits old.text) c.pieces (recut edits old).pieces (subst (λ l. IsCut l c.pieces) same is) (new_cut old edits cut are) in
    λ i. record { text = same i; pieces = pieces i }

pub respelled_file : (path : List ℕ) (f : SourceFile) (edits : List Edit) (new : List ℕ) (c : CutText) → IsSourceFile f → Respell f.cut edits new →
    c ≡ recut edits f.cut → IsSourceFile (record { path = path; cut = c; tree = f.tree })
respelled_file path f edits new c is r same =
    let stays = tree_stays f edits is (edits_respell f.cut edits new r) (keep_kinds f.cut edits new r) in
    subst (λ (x : CutText). IsSourceFile (record { path = path; cut = x; tree = f.tree })) (sym same)
    (record { is_cut = stays.is_cut; is_tree = stays.is_tree; whole = stays.whole })

-- strings

apart_classes : InterpretedString ≡ Operator Semicolon → ⊥
apart_classes e = cc

-- a text of one string token is that string
pub one_string : (c : CutText) (t : Piece) (bytes : List ℕ) → bytes ≡ bytes_of c.text t → IsTokenText t.class bytes → t.class ≡ InterpretedString →
    t.span.start ≡ 0 → t.span.end ≡ length c.text → IsCut c.text c.pieces → IsEncodedString c.text
one_string c t bytes is (inl text) class start end cut =
    let size : t.span.end - t.span.start ≡ length c.text = omega (arith, start, end) in
    let whole : bytes ≡ c.text = is ∙ (λ i. take (size i) (drop (start i) c.text)) ∙ take_all (length c.text) c.text (omega arith) in
    record { piece = subst (IsPiece InterpretedString) whole (subst (λ (k : Class). IsPiece k bytes) class text); encoded = cut.encoded }
one_string c t bytes is (inr none) class start end cut = let wrong = sym class ∙ none.0 in absurd (apart_classes wrong)

has_one : (n : ℕ) (b : Bool) → b ≡ nat_eq n 0 → b ≡ false → 0 < n
has_one zero b is none = absurd (false≢true (sym none ∙ is))
has_one (suc n) b is none = omega arith

pub first_string : (c : CutText) (tokens : List Piece) (d t : Piece) (bytes whole : List ℕ) (b : Bool) → b ≡ nat_eq (length tokens) 0 → b ≡ false →
    tokens ≡ tokens_in c → t ≡ get_or tokens 0 d → bytes ≡ bytes_of c.text (token_at c 0) → IsTokenText (token_at c 0).class bytes →
    t.class ≡ InterpretedString → t.span.start ≡ 0 → whole ≡ c.text → nat_eq t.span.end (length whole) ≡ true → IsCut c.text c.pieces →
    IsEncodedString c.text
first_string c tokens d t bytes whole b is some same read spelled text class start all end cut =
    let here : 0 < length (tokens_in c) = subst (λ ts. 0 < length ts) same (has_one (length tokens) b is some) in
    let first : t ≡ token_at c 0 = read ∙ ap (λ ts. get_or ts 0 d) same ∙ get_or_default (tokens_in c) 0 d (semicolon 0) here in
    let size : t.span.end ≡ length c.text = eqb-true t.span.end (length whole) end ∙ ap length all in
    one_string c (token_at c 0) bytes spelled text (ap (λ (x : Piece). x.class) (sym first) ∙ class)
    (ap (λ (x : Piece). x.span.start) (sym first) ∙ start) (ap (λ (x : Piece). x.span.end) (sym first) ∙ size) cut
