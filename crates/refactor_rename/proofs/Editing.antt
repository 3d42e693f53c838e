-- The edits of a file, token by token.
use Rattle.std.proofs.Common.{◌≡◌, ℕ, ◌<◌, ◌≤◌, ◌+◌, inl, inr, List, [], ◌∷◌, ◌++◌, length, drop, get_or, sym, ap, subst, refl, ◌∙◌, add-one, arith}
use Rattle.std.proofs.Common.{length-append}
use Rattle.std.specs.Prelude.{Contains, Option, Some, None}
use Rattle.std.specs.declared.cmp.Ordering.TheVariants.{Equal, Less}
use Rattle.std.specs.List.Sorted.{IsStrictlySortedBy}
use Rattle.std.specs.Ordering.{nat_cmp}
use Rattle.std.specs.Cmp.{nat_cmp_is}
use Rattle.std.proofs.lemmas.List.Elements.{All-nil, All-push, All-head, All-tail, All-weaker, Contains-append_left, Contains-push, Contains-push_cases}
use Rattle.std.proofs.lemmas.Option.{same_Some, slice_get_within}
use Rattle.std.proofs.Math.Seq.{drop-cons}
use Rattle.go_scanner.specs.declared.piece.Piece.{Piece}
use Rattle.go_scanner.specs.CutText.{tokens_in}
use Rattle.go_scanner.specs.Spans.{FollowFrom, starts}
use Rattle.go_ast.specs.SourceFile.{SourceFile}
use Rattle.base_edits.specs.Edits.{AreInOrder, LieWithin}
use Rattle.base_lemmas.proofs.Elements.{first_in, later_in, nothing_in}
use Rattle.base_edits.specs.declared.edit.Edit.{Edit}
use Rattle.refs_binding.specs.Bindings.{AddsAll}
use Rattle.law_tokens.proofs.HeldBytes.{one_index}
use Rattle.refs_binding.proofs.AddingAll.{BelowAll, all_none, all_then, none_below, next_below}
use Rattle.refactor_rename.specs.declared.renamed.Literal.{Literal}
use Rattle.refactor_rename.specs.declared.renamed.Renamed.{Renamed}
use Rattle.refactor_rename.specs.Replacements.{IsNameBefore, apart, joined}
use Rattle.refactor_rename.specs.FileEdits.{AppendsEdit, stays, grows, AppendsEditsAt, AreFileEdits, EndBy, InsertsName, IsEditAt}
use Rattle.refactor_rename.specs.FileEdits.{IsLiteralAt, NoneTwice, RenamesToken}

-- one more edit

pub all_one : {X : Type 0} (a b : List X) (x : X) (P : X → Type 0) → b ≡ a ++ x ∷ [] → P x → ((y : X) → P y → x ≡ y) → AddsAll a b P
all_one a b x P e p one = record {
  keeps = λ y h. subst (λ l. Contains l y) (sym e) (Contains-append_left a (x ∷ []) y h);
  holds = λ y h. subst (λ l. Contains l y) (sym e) (subst (Contains (a ++ x ∷ [])) (one y h) (Contains-push a x));
  only = λ y h. elim (Contains-push_cases a x y (subst (λ l. Contains l y) e h)) [ inl o ↦ inl o | inr same ↦ inr (subst P same p) ];
}

order_push : (at n : ℕ) (a : List Edit) (e : Edit) → AreInOrder at a → LieWithin n a → at ≤ n → n ≤ e.span.start → e.span.start ≤ e.span.end →
    AreInOrder at (a ++ e ∷ [])
order_push at n [] e h ends le start end = (omega arith, end, tt)
order_push at n (x ∷ xs) e h ends le start end = (
  h.0,
  h.1,
  order_push x.span.end n xs e h.2 (All-tail (λ (d : Edit). d.span.end ≤ n) x xs ends) (All-head (λ (d : Edit). d.span.end ≤ n) x xs ends)
      start end,
)

within_more : (n m : ℕ) (a : List Edit) → n ≤ m → LieWithin n a → LieWithin m a
within_more n m a le h = All-weaker (λ (d : Edit). d.span.end ≤ n) (λ (d : Edit). d.span.end ≤ m) (λ d k. let less : d.span.end ≤ n = k in omega arith) a h

pub end_more : (a : List Edit) (n m : ℕ) → n ≤ m → EndBy a n → EndBy a m
end_more a n m le h = record { in_order = h.in_order; ends = within_more n m a le h.ends }

pub end_push : (a b : List Edit) (e : Edit) (n m : ℕ) → b ≡ a ++ e ∷ [] → EndBy a n → n ≤ e.span.start → e.span.start ≤ e.span.end → e.span.end ≤ m → EndBy b m
end_push a b e n m is h start end fits = subst (λ l. EndBy l m) (sym is) (record {
  in_order = order_push 0 n a e h.in_order h.ends (omega arith) start end;
  ends = All-push (λ (d : Edit). d.span.end ≤ m) a e (within_more n m a (omega arith) h.ends) fits;
})

-- one name before a literal

one_name_before : (f : SourceFile) (i : ℕ) (name a b : List ℕ) → IsNameBefore f i name a → IsNameBefore f i name b → a ≡ b
one_name_before f i name a b (apart p) (apart q) = refl
one_name_before f i name a b (apart p) (joined q) = absurd (p q)
one_name_before f i name a b (joined p) (apart q) = absurd (q p)
one_name_before f i name a b (joined p) (joined q) = refl

edit_is : (d e : Edit) → d.span ≡ e.span → d.text ≡ e.text → d ≡ e
edit_is d e s t = ap (λ x. record { span = x; text = d.text }) s ∙ ap (λ x. record { span = e.span; text = x }) t

pub one_insertion : (f : SourceFile) (r : Renamed) (i : ℕ) (d e : Edit) → InsertsName f r i d → InsertsName f r i e → d ≡ e
one_insertion f r i d e h k =
    let same : h.token ≡ k.token = same_Some h.token k.token (sym h.at ∙ k.at) in
    edit_is d e (h.span ∙ ap (λ (t : Piece). record { start = t.span.start; end = t.span.start }) same ∙ sym k.span)
    (one_name_before f i r.name d.text e.text h.text k.text)

-- A name before a literal is longer than the name.
not_the_name : (f : SourceFile) (i : ℕ) (name text : List ℕ) → IsNameBefore f i name text → text ≡ name → ⊥
not_the_name f i name _ (apart p) e =
    let blank : List ℕ = 32 ∷ [] in
    let same : length (name ++ blank) ≡ length name = ap length e in
    let single : length blank ≡ 1 = refl in
    omega (arith, same, single, length-append name blank)
not_the_name f i name _ (joined p) e =
    let blank : List ℕ = 32 ∷ [] in
    let same : length (blank ++ (name ++ blank)) ≡ length name = ap length e in
    let single : length blank ≡ 1 = refl in
    omega (arith, same, single, length-append blank (name ++ blank), length-append name blank)

one_replacement : (f : SourceFile) (r : Renamed) (i : ℕ) (d e : Edit) → RenamesToken f r i d → RenamesToken f r i e → d ≡ e
one_replacement f r i d e h k =
    let same : h.token ≡ k.token = same_Some h.token k.token (sym h.at ∙ k.at) in
    h.is_edit ∙ ap (λ (t : Piece). record { span = t.span; text = r.name }) same ∙ sym k.is_edit

-- One token at most is the literal.
pub one_literal : (o : Option Literal) (path : List ℕ) (i j : ℕ) → IsLiteralAt o path i → IsLiteralAt o path j → i ≡ j
one_literal None path i j h k = absurd h
one_literal (Some l) path i j h k = sym h.1 ∙ k.1

-- An edit is that of one token.

not_both : (f : SourceFile) (r : Renamed) (i j : ℕ) (e : Edit) → InsertsName f r i e → RenamesToken f r j e → ⊥
not_both f r i j e h k = not_the_name f i r.name e.text h.text (ap (λ (x : Edit). x.text) k.is_edit)

never_less : (n : ℕ) → nat_cmp n n ≡ Less → ⊥
never_less n less = let wrong : Equal ≡ Less = nat_cmp_is n n Equal refl ∙ less in cc

one_token : (f : SourceFile) (r : Renamed) → IsStrictlySortedBy nat_cmp (starts (tokens_in f.cut)) → (i j : ℕ) (e : Edit) → IsEditAt f r i e →
    IsEditAt f r j e → i ≡ j
one_token f r rise i j e (inl h) (inl k) = one_literal r.literal f.path i j h.is_literal k.is_literal
one_token f r rise i j e (inl h) (inr k) = absurd (not_both f r i j e h k)
one_token f r rise i j e (inr h) (inl k) = absurd (not_both f r j i e k h)
one_token f r rise i j e (inr h) (inr k) =
    one_index nat_cmp (λ (t : Piece). t.span.start) never_less (tokens_in f.cut) rise i j h.token k.token h.at k.at
    (sym (ap (λ (x : Edit). x.span.start) h.is_edit) ∙ ap (λ (x : Edit). x.span.start) k.is_edit)

-- what is appended

appended_all : (P : Edit → Type 0) (old new : List Edit) → ((d e : Edit) → P d → P e → d ≡ e) → AppendsEdit P old new → AddsAll old new P
appended_all P old _ one_at (stays empty) = all_none old P empty
appended_all P old _ one_at (grows e p) = all_one old (old ++ e ∷ []) e P refl p (λ y q. one_at e y p q)

once_push : (edits : List Edit) (e : Edit) → (Contains edits e → ⊥) → NoneTwice edits → NoneTwice (edits ++ e ∷ [])
once_push [] e other h = ((λ has. nothing_in e has), tt)
once_push (x ∷ xs) e other h = (
  (λ has. elim (Contains-push_cases xs e x has) [ inl there ↦ h.0 there | inr same ↦ other (subst (Contains (x ∷ xs)) (sym same) (first_in x xs)) ]),
  once_push xs e (λ has. other (later_in x xs e has)) h.1,
)

pub appended_once : (P : Edit → Type 0) (old new : List Edit) → ((e : Edit) → Contains old e → P e → ⊥) → NoneTwice old → AppendsEdit P old new →
    NoneTwice new
appended_once P old _ other h (stays empty) = h
appended_once P old _ other h (grows e p) = once_push old e (λ has. other e has p) h

module _ (f : SourceFile) (r : Renamed) (i : ℕ) (old new : List Edit) (h : AppendsEditsAt f r i old new) where
  inserts_all : AddsAll old h.between (InsertsName f r i)
  inserts_all = appended_all (InsertsName f r i) old h.between (λ d e p q. one_insertion f r i d e p q) h.inserts

  appends_all : AddsAll old new (IsEditAt f r i)
  appends_all =
      all_then old h.between new (InsertsName f r i) (RenamesToken f r i) inserts_all
      (appended_all (RenamesToken f r i) h.between new (λ d e p q. one_replacement f r i d e p q) h.replaces)

  -- No edit stands twice where none of the old edits is of the token.
  appends_once : ((e : Edit) → Contains old e → IsEditAt f r i e → ⊥) → NoneTwice old → NoneTwice new
  appends_once other once =
      appended_once (RenamesToken f r i) h.between new
      (λ e has k. elim (inserts_all.only e has) [ inl there ↦ other e there (inr k) | inr inserts ↦ not_both f r i i e inserts k ])
      (appended_once (InsertsName f r i) old h.between (λ e has k. other e has (inl k)) once h.inserts) h.replaces

-- the tokens so far

pub record Going (f : SourceFile) (r : Renamed) (ts : List Piece) (i : ℕ) (edits : List Edit) : Type 0 where
  pub at : ℕ
  pub end_by : EndBy edits at
  pub follow : FollowFrom at (drop i ts) (length f.cut.text)
  pub adds : AddsAll [] edits (BelowAll (IsEditAt f r) i)
  pub once : NoneTwice edits

pub going_first : (f : SourceFile) (r : Renamed) (ts : List Piece) (edits : List Edit) → edits ≡ [] → FollowFrom 0 ts (length f.cut.text) → Going f r ts 0 edits
going_first f r ts edits e follow = subst (Going f r ts 0) (sym e) (record {
  at = 0;
  end_by = record { in_order = tt; ends = All-nil (λ (d : Edit). d.span.end ≤ 0) };
  follow = follow;
  adds = none_below (IsEditAt f r) [];
  once = tt;
})

-- None of the edits so far is of a later token.
none_so_far : (f : SourceFile) (r : Renamed) (ts : List Piece) (i : ℕ) (old : List Edit) → IsStrictlySortedBy nat_cmp (starts (tokens_in f.cut)) →
    Going f r ts i old → (e : Edit) → Contains old e → IsEditAt f r i e → ⊥
none_so_far f r ts i old rise h e has is = elim (h.adds.only e has) [
  | inl nowhere ↦ nothing_in e nowhere
  | inr below ↦ (
      let less : below.0 < i = below.1 in
      let same : below.0 ≡ i = one_token f r rise below.0 i e below.2 is in
      omega arith)
]

pub follow_at : (ts : List Piece) (i at size : ℕ) (d : Piece) → i < length ts → FollowFrom at (drop i ts) size →
    (at ≤ (get_or ts i d).span.start) × ((get_or ts i d).span.start ≤ (get_or ts i d).span.end) × FollowFrom (get_or ts i d).span.end (drop (i + 1) ts) size
follow_at ts i at size d lt h =
    let e : drop i ts ≡ get_or ts i d ∷ drop (i + 1) ts = rw add-one (drop-cons ts i d lt) in
    subst (λ l. FollowFrom at l size) e h

pub going_next : (f : SourceFile) (r : Renamed) (ts : List Piece) (i : ℕ) (d : Piece) (old new : List Edit) →
    IsStrictlySortedBy nat_cmp (starts (tokens_in f.cut)) → i < length ts → Going f r ts i old →
    EndBy new (get_or ts i d).span.end → AppendsEditsAt f r i old new →
    Going f r ts (i + 1) new
going_next f r ts i d old new rise lt h ends added =
    record {
      at = (get_or ts i d).span.end;
      end_by = ends;
      follow = (follow_at ts i h.at (length f.cut.text) d lt h.follow).2;
      adds =
          next_below (IsEditAt f r) [] old new i h.adds (appends_all f r i old new added);
      once = appends_once f r i old new added (none_so_far f r ts i old rise h) h.once;
    }

-- all tokens

pub at_end : (n size : ℕ) (ts : List Piece) → FollowFrom n ts size → n ≤ size
at_end n size [] h = h
at_end n size (t ∷ ts) h =
    let one : n ≤ t.span.start = h.0 in
    let two : t.span.start ≤ t.span.end = h.1 in
    let rest = at_end t.span.end size ts h.2 in
    omega arith

within_tokens : (f : SourceFile) (r : Renamed) (i : ℕ) (e : Edit) → IsEditAt f r i e → i < length (tokens_in f.cut)
within_tokens f r i e (inl h) = slice_get_within (tokens_in f.cut) i h.token h.at
within_tokens f r i e (inr h) = slice_get_within (tokens_in f.cut) i h.token h.at

pub all_edits : (f : SourceFile) (r : Renamed) (ts : List Piece) (edits : List Edit) (n : ℕ) → ts ≡ tokens_in f.cut → n ≡ length ts → Going f r ts n edits →
    AreFileEdits f r edits
all_edits f r ts edits n e all h = record {
  end_by = end_more edits h.at (length f.cut.text) (at_end h.at (length f.cut.text) (drop n ts) h.follow) h.end_by;
  each = λ d. (
    (λ has. elim (h.adds.only d has) [
      | inl none ↦ let lt : none.0 < 0 = none.1 in let z : ⊥ = omega arith in absurd z
      | inr p ↦ (p.0, p.2)
    ]),
    (λ p. h.adds.holds d (p.0, (let lt = within_tokens f r p.0 d p.1 in omega (arith, all, ap length e)), p.1)),
  );
  once = h.once;
}
