-- Lists of JSON values, one value after another.
use Rattle.std.proofs.Common.{ℕ, ◌≡◌, ◌∙◌, ◌<◌, ◌+◌, Bool, true, false, ◌||◌, List, [], ◌∷◌}
use Rattle.std.proofs.Common.{◌++◌, Option, None, Some, length, drop, get_or, map, refl, sym, ap, subst, append_assoc}
use Rattle.std.specs.Prelude.{option_and_then, option_map}
use Rattle.std.proofs.lemmas.List.{drop_more, map-append}
use Rattle.serde_json.specs.Data.{Data, Items, item, no_items}
use Rattle.serde_json.specs.View.{items_of, items_view, view}
use Rattle.serde_json.specs.declared.value.Value.{Value}
use Rattle.lsp_documents.specs.declared.changes.TextChange.{TextChange}
use Rattle.lsp_params.specs.Changed.{ChangeView, change_in, change_view, changes_of, changes_view}
use Rattle.lsp_params.specs.Client.{is_utf8_name, lists_utf8}

-- the values from an index on: the one of the index, and those behind it
pub values_next : (values : List Value) (i : ℕ) (value : Value) → i < length values → value ≡ get_or values i value
    → items_view (drop i values) ≡ item (view value) (items_view (drop (i + 1) values))
values_next values i value below is =
    ap items_view (drop_more values i value below) ∙ ap (λ v. item (view v) (items_view (drop (i + 1) values))) (sym is)

-- the changes so far, and those of the values that are left
abbrev pub GoesOn : (whole left : Items) → List ChangeView → Type 0
GoesOn whole left so_far = changes_of whole ≡ option_map (λ others. so_far ++ others) (changes_of left)

unchanged : (found : Option (List ChangeView)) → found ≡ option_map (λ others. [] ++ others) found
unchanged None = refl
unchanged (Some others) = refl

pub goes_on_first : (whole : Items) → GoesOn whole whole []
goes_on_first whole = unchanged (changes_of whole)

joined : (so_far : List ChangeView) (one : ChangeView) (found : Option (List ChangeView))
    → option_map (λ l. so_far ++ l) (option_map (λ l. one ∷ l) found) ≡ option_map (λ l. (so_far ++ one ∷ []) ++ l) found
joined so_far one None = refl
joined so_far one (Some others) = ap Some (sym (append_assoc so_far (one ∷ []) others))

-- the changes of a value and of those behind it
abbrev first_and : Option (List ChangeView) → Option ChangeView → Option (List ChangeView)
first_and found first = option_and_then (λ one. option_map (λ others. one ∷ others) found) first

module _ (whole : Items) (values : List Value) (i : ℕ) (value : Value) (so_far : List ChangeView)
    (before : GoesOn whole (items_view (drop i values)) so_far) (below : i < length values) (is : value ≡ get_or values i value) where
  here : changes_of whole ≡ option_map (λ l. so_far ++ l) (first_and (changes_of (items_view (drop (i + 1) values))) (change_in (view value)))
  here = before ∙ ap (λ left. option_map (λ l. so_far ++ l) (changes_of left)) (values_next values i value below is)

  pub one_more : (one : ChangeView) → Some one ≡ change_in (view value) → GoesOn whole (items_view (drop (i + 1) values)) (so_far ++ one ∷ [])
  one_more one e =
      let left = changes_of (items_view (drop (i + 1) values)) in
      here ∙ ap (λ first. option_map (λ l. so_far ++ l) (first_and left first)) (sym e) ∙ joined so_far one left

  pub none_there : None ≡ change_in (view value) → None ≡ changes_of whole
  none_there e =
      let left = changes_of (items_view (drop (i + 1) values)) in
      sym (here ∙ ap (λ first. option_map (λ l. so_far ++ l) (first_and left first)) (sym e))

-- the views of the changes that are collected
pub views_next : (changes new : List TextChange) (change : TextChange) → new ≡ changes ++ change ∷ [] →
    changes_view new ≡ changes_view changes ++ change_view change ∷ []
views_next changes new change grown = ap changes_view grown ∙ map-append change_view changes (change ∷ [])

-- the last of the values was passed
nothing_behind : (so_far : List ChangeView) → Some so_far ≡ option_map (λ l. so_far ++ l) (changes_of no_items)
nothing_behind so_far = ap Some (sym (append_nil_changes so_far))
  where
    append_nil_changes : (l : List ChangeView) → l ++ [] ≡ l
    append_nil_changes [] = refl
    append_nil_changes (x ∷ l) = ap (λ r. x ∷ r) (append_nil_changes l)

pub all_read : (whole : Items) (left : Items) (so_far : List ChangeView) → GoesOn whole left so_far → left ≡ no_items → Some so_far ≡ changes_of whole
all_read whole left so_far before over = nothing_behind so_far ∙ sym (before ∙ ap (λ l. option_map (λ x. so_far ++ x) (changes_of l)) over)

module _ (values : List Value) (i : ℕ) (value : Value) (below : i < length values) (is : value ≡ get_or values i value) where
  -- a value that is the text, and one that is not
  pub found_utf8 : is_utf8_name (view value) ≡ true → lists_utf8 (items_view (drop i values)) ≡ true
  found_utf8 e = ap lists_utf8 (values_next values i value below is) ∙ ap (λ b. b || lists_utf8 (items_view (drop (i + 1) values))) e

  pub passed_utf8 : is_utf8_name (view value) ≡ false → lists_utf8 (items_view (drop i values)) ≡ lists_utf8 (items_view (drop (i + 1) values))
  passed_utf8 e = ap lists_utf8 (values_next values i value below is) ∙ ap (λ b. b || lists_utf8 (items_view (drop (i + 1) values))) e
