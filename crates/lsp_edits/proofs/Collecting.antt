-- Values that are collected, one after another.
use Rattle.std.proofs.Common.{ℕ, ◌≡◌, ◌∙◌, ◌<◌, ◌+◌, List, [], ◌∷◌, ◌++◌, get_or, length, map, take, refl, sym, ap, subst}
use Rattle.std.proofs.lemmas.List.{map-append, take_more}
use Rattle.serde_json.specs.Data.{Data, Members}
use Rattle.serde_json.specs.View.{view}
use Rattle.serde_json.specs.declared.value.Value.{Value}
use Rattle.base_edits.specs.declared.change.FileChange.{FileChange}
use Rattle.base_files.specs.Workspace.{Workspace}
use Rattle.lsp_edits.specs.Edits.{AreDocumentEdits, IsDocumentEdit, PutAllEdits, PutsEdits}
use Rattle.lsp_edits.specs.declared.telling.Telling.{Telling}

-- the first elements with the next one
pub take_next : {X : Type 0} (xs : List X) (i : ℕ) (x : X) → i < length xs → x ≡ get_or xs i x → take (i + 1) xs ≡ take i xs ++ x ∷ []
take_next xs i x below is = take_more xs i x below ∙ ap (λ y. take i xs ++ y ∷ []) (sym is)

-- one value more, of both lists
pub mapped_next : {X Y Z : Type 0} (f : X → Z) (g : Y → Z) (xs : List X) (ys new : List Y) (i : ℕ) (x : X) (y : Y)
    → i < length xs → x ≡ get_or xs i x → new ≡ ys ++ y ∷ [] → g y ≡ f x → map g ys ≡ map f (take i xs) → map g new ≡ map f (take (i + 1) xs)
mapped_next f g xs ys new i x y below is grown same so_far =
    ap (map g) grown
    ∙ map-append g ys (y ∷ [])
    ∙ ap (λ l. l ++ g y ∷ []) so_far
    ∙ ap (λ z. map f (take i xs) ++ z ∷ []) same
    ∙ sym (map-append f (take i xs) (x ∷ []))
    ∙ ap (map f) (sym (take_next xs i x below is))

module _ (telling : Telling) (w : Workspace) (change : FileChange) where
  -- one document more
  documents_push : (changes : List FileChange) (values : List Data) (value : Data) → AreDocumentEdits telling w changes values
      → IsDocumentEdit telling w change value → AreDocumentEdits telling w (changes ++ change ∷ []) (values ++ value ∷ [])
  documents_push [] values value h k = (value, [], k, refl, ap (λ l. l ++ value ∷ []) h)
  documents_push (first ∷ changes) values value h k =
      (h.0, h.1 ++ value ∷ [], h.2, documents_push changes h.1 value h.3 k, ap (λ l. l ++ value ∷ []) h.4)

  -- the same with the values that are collected
  pub documents_next : (changes : List FileChange) (i : ℕ) (old new : List Value) (value : Value) → i < length changes → change ≡ get_or changes i change
      → new ≡ old ++ value ∷ [] → IsDocumentEdit telling w change (view value) → AreDocumentEdits telling w (take i changes) (map view old)
      → AreDocumentEdits telling w (take (i + 1) changes) (map view new)
  documents_next changes i old new value below is grown told so_far =
      subst (λ l. AreDocumentEdits telling w l (map view new)) (sym (take_next changes i change below is))
      (subst (AreDocumentEdits telling w (take i changes ++ change ∷ [])) (sym (ap (map view) grown ∙ map-append view old (value ∷ [])))
      (documents_push (take i changes) (map view old) (view value) so_far told))

  -- one member more
  members_push : (changes : List FileChange) (old mid new : Members) → PutAllEdits telling w changes old mid
      → PutsEdits telling w change mid new → PutAllEdits telling w (changes ++ change ∷ []) old new
  members_push [] old mid new h k = (new, subst (λ m. PutsEdits telling w change m new) h k, refl)
  members_push (first ∷ changes) old mid new h k = (h.0, h.1, members_push changes h.0 mid new h.2 k)

  pub members_next : (changes : List FileChange) (i : ℕ) (old mid new : Members) → i < length changes → change ≡ get_or changes i change
      → PutsEdits telling w change mid new → PutAllEdits telling w (take i changes) old mid → PutAllEdits telling w (take (i + 1) changes) old new
  members_next changes i old mid new below is puts so_far =
      subst (λ l. PutAllEdits telling w l old new) (sym (take_next changes i change below is)) (members_push (take i changes) old mid new so_far puts)
