-- What is published of documents, one after another, and what is kept of it.
use Rattle.std.proofs.Common.{ℕ, ◌≡◌, ◌∙◌, ◌<◌, ◌+◌, ◌||◌, zero, suc, Bool, true, false, arith, cond, List, []}
use Rattle.std.proofs.Common.{◌∷◌, ◌++◌, Option, Some, append_assoc, bytes_eq, get_or, length, map, option_map, string_bytes, take, refl, sym, ap, subst}
use Rattle.std.proofs.lemmas.Bool.{true≢false}
use Rattle.std.proofs.lemmas.List.{append-nil, map-append}
use Rattle.std.proofs.lemmas.Map.Text.{btree_map_updates_text}
use Rattle.std.specs.BTreeMap.{BTreeMap, UpdatesBy, get_by_text}
use Rattle.std.specs.Cmp.Lexicographic.{slice_cmp}
use Rattle.std.specs.Ordering.{nat_cmp}
use Rattle.std.specs.Prelude.{ℤ, String}
use Rattle.std.specs.String.{string_cmp}
use Rattle.std.specs.declared.alloc.Global.{Global}
use Rattle.serde_json.specs.Data.{Data, Items}
use Rattle.serde_json.specs.View.{items_view, view}
use Rattle.serde_json.specs.Written.{has_float, items_have_float}
use Rattle.serde_json.specs.declared.value.Value.{Value}
use Rattle.lsp_edits.proofs.Collecting.{take_next}
use Rattle.lsp_editor.specs.Publications.{IsButPublished, Keeps, KeepsOne, PublicationView, PublishedView, TellsAll, TellsOne, compact_line}
use Rattle.lsp_editor.specs.Publications.{compact_lines, kept_after, kept_at, kept_if, publication_of, publication_params, publication_view, published_view}
use Rattle.lsp_editor.specs.declared.editor.Editor.{Editor}
use Rattle.lsp_editor.specs.declared.editor.Published.{Published}
use Rattle.lsp_editor.specs.declared.publications.Publication.{Publication}

lines_push : (faults : List Value) (one : Value)
    → compact_lines (items_view (faults ++ one ∷ [])) ≡ compact_lines (items_view faults) ++ compact_line (view one)
lines_push [] one = append-nil (compact_line (view one))
lines_push (fault ∷ others) one =
    ap (λ l. compact_line (view fault) ++ l) (lines_push others one)
    ∙ sym (append_assoc (compact_line (view fault)) (compact_lines (items_view others)) (compact_line (view one)))

-- the lines of one fault more
pub lines_next : (faults : List Value) (i : ℕ) (one : Value) (old new : List ℕ) → i < length faults → one ≡ get_or faults i one
    → new ≡ old ++ compact_line (view one) → old ≡ compact_lines (items_view (take i faults)) → new ≡ compact_lines (items_view (take (i + 1) faults))
lines_next faults i one old new below is grown h =
    grown
    ∙ ap (λ l. l ++ compact_line (view one)) h
    ∙ sym (ap (λ l. compact_lines (items_view l)) (take_next faults i one below is) ∙ lines_push (take i faults) one)

kept_cases : (is_this : Bool) (kept : Published) (before : Option Published)
    → option_map published_view (cond is_this (Some kept) before) ≡ kept_if is_this (published_view kept) (option_map published_view before)
kept_cases true kept before = refl
kept_cases false kept before = refl

-- what is kept of a document is put into the map
pub kept_one : (name : List ℕ) (old new : BTreeMap (String Global) Published) (kept : Published)
    → UpdatesBy string_cmp (λ k. slice_cmp nat_cmp name (string_bytes k)) old new (Some kept) → (other : List ℕ)
    → option_map published_view (get_by_text new other)
    ≡ kept_if (bytes_eq name other) (published_view kept) (option_map published_view (get_by_text old other))
kept_one name old new kept updates other =
    ap (option_map published_view) (btree_map_updates_text name old new (Some kept) updates other)
    ∙ kept_cases (bytes_eq name other) kept (get_by_text old other)

-- what was published changed once more
pub published_twice : (old mid new : Editor) → IsButPublished old mid → IsButPublished mid new → IsButPublished old new
published_twice old mid new h k = k ∙ ap (λ (editor : Editor). record editor { published = new.published }) h

kept_push : (publications : List PublicationView) (one : PublicationView) (name : List ℕ) (before : Option PublishedView)
    → kept_after (publications ++ one ∷ []) name before ≡ kept_if (bytes_eq one.name name) one.kept (kept_after publications name before)
kept_push [] one name before = refl
kept_push (first ∷ others) one name before = kept_push others one name (kept_if (bytes_eq first.name name) first.kept before)

keeps_push : (publications : List PublicationView) (one : PublicationView) (old mid new : Editor) → Keeps publications old mid
    → KeepsOne one.name one.kept mid new → Keeps (publications ++ one ∷ []) old new
keeps_push publications one old mid new h k = (
  published_twice old mid new h.0 k.0,
  λ name. k.1 name
      ∙ ap (kept_if (bytes_eq one.name name) one.kept) (h.1 name)
      ∙ sym (kept_push publications one name (kept_at old name)),
)

keeps_next : (done : List Publication) (one : Publication) (old mid new : Editor) → Keeps (map publication_view done) old mid
    → KeepsOne (publication_view one).name (publication_view one).kept mid new → Keeps (map publication_view (done ++ one ∷ [])) old new
keeps_next done one old mid new h k =
    subst (λ (l : List PublicationView). Keeps l old new) (sym (map-append publication_view done (one ∷ [])))
    (keeps_push (map publication_view done) (publication_view one) old mid new h k)

params_next : (first mid new : List Data) (done : List Publication) (one : Publication)
    → mid ≡ first ++ map publication_params (map publication_view done) → new ≡ mid ++ publication_params (publication_view one) ∷ []
    → new ≡ first ++ map publication_params (map publication_view (done ++ one ∷ []))
params_next first mid new done one h k =
    k
    ∙ ap (λ l. l ++ publication_params (publication_view one) ∷ []) h
    ∙ append_assoc first (map publication_params (map publication_view done)) (publication_params (publication_view one) ∷ [])
    ∙ ap (λ l. first ++ l) (sym (ap (map publication_params) (map-append publication_view done (one ∷ []))
    ∙ map-append publication_params (map publication_view done) (publication_view one ∷ [])))

-- one document more is told of
pub told_next : (first mid new : List Data) (before between after : Editor) (done : List Publication) (one : Publication)
    → TellsAll (map publication_view done) first mid before between → TellsOne (publication_view one) mid new between after
    → TellsAll (map publication_view (done ++ one ∷ [])) first new before after
told_next first mid new before between after done one h k =
    (params_next first mid new done one h.0 k.0, keeps_next done one before between after h.1 k.1)

-- what is published, by its parts
pub same_publication : (publication : PublicationView) (name uri : List ℕ) (version : ℤ) (faults : Items) → publication.name ≡ name
    → publication.kept.uri ≡ uri → publication.kept.version ≡ version → publication.kept.lines ≡ compact_lines faults → publication.faults ≡ faults
    → publication ≡ publication_of name uri version faults
same_publication publication name uri version faults same_name same_uri same_version same_lines same_faults =
    ap (λ n. made n publication.kept.uri publication.kept.version publication.kept.lines publication.faults) same_name
    ∙ ap (λ u. made name u publication.kept.version publication.kept.lines publication.faults) same_uri
    ∙ ap (λ v. made name uri v publication.kept.lines publication.faults) same_version
    ∙ ap (λ l. made name uri version l publication.faults) same_lines
    ∙ ap (made name uri version (compact_lines faults)) same_faults
  where
    made : List ℕ → List ℕ → ℤ → List ℕ → Items → PublicationView
    made n u v l f = record { name = n; kept = record { uri = u; version = v; lines = l }; faults = f }

either_free : (a b : Bool) → a || b ≡ false → (a ≡ false) × (b ≡ false)
either_free true b h = absurd (true≢false h)
either_free false b h = (refl, h)

-- no line has a float
pub line_free : (faults : List Value) (i : ℕ) (one : Value) → items_have_float (items_view faults) ≡ false → i < length faults
    → has_float (view (get_or faults i one)) ≡ false
line_free [] i one h below = let none : i < 0 = below in absurd (omega (arith, none))
line_free (fault ∷ others) zero one h below = (either_free (has_float (view fault)) (items_have_float (items_view others)) h).0
line_free (fault ∷ others) (suc i) one h below =
    let more : suc i < suc (length others) = below in
    line_free others i one (either_free (has_float (view fault)) (items_have_float (items_view others)) h).1 (omega (arith, more))
