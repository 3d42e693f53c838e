-- Documents of which one changes.
use Rattle.std.proofs.Common.{◌≡◌, ◌≢◌, ◌∙◌, ℕ, true, false, List, Option, Some, Result, Ok, Err, refl, sym, subst}
use Rattle.std.specs.Prelude.{ℤ, OnOk, String, string_bytes}
use Rattle.std.specs.BTreeMap.{UpdatesBy}
use Rattle.std.specs.Cmp.Lexicographic.{slice_cmp}
use Rattle.std.specs.Ordering.{nat_cmp}
use Rattle.std.specs.Str.{bytes_eq}
use Rattle.std.specs.String.{string_cmp}
use Rattle.std.proofs.lemmas.Bool.{false_from_ne_true}
use Rattle.std.proofs.lemmas.Map.Text.{btree_map_updates_text}
use Rattle.std.proofs.lemmas.Slice.Eq.{bytes_eq-Decides}
use Rattle.lsp_position.specs.declared.units.PositionEncoding.{PositionEncoding}
use Rattle.lsp_documents.specs.Documents.{ChangesDocument, ChangesOpen, HoldsText, IsDocumentAfter, IsOnlyChange, OpensDocument, document_at}
use Rattle.lsp_documents.specs.declared.changes.TextChange.{TextChange}
use Rattle.lsp_documents.specs.declared.documents.Document.{Document}
use Rattle.lsp_documents.specs.declared.documents.Documents.{Documents}

pub on_ok : {T E : Type 0} (came : Result T E) {P Q : Type 0} → (P → Q) → OnOk came P → OnOk came Q
on_ok (Ok value) f h = f h
on_ok (Err fault) f h = tt

own : (name : List ℕ) → bytes_eq name name ≡ true
own name = (bytes_eq-Decides name name).1 refl

another : (name other : List ℕ) → other ≢ name → bytes_eq name other ≡ false
another name other apart = false_from_ne_true (bytes_eq name other) (λ e. apart (sym ((bytes_eq-Decides name other).0 e)))

module _ (name : List ℕ) (old new : Documents) (document : Option Document)
    (updates : UpdatesBy string_cmp (λ k. slice_cmp nat_cmp name (string_bytes k)) old.entries new.entries document) where
  pub only_change : IsOnlyChange name document old new
  only_change = record {
    here = rw (own name) at (btree_map_updates_text name old.entries new.entries document updates name);
    others = λ other apart. rw (another name other apart) at (btree_map_updates_text name old.entries new.entries document updates other);
  }

module _ (name uri : List ℕ) (version : ℤ) (text : List ℕ) (old new : Documents) (document : Document) (holds : HoldsText document uri version (Some text))
  where
    pub opened : IsOnlyChange name (Some document) old new → OpensDocument name uri version text old new
    opened h = (document, holds, h)

module _ (encoding : PositionEncoding) (name : List ℕ) (version : ℤ) (changes : List TextChange) (old new : Documents) (before after : Document)
    (found : Some before ≡ document_at old name) (follows : IsDocumentAfter encoding version changes before after) where
  pub changed : IsOnlyChange name (Some after) old new → ChangesDocument encoding name version changes old new
  changed h = subst (λ o. ChangesOpen o encoding name version changes old new) found (after, follows, h)
