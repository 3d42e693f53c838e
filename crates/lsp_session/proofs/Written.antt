-- Messages that are written, one after another.
use Rattle.std.proofs.Common.{ℕ, ◌≡◌, ◌∙◌, ◌<◌, ◌≤◌, ◌+◌, List, [], ◌∷◌, ◌++◌, Option, None, Some, get_or, length, map, take, refl, sym, ap, subst}
use Rattle.std.proofs.lemmas.List.{map-append, take_all, take_more}
use Rattle.std.specs.Io.KnownBytes.{Appends, Keeps}
use Rattle.serde_json.specs.Data.{Data}
use Rattle.serde_json.specs.View.{view}
use Rattle.serde_json.specs.declared.value.Value.{Value}
use Rattle.lsp_session.specs.Messages.{WritesMessage, WritesMessages, published}

pub keeps_itself : (held : Option (List ℕ)) → Keeps held held
keeps_itself None = tt
keeps_itself (Some bytes) = refl

-- what was appended stays where all is sent
pub appends_kept : (held mid holds : Option (List ℕ)) (bytes : List ℕ) → Appends held mid bytes → Keeps mid holds → Appends held holds bytes
appends_kept None mid holds bytes h k = tt
appends_kept (Some xs) None holds bytes h k = absurd h
appends_kept (Some xs) (Some ys) None bytes h k = absurd k
appends_kept (Some xs) (Some ys) (Some zs) bytes h k = k ∙ h

unknown_before : (messages : List Data) (held holds : Option (List ℕ)) → WritesMessages messages held holds → WritesMessages messages None holds
unknown_before [] held holds h = tt
unknown_before (message ∷ messages) held holds h = (h.0, (h.1.0, h.1.1, tt), h.2)

writes_after : (messages : List Data) (held mid holds : Option (List ℕ)) → Keeps held mid → WritesMessages messages mid holds
    → WritesMessages messages held holds
writes_after messages None mid holds h k = unknown_before messages mid holds k
writes_after messages (Some xs) None holds h k = absurd h
writes_after messages (Some xs) (Some ys) holds h k = subst (λ l. WritesMessages messages (Some l) holds) h k

pub writes_both : (messages others : List Data) (held mid holds : Option (List ℕ)) → WritesMessages messages held mid
    → WritesMessages others mid holds → WritesMessages (messages ++ others) held holds
writes_both [] others held mid holds h k = writes_after others held mid holds h k
writes_both (message ∷ messages) others held mid holds h k = (h.0, h.1, writes_both messages others h.0 mid holds h.2 k)

pub writes_one : (message : Data) (held holds : Option (List ℕ)) → WritesMessage message held holds → WritesMessages (message ∷ []) held holds
writes_one message held holds h = (holds, h, keeps_itself holds)

pub published_none : (all : List Value) (held : Option (List ℕ)) → WritesMessages (map published (map view (take 0 all))) held held
published_none [] held = keeps_itself held
published_none (params ∷ all) held = keeps_itself held

pub published_all : (all : List Value) (i : ℕ) (held holds : Option (List ℕ)) → length all ≤ i
    → WritesMessages (map published (map view (take i all))) held holds → WritesMessages (map published (map view all)) held holds
published_all all i held holds over h = subst (λ l. WritesMessages (map published (map view l)) held holds) (take_all i all over) h

-- the faults of one document more are published
pub published_next : (all : List Value) (i : ℕ) (params : Value) (held mid holds : Option (List ℕ)) → i < length all → params ≡ get_or all i params
    → WritesMessage (published (view params)) mid holds → WritesMessages (map published (map view (take i all))) held mid
    → WritesMessages (map published (map view (take (i + 1) all))) held holds
published_next all i params held mid holds below is one before =
    let grown = take_more all i params below ∙ ap (λ y. take i all ++ y ∷ []) (sym is) in
    let told = ap (map published) (ap (map view) grown ∙ map-append view (take i all) (params ∷ []))
    ∙ map-append published (map view (take i all)) (view params ∷ []) in
    subst (λ l. WritesMessages l held holds) (sym told)
    (writes_both (map published (map view (take i all))) (published (view params) ∷ []) held mid holds before
    (writes_one (published (view params)) mid holds one))
