-- An input has one first message at most, and one rest after it.
use Rattle.std.proofs.Common.{◌≡◌, ℕ, ◌^◌, ◌≤◌, ◌<◌, List, [], ◌∷◌, take, drop, length, Option, None, Some, refl, sym, ap, ◌∙◌, arith, decimal, codes, inl, inr}
use Rattle.std.proofs.lemmas.Fmt.{decimal_injective}
use Rattle.base_files.specs.declared.limits.Limits.{Limits}
use Rattle.server_read.specs.declared.command.Command.{Command}
use Rattle.server_read.specs.declared.command.Command.TheVariants.{OnState, Wait, Status, Log}
use Rattle.server_read.specs.declared.command.StateCommand.TheVariants.{Look, Put, Del, Rename, Move, Undo, Redo, Cat, Uses, Faults, Object, Objects, Work}
use Rattle.server_read.specs.declared.command.StateCommand.TheVariants as state
use Rattle.server_read.specs.declared.message.Message.{Message}
use Rattle.server_read.specs.declared.message.Message.TheVariants.{Ask, Unknown, CutShort}
use Rattle.server_read.specs.Lines.{verb_of, args_of, place_word, FitsLine, IsCommandLine, size_after}
use Rattle.server_read.specs.Wire.{IsReadable, KeepsBody, SaysCommand, SaysLine, Says, Ends}
use Rattle.server_read.specs.Laws.{BeginsOneWay, ReadsOneWay}
use Rattle.server_read.specs.FirstLine.{first_line, after_line}
use Rattle.server_read.proofs.Places.{place_word_unique}
use Rattle.server_read.proofs.LineWords.{same_words, only_put, only_del, only_rename, only_move, only_undo, only_redo, only_cat, only_uses, only_look}
use Rattle.server_read.proofs.LineWords.{only_list, only_faults, only_object, only_objects, only_work, only_wait, only_status, only_log, end_is_none}

-- two lists of words that are equal have equal parts
head_of_two : (x y : List ℕ) (xs ys : List (List ℕ)) → x ∷ xs ≡ y ∷ ys → x ≡ y
head_of_two x y xs ys e = cc

tail_of_two : (x y : List ℕ) (xs ys : List (List ℕ)) → x ∷ xs ≡ y ∷ ys → xs ≡ ys
tail_of_two x y xs ys e = cc

same_basis : (a b : ℕ) (xs ys : List (List ℕ)) → a < 2 ^ 64 → b < 2 ^ 64 → decimal a ∷ xs ≡ decimal b ∷ ys → a ≡ b
same_basis a b xs ys h k e = decimal_injective a b h k (head_of_two (decimal a) (decimal b) xs ys e)

Same : Command → Command → Type 0
Same a b = FitsLine a → FitsLine b → args_of a ≡ args_of b → a ≡ b

same_line : (a b : Command) → verb_of b ≡ verb_of a → FitsLine a → FitsLine b → args_of a ≡ args_of b → a ≡ b
unfolding Same
same_line (OnState Look) b e = only_look b (Same (OnState Look)) e (λ h k f. refl)
same_line (OnState state.List) b e = only_list b (Same (OnState state.List)) e (λ h k f. refl)
same_line (OnState Faults) b e = only_faults b (Same (OnState Faults)) e (λ h k f. refl)
same_line (OnState Work) b e = only_work b (Same (OnState Work)) e (λ h k f. refl)
same_line Wait b e = only_wait b (Same Wait) e (λ h k f. refl)
same_line Status b e = only_status b (Same Status) e (λ h k f. refl)
same_line (OnState (Object path)) b e = only_object b (Same (OnState (Object path))) e (λ other h k f. ap (λ x. OnState (Object x)) (head_of_two path other
    [] [] f))
same_line (Log number) b e = only_log b (Same (Log number)) e (λ other h k f. ap (λ x. Log x) (same_basis number other [] [] h k f))
same_line (OnState (Undo basis)) b e = only_undo b (Same (OnState (Undo basis))) e (λ other h k f. ap (λ x. OnState (Undo x)) (same_basis basis other [] []
    h k f))
same_line (OnState (Redo basis)) b e = only_redo b (Same (OnState (Redo basis))) e (λ other h k f. ap (λ x. OnState (Redo x)) (same_basis basis other [] []
    h k f))
same_line (OnState (Objects basis)) b e = only_objects b (Same (OnState (Objects basis))) e (λ other h k f.
    ap (λ x. OnState (Objects x)) (same_basis basis other [] [] h k f))
same_line (OnState (Cat path)) b e = only_cat b (Same (OnState (Cat path))) e (λ other h k f. ap (λ x. OnState (Cat x)) (head_of_two path other [] [] f))
same_line (OnState (Uses path offset)) b e = only_uses b (Same (OnState (Uses path offset))) e (λ way other h k f.
    let same = place_word_unique path way offset other h.1 k.1 (head_of_two (place_word path offset) (place_word way other) [] [] f) in
    ap (λ x. OnState (Uses x offset)) same.0 ∙ ap (λ x. OnState (Uses way x)) same.1)
same_line (OnState (Del basis path)) b e = only_del b (Same (OnState (Del basis path))) e (λ other way h k f.
    let same = same_basis basis other (path ∷ []) (way ∷ []) h.0 k.0 f in
    let rest = head_of_two path way [] [] (tail_of_two (decimal basis) (decimal other) (path ∷ []) (way ∷ []) f) in
    cc)
same_line (OnState (Rename basis path offset name)) b e = only_rename b (Same (OnState (Rename basis path offset name))) e (λ other way count label h k f.
    let same = same_basis basis other (place_word path offset ∷ name ∷ []) (place_word way count ∷ label ∷ []) h.0 k.0 f in
    let rest = tail_of_two (decimal basis) (decimal other) (place_word path offset ∷ name ∷ []) (place_word way count ∷ label ∷ []) f in
    let same_place = place_word_unique path way offset count h.1.1 k.1.1
    (head_of_two (place_word path offset) (place_word way count) (name ∷ []) (label ∷ []) rest) in
    let same_name = head_of_two name label [] [] (tail_of_two (place_word path offset) (place_word way count) (name ∷ []) (label ∷ []) rest) in
    ap (λ x. OnState (Rename x path offset name)) same ∙ ap (λ x. OnState (Rename other x offset name)) same_place.0
    ∙ ap (λ x. OnState (Rename other way x name)) same_place.1 ∙ ap (λ x. OnState (Rename other way count x)) same_name)
same_line (OnState (Move basis from to)) b e = only_move b (Same (OnState (Move basis from to))) e (λ other way place h k f.
    let same = same_basis basis other (from ∷ to ∷ []) (way ∷ place ∷ []) h.0 k.0 f in
    let rest = tail_of_two (decimal basis) (decimal other) (from ∷ to ∷ []) (way ∷ place ∷ []) f in
    let same_from = head_of_two from way (to ∷ []) (place ∷ []) rest in
    let same_to = head_of_two to place [] [] (tail_of_two from way (to ∷ []) (place ∷ []) rest) in
    cc)
same_line (OnState (Put basis path size body)) b e = only_put b (Same (OnState (Put basis path size body))) e (λ other way count read h k f.
    let same = same_basis basis other (path ∷ decimal size ∷ []) (way ∷ decimal count ∷ []) h.0 k.0 f in
    let rest = tail_of_two (decimal basis) (decimal other) (path ∷ decimal size ∷ []) (way ∷ decimal count ∷ []) f in
    let same_path = head_of_two path way (decimal size ∷ []) (decimal count ∷ []) rest in
    let last = tail_of_two path way (decimal size ∷ []) (decimal count ∷ []) rest in
    let same_size = same_basis size count [] [] (omega (arith, h.2)) (omega (arith, k.2)) last in
    let same_body = h.3 ∙ sym k.3 in
    cc)

-- a text is one command line at most
pub line_unique : (text : List ℕ) (a b : Command) → IsCommandLine text a → IsCommandLine text b → a ≡ b
line_unique text a b h k =
    let same = same_words text a b h k in
    same_line a b (sym same.0) h.fits k.fits same.1

KeepsBody-unique : (limits : Limits) (path bytes : List ℕ) (a b : Option (List ℕ)) → KeepsBody limits path bytes a → KeepsBody limits path bytes b → a ≡ b
KeepsBody-unique limits path bytes None None h k = refl
KeepsBody-unique limits path bytes None (Some b) h k = absurd (h k.0)
KeepsBody-unique limits path bytes (Some a) None h k = absurd (k h.0)
KeepsBody-unique limits path bytes (Some a) (Some b) h k = ap Some (h.1 ∙ sym k.1)

-- a line and its bytes say one command at most
SaysCommand-unique : (limits : Limits) (said : Command) (bytes : List ℕ) (a b : Command) → SaysCommand limits said bytes a →
    SaysCommand limits said bytes b → a ≡ b
SaysCommand-unique limits (OnState (Put basis path size body)) bytes a b h k =
    h.2 ∙ ap (λ x. OnState (Put basis path size x)) (KeepsBody-unique limits path bytes h.0 k.0 h.1 k.1) ∙ sym k.2
SaysCommand-unique limits said bytes a b h k = h ∙ sym k

same_ask : (limits : Limits) (after rest other : List ℕ) (said same : Command) (a b : Command) → said ≡ same
    → SaysCommand limits said (take (size_after said) after) a → SaysCommand limits same (take (size_after same) after) b
    → rest ≡ drop (size_after said) after → other ≡ drop (size_after same) after → (Ask a ≡ Ask b) × (rest ≡ other)
same_ask limits after rest other said same a b e h k r s =
    let k' = rw (← e) at k in
    let s' = rw (← e) at s in
    (ap (λ x. Ask x) (SaysCommand-unique limits said (take (size_after said) after) a b h k'), r ∙ sym s')

cut_or_whole : (after : List ℕ) (said same : Command) → said ≡ same → size_after said ≤ length after → length after < size_after same → ⊥
cut_or_whole after said same e h k = absurd (omega (arith, ap size_after e, h, k))

pub SaysLine-unique : (limits : Limits) (text after : List ℕ) (m n : Message) (rest other : List ℕ)
    → SaysLine limits text after m rest → SaysLine limits text after n other → (m ≡ n) × (rest ≡ other)
SaysLine-unique limits text after (Ask a) (Ask b) rest other h k =
    same_ask limits after rest other h.0 k.0 a b (line_unique text h.0 k.0 h.2 k.2) h.4 k.4 h.5 k.5
SaysLine-unique limits text after (Ask a) Unknown rest other h k = absurd ((k.0 h.1).1 h.0 h.2)
SaysLine-unique limits text after (Ask a) CutShort rest other h k = absurd (cut_or_whole after h.0 k.0 (line_unique text h.0 k.0 h.2 k.2) h.3 k.3)
SaysLine-unique limits text after Unknown (Ask b) rest other h k = absurd ((h.0 k.1).1 k.0 k.2)
SaysLine-unique limits text after Unknown Unknown rest other h k = (refl, h.1 ∙ sym k.1)
SaysLine-unique limits text after Unknown CutShort rest other h k = absurd ((h.0 k.1).1 k.0 k.2)
SaysLine-unique limits text after CutShort (Ask b) rest other h k = absurd (cut_or_whole after k.0 h.0 (line_unique text k.0 h.0 k.2 h.2) k.3 h.3)
SaysLine-unique limits text after CutShort Unknown rest other h k = absurd ((k.0 h.1).1 h.0 h.2)
SaysLine-unique limits text after CutShort CutShort rest other h k = (refl, h.4 ∙ sym k.4)

pub Says-unique : BeginsOneWay
Says-unique limits input m n rest other h k = SaysLine-unique limits (first_line input) (after_line input) m n rest other h.1 k.1

-- the line `end` is no command's line
pub end_or_command : (text : List ℕ) (said : Command) → text ≡ codes "end" → IsCommandLine text said → ⊥
end_or_command text said e is_line = end_is_none said (rw e at is_line)

-- the line `end` says no message
end_says_none : (limits : Limits) (text after : List ℕ) (m : Message) (rest : List ℕ) → IsReadable limits text → text ≡ codes "end" →
    SaysLine limits text after m rest → ⊥
end_says_none limits text after (Ask a) rest readable e h = end_or_command text h.0 e h.2
end_says_none limits text after Unknown rest readable e h = (h.0 readable).0 e
end_says_none limits text after CutShort rest readable e h = end_or_command text h.0 e h.2

-- where a session ends no message begins
ends_or_says : (limits : Limits) (input : List ℕ) (m : Message) (rest end : List ℕ) → Ends limits input end → Says limits input m rest → ⊥
ends_or_says limits input m rest end e h = elim e [
  | inl over ↦ h.0 over.0
  | inr line ↦ end_says_none limits (first_line input) (after_line input) m rest line.0 line.1 h.1
]

pub Reads-unique : ReadsOneWay
Reads-unique limits input [] [] rest other end last h e k f = (refl, sym h ∙ k)
Reads-unique limits input [] (n ∷ ns) rest other end last h e k f =
    absurd (ends_or_says limits input n k.0 end (rw h e) k.1)
Reads-unique limits input (m ∷ ms) [] rest other end last h e k f =
    absurd (ends_or_says limits input m h.0 last (rw k f) h.1)
Reads-unique limits input (m ∷ ms) (n ∷ ns) rest other end last h e k f =
    let first = Says-unique limits input m n h.0 k.0 h.1 k.1 in
    let others = Reads-unique limits h.0 ms ns rest other end last h.2 e (rw first.1 k.2) f in
    (ap (λ x. x ∷ ms) first.0 ∙ ap (λ xs. n ∷ xs) others.0, others.1)
