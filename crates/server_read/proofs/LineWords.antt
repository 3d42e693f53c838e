-- The words of a command's line.
use Rattle.std.proofs.Common.{◌≡◌, ◌≢◌, ℕ, ◌+◌, ◌*◌, ◌<◌, List, [], ◌∷◌, ◌++◌, Option, None, Some, refl, sym, ap, ◌∙◌, arith, decimal, codes}
use Rattle.std.specs.List.{AllByRecursion}
use Rattle.server_read.specs.declared.command.Command.{Command}
use Rattle.server_read.specs.declared.command.Command.TheVariants.{OnState, Wait, Status, Log}
use Rattle.server_read.specs.declared.command.StateCommand.TheVariants.{Look, Put, Del, Rename, Move, Undo, Redo, Cat, Uses, Faults, Object, Objects, Work}
use Rattle.server_read.specs.declared.command.StateCommand.TheVariants as state
use Rattle.server_read.specs.Words.{HasNoSpace, spaced}
use Rattle.server_read.specs.Lines.{verb_of, args_of, place_word, FitsLine, IsCommandLine}
use Rattle.server_read.specs.Parsing.{HasWords, ParsesArgs, ParsesLine, IsSpaced}
use Rattle.server_read.proofs.Words.{split_unique, no_space, decimal_word}
use Rattle.server_read.proofs.Places.{place_word_no_space}

abbrev HaveNoSpace : List (List ℕ) → Type 0
HaveNoSpace = AllByRecursion HasNoSpace

is_letters : (n : ℕ) → 32 < n → n ≢ 32
is_letters n h = λ e. absurd (omega (arith, h, e))

three : (a b c : ℕ) → 32 < a → 32 < b → 32 < c → HasNoSpace (a ∷ b ∷ c ∷ [])
three a b c h i j = (is_letters a h, (is_letters b i, (is_letters c j, tt)))

four : (a b c d : ℕ) → 32 < a → 32 < b → 32 < c → 32 < d → HasNoSpace (a ∷ b ∷ c ∷ d ∷ [])
four a b c d h i j k = (is_letters a h, (is_letters b i, (is_letters c j, (is_letters d k, tt))))

six : (a b c d e f : ℕ) → 32 < a → 32 < b → 32 < c → 32 < d → 32 < e → 32 < f → HasNoSpace (a ∷ b ∷ c ∷ d ∷ e ∷ f ∷ [])
six a b c d e f h i j k l m = (is_letters a h, (is_letters b i, (is_letters c j, (is_letters d k, (is_letters e l, (is_letters f m, tt))))))

seven : (a b c d e f g : ℕ) → 32 < a → 32 < b → 32 < c → 32 < d → 32 < e → 32 < f → 32 < g → HasNoSpace (a ∷ b ∷ c ∷ d ∷ e ∷ f ∷ g ∷ [])
seven a b c d e f g h i j k l m n = (is_letters a h, six b c d e f g i j k l m n)

pub verb_no_space : (command : Command) → HasNoSpace (verb_of command)
verb_no_space (OnState Look) = four 108 111 111 107 (omega arith) (omega arith) (omega arith) (omega arith)
verb_no_space (OnState (Put basis path size body)) = three 112 117 116 (omega arith) (omega arith) (omega arith)
verb_no_space (OnState (Del basis path)) = three 100 101 108 (omega arith) (omega arith) (omega arith)
verb_no_space (OnState (Rename basis path offset name)) = six 114 101 110 97 109 101 (omega arith) (omega arith) (omega arith) (omega arith) (omega arith)
    (omega arith)
verb_no_space (OnState (Move basis from to)) = four 109 111 118 101 (omega arith) (omega arith) (omega arith) (omega arith)
verb_no_space (OnState (Undo basis)) = four 117 110 100 111 (omega arith) (omega arith) (omega arith) (omega arith)
verb_no_space (OnState (Redo basis)) = four 114 101 100 111 (omega arith) (omega arith) (omega arith) (omega arith)
verb_no_space (OnState (Cat path)) = three 99 97 116 (omega arith) (omega arith) (omega arith)
verb_no_space (OnState (Uses path offset)) = four 117 115 101 115 (omega arith) (omega arith) (omega arith) (omega arith)
verb_no_space (OnState state.List) = four 108 105 115 116 (omega arith) (omega arith) (omega arith) (omega arith)
verb_no_space (OnState Faults) = six 102 97 117 108 116 115 (omega arith) (omega arith) (omega arith) (omega arith) (omega arith) (omega arith)
verb_no_space (OnState (Object path)) = six 111 98 106 101 99 116 (omega arith) (omega arith) (omega arith) (omega arith) (omega arith) (omega arith)
verb_no_space (OnState (Objects basis)) =
    seven 111 98 106 101 99 116 115 (omega arith) (omega arith) (omega arith) (omega arith) (omega arith) (omega arith) (omega arith)
verb_no_space (OnState Work) = four 119 111 114 107 (omega arith) (omega arith) (omega arith) (omega arith)
verb_no_space Wait = four 119 97 105 116 (omega arith) (omega arith) (omega arith) (omega arith)
verb_no_space Status = six 115 116 97 116 117 115 (omega arith) (omega arith) (omega arith) (omega arith) (omega arith) (omega arith)
verb_no_space (Log number) = three 108 111 103 (omega arith) (omega arith) (omega arith)

args_no_space : (command : Command) → FitsLine command → HaveNoSpace (args_of command)
args_no_space (OnState Look) h = tt
args_no_space (OnState (Put basis path size body)) h = (decimal_word basis h.0, (h.1.1, (decimal_word size (omega (arith, h.2)), tt)))
args_no_space (OnState (Del basis path)) h = (decimal_word basis h.0, (h.1.1, tt))
args_no_space (OnState (Rename basis path offset name)) h = (decimal_word basis h.0, (place_word_no_space path offset h.1.0 h.1.1, (h.2.1, tt)))
args_no_space (OnState (Move basis from to)) h = (decimal_word basis h.0, (h.1.1, (h.2.1, tt)))
args_no_space (OnState (Undo basis)) h = (decimal_word basis h, tt)
args_no_space (OnState (Redo basis)) h = (decimal_word basis h, tt)
args_no_space (OnState (Cat path)) h = (h.1, tt)
args_no_space (OnState (Uses path offset)) h = (place_word_no_space path offset h.0 h.1, tt)
args_no_space (OnState state.List) h = tt
args_no_space (OnState Faults) h = tt
args_no_space (OnState (Object path)) h = (h.1, tt)
args_no_space (OnState (Objects basis)) h = (decimal_word basis h, tt)
args_no_space (OnState Work) h = tt
args_no_space Wait h = tt
args_no_space Status h = tt
args_no_space (Log number) h = (decimal_word number h, tt)

-- a line has one list of words at most
spaced_unique : (v : List ℕ) (vs : List (List ℕ)) (w : List ℕ) (ws : List (List ℕ)) → HasNoSpace v → HaveNoSpace vs → HasNoSpace w → HaveNoSpace ws
    → spaced v vs ≡ spaced w ws → (v ≡ w) × (vs ≡ ws)
spaced_unique v [] w [] h hs k ks e = (e, refl)
spaced_unique v [] w (b ∷ ws) h hs k ks e = absurd (no_space v w (spaced b ws) h e)
spaced_unique v (a ∷ vs) w [] h hs k ks e = absurd (no_space w v (spaced a vs) k (sym e))
spaced_unique v (a ∷ vs) w (b ∷ ws) h hs k ks e =
    let first = split_unique v (spaced a vs) w (spaced b ws) h k e in
    let others = spaced_unique a vs b ws hs.0 hs.1 ks.0 ks.1 first.1 in
    (first.0, ap (λ x. x ∷ vs) others.0 ∙ ap (λ xs. b ∷ xs) others.1)

pub same_words : (text : List ℕ) (a b : Command) → IsCommandLine text a → IsCommandLine text b → (verb_of a ≡ verb_of b) × (args_of a ≡ args_of b)
same_words text a b h k =
    spaced_unique (verb_of a) (args_of a) (verb_of b) (args_of b) (verb_no_space a) (args_no_space a h.fits) (verb_no_space b) (args_no_space b k.fits)
    (sym h.spelled ∙ k.spelled)

-- equal words have equal weights
abbrev weight : List ℕ → ℕ
weight [] = 0
weight (x ∷ xs) = x + 256 * weight xs

-- the commands whose lines begin with a given word
pub only_put : (command : Command) (P : Command → Type 0) → verb_of command ≡ codes "put" →
    ((basis : ℕ) (path : List ℕ) (size : ℕ) (body : Option (List ℕ)) → P (OnState (Put basis path size body))) → P command
only_put (OnState (Put basis path size body)) P e h = h basis path size body
only_put command P e h = absurd (omega (arith, ap weight e))

pub only_del : (command : Command) (P : Command → Type 0) → verb_of command ≡ codes "del" → ((basis : ℕ) (path : List ℕ) → P (OnState (Del basis path))) →
    P command
only_del (OnState (Del basis path)) P e h = h basis path
only_del command P e h = absurd (omega (arith, ap weight e))

pub only_rename : (command : Command) (P : Command → Type 0) → verb_of command ≡ codes "rename" →
    ((basis : ℕ) (path : List ℕ) (offset : ℕ) (name : List ℕ) → P (OnState (Rename basis path offset name))) → P command
only_rename (OnState (Rename basis path offset name)) P e h = h basis path offset name
only_rename command P e h = absurd (omega (arith, ap weight e))

pub only_move : (command : Command) (P : Command → Type 0) → verb_of command ≡ codes "move" →
    ((basis : ℕ) (from to : List ℕ) → P (OnState (Move basis from to))) → P command
only_move (OnState (Move basis from to)) P e h = h basis from to
only_move command P e h = absurd (omega (arith, ap weight e))

pub only_undo : (command : Command) (P : Command → Type 0) → verb_of command ≡ codes "undo" → ((basis : ℕ) → P (OnState (Undo basis))) → P command
only_undo (OnState (Undo basis)) P e h = h basis
only_undo command P e h = absurd (omega (arith, ap weight e))

pub only_redo : (command : Command) (P : Command → Type 0) → verb_of command ≡ codes "redo" → ((basis : ℕ) → P (OnState (Redo basis))) → P command
only_redo (OnState (Redo basis)) P e h = h basis
only_redo command P e h = absurd (omega (arith, ap weight e))

pub only_cat : (command : Command) (P : Command → Type 0) → verb_of command ≡ codes "cat" → ((path : List ℕ) → P (OnState (Cat path))) → P command
only_cat (OnState (Cat path)) P e h = h path
only_cat command P e h = absurd (omega (arith, ap weight e))

pub only_uses : (command : Command) (P : Command → Type 0) → verb_of command ≡ codes "uses" →
    ((path : List ℕ) (offset : ℕ) → P (OnState (Uses path offset))) → P command
only_uses (OnState (Uses path offset)) P e h = h path offset
only_uses command P e h = absurd (omega (arith, ap weight e))

pub only_look : (command : Command) (P : Command → Type 0) → verb_of command ≡ codes "look" → P (OnState Look) → P command
only_look (OnState Look) P e h = h
only_look command P e h = absurd (omega (arith, ap weight e))

pub only_list : (command : Command) (P : Command → Type 0) → verb_of command ≡ codes "list" → P (OnState state.List) → P command
only_list (OnState state.List) P e h = h
only_list command P e h = absurd (omega (arith, ap weight e))

pub only_faults : (command : Command) (P : Command → Type 0) → verb_of command ≡ codes "faults" → P (OnState Faults) → P command
only_faults (OnState Faults) P e h = h
only_faults command P e h = absurd (omega (arith, ap weight e))

pub only_object : (command : Command) (P : Command → Type 0) → verb_of command ≡ codes "object" → ((path : List ℕ) → P (OnState (Object path))) → P command
only_object (OnState (Object path)) P e h = h path
only_object command P e h = absurd (omega (arith, ap weight e))

pub only_objects : (command : Command) (P : Command → Type 0) → verb_of command ≡ codes "objects" → ((basis : ℕ) → P (OnState (Objects basis))) → P command
only_objects (OnState (Objects basis)) P e h = h basis
only_objects command P e h = absurd (omega (arith, ap weight e))

pub only_work : (command : Command) (P : Command → Type 0) → verb_of command ≡ codes "work" → P (OnState Work) → P command
only_work (OnState Work) P e h = h
only_work command P e h = absurd (omega (arith, ap weight e))

pub only_status : (command : Command) (P : Command → Type 0) → verb_of command ≡ codes "status" → P Status → P command
only_status Status P e h = h
only_status (OnState Look) P e h = absurd (omega (arith, ap weight e))
only_status command P e h = absurd (omega (arith, ap weight e))

pub only_wait : (command : Command) (P : Command → Type 0) → verb_of command ≡ codes "wait" → P Wait → P command
only_wait Wait P e h = h
only_wait (OnState Look) P e h = absurd (omega (arith, ap weight e))
only_wait command P e h = absurd (omega (arith, ap weight e))

pub only_log : (command : Command) (P : Command → Type 0) → verb_of command ≡ codes "log" → ((number : ℕ) → P (Log number)) → P command
only_log (Log number) P e h = h number
only_log (OnState Look) P e h = absurd (omega (arith, ap weight e))
only_log command P e h = absurd (omega (arith, ap weight e))

pub no_verb_end : (command : Command) → verb_of command ≡ codes "end" → ⊥
no_verb_end (OnState Look) e = absurd (omega (arith, ap weight e))
no_verb_end command e = absurd (omega (arith, ap weight e))

-- the line `end` is no command's line
pub end_is_none : (command : Command) → IsCommandLine (codes "end") command → ⊥
end_is_none command h =
    let same = spaced_unique (codes "end") [] (verb_of command) (args_of command) (three 101 110 100 (omega arith) (omega arith) (omega arith)) tt
    (verb_no_space command) (args_no_space command h.fits) h.spelled in
    no_verb_end command (sym same.0)

-- no command of this first word has these words after it, where they are not of its form
pub put_words : (words : List ℕ) → ((basis : ℕ) (path : List ℕ) (size : ℕ) → FitsLine (OnState (Put basis path size None)) →
    words ≡ decimal basis ++ 32 ∷ (path ++ 32 ∷ decimal size) → ⊥)
    → (command : Command) → HasWords (codes "put") words command → ⊥
put_words words never command h = only_put command (λ c. FitsLine c → IsSpaced (args_of c) words → ⊥) h.first
    (λ basis path size body fits. never basis path size (fits.0, fits.1, fits.2, refl)) h.fits h.others

pub del_words : (words : List ℕ) → ((basis : ℕ) (path : List ℕ) → FitsLine (OnState (Del basis path)) → words ≡ decimal basis ++ 32 ∷ path → ⊥)
    → (command : Command) → HasWords (codes "del") words command → ⊥
del_words words never command h = only_del command (λ c. FitsLine c → IsSpaced (args_of c) words → ⊥) h.first never h.fits h.others

pub rename_words : (words : List ℕ)
    → ((basis : ℕ) (path : List ℕ) (offset : ℕ) (name : List ℕ) → FitsLine (OnState (Rename basis path offset name)) →
    words ≡ decimal basis ++ 32 ∷ (place_word path offset ++ 32 ∷ name) → ⊥)
    → (command : Command) → HasWords (codes "rename") words command → ⊥
rename_words words never command h = only_rename command (λ c. FitsLine c → IsSpaced (args_of c) words → ⊥) h.first never h.fits h.others

pub move_words : (words : List ℕ) → ((basis : ℕ) (from to : List ℕ) → FitsLine (OnState (Move basis from to)) →
    words ≡ decimal basis ++ 32 ∷ (from ++ 32 ∷ to) → ⊥)
    → (command : Command) → HasWords (codes "move") words command → ⊥
move_words words never command h = only_move command (λ c. FitsLine c → IsSpaced (args_of c) words → ⊥) h.first never h.fits h.others

-- a line with a space has more than one word
spelled_by : (text verb words first : List ℕ) (others : List (List ℕ)) → text ≡ verb ++ 32 ∷ words → first ≡ verb → IsSpaced others words →
    text ≡ spaced first others
spelled_by text verb words first [] e f h = absurd h
spelled_by text verb words first (a ∷ others) e f h = e ∙ ap (λ v. v ++ 32 ∷ words) (sym f) ∙ ap (λ l. first ++ 32 ∷ l) h

words_of_split : (text verb words first : List ℕ) (others : List (List ℕ)) → text ≡ verb ++ 32 ∷ words → HasNoSpace verb → HasNoSpace first →
    text ≡ spaced first others
    → (first ≡ verb) × IsSpaced others words
words_of_split text verb words first [] e h k f = absurd (no_space first verb words k (sym f ∙ e))
words_of_split text verb words first (a ∷ others) e h k f =
    let same = split_unique verb words first (spaced a others) h k (sym e ∙ f) in
    (sym same.0, same.1)

pub split_line : (text verb words : List ℕ) (r : Option Command) → text ≡ verb ++ 32 ∷ words → HasNoSpace verb → ParsesArgs verb words r → ParsesLine text r
split_line text verb words None e h p = λ command k.
    let w = words_of_split text verb words (verb_of command) (args_of command) e h (verb_no_space command) k.spelled in
    p command (record { first = w.0; fits = k.fits; others = w.1 })
split_line text verb words (Some command) e h p =
    record { spelled = spelled_by text verb words (verb_of command) (args_of command) e p.first p.others; fits = p.fits }
