-- The next message, from its line and its body.
use Rattle.std.proofs.Common.{◌≡◌, ◌≢◌, ℕ, zero, suc, get_or, ◌+◌, ◌≤◌, ◌<◌, List, [], ◌∷◌, ◌++◌}
use Rattle.std.proofs.Common.{length, take, drop, Option, None, Some, Result, Ok, Err, codes, refl, sym, ap, ◌∙◌}
use Rattle.std.proofs.Common.{inl, inr, append_assoc, arith, le_trans, length-append, length-drop}
use Rattle.std.proofs.lemmas.Grind.{common_steps}
use Rattle.std.proofs.lemmas.List.Folds.{prefix_len-append}
use Rattle.std.proofs.lemmas.List.{take-append-drop}
use Rattle.std.proofs.lemmas.Str.{IsUtf8-from_ascii}
use Rattle.std.proofs.lemmas.Str.Ascii.{IsAscii-from_reads}
use Rattle.std.specs.List.{position_or_len}
use Rattle.std.specs.Str.{IsUtf8}
use Rattle.std.specs.Io.KnownBytes.{Keeps}
use Rattle.base_files.specs.declared.limits.Limits.{Limits}
use Rattle.server_read.specs.declared.command.Command.{Command}
use Rattle.server_read.specs.declared.command.Command.TheVariants.{OnState}
use Rattle.server_read.specs.declared.command.StateCommand.TheVariants.{Put}
use Rattle.server_read.specs.declared.input.InputFault.{InputFault}
use Rattle.server_read.specs.declared.input.ReadLine.TheVariants.{Whole}
use Rattle.server_read.specs.declared.message.Message.{Message}
use Rattle.server_read.specs.declared.message.Message.TheVariants.{Ask, Unknown, CutShort}
use Rattle.server_read.specs.declared.next.Next.{Next}
use Rattle.server_read.specs.declared.next.Next.TheVariants as next
use Rattle.server_read.specs.FirstLine.{is_newline, first_line, after_line}
use Rattle.server_read.specs.Lines.{IsCommandLine, size_after}
use Rattle.server_read.specs.Stops.{StopsInLine, StopsBefore}
use Rattle.server_read.specs.Wire.{IsReadable, Says, Ends, IsWholeMessage, IsWholeEnd, StaysWithin}
use Rattle.server_read.specs.Parsing.{ReadsLineText}
use Rattle.server_read.specs.Puts.{put_line, ReadsPut, ReadsAfter}
use Rattle.server_read.specs.NextMessage.{ReadsNext}
use Rattle.server_read.specs.Incoming.{ReadsLine}
use Rattle.server_read.proofs.LineSoFar.{after_line-append}
use Rattle.server_read.proofs.Unique.{line_unique, end_or_command}

readable_line : (limits : Limits) (text input : List ℕ) → length text ≤ limits.command_bytes → text ≡ first_line input → IsUtf8 text →
    IsReadable limits (first_line input)
readable_line limits text input short e utf8 = record { short = rw (← e) short; utf8 = rw (← e) utf8 }

pub next_unknown : (limits : Limits) (before after : Option (List ℕ)) (text : List ℕ)
    → ReadsLine limits.command_bytes before after text (Ok Whole) → text ≢ codes "end" → (IsUtf8 text → (said : Command) → IsCommandLine text said → ⊥)
    → ReadsNext limits before after (Ok (next.Message Unknown))
next_unknown limits None after text h not_end k = tt
next_unknown limits (Some input) after text h not_end k = (
  after_line input,
  (h.0, (λ readable. (λ e. not_end (h.2 ∙ e), λ said is_line. k (rw h.2 readable.utf8) said (rw h.2 is_line)), refl)),
  h.3,
)

end_ascii : (k : ℕ) → k < 3 → get_or (codes "end") k 0 < 128
end_ascii zero l = omega arith
end_ascii (suc zero) l = omega arith
end_ascii (suc (suc zero)) l = omega arith
end_ascii (suc (suc (suc k))) l = absurd (omega (arith, l))

end_utf8 : IsUtf8 (codes "end")
end_utf8 = IsUtf8-from_ascii (codes "end") (IsAscii-from_reads (codes "end") 3 (omega arith) end_ascii)

-- the line `end` ends the session
pub next_end : (limits : Limits) (before after : Option (List ℕ)) (text : List ℕ)
    → ReadsLine limits.command_bytes before after text (Ok Whole) → text ≡ codes "end" → ReadsNext limits before after (Ok next.End)
next_end limits None after text h e = tt
next_end limits (Some input) after text h e =
    let utf8 : IsUtf8 text = rw e end_utf8 in
    (after_line input, inr (readable_line limits text input h.1 h.2 utf8, sym h.2 ∙ e, refl), h.3)

kept_is : (xs : List ℕ) (after : Option (List ℕ)) → Keeps (Some xs) after → after ≡ Some xs
kept_is xs None h = absurd h
kept_is xs (Some ys) h = ap Some h

-- the input is its first line, its newline and the rest
line_then_rest : (input : List ℕ) → input ≡ take (position_or_len is_newline input + 1) input ++ after_line input
line_then_rest input = sym (take-append-drop (position_or_len is_newline input + 1) input)

-- no message ends before its line
says_after : (limits : Limits) (input : List ℕ) (m : Message) (after : List ℕ) → Says limits input m after → length after ≤ length (after_line input)
says_after limits input (Ask asked) after h =
    omega (arith, ap length h.1.5, length-drop (size_after h.1.0) (after_line input))
says_after limits input Unknown after h = omega (arith, ap length h.1.1)
says_after limits input CutShort after h = omega (arith, ap length h.1.4)

ends_after : (limits : Limits) (input after : List ℕ) → Ends limits input after → length after ≤ length (after_line input)
ends_after limits input after e = elim e [ inl over ↦ omega (arith, ap length over.1) | inr line ↦ omega (arith, ap length line.2) ]

-- the bytes after a line are not in a part of the line
beyond_part : (part rest : List ℕ) → position_or_len is_newline part ≡ length part → length part ≤ position_or_len is_newline (part ++ rest)
beyond_part part rest p = grind (arith, common_steps, prefix_len-append)

line_within : (part rest : List ℕ) → position_or_len is_newline part ≡ length part → length (after_line (part ++ rest)) ≤ length rest
line_within part rest p =
    omega (arith, beyond_part part rest p, length-drop (position_or_len is_newline (part ++ rest) + 1) (part ++ rest), length-append part rest)

-- a part of a line, and a newline
ended_line : (part front back : List ℕ) → part ≡ front ++ back → part ++ 10 ∷ [] ≡ front ++ (back ++ 10 ∷ [])
ended_line part front back e = ap (λ l. l ++ 10 ∷ []) e ∙ append_assoc front back (10 ∷ [])

-- no message is whole before the end of its line
no_message_in_line : (limits : Limits) (part front back : List ℕ) (m : Message) → position_or_len is_newline part ≡ length part
    → part ≡ front ++ back → IsWholeMessage limits front m → ⊥
no_message_in_line limits part front back m p e whole =
    let said : Says limits (part ++ 10 ∷ []) m (back ++ 10 ∷ []) = rw (ended_line part front back e) (whole (back ++ 10 ∷ [])) in
    let within = says_after limits (part ++ 10 ∷ []) m (back ++ 10 ∷ []) said in
    absurd (omega (arith, within, ap length (after_line-append part [] p), length-append back (10 ∷ [])))

no_end_in_line : (limits : Limits) (part front back : List ℕ) → position_or_len is_newline part ≡ length part → part ≡ front ++ back →
    IsWholeEnd limits front → ⊥
no_end_in_line limits part front back p e whole =
    let ends : Ends limits (part ++ 10 ∷ []) (back ++ 10 ∷ []) = rw (ended_line part front back e) (whole (back ++ 10 ∷ [])) in
    let within = ends_after limits (part ++ 10 ∷ []) (back ++ 10 ∷ []) ends in
    absurd (omega (arith, within, ap length (after_line-append part [] p), length-append back (10 ∷ [])))

stays_in_line : (limits : Limits) (part rest : List ℕ) → position_or_len is_newline part ≡ length part → StaysWithin limits part rest
stays_in_line limits part rest p =
    let within : length (after_line (part ++ rest)) ≤ length rest = line_within part rest p in
    record {
      message = λ m after h. le_trans (says_after limits (part ++ rest) m after h) within;
      end = λ after h. le_trans (ends_after limits (part ++ rest) after h) within;
      no_message = λ front back m e whole. no_message_in_line limits part front back m p e whole;
      no_end = λ front back e whole. no_end_in_line limits part front back p e whole;
    }

-- the bytes after a body are not in a part of the body
after_body : (limits : Limits) (input part rest : List ℕ) (said : Command) (m : Message) (after : List ℕ) → IsReadable limits (first_line input) →
    IsCommandLine (first_line input) said
    → after_line input ≡ part ++ rest → length part ≤ size_after said → Says limits input m after → length after ≤ length rest
after_body limits input part rest said (Ask asked) after readable is_line e short h =
    let same = ap size_after (line_unique (first_line input) h.1.0 said h.1.2 is_line) in
    omega (arith, ap length h.1.5, length-drop (size_after h.1.0) (after_line input), ap length e, length-append part rest, same, short)
after_body limits input part rest said Unknown after readable is_line e short h = absurd ((h.1.0 readable).1 said is_line)
after_body limits input part rest said CutShort after readable is_line e short h = omega (arith, ap length h.1.4)

-- no message is whole before the end of its body
no_message_in_body : (limits : Limits) (input bytes rest front back : List ℕ) (said : Command) (m : Message)
    → IsReadable limits (first_line input) → IsCommandLine (first_line input) said
    → after_line input ≡ bytes ++ rest → length bytes < size_after said → input ≡ front ++ (back ++ rest) → IsWholeMessage limits front m → ⊥
no_message_in_body limits input bytes rest front back said (Ask asked) readable is_line e short all whole =
    let h : Says limits input (Ask asked) (back ++ rest) = rw all (whole (back ++ rest)) in
    let same = ap size_after (line_unique (first_line input) h.1.0 said h.1.2 is_line) in
    let left = ap length h.1.5 ∙ length-drop (size_after h.1.0) (after_line input) in
    absurd (omega (arith, left, h.1.3, ap length e, length-append bytes rest, length-append back rest, same, short))
no_message_in_body limits input bytes rest front back said Unknown readable is_line e short all whole =
    let h : Says limits input Unknown (back ++ rest) = rw all (whole (back ++ rest)) in
    absurd ((h.1.0 readable).1 said is_line)
no_message_in_body limits input bytes rest front back said CutShort readable is_line e short all whole =
    let h : Says limits (front ++ 10 ∷ []) CutShort (10 ∷ []) = whole (10 ∷ []) in
    absurd (omega (arith, ap length h.1.4))

no_end_at_put : (limits : Limits) (input path : List ℕ) (basis size : ℕ) (after : List ℕ) → input ≢ [] →
    IsCommandLine (first_line input) (put_line basis path size)
    → Ends limits input after → ⊥
no_end_at_put limits input path basis size after some put e = elim e [
  | inl over ↦ absurd (some over.0)
  | inr line ↦ absurd (end_or_command (first_line input) (put_line basis path size) line.1 put)
]

cut_again : (input part rest front back : List ℕ) → input ≡ part ++ rest → part ≡ front ++ back → input ≡ front ++ (back ++ rest)
cut_again input part rest front back e f = e ∙ ap (λ l. l ++ rest) f ∙ append_assoc front back rest

stays_in_body : (limits : Limits) (input part bytes rest path : List ℕ) (basis size : ℕ) → input ≢ [] → IsReadable limits (first_line input) →
    IsCommandLine (first_line input) (put_line basis path size)
    → input ≡ part ++ rest → after_line input ≡ bytes ++ rest → length bytes < size → StaysWithin limits part rest
stays_in_body limits input part bytes rest path basis size some readable put all e short = record {
  message = λ m after says. after_body limits input bytes rest (put_line basis path size) m after readable put e (omega (arith, short)) (rw all says);
  end = λ after ends. absurd (no_end_at_put limits input path basis size after some put (rw all ends));
  no_message = λ front back m is whole.
      no_message_in_body limits input bytes rest front back (put_line basis path size) m readable put e short (cut_again input part rest front back all is)
      whole;
  no_end = λ front back is whole.
      no_end_at_put limits input path basis size (back ++ rest) some put (rw (cut_again input part rest front back all is) (whole (back ++ rest)));
}

stops_after : (limits : Limits) (input path : List ℕ) (basis size : ℕ) (after : Option (List ℕ)) (fault : InputFault)
    → input ≢ [] → IsReadable limits (first_line input) → IsCommandLine (first_line input) (put_line basis path size)
    → StopsBefore (Some (after_line input)) after size → ReadsNext limits (Some input) after (Err fault)
stops_after limits input path basis size None fault some readable put h = absurd h.2
stops_after limits input path basis size (Some rest) fault some readable put h =
    let front = take (position_or_len is_newline input + 1) input in
    let all : input ≡ (front ++ h.0) ++ rest = line_then_rest input ∙ ap (λ l. front ++ l) h.2 ∙ sym (append_assoc front h.0 rest) in
    (front ++ h.0, rest, all, refl, stays_in_body limits input (front ++ h.0) h.0 rest path basis size some readable put all h.2 h.1)

pub next_stops : (limits : Limits) (before after : Option (List ℕ)) (fault : InputFault) → StopsInLine before after → ReadsNext limits before after (Err fault)
next_stops limits None after fault h = tt
next_stops limits (Some input) None fault h = absurd h.1
next_stops limits (Some input) (Some rest) fault h = (h.0, rest, h.1, refl, stays_in_line limits h.0 rest h.2)

-- reading on after a line, where the bytes of the reader are not known
next_unknown_reader : (limits : Limits) (after : Option (List ℕ)) (r : Result Next InputFault) → ReadsNext limits None after r
next_unknown_reader limits after (Ok next.End) = tt
next_unknown_reader limits after (Ok (next.Message message)) = tt
next_unknown_reader limits after (Ok next.NoRoom) = tt
next_unknown_reader limits after (Err fault) = tt

next_put : (limits : Limits) (input path : List ℕ) (basis size : ℕ) (after : Option (List ℕ)) (r : Result Next InputFault)
    → input ≢ [] → IsReadable limits (first_line input) → IsCommandLine (first_line input) (put_line basis path size)
    → ReadsPut limits basis path size (Some (after_line input)) after r → ReadsNext limits (Some input) after r
next_put limits input path basis size after (Ok (next.Message (Ask asked))) some readable put k =
    (drop size (after_line input), (some, (put_line basis path size, readable, put, k.0, k.1, refl)), k.2)
next_put limits input path basis size after (Ok next.NoRoom) some readable put k =
    (k.0, drop size (after_line input), (some, (put_line basis path size, readable, put, k.1.0, k.1.1, refl)), k.1.2)
next_put limits input path basis size after (Ok (next.Message CutShort)) some readable put k =
    ([], (some, (put_line basis path size, readable, put, k.0, refl)), k.1)
next_put limits input path basis size after (Ok (next.Message Unknown)) some readable put k = absurd k
next_put limits input path basis size after (Ok next.End) some readable put k = absurd k
next_put limits input path basis size after (Err fault) some readable put k = stops_after limits input path basis size after fault some readable put k

zero_below : (n : ℕ) → 0 ≤ n
zero_below n = omega arith

pub next_line : (limits : Limits) (before mid after : Option (List ℕ)) (text : List ℕ) (said : Command) (r : Result Next InputFault)
    → ReadsLine limits.command_bytes before mid text (Ok Whole) → ReadsLineText text (Some said) → ReadsAfter limits said mid after r
    → ReadsNext limits before after r
next_line limits None mid after text said r h t k = next_unknown_reader limits after r
next_line limits (Some input) mid after text (OnState (Put basis path size body)) r h t k =
    let is_put : IsCommandLine text (put_line basis path size) = record { spelled = t.1.spelled; fits = rw t.1.fits.3 at t.1.fits } in
    next_put limits input path basis size after r h.0 (readable_line limits text input h.1 h.2 t.0) (rw (← h.2) is_put) (rw h.3 at k)
next_line limits (Some input) mid after text said r h t k =
    let is_after = kept_is (after_line input) after (rw h.3 at k.1) in
    rw k.0 (
      after_line input,
      (h.0, (said, readable_line limits text input h.1 h.2 t.0, rw (← h.2) t.1, zero_below (length (after_line input)), refl, refl)),
      is_after,
    )
