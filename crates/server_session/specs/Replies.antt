-- The text of replies. A later form of answer is a case of `reply_number` and `reply_body`. If its body takes memory, it is also a case of
-- `TakesMemory` and `made_body`.
use Rattle.std.specs.Prelude.{◌≡◌, ◌⊎◌, ⊤, ℕ, List, [], ◌∷◌, ◌++◌, length, codes, decimal, Bool, true, false, if◌then◌else◌}
use Rattle.base_files.specs.declared.refusal.Refusal.TheVariants.{Memory}
use Rattle.server_commands.specs.declared.numbers.ServerNumbers.{ServerNumbers}
use Rattle.server_commands.specs.declared.response.Response.{Response}
use Rattle.server_commands.specs.declared.response.Response.TheVariants.{Done, Status, Steps, File, Listing, Places, Faults, Objects, Entry, Built, Refused}
use Rattle.server_session.specs.Listings.{listing, place_lines, fault_lines, object_lines, entry_text, package_line}
use Rattle.server_session.specs.Refusals.{code_of, refusal_body}

-- the line with how many steps undo and redo can make
abbrev pub steps_line : ℕ → ℕ → List ℕ
steps_line undo redo = codes "undo " ++ decimal undo ++ codes " redo " ++ decimal redo ++ 10 ∷ []

-- a word, a space, a number and a newline
abbrev pub count_line : List ℕ → ℕ → List ℕ
count_line word number = word ++ 32 ∷ [] ++ decimal number ++ 10 ∷ []

-- the lines with what a server tells of itself
abbrev pub status_lines : ServerNumbers → List ℕ
status_lines numbers =
    count_line (codes "sessions") numbers.sessions
    ++ count_line (codes "workers") numbers.workers
    ++ count_line (codes "chapter") numbers.book.chapter
    ++ count_line (codes "due") numbers.due
    ++ count_line (codes "left") numbers.book.left
    ++ count_line (codes "bytes") numbers.book.bytes
    ++ count_line (codes "kept") numbers.kept

-- whether the answer is no refusal
abbrev pub is_done : Response → Bool
is_done (Refused refusal) = false
is_done (Done number) = true
is_done (Steps number undo redo) = true
is_done (File number text) = true
is_done (Listing number files) = true
is_done (Places number places) = true
is_done (Faults number faults) = true
is_done (Objects number objects) = true
is_done (Entry number line) = true
is_done (Built number path) = true
is_done (Status numbers) = true

-- the number of the current state, or the refusal's code
abbrev pub reply_number : Response → ℕ
reply_number (Done number) = number
reply_number (Steps number undo redo) = number
reply_number (File number text) = number
reply_number (Listing number files) = number
reply_number (Places number places) = number
reply_number (Faults number faults) = number
reply_number (Objects number objects) = number
reply_number (Entry number line) = number
reply_number (Built number path) = number
reply_number (Status numbers) = numbers.book.state
reply_number (Refused refusal) = code_of refusal

-- the body of the reply with this answer
abbrev pub reply_body : Response → List ℕ
reply_body (Done number) = []
reply_body (Steps number undo redo) = steps_line undo redo
reply_body (File number text) = text
reply_body (Listing number files) = listing files
reply_body (Places number places) = place_lines places
reply_body (Faults number faults) = fault_lines faults
reply_body (Objects number objects) = object_lines objects
reply_body (Entry number line) = entry_text line
reply_body (Built number path) = package_line path
reply_body (Status numbers) = status_lines numbers
reply_body (Refused refusal) = refusal_body refusal

-- the first line of a reply: `ok` or `no`, a number, and the size of the body in bytes
abbrev pub reply_head : Bool → ℕ → ℕ → List ℕ
reply_head done number size =
    (if done then codes "ok " else codes "no ") ++ decimal number ++ 32 ∷ [] ++ decimal size ++ 10 ∷ []

-- the text of the reply with this answer: its first line, and its body
abbrev pub reply_text : Response → List ℕ
reply_text reply = reply_head (is_done reply) (reply_number reply) (length (reply_body reply)) ++ reply_body reply

-- The body takes memory to be made. No such answer is to a change or to a delivery.
abbrev pub TakesMemory : Response → Type 0
TakesMemory (Listing number files) = ⊤
TakesMemory (Places number places) = ⊤
TakesMemory (Faults number faults) = ⊤
TakesMemory (Objects number objects) = ⊤
TakesMemory other = ⊥

-- the body of the reply if it takes memory, else nothing
abbrev pub made_body : Response → List ℕ
made_body (Listing number files) = listing files
made_body (Places number places) = place_lines places
made_body (Faults number faults) = fault_lines faults
made_body (Objects number objects) = object_lines objects
made_body other = []

-- the reply with this answer; for want of memory to make the body it is a refusal
abbrev pub IsWrittenFor : Response → Response → Type 0
IsWrittenFor answer reply = (reply ≡ answer) ⊎ (TakesMemory answer × (reply ≡ Refused Memory))
