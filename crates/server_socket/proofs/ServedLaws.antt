-- The outcome of a server, from that of settling.
use Rattle.std.proofs.Common.{◌≡◌, ◌+◌, ℕ, Bool, true, false, List, length, [], ◌∷◌, Result, Ok, Err, IfOk, IfErr, IsOk, IsErr, is_ok, refl, subst, sym}
use Rattle.std.proofs.Common.{ap, get_or}
use mathlib.Core.Logic.{∥∥₁_map}
use Rattle.std.proofs.lemmas.List.Elements.{All-weaker}
use Rattle.base_files.specs.declared.limits.Limits.{Limits}
use Rattle.history_machine.specs.Machine.{Machine}
use Rattle.server_shared.specs.declared.receipt.Receipt.{Receipt}
use Rattle.server_shared.specs.declared.settling.Unsettled.{Unsettled as Leftover}
use Rattle.server_shared.specs.Past.{AreSettled, HasPast, IsHandedIn, PastChapter}
use Rattle.server_shared.specs.SettledBook.{IsSettling, book_in}
use Rattle.server_shared.specs.LimitNumbers.{full_limits, limit_numbers}
use Rattle.server_socket.specs.declared.fault.ServeFault.{ServeFault}
use Rattle.server_socket.specs.declared.fault.ServeFault.TheVariants.{InUse, Journal, JournalInUse, Memory, Socket, Unsettled}
use Rattle.server_socket.specs.Returned.{AreReturned, IsCalled}
use Rattle.server_socket.specs.Served.{IsHandedBack, IsNewBook, Serves, Settles}

-- what has P has Q, too
module _ (P Q : List Receipt → Type 0) (says : (receipts : List Receipt) → P receipts → Q receipts) where
  handed_weaker : (receipts : List Receipt) → IsHandedIn P receipts → IsHandedIn Q receipts
  handed_weaker receipts h = (h.0, h.1, All-weaker P Q says h.0 h.2)

  settled_weaker : (from : ℕ) (chapters : List PastChapter) → AreSettled P from chapters → AreSettled Q from chapters
  settled_weaker from [] s = tt
  settled_weaker from (c ∷ chapters) s = (s.0, handed_weaker c.1 s.1, settled_weaker 0 chapters s.2)

  past_weaker : (begun first from : ℕ) (m : Machine) → HasPast P begun first from m → HasPast Q begun first from m
  past_weaker begun first from m p = record {
    before = p.before;
    earlier = p.earlier;
    none = p.none;
    chapters = p.chapters;
    settled = settled_weaker first p.chapters p.settled;
    begins = p.begins;
    course = p.course;
    runs = p.runs;
  }

  settling_weaker : (begun first parts : ℕ) (seats : List (List Receipt)) (book : Machine) (is_settled : Bool) →
      IsSettling P begun first parts seats book is_settled →
      IsSettling Q begun first parts seats book is_settled
  settling_weaker begun first parts seats book is_settled s = record {
    from = s.from;
    receipts = s.receipts;
    past = past_weaker begun first s.from book s.past;
    known = handed_weaker s.receipts s.known;
    exact = s.exact;
    bound = s.bound;
    whole = s.whole;
  }

  back_weaker : (begun first parts : ℕ) (limits : List ℕ) (seats : List (List Receipt)) (book : Machine) (is_settled : Bool) →
      IsHandedBack P begun first parts limits seats book is_settled →
      IsHandedBack Q begun first parts limits seats book is_settled
  back_weaker begun first parts limits seats book is_settled h = record {
    limited = h.limited;
    settling = ∥∥₁_map h.settling (λ (s : IsSettling P begun first parts seats book is_settled). settling_weaker begun first parts seats book is_settled s);
  }

  pub settles_weaker : (begun first parts : ℕ) (limits : List ℕ) (seats : List (List Receipt)) (told : Result ℕ ServeFault) →
      Settles P begun first parts limits seats told →
      Settles Q begun first parts limits seats told
  settles_weaker begun first parts limits seats (Ok entries) h = (h.0, back_weaker begun first parts limits seats h.0 true h.1, h.2)
  settles_weaker begun first parts limits seats (Err Unsettled) h = (h.0, back_weaker begun first parts limits seats h.0 false h.1)
  settles_weaker begun first parts limits seats (Err Memory) h = h
  settles_weaker begun first parts limits seats (Err Socket) h = h
  settles_weaker begun first parts limits seats (Err InUse) h = h
  settles_weaker begun first parts limits seats (Err Journal) h = h
  settles_weaker begun first parts limits seats (Err JournalInUse) h = h

-- a settling with the seats of all threads
pub served : (workers sessions : ℕ) (is_kept : Bool) (begun first : ℕ) (seats : List (List Receipt)) (told : Result ℕ ServeFault) →
    IsNewBook is_kept begun first → AreReturned 1000000 workers sessions seats →
    Settles (IsCalled 1000000) begun first (workers + sessions) full_limits seats told → Serves workers sessions is_kept told
served workers sessions is_kept begun first seats (Ok entries) new all h = (begun, first, seats, new, all, h)
served workers sessions is_kept begun first seats (Err Unsettled) new all h = (begun, first, seats, new, all, h)
served workers sessions is_kept begun first seats (Err Memory) new all h = tt
served workers sessions is_kept begun first seats (Err Socket) new all h = tt
served workers sessions is_kept begun first seats (Err InUse) new all h = tt
served workers sessions is_kept begun first seats (Err Journal) new all h = tt
served workers sessions is_kept begun first seats (Err JournalInUse) new all h = tt

-- another fault
pub not_served : (workers sessions : ℕ) (is_kept : Bool) (fault : ServeFault) → (fault ≡ Unsettled → ⊥) → Serves workers sessions is_kept (Err fault)
not_served workers sessions is_kept Unsettled other = absurd (other refl)
not_served workers sessions is_kept Memory other = tt
not_served workers sessions is_kept Socket other = tt
not_served workers sessions is_kept InUse other = tt
not_served workers sessions is_kept Journal other = tt
not_served workers sessions is_kept JournalInUse other = tt

handed_back : (P : List Receipt → Type 0) (begun first parts : ℕ) (limits : List ℕ) (seats : List (List Receipt)) (book : Machine) (is_settled : Bool) →
    limit_numbers book.limits ≡ limits → ∥ IsSettling P begun first parts seats book is_settled ∥₁ →
    IsHandedBack P begun first parts limits seats book is_settled
handed_back P begun first parts limits seats book is_settled limited settling = record { limited = limited; settling = settling }

-- what is told of a book that comes back, settled or not
pub settles : (P : List Receipt → Type 0) (begun first parts : ℕ) (limits : List ℕ) (seats : List (List Receipt)) (settled : Result Machine Leftover)
    (told : Result ℕ ServeFault)
    → IfOk told (λ entries. IsOk settled × (entries ≡ (book_in settled).begun + length (book_in settled).journal))
    → IfErr told (λ fault. IsErr settled × (fault ≡ Unsettled))
    → ∥ IsSettling P begun first parts seats (book_in settled) (is_ok settled) ∥₁ → limit_numbers (book_in settled).limits ≡ limits
    → Settles P begun first parts limits seats told
settles P begun first parts limits seats (Ok book) (Ok entries) ok err settling limited =
    (book, handed_back P begun first parts limits seats book true limited settling, ok.1)
settles P begun first parts limits seats (Err left) (Ok entries) ok err settling limited = absurd (bad_ok ok.0)
  where
    bad_ok : IsOk {T = Machine} (Err left) → ⊥
    bad_ok h = cc
settles P begun first parts limits seats (Ok book) (Err fault) ok err settling limited = absurd (good_err err.0)
  where
    good_err : IsErr {E = Leftover} (Ok book) → ⊥
    good_err h = cc
settles P begun first parts limits seats (Err left) (Err fault) ok err settling limited =
    subst (λ (f : ServeFault). Settles P begun first parts limits seats (Err f)) (sym err.1)
    (left.book, handed_back P begun first parts limits seats left.book false limited settling)

-- a book with the greatest limits has a journal of 1,000,000 entries at most
pub journal_full : (limits : Limits) → limit_numbers limits ≡ full_limits → limits.journal ≡ 1000000
journal_full limits full = ap (λ (numbers : List ℕ). get_or numbers 5 0) full
