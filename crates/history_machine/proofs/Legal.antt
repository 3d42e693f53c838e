-- Runs one after another, and the journals that they leave.
use Rattle.std.proofs.Common.{◌≡◌, ℕ, ◌+◌, ◌^◌, ◌≤◌, List, [], ◌∷◌, ◌++◌, length, refl, sym, subst, arith}
use mathlib.Core.Logic.{∥∥₁_map}
use Rattle.base_files.specs.declared.limits.Limits.{Limits}
use Rattle.history_machine.specs.declared.entry.Entry.{Entry}
use Rattle.history_machine.specs.declared.event.Event.{Event}
use Rattle.history_machine.specs.declared.event.Reply.{Reply}
use Rattle.history_machine.specs.Machine.{Content, Machine, content, with_journal}
use Rattle.history_machine.specs.Chapters.{HasHistory}
use Rattle.history_machine.specs.Run.{Run, RunsAreLegal}
use Rattle.history_machine.specs.Step.{HasPlace, HasRoom, EntersEvent, Step}
use Rattle.history_machine.proofs.Reaching.{reached_on}
use Rattle.history_machine.proofs.Stepped.{kept_bounds, kept_step}

pub Run-append : (old mid new : Machine) (es fs : List (Event × Reply)) → Run old es mid → Run mid fs new → Run old (es ++ fs) new
Run-append old mid new [] fs h k = rw (← h) k
Run-append old mid new (e ∷ es) fs h k = (h.0, h.1, Run-append h.0 mid new es fs h.2 k)

-- a run with one step more
pub run_on : (old mid new : Machine) (es : List (Event × Reply)) (event : Event) (reply : Reply) → Run old es mid → Step mid event reply new →
    Run old (es ++ (event, reply) ∷ []) new
run_on old mid new es event reply run step = Run-append old mid new es ((event, reply) ∷ []) run (new, step, refl)

pub runs_are_legal : RunsAreLegal
runs_are_legal limits events m run = ((content m, (events, run)), (events, run))

-- the invariant of a book with this content and this journal, which has room for so many entries
abbrev pub BookInvariant : Content → List Entry → ℕ → Type 0
BookInvariant c journal capacity =
    (c.next ≤ c.begun + length journal + 1)
    × (c.visit ≤ c.begun + length journal)
    × (c.out.ticket ≤ c.begun + length journal)
    × (length journal + length c.out.jobs ≤ c.limits.journal)
    × (length journal + length c.out.jobs ≤ capacity)
    × ∥ HasHistory (with_journal c journal) ∥₁
    × (c.begun ≤ 2 ^ 63)

-- the invariant stays where the journal stays and its room doesn't shrink
pub holds_still : (c : Content) (journal journals : List Entry) (capacity more : ℕ) → journals ≡ journal → capacity ≤ more → BookInvariant c journal capacity →
    BookInvariant c journals more
holds_still c journal journals capacity more same grows k =
    subst (λ (x : List Entry). BookInvariant c x more) (sym same) (k.0, k.1, k.2, k.3, omega (arith, grows, k.4), k.5, k.6)

-- the invariant stays where an event is answered, once there is room for its entry
pub holds_on : (old new : Content) (journal mid journals : List Entry) (capacity more last : ℕ) (event : Event) (reply : Reply)
    → BookInvariant old journal capacity → mid ≡ journal → capacity ≤ more → last ≡ more
    → HasRoom (with_journal old journal) event → HasPlace more (length mid + length old.out.jobs) old.out event → EntersEvent old mid event reply new journals
    → BookInvariant new journals last × Step (with_journal old journal) event reply (with_journal new journals)
holds_on old new journal mid journals capacity more last event reply k same grows is_last room place keeps =
    let m : Machine = with_journal old journal in
    let kept : EntersEvent old journal event reply new journals = subst (λ (x : List Entry). EntersEvent old x event reply new journals) same keeps in
    let place_here : HasPlace more (length journal + length old.out.jobs) old.out event =
    subst (λ (x : List Entry). HasPlace more (length x + length old.out.jobs) old.out event) same place in
    let step : Step m event reply (with_journal new journals) = kept_step m event reply new journals room kept in
    let within : length journal + length old.out.jobs ≤ more = omega (arith, k.4, grows) in
    let one = kept_bounds m old.limits.journal event reply new journals (record { next = k.0; visit = k.1; ticket = k.2; room = k.3 }) room kept in
    let two = kept_bounds m more event reply new journals (record { next = k.0; visit = k.1; ticket = k.2; room = within }) place_here kept in (
      (
        one.0.next,
        one.0.visit,
        one.0.ticket,
        subst (λ (l : Limits). length journals + length new.out.jobs ≤ l.journal) (sym one.1) one.0.room,
        subst (λ (n : ℕ). length journals + length new.out.jobs ≤ n) (sym is_last) two.0.room,
        ∥∥₁_map k.5 (λ (is : HasHistory m). reached_on m (with_journal new journals) event reply one.1 step is),
        subst (λ (n : ℕ). n ≤ 2 ^ 63) (sym one.2) k.6,
      ),
      step,
    )
