-- The finished units of a book's states are right: its steps keep them so.
use Rattle.std.proofs.Common.{◌≡◌, ℕ, ◌+◌, ◌^◌, ◌≤◌, List, [], length, refl, sym, subst, arith}
use mathlib.Core.Logic.{∥∥₁_map}
use Rattle.base_files.specs.Workspace.{Workspace}
use Rattle.base_files.specs.declared.limits.Limits.{Limits}
use Rattle.build_carry.specs.Finished.{Table}
use Rattle.build_kept.specs.KnownUnits.{AreKnownUnits}
use Rattle.build_kept.proofs.Names.{value_unchanged}
use Rattle.build_unit.specs.Units.{IsUnitValue, unit_value}
use Rattle.history_machine.specs.Current.{AreUnits, UnitsAreCurrent}
use Rattle.history_machine.specs.Machine.{Content, content, opening, with_journal}
use Rattle.history_machine.specs.Chapters.{HasHistory}
use Rattle.history_machine.specs.Step.{Step}
use Rattle.history_machine.specs.declared.entry.Entry.{Entry}
use Rattle.history_machine.specs.declared.event.Event.{Event}
use Rattle.history_machine.specs.declared.event.Reply.{Reply}
use Rattle.history_machine.proofs.CurrentLaws.{finished_are_current, steps_keep_units}
use Rattle.history_machine.proofs.Legal.{BookInvariant}
use Rattle.history_machine.proofs.Reaching.{reached_closed, reached_opening}

-- the invariant of a book with this content and this journal, which has room for so many entries
abbrev pub KeptBook : Content → List Entry → ℕ → Type 0
KeptBook c journal capacity =
    (c.next ≤ c.begun + length journal + 1)
    × (c.visit ≤ c.begun + length journal)
    × (c.out.ticket ≤ c.begun + length journal)
    × (length journal + length c.out.jobs ≤ c.limits.journal)
    × (length journal + length c.out.jobs ≤ capacity)
    × ∥ HasHistory (with_journal c journal) ∥₁
    × UnitsAreCurrent (with_journal c journal)
    × (c.begun ≤ 2 ^ 63)

pub bounds_of : (c : Content) (journal : List Entry) (capacity : ℕ) → KeptBook c journal capacity → BookInvariant c journal capacity
bounds_of c journal capacity k = (k.0, k.1, k.2, k.3, k.4, k.5, k.7)

kept : (c : Content) (journal : List Entry) (capacity : ℕ) → BookInvariant c journal capacity → UnitsAreCurrent (with_journal c journal) →
    KeptBook c journal capacity
kept c journal capacity k u = (k.0, k.1, k.2, k.3, k.4, k.5, u, k.6)

-- the journal has no say
pub kept_still : (c : Content) (before after : List Entry) (room more : ℕ) → KeptBook c before room → BookInvariant c after more → KeptBook c after more
kept_still c before after room more k b =
    kept c after more b (record { earlier = k.6.earlier; current = k.6.current; later = k.6.later })

-- a step keeps the units right
pub kept_on : (old new : Content) (before after : List Entry) (room last : ℕ) (event : Event) (reply : Reply) → KeptBook old before room →
    BookInvariant new after last × Step (with_journal old before) event reply (with_journal new after) → KeptBook new after last
kept_on old new before after room last event reply k on =
    kept new after last on.0 (steps_keep_units (with_journal old before) (with_journal new after) event reply on.1 k.6)

pub opening_book : (c : Content) (limits : Limits) (journal : List Entry) (room : ℕ) → c ≡ content (opening limits) → journal ≡ [] → KeptBook c journal room
opening_book c limits journal room same none =
    subst (λ (j : List Entry). KeptBook c j room) (sym none)
    (subst (λ (x : Content). KeptBook x [] room) (sym same) (
      omega arith,
      omega arith,
      omega arith,
      omega arith,
      omega arith,
      ∣ reached_opening limits ∣₁,
      finished_are_current limits [] (opening limits) refl,
      omega arith,
    ))

-- a book whose journal is closed, where the next one has room for the entries of the Jobs out
pub closed_book : (c : Content) (journal : List Entry) (capacity room : ℕ) → KeptBook c journal capacity → length c.out.jobs ≤ room →
    c.begun + length journal ≤ 2 ^ 63 → KeptBook (record c { begun = c.begun + length journal }) [] room
closed_book c journal capacity room k jobs most = (
  omega (arith, k.0),
  omega (arith, k.1),
  omega (arith, k.2),
  omega (arith, k.3),
  omega (arith, jobs),
  ∥∥₁_map k.5 (λ (is : HasHistory (with_journal c journal)). reached_closed (with_journal c journal) is),
  record { earlier = k.6.earlier; current = k.6.current; later = k.6.later },
  most,
)

-- units that are right are known without a new name
pub finished_known : (w : Workspace) (table : Table) → AreUnits w table → AreKnownUnits w [] table
finished_known w table are p unit finished free =
    let is = are p unit finished in
    record { value = subst (IsUnitValue w p) (sym (value_unchanged (unit_value p unit))) is.value; alone = is.alone }
