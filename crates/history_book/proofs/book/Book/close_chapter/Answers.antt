-- The journal is closed: the content counts its entries, and the next one has room for those of the Jobs out.
use Rattle.std.proofs.Common.{◌≡◌, ℕ, Global, Vec, rules, ◌+◌, ◌^◌, ◌≤◌, ◌<◌, List, [], inl, inr, length, refl, sym, ap, subst, ◌∙◌, vec_capacity, arith}
use Rattle.std.proofs.lemmas.Bool.{cases_lt, false≢true}
use Rattle.history_machine.specs.Machine.{Content, Machine, closed, with_journal}
use Rattle.history_machine.specs.declared.entry.Entry.{Entry}
use Rattle.history_book.proofs.BookUnits.{KeptBook, closed_book}
use Rattle.history_book.proofs.book.Book.close_chapter.Goals as goal

pub has_room-requires : goal.has_room-requires
has_room-requires c = c.self.invariant.7

pub returns-then-not-has_room-clause-why : goal.returns-then-not-has_room-clause-why
returns-then-not-has_room-clause-why c =
    let m : Machine = with_journal c.self.inside.content c.self.inside.journal.items in
    inr (
      refl,
      subst (λ (x : Machine). 2 ^ 63 < x.begun + length x.journal) c.self.view_is
          (elim (cases_lt (2 ^ 63) (m.begun + length m.journal)) [
            | inl more ↦ more
            | inr room ↦ absurd (false≢true (sym c.if-not-has_room.true ∙ c.has_room.ensures.1 (omega (arith, room))))
          ]),
    )

pub invariant_of-self-2 : goal.invariant_of-self-2
invariant_of-self-2 c =
    let old = c.self.inside.content in
    let journal = c.self.inside.journal.items in
    let room = vec_capacity c.in_ok-room.room in
    let size : c.len-entries.result ≡ length journal = search rules in
    let most : old.begun + length journal ≤ 2 ^ 63 = omega (arith, size, c.has_room.ensures.0 c.if-not-has_room.false) in
    let jobs : length old.out.jobs ≤ room = omega (arith, c.jobs-jobs.ensures, c.in_ok-room.ensures.capacity) in
    subst (λ (v : Vec Entry Global). KeptBook c.count_closed.new.self v.items (vec_capacity v)) (sym c.replace.ensures.after)
    (subst (λ (j : List Entry). KeptBook c.count_closed.new.self j room) (sym c.in_ok-room.ensures.items)
    (subst (λ (x : Content). KeptBook x [] room) (sym c.count_closed.ensures)
    (subst (λ (n : ℕ). KeptBook (record old { begun = old.begun + n }) [] room) (sym size)
    (closed_book old journal (vec_capacity c.self.inside.journal) room c.self.invariant jobs most))))

pub returns-clause-closed : goal.returns-clause-closed
returns-clause-closed c =
    let old = c.self.inside.content in
    let size : c.len-entries.result ≡ length c.self.inside.journal.items = search rules in
    let none : c.replace.new.dest.items ≡ [] = ap (λ (v : Vec Entry Global). v.items) c.replace.ensures.after ∙ c.in_ok-room.ensures.items in
    subst (λ (j : List Entry). with_journal c.count_closed.new.self j ≡ closed c.args.self.now) (sym none)
    (ap (λ (x : Content). with_journal x []) c.count_closed.ensures
    ∙ ap (λ (n : ℕ). with_journal (record old { begun = old.begun + n }) []) size ∙ ap closed c.self.view_is)
