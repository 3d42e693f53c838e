-- The room that a seat keeps for the receipts of its Jobs.
use Rattle.std.specs.Prelude.{ℕ, ◌+◌, max}
use Rattle.history_machine.specs.declared.entry.EntryKind.{EntryKind}
use Rattle.history_machine.specs.declared.entry.EntryKind.TheVariants.{Take, Deliver, GiveBack}

-- for how many receipts a seat with so many Jobs in hand needs room before an event of this kind
abbrev pub receipts_needed : EntryKind → ℕ → ℕ
receipts_needed Take jobs = jobs + 2
receipts_needed GiveBack jobs = max jobs 1
receipts_needed kind jobs = jobs + 1

-- an event of this kind hands a Job in
abbrev pub IsHandingIn : EntryKind → Type 0
IsHandingIn Deliver = Unit {0}
IsHandingIn GiveBack = Unit {0}
IsHandingIn kind = ⊥

-- an event of this kind gives a Job back
abbrev pub IsGiveBack : EntryKind → Type 0
IsGiveBack GiveBack = Unit {0}
IsGiveBack kind = ⊥
