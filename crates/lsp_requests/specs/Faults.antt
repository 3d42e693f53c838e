-- A look, the faults of the files that it shows, and what is told of failures.
use Rattle.std.specs.Prelude.{ℕ, ◌≡◌, List, None, Result, Ok, Err}
use Rattle.std.specs.FinMap as map
use Rattle.base_files.specs.Workspace.{Workspace}
use Rattle.base_files.specs.declared.refusal.Refusal.{Refusal}
use Rattle.base_files.specs.declared.refusal.Refusal.TheVariants.{Memory}
use Rattle.history_machine.specs.declared.event.Event.{Event}
use Rattle.history_machine.specs.declared.event.Event.TheVariants.{Look}
use Rattle.history_machine.specs.declared.event.Reply.{Reply}
use Rattle.history_machine.specs.declared.event.Reply.TheVariants.{Looked, Refused}
use Rattle.lsp_told.specs.Words.{fault_sentence}
use Rattle.lsp_told.specs.declared.fault.AskFault.{AskFault}
use Rattle.tool_told.specs.declared.telling.Naming.{Naming}
use Rattle.workspace_check.specs.FaultLists.{ListsFaults}
use Rattle.workspace_check.specs.declared.fault.FileFault.{FileFault}

-- What is told of a fault, with places in these files. `prefix` stands before the names of files.
abbrev pub TellsIn : Workspace → (prefix : List ℕ) → AskFault → (words : List ℕ) → Type 0
TellsIn files prefix fault words = (naming : Naming) × (naming.files.now ≡ files) × (naming.prefix.now ≡ prefix)
    × (words ≡ fault_sentence naming None fault)

-- The faults of these files, or want of memory to find them.
abbrev pub ListsShown : Workspace → Result (List FileFault) Refusal → Type 0
ListsShown files (Ok found) = ListsFaults files found
ListsShown files (Err why) = why ≡ Memory

module _ {D : Type 0} (steps : D → Event → Reply → D → Type 0) where
  abbrev pub ListsSeen : D → Reply → Result (List FileFault) Refusal → D → Type 0
  ListsSeen old (Looked shown) came new = ListsShown shown.snapshot.files came × (new ≡ old)
  ListsSeen old (Refused why) came new = (came ≡ Err why) × (new ≡ old)
  ListsSeen old reply came new = ⊥

  -- A look, and the faults of the files that it shows.
  abbrev pub SeesFaults : D → Result (List FileFault) Refusal → D → Type 0
  SeesFaults old came new = (reply : Reply) × (mid : D) × steps old Look reply mid × ListsSeen mid reply came new

  abbrev pub TellsSeen : Reply → (prefix : List ℕ) → AskFault → (words : List ℕ) → Type 0
  TellsSeen (Looked shown) prefix fault words = TellsIn shown.snapshot.files prefix fault words
  TellsSeen (Refused why) prefix fault words = TellsIn map.empty prefix fault words
  TellsSeen reply prefix fault words = ⊥

  -- A look, and what is told of a fault with places in the files that it shows; with no files where the look is refused.
  abbrev pub TellsFault : D → (prefix : List ℕ) → AskFault → (words : List ℕ) → D → Type 0
  TellsFault old prefix fault words new = (reply : Reply) × steps old Look reply new × TellsSeen reply prefix fault words
