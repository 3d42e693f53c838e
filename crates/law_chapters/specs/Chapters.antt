-- The laws of chapters: what their journals make of the content.
use Rattle.std.specs.Prelude.{◌≡◌, ◌↔◌, ◌+◌, List, [], ◌∷◌, ◌++◌, length}
use Rattle.base_files.specs.declared.limits.Limits.{Limits}
use Rattle.history_machine.specs.Chapters.{AreClosed, LeadsOver, all_entries}
use Rattle.history_machine.specs.Machine.{Content, content, opening}
use Rattle.history_machine.specs.Run.{IsReplay}
use Rattle.history_machine.specs.declared.entry.Entry.{Entry}
use Rattle.law_history.specs.Replays.{IsSameContent}

-- A history of one chapter is the replay of its journal.
abbrev pub OneChapterIsReplayed : Type 0
OneChapterIsReplayed = (limits : Limits) (journal : List Entry) (c : Content) →
    LeadsOver (content (opening limits)) [] journal c ↔ IsReplay limits journal c

-- Closed chapters, and those that follow them, are all closed chapters of one history.
abbrev pub ChaptersGoOn : Type 0
ChaptersGoOn = (start end : Content) (journals more : List (List Entry)) →
    AreClosed start (journals ++ more) end ↔ ((mid : Content) × AreClosed start journals mid × AreClosed mid more end)

-- The content counts the entries of the closed journals.
abbrev pub EntriesAreCounted : Type 0
EntriesAreCounted = (start end : Content) (journals : List (List Entry)) → AreClosed start journals end →
    end.begun ≡ start.begun + length (all_entries journals)

-- The content at the end is the same wherever the borders lie, and also without any border, but for the count of closed entries: the entries
-- alone count, in their order.
abbrev pub BordersDoNotCount : Type 0
BordersDoNotCount = (limits : Limits) (journals others : List (List Entry)) (last another : List Entry) (c d : Content)
    → all_entries journals ++ last ≡ all_entries others ++ another
    → LeadsOver (content (opening limits)) journals last c → LeadsOver (content (opening limits)) others another d → IsSameContent c d
