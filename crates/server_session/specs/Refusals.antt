-- The text of a refusal: its code, and the body of its reply.
use Rattle.std.specs.Prelude.{ℕ, List, [], ◌∷◌, ◌++◌, codes, decimal, Option, None, Some}
use Rattle.base_files.specs.PlaceText.{place_text, fault_line}
use Rattle.base_files.specs.declared.place.Place.{Place}
use Rattle.base_files.specs.declared.refusal.Refusal.{Refusal}
use Rattle.base_files.specs.declared.refusal.Refusal.TheVariants as refusal

-- the code of a refusal
abbrev pub code_of : Refusal → ℕ
code_of refusal.Memory = 1
code_of refusal.BadCommand = 2
code_of refusal.BadPath = 3
code_of refusal.NoFile = 4
code_of refusal.TooLarge = 5
code_of (refusal.Moved current) = 6
code_of refusal.NothingToUndo = 7
code_of refusal.NothingToRedo = 8
code_of (refusal.Faulty place kind) = 9
code_of refusal.NoIdentifier = 10
code_of refusal.NotRenamable = 11
code_of refusal.BadName = 12
code_of refusal.Same = 13
code_of (refusal.Captured used by) = 14
code_of (refusal.Lost used) = 15
code_of refusal.NoPackage = 16
code_of refusal.TargetTaken = 17
code_of refusal.InsideItself = 18
code_of refusal.JournalFull = 19
code_of (refusal.Pending folder) = 20
code_of (refusal.Stale current) = 21
code_of refusal.Already = 22
code_of refusal.NoJob = 23
code_of refusal.BodyShort = 24
code_of (refusal.Coupled place) = 25
code_of refusal.Disk = 26

-- the place of a declaration, or `universe` for a predeclared one
abbrev pub capturer_text : Option Place → List ℕ
capturer_text None = codes "universe"
capturer_text (Some place) = place_text place

-- a number on a line of its own
abbrev pub number_line : ℕ → List ℕ
number_line number = decimal number ++ 10 ∷ []

-- the body of a refusal's reply
abbrev pub refusal_body : Refusal → List ℕ
refusal_body (refusal.Moved current) = number_line current
refusal_body (refusal.Faulty place kind) = fault_line place kind
refusal_body (refusal.Captured used by) = place_text used ++ codes " by " ++ capturer_text by ++ 10 ∷ []
refusal_body (refusal.Lost used) = place_text used ++ 10 ∷ []
refusal_body (refusal.Coupled place) = place_text place ++ 10 ∷ []
refusal_body (refusal.Pending folder) = folder ++ 10 ∷ []
refusal_body (refusal.Stale current) = number_line current
refusal_body other = []
