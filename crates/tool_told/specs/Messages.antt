-- What is told of refusals.
use Rattle.std.specs.Prelude.{ℕ, List, [], codes, Some, None}
use Rattle.base_files.specs.declared.refusal.Refusal.{Refusal}
use Rattle.base_files.specs.declared.refusal.Refusal.TheVariants.{Memory, BadPath, NoFile, TooLarge, Faulty, NoIdentifier, NotRenamable}
use Rattle.base_files.specs.declared.refusal.Refusal.TheVariants.{BadName, Same, Captured, Lost, Coupled, NoPackage, TargetTaken, InsideItself}

-- What is told of a refusal. Of a fault or a capture it is what stands before the words on its place.
abbrev pub message : Refusal → List ℕ
message Memory = codes "memory fault"
message BadPath = codes "this is no path of the files"
message NoFile = codes "there is no such Go file"
message TooLarge = codes "the files exceed a limit"
message (Faulty place kind) = []
message NoIdentifier = codes "no identifier stands here"
message NotRenamable = codes "what stands here cannot be renamed"
message BadName = codes "the new name is not legal here"
message Same = codes "this is so already"
message (Captured used (Some by)) = codes "this identifier would be captured by "
message (Captured used None) = codes "this identifier would be captured by a predeclared name"
message (Lost used) = codes "this identifier would be lost"
message (Coupled place) = codes "other types would implement this interface"
message NoPackage = codes "there is no such package"
message TargetTaken = codes "files lie there already"
message InsideItself = codes "this lies in the folder that moves"
message refusal = codes "refused"
