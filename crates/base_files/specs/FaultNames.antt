-- How the kinds of faults are spelled.
use Rattle.std.specs.Prelude.{ℕ, List, codes}
use Rattle.base_files.specs.declared.fault_kind.FaultKind.{FaultKind}
use Rattle.base_files.specs.declared.fault_kind.FaultKind.TheVariants as kind

-- The word for a kind of fault in replies.
abbrev pub fault_word : FaultKind → List ℕ
fault_word kind.Encoding = codes "encoding"
fault_word kind.Number = codes "number"
fault_word kind.String = codes "string"
fault_word kind.Comment = codes "comment"
fault_word kind.Character = codes "character"
fault_word kind.Syntax = codes "syntax"
fault_word kind.Nesting = codes "nesting"
fault_word kind.Package = codes "package"
fault_word kind.Missing = codes "missing"
fault_word kind.Cycle = codes "cycle"
fault_word kind.Import = codes "import"
fault_word kind.Undeclared = codes "undeclared"
fault_word kind.Unexported = codes "unexported"
fault_word kind.Repeated = codes "repeated"
fault_word kind.Unused = codes "unused"
fault_word kind.NoNew = codes "nonew"
fault_word kind.Loop = codes "loop"
fault_word kind.Recursive = codes "recursive"
fault_word kind.«Type» = codes "type"
