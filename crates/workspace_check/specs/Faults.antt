-- Faults at places of files, and the order in which they are listed.
use Rattle.std.specs.Prelude.{ℕ, List}
use Rattle.std.specs.Cmp.{IsTotalOrder, on_total, then_total, nat_cmp_total}
use Rattle.std.specs.Cmp.Lexicographic.{slice_cmp, nat_list_cmp_total}
use Rattle.std.specs.Ordering.{nat_cmp, ordering_then}
use Rattle.std.specs.declared.cmp.Ordering.{Ordering}
use Rattle.base_files.specs.FaultNames.{fault_word}
use Rattle.base_files.specs.Path.{folder}
use Rattle.base_files.specs.Workspace.{path_cmp}
use Rattle.go_scanner.specs.declared.refusal.TextFault.{TextFault as TextFault}
use Rattle.types_declared.specs.declared.fault.Fault.{Fault}
use Rattle.go_ast.specs.SourceFile.{SourceFile, offset_of}
use Rattle.workspace_check.specs.declared.fault.FileFault.{FileFault}

-- A fault of a text, placed in the file of this path.
abbrev pub placed : List ℕ → TextFault → FileFault
placed path fault = record { place = record { path = path; offset = fault.offset }; kind = fault.kind }

-- A fault at a token of a file, placed at the first byte of the token.
abbrev pub placed_in : SourceFile → Fault → FileFault
placed_in s fault = record { place = record { path = s.path; offset = offset_of s fault.token }; kind = fault.kind }

-- Compares faults by the bytes of the package's path, by those of the file's path, by offset, and by the bytes of the kind's name.
abbrev pub fault_cmp : FileFault → FileFault → Ordering
fault_cmp f g = ordering_then (path_cmp (folder f.place.path) (folder g.place.path))
    (ordering_then (path_cmp f.place.path g.place.path)
    (ordering_then (nat_cmp f.place.offset g.place.offset) (slice_cmp nat_cmp (fault_word f.kind) (fault_word g.kind))))

pub fault_cmp_total : IsTotalOrder fault_cmp
fault_cmp_total =
    then_total (on_total (λ (f : FileFault). folder f.place.path) nat_list_cmp_total)
    (then_total (on_total (λ (f : FileFault). f.place.path) nat_list_cmp_total)
    (then_total (on_total (λ (f : FileFault). f.place.offset) nat_cmp_total) (on_total (λ (f : FileFault). fault_word f.kind) nat_list_cmp_total)))
