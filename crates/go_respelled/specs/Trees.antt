-- Files in which names are replaced.
use Rattle.std.specs.Prelude.{◌≡◌, ℕ, List}
use Rattle.std.specs.List.{All, slice_range}
use Rattle.go_scanner.specs.declared.refusal.TextFault.{TextFault}
use Rattle.base_edits.specs.Moved.{moved_offset}
use Rattle.base_edits.specs.declared.edit.Edit.{Edit}
use Rattle.go_ast.specs.Kinds.{kind_of_name}
use Rattle.go_ast.specs.SourceFile.{SourceFile}
use Rattle.go_respelled.specs.Renamings.{recut}

-- Each edit replaces `_` by `_`, or an identifier other than `_` by such an identifier.
abbrev pub KeepKinds : List ℕ → List Edit → Type 0
KeepKinds text edits = All (λ e. kind_of_name e.text ≡ kind_of_name (slice_range text e.span.start e.span.end)) edits

-- The file with its text and pieces after the edits, and its old tree.
abbrev pub renamed_file : List Edit → SourceFile → SourceFile
renamed_file edits f = record { path = f.path; cut = recut edits f.cut; tree = f.tree }

-- The fault at the offset to which the edits move it.
abbrev pub moved_fault : List Edit → TextFault → TextFault
moved_fault edits fault = record { kind = fault.kind; offset = moved_offset edits fault.offset }
