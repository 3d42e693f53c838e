-- Parsed files as the definitions of identifiers take them.
use Rattle.go_ast.specs.FileView.{file_view}
use Rattle.go_ast.specs.SourceFile.{FileParts, source_of, spelling_of}
use Rattle.go_scope.specs.FileSites.{SpelledFile}

-- the tree and the token spellings of a parsed file
abbrev pub spelled_file : FileParts → SpelledFile
spelled_file f = record { tree = file_view f.file; spell = spelling_of (source_of f) }
