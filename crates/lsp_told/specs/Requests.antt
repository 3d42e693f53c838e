-- The requests that the server knows, read from their methods and parameters.
use Rattle.std.specs.Prelude.{ℕ, ◌==◌, Bool, List, codes, if◌then◌else◌, Option, None, Some, option_and_then, option_map, Result, Ok, Err}
use Rattle.std.specs.Cmp.Lexicographic.{pointwise}
use Rattle.serde_json.specs.Data.{Data, Items}
use Rattle.serde_json.specs.Find.{as_array, get}
use Rattle.serde_json.specs.View.{items_view}
use Rattle.lsp_message.specs.Stages.{is_method}
use Rattle.lsp_params.specs.Asked.{PlaceView, asked_at, asked_name, command_in, includes_declaration, named_view, place_view}
use Rattle.lsp_told.specs.declared.fault.AskFault.{AskFault}
use Rattle.lsp_told.specs.declared.fault.AskFault.TheVariants.{Method, Params}
use Rattle.lsp_told.specs.declared.requests.ByteQuestion.{ByteQuestion}
use Rattle.lsp_told.specs.declared.requests.ByteQuestion.TheVariants as question
use Rattle.lsp_told.specs.declared.requests.EditorRequest.{EditorRequest}
use Rattle.lsp_told.specs.declared.requests.EditorRequest.TheVariants as request
use Rattle.lsp_told.specs.declared.requests.KnownMethod.{KnownMethod}
use Rattle.lsp_told.specs.declared.requests.KnownMethod.TheVariants as method
use Rattle.lsp_told.specs.declared.requests.Way.{Way}
use Rattle.lsp_told.specs.declared.requests.Way.TheVariants.{Redo, Undo}

-- A request, as data.
pub data AskedOf : Type 0 where
  renames : PlaceView × List ℕ → AskedOf
  asks_at : PlaceView → ByteQuestion → AskedOf
  will_rename : Items → AskedOf
  takes_back : Way → AskedOf

abbrev pub request_view : EditorRequest → AskedOf
request_view (request.Rename asked) = renames (named_view asked)
request_view (request.At at asked) = asks_at (place_view at) asked
request_view (request.WillRename files) = will_rename (items_view files.now)
request_view (request.TakeBack way) = takes_back way

-- Whether a text is this one.
abbrev is_command : List ℕ → List ℕ → Bool
is_command name command = pointwise ◌==◌ command name

-- The way of a command, if the server knows it.
abbrev pub way_of : List ℕ → Option Way
way_of command =
    if is_command (codes "gorefd.undo") command then Some Undo else (if is_command (codes "gorefd.redo") command then Some Redo else None)

-- The files that are to be renamed.
abbrev pub renamed_files : Data → Option Items
renamed_files params = option_and_then as_array (get (codes "files") params)

-- A request whose parameters were found, or that they lack something.
abbrev needed : Option AskedOf → Result AskedOf AskFault
needed (Some asked) = Ok asked
needed None = Err Params

-- The request to rename.
abbrev pub rename_in : Data → Result AskedOf AskFault
rename_in params = needed (option_map renames (asked_name params))

-- A question about the byte at a place.
abbrev pub question_in : Data → ByteQuestion → Result AskedOf AskFault
question_in params asked = needed (option_map (λ at. asks_at at asked) (asked_at params))

-- The question about references.
abbrev pub references_in : Data → ByteQuestion
references_in params = question.References (includes_declaration params)

-- The request before a rename of files.
abbrev pub renamed_files_in : Data → Result AskedOf AskFault
renamed_files_in params = needed (option_map will_rename (renamed_files params))

-- The request to execute a command.
abbrev pub executed_in : Data → Result AskedOf AskFault
executed_in params = needed (option_map takes_back (option_and_then way_of (command_in params)))

-- The method of this name, if it is one on files or commands that the server knows.
abbrev pub other_method : List ℕ → Option KnownMethod
other_method name =
    if is_method (codes "workspace/willRenameFiles") name then Some method.WillRename
    else (if is_method (codes "workspace/executeCommand") name then Some method.Execute else None)

-- The method of this name, if the server knows it.
abbrev pub known_method : List ℕ → Option KnownMethod
known_method name =
    if is_method (codes "textDocument/rename") name then Some method.Rename
    else (if is_method (codes "textDocument/prepareRename") name then Some method.Prepare
    else (if is_method (codes "textDocument/references") name then Some method.References
    else (if is_method (codes "textDocument/definition") name then Some method.Definition
    else (if is_method (codes "textDocument/documentHighlight") name then Some method.Highlights else other_method name))))

-- The request of a method with parameters. Without what it needs in them it is refused.
abbrev pub request_with : KnownMethod → Data → Result AskedOf AskFault
request_with method.Rename params = rename_in params
request_with method.Prepare params = question_in params question.Prepare
request_with method.References params = question_in params (references_in params)
request_with method.Definition params = question_in params question.Definition
request_with method.Highlights params = question_in params question.Highlights
request_with method.WillRename params = renamed_files_in params
request_with method.Execute params = executed_in params

-- The request of a known method. Each needs parameters.
abbrev pub request_of : KnownMethod → Option Data → Result AskedOf AskFault
request_of known (Some params) = request_with known params
request_of known None = Err Params

abbrev request_by : Option KnownMethod → Option Data → Result AskedOf AskFault
request_by (Some known) params = request_of known params
request_by None params = Err Method

-- The request of a method and its parameters.
abbrev pub request_in : List ℕ → Option Data → Result AskedOf AskFault
request_in name params = request_by (known_method name) params

-- A request that was read, as data.
abbrev pub request_read : Result EditorRequest AskFault → Result AskedOf AskFault
request_read (Ok asked) = Ok (request_view asked)
request_read (Err failed) = Err failed
