-- What the server can do, as JSON.
use Rattle.std.specs.Prelude.{ℕ, List, codes, true}
use Rattle.serde_json.specs.Data.{Data, array, boolean, item, no_items, number, string, object, member, no_members, unsigned}
use Rattle.lsp_position.specs.declared.units.PositionEncoding.{PositionEncoding}
use Rattle.lsp_position.specs.declared.units.PositionEncoding.TheVariants.{Utf16, Utf8}

-- The name of an encoding of positions.
abbrev pub encoding_name : PositionEncoding → List ℕ
encoding_name Utf8 = codes "utf-8"
encoding_name Utf16 = codes "utf-16"

-- How documents are kept the same: they are opened and closed, and changed in parts.
abbrev pub synchronized_value : Data
synchronized_value =
    object (member (codes "change") (number (unsigned 2)) (member (codes "openClose") (boolean true) (member (codes "save") (boolean true) no_members)))

-- That folders of files are meant.
abbrev pub folders_value : Data
folders_value =
    object (member (codes "filters") (array (item (object (member (codes "pattern")
    (object (member (codes "glob") (string (codes "**")) (member (codes "matches") (string (codes "folder")) no_members)))
    (member (codes "scheme") (string (codes "file")) no_members))) no_items)) no_members)

-- What the server does where files are renamed.
abbrev pub operations_value : Data
operations_value =
    object (member (codes "fileOperations")
    (object (member (codes "didRename") folders_value (member (codes "willRename") folders_value no_members))) no_members)

-- What the server can do.
abbrev pub capabilities_value : PositionEncoding → Data
capabilities_value encoding =
    object (member (codes "definitionProvider") (boolean true) (member (codes "documentHighlightProvider") (boolean true)
    (member (codes "executeCommandProvider")
    (object (member (codes "commands") (array (item (string (codes "gorefd.undo")) (item (string (codes "gorefd.redo")) no_items))) no_members))
    (member (codes "positionEncoding") (string (encoding_name encoding)) (member (codes "referencesProvider") (boolean true)
    (member (codes "renameProvider") (object (member (codes "prepareProvider") (boolean true) no_members))
    (member (codes "textDocumentSync") synchronized_value (member (codes "workspace") operations_value no_members))))))))

-- The result of initialize.
abbrev pub initialize_result : PositionEncoding → Data
initialize_result encoding =
    object (member (codes "capabilities") (capabilities_value encoding)
    (member (codes "serverInfo") (object (member (codes "name") (string (codes "gorefd")) no_members)) no_members))
