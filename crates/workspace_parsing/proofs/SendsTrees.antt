-- Syntax trees may be sent to other threads, and shared by them. Each variant is searched for alone, since a search for all gives up.
use denote.RattleType.{RattleType}
use denote.Enum.Declared.{shape}
use denote.Param.Send.{IsSend, IsSync, sendable, owning_send, part_keyless, enum_send, enum_sync}
use denote.Param.SendFields.{as_row_send, as_row_sync, declared_send, declared_sync, variants_send, variants_sync}
use Rattle.std.proofs.Crossing.{crosses}
use Rattle.std.proofs.MapsCrossing.{crosses as maps}
use Rattle.go_scanner.specs.contracts.trail.Trail.{the_row as trail}
use Rattle.go_scanner.specs.contracts.pieces.Pieces.{the_row as pieces}
use Rattle.go_ast.specs.contracts.tree.File.{the_row as file}
use Rattle.go_ast.specs.contracts.tree.Values.{the_row as values}
use Rattle.go_ast.specs.contracts.tree.LocalSpec.{the_row as local_spec}
use Rattle.go_ast.specs.contracts.tree.SimpleStmt.{the_row as simple}
use Rattle.go_ast.specs.contracts.tree.IfInit.{the_row as if_init}
use Rattle.go_ast.specs.contracts.tree.ForHeader.{the_row as header}
use Rattle.go_ast.specs.contracts.tree.VarSpec.{the_row as var_spec}
use Rattle.go_ast.specs.contracts.tree.Param.{the_row as param}
use Rattle.go_ast.specs.contracts.tree.Results.{the_row as results}
use Rattle.go_ast.specs.contracts.tree.MethodSpec.{the_row as method_spec}
use Rattle.go_ast.specs.contracts.tree.TypeBody.{the_row as type_body, enum as body_enum}
use Rattle.go_ast.specs.contracts.tree.TypeSpec.{the_row as type_spec, the_type as type_spec_type}
use Rattle.go_ast.specs.contracts.tree.FuncDecl.{the_row as func_decl}
use Rattle.go_ast.specs.contracts.tree.Decl.{the_row as decl}
use Rattle.go_ast.specs.contracts.file_tree.FileTreeParts.{the_row as file_parts}
use Rattle.go_ast.specs.contracts.file_tree.FileTree.{the_row as file_tree}
use Rattle.go_scanner.specs.contracts.trail.Trail.{the_type as trail_type}
use Rattle.go_ast.specs.contracts.tree.SimpleStmt.{enum as simple_enum, the_type as simple_type, the_field as simple_field}
use Rattle.go_ast.specs.contracts.tree.ForHeader.{enum as header_enum}
use Rattle.go_ast.specs.contracts.tree.BlockStmt.{the_field as block_field}
use Rattle.go_ast.specs.contracts.tree.FuncDecl.{the_type as func_type}
use Rattle.go_ast.specs.contracts.tree.Decl.{enum as decl_enum}
use Rattle.base_files.proofs.path.Path.TheSendSync.{the_send as Path-send, the_sync as Path-sync}
use Rattle.base_files.proofs.file_text.FileText.TheSendSync.{the_send as FileText-send, the_sync as FileText-sync}
use Rattle.go_scanner.proofs.piece.Piece.TheSendSync.{the_send as Piece-send, the_sync as Piece-sync}
use Rattle.go_scanner.proofs.compact_piece.CompactPiece.TheSendSync.{the_send as CompactPiece-send, the_sync as CompactPiece-sync}
use Rattle.go_ast.proofs.tree.Receiver.TheSendSync.{the_send as Receiver-send, the_sync as Receiver-sync}
use Rattle.go_ast.proofs.tree.ImportDecl.TheSendSync.{the_send as ImportDecl-send, the_sync as ImportDecl-sync}
use Rattle.go_ast.proofs.tree.Ident.TheSendSync.{the_send as Ident-send, the_sync as Ident-sync}
use Rattle.go_ast.proofs.tree.Key.TheSendSync.{the_send as Key-send, the_sync as Key-sync}
use Rattle.go_ast.proofs.tree.VarValues.TheSendSync.{the_send as VarValues-send, the_sync as VarValues-sync}
use Rattle.go_ast.proofs.tree.BasicLit.TheSendSync.{the_send as BasicLit-send, the_sync as BasicLit-sync}
use Rattle.go_ast.proofs.tree.Else.TheLaws.TheKnot.{crosses as else_crosses, send-BlockStmt, sync-BlockStmt}
use Rattle.go_ast.proofs.tree.Expr.TheLaws.TheKnot.{crosses as expr_crosses}
use Rattle.go_ast.proofs.tree.TypeExpr.TheLaws.TheKnot.{crosses as type_crosses}

-- owned values, and what each of the crates below shows of its own types
ruleset owned = (
  sendable,
  crosses,
  maps,
  Path-send,
  Path-sync,
  FileText-send,
  FileText-sync,
  Receiver-send,
  Receiver-sync,
  ImportDecl-send,
  ImportDecl-sync,
  Ident-send,
  Ident-sync,
  Key-send,
  Key-sync,
  VarValues-send,
  VarValues-sync,
  BasicLit-send,
  BasicLit-sync,
  else_crosses,
  expr_crosses,
  type_crosses,
)

pub trail_sent : (A : RattleType) → IsSend A → IsSend (trail A)
trail_sent A a = owning_send (trail_type A) (search sendable, tt) (λ d. tt) (λ k x w. tt)

pub trail_shared : (A : RattleType) → IsSend A → IsSync (trail A)
trail_shared A a = record { shared = λ d b o κ q. part_keyless (trail A) (trail_sent A a) q d b o }

pub values_sent : IsSend values
values_sent = search (owned) depth 30 fits 50000

pub values_shared : IsSync values
values_shared = search (owned) depth 30 fits 50000

pub local_spec_sent : IsSend local_spec
local_spec_sent = search (owned, values_sent) depth 30 fits 50000

pub local_spec_shared : IsSync local_spec
local_spec_shared = search (owned, values_shared) depth 30 fits 50000

pub simple_sent : IsSend simple
simple_sent = variants_send simple_enum (
  search (owned) depth 30 fits 50000,
  (
    search (owned) depth 30 fits 50000,
    (
      search (owned) depth 30 fits 50000,
      (
        search (owned) depth 30 fits 50000,
        (
          search (owned) depth 30 fits 50000,
          tt,
        ),
      ),
    ),
  ),
)

pub simple_shared : IsSync simple
simple_shared = variants_sync simple_enum (
  search (owned) depth 30 fits 50000,
  (
    search (owned) depth 30 fits 50000,
    (
      search (owned) depth 30 fits 50000,
      (
        search (owned) depth 30 fits 50000,
        (
          search (owned) depth 30 fits 50000,
          tt,
        ),
      ),
    ),
  ),
)

pub if_init_sent : IsSend if_init
if_init_sent = search (owned, simple_sent) depth 30 fits 50000

pub if_init_shared : IsSync if_init
if_init_shared = search (owned, simple_shared) depth 30 fits 50000

pub var_spec_sent : IsSend var_spec
var_spec_sent = search (owned) depth 30 fits 50000

pub var_spec_shared : IsSync var_spec
var_spec_shared = search (owned) depth 30 fits 50000

pub param_sent : IsSend param
param_sent = search (owned) depth 30 fits 50000

pub param_shared : IsSync param
param_shared = search (owned) depth 30 fits 50000

pub results_sent : IsSend results
results_sent = search (owned) depth 30 fits 50000

pub results_shared : IsSync results
results_shared = search (owned) depth 30 fits 50000

pub method_spec_sent : IsSend method_spec
method_spec_sent = search (owned, param_sent) depth 30 fits 50000

pub method_spec_shared : IsSync method_spec
method_spec_shared = search (owned, param_shared) depth 30 fits 50000

pub type_body_sent : IsSend type_body
type_body_sent = variants_send body_enum (
  search owned depth 30 fits 50000,
  (
    search owned depth 30 fits 50000,
    (
      search (owned, method_spec_sent) depth 30 fits 50000,
      tt,
    ),
  ),
)

pub type_body_shared : IsSync type_body
type_body_shared = variants_sync body_enum (
  search owned depth 30 fits 50000,
  (
    search owned depth 30 fits 50000,
    (
      search (owned, method_spec_shared) depth 30 fits 50000,
      tt,
    ),
  ),
)

pub type_spec_sent : IsSend type_spec
type_spec_sent = declared_send type_spec_type (
  search owned depth 30 fits 50000,
  (
    search (owned, type_body_sent) depth 30 fits 50000,
    tt,
  ),
)

pub type_spec_shared : IsSync type_spec
type_spec_shared = declared_sync type_spec_type (
  search owned depth 30 fits 50000,
  (
    search (owned, type_body_shared) depth 30 fits 50000,
    tt,
  ),
)

pub simple_field_sent : IsSend (simple_field).row
simple_field_sent = enum_send (shape simple_type) (
  search (owned) depth 30 fits 50000,
  (
    search (owned) depth 30 fits 50000,
    (
      search (owned) depth 30 fits 50000,
      (
        search (owned) depth 30 fits 50000,
        (
          search (owned) depth 30 fits 50000,
          tt,
        ),
      ),
    ),
  ),
)

pub simple_field_shared : IsSync (simple_field).row
simple_field_shared = enum_sync (shape simple_type) (
  search (owned) depth 30 fits 50000,
  (
    search (owned) depth 30 fits 50000,
    (
      search (owned) depth 30 fits 50000,
      (
        search (owned) depth 30 fits 50000,
        (
          search (owned) depth 30 fits 50000,
          tt,
        ),
      ),
    ),
  ),
)

pub header_sent : IsSend header
header_sent = variants_send header_enum (
  search owned depth 30 fits 50000,
  (
    search owned depth 30 fits 50000,
    (
      search (owned, simple_sent) depth 30 fits 50000,
      tt,
    ),
  ),
)

pub header_shared : IsSync header
header_shared = variants_sync header_enum (
  search owned depth 30 fits 50000,
  (
    search owned depth 30 fits 50000,
    (
      search (owned, simple_shared) depth 30 fits 50000,
      tt,
    ),
  ),
)

pub block_sent : IsSend (block_field).row
block_sent = send-BlockStmt
    (search owned depth 30 fits 50000)
    (search owned depth 30 fits 50000)
    (search (owned, local_spec_sent) depth 30 fits 50000)
    simple_field_sent
    (search (owned, header_sent) depth 30 fits 50000)
    (search owned depth 30 fits 50000)
    (search owned depth 30 fits 50000)
    (search owned depth 30 fits 50000)
    (search (owned, if_init_sent) depth 30 fits 50000)
    (search owned depth 30 fits 50000)

pub block_shared : IsSync (block_field).row
block_shared = sync-BlockStmt
    (search owned depth 30 fits 50000)
    (search owned depth 30 fits 50000)
    (search (owned, local_spec_shared) depth 30 fits 50000)
    simple_field_shared
    (search (owned, header_shared) depth 30 fits 50000)
    (search owned depth 30 fits 50000)
    (search owned depth 30 fits 50000)
    (search owned depth 30 fits 50000)
    (search (owned, if_init_shared) depth 30 fits 50000)
    (search owned depth 30 fits 50000)

pub func_decl_sent : IsSend func_decl
func_decl_sent = declared_send func_type (
  search owned depth 30 fits 50000,
  (
    search owned depth 30 fits 50000,
    (
      search owned depth 30 fits 50000,
      (
        search (owned, param_sent) depth 30 fits 50000,
        (
          search owned depth 30 fits 50000,
          (
            search (owned, results_sent) depth 30 fits 50000,
            (as_row_send block_field block_sent, tt),
          ),
        ),
      ),
    ),
  ),
)

pub func_decl_shared : IsSync func_decl
func_decl_shared = declared_sync func_type (
  search owned depth 30 fits 50000,
  (
    search owned depth 30 fits 50000,
    (
      search owned depth 30 fits 50000,
      (
        search (owned, param_shared) depth 30 fits 50000,
        (
          search owned depth 30 fits 50000,
          (
            search (owned, results_shared) depth 30 fits 50000,
            (as_row_sync block_field block_shared, tt),
          ),
        ),
      ),
    ),
  ),
)

pub decl_sent : IsSend decl
decl_sent = variants_send decl_enum (
  search (owned, var_spec_sent) depth 30 fits 50000,
  (
    search (owned, type_spec_sent) depth 30 fits 50000,
    (
      search (owned, func_decl_sent) depth 30 fits 50000,
      tt,
    ),
  ),
)

pub decl_shared : IsSync decl
decl_shared = variants_sync decl_enum (
  search (owned, var_spec_shared) depth 30 fits 50000,
  (
    search (owned, type_spec_shared) depth 30 fits 50000,
    (
      search (owned, func_decl_shared) depth 30 fits 50000,
      tt,
    ),
  ),
)

pub pieces_sent : IsSend pieces
pieces_sent = search (owned, Piece-send, CompactPiece-send, trail_sent) depth 30 fits 50000

pub pieces_shared : IsSync pieces
pieces_shared = search (owned, Piece-send, CompactPiece-sync, trail_shared) depth 30 fits 50000

pub file_sent : IsSend file
file_sent = search (owned, decl_sent) depth 30 fits 50000

pub file_shared : IsSync file
file_shared = search (owned, decl_shared) depth 30 fits 50000

pub file_parts_sent : IsSend file_parts
file_parts_sent = search (owned, pieces_sent, file_sent, file_shared) depth 30 fits 50000

pub file_parts_shared : IsSync file_parts
file_parts_shared = search (owned, pieces_shared, file_sent, file_shared) depth 30 fits 50000

pub file_tree_sent : IsSend file_tree
file_tree_sent = search (owned, file_parts_sent, file_parts_shared) depth 30 fits 50000

pub file_tree_shared : IsSync file_tree
file_tree_shared = search (owned, file_parts_sent, file_parts_shared) depth 30 fits 50000
