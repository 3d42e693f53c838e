-- The findings of packages may be sent to other threads, and shared by them.
use denote.Param.Send.{IsSend, IsSync, sendable}
use denote.Param.SendFields.{declared_send, declared_sync}
use Rattle.std.proofs.Crossing.{crosses}
use Rattle.std.proofs.MapsCrossing.{crosses as maps}
use Rattle.types_expr.specs.contracts.types.GoType.{the_row as go_type}
use Rattle.types_expr.specs.contracts.symbol.Symbol.{the_row as symbol}
use Rattle.types_expr.specs.contracts.types.Signature.{the_row as signature}
use Rattle.types_expr.specs.contracts.types.WrittenAs.{the_row as written_as}
use Rattle.types_expr.specs.contracts.world.Field.{the_row as field, the_type as field_type}
use Rattle.types_expr.specs.contracts.world.Method.{the_row as method}
use Rattle.types_expr.specs.contracts.world.Definition.{the_row as definition}
use Rattle.types_expr.specs.contracts.found.MemberUse.{the_row as member_use}
use Rattle.types_expr.specs.contracts.found.Entering.{the_row as entering}
use Rattle.types_expr.specs.contracts.exports.Export.{the_row as exported}
use Rattle.types_expr.specs.contracts.exports.PackageScope.{the_row as scope}
use Rattle.types_expr.specs.contracts.exports.ExportData.{the_row as export_data}
use Rattle.types_declared.specs.contracts.export_tables.ExportTable.{the_row as export_table}
use Rattle.types_declared.specs.contracts.known_export.KnownExportData.{the_row as known_interface}
use Rattle.workspace_check.specs.contracts.fault.FileFault.{the_row as file_fault}
use Rattle.workspace_check.specs.contracts.finding.Finding.{the_row as finding}
use Rattle.workspace_check.specs.contracts.finding.SharedFinding.{the_row as shared_finding}
use Rattle.workspace_check.specs.contracts.known.KnownVerdict.{the_row as verdict}
use Rattle.base_files.proofs.path.Path.TheSendSync.{the_send as Path-send, the_sync as Path-sync}
use Rattle.base_files.proofs.shared_path.SharedPath.TheSendSync.{the_send as SharedPath-send, the_sync as SharedPath-sync}
use Rattle.types_expr.proofs.types.Basic.TheSendSync.{the_send as Basic-send, the_sync as Basic-sync}
use Rattle.types_expr.proofs.symbol.Symbol.TheSendSync.{the_send as Symbol-send, the_sync as Symbol-sync}
use Rattle.types_info.proofs.lists.Qualified.TheSendSync.{the_send as Qualified-send, the_sync as Qualified-sync}
use Rattle.workspace_check.proofs.fault.FileFault.TheSendSync.{the_send as FileFault-send, the_sync as FileFault-sync}
use Rattle.types_expr.proofs.types.GoType.TheLaws.TheKnot.{crosses as type_crosses}

-- owned values, and what each of the crates below shows of its own types
pub ruleset owned = (sendable, crosses, maps, Path-send, Path-sync, SharedPath-send, SharedPath-sync, Basic-send, Basic-sync)

pub go_type_sent : IsSend go_type
go_type_sent = search (owned, type_crosses) depth 30 fits 50000

pub go_type_shared : IsSync go_type
go_type_shared = search (owned, type_crosses) depth 30 fits 50000

pub symbol_sent : IsSend symbol
symbol_sent = Symbol-send

pub symbol_shared : IsSync symbol
symbol_shared = Symbol-sync

pub signature_sent : IsSend signature
signature_sent = search (owned, go_type_sent) depth 30 fits 50000

pub signature_shared : IsSync signature
signature_shared = search (owned, go_type_shared) depth 30 fits 50000

pub written_as_sent : IsSend written_as
written_as_sent = search (owned, type_crosses) depth 30 fits 50000

pub written_as_shared : IsSync written_as
written_as_shared = search (owned, type_crosses) depth 30 fits 50000

pub field_sent : IsSend field
field_sent = declared_send field_type (
  search (owned, symbol_sent) depth 30 fits 50000,
  (
    search owned depth 30 fits 50000,
    (
      search (owned, written_as_sent) depth 30 fits 50000,
      tt,
    ),
  ),
)

pub field_shared : IsSync field
field_shared = declared_sync field_type (
  search (owned, symbol_shared) depth 30 fits 50000,
  (
    search owned depth 30 fits 50000,
    (
      search (owned, written_as_shared) depth 30 fits 50000,
      tt,
    ),
  ),
)

pub method_sent : IsSend method
method_sent = search (owned, signature_sent) depth 30 fits 50000

pub method_shared : IsSync method
method_shared = search (owned, signature_shared) depth 30 fits 50000

pub definition_sent : IsSend definition
definition_sent = search (owned, type_crosses, field_sent, method_sent) depth 30 fits 50000

pub definition_shared : IsSync definition
definition_shared = search (owned, type_crosses, field_shared, method_shared) depth 30 fits 50000

pub member_use_sent : IsSend member_use
member_use_sent = search (owned, type_crosses, symbol_sent) depth 30 fits 50000

pub member_use_shared : IsSync member_use
member_use_shared = search (owned, type_crosses, symbol_shared) depth 30 fits 50000

pub entering_sent : IsSend entering
entering_sent = search (owned, type_crosses) depth 30 fits 50000

pub entering_shared : IsSync entering
entering_shared = search (owned, type_crosses) depth 30 fits 50000

pub exported_sent : IsSend exported
exported_sent = search (owned, type_crosses, go_type_sent) depth 30 fits 50000

pub exported_shared : IsSync exported
exported_shared = search (owned, type_crosses, go_type_shared) depth 30 fits 50000

pub scope_sent : IsSend scope
scope_sent = search (owned, exported_sent) depth 30 fits 50000

pub scope_shared : IsSync scope
scope_shared = search (owned, exported_shared) depth 30 fits 50000

pub export_data_sent : IsSend export_data
export_data_sent = search (owned, type_crosses, definition_sent) depth 30 fits 50000

pub export_data_shared : IsSync export_data
export_data_shared = search (owned, type_crosses, definition_shared) depth 30 fits 50000

pub export_tables_sent : IsSend export_table
export_tables_sent = search (owned, type_crosses, export_data_sent, export_data_shared) depth 30 fits 50000

pub export_tables_shared : IsSync export_table
export_tables_shared = search (owned, type_crosses, export_data_sent, export_data_shared) depth 30 fits 50000

pub file_fault_sent : IsSend file_fault
file_fault_sent = FileFault-send

pub file_fault_shared : IsSync file_fault
file_fault_shared = FileFault-sync

pub finding_sent : IsSend finding
finding_sent = search (owned, file_fault_sent, member_use_sent, entering_sent, Qualified-send) depth 30 fits 50000

pub finding_shared : IsSync finding
finding_shared = search (owned, file_fault_shared, member_use_shared, entering_shared, Qualified-sync) depth 30 fits 50000

pub shared_finding_sent : IsSend shared_finding
shared_finding_sent = search (owned, finding_sent, finding_shared) depth 30 fits 50000

pub shared_finding_shared : IsSync shared_finding
shared_finding_shared = search (owned, finding_sent, finding_shared) depth 30 fits 50000

pub known_export_data_sent : IsSend known_interface
known_export_data_sent = search (owned, export_data_sent, export_data_shared) depth 30 fits 50000

pub known_export_data_shared : IsSync known_interface
known_export_data_shared = search (owned, export_data_sent, export_data_shared) depth 30 fits 50000

pub verdict_sent : IsSend verdict
verdict_sent = search (owned, shared_finding_sent, known_export_data_sent) depth 30 fits 50000

pub verdict_shared : IsSync verdict
verdict_shared = search (owned, shared_finding_shared, known_export_data_shared) depth 30 fits 50000
