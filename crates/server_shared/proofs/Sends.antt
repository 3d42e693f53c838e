-- A shared book may be shared by threads, and a seat may go to another thread.
use denote.RattleType.{RattleType}
use denote.Param.Send.{IsSend, IsSync, sendable}
use Rattle.std.specs.declared.sync.ledger.Ledger.{Ghosts as Ledger}
use Rattle.server_versions.specs.declared.versions.LogName.{Ghosts as LogName}
use Rattle.std.proofs.Crossing.{crosses, send as Global-send, sync as Global-sync}
use Rattle.std.proofs.MapsCrossing.{crosses as maps}
use Rattle.std.proofs.sync.ledger.Book.TheSendSync.{the_send as Count-send}
use Rattle.std.proofs.sync.ledger.Share.TheSendSync.{the_send as Share-send}
use Rattle.workspace_check.specs.contracts.earlier.EarlierParts.{the_row as earlier_parts}
use Rattle.workspace_check.specs.contracts.earlier.Earlier.{the_row as earlier}
use Rattle.workspace_check.specs.contracts.known.Known.{the_row as known}
use Rattle.workspace_check.specs.contracts.shared_known.SharedKnown.{the_row as shared_known}
use Rattle.build_unit.specs.contracts.unit.Compiled.{the_row as compiled}
use Rattle.build_unit.specs.contracts.unit.Unit.{the_row as unit}
use Rattle.build_carry.specs.contracts.finished.Finished.{the_row as finished}
use Rattle.build_names.specs.contracts.given_name.GivenName.{the_row as given_name}
use Rattle.build_kept.specs.contracts.known_units.KnownUnits.{the_field as ready_field}
use Rattle.history_machine.specs.contracts.path_list.PathList.{the_row as path_list}
use Rattle.history_machine.specs.contracts.state.State.{the_row as state}
use Rattle.history_machine.specs.contracts.resting.Resting.{the_field as resting_field}
use Rattle.history_inverses.proofs.history.History.TheSendSync.{the_send as Inverses-send}
use Rattle.history_book.specs.contracts.states.States.{the_field as states_field}
use Rattle.history_book.specs.contracts.content.Content.{the_row as content}
use Rattle.history_book.specs.contracts.book.Book.{the_row as book}
use Rattle.server_shared.specs.contracts.seat.Seat.{the_row as seat}
use Rattle.server_shared.specs.contracts.shared.Shared.{the_row as shared}
use Rattle.server_shared.specs.contracts.files_log.FilesLog.{the_field as files_log_field}
use Rattle.server_shared.specs.contracts.locked.Locked.{the_row as locked}
use Rattle.server_shared.specs.declared.opening.Opening.{Ghosts as Opening}
use Rattle.base_chunks.proofs.list.SharedList.TheSendSync.{the_send as SharedList-send, the_sync as SharedList-sync}
use Rattle.base_files.proofs.file_text.FileText.TheSendSync.{the_send as FileText-send, the_sync as FileText-sync}
use Rattle.base_files.proofs.files.Files.TheSendSync.{the_send as Files-send, the_sync as Files-sync}
use Rattle.base_files.proofs.limits.Limits.TheSendSync.{the_send as Limits-send, the_sync as Limits-sync}
use Rattle.base_files.proofs.shared_path.SharedPath.TheSendSync.{the_send as SharedPath-send, the_sync as SharedPath-sync}
use Rattle.workspace_graph.proofs.faulty_file.FaultyFile.TheSendSync.{the_send as FaultyFile-send, the_sync as FaultyFile-sync}
use Rattle.workspace_graph.proofs.shared_links.SharedLinks.TheSendSync.{the_send as SharedLinks-send, the_sync as SharedLinks-sync}
use Rattle.build_unit.proofs.out.Out.TheSendSync.{the_send as Out-send}
use Rattle.history_machine.proofs.entry.Entry.TheSendSync.{the_send as Entry-send}
use Rattle.server_shared.proofs.ahead.Crew.TheSendSync.{the_send as Crew-send}
use Rattle.logbook.proofs.word.Word.TheSendSync.{the_send as Word-send}
use Rattle.server_versions.proofs.versions.Versions.TheSendSync.{the_send as Versions-send}
use Rattle.server_shared.proofs.chapters.Closing.TheSendSync.{the_send as Closing-send}
use Rattle.server_shared.proofs.receipt.Receipt.TheSendSync.{the_send as Receipt-send}
use Rattle.server_shared.proofs.seat.Seat.TheSendSync.{the_send as Seat-send}
use Rattle.server_journal.proofs.disk.DiskStore.TheSendSync.{the_send as DiskStore-send}
use Rattle.server_journal.proofs.kept.Kept.TheSendSync.{the_send as Kept-send}
use Rattle.server_shared.proofs.SendsFound.{file_fault_sent, file_fault_shared, export_data_sent, export_data_shared, verdict_sent}
use Rattle.server_shared.proofs.SendsFound.{verdict_shared}
use Rattle.types_expr.proofs.types.GoType.TheLaws.TheKnot.{crosses as type_crosses}
use Rattle.workspace_parsing.proofs.SendsGraph.{graph_sent, graph_shared, set_sent, set_shared}

-- owned values, and what each of the crates below shows of its own types
ruleset owned = (
  sendable,
  crosses,
  maps,
  set_sent,
  set_shared,
  Global-send,
  Global-sync,
  FileText-send,
  FileText-sync,
  Files-send,
  Files-sync,
  Limits-send,
  Limits-sync,
  FaultyFile-send,
  FaultyFile-sync,
  SharedLinks-send,
  SharedLinks-sync,
)

-- what is known of packages, and what was known of them in another graph

pub earlier_parts_sent : IsSend earlier_parts
earlier_parts_sent = search (owned, graph_sent, verdict_sent) depth 30 fits 50000

pub earlier_parts_shared : IsSync earlier_parts
earlier_parts_shared = search (owned, graph_shared, verdict_shared) depth 30 fits 50000

pub earlier_sent : IsSend earlier
earlier_sent = search (owned, earlier_parts_sent, earlier_parts_shared) depth 30 fits 50000

pub earlier_shared : IsSync earlier
earlier_shared = search (owned, earlier_parts_sent, earlier_parts_shared) depth 30 fits 50000

pub known_sent : IsSend known
known_sent = search (owned, verdict_sent, earlier_sent) depth 30 fits 50000

pub known_shared : IsSync known
known_shared = search (owned, verdict_shared, earlier_shared) depth 30 fits 50000

pub shared_known_sent : IsSend shared_known
shared_known_sent = search (owned, known_sent, known_shared) depth 30 fits 50000

pub compiled_sent : IsSend compiled
compiled_sent = search (owned, type_crosses, file_fault_sent, export_data_sent, export_data_shared) depth 30 fits 50000

pub compiled_shared : IsSync compiled
compiled_shared = search (owned, type_crosses, file_fault_shared, export_data_sent, export_data_shared) depth 30 fits 50000

pub unit_sent : IsSend unit
unit_sent = search (owned, compiled_sent, compiled_shared) depth 30 fits 50000

pub unit_shared : IsSync unit
unit_shared = search (owned, compiled_sent, compiled_shared) depth 30 fits 50000

pub finished_sent : IsSend finished
finished_sent = search (owned, SharedList-send, SharedList-sync, unit_sent, unit_shared) depth 30 fits 50000

pub state_sent : IsSend state
state_sent = search (owned, graph_sent, finished_sent, shared_known_sent) depth 30 fits 50000

path_list_sent : IsSend path_list
path_list_sent = search (owned, SharedPath-send, SharedPath-sync) depth 30 fits 50000

-- as fields, as a package is above
resting_field_sent : IsSend resting_field.row
resting_field_sent = search (owned, path_list_sent, finished_sent, shared_known_sent) depth 30 fits 50000

states_field_sent : IsSend states_field.row
states_field_sent = search (owned, state_sent, resting_field_sent, Inverses-send) depth 30 fits 50000

given_name_sent : IsSend given_name
given_name_sent = search owned depth 30 fits 50000

-- what is known of units, as a field
ready_field_sent : IsSend ready_field.row
ready_field_sent = search (owned, graph_sent, finished_sent, given_name_sent) depth 30 fits 50000

pub content_sent : IsSend content
content_sent = search (owned, states_field_sent, ready_field_sent, Out-send) depth 30 fits 50000

pub book_sent : IsSend book
book_sent = search (owned, content_sent, Entry-send) depth 30 fits 50000

-- as a field too
files_log_sent : (L : RattleType) (n : LogName L.Denot) → IsSend (files_log_field L n).row
files_log_sent L n = search (owned, Word-send, Versions-send) depth 30 fits 50000

pub locked_sent : (L : RattleType) (o : Opening L.Denot) (l : Ledger L.Denot) (n : LogName L.Denot) → IsSend (locked L o n l)
locked_sent L o l n =
    search (owned, book_sent, Closing-send, Crew-send, Count-send, DiskStore-send, files_log_sent, Kept-send, Receipt-send, Share-send)
    depth 30 fits 50000

pub shared_shared : (L : RattleType) (o : Opening L.Denot) (l : Ledger L.Denot) (n : LogName L.Denot) → IsSync (shared L o n l)
shared_shared L o l n = search (owned, locked_sent) depth 30 fits 50000

pub seat_sent : (L : RattleType) (o : Opening L.Denot) (l : Ledger L.Denot) (n : LogName L.Denot) → IsSend (seat L o l n)
seat_sent L o l n = search (owned, Seat-send) depth 30 fits 50000
