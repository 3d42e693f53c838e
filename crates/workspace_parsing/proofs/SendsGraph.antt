-- A graph may be sent to another thread, and shared by threads.
use denote.RattleType.{RattleType}
use denote.Param.Send.{IsSend, IsSync, sendable}
use Rattle.std.specs.declared.cmp.Ord as ord
use Rattle.std.specs.declared.cmp.PartialEq as eq
use Rattle.std.specs.declared.cmp.PartialOrd as partial
use Rattle.std.proofs.Crossing.{crosses, frees, send as Global-send, sync as Global-sync}
use Rattle.std.proofs.MapsCrossing.{crosses as maps}
use Rattle.std.proofs.MapsCrossingOver.{BTreeSet-send, BTreeSet-sync}
use Rattle.std.specs.contracts.collections.BTreeSet as BTreeSet
use Rattle.std.specs.contracts.alloc.Global as Heap
use Rattle.std.specs.contracts.prelude.GlobalAllocator.TheImpl.{ghosts}
use Rattle.workspace_graph.specs.contracts.package.ParsedPackage.{the_row as folder, the_field as folder_field}
use Rattle.workspace_graph.specs.contracts.shared_package.PackageParts.{the_row as package_parts}
use Rattle.workspace_graph.specs.contracts.shared_package.SharedPackage.{the_row as shared_package}
use Rattle.workspace_graph.specs.contracts.graph.Parts.{the_row as graph_parts}
use Rattle.workspace_graph.specs.contracts.graph.Graph.{the_row as graph}
use Rattle.base_files.proofs.file_text.FileText.TheSendSync.{the_send as FileText-send, the_sync as FileText-sync}
use Rattle.base_files.proofs.files.Files.TheSendSync.{the_send as Files-send, the_sync as Files-sync}
use Rattle.workspace_graph.proofs.faulty_file.FaultyFile.TheSendSync.{the_send as FaultyFile-send, the_sync as FaultyFile-sync}
use Rattle.workspace_graph.proofs.shared_links.SharedLinks.TheSendSync.{the_send as SharedLinks-send, the_sync as SharedLinks-sync}
use Rattle.workspace_parsing.proofs.SendsTrees.{file_tree_sent, file_tree_shared}

-- a set of owned keys at the heap
module _ (K : RattleType) (o : ord.Ghosts K.Denot) (e : eq.Ghosts K.Denot) (p : partial.Ghosts K.Denot) where
  pub set_sent : IsSend K → IsSend (BTreeSet.the_field K Heap.the_row o e p ghosts).row
  set_sent sent = BTreeSet-send K Heap.the_row o e p ghosts sent Global-send frees

  pub set_shared : IsSync K → IsSync (BTreeSet.the_field K Heap.the_row o e p ghosts).row
  set_shared shared = BTreeSet-sync K Heap.the_row o e p ghosts shared Global-sync

-- owned values, and what each of the crates below shows of its own types
ruleset owned = (
  sendable,
  crosses,
  maps,
  set_sent,
  set_shared,
  Global-send,
  Global-sync,
  FileText-send,
  FileText-sync,
  Files-send,
  Files-sync,
  FaultyFile-send,
  FaultyFile-sync,
  SharedLinks-send,
  SharedLinks-sync,
)

pub folder_sent : IsSend folder
folder_sent = search (owned, file_tree_sent) depth 30 fits 50000

pub folder_shared : IsSync folder
folder_shared = search (owned, file_tree_shared) depth 30 fits 50000

-- A package as a field may be sent and shared. Its row is not compared with the other by `search`, which would take too many steps.
folder_field_sent : IsSend folder_field.row
folder_field_sent = search (owned, file_tree_sent) depth 30 fits 50000

folder_field_shared : IsSync folder_field.row
folder_field_shared = search (owned, file_tree_shared) depth 30 fits 50000

pub package_parts_sent : IsSend package_parts
package_parts_sent = search (sendable, crosses, maps, set_sent, set_shared, folder_field_sent) depth 30 fits 50000

pub package_parts_shared : IsSync package_parts
package_parts_shared = search (sendable, crosses, maps, set_sent, set_shared, folder_field_shared) depth 30 fits 50000

pub shared_package_sent : IsSend shared_package
shared_package_sent = search (owned, package_parts_sent, package_parts_shared) depth 30 fits 50000

pub shared_package_shared : IsSync shared_package
shared_package_shared = search (owned, package_parts_sent, package_parts_shared) depth 30 fits 50000

pub graph_parts_sent : IsSend graph_parts
graph_parts_sent = search (owned, shared_package_sent) depth 30 fits 50000

pub graph_parts_shared : IsSync graph_parts
graph_parts_shared = search (owned, shared_package_shared) depth 30 fits 50000

pub graph_sent : IsSend graph
graph_sent = search (owned, graph_parts_sent, graph_parts_shared) depth 30 fits 50000

pub graph_shared : IsSync graph
graph_shared = search (owned, graph_parts_sent, graph_parts_shared) depth 30 fits 50000
