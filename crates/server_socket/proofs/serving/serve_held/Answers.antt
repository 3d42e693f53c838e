-- Messages and turns account for the receipts.
use Rattle.server_socket.proofs.ReturnedLaws.{messages_called, turns_called}
use Rattle.server_socket.proofs.serving.serve_held.Goals as goal

pub serve_in-served-requires-clause-messages : goal.serve_in-served-requires-clause-messages
serve_in-served-requires-clause-messages g c = λ κs outlived. messages_called 1000000

pub serve_in-served-requires-clause-turns : goal.serve_in-served-requires-clause-turns
serve_in-served-requires-clause-turns g c = λ κs outlived. turns_called 1000000

pub serve_in-served-requires-clause-told : goal.serve_in-served-requires-clause-told
serve_in-served-requires-clause-told g c = λ κs outlived receipts called. called
