-- The answers to the goals of `asked_byte::byte_asked`.
use Rattle.lsp_params.specs.Asked.{place_view}
use Rattle.lsp_told.proofs.Refusing.{byte_found, path_failed}
use Rattle.lsp_told.proofs.asked_byte.byte_asked.Goals as goal

pub returns-in-Ok : goal.returns-in-Ok
returns-in-Ok c = byte_found c.args.telling c.args.files.now (place_view c.args.at) c.in-Ok.path c.in-Ok.ensures c.byte_in.result c.byte_in.ensures

pub returns-in-Err : goal.returns-in-Err
returns-in-Err c = path_failed c.args.telling c.args.files.now (place_view c.args.at) c.in-Err.fault c.in-Err.ensures
