-- A field has no such name. A rank behind the fields goes on behind them.
use Rattle.go_ast.specs.View.{list_view}
use Rattle.go_ast.specs.FileView.{field_view}
use Rattle.build_object.specs.Names.{names_of_fields}
use Rattle.build_object.proofs.Walking.{no_name_here, no_name_behind}
use Rattle.build_object.proofs.walks.asked_in_fields.Goals as goal

pub returns-in-Ok : goal.returns-in-Ok
returns-in-Ok c = no_name_here 0 (names_of_fields (list_view field_view c.args.fields.now)) c.args.rank _ c.in-Ok.ensures

pub returns-in-Err : goal.returns-in-Err
returns-in-Err c = no_name_behind 0 (names_of_fields (list_view field_view c.args.fields.now)) c.args.rank c.in-Err.left c.in-Err.ensures
