-- The answers to the goals of `declared::Declared::add_decl`.
use Rattle.std.proofs.Common.{ap, sym}
use Rattle.std.proofs.lemmas.Result.{on_ok_weaker}
use Rattle.go_ast.specs.FileView.{decl_view}
use Rattle.types_declared.specs.Package.{decl_variables, decl_types, decl_functions}
use Rattle.types_declared.specs.DeclaredView.{variable_of, type_of, function_of}
use Rattle.types_declared.proofs.Appending.{appends_as, appends_none, appends_one}
use Rattle.types_declared.proofs.declared.Declared.add_decl.Goals as goal

pub returns-in-Var : goal.returns-in-Var
unfolding decl_view
returns-in-Var c =
    on_ok_weaker c.add_variables.result (λ q. record {
      adds_variables = appends_as variable_of c.args.self.now.variables.items c.add_variables.new.found.items _ _ q
          (ap (λ d. decl_variables c.args.file (decl_view d)) (sym c.in-Var.is));
      adds_types = appends_as type_of c.args.self.now.types.items c.args.self.now.types.items _ _ (appends_none type_of c.args.self.now.types.items)
          (ap (λ d. decl_types c.args.file (decl_view d)) (sym c.in-Var.is));
      adds_functions = appends_as function_of c.args.self.now.functions.items c.args.self.now.functions.items _ _
          (appends_none function_of c.args.self.now.functions.items)
          (ap (λ d. decl_functions c.args.file (decl_view d)) (sym c.in-Var.is));
    }) c.add_variables.ensures

pub returns-in-Type : goal.returns-in-Type
unfolding decl_view
returns-in-Type c =
    on_ok_weaker c.add_types.result (λ q. record {
      adds_variables = appends_as variable_of c.args.self.now.variables.items c.args.self.now.variables.items _ _
          (appends_none variable_of c.args.self.now.variables.items)
          (ap (λ d. decl_variables c.args.file (decl_view d)) (sym c.in-Type.is));
      adds_types = appends_as type_of c.args.self.now.types.items c.add_types.new.found.items _ _ q
          (ap (λ d. decl_types c.args.file (decl_view d)) (sym c.in-Type.is));
      adds_functions = appends_as function_of c.args.self.now.functions.items c.args.self.now.functions.items _ _
          (appends_none function_of c.args.self.now.functions.items)
          (ap (λ d. decl_functions c.args.file (decl_view d)) (sym c.in-Type.is));
    }) c.add_types.ensures

pub returns-in_ok-push-in-Func : goal.returns-in_ok-push-in-Func
unfolding decl_view
returns-in_ok-push-in-Func c = record {
  adds_variables = appends_as variable_of c.args.self.now.variables.items c.args.self.now.variables.items _ _
      (appends_none variable_of c.args.self.now.variables.items)
      (ap (λ d. decl_variables c.args.file (decl_view d)) (sym c.in-Func.is));
  adds_types = appends_as type_of c.args.self.now.types.items c.args.self.now.types.items _ _ (appends_none type_of c.args.self.now.types.items)
      (ap (λ d. decl_types c.args.file (decl_view d)) (sym c.in-Func.is));
  adds_functions = appends_as function_of c.args.self.now.functions.items c.push.new.self.items _ _
      (appends_one function_of c.args.self.now.functions.items c.push.new.self.items _ c.in_ok-push-in-Func.ensures.items)
      (ap (λ d. decl_functions c.args.file (decl_view d)) (sym c.in-Func.is));
}
