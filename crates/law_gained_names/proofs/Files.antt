-- Files of the program with other token numbers.
use Rattle.std.proofs.Common.{ℕ, None, option_map, refl, ap}
use Rattle.go_ast.specs.FileView.{basic_view, body_view, decl_view, field_view, file_view, func_view, global_view, import_view, imports_view, method_view}
use Rattle.go_ast.specs.FileView.{param_view, receiver_view, results_view, same_index, type_spec_view, var_values_view}
use Rattle.go_ast.specs.Tree as tree
use Rattle.go_ast.specs.View.{ident_view, type_view}
use Rattle.go_ast.specs.declared.tree.ImportSpec.{ImportSpec}
use Rattle.go_ast.specs.declared.tree.BasicLit.{BasicLit}
use Rattle.go_ast.specs.declared.tree.BasicLit.TheVariants as basic
use Rattle.go_ast.specs.declared.tree.VarValues.{VarValues}
use Rattle.go_ast.specs.declared.tree.VarSpec.{VarSpec}
use Rattle.go_ast.specs.declared.tree.FieldDecl.{FieldDecl}
use Rattle.go_ast.specs.declared.tree.MethodSpec.{MethodSpec}
use Rattle.go_ast.specs.declared.tree.TypeBody.{TypeBody}
use Rattle.go_ast.specs.declared.tree.TypeBody.TheVariants as body
use Rattle.go_ast.specs.declared.tree.TypeSpec.{TypeSpec}
use Rattle.go_ast.specs.declared.tree.Receiver.{Receiver}
use Rattle.go_ast.specs.declared.tree.Param.{Param}
use Rattle.go_ast.specs.declared.tree.Results.{Results}
use Rattle.go_ast.specs.declared.tree.Results.TheVariants as results
use Rattle.go_ast.specs.declared.tree.FuncDecl.{FuncDecl}
use Rattle.go_ast.specs.declared.tree.ImportDecl.{ImportDecl}
use Rattle.go_ast.specs.declared.tree.Decl.{Decl}
use Rattle.go_ast.specs.declared.tree.Decl.TheVariants as decl
use Rattle.law_rename.specs.Renumbered.{basic_by, body_by, decl_by, field_by, func_by, global_by, ident_by, import_by, imports_by, param_by, receiver_by}
use Rattle.law_rename.specs.Renumbered.{method_by, result_by, type_by, type_spec_by, values_by}
use Rattle.law_gained_names.specs.ProgramTrees.{TokenNumbersMayChange}
use Rattle.law_gained_names.proofs.Expressions.{identified, typed}
use Rattle.law_gained_names.proofs.Lists.{Shows, all_shown, grouped, items, optional}
use Rattle.law_gained_names.proofs.Statements.{blocked}

module _ (g : ℕ → ℕ) where
  index : (n : ℕ) → Shows same_index (g (same_index n))
  index n = (g n, refl)

  basic_literal : (x : BasicLit) → Shows basic_view (basic_by g (basic_view x))
  basic_literal (basic.Number n) = (basic.Number (g n), refl)
  basic_literal (basic.Text n) = (basic.Text (g n), refl)

  literals : (v : VarValues) → Shows var_values_view (values_by g (basic_by g) (var_values_view v))
  literals v =
      let all = items g basic_view (basic_by g) basic_literal v.values in
      (record { assign = g v.assign; values = all.0 }, λ i. (g v.assign, all.1 i))

  global : (v : VarSpec) → Shows global_view (global_by g (global_view v))
  unfolding global_view
  global v =
      let names = items g same_index g index v.names in
      let type = typed g v.var_type in
      let values = optional var_values_view (values_by g (basic_by g)) literals v.values in (
        record { names = names.0; var_type = type.0; values = values.0 },
        λ i. record { names = names.1 i; type_use = type.1 i; values = values.1 i },
      )

  field : (f : FieldDecl) → Shows field_view (field_by g (field_view f))
  unfolding field_view
  field f =
      let names = items g same_index g index f.names in
      let type = typed g f.field_type in
      (record { names = names.0; field_type = type.0 }, λ i. record { names = names.1 i; type_use = type.1 i })

  parameter : (p : Param) → Shows param_view (param_by g (param_view p))
  unfolding param_view
  parameter p =
      let names = items g ident_view (ident_by g) (identified g) p.names in
      let type = typed g p.param_type in
      (record { names = names.0; param_type = type.0 }, λ i. record { names = names.1 i; type_use = type.1 i })

  resulting : (r : Results) → Shows results_view (result_by g (results_view r))
  unfolding results_view
  resulting results.None = (results.None, refl)
  resulting (results.Single t) = let one = typed g t in (results.Single one.0, ap tree.one_result one.1)
  resulting (results.Several o ts c) =
      let all = items g type_view (type_by g) (typed g) ts in
      (results.Several (g o) all.0 (g c), ap (λ l. tree.results (g o) l (g c)) all.1)

  asked : (m : MethodSpec) → Shows method_view (method_by g (method_view m))
  unfolding method_view
  asked m =
      let all = items g param_view (param_by g) parameter m.params in
      let result = resulting m.results in (
        record { name = g m.name; «open» = g m.open; params = all.0; close = g m.close; results = result.0 },
        λ i. record { name = g m.name; lparen = g m.open; params = all.1 i; rparen = g m.close; result = result.1 i },
      )

  defined : (b : TypeBody) → Shows body_view (body_by g (body_view b))
  unfolding body_view
  defined (body.Type t) = let one = typed g t in (body.Type one.0, ap tree.Other one.1)
  defined (body.Struct s o fs c) =
      let all = items g field_view (field_by g) field fs in
      (body.Struct (g s) (g o) all.0 (g c), ap (λ l. tree.Struct (g s) (g o) l (g c)) all.1)
  defined (body.Interface p o ms c) =
      let all = items g method_view (method_by g) asked ms in
      (body.Interface (g p) (g o) all.0 (g c), ap (λ l. tree.Interface (g p) (g o) l (g c)) all.1)

  definition : (t : TypeSpec) → Shows type_spec_view (type_spec_by g (type_spec_view t))
  unfolding type_spec_view
  definition t = let one = defined t.body in (record { name = g t.name; body = one.0 }, λ i. record { name = g t.name; body = one.1 i })

  received : (r : Receiver) → Shows receiver_view (receiver_by g (receiver_view r))
  unfolding receiver_view
  received r =
      let one = identified g r.ident in (
        record {
          «open» = g r.open;
          ident = one.0;
          star = option_map g r.star;
          type_name = g r.type_name;
          comma = option_map g r.comma;
          close = g r.close;
        },
        λ i. record {
          lparen = g r.open;
          name = one.1 i;
          star = option_map g r.star;
          type_name = g r.type_name;
          comma = option_map g r.comma;
          rparen = g r.close;
        },
      )

  function : (f : FuncDecl) → Shows func_view (func_by g (func_view f))
  unfolding func_view
  function f =
      let receiver = optional receiver_view (receiver_by g) received f.receiver in
      let params = items g param_view (param_by g) parameter f.params in
      let result = resulting f.results in
      let block = blocked g f.body in (
        record {
          receiver = receiver.0;
          name = g f.name;
          «open» = g f.open;
          params = params.0;
          close = g f.close;
          results = result.0;
          body = block.0;
        },
        λ i. record {
          receiver = receiver.1 i;
          name = g f.name;
          lparen = g f.open;
          params = params.1 i;
          rparen = g f.close;
          result = result.1 i;
          body = block.1 i;
        },
      )

  imported : (x : ImportSpec) → Shows import_view (import_by g (import_view x))
  unfolding import_view
  imported x = (record { name = option_map g x.name; path = g x.path }, refl)

  importing : (d : ImportDecl) → Shows imports_view (imports_by g (imports_view d))
  unfolding imports_view
  importing d =
      let one = grouped g import_view (import_by g) imported d.group in (
        record { at = g d.at; group = one.0; semicolon = g d.semicolon },
        λ i. record { keyword = g d.at; imports = one.1 i; semicolon = g d.semicolon },
      )

  declaring : (d : Decl) → Shows decl_view (decl_by g (decl_view d))
  unfolding decl_view
  declaring (decl.Var p x s) =
      let one = grouped g global_view (global_by g) global x in (decl.Var (g p) one.0 (g s), ap (λ t. tree.VarDecl (g p) t (g s)) one.1)
  declaring (decl.Type p x s) =
      let one = grouped g type_spec_view (type_spec_by g) definition x in (decl.Type (g p) one.0 (g s), ap (λ t. tree.TypeDecl (g p) t (g s)) one.1)
  declaring (decl.Func p f s) = let one = function f in (decl.Func (g p) one.0 (g s), ap (λ t. tree.FuncDecl (g p) t (g s)) one.1)

pub token_numbers_may_change : TokenNumbersMayChange
unfolding file_view
token_numbers_may_change g f =
    let imports = all_shown imports_view (imports_by g) (importing g) f.imports in
    let decls = all_shown decl_view (decl_by g) (declaring g) f.decls in
    record {
      file = record { «package» = g f.package; name = g f.name; semicolon = g f.semicolon; imports = imports.0; decls = decls.0 };
      shows = λ i. record {
        keyword = g f.package;
        name = g f.name;
        semicolon = g f.semicolon;
        imports = imports.1 i;
        decls = decls.1 i;
      };
    }
