-- The tokens of the program's declarations, by their parts.
use Rattle.std.proofs.Common.{append_assoc, ℕ, ◌≡◌, ◌∷◌, ◌++◌, [], List, ap, sym, refl, ◌∙◌}
use Rattle.go_ast.specs.declared.syntax.Kind.TheVariants as kind
use Rattle.go_ast.specs.declared.syntax.Token.{Token}
use Rattle.go_ast.specs.declared.tree.ImportSpec.{ImportSpec}
use Rattle.go_ast.specs.declared.tree.VarSpec.{VarSpec}
use Rattle.go_ast.specs.declared.tree.FieldDecl.{FieldDecl}
use Rattle.go_ast.specs.declared.tree.TypeExpr.{TypeExpr}
use Rattle.go_ast.specs.declared.tree.MethodSpec.{MethodSpec}
use Rattle.go_ast.specs.declared.tree.TypeBody.TheVariants as body
use Rattle.go_ast.specs.declared.tree.TypeSpec.{TypeSpec}
use Rattle.go_ast.specs.declared.tree.Receiver.{Receiver}
use Rattle.go_ast.specs.declared.tree.Param.{Param}
use Rattle.go_ast.specs.declared.tree.Results.TheVariants as results
use Rattle.go_ast.specs.declared.tree.Group.{Group}
use Rattle.go_ast.specs.declared.tree.Group.TheVariants as group
use Rattle.go_ast.specs.Flatten.{sign, sign_if, tokens_if, value_tokens, item_tokens, group_tokens, basic_tokens, type_tokens, import_tokens}
use Rattle.go_ast.specs.Flatten.{global_tokens, field_tokens, method_tokens, body_tokens, type_spec_tokens, receiver_tokens, param_tokens, result_tokens}
use Rattle.go_ast.specs.View.{option_view, item_view, group_view, type_view}
use Rattle.go_ast.specs.FileView.{import_view, var_values_view, global_view, field_view, method_view, body_view, type_spec_view, receiver_view, param_view}
use Rattle.go_ast.specs.FileView.{results_view}
use Rattle.go_parser.specs.Spelling.{names_spelled, ident_spelled, idents_spelled, type_spelled, import_spelled, global_spelled, field_spelled, body_spelled}
use Rattle.go_parser.specs.Spelling.{method_spelled, type_spec_spelled, receiver_spelled, param_spelled, results_spelled}
use Rattle.go_parser.specs.ListSpelling.{items_spelled, group_spelled}
use Rattle.go_parser.proofs.StatementSteps.{all_tokens_map}

pub import_spelled_as : (i : ImportSpec) → import_spelled i ≡ sign_if kind.Name i.name ++ (sign kind.Text i.path ∷ [])
unfolding import_tokens import_view
import_spelled_as i = refl

pub global_spelled_as : (g : VarSpec) → global_spelled g ≡ names_spelled g.names.items ++
    (type_spelled g.var_type ++ tokens_if (value_tokens basic_tokens) (option_view var_values_view g.values))
unfolding global_tokens global_view
global_spelled_as g = refl

pub field_spelled_as : (f : FieldDecl) → field_spelled f ≡ names_spelled f.names.items ++ type_spelled f.field_type
unfolding field_tokens field_view
field_spelled_as f = refl

pub type_body_spelled : (t : TypeExpr) → body_spelled (body.Type t) ≡ type_spelled t
unfolding body_tokens body_view
type_body_spelled t = refl

pub struct_spelled : (s o : ℕ) (fs : _) (c : ℕ) → body_spelled (body.Struct s o fs c) ≡ sign kind.Struct s ∷ sign kind.LeftBrace o ∷
    (items_spelled kind.Semicolon field_spelled fs.items ++ (sign kind.RightBrace c ∷ []))
unfolding body_tokens body_view
struct_spelled s o fs c = ap (λ x. sign kind.Struct s ∷ sign kind.LeftBrace o ∷ (x ++ (sign kind.RightBrace c ∷ [])))
    (sym (all_tokens_map (item_tokens kind.Semicolon field_tokens) (item_view field_view) fs.items))

pub method_spelled_as : (m : MethodSpec) → method_spelled m ≡ sign kind.Name m.name ∷ sign kind.LeftParen m.open ∷
    (items_spelled kind.Comma param_spelled m.params.items ++ (sign kind.RightParen m.close ∷ results_spelled m.results))
unfolding method_tokens method_view
method_spelled_as m = ap (λ x. sign kind.Name m.name ∷ sign kind.LeftParen m.open ∷ (x ++ (sign kind.RightParen m.close ∷ results_spelled m.results)))
    (sym (all_tokens_map (item_tokens kind.Comma param_tokens) (item_view param_view) m.params.items))

-- as the parser reads it
pub method_read_as : (m : MethodSpec) → sign kind.Name m.name ∷ sign kind.LeftParen m.open ∷
    ((items_spelled kind.Comma param_spelled m.params.items ++ (sign kind.RightParen m.close ∷ [])) ++ results_spelled m.results) ≡ method_spelled m
method_read_as m = ap (λ x. sign kind.Name m.name ∷ sign kind.LeftParen m.open ∷ x)
    (append_assoc (items_spelled kind.Comma param_spelled m.params.items) (sign kind.RightParen m.close ∷ []) (results_spelled m.results)) ∙ sym
    (method_spelled_as m)

pub interface_spelled : (s o : ℕ) (ms : _) (c : ℕ) → body_spelled (body.Interface s o ms c) ≡ sign kind.Interface s ∷ sign kind.LeftBrace o ∷
    (items_spelled kind.Semicolon method_spelled ms.items ++ (sign kind.RightBrace c ∷ []))
unfolding body_tokens body_view
interface_spelled s o ms c = ap (λ x. sign kind.Interface s ∷ sign kind.LeftBrace o ∷ (x ++ (sign kind.RightBrace c ∷ [])))
    (sym (all_tokens_map (item_tokens kind.Semicolon method_tokens) (item_view method_view) ms.items))

pub type_spec_spelled_as : (t : TypeSpec) → type_spec_spelled t ≡ sign kind.Name t.name ∷ body_spelled t.body
unfolding type_spec_tokens type_spec_view
type_spec_spelled_as t = refl

pub receiver_spelled_as : (r : Receiver) → receiver_spelled r ≡ sign kind.LeftParen r.open ∷ (ident_spelled r.ident ++ (sign_if kind.Star r.star ++
    (sign kind.Name r.type_name ∷ (sign_if kind.Comma r.comma ++ (sign kind.RightParen r.close ∷ [])))))
unfolding receiver_tokens receiver_view
receiver_spelled_as r = refl

pub param_spelled_as : (p : Param) → param_spelled p ≡ idents_spelled p.names.items ++ type_spelled p.param_type
unfolding param_tokens param_view
param_spelled_as p = refl

pub no_results_spelled : results_spelled results.None ≡ []
unfolding result_tokens results_view
no_results_spelled = refl

pub one_result_spelled : (t : TypeExpr) → results_spelled (results.Single t) ≡ type_spelled t
unfolding result_tokens results_view
one_result_spelled t = refl

pub several_results_spelled : (o : ℕ) (ts : _) (c : ℕ) →
    results_spelled (results.Several o ts c) ≡ sign kind.LeftParen o ∷ (items_spelled kind.Comma type_spelled ts.items ++ (sign kind.RightParen c ∷ []))
unfolding result_tokens results_view
several_results_spelled o ts c = ap (λ x. sign kind.LeftParen o ∷ (x ++ (sign kind.RightParen c ∷ [])))
    (sym (all_tokens_map (item_tokens kind.Comma type_tokens) (item_view type_view) ts.items))

-- the tokens of the program's group are those of the group of trees that it stands for
pub group_spelled_as : {X Y : Type 0} (f : Y → List Token) (view : X → Y) (g : Group X) → group_spelled (λ x. f (view x)) g ≡ group_tokens f (group_view view g)
unfolding group_tokens group_view
group_spelled_as f view (group.Single x) = refl
group_spelled_as f view (group.Several o xs c) = ap (λ x. sign kind.LeftParen o ∷ (x ++ (sign kind.RightParen c ∷ [])))
    (all_tokens_map (item_tokens kind.Semicolon f) (item_view view) xs.items)
