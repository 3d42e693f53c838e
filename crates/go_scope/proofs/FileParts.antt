-- The identifiers of declarations, by the parts that the program visits.
use Rattle.std.proofs.Common.{ℕ, ◌≡◌, List, ◌∷◌, ◌++◌, ap, sym, ◌∙◌, map}
use Rattle.std.specs.List.{flat_map}
use Rattle.go_scope.specs.declared.model.Block.{Block}
use Rattle.go_scope.specs.declared.model.Block.TheVariants.{Inner}
use Rattle.go_scope.specs.declared.model.Role.{Role}
use Rattle.go_scope.specs.declared.model.Role.TheVariants.{NotLexical}
use Rattle.go_scope.specs.declared.model.Purpose.TheVariants as purpose
use Rattle.go_scope.specs.Site.{Site, TokenSpellings, site}
use Rattle.go_scope.specs.ExpressionSites.{sites_if, list_sites, type_sites}
use Rattle.go_scope.specs.StatementSites.{separated_sites, group_sites, open_of, close_of, block_sites}
use Rattle.go_scope.specs.FileSites.{global_name, member_name, spec_sites, global_sites, field_sites, body_sites, type_spec_sites, receiver_sites}
use Rattle.go_scope.specs.FileSites.{method_sites, param_sites, result_sites, func_role, func_sites, import_sites, imports_sites, decl_sites, file_sites}
use Rattle.go_scope.proofs.StatementParts.{flat_map-map, open_from}
use Rattle.go_ast.specs.View.{option_view, item_view, list_view, group_view, type_view}
use Rattle.go_ast.specs.FileView.{global_view, field_view, body_view, type_spec_view, receiver_view, param_view, results_view, func_view, block_view}
use Rattle.go_ast.specs.FileView.{method_view, import_view, imports_view, decl_view, file_view}
use Rattle.go_ast.specs.declared.tree.Group.{Group}
use Rattle.go_ast.specs.declared.tree.Group.TheVariants as group
use Rattle.go_ast.specs.declared.tree.TypeBody.{TypeBody}
use Rattle.go_ast.specs.declared.tree.TypeBody.TheVariants as body
use Rattle.go_ast.specs.declared.tree.Results.{Results}
use Rattle.go_ast.specs.declared.tree.Results.TheVariants as results
use Rattle.go_ast.specs.declared.tree.FuncDecl.{FuncDecl}
use Rattle.go_ast.specs.declared.tree.File.{File}
use Rattle.go_ast.specs.declared.tree.BlockStmt as trees
use Rattle.go_ast.specs.declared.tree.BlockStmt.{BlockStmt', out-BlockStmt, outs-BlockStmt'}
use Rattle.go_ast.specs.declared.tree.Item.{Item}
use Rattle.go_ast.specs.declared.tree.TypeExpr.{TypeExpr}
use Rattle.go_ast.specs.declared.tree.VarSpec.{VarSpec}
use Rattle.go_ast.specs.declared.tree.TypeSpec.{TypeSpec}
use Rattle.go_ast.specs.declared.tree.FieldDecl.{FieldDecl}
use Rattle.go_ast.specs.declared.tree.MethodSpec.{MethodSpec}
use Rattle.go_ast.specs.declared.tree.Param.{Param}
use Rattle.go_ast.specs.declared.tree.ImportSpec.{ImportSpec}
use Rattle.go_ast.specs.declared.tree.ImportDecl.{ImportDecl}
use Rattle.go_ast.specs.declared.tree.Decl.{Decl}

abbrev pub global_part : TokenSpellings → Item ℕ → List Site
global_part s x = global_name s x.value

abbrev pub member_part : TokenSpellings → Item ℕ → List Site
member_part s x = member_name s x.value

abbrev pub field_part : TokenSpellings → Item FieldDecl → List Site
field_part s x = field_sites s (field_view x.value)

abbrev pub method_part : TokenSpellings → Item MethodSpec → List Site
method_part s x = method_sites s (method_view x.value)

abbrev pub param_part : TokenSpellings → Block → ℕ → Item Param → List Site
param_part s b start x = param_sites s b start (param_view x.value)

abbrev pub type_part : TokenSpellings → Item TypeExpr → List Site
type_part s x = type_sites s (type_view x.value)

abbrev pub import_part : TokenSpellings → Item ImportSpec → List Site
import_part s x = import_sites s (import_view x.value)

abbrev pub global_spec_part : TokenSpellings → Item VarSpec → List Site
global_spec_part s x = global_sites s (global_view x.value)

abbrev pub type_spec_part : TokenSpellings → Item TypeSpec → List Site
type_spec_part s x = type_spec_sites s (type_spec_view x.value)

abbrev pub imports_part : TokenSpellings → ImportDecl → List Site
imports_part s x = imports_sites s (imports_view x)

abbrev pub decl_part : TokenSpellings → Decl → List Site
decl_part s x = decl_sites s (decl_view x)

pub spec_from : {X Y : Type 0} (f : Y → List Site) (v : X → Y) (g : Group X) (o : ℕ) (items : _) (c : ℕ) (xs : List (Item X)) →
    g ≡ group.Several o items c → xs ≡ items.items →
    flat_map (λ x. f (v x.value)) xs ≡ spec_sites f (group_view v g)
unfolding group_sites group_view separated_sites
spec_from f v g o items c xs eg ex = ap (flat_map (λ x. f (v x.value))) ex ∙ flat_map-map (λ x. f x.value) (item_view v) items.items ∙
    ap (λ z. spec_sites f (group_view v z)) (sym eg)

pub struct_from : (s : TokenSpellings) (b : TypeBody) (p o : ℕ) (fields : _) (c : ℕ) (xs : List (Item FieldDecl)) → b ≡ body.Struct p o fields c →
    xs ≡ fields.items →
    flat_map (field_part s) xs ≡ body_sites s (body_view b)
unfolding body_sites body_view
struct_from s b p o fields c xs eb ex = ap (flat_map (field_part s)) ex ∙ flat_map-map (λ x. field_sites s x.value) (item_view field_view) fields.items ∙
    ap (λ z. body_sites s (body_view z)) (sym eb)

pub interface_from : (s : TokenSpellings) (b : TypeBody) (p o : ℕ) (methods : _) (c : ℕ) (xs : List (Item MethodSpec)) → b ≡ body.Interface p o methods c →
    xs ≡ methods.items → list_sites (method_sites s) (list_view method_view xs) ≡ body_sites s (body_view b)
unfolding body_sites body_view
interface_from s b p o methods c xs eb ex = ap (λ z. list_sites (method_sites s) (list_view method_view z)) ex ∙ ap (λ z. body_sites s (body_view z)) (sym eb)

pub results_from : (s : TokenSpellings) (r : Results) (o : ℕ) (types : _) (c : ℕ) (xs : List (Item TypeExpr)) → r ≡ results.Several o types c →
    xs ≡ types.items →
    flat_map (type_part s) xs ≡ result_sites s (results_view r)
unfolding result_sites results_view
results_from s r o types c xs er ex = ap (flat_map (type_part s)) ex ∙ flat_map-map (λ x. type_sites s x.value) (item_view type_view) types.items ∙
    ap (λ z. result_sites s (results_view z)) (sym er)

func_parts : TokenSpellings → FuncDecl → ℕ → ℕ → Role → List (Item Param) → List Site
func_parts s f o c role ps =
    sites_if (receiver_sites s (Inner s.rank o c) o) (option_view receiver_view f.receiver) ++ (site s f.name role ∷
    (list_sites (param_sites s (Inner s.rank o c) o) (list_view param_view ps) ++
    (result_sites s (results_view f.results) ++ block_sites s (block_view f.body))))

close_from : (x : trees.BlockStmt) → (out-BlockStmt x).close ≡ close_of (block_view x)
unfolding block_view
close_from (BlockStmt' o shape row c) = ap (λ r. r.close) (outs-BlockStmt' o shape row c)

pub func_read : (s : TokenSpellings) (f : FuncDecl) (role : Role) (ps : List (Item Param)) →
    role ≡ func_role (option_view receiver_view f.receiver) (s.spell f.name) → ps ≡ f.params.items →
    sites_if (receiver_sites s (Inner s.rank (out-BlockStmt f.body).«open» (out-BlockStmt f.body).close) (out-BlockStmt f.body).«open»)
    (option_view receiver_view f.receiver) ++ (site s f.name role ∷
    (list_sites (param_sites s (Inner s.rank (out-BlockStmt f.body).«open» (out-BlockStmt f.body).close) (out-BlockStmt f.body).«open»)
    (list_view param_view ps) ++
    (result_sites s (results_view f.results) ++ block_sites s (block_view f.body)))) ≡ func_sites s (func_view f)
unfolding func_sites func_view func_parts
func_read s f role ps er ep =
    ap (λ r. func_parts s f (out-BlockStmt f.body).«open» (out-BlockStmt f.body).close r ps) er ∙
    ap (func_parts s f (out-BlockStmt f.body).«open» (out-BlockStmt f.body).close (func_role (option_view receiver_view f.receiver) (s.spell f.name))) ep ∙
    ap (λ o. func_parts s f o (out-BlockStmt f.body).close (func_role (option_view receiver_view f.receiver) (s.spell f.name)) f.params.items)
    (open_from f.body) ∙
    ap (λ c. func_parts s f (open_of (block_view f.body)) c (func_role (option_view receiver_view f.receiver) (s.spell f.name)) f.params.items)
    (close_from f.body)

pub file_read : (s : TokenSpellings) (f : File) (is : List ImportDecl) (ds : List Decl) → is ≡ f.imports.items → ds ≡ f.decls.items →
    site s f.name (NotLexical purpose.PackageClause) ∷ (flat_map (imports_part s) is ++ flat_map (decl_part s) ds) ≡ file_sites s (file_view f)
unfolding file_sites file_view
file_read s f is ds ei ed =
    ap (λ z. site s f.name (NotLexical purpose.PackageClause) ∷ (flat_map (imports_part s) z ++ flat_map (decl_part s) ds)) ei ∙
    ap (λ z. site s f.name (NotLexical purpose.PackageClause) ∷ (flat_map (imports_part s) f.imports.items ++ flat_map (decl_part s) z)) ed ∙
    ap (λ z. site s f.name (NotLexical purpose.PackageClause) ∷ (z ++ flat_map (decl_part s) f.decls.items))
    (flat_map-map (imports_sites s) imports_view f.imports.items) ∙
    ap (λ z. site s f.name (NotLexical purpose.PackageClause) ∷ (flat_map (imports_sites s) (map imports_view f.imports.items) ++ z))
    (flat_map-map (decl_sites s) decl_view f.decls.items)
