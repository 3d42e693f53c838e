-- The identifiers of declarations stand at the names among their tokens, those of imports at the names and strings.
use Rattle.std.proofs.Common.{ℕ, ◌≡◌, List, [], ◌∷◌, ◌++◌, Option, Some, None, false, refl}
use Rattle.std.specs.Prelude.{codes, bytes_eq}
use Rattle.std.specs.List.{flat_map}
use Rattle.std.proofs.lemmas.Bool.{cond_both}
use Rattle.go_ast.specs.declared.syntax.Kind.TheVariants as kind
use Rattle.go_ast.specs.Flatten.{sign, sign_if, tokens_if, all_tokens, item_tokens, list_tokens, group_tokens, name_tokens, ident_tokens, basic_tokens}
use Rattle.go_ast.specs.Flatten.{type_tokens, value_tokens, import_tokens, global_tokens, field_tokens, method_tokens, body_tokens, type_spec_tokens}
use Rattle.go_ast.specs.Flatten.{receiver_tokens, param_tokens, result_tokens, block_tokens, func_tokens, imports_tokens, decl_tokens}
use Rattle.go_ast.specs.Tree.{Item, BasicTree, Integer, String, GlobalTree, FieldTree, MethodTree, BodyTree, Other, Struct, Interface, TypeSpecTree}
use Rattle.go_ast.specs.Tree.{ReceiverTree, ParamTree, ResultTree, no_result, one_result, results, FuncTree, ImportTree, ImportsTree, DeclTree, VarDecl}
use Rattle.go_ast.specs.Tree.{TypeDecl, FuncDecl}
use Rattle.go_scope.specs.declared.model.Block.{Block}
use Rattle.go_scope.specs.declared.model.Block.TheVariants.{Package}
use Rattle.go_scope.specs.declared.model.Role.{Role}
use Rattle.go_scope.specs.declared.model.Role.TheVariants.{Use, Declaring, NotLexical}
use Rattle.go_scope.specs.declared.model.Purpose.TheVariants as purpose
use Rattle.go_scope.specs.Site.{TokenSpellings, site}
use Rattle.go_scope.specs.ExpressionSites.{sites_if, list_sites, type_sites}
use Rattle.go_scope.specs.StatementSites.{ident_sites, open_of, block_sites}
use Rattle.go_scope.specs.FileSites.{global_name, member_name, spec_sites, global_sites, field_sites, body_sites, type_spec_sites, receiver_sites}
use Rattle.go_scope.specs.FileSites.{param_sites, result_sites, func_block, func_role, func_sites, import_purpose, import_name, import_sites, imports_sites}
use Rattle.go_scope.specs.FileSites.{method_block, method_sites, decl_sites}
use Rattle.go_scope.specs.IdentifierTokens.{is_ident_token, is_header_name}
use Rattle.go_scope.proofs.Covers.{Covers, Stands, ends, skips, takes, none_if, covers_append, covers_pad, covers_end, covers_behind, all_covers}
use Rattle.go_scope.proofs.Covers.{none_all, list_covers, group_covers, option_covers}
use Rattle.go_scope.proofs.CoveredExpressions.{Named, named_append, type_named}
use Rattle.go_scope.proofs.CoveredStatements.{ident_named, block_named}

global_name_named : (s : TokenSpellings) (n : ℕ) → Named s (global_name s n) (name_tokens n)
global_name_named s n = takes refl refl refl ends

member_name_named : (s : TokenSpellings) (n : ℕ) → Named s (member_name s n) (name_tokens n)
member_name_named s n = takes refl refl refl ends

no_basic : (s : TokenSpellings) (b : BasicTree) → Named s [] (basic_tokens b)
no_basic s (Integer n) = skips refl ends
no_basic s (String n) = skips refl ends

no_basics : (s : TokenSpellings) (xs : List (Item BasicTree)) → Named s [] (list_tokens kind.Comma basic_tokens xs)
no_basics s xs =
    none_all is_ident_token s (item_tokens kind.Comma basic_tokens)
    (λ (x : Item BasicTree). covers_pad is_ident_token s [] (basic_tokens x.value) (sign_if kind.Comma x.separator) (no_basic s x.value)
    (none_if is_ident_token s kind.Comma x.separator refl)) xs

no_values : (s : TokenSpellings) (v : Option (ℕ × List (Item BasicTree))) → Named s [] (tokens_if (value_tokens basic_tokens) v)
no_values s None = ends
no_values s (Some v) = skips refl (no_basics s v.1)

global_named : (s : TokenSpellings) (g : GlobalTree) → Named s (global_sites s g) (global_tokens g)
unfolding global_sites global_tokens
global_named s g =
    named_append s (list_sites (global_name s) g.names) (type_sites s g.type_use) (list_tokens kind.Comma name_tokens g.names)
    (type_tokens g.type_use ++ tokens_if (value_tokens basic_tokens) g.values)
    (list_covers is_ident_token s kind.Comma refl (global_name s) name_tokens (global_name_named s) g.names)
    (covers_pad is_ident_token s (type_sites s g.type_use) (type_tokens g.type_use) (tokens_if (value_tokens basic_tokens) g.values) (type_named s g.type_use)
    (no_values s g.values))

field_named : (s : TokenSpellings) (f : FieldTree) → Named s (field_sites s f) (field_tokens f)
unfolding field_sites field_tokens
field_named s f =
    named_append s (list_sites (member_name s) f.names) (type_sites s f.type_use) (list_tokens kind.Comma name_tokens f.names) (type_tokens f.type_use)
    (list_covers is_ident_token s kind.Comma refl (member_name s) name_tokens (member_name_named s) f.names) (type_named s f.type_use)

param_named : (s : TokenSpellings) (b : Block) (start : ℕ) (p : ParamTree) → Named s (param_sites s b start p) (param_tokens p)
unfolding param_sites param_tokens
param_named s b start p =
    named_append s (list_sites (ident_sites s (Declaring b start)) p.names) (type_sites s p.type_use) (list_tokens kind.Comma ident_tokens p.names)
    (type_tokens p.type_use)
    (list_covers is_ident_token s kind.Comma refl (ident_sites s (Declaring b start)) ident_tokens (ident_named s (Declaring b start) refl) p.names)
    (type_named s p.type_use)

result_named : (s : TokenSpellings) (r : ResultTree) → Named s (result_sites s r) (result_tokens r)
unfolding result_sites result_tokens
result_named s no_result = ends
result_named s (one_result t) = type_named s t
result_named s (results o ts c) =
    skips refl
    (covers_end is_ident_token s (list_sites (type_sites s) ts) (list_tokens kind.Comma type_tokens ts) kind.RightParen c refl
    (list_covers is_ident_token s kind.Comma refl (type_sites s) type_tokens (type_named s) ts))

method_named : (s : TokenSpellings) (m : MethodTree) → Named s (method_sites s m) (method_tokens m)
unfolding method_sites method_tokens
method_named s m =
    let b = method_block s m in
    takes refl refl refl (skips refl
    (named_append s (list_sites (param_sites s b m.rparen) m.params) (result_sites s m.result) (list_tokens kind.Comma param_tokens m.params)
    (sign kind.RightParen m.rparen ∷ result_tokens m.result)
    (list_covers is_ident_token s kind.Comma refl (param_sites s b m.rparen) param_tokens (param_named s b m.rparen) m.params)
    (skips refl (result_named s m.result))))

body_named : (s : TokenSpellings) (b : BodyTree) → Named s (body_sites s b) (body_tokens b)
unfolding body_sites body_tokens
body_named s (Other t) = type_named s t
body_named s (Struct p o fs c) =
    skips refl (skips refl
    (covers_end is_ident_token s (list_sites (field_sites s) fs) (list_tokens kind.Semicolon field_tokens fs) kind.RightBrace c refl
    (list_covers is_ident_token s kind.Semicolon refl (field_sites s) field_tokens (field_named s) fs)))
body_named s (Interface p o ms c) =
    skips refl (skips refl
    (covers_end is_ident_token s (list_sites (method_sites s) ms) (list_tokens kind.Semicolon method_tokens ms) kind.RightBrace c refl
    (list_covers is_ident_token s kind.Semicolon refl (method_sites s) method_tokens (method_named s) ms)))

type_spec_named : (s : TokenSpellings) (t : TypeSpecTree) → Named s (type_spec_sites s t) (type_spec_tokens t)
unfolding type_spec_sites type_spec_tokens
type_spec_named s t = takes refl refl refl (body_named s t.body)

receiver_named : (s : TokenSpellings) (b : Block) (start : ℕ) (r : ReceiverTree) → Named s (receiver_sites s b start r) (receiver_tokens r)
unfolding receiver_sites receiver_tokens
receiver_named s b start r =
    skips refl
    (named_append s (ident_sites s (Declaring b start) r.name) (site s r.type_name Use ∷ []) (ident_tokens r.name)
    (sign_if kind.Star r.star ++ (sign kind.Name r.type_name ∷ (sign_if kind.Comma r.comma ++ (sign kind.RightParen r.rparen ∷ []))))
    (ident_named s (Declaring b start) refl r.name)
    (covers_behind is_ident_token s (site s r.type_name Use ∷ [])
    (sign kind.Name r.type_name ∷ (sign_if kind.Comma r.comma ++ (sign kind.RightParen r.rparen ∷ []))) kind.Star r.star refl
    (takes refl refl refl (covers_behind is_ident_token s [] (sign kind.RightParen r.rparen ∷ []) kind.Comma r.comma refl (skips refl ends)))))

func_declared : (r : Option ReceiverTree) (name : List ℕ) → Stands (func_role r name) kind.Name
func_declared None name = cond_both (bytes_eq name (codes "init")) (NotLexical purpose.InitFunction) (Declaring Package 0)
    (λ (role : Role). Stands role kind.Name) (λ e. refl) (λ e. refl)
func_declared (Some r) name = refl

func_named : (s : TokenSpellings) (f : FuncTree) → Named s (func_sites s f) (func_tokens f)
unfolding func_sites func_tokens
func_named s f =
    let b = func_block s f in
    let start = open_of f.body in
    named_append s (sites_if (receiver_sites s b start) f.receiver)
    (site s f.name (func_role f.receiver (s.spell f.name)) ∷
    (list_sites (param_sites s b start) f.params ++ (result_sites s f.result ++ block_sites s f.body))) (tokens_if receiver_tokens f.receiver)
    (sign kind.Name f.name ∷ sign kind.LeftParen f.lparen ∷
    (list_tokens kind.Comma param_tokens f.params ++ (sign kind.RightParen f.rparen ∷ (result_tokens f.result ++ block_tokens f.body))))
    (option_covers is_ident_token s (receiver_sites s b start) receiver_tokens (receiver_named s b start) f.receiver)
    (takes refl (func_declared f.receiver (s.spell f.name)) refl (skips refl
    (named_append s (list_sites (param_sites s b start) f.params) (result_sites s f.result ++ block_sites s f.body)
    (list_tokens kind.Comma param_tokens f.params)
    (sign kind.RightParen f.rparen ∷ (result_tokens f.result ++ block_tokens f.body))
    (list_covers is_ident_token s kind.Comma refl (param_sites s b start) param_tokens (param_named s b start) f.params)
    (skips refl (named_append s (result_sites s f.result) (block_sites s f.body) (result_tokens f.result) (block_tokens f.body) (result_named s f.result)
    (block_named s f.body))))))

decl_named : (s : TokenSpellings) (d : DeclTree) → Named s (decl_sites s d) (decl_tokens d)
unfolding decl_sites decl_tokens
decl_named s (VarDecl k g semicolon) =
    skips refl
    (covers_end is_ident_token s (spec_sites (global_sites s) g) (group_tokens global_tokens g) kind.Semicolon semicolon refl
    (group_covers is_ident_token s refl refl refl (λ following. global_sites s) global_tokens (λ n. global_named s) 0 g))
decl_named s (TypeDecl k g semicolon) =
    skips refl
    (covers_end is_ident_token s (spec_sites (type_spec_sites s) g) (group_tokens type_spec_tokens g) kind.Semicolon semicolon refl
    (group_covers is_ident_token s refl refl refl (λ following. type_spec_sites s) type_spec_tokens (λ n. type_spec_named s) 0 g))
decl_named s (FuncDecl k f semicolon) = skips refl (covers_end is_ident_token s (func_sites s f) (func_tokens f) kind.Semicolon semicolon refl (func_named s f))

pub decls_named : (s : TokenSpellings) (ds : List DeclTree) → Named s (flat_map (decl_sites s) ds) (all_tokens decl_tokens ds)
decls_named s ds = all_covers is_ident_token s (decl_sites s) decl_tokens (decl_named s) ds

-- imports, with their literals

import_name_covered : (s : TokenSpellings) (n : Option ℕ) → Covers is_header_name s (import_name s n) (sign_if kind.Name n)
import_name_covered s None = ends
import_name_covered s (Some n) = takes refl refl refl ends

import_stands : (n : Option ℕ) → Stands (NotLexical (import_purpose n)) kind.Text
import_stands None = refl
import_stands (Some n) = refl

import_covered : (s : TokenSpellings) (i : ImportTree) → Covers is_header_name s (import_sites s i) (import_tokens i)
unfolding import_sites import_tokens
import_covered s i =
    covers_append is_header_name s (import_name s i.name) (site s i.path (NotLexical (import_purpose i.name)) ∷ []) (sign_if kind.Name i.name)
    (sign kind.Text i.path ∷ []) (import_name_covered s i.name)
    (takes refl (import_stands i.name) refl ends)

each_covered : (s : TokenSpellings) (i : ImportsTree) → Covers is_header_name s (imports_sites s i) (imports_tokens i)
unfolding imports_sites imports_tokens
each_covered s i =
    skips refl
    (covers_end is_header_name s (spec_sites (import_sites s) i.imports) (group_tokens import_tokens i.imports) kind.Semicolon i.semicolon refl
    (group_covers is_header_name s refl refl refl (λ following. import_sites s) import_tokens (λ n. import_covered s) 0 i.imports))

pub imports_covered : (s : TokenSpellings) (is : List ImportsTree) → Covers is_header_name s (flat_map (imports_sites s) is) (all_tokens imports_tokens is)
imports_covered s is = all_covers is_header_name s (imports_sites s) imports_tokens (each_covered s) is
