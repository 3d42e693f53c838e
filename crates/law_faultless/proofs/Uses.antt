-- The identifiers of Types in declarations, and the names of the types of receivers.
use Rattle.std.proofs.Common.{ℕ, ◌≡◌, List, [], ◌∷◌, ◌++◌, map, Option, Some, None, subst}
use Rattle.std.specs.List.{AllByRecursion, flat_map}
use Rattle.std.proofs.lemmas.Option.{none-some, same_Some}
use Rattle.base_lemmas.proofs.EachElement.{all_append, all_front, all_back}
use Rattle.go_ast.specs.Tree.{Item, Group, single, several, TypeTree, ReceiverTree, ParamTree, ResultTree, FuncTree, GlobalTree, FieldTree, BodyTree}
use Rattle.go_ast.specs.Tree.{TypeSpecTree, DeclTree, FileTree, MethodTree}
use Rattle.go_ast.specs.Tree as tree
use Rattle.types_declared.specs.Files.{group_items}
use Rattle.go_scope.specs.declared.model.Block.{Block}
use Rattle.go_scope.specs.declared.model.Role.TheVariants.{Use, Declaring}
use Rattle.go_scope.specs.Site.{Site, TokenSpellings, site}
use Rattle.go_scope.specs.ExpressionSites.{sites_if, list_sites, type_sites}
use Rattle.go_scope.specs.StatementSites.{ident_sites, group_sites, separated_sites, open_of, block_sites}
use Rattle.go_scope.specs.FileSites.{global_name, member_name, spec_sites, global_sites, field_sites, body_sites, type_spec_sites, receiver_sites}
use Rattle.go_scope.specs.FileSites.{param_sites, result_sites, func_block, func_role, func_sites, imports_sites, decl_sites, file_sites}
use Rattle.go_scope.specs.FileSites.{method_sites, method_block}
use Rattle.types_declared.specs.MeaningOf.{result_types}
use Rattle.types_declared.specs.Written.{written_types, signature_types, asked_types}
use Rattle.types_info.proofs.DeclKinds.{Holds}
use Rattle.law_faultless.proofs.Lists.{all_flat}
use Rattle.law_faultless.proofs.Sound.{types_of}

-- each identifier of a Type
abbrev pub OfType : TokenSpellings → (Site → Type 0) → TypeTree → Type 0
OfType s P x = AllByRecursion P (type_sites s x)

module _ (s : TokenSpellings) (P : Site → Type 0) where
  -- parts in turn
  items_of : {X : Type 0} (f : X → List Site) (is : List (Item X)) → AllByRecursion P (list_sites f is) →
      AllByRecursion (λ x. AllByRecursion P (f x)) (map (λ i. i.value) is)
  items_of f [] h = tt
  items_of f (i ∷ is) h = (all_front P (f i.value) (list_sites f is) h, items_of f is (all_back P (f i.value) (list_sites f is) h))

  group_of : {X : Type 0} (f : X → List Site) (g : Group X) → AllByRecursion P (spec_sites f g) → AllByRecursion (λ x. AllByRecursion P (f x)) (group_items g)
  unfolding group_sites separated_sites
  group_of f (single x) h = (h, tt)
  group_of f (several o is c) h = items_of f is h

  variables_of : (gs : List GlobalTree) → AllByRecursion (λ g. AllByRecursion P (global_sites s g)) gs → AllByRecursion (OfType s P) (map (λ g. g.type_use) gs)
  unfolding global_sites
  variables_of [] h = tt
  variables_of (g ∷ gs) h = (all_back P (list_sites (global_name s) g.names) (type_sites s g.type_use) h.0, variables_of gs h.1)

  fields_of : (fs : List (Item FieldTree)) → AllByRecursion P (list_sites (field_sites s) fs) → AllByRecursion (OfType s P) (map (λ f. f.value.type_use) fs)
  unfolding field_sites
  fields_of [] h = tt
  fields_of (f ∷ fs) h = (
    all_back P (list_sites (member_name s) f.value.names) (type_sites s f.value.type_use) (all_front P (field_sites s f.value) (list_sites
        (field_sites s) fs) h),
    fields_of fs (all_back P (field_sites s f.value) (list_sites (field_sites s) fs) h),
  )

  params_of : (b : Block) (q : ℕ) (ps : List (Item ParamTree)) → AllByRecursion P (list_sites (param_sites s b q) ps) →
      AllByRecursion (OfType s P) (map (λ i. i.value.type_use) ps)
  unfolding param_sites
  params_of b q [] h = tt
  params_of b q (p ∷ ps) h = (
    all_back P (list_sites (ident_sites s (Declaring b q)) p.value.names) (type_sites s p.value.type_use)
        (all_front P (param_sites s b q p.value) (list_sites (param_sites s b q) ps) h),
    params_of b q ps (all_back P (param_sites s b q p.value) (list_sites (param_sites s b q) ps) h),
  )

  results_of : (r : ResultTree) → AllByRecursion P (result_sites s r) → AllByRecursion (OfType s P) (result_types r)
  unfolding result_sites
  results_of tree.no_result h = tt
  results_of (tree.one_result x) h = (h, tt)
  results_of (tree.results o is c) h = items_of (type_sites s) is h

  method_of : (m : MethodTree) → AllByRecursion P (method_sites s m) → AllByRecursion (OfType s P) (signature_types m.params m.result)
  unfolding method_sites
  method_of m h =
      let params = list_sites (param_sites s (method_block s m) m.rparen) m.params in
      let rest = all_back P (member_name s m.name) (params ++ result_sites s m.result) h in
      all_append (OfType s P) (map (λ i. i.value.type_use) m.params) (result_types m.result)
      (params_of (method_block s m) m.rparen m.params (all_front P params (result_sites s m.result) rest))
      (results_of m.result (all_back P params (result_sites s m.result) rest))

  asked_of : (ms : List (Item MethodTree)) → AllByRecursion P (list_sites (method_sites s) ms) → AllByRecursion (OfType s P) (asked_types ms)
  asked_of [] h = tt
  asked_of (m ∷ ms) h =
      all_append (OfType s P) (signature_types m.value.params m.value.result) (asked_types ms)
      (method_of m.value (all_front P (method_sites s m.value) (list_sites (method_sites s) ms) h))
      (asked_of ms (all_back P (method_sites s m.value) (list_sites (method_sites s) ms) h))

  body_of : (b : BodyTree) → AllByRecursion P (body_sites s b) → AllByRecursion (OfType s P) (written_types b)
  unfolding body_sites
  body_of (tree.Other x) h = (h, tt)
  body_of (tree.Struct p o fs c) h = fields_of fs h
  body_of (tree.Interface p o ms c) h = asked_of ms h

  definitions_of : (ts : List TypeSpecTree) → AllByRecursion (λ t. AllByRecursion P (type_spec_sites s t)) ts →
      AllByRecursion (OfType s P) (flat_map (λ t. written_types t.body) ts)
  unfolding type_spec_sites
  definitions_of [] h = tt
  definitions_of (t ∷ ts) h =
      all_append (OfType s P) (written_types t.body) (flat_map (λ x. written_types x.body) ts) (body_of t.body h.0.1) (definitions_of ts h.1)

  function_of : (f : FuncTree) → AllByRecursion P (func_sites s f) → AllByRecursion (OfType s P) (map (λ i. i.value.type_use) f.params ++ result_types f.result)
  unfolding func_sites
  function_of f h =
      let b = func_block s f in
      let q = open_of f.body in
      let receiver = sites_if (receiver_sites s b q) f.receiver in
      let params = list_sites (param_sites s b q) f.params in
      let rest = result_sites s f.result ++ block_sites s f.body in
      let behind = (all_back P receiver (site s f.name (func_role f.receiver (s.spell f.name)) ∷ (params ++ rest)) h).1 in
      all_append (OfType s P) (map (λ i. i.value.type_use) f.params) (result_types f.result) (params_of b q f.params (all_front P params rest behind))
      (results_of f.result (all_front P (result_sites s f.result) (block_sites s f.body) (all_back P params rest behind)))

  decl_of : (d : DeclTree) → AllByRecursion P (decl_sites s d) → AllByRecursion (OfType s P) (types_of d)
  unfolding decl_sites
  decl_of (tree.VarDecl k g c) h = variables_of (group_items g) (group_of (global_sites s) g h)
  decl_of (tree.TypeDecl k g c) h = definitions_of (group_items g) (group_of (type_spec_sites s) g h)
  decl_of (tree.FuncDecl k f c) h = function_of f h

  decl_in : (f : FileTree) → AllByRecursion P (file_sites s f) → (d : DeclTree) → Holds f.decls d → AllByRecursion P (decl_sites s d)
  unfolding file_sites
  decl_in f h d i = all_flat P (decl_sites s) f.decls d (all_back P (flat_map (imports_sites s) f.imports) (flat_map (decl_sites s) f.decls) h.1) i

  pub types_in : (f : FileTree) → AllByRecursion P (file_sites s f) → (d : DeclTree) → Holds f.decls d → AllByRecursion (OfType s P) (types_of d)
  types_in f h d i = decl_of d (decl_in f h d i)

  -- the name of a receiver's type

  received_in : (b : Block) (q : ℕ) (o : Option ReceiverTree) → AllByRecursion P (sites_if (receiver_sites s b q) o) → (r : ReceiverTree) → o ≡ Some r →
      P (site s r.type_name Use)
  unfolding receiver_sites
  received_in b q None h r e = absurd (none-some r e)
  received_in b q (Some x) h r e =
      subst (λ (z : ReceiverTree). P (site s z.type_name Use)) (same_Some x r e)
      (all_back P (ident_sites s (Declaring b q) x.name) (site s x.type_name Use ∷ []) h).0

  pub receiver_in : (f : FileTree) → AllByRecursion P (file_sites s f) → (k c : ℕ) (g : FuncTree) → Holds f.decls (tree.FuncDecl k g c) → (r : ReceiverTree) →
      g.receiver ≡ Some r → P (site s r.type_name Use)
  unfolding decl_sites func_sites
  receiver_in f h k c g i r e =
      let b = func_block s g in
      let q = open_of g.body in
      let rest = list_sites (param_sites s b q) g.params ++ (result_sites s g.result ++ block_sites s g.body) in
      received_in b q g.receiver
      (all_front P (sites_if (receiver_sites s b q) g.receiver) (site s g.name (func_role g.receiver (s.spell g.name)) ∷ rest)
      (decl_in f h (tree.FuncDecl k g c) i)) r e
