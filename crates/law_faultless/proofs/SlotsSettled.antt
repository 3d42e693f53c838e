-- What a function declares has one of its slots.
use Rattle.std.proofs.Common.{ℕ, suc, ◌≡◌, inl, inr, ◌==◌, true, false, if◌then◌else◌, List, [], ◌∷◌, ◌++◌, Option, Some, None, ap, refl, sym}
use Rattle.std.proofs.Common.{◌∙◌, subst}
use Rattle.std.specs.Prelude.{option_to_list}
use Rattle.std.specs.List.{AllByRecursion, flat_map}
use Rattle.std.specs.Option.{unwrap_or}
use Rattle.std.proofs.lemmas.Bool.{eq-eqb, true≢false}
use Rattle.base_lemmas.proofs.EachElement.{all_append}
use Rattle.go_ast.specs.Tree.{Item, Group, single, several, IdentTree, Named, Underscore, ExprTree, SimpleTree, LocalTree, InitTree, ForTree}
use Rattle.go_ast.specs.Tree.{StatementTree, BlockTree, StatementTrees, IfTree, ElseTree, ReceiverTree, ParamTree, FuncTree}
use Rattle.go_ast.specs.Tree as tree
use Rattle.go_scope.specs.declared.model.Block.{Block}
use Rattle.go_scope.specs.declared.model.Block.TheVariants as blocks
use Rattle.go_scope.specs.declared.model.Role.TheVariants.{Use, Declaring}
use Rattle.go_scope.specs.Site.{Site, TokenSpellings, site}
use Rattle.go_scope.specs.ExpressionSites.{sites_if, list_sites, type_sites, expr_sites, exprs_sites}
use Rattle.go_scope.specs.StatementSites.{ident_sites, left_sites, assigned_sites, simple_sites, value_sites, local_sites, separated_sites, group_sites}
use Rattle.go_scope.specs.StatementSites.{init_sites, for_sites, open_of, statement_sites, block_sites, statements_sites, if_sites, else_sites}
use Rattle.go_scope.specs.FileSites.{receiver_sites, param_sites, result_sites, func_role, func_block, func_sites}
use Rattle.go_scope.proofs.PlainSites.{plain_append, plain_list, plain_if, plain_type, plain_expr, plain_exprs, plain_assigned}
use Rattle.go_scope.proofs.Regions.{Plain}
use Rattle.types_declared.specs.Files.{group_items}
use Rattle.types_expr.specs.World.{World, Local}
use Rattle.types_stmt.specs.Sides.{named, ident_place, is_own, declares, defined_name}
use Rattle.types_info.proofs.DeclKinds.{Holds, held_left, held_right}
use Rattle.build_object.specs.Numbering.{slot_from, slot_of}
use Rattle.build_object.specs.Slots.{receiver_places, parameter_places, local_places, simple_places, optional_places, init_places, header_places}
use Rattle.build_object.specs.Slots.{statement_places, block_places, statements_places, if_places, else_places, slots_of}
use Rattle.law_faultless.specs.QuestionAnswers.{IsKnown}
use Rattle.law_faultless.proofs.SlotsKnown.{some_slot}
use Rattle.law_faultless.specs.ResolvedNames.{may_be_local}
use Rattle.law_faultless.proofs.KnownLocals.{local_may}
use Rattle.law_faultless.proofs.Typed.{result_abroad, func_abroad}

-- a place among those of a function has a slot
other_place : (n p : ℕ) (ps : List ℕ) → Holds (p ∷ ps) n → (p == n) ≡ false → Holds ps n
other_place n p ps h e = elim h [ inl same ↦ absurd (true≢false (sym (eq-eqb p n same) ∙ e)) | inr more ↦ more ]

slot_known : (n k : ℕ) (ps : List ℕ) → Holds ps n → IsKnown (slot_from k ps n)
slot_known n k [] h = absurd h
slot_known n k (p ∷ ps) h = some_slot (p == n) k (slot_from (suc k) ps n) (λ e. slot_known n (suc k) ps (other_place n p ps h e))

pub has_slot : (n : ℕ) (ps : List ℕ) → Holds ps n → IsKnown (slot_of ps n)
has_slot n ps h = slot_known n 0 ps h

module _ (w : World) where
  -- a local that is bound to its own declaration is among the places
  abbrev pub Slotted : List ℕ → Site → Type 0
  Slotted ps x = may_be_local x.role ≡ true → w.bound x.place.index ≡ Local x.place.index → Holds ps x.place.index

  abbrev All : List ℕ → List Site → Type 0
  All ps xs = AllByRecursion (Slotted ps) xs

  all_left : (ps qs : List ℕ) (xs : List Site) → All ps xs → All (ps ++ qs) xs
  all_left ps qs [] h = tt
  all_left ps qs (x ∷ xs) h = ((λ may e. held_left ps qs x.place.index (h.0 may e)), all_left ps qs xs h.1)

  all_right : (ps qs : List ℕ) (xs : List Site) → All qs xs → All (ps ++ qs) xs
  all_right ps qs [] h = tt
  all_right ps qs (x ∷ xs) h = ((λ may e. held_right ps qs x.place.index (h.0 may e)), all_right ps qs xs h.1)

  join : (ps qs : List ℕ) (xs ys : List Site) → All ps xs → All qs ys → All (ps ++ qs) (xs ++ ys)
  join ps qs xs ys h k = all_append (Slotted (ps ++ qs)) xs ys (all_left ps qs xs h) (all_right ps qs ys k)

  plain : (ps : List ℕ) (xs : List Site) → Plain xs → All ps xs
  plain ps [] h = tt
  plain ps (x ∷ xs) h = ((λ may e. absurd (true≢false (sym (local_may x.role may) ∙ h.0))), plain ps xs h.1)

  abroad : (ps : List ℕ) (xs : List Site) → AllByRecursion (λ x. may_be_local x.role ≡ false) xs → All ps xs
  abroad ps [] h = tt
  abroad ps (x ∷ xs) h = ((λ may e. absurd (true≢false (sym may ∙ h.0))), abroad ps xs h.1)

  -- what declares nothing, behind or before
  then_plain : (ps : List ℕ) (xs ys : List Site) → All ps xs → Plain ys → All ps (xs ++ ys)
  then_plain ps xs ys h k = all_append (Slotted ps) xs ys h (plain ps ys k)

  after_plain : (ps : List ℕ) (xs ys : List Site) → Plain xs → All ps ys → All ps (xs ++ ys)
  after_plain ps xs ys h k = all_append (Slotted ps) xs ys (plain ps xs h) k

  module _ (s : TokenSpellings) where
    ident_slotted : (b : Block) (q : ℕ) (x : IdentTree) → All (ident_place x ∷ []) (ident_sites s (Declaring b q) x)
    unfolding ident_place
    ident_slotted b q (Named n) = ((λ may e. inl refl), tt)
    ident_slotted b q (Underscore n) = ((λ may e. inl refl), tt)

    idents_slotted : (b : Block) (q : ℕ) (xs : List (Item IdentTree)) →
        All (flat_map (λ n. ident_place n.value ∷ []) xs) (list_sites (ident_sites s (Declaring b q)) xs)
    idents_slotted b q [] = tt
    idents_slotted b q (x ∷ xs) =
        join (ident_place x.value ∷ []) (flat_map (λ n. ident_place n.value ∷ []) xs) (ident_sites s (Declaring b q) x.value)
        (list_sites (ident_sites s (Declaring b q)) xs) (ident_slotted b q x.value) (idents_slotted b q xs)

    receiver_slotted : (b : Block) (q : ℕ) (r : Option ReceiverTree) → All (receiver_places r) (sites_if (receiver_sites s b q) r)
    unfolding receiver_sites
    receiver_slotted b q None = tt
    receiver_slotted b q (Some r) =
        then_plain (ident_place r.name ∷ []) (ident_sites s (Declaring b q) r.name) (site s r.type_name Use ∷ []) (ident_slotted b q r.name) (refl, tt)

    params_slotted : (b : Block) (q : ℕ) (ps : List (Item ParamTree)) → All (parameter_places ps) (list_sites (param_sites s b q) ps)
    unfolding param_sites
    params_slotted b q [] = tt
    params_slotted b q (p ∷ ps) =
        let own = flat_map (λ (n : Item IdentTree). ident_place n.value ∷ []) p.value.names in
        let names = list_sites (ident_sites s (Declaring b q)) p.value.names in
        join own (parameter_places ps) (names ++ type_sites s p.value.type_use) (list_sites (param_sites s b q) ps)
        (then_plain own names (type_sites s p.value.type_use) (idents_slotted b q p.value.names) (plain_type s p.value.type_use)) (params_slotted b q ps)

    -- locals

    name_slotted : (b : Block) (q : ℕ) (x : IdentTree) → All (option_to_list (named x)) (ident_sites s (Declaring b q) x)
    unfolding named
    name_slotted b q (Named n) = ((λ may e. inl refl), tt)
    name_slotted b q (Underscore n) = ((λ may e. absurd (true≢false (sym may))), tt)

    names_slotted : (b : Block) (q : ℕ) (xs : List (Item IdentTree)) →
        All (flat_map (λ i. option_to_list (named i.value)) xs) (list_sites (ident_sites s (Declaring b q)) xs)
    names_slotted b q [] = tt
    names_slotted b q (x ∷ xs) =
        join (option_to_list (named x.value)) (flat_map (λ i. option_to_list (named i.value)) xs) (ident_sites s (Declaring b q) x.value)
        (list_sites (ident_sites s (Declaring b q)) xs) (name_slotted b q x.value) (names_slotted b q xs)

    plain_values : (v : ℕ × List (Item ExprTree)) → Plain (value_sites s v)
    plain_values v = plain_exprs s v.1

    local_slotted : (b : Block) (q : ℕ) (x : LocalTree) → All (local_places x) (local_sites s b q x)
    unfolding local_sites
    local_slotted b q x =
        let typing = sites_if (type_sites s) x.type_use in
        let values = sites_if (value_sites s) x.values in
        then_plain (local_places x) (list_sites (ident_sites s (Declaring b q)) x.names) (typing ++ values) (names_slotted b q x.names)
        (plain_append typing values (plain_if (type_sites s) (plain_type s) x.type_use) (plain_if (value_sites s) plain_values x.values))

    locals_slotted : (b : Block) (close : ℕ) (xs : List (Item LocalTree)) →
        All (flat_map local_places (group_items (several 0 xs close)))
        (flat_map (λ (x : Item LocalTree). local_sites s b (unwrap_or x.separator close) x.value) xs)
    locals_slotted b close [] = tt
    locals_slotted b close (x ∷ xs) =
        join (local_places x.value) (flat_map local_places (group_items (several 0 xs close))) (local_sites s b (unwrap_or x.separator close) x.value)
        (flat_map (λ (y : Item LocalTree). local_sites s b (unwrap_or y.separator close) y.value) xs) (local_slotted b (unwrap_or x.separator close) x.value)
        (locals_slotted b close xs)

    group_slotted : (b : Block) (q : ℕ) (g : Group LocalTree) → All (flat_map local_places (group_items g)) (group_sites (local_sites s b) q g)
    unfolding group_sites separated_sites
    group_slotted b q (single x) = all_left (local_places x) [] (local_sites s b q x) (local_slotted b q x)
    group_slotted b q (several o xs c) = locals_slotted b c xs

    -- left names of `:=`

    own_name : (p : ℕ) → w.bound p ≡ Local p → declares w p ≡ true
    own_name p e = ap (is_own p) e ∙ eq-eqb p p refl

    left_slotted : (b : Block) (q : ℕ) (x : ExprTree) → All (option_to_list (defined_name w x)) (left_sites s b q x)
    unfolding defined_name
    left_slotted b q (tree.Name n) =
        ((λ may e. subst (λ z. Holds (option_to_list (if z then Some n else None)) n) (sym (own_name n e)) (inl refl)), tt)
    left_slotted b q (tree.Blank n) = ((λ may e. absurd (true≢false (sym may))), tt)
    left_slotted b q (tree.Number n) = plain [] (expr_sites s (tree.Number n)) (plain_expr s (tree.Number n))
    left_slotted b q (tree.Text n) = plain [] (expr_sites s (tree.Text n)) (plain_expr s (tree.Text n))
    left_slotted b q (tree.Composite l) = plain [] (expr_sites s (tree.Composite l)) (plain_expr s (tree.Composite l))
    left_slotted b q (tree.Paren o e c) = plain [] (expr_sites s (tree.Paren o e c)) (plain_expr s (tree.Paren o e c))
    left_slotted b q (tree.Prefix op p e) = plain [] (expr_sites s (tree.Prefix op p e)) (plain_expr s (tree.Prefix op p e))
    left_slotted b q (tree.Address p l) = plain [] (expr_sites s (tree.Address p l)) (plain_expr s (tree.Address p l))
    left_slotted b q (tree.Chain e ls) = plain [] (expr_sites s (tree.Chain e ls)) (plain_expr s (tree.Chain e ls))
    left_slotted b q (tree.Binary e os) = plain [] (expr_sites s (tree.Binary e os)) (plain_expr s (tree.Binary e os))

    lefts_slotted : (b : Block) (q : ℕ) (xs : List (Item ExprTree)) →
        All (flat_map (λ i. option_to_list (defined_name w i.value)) xs) (list_sites (left_sites s b q) xs)
    lefts_slotted b q [] = tt
    lefts_slotted b q (x ∷ xs) =
        join (option_to_list (defined_name w x.value)) (flat_map (λ i. option_to_list (defined_name w i.value)) xs) (left_sites s b q x.value)
        (list_sites (left_sites s b q) xs) (left_slotted b q x.value) (lefts_slotted b q xs)

    simple_slotted : (b : Block) (q : ℕ) (x : SimpleTree) → All (simple_places w x) (simple_sites s b q x)
    unfolding simple_sites simple_places
    simple_slotted b q (tree.Alone e) = plain [] (expr_sites s e) (plain_expr s e)
    simple_slotted b q (tree.Step e op p) = plain [] (expr_sites s e) (plain_expr s e)
    simple_slotted b q (tree.Update e op p f) =
        plain [] (expr_sites s e ++ expr_sites s f) (plain_append (expr_sites s e) (expr_sites s f) (plain_expr s e) (plain_expr s f))
    simple_slotted b q (tree.Assign es p fs) =
        plain [] (list_sites (assigned_sites s) es ++ exprs_sites s fs)
        (plain_append (list_sites (assigned_sites s) es) (exprs_sites s fs) (plain_list (assigned_sites s) (plain_assigned s) es) (plain_exprs s fs))
    simple_slotted b q (tree.Define es p fs) =
        then_plain (flat_map (λ i. option_to_list (defined_name w i.value)) es) (list_sites (left_sites s b q) es) (exprs_sites s fs) (lefts_slotted b q es)
        (plain_exprs s fs)

    optional_slotted : (b : Block) (q : ℕ) (x : Option SimpleTree) → All (optional_places w x) (sites_if (simple_sites s b q) x)
    optional_slotted b q None = tt
    optional_slotted b q (Some x) = simple_slotted b q x

    init_slotted : (b : Block) (x : Option InitTree) → All (init_places w x) (sites_if (init_sites s b) x)
    unfolding init_sites
    init_slotted b None = tt
    init_slotted b (Some i) = optional_slotted b i.semicolon i.simple

    header_slotted : (b : Block) (o : ℕ) (x : ForTree) → All (header_places w x) (for_sites s b o x)
    unfolding for_sites header_places
    header_slotted b o tree.forever = tt
    header_slotted b o (tree.while e) = plain [] (expr_sites s e) (plain_expr s e)
    header_slotted b o (tree.clauses init first condition second post) =
        let test = sites_if (expr_sites s) condition in
        let step = sites_if (simple_sites s b o) post in
        join (optional_places w init) (optional_places w post) (sites_if (simple_sites s b first) init) (test ++ step) (optional_slotted b first init)
        (after_plain (optional_places w post) test step (plain_if (expr_sites s) (plain_expr s) condition) (optional_slotted b o post))

    mutual
      unfolding statement_sites block_sites statements_sites if_sites else_sites statement_places block_places statements_places if_places else_places

      statement_slotted : (b : Block) (q : ℕ) (x : StatementTree) → All (statement_places w x) (statement_sites s b q x)
      statement_slotted b q tree.Empty = tt
      statement_slotted b q (tree.Var p g) = group_slotted b q g
      statement_slotted b q (tree.Simple x) = simple_slotted b q x
      statement_slotted b q (tree.Inner x) = block_slotted x
      statement_slotted b q (tree.If x) = if_slotted q x
      statement_slotted b q (tree.For p h x) =
          let own = blocks.Inner s.rank p q in
          join (header_places w h) (block_places w x) (for_sites s own (open_of x) h) (block_sites s x) (header_slotted own (open_of x) h) (block_slotted x)
      statement_slotted b q (tree.Break p) = tt
      statement_slotted b q (tree.Continue p) = tt
      statement_slotted b q (tree.Return p es) = plain [] (exprs_sites s es) (plain_exprs s es)

      block_slotted : (x : BlockTree) → All (block_places w x) (block_sites s x)
      block_slotted (tree.block o ss c) = statements_slotted (blocks.Inner s.rank o c) c ss

      statements_slotted : (b : Block) (close : ℕ) (x : StatementTrees) → All (statements_places w x) (statements_sites s b close x)
      statements_slotted b close tree.no_statement = tt
      statements_slotted b close (tree.statement x p rest) =
          join (statement_places w x) (statements_places w rest) (statement_sites s b (unwrap_or p close) x) (statements_sites s b close rest)
          (statement_slotted b (unwrap_or p close) x) (statements_slotted b close rest)

      if_slotted : (q : ℕ) (x : IfTree) → All (if_places w x) (if_sites s q x)
      if_slotted q (tree.if_tree p init e x rest) =
          let own = blocks.Inner s.rank p q in
          let inner = block_places w x ++ else_places w rest in
          join (init_places w init) inner (sites_if (init_sites s own) init) (expr_sites s e ++ (block_sites s x ++ else_sites s q rest))
          (init_slotted own init)
          (after_plain inner (expr_sites s e) (block_sites s x ++ else_sites s q rest) (plain_expr s e)
          (join (block_places w x) (else_places w rest) (block_sites s x) (else_sites s q rest) (block_slotted x) (else_slotted q rest)))

      else_slotted : (q : ℕ) (x : ElseTree) → All (else_places w x) (else_sites s q x)
      else_slotted q tree.no_else = tt
      else_slotted q (tree.else_if p x) = if_slotted q x
      else_slotted q (tree.else_block p x) = block_slotted x

    pub function_slotted : (f : FuncTree) → All (slots_of w f) (func_sites s f)
    unfolding func_sites
    function_slotted f =
        let b = func_block s f in
        let o = open_of f.body in
        let first = receiver_places f.receiver in
        let params = parameter_places f.params in
        let body = block_places w f.body in
        let rs = sites_if (receiver_sites s b o) f.receiver in
        let name = site s f.name (func_role f.receiver (s.spell f.name)) in
        let ps = list_sites (param_sites s b o) f.params in
        let results = result_sites s f.result in
        join first (params ++ body) rs (name ∷ (ps ++ (results ++ block_sites s f.body))) (receiver_slotted b o f.receiver) (
          (λ may e. absurd (true≢false (sym may ∙ func_abroad f.receiver (s.spell f.name)))),
          join params body ps (results ++ block_sites s f.body) (params_slotted b o f.params)
              (all_append (Slotted body) results (block_sites s f.body) (abroad body results (result_abroad s f.result)) (block_slotted f.body)),
        )
