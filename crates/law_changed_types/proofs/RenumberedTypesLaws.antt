-- The laws of a package in which tokens and identifiers get other numbers.
use Rattle.std.proofs.Common.{ℕ, zero, suc, ◌≡◌, ◌+◌, Bool, List, [], ◌∷◌, map, Some, None, ◌==◌, refl, sym, ap, ◌∙◌, subst, ⊎_elim, arith}
use Rattle.std.proofs.Math.Path.{fun_ext}
use Rattle.std.specs.Prelude.{slice_get, Contains}
use Rattle.std.specs.List.{flat_map, enumerate_from}
use Rattle.std.specs.Cmp.Lexicographic.{pointwise}
use Rattle.std.proofs.lemmas.Option.{none-some, same_Some}
use Rattle.std.proofs.lemmas.List.Elements.{Contains-append_left, Contains-append_right}
use Rattle.base_lemmas.proofs.Elements.{nothing_in, first_in, first_or_later, later_in}
use Rattle.go_ast.specs.Tree.{DeclTree, VarDecl, TypeDecl, FuncDecl, FuncTree}
use Rattle.go_ast.specs.SourceFile.{SourceFile, spelling_of}
use Rattle.go_scope.specs.declared.model.Position.{Position}
use Rattle.types_expr.specs.declared.symbol.Symbol.{Symbol}
use Rattle.types_expr.specs.World.{World, Bound, Local, Definition, member_by}
use Rattle.types_expr.specs.Judge.{MemberUse, OfMember}
use Rattle.types_stmt.specs.Checked.{FoundSoFar}
use Rattle.types_stmt.specs.Declarations.{check_decls, check_file}
use Rattle.types_declared.specs.Files.{RankedSource, ranked_files}
use Rattle.types_declared.specs.Laid.{init_name}
use Rattle.types_declared.specs.Package.{Package, PlacedFunction, decl_functions, functions_in, spelled_at}
use Rattle.types_declared.specs.MeaningOf.{IsMeaningOf}
use Rattle.types_info.specs.Worlds.{IsName, IsWorldOf, is_init}
use Rattle.types_info.proofs.OneMeaning.{one_name}
use Rattle.law_changed_types.specs.MemberUses.{AgreesOnInit}
use Rattle.law_changed_types.proofs.FileUses.{files_ask}
use Rattle.law_changed_types.proofs.Worlds.{layout_formed, tokens_rise}
use Rattle.law_rename.specs.Renumbered.{decl_by, type_by}
use Rattle.law_changed_types.specs.Renumbering.{IsRenumberedWorld, IsRenumberedCheck, renumbered_bound}
use Rattle.law_changed_types.proofs.Files.{files_renumber}
use Rattle.law_changed_types.specs.RenumberedPackage.{NewNumbers, AreRenumberedFiles, IsRenumberedPackage, TypesRenumber, BrokenRenumber, UnderlyingRenumber}
use Rattle.law_changed_types.specs.RenumberedPackage.{MeaningsRenumber, DefinitionsRenumber, NamesRenumber, FoundRenumbers}
use Rattle.law_changed_types.proofs.RenumberedTypesWritten.{denotes, denotes_back, broken, broken_back}
use Rattle.law_changed_types.proofs.RenumberedTypesUnderlying.{has_underlying}
use Rattle.law_changed_types.proofs.RenumberedTypesMeanings.{SameBound, same_local, same_meaning, same_variable, same_function, same_type, meaning}
use Rattle.law_changed_types.proofs.RenumberedTypesDefined.{definition_stays}
use Rattle.law_changed_types.proofs.Names.{name, same_definitions}
use Rattle.law_changed_types.proofs.Numbered.{FollowsToken, FollowsIdentifier, tree_follows, there, back, locals_follow, locals_back}
use Rattle.law_changed_types.proofs.RenumberedTypesAlike.{Turned, TurnedIdentifiers}
use Rattle.types_info.proofs.OneWorld.{same_implementing}

-- types and meanings

pub types_renumber : TypesRenumber
types_renumber n p q a file tree t dots =
    let T = FollowsToken n in
    let I = FollowsIdentifier n in
    let h = there n p q a in
    let k = back n p q a in
    let x = type_by (n.token file) tree in
    let s = tree_follows n p q a file tree dots in
    ((λ is. denotes T I p q h k file tree t is x s), (λ is. denotes_back T I p q h k file tree x t s is))

pub broken_renumber : BrokenRenumber
broken_renumber n p q a rank =
    let T = FollowsToken n in
    let I = FollowsIdentifier n in
    let h = there n p q a in
    let k = back n p q a in
    ((λ b. broken T I p q h k rank b), (λ b. broken_back T I p q h k rank b))

pub underlying_renumber : UnderlyingRenumber
underlying_renumber n p q a t u =
    let T = FollowsToken n in
    let I = FollowsIdentifier n in
    let h = there n p q a in
    let k = back n p q a in
    ((λ is. has_underlying T I p q h k t u is), (λ is. has_underlying (Turned T) (TurnedIdentifiers I) q p k h t u is))

pub definitions_renumber : DefinitionsRenumber
definitions_renumber n p q a rank d =
    let T = FollowsToken n in
    let I = FollowsIdentifier n in
    let h = there n p q a in
    let k = back n p q a in
    ((λ is. definition_stays T I p q h k rank d is), (λ is. definition_stays (Turned T) (TurnedIdentifiers I) q p k h rank d is))

bound_is : (n : NewNumbers) (file : ℕ) (b c : Bound) → SameBound (FollowsToken n) file b c → c ≡ renumbered_bound (n.token file) b
bound_is n file _ _ (same_local {a = x} {b = y} e) = ap Local e
bound_is n file _ _ (same_meaning {m = m}) = refl
bound_is n file _ _ same_variable = refl
bound_is n file _ _ same_function = refl
bound_is n file _ _ same_type = refl

pub meanings_renumber : MeaningsRenumber
meanings_renumber n p q a d b is =
    let file = (p.layout.place d).file in
    let e = n.identifier d in
    let now = meaning (FollowsToken n) (FollowsIdentifier n) p q (there n p q a) (back n p q a) d e file b refl is
    (λ f x y block. ap (λ (z : Position). z.index) (a.places d)) in
    subst (λ c. IsMeaningOf q e c) (bound_is n file b now.0 now.1.0) now.1.1

pub names_renumber : NamesRenumber
names_renumber n p q a file token b is =
    let x = n.token file token in
    let now = name (FollowsToken n) (FollowsIdentifier n) p q (there n p q a) (back n p q a) (locals_follow n p q a) (locals_back n p q a) file token x b
    refl is in
    subst (λ c. IsName q file x c) (bound_is n file b now.0 now.1.0) now.1.1

-- the declarations of one file

decls_of : (t : ℕ → ℕ → ℕ) (k : ℕ) (fs gs : List SourceFile) → AreRenumberedFiles t k fs gs → (i : ℕ) (f g : SourceFile) → slice_get fs i ≡ Some f →
    slice_get gs i ≡ Some g → g.tree.decls ≡ map (decl_by (t (k + i))) f.tree.decls
decls_of t k [] gs are i f g at there = absurd (none-some f at)
decls_of t k (x ∷ fs) [] are i f g at there = absurd are
decls_of t k (x ∷ fs) (y ∷ gs) are zero f g at there =
    let same : k ≡ k + 0 = omega arith in
    ap (λ (z : SourceFile). z.tree.decls) (sym (same_Some y g there))
    ∙ are.0
    ∙ ap (λ (z : SourceFile). map (decl_by (t k)) z.tree.decls) (same_Some x f at)
    ∙ ap (λ j. map (decl_by (t j)) f.tree.decls) same
decls_of t k (x ∷ fs) (y ∷ gs) are (suc i) f g at there =
    let same : k + 1 + i ≡ k + suc i = omega arith in
    decls_of t (k + 1) fs gs are.1 i f g at there ∙ ap (λ j. map (decl_by (t j)) f.tree.decls) same

-- the rank of a function that is declared in a file

in_flat : {X Y : Type 0} (f : X → List Y) (xs : List X) (x : X) (y : Y) → Contains xs x → Contains (f x) y → Contains (flat_map f xs) y
in_flat f [] x y has c = absurd (nothing_in x has)
in_flat {X} {Y} f (z ∷ xs) x y has c =
    ⊎_elim
    (λ (e : z ≡ x). Contains-append_left (f z) (flat_map f xs) y (subst (λ u. Contains (f u) y) (sym e) c))
    (λ (k : Contains xs x). Contains-append_right (f z) (flat_map f xs) y (in_flat f xs x y k c))
    (first_or_later z xs x has)

in_ranked : (k : ℕ) (fs : List SourceFile) (i : ℕ) (f : SourceFile) → slice_get fs i ≡ Some f → Contains (enumerate_from k fs) (k + i, f)
in_ranked k [] i f at = absurd (none-some f at)
in_ranked k (x ∷ fs) zero f at =
    let same : k ≡ k + 0 = omega arith in
    subst (λ (z : RankedSource). Contains ((k, x) ∷ enumerate_from (k + 1) fs) z)
    (ap (λ j. (j, x)) same ∙ ap (λ (z : SourceFile). (k + 0, z)) (same_Some x f at)) (first_in (k, x) (enumerate_from (k + 1) fs))
in_ranked k (x ∷ fs) (suc i) f at =
    let same : k + 1 + i ≡ k + suc i = omega arith in
    subst (λ j. Contains ((k, x) ∷ enumerate_from (k + 1) fs) (j, f)) same
    (later_in (k, x) (enumerate_from (k + 1) fs) (k + 1 + i, f) (in_ranked (k + 1) fs i f at))

got : {X : Type 0} (xs : List X) (x : X) → Contains xs x → (i : ℕ) × (slice_get xs i ≡ Some x)
got [] x has = absurd (nothing_in x has)
got {X} (z ∷ xs) x has =
    ⊎_elim {C = (i : ℕ) × (slice_get (z ∷ xs) i ≡ Some x)} (λ (e : z ≡ x). (0, ap Some e))
    (λ (k : Contains xs x). let r = got xs x k in (suc r.0, r.1)) (first_or_later z xs x has)

function_ranked : (fs : List SourceFile) (file : ℕ) (f : SourceFile) (k : ℕ) (x : FuncTree) (c : ℕ) → slice_get fs file ≡ Some f →
    Contains f.tree.decls (FuncDecl k x c) →
    (rank : ℕ) × (slice_get (flat_map functions_in (ranked_files fs)) rank ≡ Some (record { file = file; function = x }))
function_ranked fs file f k x c at has =
    let placed : PlacedFunction = record { file = file; function = x } in
    let here : Contains (functions_in (file, f)) placed =
    in_flat (decl_functions file) f.tree.decls (FuncDecl k x c) placed has (first_in placed []) in
    let same : 0 + file ≡ file = omega arith in
    let listed : Contains (ranked_files fs) (file, f) = subst (λ j. Contains (ranked_files fs) (j, f)) same (in_ranked 0 fs file f at) in
    got (flat_map functions_in (ranked_files fs)) placed (in_flat functions_in (ranked_files fs) (file, f) placed listed here)

-- what is found of files

module _ (n : NewNumbers) (p q : Package) (a : IsRenumberedPackage n p q) (file : ℕ) (f g : SourceFile) (at : slice_get p.files file ≡ Some f)
    (there_at : slice_get q.files file ≡ Some g) where
  -- functions are called as before
  called : (k : ℕ) (x : FuncTree) (c : ℕ) → Contains f.tree.decls (FuncDecl k x c) → spelling_of g (n.token file x.name) ≡ spelling_of f x.name
  called k x c has =
      let r = function_ranked p.files file f k x c at has in
      ap (λ o. spelled_at o (n.token file x.name)) (sym there_at) ∙ a.functions r.0 (record { file = file; function = x }) r.1
      ∙ ap (λ o. spelled_at o x.name) at

  inits : (d : DeclTree) → Contains f.tree.decls d → AgreesOnInit (is_init f) (λ token. is_init g (n.token file token)) d
  inits (VarDecl k x c) has = tt
  inits (TypeDecl k x c) has = tt
  inits (FuncDecl k x c) has = λ none. ap (λ z. pointwise ◌==◌ z init_name) (called k x c has)

  module _ (v w : World) (before : IsWorldOf p file f v) (after : IsWorldOf q file g w) where
    all_same : (s : Symbol) → after.definitions s ≡ before.definitions s
    all_same s =
        same_definitions (FollowsToken n) (FollowsIdentifier n) p q (there n p q a) (back n p q a) (layout_formed q a.parsed_too) before.definitions
        after.definitions before.are_definitions after.are_definitions s

    -- the old world with the members of the new one
    patched : World
    patched = record { bound = v.bound; member = λ token t. w.member (n.token file token) t; definition = v.definition; implements = v.implements }

    world_is : IsRenumberedWorld (n.token file) patched w
    unfolding patched
    world_is = record {
      bound = λ token.
          let x = n.token file token in
          one_name q (layout_formed q a.parsed_too) (tokens_rise q a.parsed_too) file x (w.bound x) (renumbered_bound (n.token file) (v.bound token))
          (after.names x) (names_renumber n p q a file token (v.bound token) (before.names token));
      definition = λ s.
          after.definition s
          ∙ ap (λ (d : Definition). d.underlying) (all_same s)
          ∙ sym (before.definition s);
      implements = λ t s. same_implementing q p file file g f w v after before (fun_ext all_same) t s;
      member = λ token t. refl;
    }

    members_are : (u : MemberUse) → spelling_of g (n.token file u.place) ≡ spelling_of f u.place →
        w.member (n.token file u.place) u.before ≡ v.member u.place u.before
    members_are u spelled_is =
        let x = n.token file u.place in
        after.member x u.before
        ∙ ap (λ c. member_by c q.path (spelling_of g x) u.before) (fun_ext all_same)
        ∙ ap (λ path. member_by before.definitions path (spelling_of g x) u.before) a.path
        ∙ ap (λ spelled_as. member_by before.definitions p.path spelled_as u.before) spelled_is
        ∙ sym (before.member u.place u.before)

    found : ((u : MemberUse) → Contains (check_file v (is_init f) f.tree).uses (OfMember u) → spelling_of g (n.token file u.place) ≡ spelling_of f u.place) →
        IsRenumberedCheck (n.token file) (check_file v (is_init f) f.tree) (check_file w (is_init g) g.tree)
    unfolding patched check_file
    found spelled_are =
        let zero_plus : 0 + file ≡ file = omega arith in
        let init : ℕ → Bool = λ token. is_init g (n.token file token) in
        let asked : check_file patched init f.tree ≡ check_file v (is_init f) f.tree =
        files_ask v patched (is_init f) init f.tree inits (record {
          bound = λ token. refl;
          definition = λ s. refl;
          implements = λ t s. refl;
          members = λ u has. members_are u (spelled_are u has);
        }) in
        let start : FoundSoFar = record { locals = λ token. None; faults = []; uses = [] } in
        subst (λ (z : FoundSoFar). IsRenumberedCheck (n.token file) z (check_file w (is_init g) g.tree)) asked
        (subst (λ (ds : List DeclTree). IsRenumberedCheck (n.token file) (check_file patched init f.tree) (check_decls w (is_init g) start ds))
        (sym (decls_of n.token 0 p.files q.files a.files file f g at there_at ∙ ap (λ j. map (decl_by (n.token j)) f.tree.decls) zero_plus))
        (files_renumber (n.token file) (a.apart file) patched w world_is init (is_init g) (λ token. refl) f.tree))

pub found_renumbers : FoundRenumbers
found_renumbers n p q a file f g at there_at v w before after spelled_are = found n p q a file f g at there_at v w before after spelled_are
