-- The source of the code of a file, in the package in which an import gained a name: the old one, with new numbers of tokens.
use Rattle.std.proofs.Common.{ℕ, ◌≡◌, ◌+◌, inl, inr, Bool, true, false, if◌then◌else◌, List, [], ◌∷◌, Option, Some, None, map, refl, ap, sym, subst}
use Rattle.std.proofs.Common.{◌∙◌, arith}
use Rattle.std.proofs.lemmas.Bool.{cases_lt}
use Rattle.std.specs.Prelude.{◌↔◌, Contains, slice_get}
use Rattle.std.proofs.Math.Path.{ap₂, fun_ext}
use Rattle.std.proofs.lemmas.Option.{same_Some}
use Rattle.go_ast.specs.declared.syntax.Kind.{Kind}
use Rattle.go_ast.specs.Flatten.{all_tokens, decl_tokens}
use Rattle.go_ast.specs.SourceFile.{SourceFile, spelling_of}
use Rattle.go_scope.specs.WellFormed.{WellFormed}
use Rattle.types_declared.specs.Files.{HasLiteral}
use Rattle.types_declared.specs.Package.{Package, spelled, spelled_at}
use Rattle.types_expr.specs.declared.symbol.Symbol.{Symbol}
use Rattle.types_expr.specs.Judge.{MemberUse, Entering, members_of, enterings_of}
use Rattle.types_expr.specs.Types.{PlainType}
use Rattle.types_expr.specs.World.{Definition, World, member_by}
use Rattle.types_stmt.specs.Declarations.{check_file}
use Rattle.types_info.specs.Uniqueness.{TokensRise}
use Rattle.types_info.specs.Worlds.{IsWorldOf, is_init}
use Rattle.types_info.proofs.OneMeaning.{one_name}
use Rattle.types_info.proofs.OneWorld.{has_one_world, same_implementing}
use Rattle.build_object.specs.Lines.{GlobalName, FunctionName}
use Rattle.build_object.specs.Literals.{literal_number}
use Rattle.build_object.specs.Names.{function_name, position_of_field, name_of_asked, asked_in_file, MethodAsked}
use Rattle.build_object.specs.Source.{Source}
use Rattle.build_object.specs.Sources.{type_before, type_entered, asked_there, IsGlobalAt, DenotesGlobal, IsTrueAt, IsTextAt, IsSourceOf}
use Rattle.law_faultless.specs.Worlds.{HaveWorlds}
use Rattle.law_tokens.specs.Order.{StandInOrder}
use Rattle.law_rename.specs.Gained.{Gain, moved_by}
use Rattle.law_rename.proofs.Bound.{move_rises}
use Rattle.law_changed_types.proofs.Worlds.{layout_formed, tokens_rise}
use Rattle.law_objects.proofs.Sourced.{all_weaker}
use Rattle.law_changed_types.specs.Renumbering.{IsRenumberedCheck, renumbered_bound, renumbered_entering, renumbered_use}
use Rattle.law_changed_types.specs.RenumberedPackage.{NewNumbers}
use Rattle.law_changed_types.proofs.RenumberedTypesAlike.{Turned, TurnedIdentifiers}
use Rattle.law_changed_types.proofs.RenumberedTypesLaws.{found_renumbers, names_renumber}
use Rattle.law_changed_types.proofs.Names.{same_definitions}
use Rattle.law_changed_types.proofs.Numbered.{FollowsIdentifier, FollowsToken, back, there}
use Rattle.law_gained_names.specs.NamedPackage.{numbers_of}
use Rattle.law_gained_names.proofs.Layouts.{renumbers, token, tokens_agree}
use Rattle.law_gained_names.specs.GainedName.{IsGainedAt}
use Rattle.law_gained_names.proofs.Judged.{gained_names_are_judged}
use Rattle.law_objects.specs.RenumberedSources.{IsRenumberedSource, IsSameAt}
use Rattle.law_objects.proofs.Sources.{same_equal}
use Rattle.law_objects.proofs.Halves.{global_there, truth_there}
use Rattle.law_objects.proofs.Literals.{literals_there, spelled_still}
use Rattle.law_objects.proofs.OwnNames.{literal_no_global, literal_no_truth, name_no_global, name_no_truth}
use Rattle.law_objects.proofs.Seen.{IsOwnLiteral, at_seen, declared_apart, each_kept, each_seen, kept_at, kept_value, seen, seen_at}
use Rattle.types_expr.proofs.NoteLists.{member_noted}
use Rattle.law_changed_types.proofs.ChangedNotes.{members_renumbered, enterings_renumbered}

-- the type before a use, where uses are at new numbers
uses_before : (t : ℕ → ℕ) → ((a b : ℕ) → t a ≡ t b → a ≡ b) → (us : List MemberUse) (n : ℕ) → type_before (map (renumbered_use t) us) (t n) ≡ type_before us n
uses_before t apart [] n = refl
uses_before t apart (u ∷ us) n = ap₂ (λ (b : Bool) (z : Option PlainType). if b then Some u.before else z) (same_equal t apart u.place n) (uses_before t
    apart us n)

-- the same of entries, and of the methods that interfaces ask for
entries_at : (t : ℕ → ℕ) → ((a b : ℕ) → t a ≡ t b → a ≡ b) → (es : List Entering) (n : ℕ) →
    type_entered (map (renumbered_entering t) es) (t n) ≡ type_entered es n
entries_at t apart [] n = refl
entries_at t apart (e ∷ es) n = ap₂ (λ (b : Bool) (z : Option PlainType). if b then Some e.own else z) (same_equal t apart e.place n) (entries_at t apart es n)

-- what an interface asks for, with the new number of its token
abbrev pub asked_moved : (ℕ → ℕ) → MethodAsked → MethodAsked
asked_moved t a = record { place = t a.place; name = a.name }

asked_at_new : (t : ℕ → ℕ) → ((a b : ℕ) → t a ≡ t b → a ≡ b) → (ms : List MethodAsked) (n : ℕ) →
    asked_there (map (asked_moved t) ms) (t n) ≡ asked_there ms n
asked_at_new t apart [] n = refl
asked_at_new t apart (a ∷ ms) n =
    ap₂ (λ (b : Bool) (z : Option FunctionName). if b then Some a.name else z) (same_equal t apart a.place n) (asked_at_new t apart ms n)

move_apart : (i : Gain) (f a b : ℕ) → moved_by i f a ≡ moved_by i f b → a ≡ b
move_apart i f a b e = elim (cases_lt a b) [
  | inl less ↦ (let r = move_rises i f a b less in absurd (omega (arith, r, e)))
  | inr other ↦ elim (cases_lt b a) [
    | inl less ↦ (let r = move_rises i f b a less in absurd (omega (arith, r, e)))
    | inr also ↦ omega (arith, other, also)
  ]
]

-- the sources of the files of the package, before and after
module _ (i : Gain) (at : ℕ) (p q : Package) (a : IsGainedAt i at p q) (in_order : StandInOrder q.layout q.size) (worlds : HaveWorlds p)
    (no_literal : (f : SourceFile) → slice_get q.files i.rank ≡ Some f → (value : List ℕ) → HasLiteral f i.number value → ⊥) (file : ℕ) (f g : SourceFile)
    (was : slice_get p.files file ≡ Some f) (is : slice_get q.files file ≡ Some g) where
  abbrev n : NewNumbers
  n = numbers_of i at

  abbrev t : ℕ → ℕ
  t = token i at file

  abbrev Own : ℕ → Type 0
  Own k = IsOwnLiteral i file k

  formed : WellFormed q.layout
  formed = layout_formed q a.named.parsed_too

  rise : TokensRise q.files
  rise = tokens_rise q a.named.parsed_too

  spelled_now : (k : ℕ) → (Own k → ⊥) → spelling_of g (t k) ≡ spelling_of f k
  spelled_now k apart = spelled_still i at p q a.named a.literals file f g was is k apart

  spelled_both : (k : ℕ) → (Own k → ⊥) → spelled q file (t k) ≡ spelled p file k
  spelled_both k apart = ap (λ o. spelled_at o (t k)) is ∙ spelled_now k apart ∙ sym (ap (λ o. spelled_at o k) was)

  module _ (files_of new_of : List ℕ → List SourceFile) (functions : (x : Symbol) → function_name new_of x ≡ function_name files_of x)
      (positions : (x : Symbol) → position_of_field new_of x ≡ position_of_field files_of x)
      (asked : (x : Symbol) → name_of_asked new_of x ≡ name_of_asked files_of x)
      (asks : asked_in_file q.path q.files file ≡ map (asked_moved (moved_by i file)) (asked_in_file p.path p.files file)) (old : Source) (of : IsSourceOf p
      files_of file f old) (v : World)
      (judged : IsWorldOf q file g v) where
    -- the world

    definitions_same : (x : Symbol) → judged.definitions x ≡ of.world.definitions x
    definitions_same x =
        same_definitions (FollowsToken n) (FollowsIdentifier n) p q (there n p q a.renumbered) (back n p q a.renumbered) formed of.world.definitions
        judged.definitions of.world.are_definitions judged.are_definitions x

    definition_now : (x : Symbol) → v.definition x ≡ old.world.definition x
    definition_now x = judged.definition x ∙ ap (λ (d : Definition). d.underlying) (definitions_same x) ∙ sym (of.world.definition x)

    implements_now : (y : PlainType) (x : Symbol) → v.implements y x ≡ old.world.implements y x
    implements_now y x = same_implementing q p file file g f v old.world judged of.world (fun_ext definitions_same) y x

    bound_now : (k : ℕ) → v.bound (t k) ≡ renumbered_bound t (old.world.bound k)
    bound_now k =
        one_name q formed rise file (t k) (v.bound (t k)) (renumbered_bound t (old.world.bound k)) (judged.names (t k))
        (names_renumber n p q a.renumbered file k (old.world.bound k) (of.world.names k))

    member_now : (k : ℕ) → (Own k → ⊥) → (x : PlainType) → v.member (t k) x ≡ old.world.member k x
    member_now k apart x =
        judged.member (t k) x
        ∙ ap (λ c. member_by c q.path (spelling_of g (t k)) x) (fun_ext definitions_same)
        ∙ ap (λ path. member_by of.world.definitions path (spelling_of g (t k)) x) a.renumbered.path
        ∙ ap (λ z. member_by of.world.definitions p.path z x) (spelled_now k apart)
        ∙ sym (of.world.member k x)

    -- the uses of members

    abbrev AreSpelled : SourceFile → World → Type 0
    AreSpelled z x = (u : MemberUse) → Contains (members_of (check_file x (is_init z) z.tree).uses) u → spelling_of g (t u.place) ≡ spelling_of z u.place

    uses_spelled : AreSpelled f old.world
    uses_spelled =
        let j = gained_names_are_judged i at p q a.named worlds file g is in
        let source : j.source ≡ f = same_Some j.source f (sym j.in_file ∙ was) in
        let world : j.world ≡ old.world =
        has_one_world p (layout_formed p a.named.parsed) (tokens_rise p a.named.parsed) file f j.world old.world
        (subst (λ z. IsWorldOf p file z j.world) source j.judged_by) of.world in
        subst (λ x. AreSpelled f x) world (subst (λ z. AreSpelled z j.world) source j.spelled)

    found : IsRenumberedCheck t (check_file old.world (is_init f) f.tree) (check_file v (is_init g) g.tree)
    found = found_renumbers n p q a.renumbered file f g was is old.world v of.world judged
        (λ u has. uses_spelled u (member_noted (check_file old.world (is_init f) f.tree).uses u has))

    -- the source

    pub before_now : ℕ → Option PlainType
    before_now k = type_before (members_of (check_file v (is_init g) g.tree).uses) k

    before_still : (k : ℕ) → before_now (t k) ≡ old.before k
    unfolding before_now
    before_still k =
        ap (λ ns. type_before (members_of ns) (t k)) found.uses
        ∙ ap (λ us. type_before us (t k)) (members_renumbered t (check_file old.world (is_init f) f.tree).uses)
        ∙ uses_before t (renumbers i at file).injective (members_of (check_file old.world (is_init f) f.tree).uses) k
        ∙ sym (of.before k)

    pub entered_now : ℕ → Option PlainType
    entered_now k = type_entered (enterings_of (check_file v (is_init g) g.tree).uses) k

    entered_still : (k : ℕ) → entered_now (t k) ≡ old.entered k
    unfolding entered_now
    entered_still k =
        ap (λ ns. type_entered (enterings_of ns) (t k)) found.uses
        ∙ ap (λ es. type_entered es (t k)) (enterings_renumbered t (check_file old.world (is_init f) f.tree).uses)
        ∙ entries_at t (renumbers i at file).injective (enterings_of (check_file old.world (is_init f) f.tree).uses) k
        ∙ sym (of.entered k)

    pub asks_now : ℕ → Option FunctionName
    asks_now k = asked_there (asked_in_file q.path q.files file) k

    asks_still : (k : ℕ) → (Own k → ⊥) → asks_now (t k) ≡ old.asks k
    unfolding asks_now
    asks_still k apart =
        ap (λ n. asked_there (asked_in_file q.path q.files file) n) (sym (tokens_agree i at file k (λ e l. apart (e, l))))
        ∙ ap (λ ms. asked_there ms (moved_by i file k)) asks
        ∙ asked_at_new (moved_by i file) (move_apart i file) (asked_in_file p.path p.files file) k
        ∙ sym (of.asks k)

    pub new : Source
    new = record {
      world = v;
      before = before_now;
      entered = entered_now;
      global = λ k. at_seen i at None old.global file k (seen i at file k);
      asks = asks_now;
      truth = λ k. at_seen i at false old.truth file k (seen i at file k);
      number = λ k. literal_number (spelling_of g k);
      text = λ k. kept_value i at p q a.named a.literals None old.text file k;
      function = old.function;
      position = old.position;
      asked = old.asked;
    }

    global_back : (k : ℕ) (x : GlobalName) → (Own k → ⊥) → IsGlobalAt q file (t k) x → IsGlobalAt p file k x
    global_back k x apart h =
        global_there (Turned (FollowsToken n)) (TurnedIdentifiers (FollowsIdentifier n)) q p (back n p q a.renumbered) file (t k) k x refl
        (sym (spelled_both k apart)) h

    global_still : (k : ℕ) → (Own k → ⊥) → (o : Option GlobalName) → DenotesGlobal p file k o → DenotesGlobal q file (t k) o
    global_still k apart None h = λ x now. h x (global_back k x apart now)
    global_still k apart (Some x) h =
        global_there (FollowsToken n) (FollowsIdentifier n) p q (there n p q a.renumbered) file k (t k) x refl (spelled_both k apart) h

    global_is : (k : ℕ) → DenotesGlobal q file k (at_seen i at None old.global file k (seen i at file k))
    global_is k =
        each_seen i at None old.global (λ x o. DenotesGlobal q file x o) file (λ m apart. global_still m apart (old.global m) (of.global m))
        (λ here x now. name_no_global i at p q a in_order x (subst (λ z. IsGlobalAt q z i.number x) here now))
        (λ here x now. literal_no_global i at p q a in_order x (subst (λ z. IsGlobalAt q z (i.number + 1) x) here now)) k

    abbrev TellsTruth : ℕ → Bool → Type 0
    TellsTruth k b = (b ≡ true) ↔ IsTrueAt q file k

    no_truth : (k : ℕ) → (IsTrueAt q file k → ⊥) → TellsTruth k false
    no_truth k none = ((λ e. absurd (let z : ⊥ = cc in z)), (λ h. absurd (none h)))

    truth_is : (k : ℕ) → TellsTruth k (at_seen i at false old.truth file k (seen i at file k))
    truth_is k =
        each_seen i at false old.truth TellsTruth file
        (λ m apart. (
          (λ e. truth_there (FollowsToken n) (FollowsIdentifier n) p q (there n p q a.renumbered) file m (t m) refl ((of.truth m).0 e)),
          (λ h. (of.truth m).1 (truth_there (Turned (FollowsToken n)) (TurnedIdentifiers (FollowsIdentifier n)) q p (back n p q a.renumbered) file (t m) m
              refl h)),
        ))
        (λ here. no_truth i.number (λ h. name_no_truth i at p q a in_order (subst (λ z. IsTrueAt q z i.number) here h)))
        (λ here. no_truth (i.number + 1) (λ h. literal_no_truth i at p q a in_order (subst (λ z. IsTrueAt q z (i.number + 1)) here h))) k

    text_still : (k : ℕ) (o : Option (List ℕ)) → IsTextAt f k o → IsTextAt g (moved_by i file k) o
    text_still k None h = λ value now. h value ((literals_there i at p q a.named a.literals file f g was is k value).1 now)
    text_still k (Some value) h = (literals_there i at p q a.named a.literals file f g was is k value).0 h

    text_is : (k : ℕ) → IsTextAt g k (kept_value i at p q a.named a.literals None old.text file k)
    text_is k =
        each_kept i at p q a.named a.literals None old.text (λ x o. IsTextAt g x o) file (λ m. text_still m (old.text m) (of.text m))
        (λ here value h. no_literal g (sym (ap (slice_get q.files) here) ∙ is) value h) k

    pub is_new : IsSourceOf q new_of file g new
    unfolding new before_now entered_now asks_now
    is_new = record {
      world = judged;
      before = λ k. refl;
      entered = λ k. refl;
      global = global_is;
      asks = λ k. refl;
      truth = truth_is;
      number = λ k. refl;
      text = text_is;
      function = λ x. of.function x ∙ sym (functions x);
      position = λ x. of.position x ∙ sym (positions x);
      asked = λ x. of.asked x ∙ sym (asked x);
    }

    -- it is the old one, with the new numbers

    text_at : (k : ℕ) → (Own k → ⊥) → kept_value i at p q a.named a.literals None old.text file (t k) ≡ old.text k
    text_at k apart =
        ap (kept_value i at p q a.named a.literals None old.text file) (sym (tokens_agree i at file k (λ e l. apart (e, l))))
        ∙ kept_at i at p q a.named a.literals None old.text file k

    same_at : (k : ℕ) → (Own k → ⊥) → IsSameAt t old new k
    unfolding new
    same_at k apart = record {
      bound = bound_now k;
      member = λ x e. member_now k apart x;
      before = before_still k;
      global = seen_at i at None old.global file k apart;
      asks = asks_still k apart;
      truth = seen_at i at false old.truth file k apart;
      number = ap literal_number (spelled_now k apart) ∙ sym (of.number k);
      text = text_at k apart;
    }

    pub is_renumbered : IsRenumberedSource t f.tree.decls old new
    unfolding new
    is_renumbered = record {
      numbers = renumbers i at file;
      definition = definition_now;
      implements = implements_now;
      function = λ x. refl;
      position = λ x. refl;
      asked = λ x. refl;
      entered = entered_still;
      tokens =
          all_weaker (λ (kind : Kind) (k : ℕ). Own k → ⊥) (λ (kind : Kind) (k : ℕ). IsSameAt t old new k) (λ kind k apart. same_at k apart)
          (all_tokens decl_tokens f.tree.decls) (declared_apart i at p q a.named file f was);
    }
