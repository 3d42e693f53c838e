-- The declarations of used members, from the uses of members and the type definitions that the program has.
use Rattle.std.proofs.Common.{ℕ, ◌≡◌, ◌<◌, List, [], length, ap, sym, subst, refl, ◌∙◌, arith, Bool, if◌then◌else◌}
use Rattle.std.specs.Prelude.{Option, Some, None, Contains, option_map, slice_get, map}
use Rattle.std.specs.Global.{Vec}
use Rattle.std.specs.Cmp.Lexicographic.{bytes_decides}
use Rattle.std.proofs.Math.ListN.{length-map}
use Rattle.std.proofs.lemmas.Option.{none-some, same_Some, slice_get-map, slice_get_within}
use Rattle.go_ast.specs.SourceFile.{spelling_of}
use Rattle.go_scope.specs.WellFormed.{WellFormed}
use Rattle.types_expr.specs.declared.found.MemberUse.{MemberUse as FoundUse}
use Rattle.types_expr.specs.declared.symbol.Symbol.{Symbol}
use Rattle.types_expr.specs.declared.world.Definition.{Definition}
use Rattle.types_expr.specs.declared.world.Definitions.{Definitions}
use Rattle.types_expr.specs.Found.{use_of}
use Rattle.types_expr.specs.Judge.{MemberUse, members_of}
use Rattle.types_expr.specs.Types.{PlainType, Signature, same_path}
use Rattle.types_expr.specs.World.{Member, a_method, member_by}
use Rattle.types_expr.specs.World as plain
use Rattle.types_expr.specs.WorldView.{definition_or_none, imported_at}
use Rattle.types_stmt.specs.Declarations.{check_file}
use Rattle.types_declared.specs.declared.index.Package.{Package as PackageUnit}
use Rattle.types_declared.specs.declared.export_tables.ExportTable.{ExportTable}
use Rattle.types_declared.specs.ExportTablesView.{export_data_in}
use Rattle.types_declared.specs.Package.{Package, ExportData, symbol_in, spelled, spelled_at}
use Rattle.types_declared.specs.PackageView.{package_of}
use Rattle.types_declared.specs.Definitions.{IsDefinition, AreDefinitions}
use Rattle.types_info.specs.MemberUses.{AreUsesIn, AreMemberUses, uses_in}
use Rattle.types_info.specs.Worlds.{IsWorldOf, is_init}
use Rattle.types_info.specs.Uniqueness.{HasOneWorld}
use Rattle.types_info.proofs.MeaningLists.{slice_get_some}
use Rattle.types_info.proofs.OneWorld.{one_definitions}
use Rattle.types_info.proofs.WorldParts.{is_other}
use Rattle.refs_binding.specs.declared.declaration.Declaration.{Declaration}
use Rattle.refs_binding.specs.declared.declaration.Declaration.TheVariants.{Declared, Method}
use Rattle.refs_binding.specs.Binding.{declaration_of, UsesMemberAt}
use Rattle.refs_binding.specs.Members.{AreOwnDefinitions, definitions_by, definitions_seen, member_at, uses_or_none, IsMemberIn}
use Rattle.refs_binding.specs.Steps.{IsDeclarationResult}

-- a method is declared so, whether or not it has a signature
pub method_declared : (s : Symbol) (on_pointer : Bool) (signature : Option Signature) → declaration_of (a_method s on_pointer signature) ≡ Method s
method_declared s on_pointer None = refl
method_declared s on_pointer (Some x) = refl

-- a declaration of a scope is no member

pub not_declared : (m : Member) (path : List ℕ) (d : ℕ) → declaration_of m ≡ Declared path d → ⊥
not_declared (plain.AField s t) path d e = cc
not_declared (plain.AMethod s on_pointer signature) path d e = cc
not_declared (plain.ABrokenMethod s) path d e = cc

-- definitions

by_own : (path : List ℕ) (own : List Definition) (imported : Definitions) (s : Symbol) → path ≡ s.package →
    definitions_by path own imported s ≡ definition_or_none s (slice_get own s.rank)
by_own path own imported s e =
    ap (λ t. definition_or_none s (if t then slice_get own s.rank else imported_at imported s)) ((bytes_decides path s.package).1 e)

by_other : (path : List ℕ) (own : List Definition) (imported : Definitions) (s : Symbol) → (path ≡ s.package → ⊥) →
    definitions_by path own imported s ≡ definition_or_none s (imported_at imported s)
by_other path own imported s n =
    ap (λ t. definition_or_none s (if t then slice_get own s.rank else imported_at imported s))
    (is_other path s.package n (same_path path s.package) refl)

-- those of a package, by what it sees
pub known_definitions : (p : Package) (own : List Definition) (seen : ExportTable) → AreOwnDefinitions p own → p.export_data_of ≡ export_data_in seen →
    AreDefinitions p (definitions_by p.path own seen.definitions)
known_definitions p own seen h sees = record {
  own = λ rank d at. subst (IsDefinition p rank) (sym (by_own p.path own seen.definitions (symbol_in p rank) refl)) (h.each rank d at);
  beyond = λ rank none. by_own p.path own seen.definitions (symbol_in p rank) refl ∙ h.beyond rank none;
  imported = λ path rank other. by_other p.path own seen.definitions (record { «package» = path; rank = rank }) (λ e. other (sym e)) ∙
      ap (λ (f : List ℕ → ExportData). (f path).definition rank) (sym sees);
}

pub seen_definitions : (unit : PackageUnit) (own : List Definition) → AreOwnDefinitions (package_of unit) own →
    AreDefinitions (package_of unit) (definitions_seen unit own)
seen_definitions unit own h = known_definitions (package_of unit) own unit.export_table.now h refl

-- the member uses of a file are one list

pub one_list : (p : Package) → HasOneWorld p → (file : ℕ) (us vs : List MemberUse) → AreUsesIn p file us → AreUsesIn p file vs → us ≡ vs
one_list p one file us vs a b =
    let sources = same_Some a.source b.source (sym a.in_file ∙ b.in_file) in
    let worlds : a.world ≡ b.world = one file b.source a.world b.world (subst (λ s. IsWorldOf p file s a.world) sources a.judged_by) b.judged_by in
    a.found ∙ (ap (λ s. (members_of (check_file a.world (is_init s) s.tree).uses)) sources ∙
    ap (λ w. (members_of (check_file w (is_init b.source) b.source.tree).uses)) worlds) ∙
    sym b.found

-- what the world of a file says of a member
world_member : (p : Package) → WellFormed p.layout → (ds : Symbol → plain.Definition) → AreDefinitions p ds →
    (file : ℕ) (us : List MemberUse) (a : AreUsesIn p file us) (token : ℕ) (t : PlainType) →
    a.world.member token t ≡ member_by ds p.path (spelled p file token) t
world_member p formed ds are file us a token t =
    a.judged_by.member token t
    ∙ ap (λ d. member_by d p.path (spelling_of a.source token) t) (one_definitions p formed a.judged_by.definitions ds a.judged_by.are_definitions are)
    ∙ ap (λ n. member_by ds p.path n t) (ap (λ o. spelled_at o token) (sym a.in_file))

some_member : (o : Option Member) (d : Declaration) → option_map declaration_of o ≡ Some d → (m : Member) × ((o ≡ Some m) × (declaration_of m ≡ d))
some_member None d e = absurd (none-some d e)
some_member (Some m) d e = (m, (refl, same_Some (declaration_of m) d e))

-- the member at a token, by the member uses of its file
module _ (p : Package) (formed : WellFormed p.layout) (one : HasOneWorld p) (ds : Symbol → plain.Definition) (are : AreDefinitions p ds) where
  pub member_in : (file : ℕ) (us : List MemberUse) → AreUsesIn p file us → (token : ℕ) (d : Declaration) → UsesMemberAt p file token d →
      IsMemberIn ds p file us token d
  member_in file us judged token d m = record {
    found = m.found;
    is_use = subst (λ l. Contains l m.found) (one_list p one file m.uses us m.judged judged) m.is_use;
    at = m.at;
    is_member =
        ap (λ n. member_at ds p file n m.found.before) m.at
        ∙ ap (option_map declaration_of) (sym (world_member p formed ds are file m.uses m.judged token m.found.before) ∙ m.is_member)
        ∙ ap Some m.declares;
  }

  pub member_from : (file : ℕ) (us : List MemberUse) → AreUsesIn p file us → (token : ℕ) (d : Declaration) → IsMemberIn ds p file us token d →
      UsesMemberAt p file token d
  member_from file us judged token d m =
      let found = some_member (member_by ds p.path (spelled p file m.found.place) m.found.before) d m.is_member in
      record {
        uses = us;
        judged = judged;
        found = m.found;
        is_use = m.is_use;
        at = m.at;
        member = found.0;
        is_member =
            world_member p formed ds are file us judged token m.found.before
            ∙ ap (λ n. member_by ds p.path (spelled p file n) m.found.before) (sym m.at)
            ∙ found.1.0;
        declares = found.1.1;
      }

-- the lists of a package's files

pub file_uses : (p : Package) (members : List (Vec FoundUse)) → AreMemberUses p (map uses_in members) → (file : ℕ) (v : Vec FoundUse) →
    slice_get members file ≡ Some v → AreUsesIn p file (uses_in v)
file_uses p members h file v e = h.each file (uses_in v) (slice_get-map uses_in members file ∙ ap (option_map uses_in) e)

pub has_uses : (p : Package) (members : List (Vec FoundUse)) → AreMemberUses p (map uses_in members) → (file : ℕ) (us : List MemberUse) →
    AreUsesIn p file us → file < length members
has_uses p members h file us a =
    let within : file < length p.files = slice_get_within p.files file a.source a.in_file in
    let size : length (map uses_in members) ≡ length p.files = h.all in
    let same : length (map uses_in members) ≡ length members = length-map members uses_in in
    omega (arith, within, size, same)

-- the member that was found at a token is the one
pub found_member : (p : Package) (formed : WellFormed p.layout) (one : HasOneWorld p) (ds : Symbol → plain.Definition) (are : AreDefinitions p ds)
    (members : List (Vec FoundUse)) →
    AreMemberUses p (map uses_in members) → (file token : ℕ) (us : List FoundUse) → us ≡ uses_or_none (slice_get members file) → (o : Option Declaration) →
    IsDeclarationResult (IsMemberIn ds p file (map use_of us) token) o → IsDeclarationResult (UsesMemberAt p file token) o
found_member p formed one ds are members all file token us e o h = by_list (slice_get members file) refl
  where
    none : (o : Option Declaration) → slice_get members file ≡ None → IsDeclarationResult (IsMemberIn ds p file [] token) o →
        IsDeclarationResult (UsesMemberAt p file token) o
    none None past k = λ d m. let v = slice_get_some members file (has_uses p members all file m.uses m.judged) in absurd (none-some v.0 (sym past ∙ v.1))
    none (Some d) past k = let lt : k.is_use.0 < 0 = k.is_use.1 in absurd (omega arith)

    some : (o : Option Declaration) (v : Vec FoundUse) → slice_get members file ≡ Some v → IsDeclarationResult (IsMemberIn ds p file (uses_in v) token) o →
        IsDeclarationResult (UsesMemberAt p file token) o
    some None v at k = λ d m. k d (member_in p formed one ds are file (uses_in v) (file_uses p members all file v at) token d m)
    some (Some d) v at k = member_from p formed one ds are file (uses_in v) (file_uses p members all file v at) token d k

    by_list : (x : Option (Vec FoundUse)) → slice_get members file ≡ x → IsDeclarationResult (UsesMemberAt p file token) o
    by_list None at = none o at (subst (λ l. IsDeclarationResult (IsMemberIn ds p file (map use_of l) token) o) (e ∙ ap uses_or_none at) h)
    by_list (Some v) at = some o v at (subst (λ l. IsDeclarationResult (IsMemberIn ds p file (map use_of l) token) o) (e ∙ ap uses_or_none at) h)
