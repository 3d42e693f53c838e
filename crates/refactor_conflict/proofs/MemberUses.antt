-- Member uses, with the type before them.
use Rattle.std.proofs.Common.{ℕ, ◌≡◌, ◌∙◌, List, ap, sym, refl}
use Rattle.std.specs.Prelude.{Option, Some, None, Contains, option_map}
use Rattle.std.proofs.Math.Path.{fun_ext}
use Rattle.std.proofs.lemmas.Option.{none-some, same_Some}
use Rattle.go_scope.specs.WellFormed.{WellFormed}
use Rattle.go_ast.specs.SourceFile.{spelling_of}
use Rattle.types_expr.specs.declared.symbol.Symbol.{Symbol}
use Rattle.types_expr.specs.Judge.{MemberUse}
use Rattle.types_expr.specs.Types.{PlainType}
use Rattle.types_expr.specs.World.{Definition, Member, member_by}
use Rattle.types_declared.specs.Package.{Package, spelled, spelled_at}
use Rattle.types_declared.specs.Definitions.{AreDefinitions}
use Rattle.types_info.specs.MemberUses.{AreUsesIn}
use Rattle.types_info.proofs.OneWorld.{one_definitions}
use Rattle.refs_binding.specs.declared.declaration.Declaration.{Declaration}
use Rattle.refs_binding.specs.Binding.{UsesMemberAt, declaration_of}
use Rattle.refs_binding.specs.Members.{member_at}

-- the name at a token is used as a member of a type, by the definitions that the package sees
abbrev pub IsUsedAs : (Symbol → Definition) → Package → (file token : ℕ) → Declaration → PlainType → Type 0
IsUsedAs ds p file token d before = (m : UsesMemberAt p file token d) × ((m.found.before ≡ before) × (m.judged.world.definition ≡ (λ s. (ds s).underlying)))

module _ (p : Package) (formed : WellFormed p.layout) (ds : Symbol → Definition) (are : AreDefinitions p ds) (file : ℕ) (us : List MemberUse)
    (a : AreUsesIn p file us) where
  same : a.judged_by.definitions ≡ ds
  same = one_definitions p formed a.judged_by.definitions ds a.judged_by.are_definitions are

  pub in_world : (token : ℕ) (t : PlainType) → a.world.member token t ≡ member_by ds p.path (spelled p file token) t
  in_world token t =
      a.judged_by.member token t
      ∙ ap (λ d. member_by d p.path (spelling_of a.source token) t) same
      ∙ ap (λ o. member_by ds p.path (spelled_at o token) t) (sym a.in_file)

  -- the definitions of its world
  pub definitions_in : a.world.definition ≡ (λ s. (ds s).underlying)
  definitions_in = fun_ext (λ s. a.judged_by.definition s ∙ ap (λ (f : Symbol → Definition). (f s).underlying) same)

  pub used_at : (x : MemberUse) → Contains us x → (d : Declaration) → member_at ds p file x.place x.before ≡ Some d → IsUsedAs ds p file x.place d x.before
  used_at x is d e = by_member (member_by ds p.path (spelled p file x.place) x.before) refl e
    where
      by_member : (o : Option Member) → member_by ds p.path (spelled p file x.place) x.before ≡ o → option_map declaration_of o ≡ Some d →
          IsUsedAs ds p file x.place d x.before
      by_member None has e = absurd (none-some d e)
      by_member (Some m) has e = (
        record {
          uses = us;
          judged = a;
          found = x;
          is_use = is;
          at = refl;
          member = m;
          is_member = in_world x.place x.before ∙ has;
          declares = same_Some (declaration_of m) d e;
        },
        (refl, definitions_in),
      )
