-- The world of a file, from the program's names and definitions.
use Rattle.std.proofs.Common.{ℕ, ◌≡◌, ◌==◌, ◌<◌, ◌≤◌, List, length, ap, sym, subst, refl, ◌∙◌, Bool, true, false, if◌then◌else◌}
use Rattle.std.specs.Prelude.{Some, slice_get}
use Rattle.std.specs.Cmp.Lexicographic.{pointwise, bytes_decides}
use Rattle.std.proofs.Math.Path.{fun_ext}
use Rattle.std.proofs.lemmas.Option.{slice_get_within, slice_get_past}
use Rattle.go_ast.specs.SourceFile.{SourceFile}
use Rattle.types_declared.specs.Laid.{init_name}
use Rattle.types_expr.specs.declared.symbol.Symbol.{Symbol}
use Rattle.types_expr.specs.declared.world.World.{World}
use Rattle.types_expr.specs.Types.{same_path}
use Rattle.types_expr.specs.World.{member_by}
use Rattle.types_expr.specs.WorldView.{world_of, name_in, definition_or_none, imported_at, definition_at, definition_in}
use Rattle.types_expr.specs.WorldView.{member_in, bound_in}
use Rattle.types_expr.specs.WorldView as view
use Rattle.types_stmt.specs.View.{is_init_in}
use Rattle.types_declared.specs.Package.{Package, package_types, symbol_in, spelled_at}
use Rattle.types_declared.specs.Definitions.{IsDefinition, AreDefinitions}
use Rattle.types_info.specs.DefinitionsView.{HaveDefinitions}
use Rattle.types_info.specs.Worlds.{IsWorldOf, is_init}
use Rattle.types_info.specs.NamesView.{AreNames}
use Rattle.types_info.proofs.MeaningLists.{slice_get_some, none_past}
use Rattle.types_info.proofs.Implementing.{implementing_decided}

-- Definitions

pub at_own : (w : World) (s : Symbol) → w.package.now ≡ s.package → definition_in w s ≡ definition_or_none s (slice_get w.own.now s.rank)
unfolding definition_in definition_at
at_own w s e = ap (λ t. definition_or_none s (if t then slice_get w.own.now s.rank else imported_at w.imported.now s))
    ((bytes_decides w.package.now s.package).1 e)

pub is_other : (a b : List ℕ) → (a ≡ b → ⊥) → (t : Bool) → same_path a b ≡ t → t ≡ false
is_other a b n true e = absurd (n ((bytes_decides a b).0 e))
is_other a b n false e = refl

pub at_other : (w : World) (s : Symbol) → (w.package.now ≡ s.package → ⊥) → definition_in w s ≡ definition_or_none s (imported_at w.imported.now s)
unfolding definition_in definition_at
at_other w s n =
    ap (λ t. definition_or_none s (if t then slice_get w.own.now s.rank else imported_at w.imported.now s))
    (is_other w.package.now s.package n (same_path w.package.now s.package) refl)

pub world_definitions : (p : Package) (w : World) → w.package.now ≡ p.path → HaveDefinitions p w.own.now →
    ((path : List ℕ) (rank : ℕ) → definition_or_none (record { «package» = path; rank = rank })
    (imported_at w.imported.now (record { «package» = path; rank = rank })) ≡ (p.export_data_of path).definition rank) →
    AreDefinitions p (definition_in w)
world_definitions p w here own imported = record {
  own = λ rank d at.
      let found = slice_get_some w.own.now rank (subst (λ n. rank < n) (sym own.all) (slice_get_within (package_types p) rank d at)) in
      subst (IsDefinition p rank) (sym (at_own w (symbol_in p rank) here ∙ ap (definition_or_none (symbol_in p rank)) found.1)) (own.each rank found.0 found.1);
  beyond = λ rank none.
      let past : length w.own.now ≤ rank = subst (λ n. n ≤ rank) (sym own.all) (none_past (package_types p) rank none) in
      at_own w (symbol_in p rank) here ∙ ap (definition_or_none (symbol_in p rank)) (slice_get_past w.own.now rank past);
  imported = λ path rank other. at_other w (record { «package» = path; rank = rank }) (λ e. other (sym e ∙ here)) ∙ imported path rank;
}

-- The world

pub world_from : (p : Package) (w : World) (file : ℕ) (s : SourceFile) → slice_get p.files file ≡ Some s → w.package.now ≡ p.path →
    AreNames p file w.bounds.now w.names.now → AreDefinitions p (definition_in w) →
    IsWorldOf p file s (world_of w)
unfolding bound_in member_in
world_from p w file s at here names definitions = record {
  names = names.bound;
  definitions = definition_in w;
  are_definitions = definitions;
  member = λ token t.
      ap (λ own. member_by (definition_in w) own (view.token_spelling (name_in w token)) t) here ∙
      ap (λ name. member_by (definition_in w) p.path name t) (names.spelling token ∙ ap (λ o. spelled_at o token) at);
  definition = λ symbol. refl;
  implements = implementing_decided w;
}

pub init_from : (p : Package) (w : World) (file : ℕ) (s : SourceFile) → slice_get p.files file ≡ Some s → AreNames p file w.bounds.now w.names.now →
    is_init_in w ≡ is_init s
init_from p w file s at names = fun_ext (λ token. ap (λ name. pointwise ◌==◌ name init_name) (names.spelling token ∙ ap (λ o. spelled_at o token) at))
