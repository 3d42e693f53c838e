-- Files in which a move edits nothing.
use Rattle.std.proofs.Common.{ℕ, zero, suc, ◌≡◌, ◌<◌, ◌≤◌, ◌+◌, inl, inr, Bool, true, false, List, [], ◌∷◌, length, take, get_or, refl, sym, subst, ◌∙◌}
use Rattle.std.specs.Prelude.{Option, Some, None, Contains, MatchOption, IsTrue, is_some, ◌↔◌, slice_get, slice_index_or}
use Rattle.std.specs.Global.{Vec as Row}
use Rattle.std.specs.List.{list_any}
use Rattle.std.proofs.lemmas.Bool.{true≢false}
use Rattle.std.proofs.lemmas.List.Elements.{All-nil}
use Rattle.base_lemmas.proofs.Elements.{nothing_in}
use Rattle.go_ast.specs.SourceFile.{SourceFile}
use Rattle.workspace_graph.specs.FileImports.{ListsImports}
use Rattle.workspace_graph.specs.declared.file_imports.FileImport.{FileImport}
use Rattle.workspace_graph.proofs.Collected.{one_more}
use Rattle.refactor_move.specs.declared.moved.Moved.{Moved}
use Rattle.refactor_move.specs.Paths.{quoted}
use Rattle.refactor_move.specs.Steps.{IsLiteralAmong, IsNewLiteral}
use Rattle.base_edits.specs.declared.edit.Edit.{Edit}
use Rattle.refactor_move.specs.Uses.{AreMarkedEdits, IsRenamedToken, marks_in_row}
use Rattle.refactor_move.specs.Untouched.{HasNoMovedImport, HasNoMarkedName, HasNoMarkedEdit}
use Rattle.refactor_move.proofs.Marking.{import_of_literal}

-- imports

abbrev pub NoneMoves : SourceFile → Moved → List FileImport → Type 0
NoneMoves f m imports = (i : ℕ) → IsLiteralAmong imports i → (text : List ℕ) → IsNewLiteral f m i text → ⊥

pub none_first : (f : SourceFile) (m : Moved) (imports : List FileImport) → NoneMoves f m (take 0 imports)
none_first f m imports i x text new = nothing_in x.0 x.1

never_new : (f : SourceFile) (m : Moved) (i : ℕ) (o : Option (List ℕ)) → is_some o ≡ false →
    MatchOption o ((text : List ℕ) → IsNewLiteral f m i text → ⊥) (λ text. IsNewLiteral f m i text) → (text : List ℕ) → IsNewLiteral f m i text → ⊥
never_new f m i None e h = h
never_new f m i (Some t) e h = absurd (true≢false e)

pub none_next : (f : SourceFile) (m : Moved) (imports : List FileImport) (k : ℕ) (item : FileImport) (o : Option (List ℕ)) → k < length imports →
    item ≡ get_or imports k item → is_some o ≡ false →
    MatchOption o ((text : List ℕ) → IsNewLiteral f m item.literal text → ⊥) (λ text. IsNewLiteral f m item.literal text) →
    NoneMoves f m (take k imports) → NoneMoves f m (take (k + 1) imports)
none_next f m imports k item o lt is e told none i x text new =
    elim ((one_more (λ (y : FileImport) (j : ℕ). y.literal ≡ j) imports k item lt is i).0 x) [
      | inl y ↦ none i y text new
      | inr same ↦ never_new f m item.literal o e told text (subst (λ j. IsNewLiteral f m j text) (sym same) new)
    ]

pub none_moves : (f : SourceFile) (m : Moved) (imports : List FileImport) → ListsImports f imports → NoneMoves f m imports → HasNoMovedImport f m
none_moves f m imports lists none i e h =
    none i (import_of_literal f imports lists i h.is_import) (quoted h.new)
    (record { old = h.old; stands_for = h.stands_for; new = h.new; moves = h.moves; is_text = refl })

-- names

unmarked : (marks : List Bool) → list_any (λ mark. mark) marks ≡ false → (i : ℕ) → slice_index_or marks i false ≡ true → ⊥
unmarked [] none i h = true≢false (sym h)
unmarked (true ∷ marks) none i h = true≢false none
unmarked (false ∷ marks) none zero h = true≢false (sym h)
unmarked (false ∷ marks) none (suc i) h = unmarked marks none i h

no_other : (path : List ℕ) (rank : ℕ) (f : SourceFile) (m : Moved) (rows : List (Row Bool)) (of_moved : Bool) → IsTrue of_moved ↔ (path ≡ m.from) →
    of_moved ≡ false → list_any (λ mark. mark) (marks_in_row (slice_get rows rank)) ≡ false → (i : ℕ) → IsRenamedToken path rank f m rows i → ⊥
no_other path rank f m rows of_moved told other none i (inl h) = true≢false (sym (told.1 h.0) ∙ other)
no_other path rank f m rows of_moved told other none i (inr h) = unmarked (marks_in_row (slice_get rows rank)) none i h

pub none_named : (path : List ℕ) (rank : ℕ) (f : SourceFile) (m : Moved) (rows : List (Row Bool)) (of_moved : Bool) → IsTrue of_moved ↔ (path ≡ m.from) →
    of_moved ≡ false → list_any (λ mark. mark) (marks_in_row (slice_get rows rank)) ≡ false → HasNoMarkedName path rank f m rows
none_named path rank f m rows of_moved told other none i e h = no_other path rank f m rows of_moved told other none i h.names

pub no_new_name : (path : List ℕ) (rank : ℕ) (f : SourceFile) (m : Moved) (rows : List (Row Bool)) → is_some m.name ≡ false →
    HasNoMarkedName path rank f m rows
no_new_name path rank f m rows none i e h = true≢false (subst (λ (o : Option (List ℕ)). is_some o ≡ false) h.follows none)

-- edits

pub no_edits : (path : List ℕ) (rank : ℕ) (f : SourceFile) (m : Moved) (rows : List (Row Bool)) → HasNoMovedImport f m → HasNoMarkedName path rank f m rows →
    HasNoMarkedEdit path rank f m rows
no_edits path rank f m rows imports names i e (inl h) = imports i e h
no_edits path rank f m rows imports names i e (inr h) = names i e h

pub nothing_edited : (path : List ℕ) (rank : ℕ) (f : SourceFile) (m : Moved) (rows : List (Row Bool)) (edits : List Edit) → edits ≡ [] →
    HasNoMarkedEdit path rank f m rows → AreMarkedEdits path rank f m rows edits
nothing_edited path rank f m rows edits is none = subst (AreMarkedEdits path rank f m rows) (sym is) (record {
  end_by = record { in_order = tt; ends = All-nil (λ (d : Edit). d.span.end ≤ length f.cut.text) };
  each = λ e. ((λ has. absurd (nothing_in e has)), (λ x. absurd (none x.0 e x.1)));
})
