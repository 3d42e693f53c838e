-- The file of an import, after the import got the name that it declares already.
use Rattle.std.proofs.Common.{ℕ, ◌≡◌, ◌++◌, Bool, true, false, List, [], ◌∷◌, None, cond, sym, ap, ◌∙◌}
use Rattle.std.specs.Prelude.{Contains}
use Rattle.std.proofs.lemmas.Bool.{true≢false}
use Rattle.base_edits.specs.Edits.{edited_text}
use Rattle.go_ast.specs.Kinds.{kind_of_name}
use Rattle.go_ast.specs.SourceFile.{FileParts, IsSourceFile, SourceFile, offset_of, source_of}
use Rattle.go_ast.specs.Tree.{ImportTree}
use Rattle.types_declared.specs.Files.{imports_in}
use Rattle.refactor_rename.specs.Replacements.{IsNameBefore, apart, joined}
use Rattle.law_rename.specs.MayGain.{MayGain, inserted}
use Rattle.law_rename.specs.Named.{put_bytes}
use Rattle.law_rename.specs.Put.{NoWordEndsAt}
use Rattle.law_rename.proofs.Apart.{literal_apart}
use Rattle.law_rename.proofs.Finding.{gains}
use Rattle.law_gained_names.specs.NamedFiles.{NamedFilesExist}
use Rattle.law_gained_names.specs.GainedName.{ImportGainsName}
use Rattle.law_gained_names.specs.BareImports.{IsIdentifierText}

module _ (exist : NamedFilesExist) (t : FileParts) (is : IsSourceFile (source_of t)) (i : ImportTree) (among : Contains (imports_in (source_of t).tree) i)
    (bare : i.name ≡ None) (name : List ℕ) (text : IsIdentifierText name) where
  abbrev pub f : SourceFile
  f = source_of t

  -- the name may be put before the literal
  record Puts (put : List ℕ) : Type 0 where
    blank_first : Bool
    may : MayGain f i.path name blank_first
    bytes : put_bytes may.put ≡ put

  bytes_by : (b : Bool) (g : MayGain f i.path name b) → put_bytes g.put ≡ cond b (32 ∷ (name ++ 32 ∷ [])) (name ++ 32 ∷ [])
  bytes_by b g = λ m. cond (g.blank m) (32 ∷ (g.named m ++ 32 ∷ [])) (g.named m ++ 32 ∷ [])

  puts : (put : List ℕ) → IsNameBefore f i.path name put → Puts put
  puts _ (apart away) =
      let no_word : NoWordEndsAt (offset_of f i.path) f.cut.pieces =
      literal_apart f i is among bare
      (λ before next word ends. away (record { before = before; next = next; is_import = record { word = word; ends = ends } })) in
      let g = gains f i name false is among bare text.piece (λ e. no_word) in
      record { blank_first = false; may = g; bytes = bytes_by false g }
  puts _ (joined follows) =
      let g = gains f i name true is among bare text.piece (λ e. absurd (true≢false e)) in
      record { blank_first = true; may = g; bytes = bytes_by true g }

  -- the file after it

  pub record HasOwnName (put : List ℕ) : Type 0 where
    pub after : FileParts
    pub gained : ImportGainsName i.path t after
    pub named : gained.put.name ≡ name
    pub bytes : put_bytes gained.put ≡ put
    pub path : after.path ≡ t.path
    pub is_file : IsSourceFile (source_of after)
    pub new_text : edited_text (inserted (offset_of f i.path) put ∷ []) t.cut.text ≡ after.cut.text

  pub own_name : (put : List ℕ) → IsNameBefore f i.path name put → HasOwnName put
  own_name put is_put =
      let p = puts put is_put in
      let g = p.may in
      let x = exist t i.path name p.blank_first is text.named g in
      record {
        after = x.0;
        gained = record {
          put = g.put;
          around = g.around;
          may = g.may;
          literal = g.literal;
          is_name = ap kind_of_name g.named ∙ text.named;
          old_cut = g.cut_is;
          old_tree = g.tree_is;
          new_cut = x.1.cut;
          new_tree = x.1.tree;
        };
        named = g.named;
        bytes = p.bytes;
        path = x.1.path;
        is_file = x.1.is_file;
        new_text = ap (λ bytes. edited_text (inserted (offset_of f i.path) bytes ∷ []) t.cut.text) (sym p.bytes) ∙ x.1.text;
      }
