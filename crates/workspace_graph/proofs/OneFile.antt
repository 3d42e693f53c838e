-- A path and a text have one parsed file at most, and a text with a fault has none.
use Rattle.std.proofs.Common.{◌≡◌, ℕ, Bool, true, false, List, sym, ap, subst, ◌∙◌, ⊎_elim}
use Rattle.std.proofs.lemmas.Bool.{true≢false}
use Rattle.go_scanner.specs.declared.refusal.TextFault.{TextFault}
use Rattle.go_scanner.specs.Cuts.{IsCut, IsFirstFault}
use Rattle.go_scanner.specs.CutText.{CutText}
use Rattle.go_scanner.proofs.OneCutLemmas.{one_cut, cut_or_fault}
use Rattle.go_ast.specs.Faults.{IsParsable, IsFaultOf, IsFaultOfTokens}
use Rattle.go_ast.specs.Kinds.{kinds_of}
use Rattle.go_ast.specs.SourceFile.{SourceFile}
use Rattle.go_ast.specs.Verdict.{IsWhole, FileVerdict, Whole, Faulty}
use Rattle.go_ast.specs.WellFormed.{IsTreeOf}
use Rattle.go_parser.proofs.OneTree.{one_tree}
use Rattle.go_ast.proofs.OneVerdict.{one_verdict}
use Rattle.workspace_graph.specs.Packages.{IsParsed}

pub same_cut : (c d : CutText) → c.text ≡ d.text → IsCut c.text c.pieces → IsCut d.text d.pieces → c ≡ d
same_cut c d texts a b =
    let pieces : c.pieces ≡ d.pieces = one_cut d.text c.pieces d.pieces (subst (λ (t : List ℕ). IsCut t c.pieces) texts a) b in
    λ i. record { text = texts i; pieces = pieces i }

pub one_file : (path text : List ℕ) (f g : SourceFile) → IsParsed path text f → IsParsed path text g → f ≡ g
one_file path text f g a b =
    let paths : f.path ≡ g.path = a.of_path ∙ sym b.of_path in
    let cuts : f.cut ≡ g.cut = same_cut f.cut g.cut (a.of_text ∙ sym b.of_text) a.is_file.is_cut b.is_file.is_cut in
    let trees : f.tree ≡ g.tree = one_tree (subst (λ (c : CutText). IsTreeOf f.tree (kinds_of c)) cuts a.is_file.is_tree) b.is_file.is_tree in
    λ i. record { path = paths i; cut = cuts i; tree = trees i }

abbrev is_whole : FileVerdict → Bool
is_whole Whole = true
is_whole (Faulty kind left) = false

-- a text without fault has none
pub sound_or_fault : (text : List ℕ) (fault : TextFault) → IsParsable text → IsFaultOf text fault → ⊥
sound_or_fault text fault sound faulty =
    ⊎_elim
    (λ (first : IsFirstFault text fault). cut_or_fault text sound.cut.pieces fault
    (subst (λ (t : List ℕ). IsCut t sound.cut.pieces) sound.of_text sound.is_cut) first)
    (λ (tokens : IsFaultOfTokens text fault).
    let cuts : sound.cut ≡ tokens.cut = same_cut sound.cut tokens.cut (sound.of_text ∙ sym tokens.of_text) sound.is_cut tokens.is_cut in
    let whole : IsWhole (kinds_of tokens.cut) = subst (λ (c : CutText). IsWhole (kinds_of c)) cuts sound.whole in
    true≢false (ap is_whole (one_verdict (kinds_of tokens.cut) Whole (Faulty tokens.fault_is.kind tokens.fault_is.left) whole tokens.fault_is.verdict)))
    faulty

-- the text of a file that has a tree
pub parsed_sound : (path text : List ℕ) (f : SourceFile) → IsParsed path text f → IsParsable text
parsed_sound path text f parsed = record { cut = f.cut; of_text = parsed.of_text; is_cut = parsed.is_file.is_cut; whole = parsed.is_file.whole }

pub file_or_fault : (path text : List ℕ) (f : SourceFile) (fault : TextFault) → IsParsed path text f → IsFaultOf text fault → ⊥
file_or_fault path text f fault parsed faulty = sound_or_fault text fault (parsed_sound path text f parsed) faulty
