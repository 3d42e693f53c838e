-- Texts that are written part by part.
use Rattle.std.proofs.Common.{◌++◌, ℕ, List, Option, Result, Ok, Err, ◌∙◌, sym, ap, append_assoc}
use Rattle.std.specs.Io.KnownBytes.{Appends}
use Rattle.std.proofs.KnownBytes.{Appends-trans}
use Rattle.server_read.specs.Failures.{WritesText, WritesPart}

-- a text is written whole, and a text after it whole or in part
pub then_text : {T E : Type 0} (a b c : Option (List ℕ)) (text more : List ℕ) (r : Result T E) → Appends a b text → WritesText b c more r →
    WritesText a c (text ++ more) r
then_text a b c text more (Ok x) p q = Appends-trans a b c text more p q
then_text a b c text more (Err e) p q = record {
  written = text ++ q.written;
  unwritten = q.unwritten;
  whole = ap (λ l. text ++ l) q.whole ∙ sym (append_assoc text q.written q.unwritten);
  appended = Appends-trans a b c text q.written p q.appended;
}

-- a text is written in part, and nothing after it
pub part_of : (a b : Option (List ℕ)) (text more : List ℕ) → WritesPart a b text → WritesPart a b (text ++ more)
part_of a b text more p = record {
  written = p.written;
  unwritten = p.unwritten ++ more;
  whole = ap (λ l. l ++ more) p.whole ∙ append_assoc p.written p.unwritten more;
  appended = p.appended;
}
