-- The answer to the goal of `==` at texts: two tests of the same fact have the same result.
use Rattle.std.proofs.Common.{◌≡◌, ◌↔◌, IsTrue, refl}
use Rattle.std.proofs.lemmas.Bool.Decides.{Decides-eqb, same_from_decides}
use Rattle.std.proofs.lemmas.Slice.Eq.{slice_eq-Decides}
use Rattle.base_files.proofs.file_text.FileTextPartialEq.eq.Goals as goal

pub returns : goal.returns
returns c =
    let tests : IsTrue c.same_bytes.result ↔ (c.args.self.now ≡ c.args.other.now) = rw (c.bytes.ensures, c.bytes-2.ensures) at c.same_bytes.ensures in
    same_from_decides c.same_bytes.result _ tests (slice_eq-Decides Decides-eqb c.args.self.now c.args.other.now _ refl)
