-- A verdict that stands is kept, and one that comes stands at the number of its package.
use Rattle.std.proofs.Common.{◌≡◌, ◌<◌, length, get_or, [], ap, sym, ◌∙◌, arith}
use Rattle.std.specs.Prelude.{Some, slice_get}
use Rattle.std.proofs.lemmas.Bool.{false≢true}
use Rattle.std.proofs.lemmas.List.{length-set}
use Rattle.std.proofs.lemmas.Option.{slice_get-get_or}
use Rattle.base_files.specs.Packages.{package_paths}
use Rattle.workspace_check.proofs.Telling.{known_set}
use Rattle.build_carry.proofs.TakenVerdicts.{stands_there, stands_still}
use Rattle.build_carry.proofs.learning.take_kept.Goals as goal

pub kept_verdict-requires : goal.kept_verdict-requires
kept_verdict-requires c = record {
  number = c.requires.number;
  known = c.requires.from.right;
  before_marks = c.requires.from.before;
  after_marks = c.requires.from.after;
}

pub returns-then-knows-clause-kept : goal.returns-then-knows-clause-kept
returns-then-knows-clause-kept c = λ n one has. has

pub returns-then-knows-clause-learned : goal.returns-then-knows-clause-learned
returns-then-knows-clause-learned c = λ p at has. c.knows.ensures.0 c.if-knows.true

pub returns-in-None-clause-kept : goal.returns-in-None-clause-kept
returns-in-None-clause-kept c = λ n one has. has

pub returns-in-None-clause-learned : goal.returns-in-None-clause-learned
returns-in-None-clause-learned c = λ p at has. absurd (c.in_ok-kept.ensures.kept p at c.in-None.is has)

pub set-requires : goal.set-requires
set-requires c = omega (arith, c.requires.number, c.requires.room)

pub returns-in-Some-clause-room : goal.returns-in-Some-clause-room
returns-in-Some-clause-room c =
    let size = ap length c.set.ensures ∙ length-set c.args.known.now.verdicts.items c.args.number (Some c.in-Some.verdict) in
    omega (arith, c.requires.room, size)

pub returns-in-Some-clause-right : goal.returns-in-Some-clause-right
returns-in-Some-clause-right c =
    let w = c.args.files.now in
    let n = c.args.number in
    let p = get_or (package_paths w) n [] in
    let at : slice_get (package_paths w) n ≡ Some p = slice_get-get_or (package_paths w) n [] c.requires.number in
    known_set w c.args.known.now c.set.new.self n p c.in-Some.verdict at c.set.ensures (c.in_ok-kept.ensures.right p at c.in-Some.verdict c.in-Some.is)
    c.requires.known

pub returns-in-Some-clause-kept : goal.returns-in-Some-clause-kept
returns-in-Some-clause-kept c =
    let within : c.args.number < length c.args.known.now.verdicts.items = omega (arith, c.requires.number, c.requires.room) in
    stands_still c.args.known.now c.set.new.self c.args.number c.in-Some.verdict within c.set.ensures
    (λ two has. false≢true (sym c.if-knows.false ∙ c.knows.ensures.1 (two, has)))

pub returns-in-Some-clause-learned : goal.returns-in-Some-clause-learned
returns-in-Some-clause-learned c =
    let within : c.args.number < length c.args.known.now.verdicts.items = omega (arith, c.requires.number, c.requires.room) in
    λ p at has. stands_there c.args.known.now c.set.new.self c.args.number c.in-Some.verdict within c.set.ensures
