-- The answers to the goals of `strings::string`.
use Rattle.std.proofs.Common.{arith, inl}
use Rattle.go_scanner.proofs.StringLemmas.{bad_at_end, bad_escape, bad_other}
use Rattle.go_scanner.proofs.FrontLemmas.{string_stands}
use Rattle.go_scanner.proofs.strings.string.Goals as goal

pub returns-then-byte-eq34 : goal.returns-then-byte-eq34
returns-then-byte-eq34 c = string_stands c.args.bytes.now c.parts_end-end.result c.requires.some c.requires.first c.parts_end-end.ensures
    (omega (arith, c.parts_end-end.ensures.fits)) c.if-byte-eq34.true

pub returns-then-end-bytes : goal.returns-then-end-bytes
returns-then-end-bytes c = inl (bad_at_end c.args.bytes.now c.parts_end-end.result c.parts_end-end.ensures c.if-end-bytes.true)

pub returns-then-byte-eq92 : goal.returns-then-byte-eq92
returns-then-byte-eq92 c = inl (bad_escape c.args.bytes.now c.parts_end-end.result c.parts_end-end.ensures c.if-byte-eq92.true)

pub returns-else-byte-eq92 : goal.returns-else-byte-eq92
returns-else-byte-eq92 c = inl (bad_other c.args.bytes.now c.parts_end-end.result c.parts_end-end.ensures c.if-byte-eq34.false c.if-byte-eq92.false)
