-- The answers to the goals of `named::name_identifiers`.
use Rattle.std.proofs.Common.{◌≡◌, ◌<◌, ◌∙◌, ap, arith, length, map, sym}
use Rattle.std.proofs.lemmas.List.{length-map}
use Rattle.go_scope.specs.IdentifierViews.{site_of}
use Rattle.go_scope.specs.Named.{name_given}
use Rattle.go_scope.proofs.NamedSites.{named_all, named_next, named_none, named_sized}
use Rattle.go_scope.proofs.named.name_identifiers.Goals as goal

pub loop-u-init : goal.loop-u-init
loop-u-init c = sym (named_none (name_given c.args.names.now) (map site_of c.args.identifiers.now.items))

pub name_numbered-requires : goal.name_numbered-requires
name_numbered-requires c =
    let xs = map site_of c.args.identifiers.now.items in
    let size : length c.loop-u.identifiers.items ≡ length c.args.identifiers.now.items =
    sym (length-map c.loop-u.identifiers.items site_of) ∙ ap length c.loop-u.invariant ∙ named_sized (name_given c.args.names.now) c.loop-u.u xs ∙
    length-map c.args.identifiers.now.items site_of in
    omega arith

pub loop-u-preserved : goal.loop-u-preserved
loop-u-preserved c =
    let xs = map site_of c.args.identifiers.now.items in
    let within : c.loop-u.u < length xs = rw length-map (omega arith) in
    named_next (name_given c.args.names.now) xs (map site_of c.loop-u.identifiers.items) (map site_of c.name_numbered.new.identifiers.items) c.loop-u.u _ within
    c.name_given.ensures c.name_numbered.ensures c.loop-u.invariant

pub returns : goal.returns
returns c =
    let xs = map site_of c.args.identifiers.now.items in
    c.loop-u.invariant ∙ named_all (name_given c.args.names.now) c.loop-u.u xs (rw length-map (omega arith))
