-- `pieces_of` makes the empty struct, with the pieces that its premise names. Assumes `Logic`.
-- Many of its lines are those of `and`: a walk speaks of the code, the clauses and the signature of its own function, which no
-- lemma could name for both.
use Rattle.std.proofs.Common.{List, [], ◌∷◌, ◌++◌, refl}
use Rattle.std.proofs.raw_atomic.Walks.{proved_at}
use seplogic.Ra.Ura.{Ura}
use mir.Val.{Val, vptr}
use base.Logic.{SProp, ent}
use prog.Memory.{Memory}
use prog.Routine.{Routine}
use prog.Wp.{Calls, Loops, WpFn}
use contract.Monad.{Fun, fact}
use types.Logic.{Logic}
use types.Kit.{‵, raw, ◌⊛◌, prop, ◌$◌, ◌∵◌, !, qed, move, drop, split, fsplit, fjoin, feq_l, regoal, suffices, done}
use types.Part.{agg}
use types.Run.{enter, returns, and_then, no_more}
use types.ByLocal.{alloc_all, pass_all, free_all, look_at, get, sets}
use denote.Exit.{yes}
use denote.RattleType.{RattleType, owns}
use denote.Builtin.{RefOf}
use denote.Laws.{Is}
use denote.Signature.{plain, types_at}
use denote.Steps.{nothing, owned, heard}
use denote.Struct.Laws.{makes}
use denote.Triple.Clauses.{Clauses}
use denote.Triple.Entry.{alive}
use denote.Triple.Walked.{says, Stays, stay_dropped, walk_of, ends_at, Goes-dropped}
use Rattle.base_files.specs.contracts.file_text.FileText as Text
use Rattle.std.specs.contracts.alloc.Global as Global
use Rattle.std.specs.contracts.impls.GlobalAllocator.TheImpl as Allocator
use Rattle.std.specs.contracts.marker.PhantomData as Mark
use Rattle.std.specs.contracts.vec.Vec as Vec
use Rattle.go_scanner.proofs.Walks.{none, one, one_made}
use Rattle.go_scanner.specs.CutText.{HasTokens}
use Rattle.go_scanner.specs.contracts.compact_piece.CompactPiece as Compact
use Rattle.go_scanner.specs.contracts.piece.Piece as Piece
use Rattle.go_scanner.specs.contracts.trail.Trail as Trail
use Rattle.go_scanner.specs.contracts.trail.pieces_of as F
use Rattle.go_scanner.proofs.trail.pieces_of.Statement.{statement}
use Rattle.go_scanner.proofs.trail.pieces_of.Code as code

abbrev tokens : RattleType
tokens = Vec.the_row Compact.the_row Global.the_row Allocator.ghosts

abbrev stayed : Stays F.ended.signature.params F.ended.kept
stayed = (
  stay_dropped (RefOf (0 ∷ []) tt (plain (λ _. Text.the_row)) (λ _. tt)) yes,
  (stay_dropped (RefOf (1 ∷ []) tt (plain (λ _. tokens)) (λ _. tt)) yes, tt),
)

module _ {M : Type 1} {𝓤 : Ura M} (𝓛 : Logic 𝓤) (at_mem : Memory → SProp 𝓤) (run : Routine → Fun 𝓤) where
  open 𝓛 use {H}

  abbrev held : Clauses 𝓤 F.ended
  held = F.clauses 𝓛 at_mem run

  module _ (C : Calls 𝓤 H) (Λ : Loops 𝓤 H) (z : (walk_of 𝓛 F.ended stayed held).Ghost) where
    abbrev Post : Val → SProp 𝓤
    Post = (walk_of 𝓛 F.ended stayed held).post z

    abbrev toks : SProp 𝓤
    toks = alive 𝓛 F.ended.signature z.0.0 z.0.1

    walks : ent 𝓤 ((walk_of 𝓛 F.ended stayed held).pre z) (WpFn 𝓤 H C Λ code.function ((walk_of 𝓛 F.ended stayed held).args z) Post)
    walks =
        let a = z.0.3 in
        let vss = z.0.4 in
        qed 𝓛 ((raw toks ⊛ ‵ (owns (types_at F.ended.signature.params z.0.0) a vss)) ∷ raw (fact 𝓤 (HasTokens a.0.now a.1.0.now.items)) ∷ []) ∵
        move ! (1 ∷ 0 ∷ []) $ heard ! _ (λ has.
        let made : (Trail.the_row Piece.the_row).Denot = record { of = record {}; items = has.pieces } in
        split ! $ move ! (1 ∷ []) $
        fsplit ! $ fsplit ! $ feq_l ! (λ is₀. drop ! $ fsplit ! $ fsplit ! $ feq_l ! (λ is₁. drop ! $ drop ! $
        let p = vptr a.0.ref_ptr.0 a.0.ref_ptr.1 in
        let q = vptr a.1.0.ref_ptr.0 a.1.0.ref_ptr.1 in
        regoal ! (λ (us : List Val). prop (WpFn 𝓤 H C Λ code.function (us ++ (vss.1.0 ++ [])) Post)) is₀ refl $
        regoal ! (λ (us : List Val). prop (WpFn 𝓤 H C Λ code.function ((p ∷ []) ++ (us ++ [])) Post)) is₁ refl $
        enter ! C Λ code.function (p ∷ q ∷ []) Post $ alloc_all ! (λ l. pass_all ! refl ((tt, tt), ((tt, tt), tt)) $
        sets ! (agg ! (no_more !)) refl (tt, tt) $
        sets ! (agg ! (and_then ! (get ! refl) (no_more !))) refl (tt, (tt, tt)) $
        nothing ! $ owned ! (Mark.the_row Piece.the_row) (Is (Mark.the_row Piece.the_row)) (makes (Mark.the_type Piece.the_row) tt 𝓛) (record {}) (none ∷ [])
        (tt, (refl, tt)) $
        one_made ! (Mark.the_row Piece.the_row) (record {}) none $ fjoin ! $
        returns ! (look_at ! 0 refl) $ free_all ! refl $
        suffices ! _ (ends_at 𝓛 F.ended stayed held z (one none) made (tt, (tt, tt)) (tt, (tt, tt))) $ says ! has.is $
        nothing ! $ nothing ! $ fjoin ! $ nothing ! $ fjoin ! $ move ! (2 ∷ 0 ∷ 1 ∷ []) $ done !))))

pub pieces_of_spec : {M : Type 1} → statement M
pieces_of_spec 𝓤 𝓛 𝓜 𝓡 wired =
    proved_at 𝓛 F.ended stayed (F.clauses 𝓛 𝓜.mem 𝓡.returns) 𝓜 𝓡 (
      Goes-dropped 𝓛 2 (RefOf (0 ∷ []) tt (plain (λ _. Text.the_row)) (λ _. tt)) yes (λ κs x f. refl),
      (Goes-dropped 𝓛 2 (RefOf (1 ∷ []) tt (plain (λ _. tokens)) (λ _. tt)) yes (λ κs x f. refl), tt),
    )
    F.Key.name code.function (code.unfolded 𝓤 𝓛.H 𝓜 𝓡 wired) (λ y are. walks 𝓛 𝓜.mem 𝓡.returns _ _ y)
