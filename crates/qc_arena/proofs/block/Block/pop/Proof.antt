-- `pop` reads the last cell, and its place is room again. Assumes `Logic`.
use Rattle.std.proofs.Common.{◌≡◌, ℕ, suc, ◌+◌, ◌*◌, ◌^◌, ◌<◌, List, [], ◌∷◌, ◌++◌, length, refl, sym, ap, ◌∙◌, arith, w64, None, get_or, take, length-take-le}
use Rattle.qc_arena.proofs.Rows.{all_but_last}
use Rattle.std.specs.Mem.{type_size}
use mir.Syntax.{Fn}
use mir.Val.{Val, vptr, vint}
use base.Fraction.{full_share}
use base.Logic.{SProp, emp, never, id⊢}
use base.Fml.{Lft, Share, ftrue, flft, fat, froom}
use prog.Wp.{Env, WpFn}
use contract.Monad.{fact, fact_i}
use contract.Running.{tables}
use types.Kit.{‵, raw, ◌⊛◌, some, pick, prop, at_ret, ◌$◌, ◌∵◌, !, qed, by, move, keep, drop, use0, use1, use2, split, join, rewrite, regoal, fsplit, fsplit3, fjoin, fjoin3, feq_i, feq_l, flt_i, flt_l}
use types.Part.{whole, sub, look_in}
use types.Run.{load, stop, fld, lit, bin, of_opd, look, well_typed, first, blocks, exec, returns, enter}
use types.ByLocal.{alloc_all, pass_all, free_all, look_at, get, through, sets, sets_last, env}
use denote.Builtin.{usize}
use denote.Exit.{yes}
use denote.Laws.{shows}
use denote.Memory.{cell_at, lone, part_at}
use denote.RattleType.{owns}
use denote.RawPtr.{Ptr, in_a_block}
use denote.Signature.{plain, types_at}
use denote.Steps.{nothing, heard, opens, closes, peeks}
use denote.Triple.Walked.{Stays, stay_dropped, stay_ref, walk_of, Goes-dropped, Goes-ref}
use borrow.Table.OneValue.{part_out}
use Rattle.std.proofs.VecSteps.Shapes.{after}
use Rattle.std.proofs.raw_atomic.Walks.{proved_at, leaves}
use Rattle.qc_arena.specs.Memory.{row_owns, room_owns, block_owns}
use Rattle.qc_arena.specs.declared.block.Cell.{Cell}
use Rattle.qc_arena.specs.contracts.block.Block as B
use Rattle.qc_arena.specs.contracts.block.Cell.{the_row as R}
use Rattle.qc_arena.specs.contracts.block.Block.pop as f
use Rattle.qc_arena.specs.contracts.block.Block.pop.Key.{name as #self}
use Rattle.qc_arena.proofs.Rows.{row_less}
use Rattle.qc_arena.proofs.block.Block.TheLaws.{lowers as block_lowers}
use Rattle.qc_arena.proofs.block.Block.pop.Statement.{statement}
use Rattle.qc_arena.proofs.block.Block.pop.Code as code

abbrev stayed : Stays f.ended.signature.params f.ended.kept
stayed = (stay_ref (0 ∷ []) tt (plain (λ _. B.the_row)), (stay_dropped (plain (λ _. usize)) yes, tt))

pub pop_spec : {M : Type 1} → statement M
pop_spec 𝓤 𝓛 𝓜 𝓡 wired =
    let H = 𝓛.H in
    let c = f.clauses 𝓛 𝓜.mem 𝓡.returns in
    let fn : Fn = code.function in
    let C = (tables 𝓤 H 𝓜 𝓡 𝓡.env).C in
    let Λ = (tables 𝓤 H 𝓜 𝓡 𝓡.env).Λ in
    proved_at 𝓛 f.ended stayed c 𝓜 𝓡 (
      Goes-ref 𝓛 1 0 tt (plain (λ _. B.the_row)),
      (Goes-dropped 𝓛 1 (plain (λ _. usize)) yes (λ κs x g. refl), tt),
    )
    #self fn (code.unfolded 𝓤 H 𝓜 𝓡 wired) (λ z are.
    let Post : Val → SProp 𝓤 = (walk_of 𝓛 f.ended stayed c).post z in
    let κ : Lft = z.0.0.0 in
    let q : Share = z.0.1.0 in
    let a = z.0.3 in
    let vss = z.0.4 in
    let d = a.0.now in
    let rb = a.0.ref_ptr.0 in
    let ro = a.0.ref_ptr.1 in
    let n : ℕ = a.1.0 in
    let s : ℕ = type_size R in
    let blank : Cell = record { from = 0; to = 0; number = 0; len = 0; older_out = None; older_in = None } in
    let x : Cell = get_or d.cells n blank in
    let before : List Cell = take n d.cells in
    qed 𝓛 (((‵ (flft κ q) ⊛ ‵ ftrue) ⊛ ‵ (owns (types_at f.ended.signature.params z.0.0) a vss)) ∷ raw (fact 𝓤 (n + 1 ≡ length d.cells)) ∷ []) ∵
    move ! (1 ∷ []) $
    heard ! _ (λ asked. split ! $ split ! $ move ! (2 ∷ []) $ fsplit ! $ fsplit3 ! $ feq_l ! (λ passed.
    let cut : d.cells ≡ before ++ x ∷ [] = all_but_last d.cells n blank asked in
    let long : length before ≡ n = length-take-le n d.cells (omega (arith, asked)) in
    -- [obs; bor; the number; the token; no more tokens]
    move ! (2 ∷ []) $ drop ! $ keep ! (0 ∷ 1 ∷ 2 ∷ []) $
    regoal ! (λ (us : List Val). prop (WpFn 𝓤 H C Λ fn us Post)) (λ i. passed i ++ (are.1.0.0 i ++ [])) refl $
    enter ! C Λ fn (vptr rb ro ∷ vint w64 n ∷ []) Post $
    alloc_all ! (λ l. pass_all ! refl ((tt, tt), ((tt, record { fits = are.1.0.1 }), tt)) $ let En : Env 𝓤 H = env fn.locals l in
    opens ! tt B.the_row rb ro (λ us.
    move ! (1 ∷ []) $ peeks ! B.the_row _ (shows 𝓛 B.the_row) d us (λ is. fsplit ! $ move ! (1 ∷ []) $
    in_a_block ! d.at (λ p. block_owns R p d.cells d.spare) (id⊢ 𝓤 (never 𝓤)) (λ b o at.
    let struct_word = block_lowers.val_is d us is ∙ ap (λ (p : Ptr). block_lowers.lowered (record d { at = p }) ∷ []) at in
    rewrite ! 2 (λ (ws : List Val). ‵ (cell_at full_share B.the_row.mir ws rb ro)) struct_word refl $
    fsplit ! $ move ! (1 ∷ []) $ fsplit ! $ flt_l ! (λ small.
    let off : ℕ = n * s + o in
    let up : suc d.spare ≡ d.spare + 1 = omega arith in
    let far : n * s < 2 ^ 64 = omega (arith, asked, small) in
    let new : B.the_row.Denot = record { at = d.at; cells = before; spare = d.spare + 1 } in
    -- [the room; the cells; self's fields; self; ..]
    move ! (1 ∷ []) $ rewrite ! 0 (λ (xs : List Cell). ‵ (row_owns R b o xs)) cut refl $
    use1 𝓛 (‵ (part_at R full_share x b (length before * s + o)) ⊛ ‵ (row_owns R b o before)) (row_less R 𝓛 b x o before) $
    split ! $
    rewrite ! 0 (λ (i : ℕ). ‵ (part_at R full_share x b (i * s + o))) long refl $
    use1 𝓛 (some (λ (v : Val). ‵ (fat full_share (lone R.mir) b off v) ⊛ ‵ (R.own_val x (v ∷ [])))) (part_out 𝓛 R refl full_share x b off) $
    pick ! (λ v. split ! $ well_typed ! (λ good.
    -- [the last cell; its own; the cells before; the room; self's fields; self; ..]
    first ! $ blocks ! $
    sets ! (of_opd ! (load ! (through ! refl (fld ! refl (stop !))) (look_in ! 5 (sub ! 0 refl (whole !))))) refl (tt, tt) $
    sets ! (bin ! (get ! refl) (lit ! tt) (record { fits = far })) refl (tt, record { fits = far }) $
    sets ! (bin ! (get ! refl) (get ! refl) tt) refl (tt, tt) $
    sets_last ! (of_opd ! (load ! (through ! refl (stop !)) (look ! 0 refl))) refl good $
    exec ! C Λ En (after 1 fn.body) (at_ret En Post) $ sets ! (of_opd ! (get ! refl)) refl good $
    use1 𝓛 (‵ (froom (lone R.mir) b off)) (𝓛.laws.at_room (lone R.mir) b off v) $
    move ! (0 ∷ 3 ∷ []) $
    rewrite ! 1 (λ (i : ℕ). ‵ (room_owns R b i d.spare)) {x = off + s} (omega (arith, asked)) refl $
    use2 𝓛 (‵ (room_owns R b off (suc d.spare))) (𝓛.laws.room_cons (lone R.mir) d.spare b off) $
    rewrite ! 0 (λ (w : ℕ × ℕ). ‵ (room_owns R b (w.0 * s + o) w.1)) {x = (length before, d.spare + 1)} (λ i. (sym long i, up i)) refl $
    flt_i ! ((length before + (d.spare + 1)) * s) (2 ^ 63) (omega (arith, small, long, asked)) $ fjoin ! $
    -- [the room; the cell's own; the cells before; self's fields; self; ..]
    move ! (2 ∷ 0 ∷ []) $ fjoin ! $ rewrite ! 0 (λ (p : Ptr). ‵ (block_owns R p before (d.spare + 1))) (sym at) refl $
    rewrite ! 3 (λ (ws : List Val). ‵ (cell_at full_share B.the_row.mir ws rb ro)) (sym struct_word) refl $
    move ! (2 ∷ 0 ∷ []) $ fjoin ! $ move ! (2 ∷ 0 ∷ 3 ∷ 4 ∷ 5 ∷ []) $ closes ! tt B.the_row new us rb ro $
    -- [two parts of self; the token; the cell's own]
    returns ! (look_at ! 0 refl) $ free_all ! refl $ keep ! (0 ∷ 1 ∷ 2 ∷ 3 ∷ []) $
    feq_i ! (List Val) vss.0 (vptr rb ro ∷ []) passed $ fjoin3 ! $ nothing ! $ nothing ! $ fjoin ! $
    move ! (1 ∷ 0 ∷ []) $ fjoin ! $
    use0 𝓛 (raw (fact 𝓤 ((d.cells ≡ before ++ x ∷ []) × (d.spare + 1 ≡ d.spare + 1) × (d.at ≡ d.at)))) (fact_i 𝓤 _ (emp 𝓤) (cut, refl, refl)) $
    nothing ! $ move ! (3 ∷ 0 ∷ []) $ join ! $ move ! (0 ∷ 2 ∷ 3 ∷ 1 ∷ []) $
    by ! (leaves 𝓛 f.ended stayed c z v x (new, (tt, tt)) (tt, (tt, tt)))))))))))))
