-- `push` writes into the first place of the room. Assumes `Logic`.
use Rattle.std.proofs.Common.{◌≡◌, ℕ, suc, ◌+◌, ◌-◌, ◌*◌, ◌^◌, ◌<◌, List, [], ◌∷◌, ◌++◌, length, refl, sym, ap, subst, ◌∙◌, arith, w64, length-append}
use Rattle.std.specs.Mem.{type_size}
use mir.Syntax.{Fn}
use mir.Val.{Val, vptr, vint, vstruct, vcons, vnil}
use base.Fraction.{full_share}
use base.Logic.{SProp, emp, never, id⊢}
use base.Fml.{Lft, Share, ftrue, flft, froom}
use prog.Wp.{Env, WpFn}
use contract.Monad.{fact, fact_i}
use contract.Running.{tables}
use types.Kit.{‵, raw, ◌⊛◌, prop, at_ret, ◌$◌, ◌∵◌, !, qed, by, move, keep, drop, use0, use1, use2, split, join, rewrite, regoal, fsplit, fsplit3, fjoin, fjoin3, feq_i, feq_l, flt_i, flt_l}
use types.Part.{whole, sub, look_in, agg}
use types.Run.{init, load, stop, fld, lit, bin, of_opd, assigns, no_more, and_then, first, blocks, exec, returns, enter}
use types.ByLocal.{alloc_all, pass_all, free_all, look_at, get, through, sets, sets_last, env}
use denote.Builtin.{usize}
use denote.Exit.{yes}
use denote.Laws.{Is, shows}
use denote.Memory.{cell_at, lone, part_at}
use denote.RattleType.{owns}
use denote.RawPtr.{Ptr, ptr_val, in_a_block}
use denote.Struct.Laws.{makes}
use denote.Signature.{plain, types_at}
use denote.Steps.{nothing, heard, owned, opens, closes, peeks}
use denote.Triple.Walked.{Stays, stay_dropped, stay_ref, walk_of, Goes-dropped, Goes-ref}
use borrow.Table.OneValue.{part_in}
use Rattle.std.proofs.VecSteps.Shapes.{after}
use Rattle.std.proofs.raw_atomic.Walks.{proved_at, leaves}
use Rattle.qc_arena.specs.Memory.{place_of, row_owns, room_owns, block_owns}
use Rattle.qc_arena.specs.declared.block.Cell.{Cell}
use Rattle.qc_arena.specs.contracts.block.Block as B
use Rattle.qc_arena.specs.contracts.block.Link as L
use Rattle.qc_arena.specs.contracts.block.Cell.{the_row as R}
use Rattle.qc_arena.specs.contracts.block.Block.push as f
use Rattle.qc_arena.specs.contracts.block.Block.push.Key.{name as #self}
use Rattle.qc_arena.proofs.Rows.{row_more}
use Rattle.qc_arena.proofs.block.Block.TheLaws.{lowers as block_lowers}
use Rattle.qc_arena.proofs.block.Link.TheLaws.{the_plain}
use Rattle.qc_arena.proofs.block.Cell.TheLaws.{the_row_laws, lowers as cell_lowers}
use Rattle.qc_arena.proofs.block.Block.push.Statement.{statement}
use Rattle.qc_arena.proofs.block.Block.push.Code as code

abbrev stayed : Stays f.ended.signature.params f.ended.kept
stayed = (stay_ref (0 ∷ []) tt (plain (λ _. B.the_row)), (stay_dropped (plain (λ _. usize)) yes, (stay_dropped (plain (λ _. R)) yes, tt)))

pub push_spec : {M : Type 1} → statement M
push_spec 𝓤 𝓛 𝓜 𝓡 wired =
    let H = 𝓛.H in
    let c = f.clauses 𝓛 𝓜.mem 𝓡.returns in
    let fn : Fn = code.function in
    let C = (tables 𝓤 H 𝓜 𝓡 𝓡.env).C in
    let Λ = (tables 𝓤 H 𝓜 𝓡 𝓡.env).Λ in
    proved_at 𝓛 f.ended stayed c 𝓜 𝓡 (
      Goes-ref 𝓛 1 0 tt (plain (λ _. B.the_row)),
      (
        Goes-dropped 𝓛 1 (plain (λ _. usize)) yes (λ κs x g. refl),
        (Goes-dropped 𝓛 1 (plain (λ _. R)) yes (λ κs x g. refl), tt),
      ),
    )
    #self fn (code.unfolded 𝓤 H 𝓜 𝓡 wired) (λ z are.
    let Post : Val → SProp 𝓤 = (walk_of 𝓛 f.ended stayed c).post z in
    let κ : Lft = z.0.0.0 in
    let q : Share = z.0.1.0 in
    let a = z.0.3 in
    let vss = z.0.4 in
    let d = a.0.now in
    let rb = a.0.ref_ptr.0 in
    let ro = a.0.ref_ptr.1 in
    let n : ℕ = a.1.0 in
    let x : Cell = a.1.1.0 in
    let s : ℕ = type_size R in
    qed 𝓛 (((‵ (flft κ q) ⊛ ‵ ftrue) ⊛ ‵ (owns (types_at f.ended.signature.params z.0.0) a vss)) ∷ raw (fact 𝓤 ((n ≡ length d.cells) × (0 < d.spare))) ∷ []) ∵
    move ! (1 ∷ []) $
    heard ! _ (λ asked. split ! $ split ! $ move ! (2 ∷ []) $ fsplit ! $ fsplit3 ! $ feq_l ! (λ passed.
    -- [obs; bor; the number and the cell; the token; no more tokens]
    move ! (2 ∷ []) $ fsplit ! $ drop ! $ fsplit ! $
    move ! (2 ∷ 3 ∷ 4 ∷ 0 ∷ []) $
    let v : Val = cell_lowers.lowered x in
    let word : vss.1.1.0 ≡ v ∷ [] = cell_lowers.val_is x vss.1.1.0 are.1.1.0 in
    let good = (((the_row_laws.lawful 𝓛).typed x (v ∷ []) (subst (Is R x) word are.1.1.0)).0) in
    rewrite ! 3 (λ (us : List Val). ‵ (R.own_val x us)) word refl $
    regoal ! (λ (us : List Val). prop (WpFn 𝓤 H C Λ fn us Post)) (λ i. passed i ++ (are.1.0.0 i ++ (word i ++ []))) refl $
    enter ! C Λ fn (vptr rb ro ∷ vint w64 n ∷ v ∷ []) Post $
    alloc_all ! (λ l. pass_all ! refl ((tt, tt), ((tt, record { fits = are.1.0.1 }), (good, tt))) $ let En : Env 𝓤 H = env fn.locals l in
    opens ! tt B.the_row rb ro (λ us.
    move ! (1 ∷ []) $ peeks ! B.the_row _ (shows 𝓛 B.the_row) d us (λ is. fsplit ! $ move ! (1 ∷ []) $
    in_a_block ! d.at (λ p. block_owns R p d.cells d.spare) (id⊢ 𝓤 (never 𝓤)) (λ b o at.
    let struct_word = block_lowers.val_is d us is ∙ ap (λ (p : Ptr). block_lowers.lowered (record d { at = p }) ∷ []) at in
    rewrite ! 2 (λ (ws : List Val). ‵ (cell_at full_share B.the_row.mir ws rb ro)) struct_word refl $
    fsplit ! $ move ! (1 ∷ []) $ fsplit ! $ flt_l ! (λ small.
    let m : ℕ = d.spare - 1 in
    let one_more : d.spare ≡ suc m = omega (arith, asked.1) in
    let off : ℕ = n * s + o in
    let far : n * s < 2 ^ 64 = omega (arith, asked.0, small, asked.1) in
    let new : B.the_row.Denot = record { at = d.at; cells = d.cells ++ x ∷ []; spare = m } in
    rewrite ! 0 (λ (w : ℕ × ℕ). ‵ (room_owns R b (w.0 * s + o) w.1)) {x = (n, suc m)} (λ i. (sym asked.0 i, one_more i)) refl $
    use1 𝓛 (‵ (froom (lone R.mir) b off) ⊛ ‵ (room_owns R b (off + s) m)) (𝓛.laws.room_uncons (lone R.mir) m b off) $
    split ! $
    -- [the place; the room after it; the cells; self's fields; self; ..; the cell's own]
    first ! $ blocks ! $
    sets ! (of_opd ! (load ! (through ! refl (fld ! refl (stop !))) (look_in ! 4 (sub ! 0 refl (whole !))))) refl (tt, tt) $
    sets ! (bin ! (get ! refl) (lit ! tt) (record { fits = far })) refl (tt, record { fits = far }) $
    sets ! (bin ! (get ! refl) (get ! refl) tt) refl (tt, tt) $
    assigns ! (of_opd ! (get ! refl)) (through ! refl (stop !)) (init ! 0 refl good) $
    sets_last ! (agg ! (and_then ! (get ! refl) (no_more !))) refl (tt, (tt, tt)) $
    exec ! C Λ En (after 1 fn.body) (at_ret En Post) $ sets ! (of_opd ! (get ! refl)) refl (tt, (tt, tt)) $
    move ! (0 ∷ 8 ∷ []) $ use2 𝓛 (‵ (part_at R full_share x b off)) (part_in 𝓛 R refl full_share x b off v) $
    rewrite ! 0 (λ (i : ℕ). ‵ (part_at R full_share x b (i * s + o))) asked.0 refl $
    move ! (0 ∷ 2 ∷ []) $ use2 𝓛 (‵ (row_owns R b o new.cells)) (row_more R 𝓛 b x o d.cells) $
    -- [the cells; the room after them; self's fields; self; ..]
    move ! (1 ∷ []) $
    rewrite ! 0 (λ (i : ℕ). ‵ (room_owns R b i m)) {x = length new.cells * s + o} (omega (arith, asked.0, length-append d.cells (x ∷ []))) refl $
    flt_i ! ((length new.cells + m) * s) (2 ^ 63) (omega (arith, small, one_more, length-append d.cells (x ∷ []))) $
    fjoin ! $
    move ! (1 ∷ 0 ∷ []) $ fjoin ! $ rewrite ! 0 (λ (p : Ptr). ‵ (block_owns R p new.cells m)) (sym at) refl $
    rewrite ! 2 (λ (ws : List Val). ‵ (cell_at full_share B.the_row.mir ws rb ro)) (sym struct_word) refl $
    move ! (1 ∷ []) $ fjoin ! $ move ! (1 ∷ []) $ closes ! tt B.the_row new us rb ro $
    returns ! (look_at ! 0 refl) $ free_all ! refl $ keep ! (0 ∷ 1 ∷ 2 ∷ []) $
    -- [two parts of self; the token]
    let r : L.the_row.Denot = record { at = place_of R d.at n } in
    let w : Val = vstruct (vcons (vptr b off) vnil) in
    feq_i ! (List Val) vss.0 (vptr rb ro ∷ []) passed $ fjoin3 ! $ nothing ! $ nothing ! $ fjoin ! $ nothing ! $
    fjoin ! $ move ! (1 ∷ 0 ∷ []) $ fjoin ! $
    use0 𝓛 (raw (fact 𝓤 ((new.cells ≡ d.cells ++ x ∷ []) × (m + 1 ≡ d.spare) × (d.at ≡ d.at) × (r.at ≡ r.at)))) (fact_i 𝓤 _ (emp 𝓤) (refl, omega (arith, one_more), refl, refl)) $
    owned ! L.the_row (Is L.the_row) (makes L.the_type the_plain 𝓛) r (w ∷ []) ((vptr b off ∷ [], tt), (refl, (ap (λ (p : Ptr). ptr_val (place_of R p n) ∷ []) (sym at), tt))) $
    nothing ! $ move ! (4 ∷ 0 ∷ []) $ join ! $ move ! (0 ∷ 3 ∷ 1 ∷ 2 ∷ []) $
    by ! (leaves 𝓛 f.ended stayed c z w r (new, (tt, (tt, tt))) (tt, (tt, (tt, tt))))))))))))
