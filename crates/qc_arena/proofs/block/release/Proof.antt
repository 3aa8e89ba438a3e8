-- `release` makes room of the cells again, and gives the block back. Assumes `Logic`.
use Rattle.std.proofs.Common.{length, ◌≡◌, ℕ, ◌+◌, ◌*◌, ◌^◌, ◌<◌, List, [], ◌∷◌, ◌++◌, refl, sym, ap, ◌∙◌, arith, lit<, w64, subst, T}
use mir.Syntax.{Ty, Fn, Args, a_type, dcons, dnil, ty_array, ty_unit}
use mir.Val.{Val, vint, vptr, vunit, has_ty, WT}
use mir.MapTy.{inst_fn}
use base.Logic.{SProp, never, id⊢}
use base.Fml.{Lft, Share, ftrue, flft, froom}
use prog.Capped.{capped_is}
use prog.RawLaws.{size-raw, align-raw}
use prog.Memory.{capped}
use prog.Wp.{Env, WpFn}
use contract.BorrowLft.{◌⊑◌, ⊑_trans}
use contract.Monad.{fact}
use contract.Running.{tables}
use types.Kit.{flt_l, group, given, learn, feq_i, ‵, raw, ◌⊛◌, later, prop, at_ret, ◌$◌, ◌∵◌, !, qed, by, move, keep, drop, use1, use2, split, join, regoal, fsplit, fjoin, rewrite, await}
use types.Part.{whole, sub}
use types.Run.{stop, fld, lit, bin, unit_lit, of_opd, no_more, and_then, first, blocks, exec, returns, enter}
use types.ByLocal.{alloc_all, pass_all, free_all, look_at, get, get_in, sets, lands_last, env}
use denote.Memory.{lone}
use denote.RattleType.{RattleType, owns}
use denote.RawPtr.{Ptr, block_ptr, in_a_block}
use denote.Param.{param, bounded}
use denote.Builtin.{usize, RefOf}
use denote.Signature.{plain, types_at}
use denote.Steps.{nothing, heard}
use denote.Triple.Entry.{alive}
use denote.Triple.Call.{calls_at_last}
use denote.Triple.Walked.{Stays, stay_dropped, walk_of, Goes-dropped}
use Rattle.std.proofs.alloc.Calls.{Al, seen, Goes-blank, Gives, at_gives, Gives-goes, Gives-Gives}
use Rattle.std.proofs.VecSteps.Shapes.{after}
use denote.Triple.Table.{framed}
use Rattle.std.proofs.raw_atomic.Walks.{proved_at, leaves}
use Rattle.qc_arena.specs.Memory.{block_type, block_owns, room_owns}
use Rattle.qc_arena.specs.contracts.block.Block as B
use Rattle.qc_arena.specs.contracts.block.Lease as Le
use Rattle.qc_arena.specs.contracts.block.Cell.{the_row as R}
use Rattle.qc_arena.specs.contracts.block.release as f
use Rattle.qc_arena.specs.contracts.block.release.Key.{name as #self}
use Rattle.qc_arena.proofs.Rows.{all_room}
use Rattle.qc_arena.proofs.block.Block.TheLaws.{lowers as block_lowers}
use Rattle.qc_arena.proofs.Values.{block_val, lease_val, lease_told}
use Rattle.qc_arena.proofs.block.release.Statement.{statement}
use Rattle.qc_arena.proofs.block.release.Code as code

pub release_spec : {M : Type 1} → statement M
release_spec 𝓤 𝓛 𝓜 𝓡 wired A L g d dd met md =
    let H = 𝓛.H in
    let ended = f.ended A g d dd in
    let c = f.clauses A g d dd 𝓛 𝓜.mem 𝓡.returns in
    let args : Args = bounded (a_type ∷ []) (A, tt) (dcons d (dcons dd dnil)) in
    let fn : Fn = inst_fn args code.function in
    let Right : RattleType = Le.the_row (param 0 A) g in
    let stayed : Stays ended.signature.params ended.kept = (stay_dropped _ ended.kept.0, (stay_dropped _ ended.kept.1.0, (stay_dropped _ ended.kept.1.1.0, (stay_dropped _ ended.kept.1.1.1.0, tt)))) in
    let C = (tables 𝓤 H 𝓜 𝓡 𝓡.env).C in
    let Λ = (tables 𝓤 H 𝓜 𝓡 𝓡.env).Λ in
    proved_at 𝓛 ended stayed c 𝓜 𝓡 (
      Goes-blank 𝓛 2 (plain (λ _. B.the_row)) ended.kept.0 (λ κs x g. tt),
      (
        Goes-blank 𝓛 2 (plain (λ _. Right)) ended.kept.1.0 (λ κs x g. tt),
        (
          Goes-dropped 𝓛 2 (RefOf (0 ∷ []) tt (plain (λ _. param 0 A)) (λ _. tt)) ended.kept.1.1.0 (λ κs x g. refl),
          (Goes-dropped 𝓛 2 (plain (λ _. usize)) ended.kept.1.1.1.0 (λ κs x g. refl), tt),
        ),
      ),
    )
    (#self args) fn (code.unfolded 𝓤 H 𝓜 𝓡 wired (A, tt) d dd) (λ z are.
    let Post : Val → SProp 𝓤 = (walk_of 𝓛 ended stayed c).post z in
    let κ : Lft = z.0.0.0 in
    let q : Share = z.0.1.0 in
    let a = z.0.3 in
    let vss = z.0.4 in
    let Y : Al = record { row = A; laws = L; g = g; d = d; drops = dd } in
    let x = a.0 in
    let k = a.1.0 in
    let h = a.1.1.0.now in
    let handle = a.1.1.0.ref_ptr in
    let n : ℕ = a.1.1.1.0 in
    let bytes : ℕ = n * 48 in
    let τ : Ty = block_type R n in
    qed 𝓛 ((raw (alive 𝓛 ended.signature z.0.0 z.0.1) ⊛ ‵ (owns (types_at ended.signature.params z.0.0) a vss)) ∷ (raw (fact 𝓤 (z.0.0.1.0 ⊑ A.lives)) ⊛ raw (fact 𝓤 ((length x.cells + x.spare ≡ n) × (k.at ≡ x.at) × (k.cap ≡ n) × (k.alloc ≡ h)))) ∷ []) ∵
    move ! (1 ∷ []) $ split ! $ heard ! _ (λ lives. heard ! _ (λ asked. split ! $ move ! (1 ∷ []) $
    fsplit ! $ fsplit ! $ drop ! $
    in_a_block ! x.at (λ p. block_owns R p x.cells x.spare) (id⊢ 𝓤 (never 𝓤)) (λ b o at.
    -- [the block; the other parameters; the tokens]
    move ! (1 ∷ []) $ fsplit ! $ fsplit ! $ drop ! $
    rewrite ! 0 (λ (u : A.Denot × ℕ × Ptr). ‵ (g.dealloc_token u.0 (block_type R u.1) u.2)) (λ i. (asked.3 i, asked.2 i, (asked.1 ∙ at) i)) refl $
    -- [the right to free it; the other parameters; the block; the tokens]
    move ! (1 ∷ []) $ fsplit ! $ fsplit ! $ drop ! $ use1 𝓛 (‵ (seen Y κ handle h)) (id⊢ 𝓤 _) $
    -- [the handle; the number; the right; the block; the tokens]
    move ! (4 ∷ []) $ use1 𝓛 (‵ (flft κ q) ⊛ ‵ (flft z.0.0.1.0 z.0.1.1.0) ⊛ ‵ ftrue) (id⊢ 𝓤 _) $ split ! $
    -- [the token; the other tokens; the handle; the number; the right; the block]
    move ! (5 ∷ []) $ fsplit ! $ move ! (1 ∷ []) $ fsplit ! $ flt_l ! (λ small.
    let fits : bytes < 2 ^ 64 = omega (arith, small, asked.0) in
    let y = at_gives Y 𝓛 𝓜.mem 𝓡.returns κ q handle h b o bytes 8 τ in
    let word : vss.0 ≡ block_val (block_ptr b o) ∷ [] = block_lowers.val_is x vss.0 are.0 ∙ ap (λ (p : Ptr). block_val p ∷ []) at in
    move ! (1 ∷ 0 ∷ []) $
    use2 𝓛 (‵ (room_owns R b o (length x.cells + x.spare))) (all_room R refl 𝓛 b o x.cells x.spare) $
    rewrite ! 0 (λ (i : ℕ). ‵ (room_owns R b o i)) asked.0 refl $
    use1 𝓛 (‵ (froom τ b o)) (𝓛.laws.room-raw (ty_array (lone R.mir) n) b o) $
    move ! (0 ∷ 5 ∷ 3 ∷ 1 ∷ []) $ group ! 4 $
    use1 𝓛 (raw ((Gives Y 𝓛 𝓜.mem 𝓡.returns).pre y)) (Gives-goes Y 𝓛 𝓜.mem 𝓡.returns κ q handle h (⊑_trans κ z.0.0.1.0 A.lives z.0.2.0 lives) b o bytes 8 τ
    (ap capped (size-raw (ty_array (lone R.mir) n)) ∙ capped_is bytes fits) (ap capped (align-raw (ty_array (lone R.mir) n))) fits (lit< tt)) $
    regoal ! (λ (us : List Val). prop (WpFn 𝓤 H C Λ fn us Post)) (λ i. word i ++ (lease_told vss.1.0 are.1.0.0 i ++ (are.1.1.0.0 i ++ (are.1.1.1.0.0 i ++ [])))) refl $
    enter ! C Λ fn (block_val (block_ptr b o) ∷ lease_val ∷ vptr handle.0 handle.1 ∷ vint w64 n ∷ []) Post $
    alloc_all ! (λ l. pass_all ! refl ((tt, (tt, tt)), ((tt, (tt, tt)), ((tt, tt), ((tt, record { fits = are.1.1.1.0.1 }), tt)))) $ let En : Env 𝓤 H = env fn.locals l in
    sets ! (of_opd ! (get_in ! (fld ! refl (stop !)) (sub ! 0 refl (whole !)))) refl (tt, tt) $
    first ! $ blocks ! $
    sets ! (of_opd ! (get ! refl)) refl (tt, tt) $
    sets ! (bin ! (get ! refl) (lit ! tt) (record { fits = fits })) refl (tt, record { fits = fits }) $
    calls_at_last ! (framed 𝓤 H 𝓜 (tables 𝓤 H 𝓜 𝓡 𝓡.env)) (Gives Y 𝓛 𝓜.mem 𝓡.returns) (met.deallocate dd) y (and_then ! (get ! refl) (and_then ! (get ! refl) (and_then ! (get ! refl) (and_then ! (lit ! tt) (no_more !))))) (λ v.
    use1 𝓛 (later (given (v ≡ vunit) (‵ (flft κ q)))) (Gives-Gives Y 𝓛 𝓜.mem 𝓡.returns κ q handle h b o bytes 8 τ v) $
    await ! tt $ learn ! (λ is_unit.
    lands_last ! refl (subst (λ (u : Val). T (has_ty ty_unit u) × WT u) (sym is_unit) (tt, tt)) $
    exec ! C Λ En (after 2 fn.body) (at_ret En Post) $ sets ! (of_opd ! (unit_lit !)) refl (tt, tt) $
    returns ! (look_at ! 0 refl) $ free_all ! refl $ keep ! (0 ∷ 1 ∷ []) $ join ! $
    feq_i ! (List Val) (vunit ∷ []) (vunit ∷ []) refl $ nothing ! $
    nothing ! $ nothing ! $ fjoin ! $ nothing ! $ fjoin ! $ nothing ! $ fjoin ! $ nothing ! $ fjoin ! $
    move ! (3 ∷ 0 ∷ 2 ∷ 1 ∷ []) $
    by ! (leaves 𝓛 ended stayed c z vunit tt (tt, (tt, (tt, (tt, tt)))) (tt, (tt, (tt, (tt, tt)))))))))))))
