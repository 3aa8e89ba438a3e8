-- `reserve` asks the allocator for room for cells. Assumes `Logic`.
use Rattle.std.proofs.Common.{◌≡◌, ℕ, ◌+◌, ◌*◌, ◌^◌, ◌<◌, List, [], ◌∷◌, ◌++◌, refl, sym, ap, ◌∙◌, arith, lit<, w64, Some, None}
use mir.Syntax.{Ty, Fn, Args, a_type, dcons, dnil, ty_array}
use mir.Val.{Val, vint, vptr, vcons, vnil}
use mir.MapTy.{inst_fn}
use base.Logic.{SProp, emp, id⊢}
use base.Fml.{Lft, Share, ftrue, flft}
use prog.Capped.{capped_is}
use prog.RawLaws.{size-raw, align-raw}
use prog.Memory.{capped}
use prog.Wp.{Env, Wp, WpFn, after_seq, at_return}
use contract.BorrowLft.{◌⊑◌, ⊑_trans}
use contract.Monad.{fact, fact_i}
use contract.Running.{tables}
use types.Kit.{Post as After, any_q, ‵, raw, ◌⊛◌, later, prop, at_ret, ◌$◌, ◌∵◌, !, qed, by, move, keep, drop, use0, use1, use2, split, join, regoal, fsplit, fjoin, flt_i, rewrite, await}
use types.Part.{whole, agg}
use types.Match.{live, vrt, in_variant}
use types.Run.{stop, fld, lit, bin, of_opd, no_more, and_then, first, switches_on, exec, returns, enter}
use types.ByLocal.{alloc_all, pass_all, free_all, look_at, get, get_in, get_tag, sets, sets_last, lands_as, env}
use denote.Memory.{lone}
use denote.RattleType.{RattleType, owns}
use denote.RawPtr.{Ptr, block_ptr}
use denote.Param.{param, bounded}
use denote.Builtin.{usize, RefOf}
use denote.Signature.{plain, types_at, type_at}
use denote.Steps.{nothing, heard}
use denote.Struct.Tuple.{Tuple}
use denote.Triple.Entry.{alive}
use denote.Triple.Call.{calls_at}
use denote.Triple.Walked.{Stays, stay_dropped, walk_of, Goes-dropped}
use Rattle.std.proofs.alloc.Calls.{Al, seen, Takes, at_takes, Answered, Takes-goes, Takes-gives, answers}
use Rattle.std.proofs.VecSteps.Shapes.{after, head, arm_body}
use denote.Triple.Table.{framed}
use Rattle.std.proofs.option.Made.{Some-of, none_of}
use Rattle.std.proofs.raw_atomic.Walks.{proved_at, leaves}
use Rattle.qc_arena.specs.Memory.{FitsBlock, block_type, room_owns}
use Rattle.qc_arena.specs.contracts.block.Block as B
use Rattle.qc_arena.specs.contracts.block.Lease as Le
use Rattle.qc_arena.specs.contracts.block.Cell.{the_row as R}
use Rattle.qc_arena.specs.contracts.block.reserve as f
use Rattle.qc_arena.specs.contracts.block.reserve.Key.{name as #self}
use Rattle.qc_arena.proofs.Values.{block_val, block_fields, block_made, lease_val, lease_fields, lease_made, pair_val, pair_of}
use Rattle.qc_arena.proofs.block.reserve.Statement.{statement}
use Rattle.qc_arena.proofs.block.reserve.Code as code

pub reserve_spec : {M : Type 1} → statement M
reserve_spec 𝓤 𝓛 𝓜 𝓡 wired A L g d dd met md =
    let H = 𝓛.H in
    let ended = f.ended A g d dd in
    let c = f.clauses A g d dd 𝓛 𝓜.mem 𝓡.returns in
    let args : Args = bounded (a_type ∷ []) (A, tt) (dcons d (dcons dd dnil)) in
    let fn : Fn = inst_fn args code.function in
    let stayed : Stays ended.signature.params ended.kept = (stay_dropped _ ended.kept.0, (stay_dropped _ ended.kept.1.0, tt)) in
    let C = (tables 𝓤 H 𝓜 𝓡 𝓡.env).C in
    let Λ = (tables 𝓤 H 𝓜 𝓡 𝓡.env).Λ in
    proved_at 𝓛 ended stayed c 𝓜 𝓡 (
      Goes-dropped 𝓛 2 (RefOf (0 ∷ []) tt (plain (λ _. param 0 A)) (λ _. tt)) ended.kept.0 (λ κs x g. refl),
      (Goes-dropped 𝓛 2 (plain (λ _. usize)) ended.kept.1.0 (λ κs x g. refl), tt),
    )
    (#self args) fn (code.unfolded 𝓤 H 𝓜 𝓡 wired (A, tt) d dd) (λ z are.
    let Post : Val → SProp 𝓤 = (walk_of 𝓛 ended stayed c).post z in
    let κ : Lft = z.0.0.0 in
    let q : Share = z.0.1.0 in
    let a = z.0.3 in
    let vss = z.0.4 in
    let Y : Al = record { row = A; laws = L; g = g; d = d; drops = dd } in
    let h = a.0.now in
    let at = a.0.ref_ptr in
    let n : ℕ = a.1.0 in
    let bytes : ℕ = n * 48 in
    let τ : Ty = block_type R n in
    let y = at_takes Y 𝓛 𝓜.mem 𝓡.returns κ q at h bytes 8 τ in
    let Out : RattleType = type_at ended.signature.result z.0.0 in
    let Right : RattleType = Le.the_row (param 0 A) g in
    let Pair : RattleType = Tuple (B.the_row ∷ Right ∷ []) in
    let Then : Env 𝓤 H → After 𝓤 H = λ En. any_q (after_seq 𝓤 H (Wp 𝓤 H C Λ En (after 3 fn.body) (at_return 𝓤 H En Post)) (at_return 𝓤 H En Post)) in
    qed 𝓛 ((raw (alive 𝓛 ended.signature z.0.0 z.0.1) ⊛ ‵ (owns (types_at ended.signature.params z.0.0) a vss)) ∷ (raw (fact 𝓤 (z.0.0.1.0 ⊑ A.lives)) ⊛ raw (fact 𝓤 (FitsBlock R n))) ∷ []) ∵
    move ! (1 ∷ []) $ split ! $ heard ! _ (λ lives. heard ! _ (λ small. split ! $ move ! (1 ∷ []) $
    fsplit ! $ fsplit ! $ drop ! $ use1 𝓛 (‵ (seen Y κ at h)) (id⊢ 𝓤 _) $ move ! (2 ∷ []) $
    use1 𝓛 (‵ (flft κ q) ⊛ ‵ (flft z.0.0.1.0 z.0.1.1.0) ⊛ ‵ ftrue) (id⊢ 𝓤 _) $ split ! $ move ! (2 ∷ 0 ∷ 1 ∷ []) $
    let fits : bytes < 2 ^ 64 = omega (arith, small) in
    regoal ! (λ (us : List Val). prop (WpFn 𝓤 H C Λ fn us Post)) (λ i. are.0.0 i ++ (are.1.0.0 i ++ [])) refl $
    enter ! C Λ fn (vptr at.0 at.1 ∷ vint w64 n ∷ []) Post $
    alloc_all ! (λ l. pass_all ! refl ((tt, tt), ((tt, record { fits = are.1.0.1 }), tt)) $ let En : Env 𝓤 H = env fn.locals l in
    sets ! (bin ! (get ! refl) (lit ! tt) (record { fits = fits })) refl (tt, record { fits = fits }) $
    use2 𝓛 (raw ((Takes Y 𝓛 𝓜.mem 𝓡.returns).pre y)) (Takes-goes Y 𝓛 𝓜.mem 𝓡.returns κ q at h (⊑_trans κ z.0.0.1.0 A.lives z.0.2.0 lives) bytes 8 τ
    (ap capped (size-raw (ty_array (lone R.mir) n)) ∙ capped_is bytes fits) (ap capped (align-raw (ty_array (lone R.mir) n))) fits (lit< tt)) $
    calls_at ! (framed 𝓤 H 𝓜 (tables 𝓤 H 𝓜 𝓡 𝓡.env)) (Takes Y 𝓛 𝓜.mem 𝓡.returns) (met.allocate dd) y (and_then ! (get ! refl) (and_then ! (get ! refl) (and_then ! (lit ! tt) (no_more !)))) (λ v.
    use1 𝓛 (later (raw (Answered Y 𝓛 𝓜.mem 𝓡.returns h τ v) ⊛ ‵ (flft κ q))) (Takes-gives Y 𝓛 𝓜.mem 𝓡.returns κ q at h bytes 8 τ v) $
    await ! tt $ split ! $
    answers Y ! 𝓜.mem 𝓡.returns h τ v
    (λ b o e.
    -- [the room; the right to free it; the token; the other tokens; ..]
    lands_as ! e refl (tt, (record { fits = lit< tt }, (tt, tt))) $
    first ! $ switches_on ! (get_tag ! (vrt ! refl (fld ! refl (stop !))) (whole !)) $
    exec ! C Λ En (arm_body 0 (head (after 2 fn.body))) (Then En) $
    sets ! (of_opd ! (get_in ! (vrt ! refl (fld ! refl (stop !))) (in_variant ! 0 0 refl refl (whole !)))) refl (tt, tt) $
    sets ! (of_opd ! (get ! refl)) refl (tt, tt) $
    sets ! (agg ! (and_then ! (get ! refl) (no_more !))) refl (tt, (tt, tt)) $
    sets ! (agg ! (no_more !)) refl (tt, tt) $
    sets ! (agg ! (and_then ! (get ! refl) (no_more !))) refl (tt, (tt, tt)) $
    sets ! (agg ! (and_then ! (get ! refl) (and_then ! (get ! refl) (no_more !)))) refl (tt, ((tt, tt), ((tt, tt), tt))) $
    sets_last ! (agg ! (and_then ! (lit ! tt) (and_then ! (get ! refl) (no_more !)))) refl (tt, (record { fits = lit< tt }, (((tt, tt), ((tt, tt), tt)), tt))) $
    exec ! C Λ En (after 3 fn.body) (at_ret En Post) $
    sets ! (of_opd ! (get ! refl)) refl (tt, (record { fits = lit< tt }, (((tt, tt), ((tt, tt), tt)), tt))) $
    returns ! (look_at ! 0 refl) $ free_all ! refl $ keep ! (2 ∷ 3 ∷ 0 ∷ 1 ∷ []) $ join ! $ move ! (1 ∷ []) $
    -- [the room; the tokens; the right to free it]
    let p : Ptr = block_ptr b o in
    let x : B.the_row.Denot = record { at = p; cells = []; spare = n } in
    let k : Right.Denot = record { mark = record {}; alloc = h; at = p; cap = n } in
    let here : 0 * 48 + o ≡ o = omega arith in
    use1 𝓛 (‵ (room_owns R b o n)) (𝓛.laws.raw-room (ty_array (lone R.mir) n) b o) $
    rewrite ! 0 (λ (i : ℕ). ‵ (room_owns R b i n)) (sym here) refl $
    flt_i ! ((0 + n) * 48) (2 ^ 63) (omega (arith, small)) $ fjoin ! $ nothing ! $ fjoin ! $
    use0 𝓛 (‵ (block_fields p (block_val p ∷ []))) (block_made 𝓛 p) $ fjoin ! $ move ! (2 ∷ []) $
    use0 𝓛 (‵ (lease_fields (lease_val ∷ []))) (lease_made 𝓛) $ fjoin ! $ move ! (1 ∷ 0 ∷ []) $
    use2 𝓛 (‵ (Pair.own_val (x, k) (pair_val (block_val p) lease_val ∷ []))) (pair_of 𝓛 B.the_row Right x k (block_val p) lease_val) $
    use1 𝓛 (‵ (Out.own_val (Some (x, k)) (live 1 (vcons (pair_val (block_val p) lease_val) vnil) ∷ []))) (Some-of 𝓛 Pair (x, k) (pair_val (block_val p) lease_val)) $
    use0 𝓛 (raw (fact 𝓤 ((x.cells ≡ []) × (n ≡ n) × (p ≡ p) × (n ≡ n) × (h ≡ h)))) (fact_i 𝓤 _ (emp 𝓤) (refl, refl, refl, refl, refl)) $
    nothing ! $ nothing ! $ fjoin ! $ nothing ! $ fjoin ! $ move ! (3 ∷ 0 ∷ 2 ∷ 1 ∷ []) $
    by ! (leaves 𝓛 ended stayed c z (live 1 (vcons (pair_val (block_val p) lease_val) vnil)) (Some (x, k)) (tt, (tt, tt)) (tt, (tt, tt))))
    (λ e.
    lands_as ! e refl (tt, (record { fits = lit< tt }, (tt, tt))) $
    first ! $ switches_on ! (get_tag ! (vrt ! refl (fld ! refl (stop !))) (whole !)) $
    exec ! C Λ En (arm_body 1 (head (after 2 fn.body))) (Then En) $
    sets_last ! (agg ! (and_then ! (lit ! tt) (no_more !))) refl (tt, (record { fits = lit< tt }, tt)) $
    exec ! C Λ En (after 3 fn.body) (at_ret En Post) $
    sets ! (of_opd ! (get ! refl)) refl (tt, (record { fits = lit< tt }, tt)) $
    returns ! (look_at ! 0 refl) $ free_all ! refl $ keep ! (0 ∷ 1 ∷ []) $ join ! $
    use0 𝓛 (‵ (Out.own_val None (live 0 vnil ∷ []))) (none_of 𝓛 Pair) $
    use0 𝓛 (raw (fact 𝓤 (Unit {0}))) (fact_i 𝓤 (Unit {0}) (emp 𝓤) tt) $
    nothing ! $ nothing ! $ fjoin ! $ nothing ! $ fjoin ! $ move ! (3 ∷ 0 ∷ 2 ∷ 1 ∷ []) $
    by ! (leaves 𝓛 ended stayed c z (live 0 vnil) None (tt, (tt, tt)) (tt, (tt, tt)))))))))
