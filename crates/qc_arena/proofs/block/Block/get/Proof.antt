-- `get` follows a pointer into the lent cells. Assumes `Logic`.
use Rattle.std.proofs.Common.{◌≡◌, ℕ, ◌+◌, ◌*◌, ◌<◌, List, [], ◌∷◌, ◌++◌, None, length, get_or, refl, sym, ap, ◌∙◌, arith}
use Rattle.std.proofs.lemmas.List.{get_or_default}
use Rattle.std.specs.Mem.{type_size}
use mir.Syntax.{Fn}
use mir.Val.{Val, vptr, vstruct, vcons, vnil}
use base.Logic.{SProp, emp, never, id⊢}
use base.Fml.{Lft}
use prog.Wp.{Env, WpFn}
use contract.Monad.{fact, fact_i}
use contract.Running.{tables}
use types.Kit.{‵, raw, ◌⊛◌, prop, at_ret, ◌$◌, ◌∵◌, !, qed, by, move, keep, drop, use0, use1, split, regoal, fsplit, fjoin, feq_i}
use types.Part.{whole, sub}
use types.Run.{stop, fld, hop, from, of_opd, addr, first, blocks, exec, returns, enter}
use types.ByLocal.{alloc_all, pass_all, free_all, look_at, look_in_at, get, sets, sets_last, env}
use denote.Builtin.{RefOf}
use denote.Exit.{yes}
use denote.Memory.{shared_of}
use denote.Opens.{hide, unhide}
use denote.RattleType.{owns}
use denote.RawPtr.{Ptr, count_of, in_a_block}
use denote.Signature.{plain, types_at}
use denote.Steps.{nothing, heard}
use denote.Triple.Entry.{alive}
use denote.Triple.Walked.{Stays, stay_dropped, walk_of, Goes-dropped}
use Rattle.std.proofs.VecSteps.Shapes.{after}
use Rattle.std.proofs.raw_atomic.Walks.{proved_at, leaves}
use Rattle.qc_arena.specs.Memory.{place_of, block_lent}
use Rattle.qc_arena.specs.declared.block.Cell.{Cell}
use Rattle.qc_arena.specs.contracts.block.Block as B
use Rattle.qc_arena.specs.contracts.block.Link as L
use Rattle.qc_arena.specs.contracts.block.Cell.{the_row as R}
use Rattle.qc_arena.specs.contracts.block.Block.get as f
use Rattle.qc_arena.specs.contracts.block.Block.get.Key.{name as #self}
use Rattle.qc_arena.proofs.Lent.{lent_one}
use Rattle.qc_arena.proofs.block.Link.TheLaws.{lowers}
use Rattle.qc_arena.proofs.block.Block.get.Statement.{statement}
use Rattle.qc_arena.proofs.block.Block.get.Code as code

abbrev stayed : Stays f.ended.signature.params f.ended.kept
stayed = (stay_dropped (RefOf (0 ∷ []) tt (plain (λ _. B.the_row)) (λ _. tt)) yes, (stay_dropped (plain (λ _. L.the_row)) yes, tt))

pub get_spec : {M : Type 1} → statement M
get_spec 𝓤 𝓛 𝓜 𝓡 wired =
    let H = 𝓛.H in
    let c = f.clauses 𝓛 𝓜.mem 𝓡.returns in
    let fn : Fn = code.function in
    let C = (tables 𝓤 H 𝓜 𝓡 𝓡.env).C in
    let Λ = (tables 𝓤 H 𝓜 𝓡 𝓡.env).Λ in
    proved_at 𝓛 f.ended stayed c 𝓜 𝓡 (
      Goes-dropped 𝓛 1 (RefOf (0 ∷ []) tt (plain (λ _. B.the_row)) (λ _. tt)) yes (λ κs x g. refl),
      (Goes-dropped 𝓛 1 (plain (λ _. L.the_row)) yes (λ κs x g. refl), tt),
    )
    #self fn (code.unfolded 𝓤 H 𝓜 𝓡 wired) (λ z are.
    let Post : Val → SProp 𝓤 = (walk_of 𝓛 f.ended stayed c).post z in
    let κ : Lft = z.0.0.0 in
    let a = z.0.3 in
    let vss = z.0.4 in
    let d = a.0.now in
    let link = a.1.0 in
    qed 𝓛 ((raw (alive 𝓛 f.ended.signature z.0.0 z.0.1) ⊛ ‵ (owns (types_at f.ended.signature.params z.0.0) a vss)) ∷ raw (fact 𝓤 ((k : ℕ) × (k < length d.cells) × (link.at ≡ place_of R d.at k))) ∷ []) ∵
    move ! (1 ∷ []) $ heard ! _ (λ asked. split ! $ move ! (1 ∷ []) $ fsplit ! $ fsplit ! $ drop ! $
    unhide ! $ fsplit ! $ drop ! $ in_a_block ! d.at (λ p. block_lent R p d.cells κ) (id⊢ 𝓤 (never 𝓤)) (λ b o at.
    let k : ℕ = asked.0 in
    let inside = asked.1 in
    let placed = asked.2 in
    let off : ℕ = k * type_size R + o in
    let word : vss.1.0 ≡ vstruct (vcons (vptr b off) vnil) ∷ [] = lowers.val_is link vss.1.0 are.1.0 ∙ ap (λ (p : Ptr). lowers.lowered (record { at = p }) ∷ []) (placed ∙ ap (λ (p : Ptr). place_of R p k) at) in
    let blank : Cell = record { from = 0; to = 0; number = 0; len = 0; older_out = None; older_in = None } in
    let x : Cell = get_or d.cells k blank in
    regoal ! (λ (us : List Val). prop (WpFn 𝓤 H C Λ fn us Post)) (λ i. are.0.0 i ++ (word i ++ [])) refl $
    enter ! C Λ fn (vptr a.0.ref_ptr.0 a.0.ref_ptr.1 ∷ vstruct (vcons (vptr b off) vnil) ∷ []) Post $
    alloc_all ! (λ l. pass_all ! refl ((tt, tt), ((tt, (tt, tt)), tt)) $ let En : Env 𝓤 H = env fn.locals l in
    use1 𝓛 (‵ (shared_of R x b off κ)) (lent_one R 𝓛 κ b o d.cells k blank inside) $ hide ! $
    first ! $ blocks ! $
    sets_last ! (addr ! (from ! (fld ! refl (hop ! (look_in_at ! 2 (sub ! 0 refl (whole !))) (stop !))))) refl (tt, tt) $
    exec ! C Λ En (after 1 fn.body) (at_ret En Post) $ sets ! (of_opd ! (get ! refl)) refl (tt, tt) $
    returns ! (look_at ! 0 refl) $ free_all ! refl $
    feq_i ! (List Val) (vptr b off ∷ []) (vptr b off ∷ []) refl $ fjoin ! $ keep ! (0 ∷ 2 ∷ []) $
    let Says : Type 0 = (j : ℕ) (e : Cell) → link.at ≡ place_of R d.at j → x ≡ get_or d.cells j e in
    use0 𝓛 (raw (fact 𝓤 Says)) (fact_i 𝓤 Says (emp 𝓤) (λ j e there.
    let same : k * 48 + o ≡ j * 48 + o = ap count_of (sym (ap (λ (p : Ptr). place_of R p k) at) ∙ sym placed ∙ there ∙ ap (λ (p : Ptr). place_of R p j) at) in
    let number : k ≡ j = omega (arith, same) in
    get_or_default d.cells k blank e inside ∙ ap (λ i. get_or d.cells i e) number)) $
    nothing ! $ nothing ! $ fjoin ! $ nothing ! $ fjoin ! $ move ! (3 ∷ 0 ∷ 2 ∷ 1 ∷ []) $
    by ! (leaves 𝓛 f.ended stayed c z (vptr b off) (record { ref_ptr = (b, off); now = x }) (tt, (tt, tt)) (tt, (tt, tt)))))))
