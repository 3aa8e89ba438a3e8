use Rattle.std.proofs.Common.{◌≡◌, ℕ, ◌<◌, length, ap, sym, ◌∙◌, arith, rules}
use Rattle.qc_model.specs.declared.crane.Crane.{Crane}
use Rattle.qc_model.specs.declared.direction.Direction.{Direction}
use Rattle.qc_model.specs.declared.direction.Direction.TheVariants.{Up}
use Rattle.qc_model.specs.Instance.{InstanceView, crane}
use Rattle.qc_model.specs.Seen.{seen, seen_crane, seen_number}
use Rattle.qc_model.proofs.OnRail.{berth_on_rail, reach_on_rail, read_crane, seen_on_rail}
use Rattle.qc_model.proofs.SeenLemmas.{seen-crane, seen-crane_count}
use Rattle.qc_model.proofs.judge.Judge.post.Goals as goal

-- a crane of what is seen, from the crane that is read
is_seen : (inst : InstanceView) (way : Direction) (view : InstanceView) (k : ℕ) (x : Crane) → seen inst way ≡ view → k < length view.cranes → x ≡ crane inst (seen_number inst way k) → seen_crane inst way x ≡ crane view k
is_seen inst way view k x e h f =
    let n : k < length inst.cranes = omega (arith, h, seen-crane_count inst way, ap (λ i. length i.cranes) e) in
    ap (seen_crane inst way) f ∙ sym (seen-crane inst way k n) ∙ ap (λ i. crane i k) e

pub seen_post-requires : goal.seen_post-requires
seen_post-requires c =
    let inst = c.self.inside.inst.now in
    let s = c.seen_number-index.ensures in
    let e = read_crane inst _ _ _ _ c.cranes.ensures.cranes s.number s.range c.index-cranes-index.is in
    let r = rw s.number at s.range in
    let reach = reach_on_rail inst c.cranes.ensures.valid _ r in
    record {
      bay = rw (ap (λ k. k.bay) e) (berth_on_rail inst c.cranes.ensures.valid Up _ r);
      from = rw (ap (λ k. k.from) e) reach.0;
      to = rw (ap (λ k. k.to) e) reach.1;
    }

pub returns : goal.returns
returns c =
    let inst = c.self.inside.inst.now in
    let way = c.self.inside.way in
    let s = c.seen_number-index.ensures in
    let e = read_crane inst _ _ _ _ c.cranes.ensures.cranes s.number s.range c.index-cranes-index.is in
    let is = is_seen inst way _ c.args.number _ (ap (λ j. j.inst) c.self.view_is) c.requires e in
    let r = rw s.number at s.range in
    let post = c.seen_post.ensures in
    record {
      ready = post.ready ∙ ap (λ k. k.ready) is;
      bay = post.bay ∙ ap (λ k. k.bay) is;
      from = post.from ∙ ap (λ k. k.from) is;
      to = post.to ∙ ap (λ k. k.to) is;
      soon = search rules;
      on_rail = rw (post.bay ∙ ap (λ k. (seen_crane inst way k).bay) e) (seen_on_rail inst c.cranes.ensures.valid way _ r);
    }
