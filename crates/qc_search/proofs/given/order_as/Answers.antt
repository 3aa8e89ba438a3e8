use Rattle.std.proofs.Common.{List, ◌∷◌, ap, sym, subst, ◌∙◌}
use Rattle.std.proofs.lemmas.Bool.{false≢true}
use Rattle.qc_dist.specs.Node.{IsOpen}
use Rattle.qc_close.specs.Model.{Decision, Agrees, IsSettled, assigned}
use Rattle.qc_starts.specs.Seen.{IsReached}
use Rattle.qc_starts.specs.Tight.{order_in}
use Rattle.qc_search.proofs.OrderLemmas.{has_starts_of, order_agreed, order_assigns, order_open, order_reached, order_settles, settled_more}
use Rattle.qc_search.proofs.given.order_as.Goals as goal

pub go-requires-clause-starts : goal.go-requires-clause-starts
go-requires-clause-starts c =
    has_starts_of c.args.starts.now.inst c.args.starts.now.decisions c.args.sched.now c.requires.goes c.requires.agrees

pub go-requires-clause-open : goal.go-requires-clause-open
go-requires-clause-open c =
    let inst = c.args.starts.now.inst in
    let ds = c.args.starts.now.decisions in
    let is = rw c.instance.ensures.same at c.order_of-order.ensures in
    subst (IsOpen inst ds) (sym is)
    (order_open inst c.args.sched.now c.args.pair ds c.requires.conflict
    (λ s. false≢true (sym c.if-settled.false ∙ c.settled.ensures.1 s)))

pub returns-clause-agrees : goal.returns-clause-agrees
returns-clause-agrees c =
    let inst = c.args.starts.now.inst in
    let is = rw c.instance.ensures.same at c.order_of-order.ensures in
    subst (λ (es : List Decision). Agrees inst es c.args.sched.now)
    (sym (c.go.ensures.decisions ∙ ap (λ (d : Decision). d ∷ c.args.starts.now.decisions) is))
    (order_agreed inst c.args.sched.now c.args.pair c.args.starts.now.decisions c.instance.ensures.valid c.requires.goes
    c.requires.conflict c.requires.agrees)

pub returns-clause-settled : goal.returns-clause-settled
returns-clause-settled c =
    let inst = c.args.starts.now.inst in
    let ds = c.args.starts.now.decisions in
    let pair = c.args.pair in
    let is = rw c.instance.ensures.same at c.order_of-order.ensures in
    subst (λ (es : List Decision). IsSettled inst es pair.first pair.second)
    (sym (c.go.ensures.decisions ∙ ap (λ (d : Decision). d ∷ ds) is))
    (order_settles inst c.args.sched.now pair ds (λ s. false≢true (sym c.if-settled.false ∙ c.settled.ensures.1 s)))

pub returns-clause-stays : goal.returns-clause-stays
returns-clause-stays c = λ i j settled.
    let inst = c.args.starts.now.inst in
    let ds = c.args.starts.now.decisions in
    let pair = c.args.pair in
    let is = rw c.instance.ensures.same at c.order_of-order.ensures in
    let is_open = order_open inst c.args.sched.now pair ds c.requires.conflict
    (λ s. false≢true (sym c.if-settled.false ∙ c.settled.ensures.1 s)) in
    subst (λ (es : List Decision). IsSettled inst es i j) (sym (c.go.ensures.decisions ∙ ap (λ (d : Decision). d ∷ ds) is))
    (settled_more inst ds (order_in inst c.args.sched.now pair) is_open i j settled)

pub go-requires-clause-reached : goal.go-requires-clause-reached
go-requires-clause-reached c =
    let inst = c.args.starts.now.inst in
    let is = rw c.instance.ensures.same at c.order_of-order.ensures in
    subst (IsReached inst) (sym is) (order_reached inst c.args.sched.now c.args.pair c.args.starts.now.decisions)

pub returns-clause-cranes : goal.returns-clause-cranes
returns-clause-cranes c = λ j.
    let inst = c.args.starts.now.inst in
    let ds = c.args.starts.now.decisions in
    let is = rw c.instance.ensures.same at c.order_of-order.ensures in
    ap (λ (es : List Decision). assigned es j) (c.go.ensures.decisions ∙ ap (λ (d : Decision). d ∷ ds) is)
    ∙ order_assigns inst c.args.sched.now c.args.pair ds j
