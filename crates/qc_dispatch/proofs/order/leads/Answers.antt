use Rattle.qc_dispatch.proofs.order.leads.Goals as goal

pub returns-then-slots-i : goal.returns-then-slots-i
returns-then-slots-i c = (
  λ tied. record { leader = c.requires.first; led = c.requires.second; sooner = c.if-slots-i.true; tied = c.are_tied.ensures.0 tied },
  λ leads. c.are_tied.ensures.1 leads.tied,
)
