use Rattle.std.proofs.Common.{◌≡◌, ◌∙◌, ap, inl, inr, refl, subst, sym, unwrap_or}
use Rattle.qc_words.specs.declared.asked.Request.{Request}
use Rattle.qc_words.specs.declared.asked.Request.TheVariants as request
use Rattle.qc_words.specs.Asked.{Asked, asked_for}
use Rattle.qc_words.specs.Words.{asked_by, asked_of, texts}
use Rattle.qc_top.specs.Account.{IsRunOf}
use Rattle.qc_top.proofs.RunLemmas.{out_kept, promises}
use Rattle.qc_top.proofs.program.run.Goals as goal

pub returns-in-Ok-clause-account : goal.returns-in-Ok-clause-account
returns-in-Ok-clause-account g c = record {
  asked = asked_for c.in-Ok.request;
  asks = c.in-Ok.ensures.asked;
  serves = inl c.serve.ensures.account;
  told = λ asked is.
      subst (λ (a : Asked). IsRunOf a (g.S.Sink.view c.args.shelf.now) (g.S.Sink.view c.serve.new.shelf)
      (g.K.Sink.view c.args.out.now) (g.K.Sink.view c.serve.new.out) c.serve.result.status)
      (sym c.in-Ok.ensures.asked ∙ ap (λ o. unwrap_or o (asked_of (texts c.args.words.now))) is) c.serve.ensures.account;
  unnamed = λ other none.
      let same = sym c.in-Ok.is ∙ c.request_of.ensures.no_command other none in
      let is : c.in-Ok.request ≡ request.Usage = cc in
      subst (λ (r : Request). IsRunOf (asked_for r) (g.S.Sink.view c.args.shelf.now) (g.S.Sink.view c.serve.new.shelf)
      (g.K.Sink.view c.args.out.now) (g.K.Sink.view c.serve.new.out) c.serve.result.status) is c.serve.ensures.account;
}

pub returns-in-Ok-clause-promises : goal.returns-in-Ok-clause-promises
unfolding returns-in-Ok-clause-account
returns-in-Ok-clause-promises g c =
    promises (texts c.args.words.now) (g.S.Sink.view c.args.shelf.now) (g.S.Sink.view c.serve.new.shelf)
    (g.K.Sink.view c.args.out.now) (g.K.Sink.view c.serve.new.out) c.serve.result.status (returns-in-Ok-clause-account g c)

pub returns-in-Ok-clause-beside_stays : goal.returns-in-Ok-clause-beside_stays
returns-in-Ok-clause-beside_stays g c =
    (out_kept (asked_for c.in-Ok.request) (g.S.Sink.view c.args.shelf.now) (g.S.Sink.view c.serve.new.shelf)
    (g.K.Sink.view c.args.out.now) (g.K.Sink.view c.serve.new.out) c.serve.result.status c.serve.ensures.account).0

pub returns-in-Ok-clause-print_faults_never_fall : goal.returns-in-Ok-clause-print_faults_never_fall
returns-in-Ok-clause-print_faults_never_fall g c =
    (out_kept (asked_for c.in-Ok.request) (g.S.Sink.view c.args.shelf.now) (g.S.Sink.view c.serve.new.shelf)
    (g.K.Sink.view c.args.out.now) (g.K.Sink.view c.serve.new.out) c.serve.result.status c.serve.ensures.account).1

-- memory was wanting for the words
pub returns-in-Err-clause-account : goal.returns-in-Err-clause-account
returns-in-Err-clause-account g c = record {
  asked = asked_by (texts c.args.words.now);
  asks = refl;
  serves = inr (record { untouched = refl; reports = c.report_stop.ensures.report });
  told = λ asked is. absurd (cc (rw (is, c.in-Err.is) at c.request_of.ensures.about));
  unnamed = λ other none. absurd (cc (sym c.in-Err.is ∙ c.request_of.ensures.no_command other none));
}

pub returns-in-Err-clause-promises : goal.returns-in-Err-clause-promises
unfolding returns-in-Err-clause-account
returns-in-Err-clause-promises g c = promises _ _ _ _ _ _ (returns-in-Err-clause-account g c)
