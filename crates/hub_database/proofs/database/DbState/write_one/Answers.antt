use Rattle.std.proofs.Common.{◌≡◌, ◌∙◌, ◌⊎◌, ◌≤◌, ap, length, rules, subst, true}
use Rattle.std.specs.Prelude.{IfOk, IfErr}
use Rattle.hub_model.specs.Outcome.{refusal_result}
use Rattle.hub_model.specs.declared.outcomes.Fault.{Fault}
use Rattle.hub_model.specs.declared.outcomes.Outcome.TheVariants.{Stored}
use Rattle.hub_database.specs.Database.{Contents, Database}
use Rattle.hub_database.specs.Edits.{one_draft_result}
use Rattle.hub_database.specs.declared.batch.DbFault.TheVariants.{NoMemory, Refused}
use Rattle.hub_database.proofs.FeedLemmas.{write_grows}
use Rattle.hub_database.proofs.MergeLemmas.{one_reply}
use Rattle.hub_database.proofs.database.DbState.write_one.Goals as goal

pub returns-clause-ok : goal.returns-clause-ok
returns-clause-ok c =
    let s = c.self.inside in
    let whole : Contents → Database = λ z. record {
      journal = z.journal;
      deleted = s.deleted;
      locals = z.locals;
      feeds = s.feeds.feeds;
      next_feed = s.feeds.next;
      limits = z.limits;
      life = z.life;
    } in
    let new = c.store.new.self in
    subst (λ (db : Database). IfOk c.reply.result (λ rev.
    one_draft_result db.deleted db.limits.journal db.journal c.args.doc
    ≡ record { outcome = Stored rev; journal = new.journal })) c.self.view_is
    (one_reply (whole s.contents) (whole new) c.args.doc c.in_ok-outcome.outcome c.reply.result
    (ap (λ (db : Database). db.deleted) c.self.view_is ∙ c.in_ok-standing.ensures.ok.0) c.reply.ensures
    c.in_ok-outcome.ensures.ok (ap whole c.in_ok-outcome.ensures.rest)).0

pub returns-clause-err : goal.returns-clause-err
returns-clause-err c =
    let s = c.self.inside in
    let whole : Contents → Database = λ z. record {
      journal = z.journal;
      deleted = s.deleted;
      locals = z.locals;
      feeds = s.feeds.feeds;
      next_feed = s.feeds.next;
      limits = z.limits;
      life = z.life;
    } in
    let new = c.store.new.self in
    subst (λ (db : Database). IfErr c.reply.result (λ e. (whole new ≡ db) × ((e ≡ NoMemory)
    ⊎ ((f : Fault) × (e ≡ Refused f)
    × (one_draft_result db.deleted db.limits.journal db.journal c.args.doc ≡ refusal_result db.journal f))))) c.self.view_is
    (one_reply (whole s.contents) (whole new) c.args.doc c.in_ok-outcome.outcome c.reply.result
    (ap (λ (db : Database). db.deleted) c.self.view_is ∙ c.in_ok-standing.ensures.ok.0) c.reply.ensures
    c.in_ok-outcome.ensures.ok (ap whole c.in_ok-outcome.ensures.rest)).1

pub invariant_of-self-2 : goal.invariant_of-self-2
invariant_of-self-2 c =
    let s = c.self.inside in
    let grown : length s.contents.journal ≤ length c.store.new.self.journal =
    write_grows true s.contents.limits.journal s.contents.journal c.args.doc c.in_ok-outcome.outcome
    c.store.new.self.journal c.in_ok-outcome.ensures.ok in
    search rules
