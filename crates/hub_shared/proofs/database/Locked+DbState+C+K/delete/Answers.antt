use Rattle.std.proofs.Common.{length, sym, subst}
use Rattle.hub_database.specs.Database.{Database}
use Rattle.hub_database.specs.Handing.{IsFitting}
use Rattle.hub_database.specs.Hosting.{hosted_of}
use Rattle.hub_shared.specs.Locked.{AreSendersOf, IsBookOf}
use Rattle.hub_shared.proofs.Outcomes.{either_way}
use Rattle.hub_shared.proofs.Storing.{senders_end}
use Rattle.hub_shared.proofs.database.Locked+DbState+C+K.delete.Goals as goal

pub invariant_of-self : goal.invariant_of-self
invariant_of-self g c =
    let senders = c.self.inside.subscribers.items in
    let old : Database = c.self.inside.state in
    let counts = g.C.Count.counts in
    let total = g.C.Count.total c.self.inside.book in
    let d = c.self.invariant.1 in
    let book = c.self.invariant.2 in (
      c.self.invariant.0,
      either_way c.delete.result c.delete.ensures.ok c.delete.ensures.err
          (λ ok. subst (λ (db : Database).
          AreSendersOf g.K.Outbox.label g.K.Outbox.items (λ f items. IsFitting db.journal f items)
          (hosted_of db) senders)
          (sym ok.1) (senders_end g.K.Outbox.label g.K.Outbox.items old senders d))
          (λ e err. subst (λ (db : Database).
          AreSendersOf g.K.Outbox.label g.K.Outbox.items (λ f items. IsFitting db.journal f items)
          (hosted_of db) senders) (sym err.2) d),
      either_way c.delete.result c.delete.ensures.ok c.delete.ensures.err
          (λ ok. subst (λ (db : Database). IsBookOf counts total (length db.journal)) (sym ok.1) book)
          (λ e err. subst (λ (db : Database). IsBookOf counts total (length db.journal)) (sym err.2) book),
    )
