use Rattle.std.proofs.Common.{◌≡◌, ◌∙◌, ◌+◌, ◌-◌, ◌<◌, ◌≤◌, ◌^◌, ap, arith, length, refl, rules, sym, subst}
use Rattle.hub_database.specs.Database.{Database}
use Rattle.hub_database.specs.Hosting.{hosted_of}
use Rattle.hub_database.specs.Handing.{IsFitting}
use Rattle.hub_shared.specs.Locked.{AreSendersOf, IsBookOf, LockedState}
use Rattle.hub_shared.specs.Stored.{Adds, StoresBatch, stored_count}
use Rattle.hub_shared.proofs.Editing.{amount_within, batch_stored, book_added, edits_more, longer_by}
use Rattle.hub_shared.proofs.Editing.{senders_added, stored_by}
use Rattle.hub_shared.proofs.write.Locked+DbState+C+K.store.Goals as goal

pub overflow_sub-edits : goal.overflow_sub-edits
overflow_sub-edits g c =
    let old : Database = c.self.inside.state in
    let new : Database = c.write_edits.new.self in
    let batch = c.in_ok-batch.batch in
    let within : length new.journal < 2 ^ 32 = search rules in
    let stores =
    batch_stored c.args.new_edits c.args.docs.items old new batch c.in_ok-batch.ensures.batch
    c.update_seq.ensures.legal within c.in_ok-batch.ensures.rest in
    let before =
    c.audit_share-before.ensures.edits.0
    ∙ ap (λ (l : LockedState Database _). length l.state.journal)
    (sym (c.self.view_is ∙ c.audit_share-before.ensures.same.0)) in
    omega (
      arith,
      before,
      c.update_seq.ensures.value,
      longer_by (stored_count batch.replies) old new stores.adds,
    )

pub invariant_of-self : goal.invariant_of-self
invariant_of-self g c =
    let senders = c.self.inside.subscribers.items in
    let total = g.C.Count.total c.self.inside.book in
    let Holds : Database → Type 0 = λ db.
    AreSendersOf g.K.Outbox.label g.K.Outbox.items (λ f items. IsFitting db.journal f items) (hosted_of db)
    senders
    × IsBookOf g.C.Count.counts total (length db.journal) in
    let kept = subst Holds (sym c.in_err-batch.ensures.err.1) (c.self.invariant.1, c.self.invariant.2) in
    (c.self.invariant.0, kept.0, kept.1)

pub invariant_of-self-2 : goal.invariant_of-self-2
invariant_of-self-2 g c =
    let old : Database = c.self.inside.state in
    let new : Database = c.write_edits.new.self in
    let batch = c.in_ok-batch.batch in
    let within : length new.journal < 2 ^ 32 = search rules in
    let adds =
    (batch_stored c.args.new_edits c.args.docs.items old new batch c.in_ok-batch.ensures.batch
    c.update_seq.ensures.legal within c.in_ok-batch.ensures.rest).adds in
    let before =
    c.audit_share-before.ensures.edits.0
    ∙ ap (λ (l : LockedState Database _). length l.state.journal)
    (sym (c.self.view_is ∙ c.audit_share-before.ensures.same.0)) in
    let more =
    edits_more (stored_count batch.replies) c.audit_share-before.result c.update_seq.result old new adds
    before c.update_seq.ensures.value in
    let counted = c.add-rise.ensures in (
      c.self.invariant.0,
      senders_added g.K.Outbox.label g.K.Outbox.items (stored_count batch.replies) old new
          c.self.inside.subscribers.items adds
          c.self.invariant.1,
      book_added g.C.Count.counts (g.C.Count.total c.self.inside.book) (g.C.Count.total c.add-rise.new.book)
          c.add-rise.result (stored_count batch.replies) old new adds c.self.invariant.2
          (subst (λ n. c.add-rise.result ≤ n) more counted.most) (λ t. counted.counted t ∙ more)
          counted.total,
    )

pub returns-clause-batch : goal.returns-clause-batch
returns-clause-batch g c =
    let old : Database = c.self.inside.state in
    let new : Database = c.write_edits.new.self in
    let batch = c.in_ok-batch.batch in
    let within : length new.journal < 2 ^ 32 = search rules in
    let stores =
    batch_stored c.args.new_edits c.args.docs.items old new batch c.in_ok-batch.ensures.batch
    c.update_seq.ensures.legal within c.in_ok-batch.ensures.rest in
    subst (λ db. StoresBatch c.args.new_edits c.args.docs.items c.args.self.now.state batch db)
    (ap (λ (l : LockedState Database _). l.state) (sym c.tell.ensures))
    (subst (λ l. StoresBatch c.args.new_edits c.args.docs.items l.state batch new)
    (c.self.view_is ∙ c.audit_share-before.ensures.same.0) stores)

pub returns-clause-stored : goal.returns-clause-stored
returns-clause-stored g c =
    let old : Database = c.self.inside.state in
    let new : Database = c.write_edits.new.self in
    let batch = c.in_ok-batch.batch in
    let within : length new.journal < 2 ^ 32 = search rules in
    let stores =
    batch_stored c.args.new_edits c.args.docs.items old new batch c.in_ok-batch.ensures.batch
    c.update_seq.ensures.legal within c.in_ok-batch.ensures.rest in
    stored_by c.args.new_edits c.args.docs.items c.args.self.now.state new batch
    c.audit_share-before.ensures.found
    (subst (λ l. StoresBatch c.args.new_edits c.args.docs.items l.state batch new)
    (c.self.view_is ∙ c.audit_share-before.ensures.same.0) stores)

pub returns-clause-adds : goal.returns-clause-adds
returns-clause-adds g c =
    let old : Database = c.self.inside.state in
    let new : Database = c.write_edits.new.self in
    let batch = c.in_ok-batch.batch in
    let within : length new.journal < 2 ^ 32 = search rules in
    let stores =
    batch_stored c.args.new_edits c.args.docs.items old new batch c.in_ok-batch.ensures.batch
    c.update_seq.ensures.legal within c.in_ok-batch.ensures.rest in
    subst (λ (l : LockedState Database _).
    Adds (stored_count batch.replies) c.args.self.now.state l.state × (l ≡ record c.args.self.now { state = l.state }))
    (sym c.tell.ensures)
    (subst (λ (l : LockedState Database _).
    Adds (stored_count batch.replies) l.state new
    × (record { state = new; senders = c.self.inside.subscribers.items; lane = c.self.inside.lane }
    ≡ record l { state = new }))
    (c.self.view_is ∙ c.audit_share-before.ensures.same.0) (stores.adds, refl))

pub returns-clause-risen : goal.returns-clause-risen
returns-clause-risen g c =
    let old : Database = c.self.inside.state in
    let new : Database = c.write_edits.new.self in
    let batch = c.in_ok-batch.batch in
    let within : length new.journal < 2 ^ 32 = search rules in
    let adds =
    (batch_stored c.args.new_edits c.args.docs.items old new batch c.in_ok-batch.ensures.batch
    c.update_seq.ensures.legal within c.in_ok-batch.ensures.rest).adds in
    let kept = sym (c.self.view_is ∙ c.audit_share-before.ensures.same.0) in
    let before =
    c.audit_share-before.ensures.edits.0 ∙ ap (λ (l : LockedState Database _). length l.state.journal) kept in
    let more =
    edits_more (stored_count batch.replies) c.audit_share-before.result c.update_seq.result old new adds
    before c.update_seq.ensures.value in
    let most = subst (λ n. c.add-rise.result ≤ n) more c.add-rise.ensures.most in
    let amount = g.C.Count.amount c.args.share.now in
    let bound : amount ≤ length old.journal =
    subst (λ l. amount ≤ length l.state.journal) kept c.audit_share-before.ensures.found.counted in
    let raised : g.C.Count.amount c.add-rise.new.share ≡ amount + c.add-rise.result =
    subst (λ n. g.C.Count.amount c.add-rise.new.share ≡ n + c.add-rise.result)
    c.audit_share-before.ensures.same.1 c.add-rise.ensures.amount in record {
      raised = raised;
      counted = λ t. c.add-rise.ensures.counted t ∙ more;
      within =
          amount_within amount (g.C.Count.amount c.add-rise.new.share) c.add-rise.result
          (stored_count batch.replies) old new adds bound most raised;
      parts = c.add-rise.ensures.parts ∙ c.audit_share-before.ensures.same.2;
    }
