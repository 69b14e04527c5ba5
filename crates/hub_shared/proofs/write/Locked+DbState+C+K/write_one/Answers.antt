use Rattle.std.proofs.Common.{◌≡◌, ◌∙◌, ◌+◌, ◌-◌, ◌<◌, ◌≤◌, ◌^◌, ap, arith, length, refl, rules, sym, subst}
use Rattle.std.specs.Prelude.{Ok, Err, IfErr}
use Rattle.hub_model.specs.Outcome.{Stores}
use Rattle.hub_database.specs.Database.{Database}
use Rattle.hub_database.specs.Hosting.{hosted_of}
use Rattle.hub_database.specs.Handing.{IsFitting}
use Rattle.hub_shared.specs.Edits.{IsEditAnswer}
use Rattle.hub_shared.specs.Handles.{HandleState, IsEditedBy}
use Rattle.hub_shared.specs.Locked.{AreSendersOf, IsBookOf, LockedState}
use Rattle.hub_shared.specs.Stored.{Adds}
use Rattle.hub_shared.proofs.Editing.{amount_within, book_added, edit_answer, edits_more, longer_by}
use Rattle.hub_shared.proofs.Editing.{one_added, senders_added}
use Rattle.hub_shared.proofs.write.Locked+DbState+C+K.write_one.Goals as goal

pub overflow_sub-edits : goal.overflow_sub-edits
overflow_sub-edits g c =
    let old : Database = c.self.inside.state in
    let new : Database = c.write_one.new.self in
    let done = c.in_ok-rev.ensures in
    let within : length new.journal < 2 ^ 32 = search rules in
    let adds : Adds 1 old new =
    one_added old new c.args.doc (Ok c.in_ok-rev.rev) done.ok c.update_seq.ensures.legal within done.rest in
    let before =
    c.audit_share-before.ensures.edits.0
    ∙ ap (λ (l : LockedState Database _). length l.state.journal)
    (sym (c.self.view_is ∙ c.audit_share-before.ensures.same.0)) in
    omega (arith, before, c.update_seq.ensures.value, longer_by 1 old new adds)

pub invariant_of-self : goal.invariant_of-self
invariant_of-self g c =
    let senders = c.self.inside.subscribers.items in
    let total = g.C.Count.total c.self.inside.book in
    let Holds : Database → Type 0 = λ db.
    AreSendersOf g.K.Outbox.label g.K.Outbox.items (λ f items. IsFitting db.journal f items) (hosted_of db)
    senders
    × IsBookOf g.C.Count.counts total (length db.journal) in
    let kept = subst Holds (sym c.in_err-rev.ensures.err.0) (c.self.invariant.1, c.self.invariant.2) in
    (c.self.invariant.0, kept.0, kept.1)

pub invariant_of-self-2 : goal.invariant_of-self-2
invariant_of-self-2 g c =
    let old : Database = c.self.inside.state in
    let new : Database = c.write_one.new.self in
    let done = c.in_ok-rev.ensures in
    let within : length new.journal < 2 ^ 32 = search rules in
    let adds : Adds 1 old new =
    one_added old new c.args.doc (Ok c.in_ok-rev.rev) done.ok c.update_seq.ensures.legal within done.rest in
    let before =
    c.audit_share-before.ensures.edits.0
    ∙ ap (λ (l : LockedState Database _). length l.state.journal)
    (sym (c.self.view_is ∙ c.audit_share-before.ensures.same.0)) in
    let more =
    edits_more 1 c.audit_share-before.result c.update_seq.result old new adds before
    c.update_seq.ensures.value in
    let counted = c.add-rise.ensures in (
      c.self.invariant.0,
      senders_added g.K.Outbox.label g.K.Outbox.items 1 old new c.self.inside.subscribers.items
          adds c.self.invariant.1,
      book_added g.C.Count.counts (g.C.Count.total c.self.inside.book) (g.C.Count.total c.add-rise.new.book)
          c.add-rise.result 1 old new adds c.self.invariant.2
          (subst (λ n. c.add-rise.result ≤ n) more counted.most) (λ t. counted.counted t ∙ more)
          counted.total,
    )

pub returns-clause-edited : goal.returns-clause-edited
returns-clause-edited g c = record {
  db = c.args.self.now.state;
  found = c.audit_share-before.ensures.found;
  answered =
      subst (λ l. IsEditAnswer l.state c.args.doc (Ok c.in_ok-rev.rev))
      (c.self.view_is ∙ c.audit_share-before.ensures.same.0)
      (ap (λ (stores : Stores). stores.outcome) c.in_ok-rev.ensures.ok);
}

pub returns-in_err-rev-clause-refused : goal.returns-in_err-rev-clause-refused
returns-in_err-rev-clause-refused g c =
    let e = c.in_err-rev.field-0.0 in
    let same : c.from_residual.result ≡ Err e = search rules in
    let h : HandleState =
    record { parts = g.C.Count.parts c.args.share.now; count = g.C.Count.amount c.args.share.now } in
    subst (λ r. IfErr r (λ e. IsEditedBy g.C.Count.counts g.C.Count.all_parts h c.args.doc (Err e)))
    (sym same)
    (record {
      db = c.args.self.now.state;
      found = c.audit_share-before.ensures.found;
      answered =
          subst (λ l. IsEditAnswer l.state c.args.doc (Err e))
          (c.self.view_is ∙ c.audit_share-before.ensures.same.0)
          (edit_answer _ c.self.inside.state c.write_one.new.self.journal c.args.doc (Err e) tt
          c.in_err-rev.ensures.err c.in_err-rev.ensures.memory);
    })

pub returns-clause-adds : goal.returns-clause-adds
returns-clause-adds g c =
    let old : Database = c.self.inside.state in
    let new : Database = c.write_one.new.self in
    let done = c.in_ok-rev.ensures in
    let within : length new.journal < 2 ^ 32 = search rules in
    let adds : Adds 1 old new =
    one_added old new c.args.doc (Ok c.in_ok-rev.rev) done.ok c.update_seq.ensures.legal within done.rest in
    subst (λ (l : LockedState Database _).
    Adds 1 c.args.self.now.state l.state × (l ≡ record c.args.self.now { state = l.state }))
    (sym c.tell.ensures)
    (subst (λ (l : LockedState Database _).
    Adds 1 l.state new
    × (record { state = new; senders = c.self.inside.subscribers.items; lane = c.self.inside.lane }
    ≡ record l { state = new }))
    (c.self.view_is ∙ c.audit_share-before.ensures.same.0) (adds, refl))

pub returns-clause-risen : goal.returns-clause-risen
returns-clause-risen g c =
    let old : Database = c.self.inside.state in
    let new : Database = c.write_one.new.self in
    let done = c.in_ok-rev.ensures in
    let within : length new.journal < 2 ^ 32 = search rules in
    let adds : Adds 1 old new =
    one_added old new c.args.doc (Ok c.in_ok-rev.rev) done.ok c.update_seq.ensures.legal within done.rest in
    let kept = sym (c.self.view_is ∙ c.audit_share-before.ensures.same.0) in
    let before =
    c.audit_share-before.ensures.edits.0 ∙ ap (λ (l : LockedState Database _). length l.state.journal) kept in
    let more =
    edits_more 1 c.audit_share-before.result c.update_seq.result old new adds before
    c.update_seq.ensures.value in
    let most = subst (λ n. c.add-rise.result ≤ n) more c.add-rise.ensures.most in
    let amount = g.C.Count.amount c.args.share.now in
    let bound : amount ≤ length old.journal =
    subst (λ l. amount ≤ length l.state.journal) kept c.audit_share-before.ensures.found.counted in
    let raised : g.C.Count.amount c.add-rise.new.share ≡ amount + c.add-rise.result =
    subst (λ n. g.C.Count.amount c.add-rise.new.share ≡ n + c.add-rise.result)
    c.audit_share-before.ensures.same.1 c.add-rise.ensures.amount in record {
      raised = raised;
      counted = λ t. c.add-rise.ensures.counted t ∙ more;
      within =
          amount_within amount (g.C.Count.amount c.add-rise.new.share) c.add-rise.result 1 old new adds bound
          most raised;
      parts = c.add-rise.ensures.parts ∙ c.audit_share-before.ensures.same.2;
    }
