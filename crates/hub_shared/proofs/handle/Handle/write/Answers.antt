use Rattle.std.proofs.Common.{◌≡◌, ◌∙◌, ◌+◌, ap, length, sym, rules}
use Rattle.std.specs.Prelude.{vec_len}
use Rattle.hub_database.specs.Database.{Database}
use Rattle.hub_database.specs.Receipts.{ids_of}
use Rattle.hub_database.specs.declared.batch.Batch.{Batch}
use Rattle.hub_shared.specs.Handles.{HandleState, IsFoundBy}
use Rattle.hub_shared.specs.Stored.{StoresBatch, stored_count}
use Rattle.hub_shared.proofs.Booking.{of_share}
use Rattle.hub_shared.proofs.Writing.{receipts_count, stores_with, written_by}
use Rattle.hub_shared.proofs.handle.Handle.write.Goals as goal

pub returns-clause-written : goal.returns-clause-written
returns-clause-written g c =
    let db : Database = c.deref_mut.result.now.state in
    let new : Database = c.store.new.self.state in
    let docs = c.args.docs.items in
    let batch : StoresBatch c.args.new_edits docs db c.in_ok-batch.batch new = search rules in
    let room : c.in_ok-room.room ≡ ids_of docs = search rules in
    let edits : c.audit_share-edits.result ≡ length db.journal = c.audit_share-edits.ensures.edits.0 in
    let done =
    stores_with c.args.new_edits docs db new c.in_ok-batch.batch c.new.result c.audit_share-edits.result
    c.in_ok-room.room batch c.new.ensures.batch c.new.ensures.receipts edits room in
    let found =
    of_share (λ state. IsFoundBy g.C.Count.counts g.C.Count.all_parts state db) c.self.invariant.1
    c.self.view_is c.audit_share-edits.ensures.found in
    written_by g.C.Count.counts g.C.Count.all_parts c.args.self.now c.args.new_edits docs db new c.new.result
    found done

pub returns-clause-counted : goal.returns-clause-counted
returns-clause-counted g c =
    let db : Database = c.deref_mut.result.now.state in
    let new : Database = c.store.new.self.state in
    let docs = c.args.docs.items in
    let batch : StoresBatch c.args.new_edits docs db c.in_ok-batch.batch new = search rules in
    let room : c.in_ok-room.room ≡ ids_of docs = search rules in
    let done =
    stores_with c.args.new_edits docs db new c.in_ok-batch.batch c.new.result c.audit_share-edits.result
    c.in_ok-room.room batch c.new.ensures.batch c.new.ensures.receipts
    c.audit_share-edits.ensures.edits.0 room in
    let risen = c.in_ok-batch.ensures.risen in
    let many =
    ap (λ (b : Batch). stored_count b.replies) (sym c.new.ensures.batch)
    ∙ receipts_count c.args.new_edits docs db new c.new.result done in
    let length_of : vec_len c.new.result.receipts ≡ length c.new.result.receipts.items = search rules in (
      λ counts. ap (λ n. c.self.inside.count + n) (risen.counted counts ∙ (many ∙ sym length_of))
          ∙ ap (λ (h : HandleState). h.count + vec_len c.new.result.receipts) c.self.view_is,
      risen.parts
          ∙ (c.audit_share-edits.ensures.same.2 ∙ ap (λ (h : HandleState). h.parts) c.self.view_is),
    )
