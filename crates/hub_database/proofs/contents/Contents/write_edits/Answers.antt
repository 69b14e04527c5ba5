use Rattle.std.proofs.Common.{◌≡◌, ◌∙◌, ◌++◌, ◌∷◌, [], ap, sym, arith}
use Rattle.std.proofs.Common.{append_assoc, length, suc, subst, ◌+◌, List, false, true}
use Rattle.std.proofs.lemmas.List.{length_push}
use Rattle.hub_model.specs.Revision.{Revision}
use Rattle.hub_model.specs.declared.outcomes.Outcome.{Outcome}
use Rattle.hub_database.specs.Database.{Contents}
use Rattle.hub_database.specs.Edits.{IsBatch, stores_doc}
use Rattle.hub_database.proofs.FeedLemmas.{stopped_batch, write_grows}
use Rattle.hub_database.proofs.MergeLemmas.{stores_more}
use Rattle.hub_database.proofs.contents.Contents.write_edits.Goals as goal

pub returns-in-Err-clause-batch : goal.returns-in-Err-clause-batch
returns-in-Err-clause-batch c =
    let i = c.loop-doc.invariant in
    let J = c.args.self.now.journal in
    let limit = c.args.self.now.limits.journal in
    let failed = c.in-Err.ensures in
    let batch : IsBatch c.args.new_edits false limit J c.write.new.self.journal c.args.docs.items
    (record { replies = c.loop-doc.list.items; stopped = true }) =
    stopped_batch c.args.new_edits limit J c.loop-doc.self.journal c.write.new.self.journal c.args.docs.items
    c.loop-doc.yielded c.in-Some.doc c.next.new.self.rest.items c.loop-doc.list.items i.all
    (ap (λ ds. c.loop-doc.yielded ++ ds) (sym c.in-Some.ensures.steps.0) ∙ i.docs) i.replies
    (ap (λ (contents : Contents). contents.journal) failed.err) failed.memory in
    subst (λ (replies : List (Outcome Revision)). IsBatch c.args.new_edits false limit J
    c.write.new.self.journal c.args.docs.items (record { replies = replies; stopped = true }))
    (sym c.new.ensures) batch

pub loop-doc-preserved : goal.loop-doc-preserved
loop-doc-preserved c =
    let i = c.loop-doc.invariant in
    let step = c.in-Some.ensures.steps in
    let limits = ap (λ (contents : Contents). contents.limits) i.rest in
    let ok = rw limits at c.in-Ok.ensures.ok in
    let all =
    stores_more (stores_doc c.args.new_edits c.args.self.now.limits.journal) c.args.self.now.journal
    c.loop-doc.yielded c.in-Some.doc c.loop-doc.list.items c.loop-doc.self.journal
    c.in-Ok.outcome c.write.new.self.journal i.all ok in
    let longer : length c.push_reserved.new.self.items ≡ length c.loop-doc.list.items + 1 =
    ap length c.push_reserved.ensures.items ∙ length_push c.loop-doc.list.items c.in-Ok.outcome in
    let left : length c.loop-doc.doc-iterator.rest.items ≡ suc (length c.next.new.self.rest.items) =
    ap length step.0 in
    record {
      rest =
          c.in-Ok.ensures.rest
          ∙ ap (λ (contents : Contents). record contents { journal = c.write.new.self.journal }) i.rest;
      grown = omega (
        arith,
        i.grown,
        write_grows c.args.new_edits c.args.self.now.limits.journal c.loop-doc.self.journal c.in-Some.doc
            c.in-Ok.outcome c.write.new.self.journal ok,
      );
      all = rw (c.push_reserved.ensures.items) all;
      docs =
          append_assoc c.loop-doc.yielded (c.in-Some.doc ∷ []) c.next.new.self.rest.items
          ∙ (ap (λ ds. c.loop-doc.yielded ++ ds) (sym step.0) ∙ i.docs);
      replies = omega (arith, longer, length_push c.loop-doc.yielded c.in-Some.doc, i.replies);
      room = omega (arith, longer, left, i.room, c.push_reserved.ensures.capacity);
    }
