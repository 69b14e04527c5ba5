use Rattle.std.proofs.Common.{◌≡◌, ◌∙◌, sym, ap, subst, List, length, map, arith}
use Rattle.std.specs.Prelude.{take}
use Rattle.hub_database.specs.Database.{Database}
use Rattle.hub_database.specs.Edits.{StopsAt}
use Rattle.hub_document.specs.declared.doc.Doc.{Doc}
use Rattle.hub_world.specs.Applied.{Answers, Applies, write_of}
use Rattle.hub_world.specs.Core.{Core, core_of, held_entry}
use Rattle.hub_world.specs.Step.{whole_batch}
use Rattle.hub_world.specs.declared.reply.Reply.TheVariants as reply
use Rattle.hub_world.proofs.Programs.{kept_lists, leads_world}
use Rattle.hub_world.proofs.Stepping.{Leads, stored_leads, stored_applies, stored_may_fail, from_same}
use Rattle.hub_world.proofs.world.World.write.Goals as goal

-- the step of the write of the stored documents
leads : (c : goal.In-Ok)
    → Leads (core_of c.self.inside.locked)
    (write_of c.args.new_edits (take (length c.in-Ok.batch.replies) c.docs.inside.list.items))
    (reply.Outcomes (whole_batch c.in-Ok.batch.replies)) (core_of c.store.new.self)
leads c =
    let old = c.self.inside.locked in
    let did = c.in-Ok.ensures.batch in
    let core : core_of c.store.new.self
    ≡ record (core_of old) { db = record old.state { journal = c.store.new.self.state.journal } } =
    ap core_of c.in-Ok.ensures.adds.1
    ∙ ap (λ (db : Database). record { db = db; lanes = map held_entry old.senders }) did.adds.rest in
    subst (λ z. Leads (core_of old)
    (write_of c.args.new_edits (take (length c.in-Ok.batch.replies) c.docs.inside.list.items))
    (reply.Outcomes (whole_batch c.in-Ok.batch.replies)) z) (sym core)
    (stored_leads c.args.new_edits (core_of old)
    (take (length c.in-Ok.batch.replies) c.docs.inside.list.items)
    c.in-Ok.batch.replies c.store.new.self.state.journal did.replies)

pub invariant_of-self-2 : goal.invariant_of-self-2
invariant_of-self-2 c =
    leads_world c.self.inside.locked c.store.new.self
    (write_of c.args.new_edits (take (length c.in-Ok.batch.replies) c.docs.inside.list.items))
    (reply.Outcomes (whole_batch c.in-Ok.batch.replies)) c.self.invariant (leads c)
    (kept_lists c.self.inside.locked c.store.new.self c.self.invariant c.in-Ok.ensures.adds.1
    (ap (λ (db : Database). db.limits.lane) c.in-Ok.ensures.batch.adds.rest))

pub returns-clause-ok : goal.returns-clause-ok
returns-clause-ok c =
    let old = core_of c.self.inside.locked in
    let new = core_of c.store.new.self in
    let r = reply.Outcomes c.in-Ok.batch in
    let did = c.in-Ok.ensures.batch in
    let new_edits = c.args.new_edits in
    subst (λ (docs : List Doc). Applies c.args.self.now (write_of new_edits docs) r new
    × Answers c.args.self.now (write_of new_edits docs) r new) c.docs.view_is
    (stored_applies new_edits c.args.self.now new c.docs.inside.list.items c.in-Ok.batch
    (from_same old c.args.self.now new
    (write_of new_edits (take (length c.in-Ok.batch.replies) c.docs.inside.list.items))
    (reply.Outcomes (whole_batch c.in-Ok.batch.replies)) c.self.view_is (leads c))
    (record {
      whole = did.whole;
      stopped = did.stopped;
      stops = λ stopped. subst (λ (core : Core). StopsAt new_edits core.db.deleted new.db.journal
          (length c.in-Ok.batch.replies) c.docs.inside.list.items)
          c.self.view_is (did.stops stopped);
    }))

pub returns-in_default-clause-err : goal.returns-in_default-clause-err
returns-in_default-clause-err c =
    let err = c.in_default.ensures.err in (
      ap core_of err.1 ∙ c.self.view_is,
      stored_may_fail c.args.new_edits c.args.self.now c.args.docs
          (omega (arith, err.0.1, ap length c.docs.view_is)),
    )
