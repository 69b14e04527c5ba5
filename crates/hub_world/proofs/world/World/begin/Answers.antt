use Rattle.std.proofs.Common.{◌∙◌, ap, sym, subst}
use Rattle.hub_world.specs.Core.{IsWorld, core_of}
use Rattle.hub_world.specs.declared.event.Event.TheVariants as event
use Rattle.hub_world.specs.declared.reply.Reply.TheVariants as reply
use Rattle.hub_world.proofs.Growing.{fails_as}
use Rattle.hub_world.proofs.Programs.{Program, begun_leads, begun_lists, leads_world}
use Rattle.hub_world.proofs.Programs.{told_deleted, told_full, told_memory}
use Rattle.hub_world.proofs.Stepping.{Leads, from_same}
use Rattle.hub_world.proofs.world.World.begin.Goals as goal
use Rattle.hub_world.proofs.world.World.begin.Goals.{in-Ok, in-Err+in-Deleted, in-Err+in-TooManyFeeds}
use Rattle.hub_world.proofs.world.World.begin.Goals.{in-Err+in-NoMemory}

pub invariant_of-self : goal.invariant_of-self
invariant_of-self c =
    let old = c.self.inside.locked in
    let new = c.begin.new.self in
    elim c.match-begin.branch [
      | in-Ok w ↦
          leads_world old new (event.Begin c.args.params) (reply.Opened w.in-Ok.opened.id) c.self.invariant
          (begun_leads old new c.args.params w.in-Ok.opened.id c.self.invariant w.in-Ok.opened.taker _
          w.in-Ok.ensures.ok)
          (begun_lists old new c.args.params w.in-Ok.opened.id c.self.invariant w.in-Ok.opened.taker _
          w.in-Ok.ensures.ok)
      | in-Err+in-Deleted w ↦ subst IsWorld (sym w.in-Err.ensures.err.0) c.self.invariant
      | in-Err+in-TooManyFeeds w ↦ subst IsWorld (sym w.in-Err.ensures.err.0) c.self.invariant
      | in-Err+in-NoMemory w ↦ subst IsWorld (sym w.in-Err.ensures.err.0) c.self.invariant
    ]

pub returns-clause-ok : goal.returns-clause-ok
returns-clause-ok c =
    let old = c.self.inside.locked in
    elim c.match-begin.branch [
      | in-Ok w ↦
          rw w.result-is
          (from_same (core_of old) c.args.self.now (core_of c.begin.new.self) (event.Begin c.args.params)
          (reply.Opened w.in-Ok.opened.id) c.self.view_is
          (begun_leads old c.begin.new.self c.args.params w.in-Ok.opened.id c.self.invariant
          w.in-Ok.opened.taker _ w.in-Ok.ensures.ok))
      | in-Err+in-Deleted w ↦
          let same = w.in-Err.ensures.err.0 in
          rw w.result-is
          (from_same (core_of old) c.args.self.now (core_of c.begin.new.self) (event.Begin c.args.params)
          reply.DatabaseDeleted c.self.view_is
          (subst (λ (program : Program). Leads (core_of old) (event.Begin c.args.params) reply.DatabaseDeleted
          (core_of program))
          (sym same) (told_deleted old c.args.params (sym w.in-Deleted.is ∙ w.in-Err.ensures.err.1))))
      | in-Err+in-TooManyFeeds w ↦
          let same = w.in-Err.ensures.err.0 in
          rw w.result-is
          (from_same (core_of old) c.args.self.now (core_of c.begin.new.self) (event.Begin c.args.params)
          reply.TooManyFeeds c.self.view_is
          (subst (λ (program : Program). Leads (core_of old) (event.Begin c.args.params) reply.TooManyFeeds
          (core_of program))
          (sym same) (told_full old c.args.params (sym w.in-TooManyFeeds.is ∙ w.in-Err.ensures.err.1))))
      | in-Err+in-NoMemory w ↦ rw w.result-is tt
    ]

pub returns-clause-err : goal.returns-clause-err
returns-clause-err c =
    let old = c.self.inside.locked in
    elim c.match-begin.branch [
      | in-Ok w ↦ rw w.result-is tt
      | in-Err+in-Deleted w ↦ rw w.result-is tt
      | in-Err+in-TooManyFeeds w ↦ rw w.result-is tt
      | in-Err+in-NoMemory w ↦
          let err = w.in-Err.ensures.err in
          rw w.result-is (
            ap core_of err.0 ∙ c.self.view_is,
            fails_as (core_of old) c.args.self.now (event.Begin c.args.params) c.self.view_is
                (told_memory old c.args.params (sym w.in-NoMemory.is ∙ err.1)),
          )
    ]
