use Rattle.std.proofs.Common.{◌≡◌, ◌∙◌, sym, ap, subst, ℕ, Bool}
use Rattle.hub_database.specs.Database.{Database}
use Rattle.hub_feed.specs.Host.{is_beat_allowed_if_any}
use Rattle.hub_feed.specs.declared.handed.Handed.TheVariants as did
use Rattle.hub_model.specs.Entries.{entry_in}
use Rattle.hub_world.specs.Applied.{whole_reply}
use Rattle.hub_world.specs.Core.{core_of}
use Rattle.hub_world.specs.declared.event.Event.TheVariants as event
use Rattle.hub_world.specs.declared.reply.Reply.TheVariants as reply
use Rattle.hub_world.proofs.Programs.{Program, as_due, beat_full_leads, beat_leads, beat_sent, beat_world}
use Rattle.hub_world.proofs.Stepping.{Leads, beat_nothing, from_same, to_same}
use Rattle.hub_world.proofs.world.World.beat.Goals as goal

-- whether a heartbeat is due, of the state under the lock
due_is : (inside seen : Database) (number : ℕ) (told : Bool) → seen ≡ inside
    → told ≡ is_beat_allowed_if_any (entry_in number seen.feeds) → is_beat_allowed_if_any (entry_in number inside.feeds) ≡ told
due_is inside seen number told same is =
    ap (λ (db : Database). is_beat_allowed_if_any (entry_in number db.feeds)) (sym same) ∙ sym is

pub returns-then-not-beat_due : goal.returns-then-not-beat_due
returns-then-not-beat_due c =
    let old = core_of c.self.inside.locked in
    from_same old c.args.self.now c.args.self.now (event.Heartbeat c.args.feed) reply.Nothing c.self.view_is
    (to_same old old c.args.self.now (event.Heartbeat c.args.feed) reply.Nothing c.self.view_is
    (beat_nothing old c.args.feed (due_is c.self.inside.locked.state c.state.result.now c.args.feed.number
    c.beat_due.result
    c.state.ensures.state c.beat_due.ensures ∙ c.if-not-beat_due.true)))

pub invariant_of-self-in_default : goal.invariant_of-self-in_default
invariant_of-self-in_default c =
    let due =
    due_is c.self.inside.locked.state c.state.result.now c.args.feed.number c.beat_due.result
    c.state.ensures.state c.beat_due.ensures
    ∙ c.if-not-beat_due.false in
    let old = c.self.inside.locked in
    beat_world old c.beat.new.self c.args.feed c.self.invariant due
    (beat_sent old c.beat.new.self c.args.feed c.self.invariant due c.beat.result c.in_default.not-Full
    (as_due old c.beat.new.self c.args.feed c.self.invariant due c.beat.result c.beat.ensures))

pub returns-in-Full : goal.returns-in-Full
returns-in-Full c =
    let due =
    due_is c.self.inside.locked.state c.state.result.now c.args.feed.number c.beat_due.result
    c.state.ensures.state c.beat_due.ensures
    ∙ c.if-not-beat_due.false in
    let old = c.self.inside.locked in
    let full =
    beat_full_leads old c.beat.new.self c.args.feed c.self.invariant due
    (as_due old c.beat.new.self c.args.feed c.self.invariant due did.Full c.in-Full.ensures) in
    from_same (core_of old) c.args.self.now (core_of c.beat.new.self)
    (event.Heartbeat c.args.feed) reply.Full c.self.view_is
    (subst (λ (program : Program).
    Leads (core_of old) (event.Heartbeat c.args.feed) reply.Full (core_of program))
    (sym full.0) full.1)

pub returns-in_default : goal.returns-in_default
returns-in_default c =
    let due =
    due_is c.self.inside.locked.state c.state.result.now c.args.feed.number c.beat_due.result
    c.state.ensures.state c.beat_due.ensures
    ∙ c.if-not-beat_due.false in
    let old = c.self.inside.locked in
    from_same (core_of old) c.args.self.now (core_of c.beat.new.self)
    (event.Heartbeat c.args.feed) (whole_reply c.last_reply.result) c.self.view_is
    (beat_leads old c.beat.new.self c.args.feed c.self.invariant due
    (beat_sent old c.beat.new.self c.args.feed c.self.invariant due c.beat.result c.in_default.not-Full
    (as_due old c.beat.new.self c.args.feed c.self.invariant due c.beat.result c.beat.ensures))
    c.last_reply.result c.last_reply.ensures.reply c.last_reply.ensures.within)
