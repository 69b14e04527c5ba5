use Rattle.std.proofs.Common.{◌∙◌, ◌≤◌, sym, ap, subst, length}
use Rattle.std.specs.Prelude.{Some}
use Rattle.hub_world.specs.Applied.{last_reply}
use Rattle.hub_world.specs.Core.{Core}
use Rattle.hub_world.specs.Lane.{back, lane_items}
use Rattle.hub_world.proofs.Programs.{list_back, list_within, no_list, no_list_within}
use Rattle.hub_world.proofs.world.World.last_reply.Goals as goal

pub returns-in_default-clause-reply : goal.returns-in_default-clause-reply
returns-in_default-clause-reply c =
    let f = c.args.feed.number in
    sym (ap (λ (core : Core). last_reply (back f core.lanes)) (sym c.self.view_is)
    ∙ ap last_reply (no_list c.self.inside.locked f c.in_default.ensures.none))

pub returns-in_default-clause-within : goal.returns-in_default-clause-within
returns-in_default-clause-within c =
    let f = c.args.feed.number in
    subst (λ (core : Core). length (lane_items f core.lanes) ≤ core.db.limits.lane) c.self.view_is
    (no_list_within c.self.inside.locked f c.in_default.ensures.none)

pub returns-in-Some-last-clause-reply : goal.returns-in-Some-last-clause-reply
returns-in-Some-last-clause-reply c =
    let f = c.args.feed.number in
    sym (ap (λ (core : Core). last_reply (back f core.lanes)) (sym c.self.view_is)
    ∙ ap last_reply (list_back c.self.inside.locked f c.in-Some.list.now c.in-Some.ensures.found
    ∙ (c.in-Some-last.ensures.some ∙ ap Some (sym c.of.ensures))))

pub returns-in-Some-last-clause-within : goal.returns-in-Some-last-clause-within
returns-in-Some-last-clause-within c =
    let f = c.args.feed.number in
    subst (λ (core : Core). length (lane_items f core.lanes) ≤ core.db.limits.lane) c.self.view_is
    (list_within c.self.inside.locked f c.in-Some.list.now c.in-Some.ensures.found c.self.invariant
    c.last.ensures.within)

pub returns-in-None-clause-reply : goal.returns-in-None-clause-reply
returns-in-None-clause-reply c =
    let f = c.args.feed.number in
    sym (ap (λ (core : Core). last_reply (back f core.lanes)) (sym c.self.view_is)
    ∙ ap last_reply (list_back c.self.inside.locked f c.in-Some.list.now c.in-Some.ensures.found
    ∙ c.in-None.ensures.none))

pub returns-in-None-clause-within : goal.returns-in-None-clause-within
returns-in-None-clause-within c =
    let f = c.args.feed.number in
    subst (λ (core : Core). length (lane_items f core.lanes) ≤ core.db.limits.lane) c.self.view_is
    (list_within c.self.inside.locked f c.in-Some.list.now c.in-Some.ensures.found c.self.invariant
    c.last.ensures.within)
