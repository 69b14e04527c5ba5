use Rattle.std.proofs.Common.{◌≡◌, ◌∙◌, ◌∷◌, List, ℕ, map, ap, sym, inl, inr, refl}
use Rattle.std.specs.List.{list_any}
use Rattle.std.specs.Prelude.{string_bytes}
use Rattle.std.specs.Str.{bytes_eq}
use Rattle.hub_follow_model.specs.Follower as follow
use Rattle.hub_follow_model.specs.World as world
use Rattle.hub_follower.specs.Worlds.{world_of}
use Rattle.hub_follower.proofs.Happening.{free_for, used_before}
use Rattle.hub_follower.proofs.world.FollowWorld.start.Goals as goal

pub returns-then-is_used : goal.returns-then-is_used
returns-then-is_used c =
    let id = string_bytes c.args.session_id in
    let asked : c.is_used.result ≡ list_any (bytes_eq id) c.args.self.now.sessions =
    c.is_used.ensures
    ∙ (ap (λ z. list_any (bytes_eq z) (map string_bytes c.deref.result.now)) c.as_str.ensures.value
    ∙ (ap (λ z. list_any (bytes_eq id) (map string_bytes z)) c.deref.ensures.value
    ∙ ap (λ (z : world.World). list_any (bytes_eq id) z.sessions) c.self.view_is)) in
    inr (used_before c.args.self.now id (sym asked ∙ c.if-is_used.true), refl)

pub returns : goal.returns
returns c =
    let id = string_bytes c.args.session_id in
    let now = c.args.self.now in
    let pair = c.self.inside.pair in
    let items = c.self.inside.sessions.items in
    let core = c.start.new.self in
    let asked : c.is_used.result ≡ list_any (bytes_eq id) now.sessions =
    c.is_used.ensures
    ∙ (ap (λ z. list_any (bytes_eq z) (map string_bytes c.deref.result.now)) c.as_str.ensures.value
    ∙ (ap (λ z. list_any (bytes_eq id) (map string_bytes z)) c.deref.ensures.value
    ∙ ap (λ (z : world.World). list_any (bytes_eq id) z.sessions) c.self.view_is)) in
    let free =
    sym (ap (λ (z : world.World). world.is_free z.follower) c.self.view_is)
    ∙ (sym c.is_free.ensures ∙ c.if-not-is_free.false) in
    let kept = c.in_ok-kept.ensures.ok ∙ c.as_str-2.ensures.value in
    let same =
    ap (λ z. world_of pair (map string_bytes z) core) c.in_ok-insert.ensures.items
    ∙ (ap (λ (z : List ℕ). world_of pair (z ∷ map string_bytes items) core) kept
    ∙ (ap (λ (z : follow.Follower). world_of pair (id ∷ map string_bytes items) z) c.start.ensures
    ∙ ap (λ (z : world.World). record z { sessions = id ∷ z.sessions; follower = follow.SourceStart id })
    c.self.view_is)) in
    inl (free_for now id free (sym asked ∙ c.if-is_used.false), same)
