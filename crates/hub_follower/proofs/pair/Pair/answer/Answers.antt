use Rattle.std.proofs.Common.{◌≡◌, ◌∙◌, ℕ, List, ap, sym, subst, map, length, refl, rules}
use Rattle.std.specs.Prelude.{All}
use Rattle.hub_model.specs.Missing.{RevisionsOfDoc}
use Rattle.hub_model.specs.Row.{ChangeRow}
use Rattle.hub_model.specs.Walk.{shown_edit}
use Rattle.hub_follow_model.specs.ChangesFeed.{HasChangesAnswer}
use Rattle.hub_follow_model.specs.Follower as follow
use Rattle.hub_follow_model.specs.Sequence.{seq_in}
use Rattle.hub_follow_model.specs.World as world
use Rattle.hub_follower.specs.Fetched.{FoundHasPath}
use Rattle.hub_follower.specs.Listing.{AreFirst, IsListable}
use Rattle.hub_follower.specs.Views.{call_of, found_edit}
use Rattle.hub_follower.specs.Worlds.{Pair, world_of}
use Rattle.hub_follower.proofs.Listing.{first_answered}
use Rattle.hub_follower.proofs.Served.{opened_shown, opened_paths}
use Rattle.hub_follower.proofs.pair.Pair.answer.Goals as goal

pub returns-in-Changes : goal.returns-in-Changes
returns-in-Changes c =
    let source = c.self.inside.source in
    let asked = c.in-Changes.since in
    let since = c.counted_in-since.result in
    let all = c.in_ok-rows-in-Changes in
    let first = c.first_rows.result in
    let rows = first.rows.items in
    let answer = follow.ChangesAnswer rows first.last_seq first.life in
    let listable : IsListable source since = search rules in
    let counted : since ≡ seq_in source.life asked =
    c.counted_in-since.ensures ∙ ap (λ (life : ℕ). seq_in life asked) c.life.ensures in
    let listed : HasChangesAnswer source.journal since rows first.last_seq =
    first_answered source.journal since listable.within rows first.last_seq
    (subst (λ (every : List ChangeRow). AreFirst every (length source.journal) rows first.last_seq)
    all.ensures.ok
    (subst (λ (n : ℕ). AreFirst all.rows.items n rows first.last_seq) c.update_seq-edits.ensures.value
    c.first_rows.ensures.first)) in
    let call : call_of c.args.call ≡ follow.Changes asked = search rules in
    λ sessions follower. subst (λ (z : follow.Call).
    world.IsAnswered (world_of c.args.self.now sessions follower) z answer
    (world_of c.args.self.now sessions follower)) (sym call)
    (subst (λ (pair : Pair). world.IsAnswered (world_of pair sessions follower) (follow.Changes asked) answer
    (world_of pair sessions follower)) c.self.view_is (
      subst (λ (n : ℕ). HasChangesAnswer source.journal n rows first.last_seq) counted listed,
      c.first_rows.ensures.of_life ∙ c.life-life.ensures,
      refl,
    ))

pub new-requires : goal.new-requires
new-requires c =
    subst (λ z. All FoundHasPath z) (sym c.in-Ok-open_revs.ensures.ok.1)
    (opened_paths c.self.inside.source.journal c.as_str.result.now c.in_ok-copy-in-OpenRevs.field-0)

pub returns-in-Ok-open_revs : goal.returns-in-Ok-open_revs
returns-in-Ok-open_revs c =
    let J = c.self.inside.source.journal in
    let asked = c.in-OpenRevs.asked.now in
    let revs = c.in_ok-copy-in-OpenRevs.field-0 in
    let answer = follow.OpenRevsAnswer (map found_edit c.new.result) in
    let named = c.as_str.ensures.value ∙ ap (λ (one : RevisionsOfDoc). one.id) c.asked.view_is in
    let listed = c.in_ok-copy-in-OpenRevs.ensures.value ∙ ap (λ (one : RevisionsOfDoc). one.revs) c.asked.view_is in
    let docs : map found_edit c.new.result ≡ map (shown_edit J asked.id) asked.revs =
    ap (λ found. map found_edit found) (c.new.ensures ∙ c.in-Ok-open_revs.ensures.ok.1)
    ∙ (opened_shown J c.as_str.result.now revs
    ∙ (ap (λ id. map (shown_edit J id) revs) named
    ∙ ap (λ one. map (shown_edit J asked.id) one) listed)) in
    let call : call_of c.args.call ≡ follow.OpenRevs asked.id asked.revs = search rules in
    λ sessions follower. subst (λ (z : follow.Call).
    world.IsAnswered (world_of c.args.self.now sessions follower) z answer
    (world_of c.args.self.now sessions follower)) (sym call)
    (subst (λ (pair : Pair). world.IsAnswered (world_of pair sessions follower)
    (follow.OpenRevs asked.id asked.revs) answer
    (world_of pair sessions follower)) c.self.view_is (docs, refl))
