use Rattle.std.proofs.Common.{◌≡◌, ◌∙◌, ap, length, take, false, rules}
use Rattle.hub_database.specs.Edits.{docs_result}
use Rattle.hub_follower.proofs.Served.{all_stored}
use Rattle.hub_follower.proofs.db_peer.store_all.Goals as goal

pub returns-in-Ok : goal.returns-in-Ok
returns-in-Ok g c =
    let stored = c.in-Ok.ensures.stored in
    let rs = c.in-Ok.batch.replies in
    let same = c.in_ok-copies.ensures in
    let stands : c.in-Ok.batch.stopped ≡ false = search rules in (
      stored.db.journal,
      stored.db.limits.journal,
      stored.found.legal,
      all_stored stored.db.deleted stored.db.limits.journal stored.db.journal c.args.docs.now rs
          (stored.replies
          ∙ ap (λ z. (docs_result false stored.db.deleted stored.db.limits.journal
          stored.db.journal (take (length rs) z)).outcomes) same)
          (stored.whole stands ∙ ap length same),
    )
