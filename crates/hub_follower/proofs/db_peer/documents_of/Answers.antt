use Rattle.std.proofs.Common.{◌≡◌, ◌∙◌, ap, sym, subst, map, true, rules}
use Rattle.std.specs.Prelude.{All}
use Rattle.hub_database.specs.Reads.{open_rev}
use Rattle.hub_follower.specs.Views.{found_edit}
use Rattle.hub_follower.specs.Fetched.{FoundHasPath}
use Rattle.hub_follower.proofs.Served.{opened_shown, opened_paths}
use Rattle.hub_follower.proofs.db_peer.documents_of.Goals as goal

pub returns : goal.returns
returns g c =
    let asked = c.args.asked.now in
    let (db, found, gave) = c.in_ok-found.ensures.asked in
    let shown : c.in_ok-found.found.items ≡ map (open_rev db.journal asked.id true) asked.revs =
    search rules in (
      db.journal,
      found.legal,
      ap (λ z. map found_edit z) (c.new.ensures ∙ shown) ∙ opened_shown db.journal asked.id asked.revs,
    )

pub new-requires : goal.new-requires
new-requires g c =
    let asked = c.args.asked.now in
    let (db, found, gave) = c.in_ok-found.ensures.asked in
    let shown : c.in_ok-found.found.items ≡ map (open_rev db.journal asked.id true) asked.revs =
    search rules in
    subst (λ z. All FoundHasPath z) (sym shown) (opened_paths db.journal asked.id asked.revs)
