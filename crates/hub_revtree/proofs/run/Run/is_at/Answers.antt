use Rattle.std.proofs.Common.{◌<◌, ◌^◌, ◌∙◌, ap, sym, arith, rules}
use Rattle.hub_revtree.specs.Run.{kept_in}
use Rattle.hub_revtree.proofs.RunLemmas.{digest_first, digest_length, place_low, shared_first, shared_length}
use Rattle.hub_revtree.proofs.run.Run.is_at.Goals as goal

pub overflow_cast-place : goal.overflow_cast-place
overflow_cast-place c =
    let below : c.in-Digests.newest < 2 ^ 16 = search rules in
    let low =
    place_low _ c.args.self.now c.in-Digests.newest _ (ap kept_in c.in-Digests.is) c.self.view_is
    c.self.invariant c.args.place c.requires in
    omega (arith, low, below)

pub overflow_sub-newest : goal.overflow_sub-newest
overflow_sub-newest c =
    let low =
    place_low _ c.args.self.now c.in-Digests.newest _ (ap kept_in c.in-Digests.is) c.self.view_is
    c.self.invariant c.args.place c.requires in
    omega (arith, low)

pub index-requires : goal.index-requires
index-requires c =
    let long =
    digest_length c.args.self.now c.in-Digests.newest _ (sym (ap kept_in c.in-Digests.is) ∙ c.self.view_is) in
    omega (arith, c.requires, long, c.in-Digests.digests.ok.0)

pub returns-in-Digests : goal.returns-in-Digests
returns-in-Digests c =
    c.is_of-in-Digests.ensures
    ∙ sym (digest_first c.args.self.now c.in-Digests.newest c.in-Digests.digests.items
    (sym (ap kept_in c.in-Digests.is) ∙ c.self.view_is) c.args.place c.index.result.now
    c.args.sought.now c.requires c.index.ensures)

pub overflow_cast-place-in-Shared : goal.overflow_cast-place-in-Shared
overflow_cast-place-in-Shared c =
    let below : c.in-Shared.newest < 2 ^ 16 = search rules in
    let low =
    place_low _ c.args.self.now c.in-Shared.newest _ (ap kept_in c.in-Shared.is) c.self.view_is
    c.self.invariant c.args.place c.requires in
    omega (arith, low, below)

pub overflow_sub-newest-in-Shared : goal.overflow_sub-newest-in-Shared
overflow_sub-newest-in-Shared c =
    let low =
    place_low _ c.args.self.now c.in-Shared.newest _ (ap kept_in c.in-Shared.is) c.self.view_is
    c.self.invariant c.args.place c.requires in
    omega (arith, low)

pub digest_at-requires : goal.digest_at-requires
digest_at-requires c =
    let long =
    shared_length c.args.self.now c.in-Shared.newest c.in-Shared.field-1 c.in-Shared.digest c.in-Shared.line
    (sym (ap kept_in c.in-Shared.is) ∙ c.self.view_is) in
    omega (arith, c.requires, long)

pub returns-in-Shared : goal.returns-in-Shared
returns-in-Shared c =
    c.is_of-in-Shared.ensures
    ∙ sym (shared_first c.args.self.now c.in-Shared.newest c.in-Shared.field-1
    c.in-Shared.digest c.in-Shared.line (sym (ap kept_in c.in-Shared.is) ∙ c.self.view_is) c.args.place
    c.digest_at.result.now c.args.sought.now c.requires c.digest_at.ensures)
