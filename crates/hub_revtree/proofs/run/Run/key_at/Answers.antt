use Rattle.std.proofs.Common.{◌≡◌, ◌∙◌, [], ◌∷◌, ap, sym, arith, refl}
use Rattle.std.specs.Prelude.{Some}
use Rattle.hub_revtree.specs.Run.{kept_in}
use Rattle.hub_revtree.proofs.KeyLemmas.{key_there}
use Rattle.hub_revtree.proofs.RunLemmas.{digest_length, digest_read, shared_length, shared_read, texts_read}
use Rattle.hub_revtree.proofs.run.Run.key_at.Goals as goal

pub index-requires : goal.index-requires
index-requires c =
    let long =
    digest_length c.args.self.now c.in-Digests.field-0 _ (sym (ap kept_in c.in-Digests.is) ∙ c.self.view_is) in
    omega (arith, c.requires, long, c.in-Digests.digests.ok.0)

pub returns-in-One : goal.returns-in-One
returns-in-One c =
    let is = sym (ap kept_in c.in-One.is) ∙ c.self.view_is in
    let first : c.args.place ≡ 0 =
    omega (arith, c.requires, digest_length c.args.self.now c.in-One.field-0 (c.in-One.digest ∷ []) is) in
    λ r e. key_there c.args.self.now c.args.place _ r (Some c.key_of.result)
    (digest_read c.args.self.now c.in-One.field-0
    (c.in-One.digest ∷ []) is c.args.place c.in-One.digest c.requires (rw first refl)) c.key_of.ensures e

pub returns-in-Digests : goal.returns-in-Digests
returns-in-Digests c =
    let is = sym (ap kept_in c.in-Digests.is) ∙ c.self.view_is in
    λ r e. key_there c.args.self.now c.args.place _ r (Some c.key_of-in-Digests.result)
    (digest_read c.args.self.now c.in-Digests.field-0 c.in-Digests.digests.items is c.args.place
    c.index.result.now c.requires c.index.ensures)
    c.key_of-in-Digests.ensures e

pub returns-in-Texts : goal.returns-in-Texts
returns-in-Texts c =
    let is = sym (ap kept_in c.in-Texts.is) ∙ c.self.view_is in
    λ r e. key_there c.args.self.now c.args.place _ r c.key_of_rev.result
    (texts_read c.args.self.now c.in-Texts.revisions.items c.args.place c.index-in-Texts.result.now is
    c.requires c.index-in-Texts.ensures) c.key_of_rev.ensures e

pub digest_at-requires : goal.digest_at-requires
digest_at-requires c =
    let long =
    shared_length c.args.self.now c.in-Shared.field-0 c.in-Shared.field-1 c.in-Shared.digest c.in-Shared.line
    (sym (ap kept_in c.in-Shared.is) ∙ c.self.view_is) in
    omega (arith, c.requires, long)

pub returns-in-Shared : goal.returns-in-Shared
returns-in-Shared c =
    let is = sym (ap kept_in c.in-Shared.is) ∙ c.self.view_is in
    λ r e. key_there c.args.self.now c.args.place _ r (Some c.key_of-in-Shared.result)
    (shared_read c.args.self.now c.in-Shared.field-0 c.in-Shared.field-1 c.in-Shared.digest c.in-Shared.line
    is c.args.place c.digest_at.result.now c.requires c.digest_at.ensures)
    c.key_of-in-Shared.ensures e
