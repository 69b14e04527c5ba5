use Rattle.std.proofs.Common.{◌++◌, ◌∷◌, [], ◌∙◌, ap, sym, subst, map}
use Rattle.hub_model.specs.Path.{IsPath}
use Rattle.std.specs.Prelude.{Some}
use Rattle.hex.specs.Hex.{encode_lower}
use Rattle.hub_model.specs.Revision.{Revision}
use Rattle.hub_revtree.specs.Extend.{line_to}
use Rattle.hub_revtree.proofs.RunLemmas.{digests_whole}
use Rattle.hub_revtree.proofs.tree.RevTree.digests_on.Goals as goal

pub from_digests-requires : goal.from_digests-requires
from_digests-requires c =
    let line = line_to c.args.self.now.edits (Some c.args.older.now) in
    let hashes = map (λ (revision : Revision). revision.hash) line in
    subst IsPath
    (sym (digests_whole c.args.rev.now line c.generation.result c.append_digests.new.digests.items
    c.requires.falls c.generation.ensures.value
    (rw c.branches-branches.ensures.edits at (c.in_ok-append_digests.ensures c.if-not-branch.false)
    ∙ ap (λ z. map encode_lower z ++ hashes)
    (c.in_ok-push.ensures.items ∙ ap (λ z. z ++ c.digest.result ∷ []) c.in_ok-digests.ensures.items)
    ∙ ap (λ z. z ∷ hashes) (sym c.digest.ensures)))) c.requires.falls

pub returns : goal.returns
returns c =
    let line = line_to c.args.self.now.edits (Some c.args.older.now) in
    let hashes = map (λ (revision : Revision). revision.hash) line in
    c.from_digests.ensures
    ∙ digests_whole c.args.rev.now line c.generation.result c.append_digests.new.digests.items
    c.requires.falls c.generation.ensures.value
    (rw c.branches-branches.ensures.edits at (c.in_ok-append_digests.ensures c.if-not-branch.false)
    ∙ ap (λ z. map encode_lower z ++ hashes)
    (c.in_ok-push.ensures.items ∙ ap (λ z. z ++ c.digest.result ∷ []) c.in_ok-digests.ensures.items)
    ∙ ap (λ z. z ∷ hashes) (sym c.digest.ensures))
