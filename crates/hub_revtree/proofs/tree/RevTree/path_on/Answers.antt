use Rattle.std.proofs.Common.{◌≡◌, ◌∷◌, ◌∙◌, ap, map}
use Rattle.hex.specs.Hex.{encode_lower}
use Rattle.hub_model.specs.Revision.{Revision}
use Rattle.hub_revtree.specs.Extend.{line_to}
use Rattle.hub_revtree.proofs.RunLemmas.{line_short, line_whole}
use Rattle.hub_revtree.proofs.tree.RevTree.path_on.Goals as goal

pub on-requires : goal.on-requires
on-requires c =
    let older = line_to c.args.self.now.edits c.args.older.now in
    let hashes : map encode_lower c.in-Some-2.line ≡ map (λ (revision : Revision). revision.hash) older =
    rw c.in-Some.is (rw c.in-Some-2.is at c.in_ok-line.ensures) in
    line_short c.args.rev.now older c.in-Some-2.line c.requires hashes

pub returns-in-Some-2 : goal.returns-in-Some-2
returns-in-Some-2 c =
    let older = line_to c.args.self.now.edits c.args.older.now in
    let hashes : map encode_lower c.in-Some-2.line ≡ map (λ (revision : Revision). revision.hash) older =
    rw c.in-Some.is (rw c.in-Some-2.is at c.in_ok-line.ensures) in
    c.on.ensures
    ∙ ap (λ z. c.args.rev.now ∷ z) (line_whole c.args.rev.now older c.in-Some-2.line c.requires.falls hashes)
