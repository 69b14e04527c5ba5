use Rattle.std.proofs.Common.{◌≡◌, ◌+◌, [], ◌∷◌, ◌++◌, map, take, take_all, sym, ap, ◌∙◌}
use Rattle.std.proofs.lemmas.List.{map-append, take_more}
use Rattle.hex.specs.Hex.{encode_lower}
use Rattle.hub_model.specs.Revision.{Revision}
use Rattle.hub_revtree.proofs.run.digests_of.Goals as goal

pub loop-rev-preserved : goal.loop-rev-preserved
loop-rev-preserved c =
    let l = c.loop-rev in
    let revs = c.args.revisions.now in
    let one = c.rev-item.result in
    let digest = c.in-Some.digest in
    let here : take (l.rev-index + 1) revs ≡ take l.rev-index revs ++ one ∷ [] =
    take_more revs l.rev-index one c.loop-rev-test.true
    ∙ ap (λ r. take l.rev-index revs ++ r ∷ []) (sym c.rev-item.is) in
    ap (map encode_lower) c.in_ok-push.ensures.items
    ∙ map-append encode_lower l.digests.items (digest ∷ [])
    ∙ ap (λ hs. hs ++ encode_lower digest ∷ []) l.invariant
    ∙ ap (λ h. map (λ (r : Revision). r.hash) (take l.rev-index revs) ++ h ∷ []) (sym c.in-Some.ensures.found)
    ∙ sym (map-append (λ (r : Revision). r.hash) (take l.rev-index revs) (one ∷ []))
    ∙ ap (map (λ (r : Revision). r.hash)) (sym here)

pub returns : goal.returns
returns c =
    c.loop-rev.invariant
    ∙ ap (map (λ (r : Revision). r.hash)) (take_all c.loop-rev.rev-index c.args.revisions.now
    c.loop-rev-test.false)
