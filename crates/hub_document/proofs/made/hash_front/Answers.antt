use Rattle.std.proofs.Common.{rules, ◌≡◌, ◌∷◌, ◌++◌, ◌∙◌, [], ap, subst, decimal}
use Rattle.md5.specs.Md5.{Holds}
use Rattle.hub_model.specs.Draft.{bool_text}
use Rattle.hub_document.proofs.WriteLemmas.{five_parts, front_revision}
use Rattle.hub_document.proofs.made.hash_front.Goals as goal

pub returns : goal.returns
returns c = λ held holds.
    let rev = c.in-Some.rev in
    let mark = bool_text c.args.deleted in
    let number : c.as_bytes.result.now ≡ decimal rev.generation = search rules in
    let hash : c.hash.result.now ≡ rev.hash = search rules in
    rw c.in-Some.is
    (subst (Holds c.update-6.new.self)
    (five_parts held (91 ∷ (mark ++ 44 ∷ 34 ∷ [])) (decimal rev.generation) (45 ∷ []) rev.hash
    (34 ∷ 44 ∷ 34 ∷ [])
    ∙ ap (λ l. held ++ l) (front_revision mark rev c.generation.ensures.good))
    (rw (← number, ← hash, ← c.opening.ensures) (c.update-6.ensures _ (c.update-5.ensures _ (c.update-4.ensures _
    (c.update-3.ensures _ (c.update-2.ensures held holds)))))))
