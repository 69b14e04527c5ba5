-- The reply to an edit, put together.
use Rattle.std.proofs.Common.{◌≡◌, ℕ, List, ◌++◌, ap, sym, ◌∙◌, append_assoc}
use Rattle.std.specs.Prelude.{codes}
use Rattle.json.specs.Print.{quoted}
use Rattle.hub_replies.specs.Bodies.{edit_front, edit_text}

-- the front, the text of a revision and the end are the whole reply
pub whole_edit : (id rev : List ℕ)
    → (edit_front id ++ quoted rev) ++ codes "}\n" ≡ edit_text (quoted id) rev ++ codes "\n"
unfolding edit_front edit_text
whole_edit id rev =
    let opening = codes "{\"ok\":true,\"id\":" in
    let middle = codes ",\"rev\":" in
    let whole = quoted id ++ (middle ++ (quoted rev ++ codes "}")) in
    ap (λ l. l ++ codes "}\n")
    (append_assoc opening (quoted id ++ middle) (quoted rev)
    ∙ ap (λ l. opening ++ l) (append_assoc (quoted id) middle (quoted rev)))
    ∙ append_assoc opening (quoted id ++ (middle ++ quoted rev)) (codes "}\n")
    ∙ ap (λ l. opening ++ l)
    (append_assoc (quoted id) (middle ++ quoted rev) (codes "}\n")
    ∙ ap (λ l. quoted id ++ l) (append_assoc middle (quoted rev) (codes "}\n")))
    ∙ sym (append_assoc opening whole (codes "\n")
    ∙ ap (λ l. opening ++ l)
    (append_assoc (quoted id) (middle ++ (quoted rev ++ codes "}")) (codes "\n")
    ∙ ap (λ l. quoted id ++ l)
    (append_assoc middle (quoted rev ++ codes "}") (codes "\n")
    ∙ ap (λ l. middle ++ l) (append_assoc (quoted rev) (codes "}") (codes "\n")))))
