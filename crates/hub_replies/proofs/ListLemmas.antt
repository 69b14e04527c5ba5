-- Lists whose members have commas (44) between them.
use Rattle.std.proofs.Common.{◌≡◌, ℕ, ◌<◌, ◌≤◌, length, drop, Option, arith, List, [], ◌∷◌, ◌++◌}
use Rattle.std.proofs.Common.{Bool, true, false, codes, ap, refl, sym, ◌∙◌, append-nil}
use Rattle.std.proofs.lemmas.List.{at_drop_all}
use Rattle.std.specs.List.{join_with_byte}
use Rattle.serde_json.specs.Written.{comma_if}
use Rattle.serde_json.specs.Data.{Items, no_items, item}
use Rattle.hub_model.specs.Revision.{Revision}
use Rattle.hub_replies.specs.declared.batch.BatchReply.{BatchReply}
use Rattle.hub_replies.specs.Bodies.{revisions_text, ancestors_text}
use Rattle.hub_replies.specs.Bulk.{reply_texts}

-- the rest of a list, where `later` says that a member stands before it
abbrev pub listed : Bool → List (List ℕ) → List ℕ
listed later [] = []
listed later (x ∷ xs) = comma_if later ++ (x ++ listed true xs)

listed_joined : (x : List ℕ) (xs : List (List ℕ)) → x ++ listed true xs ≡ join_with_byte 44 (x ∷ xs)
listed_joined x [] = append-nil x
listed_joined x (y ∷ xs) = ap (λ l. x ++ (44 ∷ l)) (listed_joined y xs)

listed_all : (xs : List (List ℕ)) → listed false xs ≡ join_with_byte 44 xs
listed_all [] = refl
listed_all (x ∷ xs) = listed_joined x xs

-- the text that was written once no member is left
pub list_written : {A : Type 0} (left : List A → List (List ℕ)) (texts : List (List ℕ)) (xs : List A)
    (i : ℕ) (later : Bool) (front held : List ℕ)
    → left [] ≡ [] → front ++ listed false texts ≡ held ++ listed later (left (drop i xs)) → length xs ≤ i
    → held ≡ front ++ join_with_byte 44 texts
list_written left texts xs i later front held none so_far over =
    sym (so_far
    ∙ at_drop_all (λ ys. held ++ listed later (left ys)) xs i over
    ∙ ap (λ l. held ++ listed later l) none
    ∙ append-nil held)
    ∙ ap (λ l. front ++ l) (listed_all texts)

-- the member of the possible ancestors, where there are some
pub some_ancestors : (revs : List Revision) → 0 < length revs
    → ancestors_text revs ≡ codes ",\"possible_ancestors\":" ++ revisions_text revs
unfolding ancestors_text
some_ancestors [] h = absurd (omega (arith, h))
some_ancestors (r ∷ revs) h = refl

-- no element has an object where no replies are left
pub none_replied : (items : Items) (rs : List (Option BatchReply)) → length rs < 1 → reply_texts items rs ≡ []
none_replied no_items rs h = refl
none_replied (item d items) [] h = refl
none_replied (item d items) (maybe_reply ∷ rs) h = absurd (omega arith)
