-- The text of a body is the text of an object.
use Rattle.std.proofs.Common.{◌≡◌, ℕ, suc, ◌-◌, Bool, true, false, List, [], ◌∷◌, ◌++◌, length}
use Rattle.std.proofs.Common.{refl, sym, ap, ◌∙◌, subst, arith, append_assoc}
use Rattle.std.proofs.lemmas.List.{length-append}
use Rattle.json.specs.Print.{quoted}
use Rattle.serde_json.specs.Data.{Members, no_members, member}
use Rattle.serde_json.specs.Written.{comma_if, compact_text, members_text}
use lib.Seq.{take-append_seam}
use Rattle.hub_document.specs.BodyText.{body_text, plain}
use Rattle.hub_document.specs.Braced.{IsBraced}

braced : (m : List ℕ) → IsBraced (123 ∷ (m ++ 125 ∷ []))
braced m =
    let size : length (123 ∷ (m ++ 125 ∷ [])) - 1 ≡ suc (length m) =
    omega (arith, length-append m (125 ∷ [])) in
    record {
      some = omega (arith, length-append m (125 ∷ []));
      opened = refl;
      closed = rw size (ap (λ l. 123 ∷ (l ++ 125 ∷ [])) (take-append_seam m (125 ∷ [])));
    }

-- the text of members ends with a brace
members_closed : (later : Bool) (ms : Members) → (m : List ℕ) × (members_text later ms ≡ m ++ 125 ∷ [])
members_closed later no_members = ([], refl)
members_closed later (member k d ms) =
    let rest = members_closed true ms in (
      comma_if later ++ (quoted k ++ 58 ∷ (compact_text d ++ rest.0)),
      ap (λ l. comma_if later ++ (quoted k ++ 58 ∷ (compact_text d ++ l))) rest.1
          ∙ sym (simp append_assoc),
    )

pub body_braced : (ms : Members) (text : List ℕ) → text ≡ body_text ms → IsBraced text
body_braced ms text is =
    let whole = members_closed false (plain ms) in
    subst IsBraced (sym (is ∙ ap (λ l. 123 ∷ l) whole.1)) (braced whole.0)
