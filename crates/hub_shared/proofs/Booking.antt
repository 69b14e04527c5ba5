-- The count in a host's book, after the feeds of the host moved and after edits came; and the knowledge that
-- a handle has by its share.
use Rattle.std.proofs.Common.{◌≡◌, ◌∙◌, ℕ, ◌+◌, ◌≤◌, List, Bool, true, false, ap, sym, subst, arith}
use Rattle.hub_model.specs.Feed.{Feed}
use Rattle.hub_feed.specs.Host.{Hosted, with_feeds}
use Rattle.hub_shared.specs.Handles.{HandleState}
use Rattle.hub_shared.specs.Locked.{IsBookOf}

-- The feeds of a host do not change how many edits it has. So a book that counted the edits of a host has
-- counted those of the same host with the feeds of `picture`.
pub book_kept : {S R : Type 0} (hosted : S → Hosted R) (with_hosted : S → Hosted R → S)
    (hosts : (s : S) (feeds : List (ℕ × Feed)) (next : ℕ)
    → hosted (with_hosted s (with_feeds (hosted s) feeds next)) ≡ with_feeds (hosted s) feeds next)
    (counts : Bool) (total : ℕ) (old new : S) (picture : Hosted R)
    → new ≡ with_hosted old (with_feeds (hosted old) picture.feeds picture.next_feed)
    → IsBookOf counts total (hosted old).length → IsBookOf counts total (hosted new).length
book_kept hosted with_hosted hosts counts total old new picture is book =
    subst (λ state. IsBookOf counts total (hosted state).length) (sym is)
    (subst (λ (host : Hosted _). IsBookOf counts total host.length)
    (sym (hosts old picture.feeds picture.next_feed)) book)

-- `more` edits came, of which the book counted all, or where there is no count some
pub book_grows : (counts : Bool) (total rise more edits : ℕ) → IsBookOf counts total edits → rise ≤ more
    → (counts ≡ true → rise ≡ more) → IsBookOf counts (total + rise) (edits + more)
book_grows counts total rise more edits book low whole =
    let within : total ≤ edits = book.0 in
    (omega arith, λ c. ap (λ n. n + rise) (book.1 c) ∙ ap (λ n. edits + n) (whole c))

-- a book that counts nothing has counted 0
pub counts_nothing : (edits : ℕ) → IsBookOf false 0 edits
counts_nothing edits = (omega arith, λ counts. absurd (cc))

-- a statement about a handle's share holds of the handle, where both counted as many edits
pub of_share : {parts amount count : ℕ} {state : HandleState} (P : HandleState → Type 0) → amount ≡ count
    → record { parts = parts; count = count } ≡ state → P (record { parts = parts; count = amount })
    → P state
of_share {parts} P counted is holds =
    subst P (ap (λ (n : ℕ). record { parts = parts; count = n }) counted ∙ is) holds
