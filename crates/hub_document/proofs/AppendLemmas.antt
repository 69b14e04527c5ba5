-- Appends to a buffer.
use Rattle.std.proofs.Common.{◌≡◌, ℕ, List, [], ◌∷◌, ◌++◌, ◌+◌, ◌<◌, Result, Ok, Err, OnOk, ap, sym, ◌∙◌, length, take, arith}
use Rattle.std.proofs.Common.{append_assoc, drop, take_all}
use Rattle.std.specs.Prelude.{IsErr, is_ok, if◌then◌else◌}
use Rattle.std.proofs.lemmas.Grind.{common_steps}
use Rattle.std.proofs.lemmas.List.{take-append-drop}
use Rattle.std.proofs.Math.ListN.{set}
use lib.Seq.{take-append_seam, take-append-add, set-append_seam}
use Rattle.hub_document.specs.Appends.{Appends}

on_ok : {E : Type 0} {P : Type 0} (result : Result (Unit {0}) E) → P → OnOk result P
on_ok (Ok u) p = p
on_ok (Err e) p = tt

-- old bytes that a text follows are the front of the new bytes
pub front_of : (text old new : List ℕ) → new ≡ old ++ text → take (length old) new ≡ old
front_of text old new e = ap (take (length old)) e ∙ take-append_seam old text

-- a text that follows the old bytes is an append
pub appended : {E : Type 0} {result : Result (Unit {0}) E} (text old new : List ℕ) → new ≡ old ++ text
    → Appends text result old new
appended {result = result} text old new e = record { ok = on_ok result e; front = front_of text old new e }

-- the front of a front is a front, where more bytes follow the old ones
pub front-front : (old mid new more : List ℕ) → mid ≡ old ++ more → take (length mid) new ≡ mid
    → take (length old) new ≡ old
front-front old mid new more e h = grind (arith, common_steps, e, h, ap length e, ap (take (length old)) h)

-- an append in two parts: the first part is there, and the last one is appended, or is out of memory
pub appended_behind : {E : Type 0} (r : Result (Unit {0}) E) (text first last old mid new : List ℕ)
    → text ≡ first ++ last → mid ≡ old ++ first → new ≡ (if is_ok r then mid ++ last else mid)
    → Appends text r old new
appended_behind (Ok u) text first last old mid new whole there now =
    appended text old new
    (now
    ∙ ap (λ l. l ++ last) there
    ∙ append_assoc old first last
    ∙ ap (λ l. old ++ l) (sym whole))
appended_behind (Err e) text first last old mid new whole there now =
    record { ok = tt; front = front_of first old new (now ∙ there) }

-- the front of a front is a front
pub front_by : (old mid new : List ℕ) → take (length old) mid ≡ old → take (length mid) new ≡ mid
    → take (length old) new ≡ old
front_by old mid new first last =
    front-front old mid new (drop (length old) mid)
    (sym (take-append-drop (length old) mid) ∙ ap (λ l. l ++ drop (length old) mid) first) last

-- bytes that did not change are their own front
pub front_same : (old new : List ℕ) → new ≡ old → take (length old) new ≡ old
front_same old new e = ap (take (length old)) e ∙ take_all (length old) old (omega arith)

-- an append that is out of memory keeps the old bytes in front
pub refused : {E : Type 0} (result : Result (Unit {0}) E) (text old new : List ℕ) → IsErr result
    → take (length old) new ≡ old → Appends text result old new
refused (Ok u) text old new e h = absurd (cc)
refused (Err x) text old new e h = record { ok = tt; front = h }

-- the bytes of a vector that was lent whole, where they are as many as before
pub lent_back : (n : ℕ) (bytes rest : List ℕ) → length bytes ≡ n → take n (bytes ++ rest) ≡ bytes
lent_back n bytes rest long = ap (λ k. take k (bytes ++ rest)) (sym long) ∙ take-append_seam bytes rest

-- an appended text, written over from its byte k on
pub over_end : (old text held part bytes : List ℕ) (at k : ℕ) → held ≡ old ++ text → at ≡ length old
    → bytes ≡ take (at + k) held ++ part → bytes ≡ old ++ (take k text ++ part)
over_end old text held part bytes at k is place over =
    over
    ∙ ap (λ l. l ++ part)
    (ap (λ m. take (m + k) held) place ∙ ap (take (length old + k)) is ∙ take-append-add old text k)
    ∙ append_assoc old (take k text) part

-- an appended text, with another first byte
pub over_first : (old text held : List ℕ) (at byte : ℕ) → held ≡ old ++ text → at ≡ length old
    → 0 < length text → set held at byte ≡ old ++ byte ∷ drop 1 text
over_first old [] held at byte is place some = absurd (omega (arith, some))
over_first old (x ∷ xs) held at byte is place some =
    ap (λ h. set h at byte) is
    ∙ ap (λ m. set (old ++ x ∷ xs) m byte) place
    ∙ set-append_seam old x xs byte
