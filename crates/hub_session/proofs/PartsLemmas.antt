-- The text of an answer that is written in parts.
use Rattle.std.proofs.Common.{◌≡◌, ℕ, zero, suc, ◌+◌, ◌<◌, Bool, true, false, List, [], ◌∷◌}
use Rattle.std.proofs.Common.{◌++◌, length, take, drop, get_or, refl, sym, subst, ap, ◌∙◌}
use Rattle.std.proofs.Common.{append_assoc, append-nil, length-append, take-append-drop, arith}
use Rattle.std.specs.Prelude.{Option, codes, decimal, if◌then◌else◌}
use Rattle.std.specs.Borrow.{Bor}
use Rattle.std.proofs.lemmas.Grind.{flat_map-append}
use Rattle.std.specs.Io.KnownBytes.{Appends}
use Rattle.hub_http.specs.Counts.{AppendsFront, Sends}
use Rattle.hub_http.specs.Refusals.{error_of, reason_of}
use Rattle.hub_http.specs.Statuses.{reason_phrase}
use Rattle.hub_http.specs.Texts.{close_line, head_end, head_text, length_line}
use Rattle.hub_http.specs.Texts.{refusal_body, reply_text, status_line, type_line}
use Rattle.hub_http.specs.declared.refusal.Refusal.{Refusal}
use Rattle.hub_http.specs.declared.reply.Reply.{Reply}
use Rattle.hub_http.specs.declared.reply.Reply.TheVariants.{Done, Refused}
use Rattle.hub_http.proofs.SendLemmas.{front_after, front_of_more, sends_after}
use Rattle.hub_session.specs.Replies.{body_in, parts_text, status_in}

-- the text of one more part
next_part : (parts : List (Bor (List ℕ))) (n : ℕ) (none : Bor (List ℕ)) → n < length parts
    → parts_text (take (suc n) parts) ≡ parts_text (take n parts) ++ (get_or parts n none).now
next_part [] n none low = absurd (omega (arith, low))
next_part (p ∷ ps) zero none low = append-nil p.now
next_part (p ∷ ps) (suc n) none low =
    ap (λ l. p.now ++ l) (next_part ps n none (omega (arith, low)))
    ∙ sym (append_assoc p.now (parts_text (take n ps)) (get_or ps n none).now)

one_more : (parts : List (Bor (List ℕ))) (n : ℕ) (none : Bor (List ℕ)) → n < length parts
    → parts_text (take (n + 1) parts) ≡ parts_text (take n parts) ++ (get_or parts n none).now
one_more parts n none low =
    let suc_is : n + 1 ≡ suc n = omega arith in
    ap (λ m. parts_text (take m parts)) suc_is ∙ next_part parts n none low

-- some first parts were written, and then a front of the next one
pub front_of_parts : (a b c : Option (List ℕ)) (parts : List (Bor (List ℕ))) (n : ℕ) (none : Bor (List ℕ))
    → n < length parts
    → Appends a b (parts_text (take n parts)) → AppendsFront b c (get_or parts n none).now
    → AppendsFront a c (parts_text parts)
front_of_parts a b c parts n none low written front =
    let begun =
    subst (AppendsFront a c) (sym (one_more parts n none low))
    (front_after a b c (parts_text (take n parts)) (get_or parts n none).now written front) in
    subst (AppendsFront a c)
    (sym (flat_map-append (λ (p : Bor (List ℕ)). p.now) (take (n + 1) parts) (drop (n + 1) parts))
    ∙ ap parts_text (take-append-drop (n + 1) parts))
    (front_of_more a c (parts_text (take (n + 1) parts)) (parts_text (drop (n + 1) parts)) begun)

-- a text that broke was sent as a front
pub broken_sends : (broken : Bool) (a b : Option (List ℕ)) (bytes : List ℕ) → broken ≡ true
    → AppendsFront a b bytes → Sends broken a b bytes
broken_sends true a b bytes is front = front
broken_sends false a b bytes is front = cc

-- the parts of a refusal's body
pub refusal_parts : (e r : List ℕ) (refusal : Refusal) → e ≡ error_of refusal → r ≡ reason_of refusal
    → codes "{\"error\":\"" ++ (e ++ (codes "\",\"reason\":\"" ++ (r ++ codes "\"}\n")))
    ≡ refusal_body refusal
unfolding refusal_body
refusal_parts e r refusal p q =
    ap (λ l. codes "{\"error\":\"" ++ (l ++ (codes "\",\"reason\":\"" ++ (r ++ codes "\"}\n")))) p
    ∙ ap (λ l.
    codes "{\"error\":\"" ++ (error_of refusal ++ (codes "\",\"reason\":\"" ++ (l ++ codes "\"}\n")))) q

-- the length of a refusal's body
pub refusal_length : (refusal : Refusal)
    → 25 + length (error_of refusal) + length (reason_of refusal) ≡ length (refusal_body refusal)
unfolding refusal_body
refusal_length refusal =
    omega (
      arith,
      length-append (error_of refusal) (codes "\",\"reason\":\"" ++ (reason_of refusal ++ codes "\"}\n")),
      length-append (reason_of refusal) (codes "\"}\n"),
    )

-- the lines of a head
head_lines : (status len : ℕ) (close : Bool) (number phrase size line : List ℕ) → number ≡ decimal status
    → phrase ≡ reason_phrase status
    → size ≡ decimal len → line ≡ close_line close
    → codes "HTTP/1.1 "
    ++ (number ++ (codes " " ++ (phrase ++ (codes "\r\n" ++ (codes "Content-Type: application/json\r\n"
    ++ (codes "Content-Length: " ++ (size ++ (codes "\r\n" ++ (line ++ codes "\r\n")))))))))
    ≡ head_text status (length_line len) close
unfolding head_text status_line length_line type_line
head_lines status len close number phrase size line n p s l =
    let ending = line ++ codes "\r\n" in
    let framing = codes "Content-Length: " ++ (size ++ codes "\r\n") in
    let behind = codes "Content-Type: application/json\r\n" ++ (framing ++ ending) in
    let of_framing : codes "Content-Length: " ++ (size ++ (codes "\r\n" ++ ending)) ≡ framing ++ ending =
    ap (λ x. codes "Content-Length: " ++ x) (sym (append_assoc size (codes "\r\n") ending)) in
    let of_phrase : phrase ++ (codes "\r\n" ++ behind) ≡ (phrase ++ codes "\r\n") ++ behind =
    sym (append_assoc phrase (codes "\r\n") behind) in
    let of_number : number ++ (codes " " ++ ((phrase ++ codes "\r\n") ++ behind))
    ≡ (number ++ (codes " " ++ (phrase ++ codes "\r\n"))) ++ behind =
    sym (append_assoc number (codes " " ++ (phrase ++ codes "\r\n")) behind) in
    ap (λ x. codes "HTTP/1.1 "
    ++ (number ++ (codes " " ++ (phrase ++ (codes "\r\n" ++ (codes "Content-Type: application/json\r\n"
    ++ x)))))) of_framing
    ∙ ap (λ x. codes "HTTP/1.1 " ++ (number ++ (codes " " ++ x))) of_phrase
    ∙ ap (λ x. codes "HTTP/1.1 " ++ x) of_number
    ∙ ap (λ x. (codes "HTTP/1.1 " ++ (x ++ (codes " " ++ (phrase ++ codes "\r\n")))) ++ behind) n
    ∙ ap (λ x. (codes "HTTP/1.1 " ++ (decimal status ++ (codes " " ++ (x ++ codes "\r\n")))) ++ behind) p
    ∙ ap (λ x. status_line status (reason_phrase status)
    ++ (type_line ++ ((codes "Content-Length: " ++ (x ++ codes "\r\n")) ++ ending))) s
    ∙ ap (λ x. status_line status (reason_phrase status)
    ++ (type_line ++ (length_line len ++ (x ++ codes "\r\n")))) l

-- the parts of a head
pub head_parts : (status len : ℕ) (close : Bool) (number phrase size end : List ℕ) → number ≡ decimal status
    → phrase ≡ reason_phrase status
    → size ≡ decimal len → end ≡ head_end close
    → codes "HTTP/1.1 "
    ++ (number ++ (codes " " ++ (phrase ++ (codes "\r\nContent-Type: application/json\r\nContent-Length: "
    ++ (size ++ (end ++ []))))))
    ≡ head_text status (length_line len) close
head_parts status len close number phrase size end n p s e =
    ap (λ x. codes "HTTP/1.1 "
    ++ (number ++ (codes " " ++ (phrase ++ (codes "\r\nContent-Type: application/json\r\nContent-Length: "
    ++ (size ++ x)))))) (append-nil end ∙ e)
    ∙ head_lines status len close number phrase size (close_line close) n p s refl

-- a head and a body are the answer
pub whole_reply : (reply : Reply) (head_only : Bool) (close : Bool)
    → head_text (status_in reply) (length_line (length (body_in reply))) close
    ++ (if head_only then [] else body_in reply)
    ≡ reply_text reply head_only close
whole_reply (Done status body) head_only close = refl
whole_reply (Refused refusal) head_only close = refl

-- the text of an answer, by its head and its body
module _ (reply : Reply) (head_only close : Bool) (a b : Option (List ℕ)) where
  pub broken_head :
      AppendsFront a b (head_text (status_in reply) (length_line (length (body_in reply))) close)
      → AppendsFront a b (reply_text reply head_only close)
  broken_head front = subst (AppendsFront a b) (whole_reply reply head_only close)
      (front_of_more a b _ (if head_only then [] else body_in reply) front)

  -- the head was written
  module _ (h : Appends a b (head_text (status_in reply) (length_line (length (body_in reply))) close))
      (c : Option (List ℕ)) where
    pub sent_alone : (broken : Bool) → head_only ≡ true → Sends broken b c []
        → Sends broken a c (reply_text reply head_only close)
    sent_alone broken alone sent = subst (Sends broken a c) (whole_reply reply head_only close)
        (sends_after broken a b c _ (if head_only then [] else body_in reply) h
        (subst (λ t. Sends broken b c (if t then [] else body_in reply)) (sym alone) sent))

    pub sent_whole : (broken : Bool) → head_only ≡ false → Sends broken b c (body_in reply)
        → Sends broken a c (reply_text reply head_only close)
    sent_whole broken whole sent = subst (Sends broken a c) (whole_reply reply head_only close)
        (sends_after broken a b c _ (if head_only then [] else body_in reply) h
        (subst (λ t. Sends broken b c (if t then [] else body_in reply)) (sym whole) sent))
