-- The answer to one request.
use Rattle.std.proofs.Common.{◌≡◌, ℕ, List, [], Bool, true, false, Option, Some}
use Rattle.std.proofs.Common.{refl, sym, ap, subst, ◌∙◌, append_assoc, append-nil}
use Rattle.std.specs.Io.KnownBytes.{Appends}
use Rattle.hub_http.specs.Counts.{AppendsFront, Sends}
use Rattle.hub_http.proofs.SendLemmas.{front_of_more, sends_after}
use Rattle.hub_http.specs.declared.reply.Reply.{Reply}
use Rattle.hub_http.specs.Chunks.{text_chunks}
use Rattle.hub_http.specs.Items.{feed_head}
use Rattle.hub_http.specs.Texts.{head_text, chunked_line, reply_text}
use Rattle.hub_http.specs.Stream.{PlainRequest}
use Rattle.hub_model.specs.declared.feeds.Mode.{Mode}
use Rattle.hub_session.specs.declared.service.Answer.TheVariants.{Whole, Stream}
use Rattle.hub_session.specs.declared.closing.StreamEnd.{StreamEnd}
use Rattle.hub_session.specs.declared.closing.StreamEnd.TheVariants as stream
use Rattle.hub_session.specs.declared.closing.Closing.{Closing}
use Rattle.hub_session.specs.declared.closing.Closing.TheVariants.{Broken}
use Rattle.hub_session.specs.Feeds.{IsFed, items_text, is_broken}
use Rattle.hub_session.specs.Sessions.{Goes, HasAnswer, is_write_failure, after_answer}
use Rattle.hub_session.specs.Sessions.{after_stream, after_whole, is_head, stream_head}
use Rattle.hub_session.specs.Rules.{Rules, Moment, moment}

pub breaks-after_answer : (close : Bool) → is_write_failure (after_answer close) ≡ false
breaks-after_answer false = refl
breaks-after_answer true = refl

pub breaks-after_stream : (close : Bool) (end : StreamEnd) → is_write_failure (after_stream close end) ≡ is_broken end
breaks-after_stream close stream.Complete = breaks-after_answer close
breaks-after_stream close stream.Stopped = refl
breaks-after_stream close stream.NoMemory = refl
breaks-after_stream close stream.Broken = refl
breaks-after_stream close stream.Exhausted = refl

-- a session that closes as Broken after a stream had a stream that ended as Broken
pub broken_stream : (close : Bool) (end : StreamEnd) → after_stream close end ≡ Some Broken
    → end ≡ stream.Broken
broken_stream false stream.Complete e = cc
broken_stream true stream.Complete e = cc
broken_stream close stream.Stopped e = cc
broken_stream close stream.NoMemory e = cc
broken_stream close stream.Broken e = refl
broken_stream close stream.Exhausted e = cc

-- the service answered, and is at mid
module _ {S : Type 0} (rules : Rules S) (asked : PlainRequest) (before : Moment S) (mid : S) where
  pub told_whole : (reply : Reply) (head_only : Bool) (next : Option Closing) (new : Option (List ℕ))
      → rules.answers before.service asked (Whole reply) mid
      → head_only ≡ is_head asked → next ≡ after_answer asked.close
      → Appends before.written new (reply_text reply head_only asked.close)
      → HasAnswer rules asked next before (moment mid new)
  told_whole reply head_only next new a h e sent = record {
    exchange = record { asked = asked; answer = Whole reply; items = [] };
    asked_is = refl;
    goes = record { mid = mid; answered = a; goes = Goes.whole reply refl refl refl e };
    written =
        subst (λ b. Sends b before.written new (reply_text reply (is_head asked) asked.close))
        (sym (ap is_write_failure e ∙ breaks-after_answer asked.close))
        (subst (λ b. Appends before.written new (reply_text reply b asked.close)) h sent);
  }

  pub whole_broken : (reply : Reply) (head_only : Bool) (new : Option (List ℕ))
      → rules.answers before.service asked (Whole reply) mid
      → head_only ≡ is_head asked → AppendsFront before.written new (reply_text reply head_only asked.close)
      → HasAnswer rules asked (Some Broken) before (moment mid new)
  whole_broken reply head_only new a h sent = record {
    exchange = record { asked = asked; answer = Whole reply; items = [] };
    asked_is = refl;
    goes = record { mid = mid; answered = a; goes = Goes.whole_broken reply refl refl refl refl };
    written = subst (λ b. AppendsFront before.written new (reply_text reply b asked.close)) h sent;
  }

  -- a whole answer was sent, or the writing broke
  pub told_sent : (broken : Bool) (reply : Reply) (head_only : Bool) (next : Option Closing)
      (new : Option (List ℕ))
      → rules.answers before.service asked (Whole reply) mid
      → head_only ≡ is_head asked → next ≡ after_whole broken asked.close
      → Sends broken before.written new (reply_text reply head_only asked.close)
      → HasAnswer rules asked next before (moment mid new)
  told_sent false reply head_only next new a h e sent = told_whole reply head_only next new a h e sent
  told_sent true reply head_only next new a h e sent =
      subst (λ n. HasAnswer rules asked n before (moment mid new)) (sym e)
      (whole_broken reply head_only new a h sent)

  pub bare_broken : (mode : Mode) (life : ℕ) (after : Moment S)
      → rules.answers before.service asked (Stream mode life) mid → rules.drops mid after.service
      → AppendsFront before.written after.written (head_text 200 chunked_line asked.close)
      → HasAnswer rules asked (Some Broken) before after
  bare_broken mode life after a d p = record {
    exchange = record { asked = asked; answer = Stream mode life; items = [] };
    asked_is = refl;
    goes = record { mid = mid; answered = a; goes = Goes.head_broken mode life refl refl d refl };
    written = front_of_more before.written after.written (head_text 200 chunked_line asked.close) _ p;
  }

  pub stream_broken : (mode : Mode) (life : ℕ) (after : Moment S)
      → rules.answers before.service asked (Stream mode life) mid → rules.drops mid after.service
      → is_head asked ≡ false → AppendsFront before.written after.written (stream_head asked.close mode)
      → HasAnswer rules asked (Some Broken) before after
  stream_broken mode life after a d h p = record {
    exchange = record { asked = asked; answer = Stream mode life; items = [] };
    asked_is = refl;
    goes = record { mid = mid; answered = a; goes = Goes.head_broken mode life refl refl d refl };
    written =
        rw h
        (subst (AppendsFront before.written after.written)
        (append_assoc (head_text 200 chunked_line asked.close) (text_chunks (feed_head mode)) [])
        (front_of_more before.written after.written (stream_head asked.close mode) [] p));
  }

  pub stream_bare : (mode : Mode) (life : ℕ) (next : Option Closing) (after : Moment S)
      → rules.answers before.service asked (Stream mode life) mid → rules.drops mid after.service
      → is_head asked ≡ true → next ≡ after_answer asked.close
      → Appends before.written after.written (head_text 200 chunked_line asked.close)
      → HasAnswer rules asked next before after
  stream_bare mode life next after a d h e p = record {
    exchange = record { asked = asked; answer = Stream mode life; items = [] };
    asked_is = refl;
    goes = record { mid = mid; answered = a; goes = Goes.head_alone mode life refl h refl d e };
    written =
        rw (e, breaks-after_answer asked.close, h)
        (subst (Appends before.written after.written)
        (sym (append-nil (head_text 200 chunked_line asked.close))) p);
  }

  -- the head of a stream was sent alone, or the writing broke
  pub bare_sent : (broken : Bool) (mode : Mode) (life : ℕ) (next : Option Closing) (after : Moment S)
      → rules.answers before.service asked (Stream mode life) mid → rules.drops mid after.service
      → is_head asked ≡ true → next ≡ after_whole broken asked.close
      → Sends broken before.written after.written (head_text 200 chunked_line asked.close)
      → HasAnswer rules asked next before after
  bare_sent false mode life next after a d h e p = stream_bare mode life next after a d h e p
  bare_sent true mode life next after a d h e p =
      subst (λ n. HasAnswer rules asked n before after) (sym e) (bare_broken mode life after a d p)

  pub stream_fed : (mode : Mode) (life : ℕ) (next : Option Closing) (end : StreamEnd)
      (sent : Option (List ℕ)) (after : Moment S)
      → rules.answers before.service asked (Stream mode life) mid
      → is_head asked ≡ false → next ≡ after_stream asked.close end
      → Appends before.written sent (stream_head asked.close mode)
      → IsFed rules (items_text mode life 0) end (moment mid sent) after
      → HasAnswer rules asked next before after
  stream_fed mode life next end sent after a h e p f = record {
    exchange = record { asked = asked; answer = Stream mode life; items = f.items };
    asked_is = refl;
    goes = record { mid = mid; answered = a; goes = Goes.stream_sent mode life end refl h f.streams e };
    written = rw (e, breaks-after_stream asked.close end, h)
        (subst (Sends (is_broken end) before.written after.written)
        (append_assoc (head_text 200 chunked_line asked.close) (text_chunks (feed_head mode))
        (items_text mode life 0 f.items))
        (sends_after (is_broken end) before.written sent after.written (stream_head asked.close mode)
        (items_text mode life 0 f.items) p f.written));
  }
